-- The entries of one map inserted into another.
use Rattle.std.proofs.Common.{◌≡◌, ◌∙◌, ◌≤◌, ◌^◌, ℕ, List, [], ◌∷◌, ◌++◌, length, append_assoc, append-nil, refl, sym, ap, subst, arith}
use Rattle.std.proofs.lemmas.List.Elements.{All-head, All-tail}
use Rattle.std.specs.BTreeMap.{insert_entry}
use Rattle.std.specs.Cmp.{IsTotalOrder}
use Rattle.std.specs.declared.cmp.Ordering.{Ordering}
use Rattle.art_pages.specs.Entries.{AreKeys, IsIndexable, IsOrdered}
use Rattle.art_pages.proofs.OrderLemmas.{below-entry}
use Rattle.art_map.specs.Inserts.{insert_all}
use Rattle.art_map.specs.declared.fault.InsertRefusal.{InsertRefusal}
use Rattle.art_map.specs.declared.fault.InsertRefusal.TheVariants.{KeyTooLong, OutOfMemory}
use Rattle.art_map.proofs.ManyLemmas.{inserted-behind, one-more}

module _ {K V : Type 0} (cmp : K → K → Ordering) where
  -- entries inserted behind those that are below them
  pub all-behind : IsTotalOrder cmp → (before entries : List (K × V)) → IsOrdered cmp (before ++ entries) → insert_all cmp before entries ≡ before ++ entries
  all-behind total before [] ordered = sym (append-nil before)
  all-behind total before (e ∷ entries) ordered =
      let whole : (before ++ e ∷ []) ++ entries ≡ before ++ e ∷ entries = append_assoc before (e ∷ []) entries in
      ap (λ l. insert_all cmp l entries) (inserted-behind cmp before e.0 e.1 (below-entry cmp total before e entries ordered))
      ∙ all-behind total (before ++ e ∷ []) entries (subst (IsOrdered cmp) (sym whole) ordered) ∙ whole

  module _ (is_key : K → Type 0) (encoded : K → List ℕ) (here there : List (K × V)) where
    -- the first entries of one map are in the other, and these are left
    abbrev pub AreMoved : List (K × V) → List (K × V) → Type 0
    AreMoved now left =
        (moved : List (K × V)) × (there ≡ moved ++ left) × (now ≡ insert_all cmp here moved) × IsOrdered cmp now × IsOrdered cmp left × AreKeys is_key encoded left

    module _ (now left rest : List (K × V)) (entry : K × V) (moved : AreMoved now left) (first : left ≡ entry ∷ rest) where
      pub one-moved : (new : List (K × V)) → new ≡ insert_entry cmp now entry.0 entry.1 → IsOrdered cmp new → IsOrdered cmp rest → AreMoved new rest
      one-moved new put ordered rest_ordered = (
        moved.0 ++ entry ∷ [],
        moved.1 ∙ ap (λ l. moved.0 ++ l) first ∙ sym (append_assoc moved.0 (entry ∷ []) rest),
        one-more cmp here moved.0 now new entry moved.2 put,
        ordered,
        rest_ordered,
        All-tail (λ e. IsIndexable is_key encoded e.0) entry rest (subst (AreKeys is_key encoded) first moved.5),
      )

      -- what is refused is refused for memory
      pub only-memory : (refusal : InsertRefusal) → (refusal ≡ KeyTooLong → 2 ^ 32 ≤ length (encoded entry.0)) → refusal ≡ OutOfMemory
      only-memory KeyTooLong long =
          let far = long refl in let near = (All-head (λ e. IsIndexable is_key encoded e.0) entry rest (subst (AreKeys is_key encoded) first moved.5)).1 in absurd (omega (arith, far, near))
      only-memory OutOfMemory long = refl
