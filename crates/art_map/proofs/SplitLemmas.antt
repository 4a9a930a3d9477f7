-- The last entries of a map moved into another one, from the back.
use Rattle.std.proofs.Common.{◌≡◌, ◌∙◌, ◌≤◌, ◌^◌, ◌-◌, ℕ, Bool, true, false, not, List, [], ◌∷◌, ◌++◌, All, Some, filter, length, append_assoc, append-nil, refl, sym, ap, subst, arith}
use Rattle.std.proofs.lemmas.List.Elements.{All-nil, All-cons, All-head, All-tail, All-weaker, filter_passes}
use Rattle.std.specs.BTreeMap.{insert_entry}
use Rattle.std.specs.Prelude.{slice_get, remove}
use Rattle.std.specs.declared.cmp.Ordering.{Ordering}
use Rattle.std.specs.declared.cmp.Ordering.TheVariants.{Greater}
use Rattle.art_pages.specs.Entries.{AreKeys, IsIndexable, IsOrdered}
use Rattle.art_pages.proofs.MiddleLemmas.{insert_entry-gap}
use Rattle.art_pages.proofs.OrderLemmas.{above-first, ordered-right}
use Rattle.art_map.specs.declared.fault.InsertRefusal.{InsertRefusal}
use Rattle.art_map.specs.declared.fault.InsertRefusal.TheVariants.{KeyTooLong, OutOfMemory}
use Rattle.art_map.proofs.EndLemmas.{last-and-rest}
use Rattle.art_map.proofs.PartLemmas.{All-left, All-right}
use Rattle.art_map.proofs.WithinLemmas.{Fails, Passes}

module _ {X : Type 0} where
  -- the last item of a list
  ends-same : (a b : List X) (x y : X) → a ++ x ∷ [] ≡ b ++ y ∷ [] → x ≡ y
  ends-same [] [] x y is = cc
  ends-same [] (w ∷ []) x y is = absurd (cc)
  ends-same [] (w ∷ v ∷ b) x y is = absurd (cc)
  ends-same (w ∷ []) [] x y is = absurd (cc)
  ends-same (w ∷ v ∷ a) [] x y is = absurd (cc)
  ends-same (w ∷ a) (v ∷ b) x y is = let later : a ++ x ∷ [] ≡ b ++ y ∷ [] = cc in ends-same a b x y later

  pub last-is : (l before : List X) (last x : X) → l ≡ before ++ last ∷ [] → Some x ≡ slice_get l (length l - 1) → x ≡ last
  last-is l before last x is found =
      ends-same (remove l (length l - 1)) before x last (sym (last-and-rest l (remove l (length l - 1)) x (length l) refl (sym found) refl) ∙ is)

  pub no-last : (l before : List X) (last : X) → l ≡ before ++ last ∷ [] → l ≡ [] → ⊥
  no-last l [] last is none = absurd (cc)
  no-last l (x ∷ before) last is none = absurd (cc)

module _ {K V : Type 0} (test : K × V → Bool) where
  -- the last entry fails a test, if there is one
  abbrev pub EndFails : List (K × V) → Type 0
  EndFails entries = (before : List (K × V)) (last : K × V) → entries ≡ before ++ last ∷ [] → test last ≡ false

  end-later : (x : K × V) (entries : List (K × V)) → EndFails (x ∷ entries) → EndFails entries
  end-later x entries fails before last is = fails (x ∷ before) last (ap (λ l. x ∷ l) is)

  not-all : (x : K × V) (entries : List (K × V)) → EndFails (x ∷ entries) → All (Passes test) (x ∷ entries) → ⊥
  not-all x [] fails all = let no = fails [] x refl in let yes = All-head (Passes test) x [] all in absurd (cc)
  not-all x (y ∷ entries) fails all = not-all y entries (end-later x (y ∷ entries) fails) (All-tail (Passes test) x (y ∷ entries) all)

  -- a list is parted in one way into entries that fail a test and entries that pass it
  same-parts : (low high rest moved : List (K × V)) → All (Fails test) low → All (Passes test) high → low ++ high ≡ rest ++ moved → All (Passes test) moved → EndFails rest
      → (rest ≡ low) × (moved ≡ high)
  same-parts [] high [] moved fail pass is all fails = (refl, sym is)
  same-parts [] high (x ∷ rest) moved fail pass is all fails =
      absurd (not-all x rest fails (All-left (Passes test) (x ∷ rest) moved (subst (All (Passes test)) is pass)))
  same-parts (x ∷ low) high [] moved fail pass is all fails =
      let yes = All-head (Passes test) x (low ++ high) (subst (All (Passes test)) (sym is) all) in
      let no = All-head (Fails test) x low fail in
      absurd (cc)
  same-parts (x ∷ low) high (y ∷ rest) moved fail pass is all fails =
      let first : y ≡ x = cc in
      let later : low ++ high ≡ rest ++ moved = cc in
      let parts = same-parts low high rest moved (All-tail (Fails test) x low fail) pass later all (end-later y rest fails) in
      (λ i. first i ∷ parts.0 i, parts.1)

  module _ (cmp : K → K → Ordering) (is_key : K → Type 0) (encoded : K → List ℕ) (entries : List (K × V)) where
    -- these entries are left, and those behind them are moved, all of which pass
    pub record IsSplit (left moved : List (K × V)) : Type 0 where
      pub is : entries ≡ left ++ moved
      pub passes : All (Passes test) moved
      pub ordered : IsOrdered cmp entries
      pub keys : AreKeys is_key encoded entries

    pub none-moved : IsOrdered cmp entries → AreKeys is_key encoded entries → (moved : List (K × V)) → moved ≡ [] → IsSplit entries moved
    none-moved ordered keys moved none = record {
      is = sym (append-nil entries) ∙ ap (λ l. entries ++ l) (sym none);
      passes = subst (All (Passes test)) (sym none) (All-nil (Passes test));
      ordered = ordered;
      keys = keys;
    }

    module _ (left moved rest : List (K × V)) (entry : K × V) (split : IsSplit left moved) (last : left ≡ rest ++ entry ∷ []) where
      pub whole : entries ≡ rest ++ entry ∷ moved
      whole = split.is ∙ ap (λ l. l ++ moved) last ∙ append_assoc rest (entry ∷ []) moved

      pub one-split : test entry ≡ true → (new : List (K × V)) → new ≡ insert_entry cmp moved entry.0 entry.1 → IsSplit rest new
      one-split pass new put =
          let behind = ordered-right cmp rest (entry ∷ moved) (subst (IsOrdered cmp) whole split.ordered) in
          let first : new ≡ entry ∷ moved =
          put ∙ insert_entry-gap cmp entry.0 entry.1 [] moved (All-nil (λ (other : K × V). cmp entry.0 other.0 ≡ Greater)) (above-first cmp entry moved behind) in
          record {
            is = whole ∙ ap (λ l. rest ++ l) (sym first);
            passes = subst (All (Passes test)) (sym first) (All-cons (Passes test) entry moved pass split.passes);
            ordered = split.ordered;
            keys = split.keys;
          }

      -- what is refused is refused for memory
      pub for-memory : (refusal : InsertRefusal) → (refusal ≡ KeyTooLong → 2 ^ 32 ≤ length (encoded entry.0)) → refusal ≡ OutOfMemory
      for-memory KeyTooLong long =
          let keys = All-right (λ e. IsIndexable is_key encoded e.0) rest (entry ∷ moved) (subst (AreKeys is_key encoded) whole split.keys) in
          let near = (All-head (λ e. IsIndexable is_key encoded e.0) entry moved keys).1 in
          let far = long refl in
          absurd (omega (arith, far, near))
      for-memory OutOfMemory long = refl

    -- where the last entry that is left fails, all that pass are moved
    pub all-split : (left moved low high : List (K × V)) → IsSplit left moved → EndFails left → low ≡ filter (λ entry. not (test entry)) entries → high ≡ filter test entries
        → low ++ high ≡ entries → (left ≡ filter (λ entry. not (test entry)) entries) × (moved ≡ filter test entries)
    all-split left moved low high split fails low_is high_is parts =
        let fail : All (Fails test) low =
        subst (All (Fails test)) (sym low_is) (All-weaker (Passes (λ entry. not (test entry))) (Fails test) (λ entry. failed (test entry)) _ (filter_passes (λ entry. not (test entry)) entries)) in
        let pass : All (Passes test) high = subst (All (Passes test)) (sym high_is) (filter_passes test entries) in
        let same = same-parts low high left moved fail pass (parts ∙ split.is) split.passes fails in
        (same.0 ∙ low_is, same.1 ∙ high_is)
      where
        failed : (b : Bool) → not b ≡ true → b ≡ false
        failed true is = absurd (cc)
        failed false is = refl
