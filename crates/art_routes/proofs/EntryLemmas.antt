-- What the leaves of a tree hold, in order.
use Rattle.art_routes.proofs.LeafNames.{All, All-cons, All-nil, AllHold, AllPairs, Contains, Contains-append_right, HoldsEntryOf, IsAlone, IsArt, IsEntry, Less, List, NodeArena, None, OpaqueNodePtr, Tree, [], ap, apart-there, are-entries, arith, ascend-there, empty-entry, entries_of, entries_under, entry-of-member, entry_at, held, key_and_value, leaf-held-in, leaf_at, leaf_place, leaves, map, no-list, one-list, opaque_key, refl, slab_keys_of, subst, sym, text-of-entry, text_order, texts_of, ℕ, ◌∙◌, ◌∷◌, ◌≡◌}
use Rattle.art_routes.proofs.ListLemmas.{slot-of}
use Rattle.art_routes.proofs.RunLemmas.{entries-cons}

module _ {K V : Type 0} {P : ℕ} (text : K → List ℕ) (arena : NodeArena K V P) where
  texts-under : (pairs : List (OpaqueNodePtr K V P × List ℕ)) → AllHold text arena pairs → texts_of text (entries_under arena (slab_keys_of pairs)) ≡ map (λ leaf. leaf.1) pairs
  texts-under [] hold = refl
  texts-under (pair ∷ pairs) hold =
      ap (texts_of text) (entries-cons arena (opaque_key pair.0) (slab_keys_of pairs) hold.0.leaf hold.0.at)
      ∙ ap (λ x. x ∷ texts_of text (entries_under arena (slab_keys_of pairs))) hold.0.has ∙ ap (λ all. pair.1 ∷ all) (texts-under pairs hold.1)

  each-under : (pairs : List (OpaqueNodePtr K V P × List ℕ)) → AllHold text arena pairs → All (IsEntry text arena) (entries_under arena (slab_keys_of pairs))
  each-under [] hold = All-nil (IsEntry text arena)
  each-under (pair ∷ pairs) hold =
      let entry = key_and_value hold.0.leaf in
      let is : IsEntry text arena entry = ap (entry_at text arena) hold.0.has ∙ hold.0.is in
      subst (All (IsEntry text arena)) (sym (entries-cons arena (opaque_key pair.0) (slab_keys_of pairs) hold.0.leaf hold.0.at)) (All-cons (IsEntry text arena) entry (entries_under arena (slab_keys_of pairs)) is (each-under pairs hold.1))

-- the leaves of a tree that is alone in its arena hold, from left to right, the list of the entries
module _ {K V : Type 0} {P : ℕ} {text : K → List ℕ} {arena : NodeArena K V P} {root : OpaqueNodePtr K V P} {tree : Tree (OpaqueNodePtr K V P)} (alone : IsAlone text arena root tree) where
  holds-one : (pointer : OpaqueNodePtr K V P) (x : List ℕ) → Contains (leaves tree) (pointer, x) → HoldsEntryOf text arena pointer x
  holds-one pointer x inside =
      let there = leaf-held-in text arena tree alone.is_tree.stands pointer x inside in
      let place = ap (held arena) (leaf_place arena pointer there.0 there.1) ∙ there.1 in
      record { leaf = there.0; there = there.1; at = slot-of (leaf_at arena (opaque_key pointer)) there.0 place; has = there.2; is = entry-of-member text arena root tree alone (apart-there alone) pointer x there.0 inside there.1 }

  hold-all : (pairs : List (OpaqueNodePtr K V P × List ℕ)) → ((pair : OpaqueNodePtr K V P × List ℕ) → Contains pairs pair → Contains (leaves tree) pair) → AllHold text arena pairs
  hold-all [] within = tt
  hold-all (pair ∷ pairs) within =
      (holds-one pair.0 pair.1 (within pair (0, omega arith, refl)), hold-all pairs (λ other inside. within other (Contains-append_right (pair ∷ []) pairs other inside)))

  pub leaves-hold : AllHold text arena (leaves tree)
  leaves-hold = hold-all (leaves tree) (λ pair inside. inside)

  pub entries-of-leaves : entries_under arena (slab_keys_of (leaves tree)) ≡ entries_of text arena
  entries-of-leaves =
      let same = texts-under text arena (leaves tree) leaves-hold in
      one-list text arena (entries_under arena (slab_keys_of (leaves tree))) (entries_of text arena) (record {
        ascending = subst (AllPairs (λ a b. text_order a b ≡ Less)) (sym same) (ascend-there alone);
        each = each-under text arena (leaves tree) leaves-hold;
        all = λ x some. subst (λ all. Contains all x) (sym same) (text-of-entry text arena root tree alone x some);
      }) (are-entries text arena)

-- an arena without a tree has no entry
pub no-entries : {K V : Type 0} {P : ℕ} (text : K → List ℕ) (arena : NodeArena K V P) → IsArt text arena None → entries_of text arena ≡ []
no-entries text arena nothing = no-list text arena (empty-entry text arena nothing)
