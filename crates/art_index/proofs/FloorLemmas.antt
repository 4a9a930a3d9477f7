-- The last leaf that is not above a text, by the node beside it.
use Rattle.std.proofs.Common.{◌≡◌, ◌≢◌, ◌∙◌, ℕ, Bool, true, false, List, [], ◌∷◌, ◌++◌, map, All, Option, Some, None, refl, sym, ap, subst, append_assoc}
use Rattle.std.proofs.lemmas.List.Elements.{All-append, All-head, All-map, All-weaker}
use Rattle.std.specs.Option.{option_map}
use Rattle.std.specs.Ordering.{is_le}
use Rattle.std.specs.declared.cmp.Ordering.{Ordering}
use Rattle.std.specs.declared.cmp.Ordering.TheVariants.{Less, Equal, Greater}
use Rattle.art_bytes.proofs.Members.{all_right}
use Rattle.art_bytes.specs.Text.{text_order}
use Rattle.art_nodes.specs.Pointers.{slab_key}
use Rattle.art_nodes.specs.declared.pointers.OpaqueNodePtr.{OpaqueNodePtr}
use Rattle.art_arena.specs.Arena.{LeafPtr, NodeArena}
use Rattle.art_arena.specs.Ends.{IsAtEnd}
use Rattle.art_arena.specs.Links.{previous_at}
use Rattle.art_arena.specs.Trees.{Tree, leaves}
use Rattle.art_arena.specs.declared.ends.End.{End}
use Rattle.art_arena.specs.declared.ends.End.TheVariants.{First, Last}
use Rattle.art_steps.specs.Art.{IsAlone}
use Rattle.art_steps.specs.Refusals.{texts_of}
use Rattle.art_search.specs.Search.{leaf_pointer}
use Rattle.art_index.specs.Descent.{AreLow, IsBeside, IsUpTo}
use Rattle.art_index.specs.Places.{AllTextsAbove, IsFloorFound, IsPlaced, IsPrevious}
use Rattle.art_index.proofs.BranchLemmas.{all-unmapped}
use Rattle.art_index.proofs.LinkLemmas.{previous-of}
use Rattle.art_index.proofs.PlaceLemmas.{among}

above-is : (o : Ordering) → is_le o ≡ false → o ≡ Greater
above-is Less is = cc
above-is Equal is = cc
above-is Greater is = refl

not-above : (o : Ordering) → is_le o ≡ true → o ≢ Greater
not-above Less is greater = cc
not-above Equal is greater = cc
not-above Greater is greater = cc

module _ {K V : Type 0} (text : K → List ℕ) (x : List ℕ) where
  -- entries with the texts of leaves lie as these do
  entries-lie : {H : Type 0} (low : Bool) (entries : List (K × V)) (pairs : List (H × List ℕ)) → texts_of text entries ≡ map (λ leaf. leaf.1) pairs → AreLow x low pairs → All (λ entry. is_le (text_order (text entry.0) x) ≡ low) entries
  entries-lie low entries pairs same lie =
      all-unmapped (λ y. is_le (text_order y x) ≡ low) (λ entry. text entry.0) entries
      (subst (All (λ y. is_le (text_order y x) ≡ low)) (sym same) (All-map (λ y. is_le (text_order y x) ≡ low) (λ leaf. leaf.1) pairs lie))

  all-above : (entries : List (K × V)) → All (λ entry. is_le (text_order (text entry.0) x) ≡ false) entries → AllTextsAbove text x entries
  all-above entries lie = All-weaker (λ entry. is_le (text_order (text entry.0) x) ≡ false) (λ entry. text_order (text entry.0) x ≡ Greater) (λ entry is. above-is (text_order (text entry.0) x) is) entries lie

module _ {K V : Type 0} {P : ℕ} {text : K → List ℕ} {arena : NodeArena K V P} {root : OpaqueNodePtr K V P} {tree : Tree (OpaqueNodePtr K V P)} (alone : IsAlone text arena root tree) (x : List ℕ) (at : OpaqueNodePtr K V P) (leaf : LeafPtr K V P) where
  -- behind the leaves of the node: the last of them
  pub floor-last : (beside : IsBeside text arena x (leaves tree) at Last) → IsAtEnd Last (leaves beside.part.tree) (leaf_pointer leaf) → IsFloorFound text arena x (Some leaf)
  floor-last beside (y, others, is) =
      let part = beside.part in
      let here : OpaqueNodePtr K V P × List ℕ = (leaf_pointer leaf, y) in
      let split : leaves tree ≡ (part.left ++ others) ++ here ∷ part.right =
      part.is ∙ ap (λ z. part.left ++ (z ++ part.right)) is ∙ ap (λ z. part.left ++ z) (append_assoc others (here ∷ []) part.right) ∙ sym (append_assoc part.left others (here ∷ part.right)) in
      let own = among alone leaf (part.left ++ others) part.right y split in
      let side : AreLow x true (others ++ here ∷ []) = subst (AreLow x true) is beside.side in
      let last : is_le (text_order y x) ≡ true = All-head (λ leaf. is_le (text_order leaf.1 x) ≡ true) here [] (all_right (λ leaf. is_le (text_order leaf.1 x) ≡ true) others (here ∷ []) side) in
      record {
        place = own.place;
        low = not-above (text_order (text own.place.entry.0) x) (ap (λ z. is_le (text_order z x)) own.here_is ∙ last);
        above = all-above text x own.place.right (entries-lie text x false own.place.right part.right own.right_is part.after);
      }

  -- before the leaves of the node: the one before the first of them, if there is one
  pub floor-first : (beside : IsBeside text arena x (leaves tree) at First) → IsAtEnd First (leaves beside.part.tree) (leaf_pointer leaf) → (found : Option (LeafPtr K V P)) → option_map slab_key found ≡ previous_at arena (slab_key leaf) → IsFloorFound text arena x found
  floor-first beside (y, others, is) found found_is =
      let part = beside.part in
      let here : OpaqueNodePtr K V P × List ℕ = (leaf_pointer leaf, y) in
      let split : leaves tree ≡ part.left ++ here ∷ (others ++ part.right) = part.is ∙ ap (λ z. part.left ++ (z ++ part.right)) is in
      let own = among alone leaf part.left (others ++ part.right) y split in
      let side : AreLow x false (here ∷ others) = subst (AreLow x false) is beside.side in
      let after : AreLow x false (here ∷ (others ++ part.right)) = All-append (λ leaf. is_le (text_order leaf.1 x) ≡ false) (here ∷ others) part.right side part.after in
      let rest : texts_of text (own.place.entry ∷ own.place.right) ≡ map (λ leaf. leaf.1) (here ∷ (others ++ part.right)) = (λ i. own.here_is i ∷ own.right_is i) in
      by_found own.place found (previous-of alone leaf own.place found found_is)
      (entries-lie text x true own.place.left part.left own.left_is part.before)
      (all-above text x (own.place.entry ∷ own.place.right) (entries-lie text x false (own.place.entry ∷ own.place.right) (here ∷ (others ++ part.right)) rest after))
    where
      by_found : (here : IsPlaced text arena leaf) (found : Option (LeafPtr K V P)) → IsPrevious text arena here found → All (λ entry. is_le (text_order (text entry.0) x) ≡ true) here.left → AllTextsAbove text x (here.entry ∷ here.right) → IsFloorFound text arena x found
      by_found here None none before after = subst (AllTextsAbove text x) (sym (here.list ∙ ap (λ l. l ++ here.entry ∷ here.right) none)) after
      by_found here (Some previous) (there, left_is, right_is) before after =
          let Low : K × V → Type 0 = λ entry. is_le (text_order (text entry.0) x) ≡ true in
          let low = All-head Low there.entry [] (all_right Low there.left (there.entry ∷ []) (subst (All Low) left_is before)) in
          record {
            place = there;
            low = not-above (text_order (text there.entry.0) x) low;
            above = subst (AllTextsAbove text x) (sym right_is) after;
          }

-- the leaf before the end of the node's leaves at which the text is
pub floor-up-to : {K V : Type 0} {P : ℕ} {text : K → List ℕ} {arena : NodeArena K V P} {root : OpaqueNodePtr K V P} {tree : Tree (OpaqueNodePtr K V P)} (alone : IsAlone text arena root tree) (x : List ℕ) (at : OpaqueNodePtr K V P) (end : End) (beside : IsBeside text arena x (leaves tree) at end) (found : Option (LeafPtr K V P)) → IsUpTo arena end (leaves beside.part.tree) found → IsFloorFound text arena x found
floor-up-to {text = text} {arena = arena} alone x at First beside found (leaf, at_end, is_held, names) = floor-first alone x at leaf beside at_end found names
floor-up-to {text = text} {arena = arena} alone x at Last beside found (leaf, at_end, is_held, is) = subst (IsFloorFound text arena x) (sym is) (floor-last alone x at leaf beside at_end)
