-- Loading: the loaded tree, from linked leaves and a tree over them.
use Rattle.art_tree.proofs.Names.{LeafPtr, ◌≡◌, ◌≢◌, ◌∙◌, ℕ, ◌<◌, ◌^◌, List, [], ◌∷◌, length, map, inl, inr, refl, sym, ap, subst, arith, cases_lt, get_or_past, opaque_key, slab_key, OpaqueNodePtr, NodeArena, Nothing, SameNodes, IsLinkedList, Tree, AreLoadable, text_of_entry, IsRaised, leaf_pairs, leaf_pointer, AreLinked, HoldEntries, IsLoaded, leaf_pointers}
use Rattle.art_tree.proofs.LoadLemmas.LeafLists.{hold-kept, keys-of}
use Rattle.art_steps.proofs.SharedLemmas.KeptLists.{IsLinkedList-kept}

-- no text is too long, at any index
pub all-short : (texts : List (List ℕ)) → AreLoadable texts → (i : ℕ) → length (text_of_entry texts i) < 2 ^ 32
all-short texts l i = elim (cases_lt i (length texts)) [
  | inl within ↦ l.short i within
  | inr past ↦ let none = ap length (get_or_past texts i [] past) in omega (arith, none)
]

module _ {K V : Type 0} {P : ℕ} (text : K → List ℕ) (old middle new : NodeArena K V P) where
  pointers-of : (of : List (LeafPtr K V P)) → map (λ (pair : OpaqueNodePtr K V P × List ℕ). pair.0) (leaf_pairs text middle of) ≡ map leaf_pointer of
  pointers-of [] = refl
  pointers-of (leaf ∷ of) = ap (λ rest. leaf_pointer leaf ∷ rest) (pointers-of of)

  pub loaded : (entries : List (K × V)) (of : List (LeafPtr K V P)) (root : OpaqueNodePtr K V P) (tree : Tree (OpaqueNodePtr K V P)) → AreLinked old middle entries of → IsRaised text middle new of root tree → IsLoaded text old new entries root tree
  loaded entries of root tree l r =
      let pointers : leaf_pointers tree ≡ map leaf_pointer of = ap (map (λ (pair : OpaqueNodePtr K V P × List ℕ). pair.0)) r.in_order ∙ pointers-of of in
      record {
        is_tree = record { at_root = r.at_root; stands = r.stands; sound = r.sound };
        smallest_kinds = r.smallest_kinds;
        hold = subst (λ p. HoldEntries new p entries) (sym pointers) (hold-kept middle new r.kept (map leaf_pointer of) entries l.hold);
        is_linked = subst (IsLinkedList new) (sym (ap (map opaque_key) pointers ∙ keys-of of)) (IsLinkedList-kept middle new r.kept (map slab_key of) l.is_linked);
        adds = r.adds old l.adds;
      }

  -- what is loaded into an arena with the same nodes
  pub loaded-same : (entries : List (K × V)) (root : OpaqueNodePtr K V P) (tree : Tree (OpaqueNodePtr K V P)) → SameNodes old middle → IsLoaded text middle new entries root tree → IsLoaded text old new entries root tree
  loaded-same entries root tree same l = record {
    is_tree = l.is_tree;
    smallest_kinds = l.smallest_kinds;
    hold = l.hold;
    is_linked = l.is_linked;
    adds = record {
      kept = λ pointer was. l.adds.kept pointer (subst (λ h. h ≢ Nothing) (sym (same pointer)) was) ∙ same pointer;
      were_free = λ pointer inside. sym (same pointer) ∙ l.adds.were_free pointer inside;
      are_held = l.adds.are_held;
      no_others = λ pointer free is_held. l.adds.no_others pointer (same pointer ∙ free) is_held;
    };
  }
