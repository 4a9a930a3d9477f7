-- The list of entries where one leaf has another page.
use Rattle.std.proofs.Common.{◌≡◌, ◌≢◌, ◌∙◌, ℕ, List, ◌∷◌, ◌++◌, Contains, Option, Some, None, refl, sym, ap, subst}
use Rattle.std.specs.Option.{option_map}
use Rattle.art_bytes.proofs.Cases.{by_option}
use Rattle.art_bytes.proofs.Members.{inside_image}
use Rattle.art_nodes.specs.Leaf.{leaf_key, leaf_value, with_value}
use Rattle.art_nodes.specs.Pointers.{slab_key}
use Rattle.art_nodes.specs.declared.leaf_node.LeafNode.{LeafNode}
use Rattle.art_nodes.specs.declared.pointers.OpaqueNodePtr.{OpaqueNodePtr}
use Rattle.art_arena.proofs.TreeLaws.{list-exchanged, stands-exchanged}
use Rattle.art_arena.specs.Arena.{Changes, LeafPtr, NodeArena, HeldLeaf, Nothing, held, held_leaf}
use Rattle.art_arena.specs.Links.{leaf_at}
use Rattle.art_arena.specs.Trees.{Tree, leaves, texts}
use Rattle.art_tree.proofs.EntryLaws.{apart-there, are-entries, entry-of-member, leaf-held-in, leaf-in, list-put, text-of-entry}
use Rattle.art_steps.specs.Art.{IsAlone, IsArt}
use Rattle.art_steps.specs.Dictionary.{IsEntry, SameOtherEntries, entry_at}
use Rattle.art_tree.specs.Entries.{put_entry}
use Rattle.art_steps.specs.Refusals.{texts_of}
use Rattle.art_search.specs.Search.{leaf_pointer}
use Rattle.art_index.specs.Places.{IsPlaced, leaf_entry}
use Rattle.art_index.proofs.ChangeLemmas.{put-over}
use Rattle.art_index.proofs.LinkLemmas.{no-place}
use Rattle.art_index.proofs.PlaceLemmas.{slot-of}
use Rattle.art_bytes.proofs.TextLaws.{Ascend}
use Rattle.std.proofs.lemmas.Option.{same_Some}

module _ {K V : Type 0} {P : ℕ} (text : K → List ℕ) (old new : NodeArena K V P) (leaf : LeafPtr K V P) (node : LeafNode K V P) (at : leaf_at old (slab_key leaf) ≡ Some node) (value : V) (changes : Changes old new (leaf_pointer leaf) (HeldLeaf (with_value node value))) where
  there : held old (leaf_pointer leaf) ≡ HeldLeaf node
  there = ap held_leaf at

  module _ (root : OpaqueNodePtr K V P) (tree : Tree (OpaqueNodePtr K V P)) (alone : IsAlone text old root tree) where
    -- the tree stands on
    alone-now : IsAlone text new root tree
    alone-now = record {
      is_tree = record { at_root = alone.is_tree.at_root; stands = stands-exchanged text old new (slab_key leaf) node (with_value node value) at changes tree refl alone.is_tree.stands; sound = alone.is_tree.sound };
      smallest_kinds = alone.smallest_kinds;
      short = alone.short;
      is_linked = list-exchanged old new (slab_key leaf) node (with_value node value) at changes refl refl _ alone.is_linked;
      no_others = λ pointer is_held. alone.no_others pointer (λ none. is_held (changes.others pointer (λ same. let wrong : HeldLeaf node ≡ Nothing = sym there ∙ ap (held old) (sym same) ∙ none in absurd (cc)) ∙ none));
    }

    -- the leaf has the new entry
    entry-now : IsEntry text new (leaf_key node, value)
    entry-now =
        let inside = leaf-in text old tree alone.is_tree.stands (leaf_pointer leaf) node (alone.no_others (leaf_pointer leaf) (λ none. let wrong : HeldLeaf node ≡ Nothing = sym there ∙ none in absurd (cc))) there in
        entry-of-member text new root tree alone-now (apart-there alone-now) (leaf_pointer leaf) (text (leaf_key node)) (with_value node value) inside changes.changed

    -- each other leaf has the entry that it had
    same-there : (y : List ℕ) → y ≢ text (leaf_key node) → Contains (texts tree) y → (entry : K × V) × (entry_at text old y ≡ Some entry) × (entry_at text new y ≡ Some entry)
    same-there y differ inside =
        let (pair, member, is) = inside_image (λ leaf. leaf.1) (leaves tree) y inside in
        let (l, holds, has) = leaf-held-in text old tree alone.is_tree.stands pair.0 pair.1 member in
        let apart : pair.0 ≢ leaf_pointer leaf = λ same.
        let one : HeldLeaf l ≡ HeldLeaf node = sym holds ∙ ap (held old) same ∙ there in
        let leaf_same : l ≡ node = cc in
        differ (sym is ∙ sym has ∙ ap (λ n. text (leaf_key n)) leaf_same) in
        let before = entry-of-member text old root tree alone (apart-there alone) pair.0 pair.1 l member holds in
        let after = entry-of-member text new root tree alone-now (apart-there alone-now) pair.0 pair.1 l member (changes.others pair.0 apart ∙ holds) in
        ((leaf_key l, leaf_value l), ap (entry_at text old) (sym is) ∙ before, ap (entry_at text new) (sym is) ∙ after)

    others-same : SameOtherEntries text old new (text (leaf_key node))
    others-same y differ =
        by_option (entry_at text old y) (entry_at text new y ≡ entry_at text old y)
        (λ none. by_option (entry_at text new y) (entry_at text new y ≡ entry_at text old y) (λ gone. gone ∙ sym none)
        (λ entry some.
        let inside = text-of-entry text new root tree alone-now y (λ no. let wrong : Some entry ≡ None = sym some ∙ no in absurd (cc)) in
        let both = same-there y differ inside in
        let wrong : Some both.0 ≡ None = sym both.1 ∙ none in absurd (cc)))
        (λ entry some.
        let inside = text-of-entry text old root tree alone y (λ no. let wrong : Some entry ≡ None = sym some ∙ no in absurd (cc)) in
        let both = same-there y differ inside in
        both.2 ∙ sym both.1)

    changed-place : (here : IsPlaced text old leaf) → (now : IsPlaced text new leaf) × (now.left ≡ here.left) × (now.entry ≡ (here.entry.0, value)) × (now.right ≡ here.right)
    changed-place here =
        let same : leaf_entry node ≡ here.entry = same_Some (leaf_entry node) here.entry (sym (ap (option_map leaf_entry) at) ∙ here.holds) in
        let key_is : leaf_key node ≡ here.entry.0 = ap (λ e. e.0) same in (
          record {
            left = here.left;
            entry = (here.entry.0, value);
            right = here.right;
            holds = ap (option_map leaf_entry) (slot-of (leaf_at new (slab_key leaf)) (with_value node value) changes.changed) ∙ ap (λ k. Some (k, value)) key_is;
            list = list-put text old new (leaf_key node, value) entry-now others-same
                ∙ ap (λ l. put_entry text l (leaf_key node, value)) here.list
                ∙ put-over text here.left here.right here.entry (leaf_key node, value) (ap text key_is) (subst (λ l. Ascend (texts_of text l)) here.list (are-entries text old).ascending)
                ∙ ap (λ k. here.left ++ (k, value) ∷ here.right) key_is;
          },
          refl,
          refl,
          refl,
        )

  -- the place of a leaf whose page changed
  pub page-changed : (root : Option (OpaqueNodePtr K V P)) → IsArt text old root → (here : IsPlaced text old leaf) → (now : IsPlaced text new leaf) × (now.left ≡ here.left) × (now.entry ≡ (here.entry.0, value)) × (now.right ≡ here.right)
  page-changed None nothing here = absurd (no-place leaf here nothing)
  page-changed (Some root) (tree, alone) here = changed-place root tree alone here
