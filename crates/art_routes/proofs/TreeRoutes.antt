-- The routes of a table are those of the leaves of its tree.
use Rattle.std.proofs.Common.{◌≡◌, ◌↔◌, ◌∙◌, ℕ, ◌<◌, List, [], length, get_or, All, Contains, Some, None, sym, ap, subst, arith}
use Rattle.std.specs.Prelude.{map}
use Rattle.std.proofs.lemmas.Bool.{false_from_ne_true}
use Rattle.std.proofs.lemmas.List.{length-map, get_or-map}
use Rattle.std.proofs.lemmas.List.Elements.{Contains-get_or}
use Rattle.art_nodes.specs.Leaf.{leaf_key, leaf_value}
use Rattle.art_nodes.specs.declared.leaf_node.LeafNode.{LeafNode}
use Rattle.art_nodes.specs.declared.pointers.OpaqueNodePtr.{OpaqueNodePtr}
use Rattle.art_arena.specs.Arena.{NodeArena, HeldLeaf, held}
use Rattle.art_arena.specs.Trees.{Tree, leaves, texts}
use Rattle.art_steps.specs.Art.{IsAlone}
use Rattle.art_steps.specs.Dictionary.{HasEntry, HasKeys, IsEntry, entry_at}
use Rattle.art_tree.specs.Entries.{entries_of}
use Rattle.art_routes.specs.declared.address.Address.{Address}
use Rattle.art_routes.specs.Keys.{key_text}
use Rattle.art_routes.specs.Networks.{Block, IsNetwork, covers}
use Rattle.art_routes.specs.Tables.{IsLongestOver, IsShortest, NoneCovers}
use Rattle.art_routes.specs.Ways.{HasNetwork, IsLongestBelow, IsShortestBelow, IsWayTree, NoneBelow}
use Rattle.art_routes.proofs.CoverLemmas.{in-is, is-in, is-over, over-is}

-- a text of a list of leaves is that of one of them
leaf-of-text : {H : Type 0} (ls : List (H × List ℕ)) (d : H) (x : List ℕ) → Contains (map (λ l. l.1) ls) x → (pointer : H) × Contains ls (pointer, x)
leaf-of-text ls d x (k, within, at) =
    let inside : k < length ls = omega (arith, within, length-map ls (λ l. l.1)) in
    let l = get_or ls k (d, x) in
    let says : l.1 ≡ x = sym (get_or-map (λ l. l.1) ls k (d, x) x inside) ∙ at in
    (l.0, subst (λ (y : List ℕ). Contains ls (l.0, y)) says (Contains-get_or ls k (d, x) inside))

module _ {V : Type 0} {P : ℕ} (arena : NodeArena Block V P) (root : OpaqueNodePtr Block V P) (tree : Tree (OpaqueNodePtr Block V P)) (alone : IsAlone key_text arena root tree)
    (held_law : (pointer : OpaqueNodePtr Block V P) (text : List ℕ) → Contains (leaves tree) (pointer, text) → (leaf : LeafNode Block V P) × (held arena pointer ≡ HeldLeaf leaf) × (key_text (leaf_key leaf) ≡ text))
    (leaf_law : (pointer : OpaqueNodePtr Block V P) (text : List ℕ) (leaf : LeafNode Block V P) → Contains (leaves tree) (pointer, text) → held arena pointer ≡ HeldLeaf leaf → entry_at key_text arena text ≡ Some (leaf_key leaf, leaf_value leaf))
    (text_law : (text : List ℕ) → HasEntry key_text arena text ↔ Contains (texts tree) text)
    (member_law : (entry : Block × V) → Contains (entries_of key_text arena) entry ↔ IsEntry key_text arena entry)
    (keys : HasKeys key_text IsNetwork arena) (routes : List (Block × V)) (are : entries_of key_text arena ≡ routes) where
  -- the tree of a table is one of keys of networks
  pub root-way : IsWayTree arena [] root tree
  root-way = record {
    at_root = alone.is_tree.at_root;
    stands = alone.is_tree.stands;
    sound = alone.is_tree.sound;
    keys = λ l inside.
        let there = held_law l.0 l.1 inside in
        let leaf = there.0 in
        let entry : entry_at key_text arena (key_text (leaf_key leaf)) ≡ Some (leaf_key leaf, leaf_value leaf) = ap (entry_at key_text arena) there.2 ∙ leaf_law l.0 l.1 leaf inside there.1 in
        (leaf_key leaf, keys (leaf_key leaf, leaf_value leaf) entry, sym there.2);
  }

  -- a route of the table is that of a leaf
  below-tree : (route : Block × V) → Contains routes route → IsNetwork route.0 × HasNetwork tree route.0
  below-tree route listed =
      let entry = (member_law route).0 (subst (λ rs. Contains rs route) (sym are) listed) in
      let has : HasEntry key_text arena (key_text route.0) = λ none. let wrong : Some route ≡ None = sym entry ∙ none in absurd (cc) in
      (keys route entry, leaf-of-text (leaves tree) root (key_text route.0) ((text_law (key_text route.0)).0 has))

  pub networks-of-table : All (λ route. IsNetwork route.0) routes
  networks-of-table k d inside = (below-tree (get_or routes k d) (Contains-get_or routes k d inside)).0

  -- what is the longest below the root is the longest of the table
  pub longest-of-table : (target : Block) (route : Block × V) → IsLongestBelow arena tree target route → IsLongestOver routes target route
  longest-of-table target route found =
      let listed = found.listed in
      let entry : entry_at key_text arena (key_text route.0) ≡ Some (leaf_key listed.leaf, leaf_value listed.leaf) = leaf_law listed.pointer (key_text route.0) listed.leaf listed.inside listed.held_there in
      let same : (leaf_key listed.leaf, leaf_value listed.leaf) ≡ route = λ i. (listed.network i, listed.value i) in
      record {
        listed = subst (λ rs. Contains rs route) are ((member_law route).1 (entry ∙ ap Some same));
        matches = found.matches;
        longest = λ k d inside test.
            let there = below-tree (get_or routes k d) (Contains-get_or routes k d inside) in
            found.longest (get_or routes k d).0 there.0 there.1 test;
      }

  pub none-of-table : (target : Block) → NoneBelow tree target → NoneCovers routes target
  none-of-table target none k d inside = false_from_ne_true (covers (get_or routes k d).0 target) (λ test.
      let there = below-tree (get_or routes k d) (Contains-get_or routes k d inside) in
      absurd (none (get_or routes k d).0 there.0 there.1 test))

  -- and what is the shortest below the root around a whole address is the shortest that contains it
  pub shortest-of-table : (address : Address) (route : Block × V) → IsShortestBelow arena tree (record { address = address; length = address.width }) route → IsShortest routes address route
  shortest-of-table address route found =
      let listed = found.listed in
      let entry : entry_at key_text arena (key_text route.0) ≡ Some (leaf_key listed.leaf, leaf_value listed.leaf) = leaf_law listed.pointer (key_text route.0) listed.leaf listed.inside listed.held_there in
      let same : (leaf_key listed.leaf, leaf_value listed.leaf) ≡ route = λ i. (listed.network i, listed.value i) in
      record {
        listed = subst (λ rs. Contains rs route) are ((member_law route).1 (entry ∙ ap Some same));
        matches = in-is route.0 address (is-over route.0 address address.width found.matches).in_it;
        shortest = λ k d inside test.
            let other = get_or routes k d in
            let there = below-tree other (Contains-get_or routes k d inside) in
            let in_it = is-in other.0 address test in
            let fit = there.0.fits in
            found.shortest other.0 there.0 there.1 (over-is other.0 address address.width (record { in_it = in_it; shorter = omega (arith, fit, in_it.widths) }));
      }
