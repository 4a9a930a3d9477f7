-- The leaf that is found in a tree, with the path to it.
use Rattle.art_tree.proofs.Names.{LeafPtr, ◌≡◌, ◌∙◌, ℕ, List, ◌∷◌, Option, Some, None, Contains, IfSome, refl, sym, ap, subst, arith, [], Contains-append_right, same_Some, option_map, leaf_key, leaf_value, slab_key, OpaqueNodePtr, LeafNode, NodeArena, HeldLeaf, Nothing, held, held_leaf, HoldsLeaf, leaf_at, IsAtEnd, Tree, Leaf, leaves, End, IsAlone, Art, leaves_before, leaves_after, entry_at, HasEntry, HasLeafAt, IsAtPath, EndMeets, leaf_pointer, scan, found, IsPathTo, TreePath, IsFound, IsLeafOf, ReachesLeaf}
use Rattle.art_steps.proofs.SharedLemmas.DictionaryLemmas.{end-entry, end-held, end-within, entry-of-member, leaf-held-in, no-entry, scan-in, entry-of-text}
use Rattle.art_steps.proofs.SharedLemmas.ExchangedSubtree.{leaves-plug}
use Rattle.art_links.proofs.HeldNodes.{leaf-of}
use Rattle.art_tree.proofs.SharedLemmas.TreeLaws.{apart-there, ascend-there}
use Rattle.art_steps.proofs.InsertLemmas.NodeLemmas.{one-leaf}
use Rattle.art_tree.proofs.RemoveLemmas.WayContexts.{way-context}
use Rattle.art_steps.proofs.PlaceLemmas.WayPlaces.{some-text}

-- the leaf at a place is one of the tree's
pub place-inside : {H : Type 0} {tree : Tree H} {steps : List (H × ℕ)} {pointer : H} (leaf : HasLeafAt tree steps pointer) → Contains (leaves tree) (pointer, leaf.text)
place-inside {pointer = pointer} leaf =
    let one : _ × List ℕ = (pointer, leaf.text) in
    subst (λ t. Contains (leaves t) one) leaf.whole (subst (λ all. Contains all one) (sym (leaves-plug leaf.context (Leaf pointer leaf.text)))
    (Contains-append_right (leaves_before leaf.context) (one ∷ leaves_after leaf.context) one (0, omega arith, refl)))

module _ {K V : Type 0} {P : ℕ} {text : K → List ℕ} {arena : NodeArena K V P} {root : OpaqueNodePtr K V P} {tree : Tree (OpaqueNodePtr K V P)} (alone : IsAlone text arena root tree) where
  -- a leaf has one text
  pub one-text : (pointer : OpaqueNodePtr K V P) (x y : List ℕ) → Contains (leaves tree) (pointer, x) → Contains (leaves tree) (pointer, y) → x ≡ y
  one-text pointer x y first second =
      let (a, a_held, a_has) = leaf-held-in text arena tree alone.is_tree.stands pointer x first in
      let (b, b_held, b_has) = leaf-held-in text arena tree alone.is_tree.stands pointer y second in
      sym a_has ∙ ap (λ l. text (leaf_key l)) (one-leaf (held arena pointer) a b a_held b_held) ∙ b_has

  -- the one way to a leaf with a text leads to it
  path-found : (pointer : OpaqueNodePtr K V P) (path : TreePath K V P) (x : List ℕ) → IsPathTo tree pointer path → Contains (leaves tree) (pointer, x) → IsAtPath tree pointer path x
  path-found pointer path x (steps, only, is) inside =
      let leaf = way-context tree steps pointer only.0 in
      (steps, leaf, one-text pointer leaf.text x (place-inside leaf) inside, is)

module _ {K V : Type 0} {P : ℕ} {text : K → List ℕ} {art : Art (NodeArena K V P) (OpaqueNodePtr K V P)} {root : OpaqueNodePtr K V P} (is_root : art.root ≡ Some root) {tree : Tree (OpaqueNodePtr K V P)} (alone : IsAlone text art.arena root tree) where
  -- what a search for a text finds
  pub search-found : (result : Option (LeafPtr K V P × TreePath K V P)) (x : List ℕ) → scan tree x ≡ found result x → IfSome result (λ (leaf, path). IsPathTo tree (leaf_pointer leaf) path) → IsFound text art x result
  search-found None x answer way = no-entry text art.arena root tree alone x answer
  search-found (Some (leaf, path)) x answer way =
      let at = leaf_pointer leaf in
      let inside = scan-in (leaves tree) at x (subst (λ all. Contains all (at, x)) (sym answer) (0, omega arith, refl)) in
      record { root = root; is_root = is_root; reaches = record { tree = tree; alone = alone; at_path = path-found alone at path x way inside } }

  -- and what the way to an end finds
  pub end-found-there : (end : End) (leaf : LeafPtr K V P) (path : TreePath K V P) → IsAtEnd end (leaves tree) (leaf_pointer leaf) → (x : List ℕ) → IsAtPath tree (leaf_pointer leaf) path x → EndMeets text art.arena end (IsLeafOf text art leaf path)
  end-found-there end leaf path at_end x (steps, place, has, is) =
      let there = end-held text art.arena end root tree alone leaf at_end in
      let is_key = ap (option_map leaf_key) there.1 in
      let is_value = ap (option_map leaf_value) there.1 in
      let (own, own_held, own_has) = leaf-held-in text art.arena tree alone.is_tree.stands (leaf_pointer leaf) place.text (place-inside place) in
      let same = sym own_has ∙ ap (λ l. text (leaf_key l)) (one-leaf (held art.arena (leaf_pointer leaf)) own there.0 own_held (ap held_leaf there.1)) in (
        (leaf_key there.0, leaf_value there.0),
        record {
          is_entry = end-entry text art.arena end root tree alone leaf at_end (leaf_key there.0) (leaf_value there.0) is_key is_value (apart-there alone);
          within = end-within text art.arena end root tree alone leaf at_end (leaf_key there.0) (leaf_value there.0) is_key is_value (ascend-there alone);
        },
        record { root = root; is_root = is_root; reaches = record { tree = tree; alone = alone; at_path = (steps, place, same, is) } },
      )

-- a leaf that was found is held, and has the entry of its text
pub record IsHeldWith {K V : Type 0} {P : ℕ} (text : K → List ℕ) (arena : NodeArena K V P) (key : ℕ) (x : List ℕ) : Type 0 where
  pub leaf : LeafNode K V P
  pub there : leaf_at arena key ≡ Some leaf
  pub has : text (leaf_key leaf) ≡ x
  pub entry : entry_at text arena x ≡ Some (leaf_key leaf, leaf_value leaf)

pub found-held : {K V : Type 0} {P : ℕ} {text : K → List ℕ} {arena : NodeArena K V P} {root : OpaqueNodePtr K V P} {leaf : LeafPtr K V P} {path : TreePath K V P} {x : List ℕ} → ReachesLeaf text arena root leaf path x → IsHeldWith text arena (slab_key leaf) x
found-held {text = text} {arena = arena} {root = root} {leaf = leaf} {x = x} at =
    let (steps, place, same, is) = at.at_path in
    let inside = subst (λ y. Contains (leaves at.tree) (leaf_pointer leaf, y)) same (place-inside place) in
    let (own, own_held, has) = leaf-held-in text arena at.tree at.alone.is_tree.stands (leaf_pointer leaf) x inside in
    record {
      leaf = own;
      there = leaf-of (leaf_at arena (slab_key leaf)) own own_held;
      has = has;
      entry = entry-of-member text arena root at.tree at.alone (apart-there at.alone) (leaf_pointer leaf) x own inside own_held;
    }

-- so the arena holds the leaf
pub held-there : {K V : Type 0} {P : ℕ} {text : K → List ℕ} {arena : NodeArena K V P} {key : ℕ} {x : List ℕ} → IsHeldWith text arena key x → HoldsLeaf arena key
held-there at none = let wrong : HeldLeaf at.leaf ≡ Nothing = sym (ap held_leaf at.there) ∙ none in absurd (cc)

-- key and value that are read of it are the entry
pub entry-read : {K V : Type 0} {P : ℕ} {text : K → List ℕ} {arena : NodeArena K V P} {at : ℕ} {x : List ℕ} → IsHeldWith text arena at x → (key : K) (value : V) → option_map leaf_key (leaf_at arena at) ≡ Some key → option_map leaf_value (leaf_at arena at) ≡ Some value → entry_at text arena x ≡ Some (key, value)
entry-read here key value is_key is_value =
    let same_key = same_Some (leaf_key here.leaf) key (sym (ap (option_map leaf_key) here.there) ∙ is_key) in
    let same_value = same_Some (leaf_value here.leaf) value (sym (ap (option_map leaf_value) here.there) ∙ is_value) in
    here.entry ∙ ap Some (λ i. (same_key i, same_value i))

-- the key that is read of a leaf is the leaf's
pub key-read : {K V : Type 0} {P : ℕ} (text : K → List ℕ) (o : Option (LeafNode K V P)) (leaf : LeafNode K V P) (key : K) → o ≡ Some leaf → option_map leaf_key o ≡ Some key → text key ≡ text (leaf_key leaf)
key-read text o leaf key there read = ap text (same_Some key (leaf_key leaf) (sym read ∙ ap (option_map leaf_key) there))

-- and so is the value
pub value-read : {K V : Type 0} {P : ℕ} {text : K → List ℕ} {arena : NodeArena K V P} {at : ℕ} {x : List ℕ} → IsHeldWith text arena at x → (value : V) → option_map leaf_value (leaf_at arena at) ≡ Some value → option_map (λ (entry : K × V). entry.1) (entry_at text arena x) ≡ Some value
value-read here value is_value = ap (option_map (λ (entry : _ × _). entry.1)) here.entry ∙ sym (ap (option_map leaf_value) here.there) ∙ is_value

-- a leaf that was found is there in the arena and at the root that are read
pub reaches-in : {K V : Type 0} {P : ℕ} {text : K → List ℕ} {art : Art (NodeArena K V P) (OpaqueNodePtr K V P)} {leaf : LeafPtr K V P} {path : TreePath K V P} {x : List ℕ} → IsLeafOf text art leaf path x → (root : OpaqueNodePtr K V P) → art.root ≡ Some root → ReachesLeaf text art.arena root leaf path x
reaches-in {text = text} {art = art} {leaf = leaf} {path = path} {x = x} at root is = subst (λ r. ReachesLeaf text art.arena r leaf path x) (same_Some at.root root (sym at.is_root ∙ is)) at.reaches

-- a tree has an entry
pub some-entry : {K V : Type 0} {P : ℕ} (text : K → List ℕ) (arena : NodeArena K V P) (root : OpaqueNodePtr K V P) (tree : Tree (OpaqueNodePtr K V P)) → IsAlone text arena root tree → (x : List ℕ) × HasEntry text arena x
some-entry text arena root tree alone = let one = some-text [] tree alone.is_tree.sound in (one.text, entry-of-text text arena root tree alone (apart-there alone) one.text one.inside)
