-- Where the leaves of a tree stand in the list of its entries.
use Rattle.std.proofs.Common.{◌≡◌, ◌∙◌, ℕ, zero, suc, List, [], ◌∷◌, ◌++◌, length, map, Contains, Option, Some, None, refl, sym, ap, subst, arith}
use Rattle.std.proofs.lemmas.List.{length-map, map-append}
use Rattle.std.proofs.lemmas.List.Elements.{All-contains, Contains-append_right}
use Rattle.std.proofs.lemmas.Option.{same_Some}
use Rattle.std.specs.Option.{option_map}
use Rattle.art_bytes.proofs.Members.{first_there}
use Rattle.art_bytes.proofs.TextLaws.{Ascend, ascend_rest, less_differs, none_below}
use Rattle.art_nodes.specs.Leaf.{leaf_key}
use Rattle.art_nodes.specs.Pointers.{slab_key}
use Rattle.art_nodes.specs.declared.leaf_node.LeafNode.{LeafNode}
use Rattle.art_nodes.specs.declared.pointers.OpaqueNodePtr.{OpaqueNodePtr}
use Rattle.art_arena.specs.Arena.{LeafPtr, NodeArena, HeldLeaf, Nothing, held, held_leaf}
use Rattle.art_arena.specs.Links.{HoldsLeaf, leaf_at}
use Rattle.art_arena.specs.Standing.{StandsIn, TreeAt}
use Rattle.art_arena.specs.Trees.{Tree, leaves}
use Rattle.art_tree.proofs.EntryLaws.{apart-there, are-entries, empty-entry, entry-of-member, entry-texts, leaf-held-in, leaf-in, no-list}
use Rattle.art_steps.specs.Art.{IsAlone, IsArt}
use Rattle.art_steps.specs.Dictionary.{IsEntry, entry_at}
use Rattle.art_tree.specs.Entries.{entries_of}
use Rattle.art_steps.specs.Refusals.{texts_of}
use Rattle.art_search.specs.Search.{leaf_pointer}
use Rattle.art_index.specs.Places.{IsPlaced, leaf_entry}

-- a list whose images part at a place parts there
record IsParted {X Y : Type 0} (f : X → Y) (xs : List X) (front : List Y) (y : Y) (back : List Y) : Type 0 where
  pub left : List X
  pub here : X
  pub right : List X
  pub is : xs ≡ left ++ here ∷ right
  pub left_is : map f left ≡ front
  pub here_is : f here ≡ y
  pub right_is : map f right ≡ back

parted : {X Y : Type 0} (f : X → Y) (xs : List X) (front : List Y) (y : Y) (back : List Y) → map f xs ≡ front ++ y ∷ back → IsParted f xs front y back
parted f [] [] y back is = absurd (cc)
parted f [] (z ∷ front) y back is = absurd (cc)
parted f (x ∷ xs) [] y back is = record { left = []; here = x; right = xs; is = refl; left_is = refl; here_is = cc; right_is = cc }
parted f (x ∷ xs) (z ∷ front) y back is =
    let first : f x ≡ z = cc in
    let rest : map f xs ≡ front ++ y ∷ back = cc in
    let later = parted f xs front y back rest in
    record {
      left = x ∷ later.left;
      here = later.here;
      right = later.right;
      is = ap (λ l. x ∷ l) later.is;
      left_is = (λ i. first i ∷ later.left_is i);
      here_is = later.here_is;
      right_is = later.right_is;
    }

-- a member parts a list
pub member-parts : {X : Type 0} (xs : List X) (x : X) → Contains xs x → (left : List X) × (right : List X) × (xs ≡ left ++ x ∷ right)
member-parts [] x (k, inside, is) = absurd (omega (arith, inside))
member-parts (y ∷ xs) x (zero, inside, is) = ([], xs, ap (λ z. z ∷ xs) is)
member-parts (y ∷ xs) x (suc k, inside, is) =
    let (left, right, later) = member-parts xs x (k, omega (arith, inside), is) in (y ∷ left, right, ap (λ l. y ∷ l) later)

-- two ways to part a list after as many are one
pub parts-same : {X : Type 0} (a b c d : List X) → length a ≡ length c → a ++ b ≡ c ++ d → (a ≡ c) × (b ≡ d)
parts-same [] b [] d long is = (refl, is)
parts-same [] b (y ∷ c) d long is = absurd (omega (arith, long))
parts-same (x ∷ a) b [] d long is = absurd (omega (arith, long))
parts-same (x ∷ a) b (y ∷ c) d long is =
    let first : x ≡ y = cc in
    let rest : a ++ b ≡ c ++ d = cc in
    let later = parts-same a b c d (omega (arith, long)) rest in
    ((λ i. first i ∷ later.0 i), later.1)

-- of texts that ascend each parts the list in one way
one-way : (a : List (List ℕ)) (y : List ℕ) (b c d : List (List ℕ)) → Ascend (a ++ y ∷ b) → a ++ y ∷ b ≡ c ++ y ∷ d → length a ≡ length c
one-way [] y b [] d ascend is = refl
one-way [] y b (z ∷ c) d ascend is =
    let first : y ≡ z = cc in
    let rest : b ≡ c ++ y ∷ d = cc in
    let inside : Contains b y = subst (λ l. Contains l y) (sym rest) (Contains-append_right c (y ∷ d) y (first_there y y d refl)) in
    absurd (less_differs y y (none_below y y b ascend inside) refl)
one-way (x ∷ a) y b [] d ascend is =
    let first : x ≡ y = cc in
    let inside : Contains (a ++ y ∷ b) y = Contains-append_right a (y ∷ b) y (first_there y y b refl) in
    absurd (less_differs x y (none_below x y (a ++ y ∷ b) ascend inside) first)
one-way (x ∷ a) y b (z ∷ c) d ascend is =
    let rest : a ++ y ∷ b ≡ c ++ y ∷ d = cc in
    ap suc (one-way a y b c d (ascend_rest x (a ++ y ∷ b) ascend) rest)

pub slot-of : {K V : Type 0} {P : ℕ} (o : Option (LeafNode K V P)) (leaf : LeafNode K V P) → held_leaf {H = OpaqueNodePtr K V P} o ≡ HeldLeaf leaf → o ≡ Some leaf
slot-of None leaf is = absurd (cc)
slot-of (Some other) leaf is = cc

-- an arena without a root has no entry
pub no-entries : {K V : Type 0} {P : ℕ} (text : K → List ℕ) (arena : NodeArena K V P) → IsArt text arena None → entries_of text arena ≡ []
no-entries text arena nothing = no-list text arena (empty-entry text arena nothing)

pub some-mapped : {X Y : Type 0} (f : X → Y) (o : Option X) (y : Y) → option_map f o ≡ Some y → (x : X) × (o ≡ Some x) × (f x ≡ y)
some-mapped f None y is = absurd (cc)
some-mapped f (Some x) y is = (x, refl, same_Some (f x) y is)

module _ {K V : Type 0} {P : ℕ} {text : K → List ℕ} {arena : NodeArena K V P} where
  -- a leaf that is placed is held
  pub placed-held : (leaf : LeafPtr K V P) → IsPlaced text arena leaf → HoldsLeaf arena (slab_key leaf)
  placed-held leaf place none =
      let (node, at, has) = some-mapped leaf_entry (leaf_at arena (slab_key leaf)) place.entry place.holds in
      let there : held arena (leaf_pointer leaf) ≡ HeldLeaf node = ap held_leaf at in
      let wrong : HeldLeaf node ≡ Nothing = sym there ∙ none in absurd (cc)

module _ {K V : Type 0} {P : ℕ} {text : K → List ℕ} {arena : NodeArena K V P} {root : OpaqueNodePtr K V P} {tree : Tree (OpaqueNodePtr K V P)} (alone : IsAlone text arena root tree) where
  -- a leaf between leaves of the tree, and its entry between theirs
  pub record IsAmong (leaf : LeafPtr K V P) (front : List (OpaqueNodePtr K V P × List ℕ)) (y : List ℕ) (back : List (OpaqueNodePtr K V P × List ℕ)) : Type 0 where
    pub place : IsPlaced text arena leaf
    pub left_is : texts_of text place.left ≡ map (λ leaf. leaf.1) front
    pub here_is : text place.entry.0 ≡ y
    pub right_is : texts_of text place.right ≡ map (λ leaf. leaf.1) back

  pub among : (leaf : LeafPtr K V P) (front back : List (OpaqueNodePtr K V P × List ℕ)) (y : List ℕ) → leaves tree ≡ front ++ (leaf_pointer leaf, y) ∷ back → IsAmong leaf front y back
  among leaf front back y is =
      let pointer = leaf_pointer leaf in
      let all : texts_of text (entries_of text arena) ≡ map (λ leaf. leaf.1) front ++ y ∷ map (λ leaf. leaf.1) back =
      entry-texts text arena root tree alone ∙ ap (map (λ leaf. leaf.1)) is ∙ map-append (λ leaf. leaf.1) front ((pointer, y) ∷ back) in
      let parts = parted (λ entry. text entry.0) (entries_of text arena) (map (λ leaf. leaf.1) front) y (map (λ leaf. leaf.1) back) all in
      let inside : Contains (leaves tree) (pointer, y) = subst (λ l. Contains l (pointer, y)) (sym is) (Contains-append_right front ((pointer, y) ∷ back) (pointer, y) (first_there (pointer, y) (pointer, y) back refl)) in
      let (node, there, has) = leaf-held-in text arena tree alone.is_tree.stands pointer y inside in
      let found = entry-of-member text arena root tree alone (apart-there alone) pointer y node inside there in
      let listed : Contains (entries_of text arena) parts.here = subst (λ l. Contains l parts.here) (sym parts.is) (Contains-append_right parts.left (parts.here ∷ parts.right) parts.here (first_there parts.here parts.here parts.right refl)) in
      let own : IsEntry text arena parts.here = All-contains (IsEntry text arena) (entries_of text arena) parts.here (are-entries text arena).each listed in
      let same : leaf_entry node ≡ parts.here = same_Some (leaf_entry node) parts.here (sym found ∙ ap (entry_at text arena) (sym parts.here_is) ∙ own) in
      record {
        place = record {
          left = parts.left;
          entry = parts.here;
          right = parts.right;
          holds = ap (option_map leaf_entry) (slot-of (leaf_at arena (slab_key leaf)) node there) ∙ ap Some same;
          list = parts.is;
        };
        left_is = parts.left_is;
        here_is = parts.here_is;
        right_is = parts.right_is;
      }

  -- the leaves around a leaf that is held
  pub record IsHeldAmong (leaf : LeafPtr K V P) : Type 0 where
    pub y : List ℕ
    pub front : List (OpaqueNodePtr K V P × List ℕ)
    pub back : List (OpaqueNodePtr K V P × List ℕ)
    pub is : leaves tree ≡ front ++ (leaf_pointer leaf, y) ∷ back

  pub around : (leaf : LeafPtr K V P) (node : LeafNode K V P) → leaf_at arena (slab_key leaf) ≡ Some node → IsHeldAmong leaf
  around leaf node at =
      let pointer = leaf_pointer leaf in
      let there : held arena pointer ≡ HeldLeaf node = ap held_leaf at in
      let inside = leaf-in text arena tree alone.is_tree.stands pointer node (alone.no_others pointer (λ none. let wrong : HeldLeaf node ≡ Nothing = sym there ∙ none in absurd (cc))) there in
      let (front, back, is) = member-parts (leaves tree) (pointer, text (leaf_key node)) inside in
      record { y = text (leaf_key node); front = front; back = back; is = is }

  -- and around one that is placed: its place is the one that it has among them
  module _ (leaf : LeafPtr K V P) (here : IsPlaced text arena leaf) where
    pub around-place : IsHeldAmong leaf
    around-place =
        let (node, at, has) = some-mapped leaf_entry (leaf_at arena (slab_key leaf)) here.entry here.holds in around leaf node at

    abbrev own-place : IsAmong leaf around-place.front around-place.y around-place.back
    own-place = among leaf around-place.front around-place.back around-place.y around-place.is

    same-entry : own-place.place.entry ≡ here.entry
    same-entry = same_Some own-place.place.entry here.entry (sym own-place.place.holds ∙ here.holds)

    left-long : length own-place.place.left ≡ length here.left
    left-long =
        let list = entries_of text arena in
        let f : K × V → List ℕ = λ entry. text entry.0 in
        let own = own-place.place in
        let own_texts : texts_of text list ≡ texts_of text own.left ++ f own.entry ∷ texts_of text own.right = ap (map f) own.list ∙ map-append f own.left (own.entry ∷ own.right) in
        let here_texts : texts_of text list ≡ texts_of text here.left ++ f own.entry ∷ texts_of text here.right = ap (map f) here.list ∙ map-append f here.left (here.entry ∷ here.right) ∙ ap (λ e. texts_of text here.left ++ f e ∷ texts_of text here.right) (sym same-entry) in
        let ways = one-way (texts_of text own.left) (f own.entry) (texts_of text own.right) (texts_of text here.left) (texts_of text here.right) (subst Ascend own_texts (are-entries text arena).ascending) (sym own_texts ∙ here_texts) in
        sym (length-map own.left f) ∙ ways ∙ length-map here.left f

    -- so many leaves are before it as entries
    pub front-long : length around-place.front ≡ length here.left
    front-long = sym (length-map around-place.front (λ leaf. leaf.1)) ∙ ap length (sym own-place.left_is) ∙ length-map own-place.place.left (λ entry. text entry.0) ∙ left-long

    -- the place is the same
    pub same-parts : (own-place.place.left ≡ here.left) × (own-place.place.entry ∷ own-place.place.right ≡ here.entry ∷ here.right)
    same-parts =
        let own = own-place.place in
        parts-same own.left (own.entry ∷ own.right) here.left (here.entry ∷ here.right) left-long (sym own.list ∙ here.list)

  -- the whole tree, as what stands at the root of an arena
  abbrev pub whole-at : (now : NodeArena K V P) → arena ≡ now → TreeAt text now root
  whole-at now same = record {
    tree = tree;
    path = [];
    at_root = alone.is_tree.at_root;
    stands = subst (λ a. StandsIn text a tree) same alone.is_tree.stands;
    sound = alone.is_tree.sound;
  }

-- each leaf that is held is placed
module _ {K V : Type 0} {P : ℕ} (text : K → List ℕ) (arena : NodeArena K V P) (leaf : LeafPtr K V P) where
  slot-there : HoldsLeaf arena (slab_key leaf) → (node : LeafNode K V P) × (leaf_at arena (slab_key leaf) ≡ Some node)
  slot-there is_held = by_slot (leaf_at arena (slab_key leaf)) refl
    where
      by_slot : (o : Option (LeafNode K V P)) → leaf_at arena (slab_key leaf) ≡ o → (node : LeafNode K V P) × (leaf_at arena (slab_key leaf) ≡ Some node)
      by_slot None is = absurd (is_held (ap (held_leaf {H = OpaqueNodePtr K V P}) is))
      by_slot (Some node) is = (node, is)

  pub held-placed : (root : Option (OpaqueNodePtr K V P)) → IsArt text arena root → HoldsLeaf arena (slab_key leaf) → IsPlaced text arena leaf
  held-placed None nothing is_held = absurd (is_held (nothing (leaf_pointer leaf)))
  held-placed (Some root) (tree, alone) is_held =
      let (node, at) = slot-there is_held in
      let near = around alone leaf node at in (among alone leaf near.front near.back near.y near.is).place
