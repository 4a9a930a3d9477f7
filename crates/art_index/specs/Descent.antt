-- The way down to the floor of a text. No public clause cites it.
use Rattle.std.specs.Prelude.{◌≡◌, ◌⊎◌, ℕ, ◌+◌, ◌<◌, Bool, true, false, List, ◌++◌, length, map, All, Contains, Option, Some}
use Rattle.std.specs.Option.{option_map}
use Rattle.std.specs.Ordering.{is_le}
use Rattle.std.specs.declared.cmp.Ordering.{Ordering}
use Rattle.std.specs.declared.cmp.Ordering.TheVariants.{Less, Equal, Greater}
use Rattle.art_bytes.specs.Text.{IsPrefixOf, text_order}
use Rattle.art_nodes.specs.declared.pointers.OpaqueNodePtr.{OpaqueNodePtr}
use Rattle.art_nodes.specs.Inner as nodes
use Rattle.art_nodes.specs.Pointers.{slab_key}
use Rattle.art_arena.specs.Arena.{LeafPtr, NodeArena}
use Rattle.art_arena.specs.Ends.{IsAtEnd}
use Rattle.art_arena.specs.Links.{HoldsLeaf, previous_at}
use Rattle.art_search.specs.Search.{leaf_pointer}
use Rattle.art_arena.specs.Standing.{StandsIn, TreeAt}
use Rattle.art_arena.specs.Trees.{Tree, Inner, Branches, branch_leaves, leaves, root_of, IsSound}
use Rattle.art_arena.specs.declared.ends.End.{End}
use Rattle.art_arena.specs.declared.ends.End.TheVariants.{First, Last}
use Rattle.art_index.specs.declared.search.Step.{Step}
use Rattle.art_index.specs.declared.search.Step.TheVariants.{Down, Beside}
use Rattle.art_steps.specs.Sides.{is_last}

-- a path of so many bytes leads to these, and the text begins with it
abbrev pub OnWay : List ℕ → ℕ → (List ℕ → Type 0) → Type 0
OnWay x depth Holds = (path : List ℕ) → length path ≡ depth → IsPrefixOf path x → Holds path

-- how texts that go on by these bytes after as many as the depth compare with a text that has the same bytes before:
-- all are less, all are greater, or the text goes on by these bytes too
abbrev pub ComparesAs : List ℕ → ℕ → List ℕ → Ordering → Type 0
ComparesAs x depth bytes Less = OnWay x depth (λ path. (y : List ℕ) → IsPrefixOf (path ++ bytes) y → text_order y x ≡ Less)
ComparesAs x depth bytes Equal = OnWay x depth (λ path. IsPrefixOf (path ++ bytes) x)
ComparesAs x depth bytes Greater = OnWay x depth (λ path. (y : List ℕ) → IsPrefixOf (path ++ bytes) y → text_order y x ≡ Greater)

module _ {H : Type 0} (x : List ℕ) where
  -- each of these leaves is not above the text, or each is above it
  abbrev pub AreLow : Bool → List (H × List ℕ) → Type 0
  AreLow low leaves = All (λ leaf. is_le (text_order leaf.1 x) ≡ low) leaves

module _ {K V : Type 0} {P : ℕ} (text : K → List ℕ) (arena : NodeArena K V P) (x : List ℕ) where
  -- of some leaves those of the tree at this pointer: what is before them is not above the text, what is after them is
  pub record IsPart (whole : List (OpaqueNodePtr K V P × List ℕ)) (at : OpaqueNodePtr K V P) : Type 0 where
    pub tree : Tree (OpaqueNodePtr K V P)
    pub path : List ℕ
    pub at_root : root_of tree ≡ at
    pub stands : StandsIn text arena tree
    pub sound : IsSound path tree
    pub left : List (OpaqueNodePtr K V P × List ℕ)
    pub right : List (OpaqueNodePtr K V P × List ℕ)
    pub is : whole ≡ left ++ (leaves tree ++ right)
    pub before : AreLow x true left
    pub after : AreLow x false right

  -- the same where an inner node is at the pointer
  pub record IsNodePart (whole : List (OpaqueNodePtr K V P × List ℕ)) (at : OpaqueNodePtr K V P) : Type 0 where
    pub path : List ℕ
    pub prefix : List ℕ
    pub branches : Branches (OpaqueNodePtr K V P)
    pub stands : StandsIn text arena (Inner at prefix branches)
    pub sound : IsSound path (Inner at prefix branches)
    pub left : List (OpaqueNodePtr K V P × List ℕ)
    pub right : List (OpaqueNodePtr K V P × List ℕ)
    pub is : whole ≡ left ++ (branch_leaves branches ++ right)
    pub before : AreLow x true left
    pub after : AreLow x false right

  -- the text begins with the prefix of this inner node, by so many bytes up to its end
  pub record PassesPrefix (whole : List (OpaqueNodePtr K V P × List ℕ)) (at : OpaqueNodePtr K V P) (index : ℕ) : Type 0 where
    pub node : IsNodePart whole at
    pub leads : IsPrefixOf (node.path ++ node.prefix) x
    pub deep : length (node.path ++ node.prefix) ≡ index

  -- the text leads to this node, by so many bytes
  pub record LeadsTo (whole : List (OpaqueNodePtr K V P × List ℕ)) (at : OpaqueNodePtr K V P) (depth : ℕ) : Type 0 where
    pub part : IsPart whole at
    pub leads : IsPrefixOf part.path x
    pub deep : length part.path ≡ depth

  -- all leaves of the tree at this node are on one side of the text: not above it where the end is the last
  pub record IsBeside (whole : List (OpaqueNodePtr K V P × List ℕ)) (at : OpaqueNodePtr K V P) (end : End) : Type 0 where
    pub part : IsPart whole at
    pub side : AreLow x (is_last end) (leaves part.tree)

  -- where a text goes from a node
  abbrev pub GoesTo : List (OpaqueNodePtr K V P × List ℕ) → Step K V P → Type 0
  GoesTo whole (Down at depth) = LeadsTo whole at depth
  GoesTo whole (Beside at end) = IsBeside whole at end

module _ {K V : Type 0} {P : ℕ} (text : K → List ℕ) (arena : NodeArena K V P) where
  -- a tree stands at this pointer, sound under a path of this depth
  pub record IsDeep (at : OpaqueNodePtr K V P) (depth : ℕ) : Type 0 where
    pub found : TreeAt text arena at
    pub deep : length found.path ≡ depth

  -- a step leads to a node of the tree: one below this depth, or one to be beside
  abbrev pub StaysBelow : ℕ → Step K V P → Type 0
  StaysBelow depth (Down at below) = IsDeep at below × (depth < below)
  StaysBelow depth (Beside at end) = TreeAt text arena at

-- a step leads to a child of the node, by one byte after this index, or beside the node or a child
abbrev pub StaysIn : {K V : Type 0} {P : ℕ} → nodes.Inner (OpaqueNodePtr K V P) → OpaqueNodePtr K V P → ℕ → Step K V P → Type 0
StaysIn node at index (Down child below) = Contains (map (λ pair. pair.1) node.children) child × (below ≡ index + 1)
StaysIn node at index (Beside other end) = (other ≡ at) ⊎ Contains (map (λ pair. pair.1) node.children) other

-- the last leaf before this end of some leaves: the last of them, or the one that the first names before it
abbrev pub IsUpTo : {K V : Type 0} {P : ℕ} → NodeArena K V P → End → List (OpaqueNodePtr K V P × List ℕ) → Option (LeafPtr K V P) → Type 0
IsUpTo arena First leaves found = (leaf : LeafPtr _ _ _) × IsAtEnd First leaves (leaf_pointer leaf) × HoldsLeaf arena (slab_key leaf) × (option_map slab_key found ≡ previous_at arena (slab_key leaf))
IsUpTo arena Last leaves found = (leaf : LeafPtr _ _ _) × IsAtEnd Last leaves (leaf_pointer leaf) × HoldsLeaf arena (slab_key leaf) × (found ≡ Some leaf)

-- a step down leads to a greater depth
abbrev pub IsDeeper : {K V : Type 0} {P : ℕ} → ℕ → Step K V P → Type 0
IsDeeper depth (Down at below) = depth < below
IsDeeper depth (Beside at end) = Unit {0}
