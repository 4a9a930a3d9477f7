-- A leaf of a tree, and the entries from it on. No public clause cites this.
use Rattle.std.specs.Prelude.{◌≡◌, ℕ, Bool, false, List, [], ◌∷◌, ◌++◌, Option, Some, None, Result, IfOk, OnErr, if◌then◌else◌}
use Rattle.std.specs.Option.{option_map}
use Rattle.art_nodes.specs.Pointers.{slab_key}
use Rattle.art_nodes.specs.declared.pointers.OpaqueNodePtr.{OpaqueNodePtr}
use Rattle.art_nodes.specs.declared.leaf_node.LeafNode.{LeafNode}
use Rattle.art_arena.specs.Arena.{LeafPtr, NodeArena}
use Rattle.art_arena.specs.Links.{leaf_at}
use Rattle.art_tree.specs.Entries.{entries_of}
use Rattle.art_steps.specs.Refusals.{texts_of}
use Rattle.art_routes.specs.LeafRuns.{key_and_value}
use Rattle.art_routes.specs.Shrinking.{NeedsNode}

module _ {K V : Type 0} {P : ℕ} where
  -- the leaf under this slab key holds the first of these entries; where there is no leaf there are none
  abbrev pub HoldsFirst : NodeArena K V P → Option ℕ → List (K × V) → Type 0
  HoldsFirst arena None entries = entries ≡ []
  HoldsFirst arena (Some key) entries =
      (leaf : LeafNode K V P) × (rest : List (K × V)) × (leaf_at arena key ≡ Some leaf) × (entries ≡ key_and_value leaf ∷ rest)

  -- the entries of an arena are these, and behind them those that begin at the leaf under this slab key
  abbrev pub IsSplit : (K → List ℕ) → NodeArena K V P → List (K × V) → Option ℕ → List (K × V) → Type 0
  IsSplit text arena before at after = (entries_of text arena ≡ before ++ after) × HoldsFirst arena at after

module _ {F K V : Type 0} {P : ℕ} (text : K → List ℕ) where
  -- the leaf under this slab key holds an entry, and a test may be made of it
  abbrev pub MayVisit : (F → K → V → Type 0) → F → NodeArena K V P → ℕ → Type 0
  MayVisit Q test arena key =
      (before : List (K × V)) × (entry : K × V) × (after : List (K × V)) × IsSplit text arena before (Some key) (entry ∷ after) × Q test entry.0 entry.1

  -- the entry at this leaf was tested, and stays or is removed, and the walk is at the next leaf; where the removal is
  -- refused, which needs a node, the entry stays, with the value that the test left
  abbrev pub IsVisit : {E : Type 0} → (F → K → V → Bool → V → F → Type 0) → F → F → NodeArena K V P → NodeArena K V P → ℕ → Result (Option (LeafPtr K V P)) E → Type 0
  IsVisit T test now old new key result =
      (before : List (K × V)) (entry : K × V) (after : List (K × V)) → IsSplit text old before (Some key) (entry ∷ after)
      → (keeps : Bool) × (value : V) × T test entry.0 entry.1 keeps value now
      × IfOk result (λ next. IsSplit text new (if keeps then before ++ (entry.0, value) ∷ [] else before) (option_map slab_key next) after)
      × OnErr result ((keeps ≡ false) × NeedsNode (OpaqueNodePtr K V P) (texts_of text (entries_of text new)) (text entry.0) × (entries_of text new ≡ before ++ (entry.0, value) ∷ after))
