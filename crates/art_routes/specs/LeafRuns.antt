-- Runs of linked leaves, and what they hold. No public clause cites this.
use Rattle.std.specs.Prelude.{◌≡◌, ◌≢◌, ◌==◌, ℕ, zero, suc, List, [], ◌∷◌, ◌++◌, length, Option, Some, None, if◌then◌else◌, filter_map}
use Rattle.std.specs.Option.{option_map, option_map_or}
use Rattle.art_nodes.specs.Leaf.{leaf_key, leaf_value, next_key, previous_key}
use Rattle.art_nodes.specs.Pointers.{slab_key}
use Rattle.art_nodes.specs.declared.leaf_node.LeafNode.{LeafNode}
use Rattle.art_arena.specs.Arena.{LeafPtr, NodeArena}
use Rattle.art_arena.specs.Links.{AreDistinct, leaf_at, next_at}
use Rattle.art_arena.specs.declared.ends.End.{End}
use Rattle.art_arena.specs.declared.ends.End.TheVariants.{First, Last}

-- the list ends with this
abbrev pub EndsIn : List ℕ → ℕ → Type 0
EndsIn [] last = ⊥
EndsIn (key ∷ []) last = key ≡ last
EndsIn (key ∷ other ∷ keys) last = EndsIn (other ∷ keys) last

-- the first of these, or else this
abbrev pub first_or : List ℕ → Option ℕ → Option ℕ
first_or [] other = other
first_or (key ∷ keys) other = Some key

-- what is at this end of two
abbrev pub at_end : {X : Type 0} → End → X × X → X
at_end First ends = ends.0
at_end Last ends = ends.1

-- the one list is the other, and this item at this end of it
abbrev pub IsEndAndRest : {X : Type 0} → End → List X → X → List X → Type 0
IsEndAndRest First old x new = old ≡ x ∷ new
IsEndAndRest Last old x new = old ≡ new ++ x ∷ []

module _ {K V : Type 0} {P : ℕ} where
  -- key and value of a leaf
  abbrev pub key_and_value : LeafNode K V P → K × V
  key_and_value leaf = (leaf_key leaf, leaf_value leaf)

  -- the slab keys from one leaf to another, as each names the next; at most so many
  abbrev pub slab_keys_between : NodeArena K V P → ℕ → ℕ → ℕ → List ℕ
  slab_keys_between arena zero front back = []
  slab_keys_between arena (suc count) front back =
      front ∷ (if front == back then [] else option_map_or (λ next. slab_keys_between arena count next back) (next_at arena front) [])

  -- the entries of the leaves under these slab keys
  abbrev pub entries_under : NodeArena K V P → List ℕ → List (K × V)
  entries_under arena keys = filter_map (λ key. option_map key_and_value (leaf_at arena key)) keys

  -- the entries from the leaf at the front to the leaf at the back, both included, as the links have them
  abbrev pub run_entries : NodeArena K V P → Option (LeafPtr K V P × LeafPtr K V P) → List (K × V)
  run_entries arena None = []
  run_entries arena (Some ends) = entries_under arena (slab_keys_between arena (length arena.leaf.slots) (slab_key ends.0) (slab_key ends.1))

  -- each of these leaves names its neighbours; the first names this one before it, the last that one after it
  abbrev pub LinksOver : NodeArena K V P → Option ℕ → List ℕ → Option ℕ → Type 0
  LinksOver arena before [] after = Unit {0}
  LinksOver arena before (key ∷ keys) after =
      ((leaf : LeafNode K V P) × (leaf_at arena key ≡ Some leaf) × (previous_key leaf ≡ before) × (next_key leaf ≡ first_or keys after))
      × LinksOver arena (Some key) keys after

  -- links lead from the leaf at the front to the leaf at the back over these different leaves
  pub record LeadsOver (arena : NodeArena K V P) (front back : ℕ) (keys : List ℕ) : Type 0 where
    pub before : Option ℕ
    pub after : Option ℕ
    pub linked : LinksOver arena before keys after
    pub distinct : AreDistinct keys
    pub rest : List ℕ
    pub begins : keys ≡ front ∷ rest
    pub ends : EndsIn keys back

  -- a run has no leaf, or links lead from its front to its back
  abbrev pub IsRun : NodeArena K V P → Option (LeafPtr K V P × LeafPtr K V P) → Type 0
  IsRun arena None = Unit {0}
  IsRun arena (Some ends) = (keys : List ℕ) × LeadsOver arena (slab_key ends.0) (slab_key ends.1) keys

  -- the run between the one ends is this leaf at the one end, and the run between the others, in each arena that has the
  -- other leaves
  abbrev pub StepsOver : NodeArena K V P → End → LeafPtr K V P × LeafPtr K V P → LeafNode K V P → Option (LeafPtr K V P × LeafPtr K V P) → Type 0
  StepsOver arena end ends leaf rest =
      (new : NodeArena K V P) → ((key : ℕ) → key ≢ slab_key (at_end end ends) → leaf_at new key ≡ leaf_at arena key)
      → IsRun new rest × IsEndAndRest end (run_entries arena (Some ends)) (key_and_value leaf) (run_entries new rest)
