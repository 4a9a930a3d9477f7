-- The dictionary of an arena, and texts that no tree holds together.
use Rattle.std.specs.Prelude.{◌≡◌, ◌≢◌, ◌⊎◌, ℕ, List, [], ◌∷◌, Contains, Option, Some, None, nat_eq, if◌then◌else◌}
use Rattle.std.specs.Cmp.Lexicographic.{pointwise}
use Rattle.art_bytes.specs.Text.{IsPrefixOf}
use Rattle.art_nodes.specs.Leaf.{leaf_key, leaf_value}
use Rattle.art_nodes.specs.declared.leaf_node.LeafNode.{LeafNode}
use Rattle.art_arena.specs.Arena.{NodeArena}

module _ {K V : Type 0} {P : ℕ} (text : K → List ℕ) where
  -- key and value of the first of these leaves whose key has the text
  abbrev pub entry_among : List (Option (LeafNode K V P)) → List ℕ → Option (K × V)
  entry_among [] x = None
  entry_among (None ∷ slots) x = entry_among slots x
  entry_among (Some leaf ∷ slots) x =
      if pointwise nat_eq (text (leaf_key leaf)) x then Some (leaf_key leaf, leaf_value leaf) else entry_among slots x

  -- the dictionary of an arena: the entry with this text that its leaves hold
  abbrev pub entry_at : NodeArena K V P → List ℕ → Option (K × V)
  entry_at arena x = entry_among arena.leaf.slots x

  -- this is the entry with its key's text
  abbrev pub IsEntry : NodeArena K V P → K × V → Type 0
  IsEntry arena entry = entry_at arena (text entry.0) ≡ Some entry

  -- some entry has this text
  abbrev pub HasEntry : NodeArena K V P → List ℕ → Type 0
  HasEntry arena x = entry_at arena x ≢ None

  -- the laws of keys hold for the key of each entry
  abbrev pub HasKeys : (K → Type 0) → NodeArena K V P → Type 0
  HasKeys is_key arena = (entry : K × V) → IsEntry arena entry → is_key entry.0

  -- every text has the entry that it had
  abbrev pub SameEntries : NodeArena K V P → NodeArena K V P → Type 0
  SameEntries old new = (x : List ℕ) → entry_at new x ≡ entry_at old x

  -- every text but this one has the entry that it had
  abbrev pub SameOtherEntries : NodeArena K V P → NodeArena K V P → List ℕ → Type 0
  SameOtherEntries old new x = (other : List ℕ) → other ≢ x → entry_at new other ≡ entry_at old other

  -- no text has an entry
  abbrev pub IsEmpty : NodeArena K V P → Type 0
  IsEmpty arena = (x : List ℕ) → entry_at arena x ≡ None

-- a is a prefix of b, and shorter
abbrev pub IsProperPrefixOf : List ℕ → List ℕ → Type 0
IsProperPrefixOf a b = IsPrefixOf a b × (a ≢ b)

-- one of the two is a proper prefix of the other
abbrev pub OneIsProperPrefix : List ℕ → List ℕ → Type 0
OneIsProperPrefix a b = IsProperPrefixOf a b ⊎ IsProperPrefixOf b a

-- one of these texts is a proper prefix of this one, or this one of it
abbrev pub Clashes : List (List ℕ) → List ℕ → Type 0
Clashes texts text = (other : List ℕ) × Contains texts other × OneIsProperPrefix other text
