-- The list of an arena's entries, ascending by text.
use Rattle.std.specs.Prelude.{◌≡◌, ℕ, not, List, [], ◌∷◌, All, AllPairs, Contains, Option, Some, None, filter, nat_eq}
use Rattle.std.specs.Cmp.Lexicographic.{pointwise}
use Rattle.std.specs.Ordering.{match_ordering}
use Rattle.std.specs.declared.cmp.Ordering.TheVariants.{Less}
use Rattle.art_bytes.specs.Text.{text_order}
use Rattle.art_nodes.specs.Leaf.{leaf_key, leaf_value}
use Rattle.art_nodes.specs.declared.leaf_node.LeafNode.{LeafNode}
use Rattle.art_arena.specs.Arena.{NodeArena}
use Rattle.art_steps.specs.Dictionary.{IsEntry, HasEntry}
use Rattle.art_steps.specs.Refusals.{texts_of}

module _ {K V : Type 0} (text : K → List ℕ) where
  -- the entries with this one before the first of a greater text, or in place of the one with its text
  abbrev pub put_entry : List (K × V) → K × V → List (K × V)
  put_entry [] entry = entry ∷ []
  put_entry (other ∷ entries) entry =
      match_ordering (text_order (text entry.0) (text other.0)) (entry ∷ other ∷ entries) (entry ∷ entries) (other ∷ put_entry entries entry)

  -- the entries without those of this text
  abbrev pub without_text : List (K × V) → List ℕ → List (K × V)
  without_text entries x = filter (λ entry. not (pointwise nat_eq (text entry.0) x)) entries

module _ {K V : Type 0} {P : ℕ} (text : K → List ℕ) where
  -- the entries of these leaves, each put at its place
  abbrev pub entries_among : List (Option (LeafNode K V P)) → List (K × V)
  entries_among [] = []
  entries_among (None ∷ slots) = entries_among slots
  entries_among (Some leaf ∷ slots) = put_entry text (entries_among slots) (leaf_key leaf, leaf_value leaf)

  -- the list of an arena's entries, ascending by text
  abbrev pub entries_of : NodeArena K V P → List (K × V)
  entries_of arena = entries_among arena.leaf.slots

  -- these are the entries of an arena, all of them, ascending by text
  pub record AreEntries (arena : NodeArena K V P) (entries : List (K × V)) : Type 0 where
    pub ascending : AllPairs (λ a b. text_order a b ≡ Less) (texts_of text entries)
    pub each : All (IsEntry text arena) entries
    pub all : (x : List ℕ) → HasEntry text arena x → Contains (texts_of text entries) x
