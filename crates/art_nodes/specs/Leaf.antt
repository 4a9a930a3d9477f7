-- Leaves: key, value, and slab keys of the neighbours.
use Rattle.std.specs.Prelude.{ℕ, Option}
use Rattle.std.specs.Borrow.{RattleType, MutBor, Fml, Lends, LendsBoth}
use Rattle.art_nodes.specs.declared.leaf_node.LeafNode.{LeafNode}
use Rattle.art_nodes.specs.contracts.leaf_node.LeafNode.{the_row}

module _ {K V : Type 0} {P : ℕ} where
  -- the key of a leaf
  abbrev pub leaf_key : LeafNode K V P → K
  leaf_key leaf = leaf.key

  -- its value
  abbrev pub leaf_value : LeafNode K V P → V
  leaf_value leaf = leaf.value

  -- the slab key of the leaf before it, if there is one
  abbrev pub previous_key : LeafNode K V P → Option ℕ
  previous_key leaf = leaf.previous

  -- the slab key of the leaf after it, if there is one
  abbrev pub next_key : LeafNode K V P → Option ℕ
  next_key leaf = leaf.next

  -- the leaf with another value
  abbrev pub with_value : LeafNode K V P → V → LeafNode K V P
  with_value leaf value = record leaf { value = value }

  -- the leaf with another key and another value
  abbrev pub with_entry : LeafNode K V P → K → V → LeafNode K V P
  with_entry leaf key value = record leaf { key = key; value = value }

  -- the leaf with other neighbours
  abbrev pub with_links : LeafNode K V P → Option ℕ → Option ℕ → LeafNode K V P
  with_links leaf previous next = record leaf { previous = previous; next = next }

-- when the reference is dropped, the leaf has the value that it then refers to
abbrev pub LendsValue : (K V P : RattleType) → MutBor (the_row K V P).Denot → MutBor V.Denot → Fml
LendsValue K V P leaf value = Lends (the_row K V P) V leaf value (with_value leaf.now)

-- when both references are dropped, the leaf has the key and the value that they then refer to
abbrev pub LendsEntry : (K V P : RattleType) → MutBor (the_row K V P).Denot → MutBor K.Denot × MutBor V.Denot → Fml
LendsEntry K V P leaf entry = LendsBoth (the_row K V P) K V leaf entry (with_entry leaf.now)
