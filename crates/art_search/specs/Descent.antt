-- Search: one step, from the node alone. No public clause cites it.
use Rattle.std.specs.Prelude.{◌≡◌, ℕ, ◌+◌, true, List, drop, Some, None, slice_get}
use Rattle.art_nodes.specs.ChildMap.{child_at}
use Rattle.art_nodes.specs.Inner.{Inner}
use Rattle.art_nodes.specs.PrefixMatch.{HasPrefix}
use Rattle.art_arena.specs.Arena.{Held, HeldInner}
use Rattle.art_search.specs.Search.{goes_to}

module _ {H : Type 0} (room : ℕ) (node : Inner H) (key : List ℕ) (depth : ℕ) where
  -- the key goes to this child, by its byte at this place, whatever the prefix is
  pub record LeadsOn (next : ℕ × H) : Type 0 where
    pub byte : ℕ
    pub place : next.0 ≡ depth + node.prefix_len
    pub at_place : slice_get key next.0 ≡ Some byte
    pub child : child_at node.children byte ≡ Some next.1
    pub goes : (prefix : List ℕ) → HasPrefix node prefix → goes_to room prefix byte (drop depth key) ≡ true

  -- the key goes to no child, whatever the prefix is
  abbrev pub LeadsNowhere : Type 0
  LeadsNowhere = (prefix : List ℕ) (byte : ℕ) → HasPrefix node prefix → goes_to room prefix byte (drop depth key) ≡ true → child_at node.children byte ≡ None

module _ {H L : Type 0} (room : ℕ) (at : Held H L) (key : List ℕ) (depth : ℕ) where
  -- the same of what is held at a pointer, where that is an inner node
  abbrev pub LeadsOnFrom : ℕ × H → Type 0
  LeadsOnFrom next = (node : Inner H) → at ≡ HeldInner node → LeadsOn room node key depth next

  -- the key goes to no child, from what is held at a pointer
  abbrev pub LeadsNowhereFrom : Type 0
  LeadsNowhereFrom = (node : Inner H) → at ≡ HeldInner node → LeadsNowhere room node key depth
