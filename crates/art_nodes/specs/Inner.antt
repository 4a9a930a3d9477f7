-- Inner nodes as contracts see them, whichever way they keep their children.
use Rattle.std.specs.Prelude.{◌≡◌, ℕ, ◌≤◌, List, [], length, ◌<◌, min, IsNone}
use Rattle.std.specs.List.{zip}
use Rattle.art_header.specs.Header.{Header, capped}
use Rattle.art_nodes.specs.ChildMap.{ChildMap, child_at, with_child, without_child, key_bytes, IsAscending}

-- the length of the prefix, the stored prefix, and the child map
pub record Inner (H : Type 0) : Type 0 where
  pub prefix_len : ℕ
  pub stored : List ℕ
  pub children : ChildMap H

-- the greatest number of children of an indirect node with this many places; 255 is no index
abbrev pub indirect_room : ℕ → ℕ
indirect_room places = min places 255

module _ {H : Type 0} where
  -- the header, whose count is the size of the child map
  abbrev pub header_of : Inner H → Header
  header_of node =
      record { count = length node.children; prefix_len = node.prefix_len; stored = node.stored }

  -- a node with this header's prefix and these children
  abbrev pub inner_with : Header → ChildMap H → Inner H
  inner_with header children =
      record { prefix_len = header.prefix_len; stored = header.stored; children = children }

  -- a node with this header's prefix and no children
  abbrev pub empty_inner : Header → Inner H
  empty_inner header = inner_with header []

  -- the node with other children
  abbrev pub with_children : Inner H → ChildMap H → Inner H
  with_children node others = record node { children = others }

  -- the node with this child under the byte, and any other byte as before
  abbrev pub node_with_child : Inner H → ℕ → H → Inner H
  node_with_child node byte child = with_children node (with_child node.children byte child)

  -- the node without the byte
  abbrev pub node_without_child : Inner H → ℕ → Inner H
  node_without_child node byte = with_children node (without_child node.children byte)

  -- the node with the prefix of a header
  abbrev pub node_with_prefix_of : Inner H → Header → Inner H
  node_with_prefix_of node header = record node { prefix_len = header.prefix_len; stored = header.stored }

  -- the byte has a child already, or the node has spare capacity
  abbrev pub HasRoomFor : ℕ → Inner H → ℕ → Type 0
  HasRoomFor room node byte = IsNone (child_at node.children byte) → length node.children < room

  -- each byte with the child at the same index
  abbrev pub sorted_children : List ℕ → List H → ChildMap H
  sorted_children bytes children = zip bytes children

  -- bytes ascend, the children fit, and as much of the prefix is stored as the node can store
  pub record IsInner (prefix_room room : ℕ) (node : Inner H) : Type 0 where
    pub ascending : IsAscending (key_bytes node.children)
    pub fits : length node.children ≤ room
    pub capped_prefix : length node.stored ≡ capped prefix_room node.prefix_len
