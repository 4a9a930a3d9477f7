-- The lines that `replay` prints, as bytes.
use Rattle.std.specs.Prelude.{ℕ, ◌++◌, List, None, Some, codes}
use Rattle.std.specs.List.{flat_map}
use Rattle.std.specs.Fmt.{decimal}
use Rattle.art_header.specs.NodeType.{kind_for}
use Rattle.program_lines.specs.Lines.{line}
use Rattle.art_nodes.specs.declared.NodeType.{NodeType}
use Rattle.art_nodes.specs.declared.NodeType.TheVariants.{Node4, Node16, Node48, Node256, Leaf}
use Rattle.art_nodes.specs.Pointers.{node_kind, opaque_key}
use Rattle.art_nodes.specs.declared.OpaqueNodePtr.{OpaqueNodePtr}
use Rattle.art_nodes.specs.declared.ChildReply.{ChildReply}
use Rattle.art_nodes.specs.declared.ChildReply.TheVariants.{Child, Pair, Pairs, InvalidBounds}

-- the key where the kind is a leaf's
abbrev pub leaf_key_text : NodeType → ℕ → List ℕ
leaf_key_text Leaf key = decimal key
leaf_key_text _ key = codes "none"

-- the name of a kind of node
abbrev pub kind_text : NodeType → List ℕ
kind_text Node4 = codes "Node4"
kind_text Node16 = codes "Node16"
kind_text Node48 = codes "Node48"
kind_text Node256 = codes "Node256"
kind_text Leaf = codes "Leaf"

-- the name of the smallest kind that holds so many children
abbrev pub smallest_kind_text : ℕ → List ℕ
smallest_kind_text count = kind_text (kind_for count)

module _ {K V : Type 0} {P : ℕ} where
  -- a child is shown by the key of its leaf
  abbrev pub child_text : OpaqueNodePtr K V P → List ℕ
  child_text child = leaf_key_text (node_kind child) (opaque_key child)

  -- one of the pairs of a range
  abbrev pub pair_text : ℕ × OpaqueNodePtr K V P → List ℕ
  pair_text pair = codes " " ++ decimal pair.0 ++ codes ":" ++ child_text pair.1

  -- a reply
  abbrev pub reply_text : ChildReply K V P → List ℕ
  reply_text (Child None) = codes "child none"
  reply_text (Child (Some child)) = codes "child " ++ child_text child
  reply_text (Pair None) = codes "pair none"
  reply_text (Pair (Some pair)) = codes "pair " ++ decimal pair.0 ++ codes " " ++ child_text pair.1
  reply_text (Pairs pairs) = codes "pairs" ++ flat_map pair_text pairs
  reply_text InvalidBounds = codes "invalid bounds"

  -- a line for each reply, and one for the node that is left, by its count of children
  abbrev pub output_of : List (ChildReply K V P) → ℕ → List ℕ
  output_of replies count =
      flat_map (λ reply. line (reply_text reply)) replies ++ line (codes "node " ++ smallest_kind_text count ++ codes " " ++ decimal count)
