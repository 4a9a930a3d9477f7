-- The kinds of nodes, by number of children.
use Rattle.std.specs.Prelude.{ℕ, if◌then◌else◌, nat_le}
use Rattle.art_header.specs.declared.node_type.NodeType.{NodeType}
use Rattle.art_header.specs.declared.node_type.NodeType.TheVariants.{Node4, Node16, Node48, Node256, Leaf}

-- the least number of children of a node of the kind in a tree
abbrev pub least_children : NodeType → ℕ
least_children Node4 = 2
least_children Node16 = 5
least_children Node48 = 17
least_children Node256 = 49
least_children Leaf = 0

-- the greatest number of children of a node of the kind
abbrev pub most_children : NodeType → ℕ
most_children Node4 = 4
most_children Node16 = 16
most_children Node48 = 48
most_children Node256 = 256
most_children Leaf = 0

-- the next greater kind of inner node, or the kind itself where there is none
abbrev pub grown_kind : NodeType → NodeType
grown_kind Node4 = Node16
grown_kind Node16 = Node48
grown_kind Node48 = Node256
grown_kind Node256 = Node256
grown_kind Leaf = Leaf

-- the next smaller kind of inner node, or the kind itself where there is none
abbrev pub shrunk_kind : NodeType → NodeType
shrunk_kind Node4 = Node4
shrunk_kind Node16 = Node4
shrunk_kind Node48 = Node16
shrunk_kind Node256 = Node48
shrunk_kind Leaf = Leaf

-- the smallest kind that holds this many children
abbrev pub kind_for : ℕ → NodeType
kind_for count =
    if nat_le count 4 then Node4 else
    if nat_le count 16 then Node16 else
    if nat_le count 48 then Node48 else
    Node256
