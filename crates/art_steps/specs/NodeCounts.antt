-- How many nodes of each kind a tree has, as plain data.
use Rattle.std.specs.Prelude.{ℕ, ◌+◌, ◌/◌, length}
use Rattle.art_header.specs.NodeType.{kind_for}
use Rattle.art_header.specs.declared.node_type.NodeType.{NodeType}
use Rattle.art_header.specs.declared.node_type.NodeType.TheVariants as kinds
use Rattle.art_arena.specs.Trees.{Tree, Leaf, Inner, Branches, NoBranch, Branch, branch_roots}

-- 1 where two kinds are the same, and else 0
abbrev pub one_if_same : NodeType → NodeType → ℕ
one_if_same kinds.Node4 kinds.Node4 = 1
one_if_same kinds.Node16 kinds.Node16 = 1
one_if_same kinds.Node48 kinds.Node48 = 1
one_if_same kinds.Node256 kinds.Node256 = 1
one_if_same kinds.Leaf kinds.Leaf = 1
one_if_same _ _ = 0

module _ {H : Type 0} where
  abbrev mutual
    -- how many nodes of a kind a tree has, where each inner node is of the smallest kind that holds its branches
    pub nodes_of : NodeType → Tree H → ℕ
    nodes_of kind (Leaf pointer text) = one_if_same kind kinds.Leaf
    nodes_of kind (Inner pointer prefix branches) = one_if_same kind (kind_for (length (branch_roots branches))) + branch_nodes_of kind branches

    pub branch_nodes_of : NodeType → Branches H → ℕ
    branch_nodes_of kind NoBranch = 0
    branch_nodes_of kind (Branch byte tree others) = nodes_of kind tree + branch_nodes_of kind others

-- the most nodes of a kind that a tree of so many entries has
abbrev pub most_nodes : NodeType → ℕ → ℕ
most_nodes kinds.Node4 entries = entries
most_nodes kinds.Node16 entries = entries / 4
most_nodes kinds.Node48 entries = entries / 16
most_nodes kinds.Node256 entries = entries / 48
most_nodes kinds.Leaf entries = entries
