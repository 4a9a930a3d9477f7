-- Node kinds: laws for proofs in crates above.
use Rattle.std.proofs.Common.{◌≡◌, ◌≢◌, ◌⊎◌, ℕ, nat_eq, if◌then◌else◌, refl, sym, ◌∙◌, ap, inl, inr}
use Rattle.art_header.specs.declared.node_type.NodeType.{NodeType}
use Rattle.art_header.specs.declared.node_type.NodeType.TheVariants.{Node4, Node16, Node48, Node256, Leaf}
use Rattle.art_nodes.proofs.ChildMapLemmas.{cases_eq}

abbrev number_of : NodeType → ℕ
number_of Node4 = 0
number_of Node16 = 1
number_of Node48 = 2
number_of Node256 = 3
number_of Leaf = 4

abbrev numbered : ℕ → NodeType
numbered n = if nat_eq n 0 then Node4 else if nat_eq n 1 then Node16 else if nat_eq n 2 then Node48 else if nat_eq n 3 then Node256 else Leaf

numbered-number_of : (kind : NodeType) → numbered (number_of kind) ≡ kind
numbered-number_of Node4 = refl
numbered-number_of Node16 = refl
numbered-number_of Node48 = refl
numbered-number_of Node256 = refl
numbered-number_of Leaf = refl

-- two kinds are one or differ
pub same_or_differ : (a b : NodeType) → (a ≡ b) ⊎ (a ≢ b)
same_or_differ a b = elim (cases_eq (number_of a) (number_of b)) [
  | inl same ↦ inl (sym (numbered-number_of a) ∙ ap numbered same ∙ numbered-number_of b)
  | inr differs ↦ inr (λ e. differs (ap number_of e))
]
