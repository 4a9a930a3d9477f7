use Rattle.std.proofs.Common.{◌≡◌, ◌≢◌, IsSome, refl, subst, sym}
use Rattle.art_header.specs.declared.node_type.NodeType.TheVariants as kinds
use Rattle.art_nodes.specs.Pointers.{node_kind}
use Rattle.art_arena.proofs.StandingLaws.{leaf-pointer-is}
use Rattle.art_arena.specs.Arena.{Nothing, held}
use Rattle.art_arena.specs.Ends.{IsAtEnd}
use Rattle.art_arena.specs.Trees.{leaves}
use Rattle.art_index.proofs.EndLemmas.{leaf-at-ends}
use Rattle.art_index.proofs.LikelyLemmas.{tree-held}
use Rattle.art_index.proofs.search.leaf_at_end.Goals as goal

pub returns-in-Some-clause-at_end : goal.returns-in-Some-clause-at_end
returns-in-Some-clause-at_end g c = λ found.
    let kind : node_kind c.args.node ≡ kinds.Leaf = c.cast.ensures.kind.0 (subst IsSome (sym c.in-Some.is) refl) in
    let at = sym (leaf-pointer-is c.args.node c.in-Some.leaf kind c.in-Some.ensures.key) in
    subst (IsAtEnd c.args.end (leaves found.tree)) at (leaf-at-ends g.A.AsBytes.text c.args.arena.now c.args.node found kind c.args.end)

pub returns-in-Some-clause-held : goal.returns-in-Some-clause-held
returns-in-Some-clause-held g c =
    let kind : node_kind c.args.node ≡ kinds.Leaf = c.cast.ensures.kind.0 (subst IsSome (sym c.in-Some.is) refl) in
    let at = sym (leaf-pointer-is c.args.node c.in-Some.leaf kind c.in-Some.ensures.key) in
    subst (λ at. held c.args.arena.now at ≢ Nothing) at (tree-held g.A.AsBytes.text c.args.arena.now c.args.node c.requires)
