use Rattle.std.proofs.Common.{◌≡◌, ◌≢◌, ◌∙◌, ◌+◌, ◌<◌, ◌^◌, rules, arith}
use Rattle.art_arena.proofs.StandingLaws.{inner-there}
use Rattle.art_arena.specs.Arena.{HeldInner, Nothing, held}
use Rattle.art_arena.specs.InnerRef.{inner_shown}
use Rattle.art_arena.specs.Reader.{shown}
use Rattle.art_index.proofs.LikelyLemmas.{below-fits, stays-below, tree-held}
use Rattle.art_index.proofs.likely.likely_step.Goals as goal

pub node_ref-requires : goal.node_ref-requires
node_ref-requires g c =
    let there : held c.args.arena.now c.args.at ≢ Nothing = tree-held g.A.AsBytes.text c.args.arena.now c.args.at c.requires.found in
    search rules

pub returns-in_default : goal.returns-in_default
returns-in_default g c = c.requires.found

pub likely_step_from_inner-requires : goal.likely_step_from_inner-requires
likely_step_from_inner-requires g c =
    let holds : held c.args.arena.now c.args.at ≡ HeldInner (inner_shown c.in-Some.node) = c.node_ref.ensures.node ∙ inner-there (shown c.node_ref.result) c.inner.result c.inner.ensures.node c.in-Some.node c.in-Some.is in
    let fits = below-fits g.A.AsBytes.text c.args.arena.now c.args.at c.requires.found (inner_shown c.in-Some.node) holds in
    let short : c.args.depth + (inner_shown c.in-Some.node).prefix_len + 1 < 2 ^ 64 = omega (arith, fits, c.requires.deep) in
    search rules

pub returns : goal.returns
returns g c =
    let holds : held c.args.arena.now c.args.at ≡ HeldInner (inner_shown c.in-Some.node) = c.node_ref.ensures.node ∙ inner-there (shown c.node_ref.result) c.inner.result c.inner.ensures.node c.in-Some.node c.in-Some.is in
    stays-below g.A.AsBytes.text c.args.arena.now c.args.at c.args.depth c.requires (inner_shown c.in-Some.node) holds c.likely_step_from_inner.result c.likely_step_from_inner.ensures
