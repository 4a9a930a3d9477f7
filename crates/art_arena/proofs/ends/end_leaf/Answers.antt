use Rattle.std.proofs.Common.{◌≡◌, ◌≢◌, ◌∙◌, ◌<◌, length, sym, subst, ap, arith}
use Rattle.slab.specs.Slab.{get}
use Rattle.art_nodes.specs.Inner.{Inner}
use Rattle.art_nodes.specs.Pointers.{slab_key, opaque_key}
use Rattle.art_arena.specs.Arena.{held, HeldInner, Nothing}
use Rattle.art_arena.specs.Ends.{IsAtEnd}
use Rattle.art_arena.specs.Trees.{leaves}
use Rattle.art_arena.proofs.DescentLemmas.{held-there, step-down, two-children, way-end}
use Rattle.art_arena.proofs.EndLemmas.{EndsIn, end-branch-of, ends-alone}
use Rattle.art_arena.proofs.StandingLaws.{at-some, leaf-pointer-is}
use Rattle.art_arena.proofs.WayLemmas.{held_leaf-some}
use Rattle.art_arena.proofs.ends.end_leaf.Goals as goal

pub way-init : goal.way-init
way-init g c = λ found. record { below = found; kept = λ leaf at_end. at_end }

pub step_to_end-requires : goal.step_to_end-requires
step_to_end-requires g c =
    let here = (c.way.invariant c.requires.tree).below in
    let text = g.K.AsBytes.text in
    let arena = c.args.arena.now in
    let there : held arena c.way.at ≢ Nothing = held-there text arena c.way.at here in
    let has_child : (node : Inner _) → held arena c.way.at ≡ HeldInner node → 0 < length node.children =
    λ node is. omega (arith, two-children text arena c.way.at here node is) in
    search

pub way-preserved : goal.way-preserved
way-preserved g c = λ found.
    let (node, byte, holds, pair) = c.in-Some.ensures.child in
    let text = g.K.AsBytes.text in
    let arena = c.args.arena.now in
    (step-down text arena (EndsIn c.args.end) found.tree c.way.at (c.way.invariant found) node c.in-Some.child holds (end-branch-of text arena c.args.end node byte c.in-Some.child pair)).0

pub way-smaller : goal.way-smaller
way-smaller g c =
    let found = c.requires.tree in
    let (node, byte, holds, pair) = c.in-Some.ensures.child in
    let text = g.K.AsBytes.text in
    let arena = c.args.arena.now in
    (step-down text arena (EndsIn c.args.end) found.tree c.way.at (c.way.invariant found) node c.in-Some.child holds (end-branch-of text arena c.args.end node byte c.in-Some.child pair)).1

pub unwrap-requires : goal.unwrap-requires
unwrap-requires g c = c.cast.ensures.kind.1 c.in-None.ensures.leaf

pub returns-in-None-clause-at_end : goal.returns-in-None-clause-at_end
returns-in-None-clause-at_end g c = λ found.
    let arena = c.args.arena.now in
    let text = g.K.AsBytes.text in
    let on = c.way.invariant found in
    let at = sym (leaf-pointer-is c.way.at c.unwrap.result c.in-None.ensures.leaf (at-some (λ leaf. slab_key leaf ≡ opaque_key c.way.at) c.cast.result c.unwrap.result c.unwrap.ensures c.cast.ensures.key)) in
    let value = held_leaf-some (get arena.leaf (slab_key c.unwrap.result)) (λ free. held-there text arena c.way.at on.below (ap (held arena) at ∙ free)) in
    let there = way-end text arena (EndsIn c.args.end) found.tree c.way.at on value.0 (ap (held arena) at ∙ value.1) (λ x. ends-alone c.args.end (c.way.at, x)) in
    subst (IsAtEnd c.args.end (leaves found.tree)) at (there.0, there.1.0, there.1.1)

pub returns-in-None-clause-held : goal.returns-in-None-clause-held
returns-in-None-clause-held g c =
    let at = sym (leaf-pointer-is c.way.at c.unwrap.result c.in-None.ensures.leaf (at-some (λ leaf. slab_key leaf ≡ opaque_key c.way.at) c.cast.result c.unwrap.result c.unwrap.ensures c.cast.ensures.key)) in
    subst (λ at. held c.args.arena.now at ≢ Nothing) at (held-there g.K.AsBytes.text c.args.arena.now c.way.at (c.way.invariant c.requires.tree).below)
