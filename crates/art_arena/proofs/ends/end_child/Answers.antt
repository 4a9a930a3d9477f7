use Rattle.std.proofs.Common.{◌∙◌, ap, sym, Some}
use Rattle.art_arena.specs.Ends.{end_pair}
use Rattle.art_arena.proofs.ends.end_child.Goals.{in-First, in-Last}
use Rattle.art_arena.proofs.ends.end_child.Goals as goal

pub returns : goal.returns
returns g c =
    let children = (g.N.InnerNodeRead.inner c.args.node.now).children in
    elim c.match-end.branch [
      | in-First w ↦ (w.min.result.0, ap (λ end. end_pair end children) w.in-First.is ∙ w.min.ensures.pair ∙ ap (λ pair. Some (w.min.result.0, pair.1)) (sym w.t-5-is))
      | in-Last w ↦ (w.max.result.0, ap (λ end. end_pair end children) w.in-Last.is ∙ w.max.ensures.pair ∙ ap (λ pair. Some (w.max.result.0, pair.1)) (sym w.t-5-is))
    ]
