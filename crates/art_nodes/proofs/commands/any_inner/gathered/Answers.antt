use Rattle.std.proofs.Common.{sym, ◌∙◌, append_assoc}
use Rattle.std.proofs.lemmas.List.{append-nil}
use Rattle.art_nodes.proofs.commands.any_inner.gathered.Goals as goal

pub loop-pair-init : goal.loop-pair-init
loop-pair-init g c = rw c.in_ok-gathered.ensures.items c.into_iter-pair-iterator.ensures.into_iter_gives

pub loop-pair-preserved : goal.loop-pair-preserved
loop-pair-preserved g c = rw (c.in_ok-push.ensures.items, append_assoc, ← c.in-Some.ensures.steps) c.loop-pair.invariant

pub returns : goal.returns
returns g c = sym (append-nil c.loop-pair.gathered.items) ∙ (rw c.in-None.ensures.steps.0 at c.loop-pair.invariant)
