use Rattle.art_routes.proofs.LeafNames.{CalledAtPair, IfOk-from_err, false, on_err_always, option_map, refl, slab_key, subst, true, ◌∙◌}
use Rattle.art_routes.proofs.leaves.walk.retain_at.Goals as goal

pub returns-then-keeps : goal.returns-then-keeps
returns-then-keeps g c = λ before entry after cut.
    let made = c.test_at-keeps.ensures before entry after cut in
    let step = subst (λ keeps. CalledAtPair g.F.FnMut c.args.f.now entry.0 entry.1 keeps made.0 c.test_at-keeps.new.f) c.if-keeps.true made.1 in
    (true, made.0, step, c.leaf_behind-next.ensures before (entry.0, made.0) after made.2, tt)

pub returns-in_err-remove_at : goal.returns-in_err-remove_at
returns-in_err-remove_at g c = λ before entry after cut.
    let made = c.test_at-keeps.ensures before entry after cut in
    let step = subst (λ keeps. CalledAtPair g.F.FnMut c.args.f.now entry.0 entry.1 keeps made.0 c.test_at-keeps.new.f) c.if-keeps.false made.1 in
    let refusal = c.from_residual.result in
    (false, made.0, step, IfOk-from_err refusal _ c.from_residual.ensures.0, on_err_always refusal _ (refl, c.in_err-remove_at.ensures.needs_node before (entry.0, made.0) after made.2, c.in_err-remove_at.ensures.same_entries ∙ made.2.0))

pub returns : goal.returns
returns g c = λ before entry after cut.
    let made = c.test_at-keeps.ensures before entry after cut in
    let step = subst (λ keeps. CalledAtPair g.F.FnMut c.args.f.now entry.0 entry.1 keeps made.0 c.test_at-keeps.new.f) c.if-keeps.false made.1 in
    let behind = c.leaf_behind-next.ensures before (entry.0, made.0) after made.2 in
    (false, made.0, step, c.in_ok-remove_at.ensures.removed before (entry.0, made.0) after (option_map slab_key c.leaf_behind-next.result) made.2 behind.1, tt)
