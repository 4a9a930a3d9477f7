use Rattle.std.proofs.Common.{◌+◌, refl, inl, subst, arith}
use Rattle.art_index.specs.Descent.{StaysIn}
use Rattle.art_index.proofs.likely.likely_step_from_inner.Goals as goal

pub compare_at-requires : goal.compare_at-requires
compare_at-requires g c = omega (arith, c.requires, c.stored_prefix-stored.ensures.capped)

pub returns-in-Less : goal.returns-in-Less
returns-in-Less g c = inl refl

pub returns-in-Equal : goal.returns-in-Equal
returns-in-Equal g c = subst (λ n. StaysIn (g.N.InnerNodeRead.inner c.args.node.now) c.args.at (c.args.depth + n) c.step_past_prefix.result) c.prefix_len.ensures.value c.step_past_prefix.ensures.stays

pub returns-in-Greater : goal.returns-in-Greater
returns-in-Greater g c = inl refl
