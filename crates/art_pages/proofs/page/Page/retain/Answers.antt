use Rattle.std.proofs.Common.{length, ap, arith}
use Rattle.art_pages.specs.Contents.{PageContents}
use Rattle.art_pages.specs.Entries.{IsIndexable}
use Rattle.art_pages.proofs.RetainLemmas.{keys-retained, ordered-retained, pairs-shorter, retains-pairs}
use Rattle.art_pages.proofs.page.Page.retain.Goals as goal

pub overflow_sub-gone : goal.overflow_sub-gone
overflow_sub-gone g c =
    let step = g.F.Keeps.step in let old = c.self.inside.pairs in let new = c.retain_pairs.new.pairs in
    let shorter = pairs-shorter step old.items new.items c.args.test.now (retains-pairs step old.items new.items c.args.test.now c.retain_pairs.new.test c.retain_pairs.ensures.retained) in
    omega (arith, shorter, old.ok.0, new.ok.0, c.len-before.ensures, c.len.ensures)

pub invariant_of-self : goal.invariant_of-self
invariant_of-self g c =
    let step = g.F.Keeps.step in let old = c.self.inside.pairs.items in let new = c.retain_pairs.new.pairs.items in
    let tested = c.retain_pairs.ensures.retained in (
      ordered-retained step g.K.KeyBytes.order old new c.args.test.now c.retain_pairs.new.test tested c.self.invariant.0,
      keys-retained step (IsIndexable g.K.KeyBytes.is_key g.K.KeyBytes.encoded) old new c.args.test.now c.retain_pairs.new.test tested c.self.invariant.1,
    )

pub invariant_of-self-else-gone-ne0 : goal.invariant_of-self-else-gone-ne0
invariant_of-self-else-gone-ne0 g c =
    let step = g.F.Keeps.step in let old = c.self.inside.pairs.items in let new = c.retain_pairs.new.pairs.items in
    let tested = c.retain_pairs.ensures.retained in (
      ordered-retained step g.K.KeyBytes.order old new c.args.test.now c.retain_pairs.new.test tested c.self.invariant.0,
      keys-retained step (IsIndexable g.K.KeyBytes.is_key g.K.KeyBytes.encoded) old new c.args.test.now c.retain_pairs.new.test tested c.self.invariant.1,
    )

pub returns-else-gone-ne0-clause-gone : goal.returns-else-gone-ne0-clause-gone
returns-else-gone-ne0-clause-gone g c =
    let step = g.F.Keeps.step in let old = c.self.inside.pairs in let new = c.retain_pairs.new.pairs in
    let shorter = pairs-shorter step old.items new.items c.args.test.now (retains-pairs step old.items new.items c.args.test.now c.retain_pairs.new.test c.retain_pairs.ensures.retained) in
    let was = ap (λ (page : PageContents _ _). length page.entries) c.self.view_is in
    omega (arith, shorter, was, old.ok.0, new.ok.0, c.len-before.ensures, c.len.ensures)
