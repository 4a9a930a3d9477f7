use Rattle.std.proofs.Common.{◌∙◌, ◌+◌, length, ap, sym}
use Rattle.art_pages.proofs.OrderLemmas.{ordered-same}
use Rattle.art_map.proofs.EntryLemmas.{length-added, length-replaced}
use Rattle.art_map.proofs.map.Map.put.Goals as goal

pub invariant_of-self : goal.invariant_of-self
invariant_of-self g c =
    let cmp = g.K.Ord.cmp in
    let ordered = ordered-same g.K.KeyBytes.order cmp _ g.met.K.RadixKey.ordered c.self.invariant.0.ordered in (
      c.put.ensures.map,
      c.self.invariant.1 ∙ sym (length-replaced cmp c.args.key c.args.value g.met.K.Ord.total _ c.in-Ok-Some.old ordered (sym (sym c.in-Ok-Some.field-0-is ∙ c.in-Ok-Some.ensures.old)))
          ∙ ap length (sym c.in-Ok-Some.ensures.entries),
    )

pub invariant_of-self-in-Ok-None : goal.invariant_of-self-in-Ok-None
invariant_of-self-in-Ok-None g c =
    let cmp = g.K.Ord.cmp in (
      c.put.ensures.map,
      ap (λ n. n + 1) c.self.invariant.1 ∙ sym (length-added cmp c.args.key c.args.value _ (sym (sym c.in-Ok-None.field-0-is ∙ c.in-Ok-None.ensures.old))) ∙ ap length (sym c.in-Ok-None.ensures.entries),
    )
