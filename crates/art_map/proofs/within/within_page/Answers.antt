use Rattle.std.proofs.Common.{◌-◌, ◌∙◌, ap, drop, sym, take}
use Rattle.art_map.specs.Ranges.{is_from, is_past}
use Rattle.art_map.proofs.WithinLemmas.{between-part, within-gaps}
use Rattle.art_map.proofs.within.within_page.Goals as goal

pub returns-clause-within : goal.returns-clause-within
returns-clause-within g c =
    c.slice_between.ensures ∙ ap (λ l. drop c.start_in.result (take c.end_in.result l)) c.entries.ensures.entries
    ∙ sym (within-gaps (λ entry. is_from g.P.RadixQuery.compare c.args.start entry.0) (λ entry. is_past g.Q.RadixQuery.compare c.args.end entry.0) c.args.page.now.entries
    c.start_in.result c.end_in.result c.start_in.ensures.gap c.end_in.ensures.gap)

pub returns-clause-part : goal.returns-clause-part
returns-clause-part g c =
    let from = c.start_in.result in let to = c.end_in.result in
    (from, to - from, c.slice_between.ensures ∙ ap (λ l. drop from (take to l)) c.entries.ensures.entries ∙ between-part c.args.page.now.entries from to)
