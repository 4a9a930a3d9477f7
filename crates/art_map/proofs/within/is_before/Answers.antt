use Rattle.std.proofs.Common.{◌∙◌, [], ap, arith, sym}
use Rattle.std.specs.Ordering.{is_lt}
use Rattle.art_bytes.specs.Text.{text_order}
use Rattle.art_map.specs.Runs.{rank_at}
use Rattle.art_map.proofs.SpanLemmas.{before-by-text, behind-by-text}
use Rattle.art_map.proofs.within.is_before.Goals as goal

pub returns-then-key-clause-behind : goal.returns-then-key-clause-behind
returns-then-key-clause-behind g c = λ said.
    let ranks = ap (rank_at c.args.tree.now.arena) (sym c.key.ensures ∙ c.if-key.true ∙ c.key-2.ensures) in omega (arith, ranks)

pub returns-clause-before : goal.returns-clause-before
returns-clause-before g c = λ said.
    let here = c.requires.leaf in let there = c.requires.other in
    let one = c.as_bytes-anchor.ensures.text ∙ ap (λ e. e.0) (c.page.ensures here) in
    let two = c.as_bytes-other_anchor.ensures.text ∙ ap (λ e. e.0) (c.page-2.ensures there) in
    before-by-text [] c.args.tree.now.arena c.args.leaf c.args.other here there
    (sym (c.is_lt.ensures ∙ ap is_lt (c.cmp.ensures ∙ (λ i. text_order (one i) (two i)))) ∙ said)

pub returns-clause-behind : goal.returns-clause-behind
returns-clause-behind g c = λ said.
    let here = c.requires.leaf in let there = c.requires.other in
    let one = c.as_bytes-anchor.ensures.text ∙ ap (λ e. e.0) (c.page.ensures here) in
    let two = c.as_bytes-other_anchor.ensures.text ∙ ap (λ e. e.0) (c.page-2.ensures there) in
    behind-by-text [] c.args.tree.now.arena c.args.leaf c.args.other here there
    (sym (c.is_lt.ensures ∙ ap is_lt (c.cmp.ensures ∙ (λ i. text_order (one i) (two i)))) ∙ said)
