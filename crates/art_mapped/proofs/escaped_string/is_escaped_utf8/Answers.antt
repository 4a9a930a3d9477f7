use Rattle.std.proofs.Common.{◌∙◌, eqb-true, length, sym}
use Rattle.art_mapped.proofs.EscapedRuns.{IsRun, no_characters, no_room_for_end, ends_exactly, no_other, read_run, fewer, not_empty}
use Rattle.art_mapped.proofs.escaped_string.is_escaped_utf8.Goals as goal

pub returns-then-not-are_utf8 : goal.returns-then-not-are_utf8
returns-then-not-are_utf8 c =
    let is : IsRun c.loop-rest.rest.now c.len_to_zero-run.result = record { within = c.len_to_zero-run.ensures.within; before = c.len_to_zero-run.ensures.before; found = c.len_to_zero-run.ensures.found } in
    (λ yes. cc, λ whole. absurd (no_characters c.args.text.now c.loop-rest.rest.now c.len_to_zero-run.result is c.loop-rest.invariant (λ utf8. let yes = c.are_utf8.ensures.1 utf8 in let no = c.if-not-are_utf8.true in cc) whole))

pub returns-then-end-lt2 : goal.returns-then-end-lt2
returns-then-end-lt2 c =
    let is : IsRun c.loop-rest.rest.now c.len_to_zero-run.result = record { within = c.len_to_zero-run.ensures.within; before = c.len_to_zero-run.ensures.before; found = c.len_to_zero-run.ensures.found } in
    (λ yes. cc, λ whole. absurd (no_room_for_end c.args.text.now c.loop-rest.rest.now c.len_to_zero-run.result is c.loop-rest.invariant c.after-end.result.now c.after-end.ensures c.if-end-lt2.true whole))

pub returns-then-end-eq0 : goal.returns-then-end-eq0
returns-then-end-eq0 c =
    let is : IsRun c.loop-rest.rest.now c.len_to_zero-run.result = record { within = c.len_to_zero-run.ensures.within; before = c.len_to_zero-run.ensures.before; found = c.len_to_zero-run.ensures.found } in
    ends_exactly c.args.text.now c.loop-rest.rest.now c.len_to_zero-run.result is c.loop-rest.invariant c.after-end.result.now c.after-end.ensures (c.are_utf8.ensures.0 c.if-not-are_utf8.false) c.if-end-lt2.false c.if-end-eq0.true

pub returns-else-end-eq0 : goal.returns-else-end-eq0
returns-else-end-eq0 c =
    let is : IsRun c.loop-rest.rest.now c.len_to_zero-run.result = record { within = c.len_to_zero-run.ensures.within; before = c.len_to_zero-run.ensures.before; found = c.len_to_zero-run.ensures.found } in (
      λ yes. absurd (c.if-end-eq0.false (eqb-true _ _ yes)),
      λ whole. absurd (no_other c.args.text.now c.loop-rest.rest.now c.len_to_zero-run.result is c.loop-rest.invariant c.after-end.result.now c.after-end.ensures c.if-end-lt2.false c.if-end.true c.if-end-eq0.false whole),
    )

pub loop-rest-smaller : goal.loop-rest-smaller
loop-rest-smaller c =
    let is : IsRun c.loop-rest.rest.now c.len_to_zero-run.result = record { within = c.len_to_zero-run.ensures.within; before = c.len_to_zero-run.ensures.before; found = c.len_to_zero-run.ensures.found } in
    fewer c.args.text.now c.loop-rest.rest.now c.len_to_zero-run.result is c.loop-rest.invariant c.after-end.result.now c.after-end.ensures c.if-end-lt2.false c.after-rest.result.now c.after-rest.ensures

pub loop-rest-preserved : goal.loop-rest-preserved
loop-rest-preserved c =
    let is : IsRun c.loop-rest.rest.now c.len_to_zero-run.result = record { within = c.len_to_zero-run.ensures.within; before = c.len_to_zero-run.ensures.before; found = c.len_to_zero-run.ensures.found } in
    read_run c.args.text.now c.loop-rest.rest.now c.len_to_zero-run.result is c.loop-rest.invariant c.after-end.result.now c.after-end.ensures (c.are_utf8.ensures.0 c.if-not-are_utf8.false) c.if-end-lt2.false c.if-end.false c.after-rest.result.now c.after-rest.ensures

pub returns : goal.returns
returns c = (
  λ yes. cc,
  λ whole. absurd (not_empty c.args.text.now c.loop-rest.rest.now c.loop-rest.invariant.0 (eqb-true (length c.loop-rest.rest.now) 0 (sym c.is_empty.ensures ∙ c.loop-rest-test.false)) whole),
)
