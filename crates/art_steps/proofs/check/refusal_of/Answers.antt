use Rattle.art_steps.proofs.Names.{◌∙◌, Some, arith, sym, length-map}
use Rattle.art_steps.proofs.LoadLemmas.RefusalLemmas.{not-none, first-fault}
use Rattle.art_steps.proofs.check.refusal_of.Goals as goal

pub returns-clause-no_fault : goal.returns-clause-no_fault
returns-clause-no_fault g c =
    let count = length-map c.args.entries.now (λ entry. g.K.AsBytes.text entry.0) in
    (omega (arith, count, not-none _ _ c.is_empty.ensures c.if-is_empty.false), λ i within. c.loop-index.invariant.no_fault i (omega (arith, within, c.loop-index-test.false, count)))

pub returns-clause-keys : goal.returns-clause-keys
returns-clause-keys g c = λ i other within. c.loop-index.invariant.keys i other (omega (arith, within, c.loop-index-test.false))

pub returns-in-Some-clause-refused : goal.returns-in-Some-clause-refused
returns-in-Some-clause-refused g c = first-fault g.K.AsBytes.text c.args.entries.now c.loop-index.index (Some c.in-Some.refusal) (sym c.in-Some.is ∙ c.fault_of.ensures.fault) c.loop-index-test.true c.loop-index.invariant.no_fault
