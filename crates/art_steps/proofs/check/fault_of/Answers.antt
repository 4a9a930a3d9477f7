use Rattle.std.proofs.Common.{◌∙◌, sym}
use Rattle.art_steps.proofs.LoadLemmas.RefusalLemmas.{text-there, fault-long}
use Rattle.art_steps.proofs.check.fault_of.Goals as goal

pub returns-then-text-clause-fault : goal.returns-then-text-clause-fault
returns-then-text-clause-fault g c =
    let is = c.as_bytes-text.ensures.text ∙ sym (text-there g.K.AsBytes.text c.args.entries.now c.args.index c.index-entries-index.result c.requires) in
    fault-long _ c.args.index _ is c.if-text.true
