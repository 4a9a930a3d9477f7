use Rattle.std.proofs.Common.{rules}
use Rattle.art_cli.proofs.replay.parse.fault_of_count.Goals as goal

pub returns-in-w-clause-fault : goal.returns-in-w-clause-fault
returns-in-w-clause-fault c = search rules

pub returns-in-w-2-clause-fault : goal.returns-in-w-2-clause-fault
returns-in-w-2-clause-fault c = search rules

pub returns-in-w-3-clause-fault : goal.returns-in-w-3-clause-fault
returns-in-w-3-clause-fault c = search rules

pub returns-in-w-4-clause-fault : goal.returns-in-w-4-clause-fault
returns-in-w-4-clause-fault c = search rules

pub returns-in-w-5-clause-fault : goal.returns-in-w-5-clause-fault
returns-in-w-5-clause-fault c = search rules

pub returns-in-w-6-clause-fault : goal.returns-in-w-6-clause-fault
returns-in-w-6-clause-fault c = search rules
