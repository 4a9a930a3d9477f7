use Rattle.std.proofs.Common.{◌≢◌, IfErr, subst}
use Rattle.art_steps.specs.declared.faults.InsertRefusal.TheVariants.{OutOfMemory}
use Rattle.art_map_tests.proofs.map.reserved_entries.enter.Goals as goal

pub returns-in-Ok-clause-lasts : goal.returns-in-Ok-clause-lasts
returns-in-Ok-clause-lasts g c = c.insert.ensures.room_lasts

pub returns-clause-enough : goal.returns-clause-enough
returns-clause-enough g c =
    λ count room. subst (λ entered. IfErr entered (λ fault. fault.refusal ≢ OutOfMemory)) c.in-Err.is (c.insert.ensures.room_suffices count room)

pub returns-clause-lasts : goal.returns-clause-lasts
returns-clause-lasts g c = c.insert.ensures.room_lasts
