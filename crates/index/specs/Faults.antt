-- The texts of faults.
use Rattle.std.specs.Prelude.{ℕ, List, codes}
use Rattle.index.specs.declared.fault.Fault.{Fault}
use Rattle.index.specs.declared.fault.Fault.TheVariants.{NoHeader, MissingField, BadAddress, BadTime, UnknownQuery}

-- what a failure's line says of the fault
abbrev pub index_fault_text : Fault → List ℕ
index_fault_text NoHeader = codes "no header"
index_fault_text MissingField = codes "missing field"
index_fault_text BadAddress = codes "bad address"
index_fault_text BadTime = codes "bad time"
index_fault_text UnknownQuery = codes "unknown query"
