use Rattle.std.proofs.Common.{◌≡◌, ◌++◌, take}
use Rattle.std.specs.List.{flat_map}
use Rattle.program_lines.specs.Messages.{shown_byte}
use Rattle.program_lines.proofs.message.push_escaped.Given as goal

-- the bytes so far are appended, as shown
abbrev pub invariant-loop-byte : goal.invariant-loop-byte
invariant-loop-byte l = l.output.items ≡ l.initial.output.items ++ flat_map shown_byte (take l.byte-index l.bytes)
