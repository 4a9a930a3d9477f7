use Rattle.std.proofs.Common.{◌≡◌, ◌++◌, take}
use Rattle.std.specs.List.{flat_map}
use Rattle.program_lines.specs.Lines.{line}
use Rattle.words.specs.Places.{entry_words}
use Rattle.words.proofs.replies.push_first_words.Given as goal

-- the lines so far and those of the first keys that are left are all lines
abbrev pub invariant-loop-key : goal.invariant-loop-key
invariant-loop-key l =
    l.output.items ++ flat_map line (take l.left (entry_words l.key-iterator)) ≡ l.initial.output.items ++ flat_map line (take l.initial.left (entry_words l.initial.key-iterator))
