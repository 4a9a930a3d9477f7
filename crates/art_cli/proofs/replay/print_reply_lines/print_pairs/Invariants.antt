use Rattle.std.proofs.Common.{◌≡◌, ◌++◌, take, string_bytes}
use Rattle.std.specs.List.{flat_map}
use Rattle.art_cli.specs.Reply.{pair_text}
use Rattle.art_cli.proofs.replay.print_reply_lines.print_pairs.Given as goal

abbrev pub invariant-loop-byte : goal.invariant-loop-byte
invariant-loop-byte l =
    string_bytes l.text ≡ string_bytes l.initial.text ++ flat_map pair_text (take l.byte-index l.pairs)
