use Rattle.std.proofs.Common.{◌≡◌, ◌≤◌, ◌+◌, ◌*◌, ◌++◌, take, vec_len, vec_capacity}
use Rattle.art_mapped.specs.Escaped.{escaped}
use Rattle.art_mapped.proofs.escaped.push_escaped.Given as goal

abbrev pub invariant-loop-byte : goal.invariant-loop-byte
invariant-loop-byte l =
    record {
      text : l.text.items ≡ l.initial.text.items ++ escaped (take l.byte-index l.bytes);
      len : vec_len l.text ≤ vec_len l.initial.text + 2 * l.byte-index;
      capacity : vec_capacity l.initial.text ≤ vec_capacity l.text;
    }
