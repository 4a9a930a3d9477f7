use Rattle.std.proofs.Common.{◌/◌, ◌%◌, ◌<◌, ◌∙◌, ap, arith, ◌==◌, length}
use Rattle.std.specs.Int.{w64}
use Rattle.std.proofs.lemmas.Nat.Bits.{bit_at_clear_same, bit_at_clear_other}
use Rattle.art_nodes.proofs.ByteSetLemmas.{has_byte-written, has_byte-others}
use Rattle.art_nodes.proofs.inner_nodes.tables.byte_set.ByteSet.remove.Goals as goal

pub returns-clause-removed : goal.returns-clause-removed
returns-clause-removed c =
    let words = c.args.self.now.words in
    let byte = c.from-byte.result in
    let within : byte / 64 < length words = omega arith in
    let bit : byte % 64 < 64 = omega arith in
    rw (← c.from-byte.ensures) (has_byte-written words byte _ within ∙ ap (λ b. b == 1) (bit_at_clear_same w64 _ (byte % 64) bit))

pub returns-clause-others_kept : goal.returns-clause-others_kept
returns-clause-others_kept c =
    let words = c.args.self.now.words in
    let byte = c.from-byte.result in
    let within : byte / 64 < length words = omega arith in
    let bit : byte % 64 < 64 = omega arith in
    rw (← c.from-byte.ensures) (has_byte-others words byte _ within (λ other under differs. bit_at_clear_other w64 _ (byte % 64) bit other under differs))
