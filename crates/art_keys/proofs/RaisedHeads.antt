-- The head of eight bytes of a string.
use Rattle.std.proofs.Common.{◌≡◌, ℕ, ◌+◌, ◌*◌, ◌^◌, ◌<◌, ◌≤◌, List, length, get_or, drop, arith, ap, ◌∙◌}
use Rattle.std.proofs.lemmas.List.{get_or-drop}
use Rattle.art_keys.specs.Heads.{head_of, head_at}
use Rattle.art_keys.specs.HeadLaws.{head_of-more}
use Rattle.art_keys.specs.Strings.{raised}
use Rattle.art_keys.specs.StringLaws.{raised_byte}

head_of-eight : (text : List ℕ)
    → head_of 8 text ≡ get_or text 0 0 * 256 ^ 7 + get_or text 1 0 * 256 ^ 6 + get_or text 2 0 * 256 ^ 5 + get_or text 3 0 * 256 ^ 4 + get_or text 4 0 * 256 ^ 3 + get_or text 5 0 * 256 ^ 2 + get_or text 6 0 * 256 + get_or text 7 0
head_of-eight text =
    omega (arith, head_of-more 0 text, head_of-more 1 text, head_of-more 2 text, head_of-more 3 text, head_of-more 4 text, head_of-more 5 text, head_of-more 6 text, head_of-more 7 text)

-- a byte of a string behind the first `skip` of its encoding
byte_behind : (bytes : List ℕ) (skip place : ℕ) → skip + place < length bytes → get_or (drop skip (raised bytes)) place 0 ≡ get_or bytes (skip + place) 0 + 1
byte_behind bytes skip place here = get_or-drop skip (raised bytes) place 0 ∙ raised_byte bytes (skip + place) here

pub raised_eight : (bytes : List ℕ) (skip : ℕ) → skip + 8 ≤ length bytes
    → head_at skip (raised bytes) ≡ get_or bytes skip 0 * 256 ^ 7 + get_or bytes (skip + 1) 0 * 256 ^ 6 + get_or bytes (skip + 2) 0 * 256 ^ 5 + get_or bytes (skip + 3) 0 * 256 ^ 4 + get_or bytes (skip + 4) 0 * 256 ^ 3 + get_or bytes (skip + 5) 0 * 256 ^ 2 + get_or bytes (skip + 6) 0 * 256 + get_or bytes (skip + 7) 0 + 72340172838076673
raised_eight bytes skip enough =
    let begin : skip + 0 ≡ skip = omega arith in
    let first : get_or (drop skip (raised bytes)) 0 0 ≡ get_or bytes skip 0 + 1 = byte_behind bytes skip 0 (omega arith) ∙ ap (λ index. get_or bytes index 0 + 1) begin in
    omega (arith, head_of-eight (drop skip (raised bytes)), first, byte_behind bytes skip 1 (omega arith), byte_behind bytes skip 2 (omega arith), byte_behind bytes skip 3 (omega arith), byte_behind bytes skip 4 (omega arith), byte_behind bytes skip 5 (omega arith), byte_behind bytes skip 6 (omega arith), byte_behind bytes skip 7 (omega arith))
