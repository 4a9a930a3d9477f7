use Rattle.std.proofs.Common.{◌≡◌, ◌∙◌, ◌+◌, ◌<◌, ◌≤◌, [], ◌∷◌, ◌++◌, length, take, get_or, sym, ap, subst, arith, add-one}
use Rattle.art_bytes.specs.Text.{IsPrefixOf}
use Rattle.art_index.proofs.ByteLemmas.{ends-here, front, next-byte, one-more, own-byte}
use Rattle.art_index.proofs.OrderLemmas.{greater-byte, lesser-byte, longer-above}
use Rattle.art_index.proofs.search.compare_at.Goals as goal

pub returns-then-len-index : goal.returns-then-len-index
returns-then-len-index g c = λ path deep leads y on.
    let x = g.Q.RadixQuery.encoded c.args.query in
    let bytes = c.args.bytes.now in
    let i = c.loop-byte.byte-index in
    let inside : i < length bytes = omega arith in
    let shared = c.loop-byte.invariant.shared path deep leads in
    let short : length x ≤ length path + i = omega (arith, deep, c.loop-byte.invariant.at, c.if-len-index.true, c.encoded_len-len.ensures.len, c.requires) in
    longer-above x (get_or bytes i 0) y (subst (λ f. IsPrefixOf (f ++ get_or bytes i 0 ∷ []) y) (sym (ends-here x bytes path i inside shared short)) (next-byte x bytes path i inside y on))

pub returns-then-byte-own : goal.returns-then-byte-own
returns-then-byte-own g c = λ path deep leads y on.
    let x = g.Q.RadixQuery.encoded c.args.query in
    let bytes = c.args.bytes.now in
    let i = c.loop-byte.byte-index in
    let inside : i < length bytes = omega arith in
    let shared = c.loop-byte.invariant.shared path deep leads in
    let at : c.loop-byte.index ≡ length path + i = omega (arith, deep, c.loop-byte.invariant.at) in
    let within : length path + i < length x = omega (arith, at, c.if-len-index.false, c.encoded_len-len.ensures.len) in
    let own : c.encoded_byte-own.result ≡ get_or x (length path + i) 0 = c.encoded_byte-own.ensures ∙ ap (λ n. get_or x n 0) at in
    lesser-byte (front x bytes path i inside) (get_or bytes i 0) (get_or x (length path + i) 0) y x (next-byte x bytes path i inside y on) (own-byte x bytes path i inside shared within) (omega (arith, own, c.if-byte-own.true))

pub returns-then-own-byte : goal.returns-then-own-byte
returns-then-own-byte g c = λ path deep leads y on.
    let x = g.Q.RadixQuery.encoded c.args.query in
    let bytes = c.args.bytes.now in
    let i = c.loop-byte.byte-index in
    let inside : i < length bytes = omega arith in
    let shared = c.loop-byte.invariant.shared path deep leads in
    let at : c.loop-byte.index ≡ length path + i = omega (arith, deep, c.loop-byte.invariant.at) in
    let within : length path + i < length x = omega (arith, at, c.if-len-index.false, c.encoded_len-len.ensures.len) in
    let own : c.encoded_byte-own.result ≡ get_or x (length path + i) 0 = c.encoded_byte-own.ensures ∙ ap (λ n. get_or x n 0) at in
    greater-byte (front x bytes path i inside) (get_or bytes i 0) (get_or x (length path + i) 0) y x (next-byte x bytes path i inside y on) (own-byte x bytes path i inside shared within) (omega (arith, own, c.if-own-byte.true))

pub loop-byte-preserved : goal.loop-byte-preserved
loop-byte-preserved g c = record {
  at = omega (arith, c.loop-byte.invariant.at);
  shared = λ path deep leads.
      let x = g.Q.RadixQuery.encoded c.args.query in
      let bytes = c.args.bytes.now in
      let i = c.loop-byte.byte-index in
      let inside : i < length bytes = omega arith in
      let shared = c.loop-byte.invariant.shared path deep leads in
      let at : c.loop-byte.index ≡ length path + i = omega (arith, deep, c.loop-byte.invariant.at) in
      let within : length path + i < length x = omega (arith, at, c.if-len-index.false, c.encoded_len-len.ensures.len) in
      let own : c.encoded_byte-own.result ≡ get_or x (length path + i) 0 = c.encoded_byte-own.ensures ∙ ap (λ n. get_or x n 0) at in
      let same : get_or x (length path + i) 0 ≡ get_or bytes i 0 = omega (arith, own, c.if-byte-own.false, c.if-own-byte.false) in
      subst (λ n. IsPrefixOf (path ++ take n bytes) x) (sym (add-one i)) (one-more x bytes path i inside shared within same);
}
