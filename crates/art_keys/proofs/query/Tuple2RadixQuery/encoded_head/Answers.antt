use Rattle.std.proofs.Common.{◌≡◌, ◌+◌, ◌/◌, ◌*◌, ◌-◌, ◌^◌, ◌++◌, length, arith, sym, ap, ◌∙◌}
use Rattle.std.proofs.lemmas.List.Elements.{All-append}
use Rattle.art_bytes.specs.Text.{IsByte}
use Rattle.art_keys.specs.Heads.{head_at}
use Rattle.art_keys.specs.HeadLaws.{later_head, first_head, both_heads, head_at_below}
use Rattle.art_keys.proofs.query.Tuple2RadixQuery.encoded_head.Given.{Over}
use Rattle.art_keys.proofs.query.Tuple2RadixQuery.encoded_head.Goals as goal
use Rattle.art_keys.proofs.query.Tuple2RadixQuery.encoded_head.Goals.{After-encoded_head-2}

pub returns-then-first-start : goal.returns-then-first-start
returns-then-first-start g c =
    let a = g.P.RadixQuery.encoded c.args.self.now.0 in
    let b = g.Q.RadixQuery.encoded c.args.self.now.1 in
    let len : c.encoded_len-first.result ≡ length a = omega (arith, c.encoded_len-first.ensures.len, c.if-first-start.true, c.ranges.skip.fits) in
    c.encoded_head.ensures ∙ ap (λ n. head_at (c.args.skip - n) b) len ∙ sym (later_head c.args.skip a b (omega (arith, len, c.if-first-start.true)))

both : (g : Over) (c : After-encoded_head-2 g)
    → c.encoded_head-front.result + c.encoded_head-2.result / 2 ^ (8 * (c.encoded_len-first.result - c.args.skip)) ≡ head_at c.args.skip (g.P.RadixQuery.encoded c.args.self.now.0 ++ g.Q.RadixQuery.encoded c.args.self.now.1)
both g c =
    let a = g.P.RadixQuery.encoded c.args.self.now.0 in
    let b = g.Q.RadixQuery.encoded c.args.self.now.1 in
    let len : c.encoded_len-first.result ≡ length a = omega (arith, c.encoded_len-first.ensures.len, c.if-left-ge8.false, c.ranges.skip.fits) in
    let b_text = g.met.Q.RadixQuery.are_bytes c.args.self.now.1 c.encoded_len-later.ensures.query in
    rw (len, c.encoded_head-front.ensures, c.encoded_head-2.ensures) (sym (both_heads c.args.skip a b b_text (omega (arith, len, c.if-first-start.false)) (omega (arith, len, c.if-left-ge8.false))))

pub overflow_add-result : goal.overflow_add-result
overflow_add-result g c =
    let a = g.P.RadixQuery.encoded c.args.self.now.0 in
    let b = g.Q.RadixQuery.encoded c.args.self.now.1 in
    let a_text = g.met.P.RadixQuery.are_bytes c.args.self.now.0 c.encoded_len-first.ensures.query in
    let b_text = g.met.Q.RadixQuery.are_bytes c.args.self.now.1 c.encoded_len-later.ensures.query in
    omega (arith, both g c, head_at_below c.args.skip (a ++ b) (All-append IsByte a b a_text b_text))

pub returns-then-left-ge8 : goal.returns-then-left-ge8
returns-then-left-ge8 g c =
    let a = g.P.RadixQuery.encoded c.args.self.now.0 in
    let b = g.Q.RadixQuery.encoded c.args.self.now.1 in
    c.encoded_head-front.ensures ∙ sym (first_head c.args.skip a b (omega (arith, c.encoded_len-first.ensures.len, c.if-left-ge8.true)))

pub returns : goal.returns
returns g c = both g c
