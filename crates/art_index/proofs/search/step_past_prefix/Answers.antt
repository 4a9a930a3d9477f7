use Rattle.std.proofs.Common.{◌<◌, ◌≤◌, length, refl, inl, inr, arith}
use Rattle.art_index.proofs.DescentLemmas.{passes-below, passes-down, passes-end, passes-none}
use Rattle.art_index.proofs.LikelyLemmas.{below-inside, found-inside}
use Rattle.art_index.proofs.search.step_past_prefix.Goals as goal

pub returns-then-len-index-clause-goes : goal.returns-then-len-index-clause-goes
returns-then-len-index-clause-goes g c = λ arena whole holds passes.
    let x = g.Q.RadixQuery.encoded c.args.query in
    let short : length x ≤ c.args.index = omega (arith, c.requires, c.if-len-index.true, c.encoded_len-len.ensures.len) in
    passes-end g.A.AsBytes.text arena x whole c.args.at (g.N.InnerNodeRead.inner c.args.node.now) holds c.args.index passes short

pub returns-then-found-byte-clause-goes : goal.returns-then-found-byte-clause-goes
returns-then-found-byte-clause-goes g c = λ arena whole holds passes.
    let x = g.Q.RadixQuery.encoded c.args.query in
    let inside : c.args.index < length x = omega (arith, c.if-len-index.false, c.encoded_len-len.ensures.len) in
    passes-down g.A.AsBytes.text arena x whole c.args.at (g.N.InnerNodeRead.inner c.args.node.now) holds c.args.index passes c.encoded_byte-byte.result inside c.encoded_byte-byte.ensures c.in-Some.child (c.in-Some.ensures.own c.if-found-byte.true)

pub returns-else-found-byte-clause-goes : goal.returns-else-found-byte-clause-goes
returns-else-found-byte-clause-goes g c = λ arena whole holds passes.
    let x = g.Q.RadixQuery.encoded c.args.query in
    let inside : c.args.index < length x = omega (arith, c.if-len-index.false, c.encoded_len-len.ensures.len) in
    let below = c.in-Some.ensures.below c.if-found-byte.false in
    passes-below g.A.AsBytes.text arena x whole c.args.at (g.N.InnerNodeRead.inner c.args.node.now) holds c.args.index passes c.encoded_byte-byte.result inside c.encoded_byte-byte.ensures below.0 c.in-Some.found c.in-Some.child below.1 below.2

pub returns-in-None-clause-goes : goal.returns-in-None-clause-goes
returns-in-None-clause-goes g c = λ arena whole holds passes.
    let x = g.Q.RadixQuery.encoded c.args.query in
    let inside : c.args.index < length x = omega (arith, c.if-len-index.false, c.encoded_len-len.ensures.len) in
    passes-none g.A.AsBytes.text arena x whole c.args.at (g.N.InnerNodeRead.inner c.args.node.now) holds c.args.index passes c.encoded_byte-byte.result inside c.encoded_byte-byte.ensures c.in-None.ensures.none.0 c.in-None.ensures.none.1

pub returns-then-len-index-clause-stays : goal.returns-then-len-index-clause-stays
returns-then-len-index-clause-stays g c = inl refl

pub returns-then-found-byte-clause-stays : goal.returns-then-found-byte-clause-stays
returns-then-found-byte-clause-stays g c =
    (found-inside (g.N.InnerNodeRead.inner c.args.node.now).children c.encoded_byte-byte.result c.in-Some.child (c.in-Some.ensures.own c.if-found-byte.true), refl)

pub returns-else-found-byte-clause-stays : goal.returns-else-found-byte-clause-stays
returns-else-found-byte-clause-stays g c =
    let below = c.in-Some.ensures.below c.if-found-byte.false in
    inr (below-inside (g.N.InnerNodeRead.inner c.args.node.now).children c.encoded_byte-byte.result c.in-Some.found c.in-Some.child below.1 below.2)

pub returns-in-None-clause-stays : goal.returns-in-None-clause-stays
returns-in-None-clause-stays g c = inl refl
