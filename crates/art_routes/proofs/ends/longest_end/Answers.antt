use Rattle.std.proofs.Common.{arith, get_or}
use Rattle.art_routes.proofs.EndLemmas.{before-longest, last-longest, none-behind, one-less}
use Rattle.art_routes.proofs.ends.longest_end.Goals as goal

pub returns-then-place-key-clause-some : goal.returns-then-place-key-clause-some
returns-then-place-key-clause-some c = λ address most of.
    before-longest c.args.key.now address most of c.args.place c.shorter.result (omega (arith, c.if-place-eq0.false)) (omega (arith, c.if-place-key.true))
    (one-less (get_or c.args.key.now c.args.place 0) c.shorter.result c.shorter.ensures)

pub returns-then-place-key-2-clause-some : goal.returns-then-place-key-2-clause-some
returns-then-place-key-2-clause-some c = λ address most of.
    last-longest c.args.key.now address most of c.args.place (omega (arith, c.if-place-eq0.false)) (omega (arith, c.if-place-key.false)) (omega (arith, c.if-place-key-2.true))

pub returns-else-place-key-2-clause-none : goal.returns-else-place-key-2-clause-none
returns-else-place-key-2-clause-none c = λ address most rest of end.
    none-behind c.args.key.now address most of c.args.place rest (omega (arith, c.if-place-key-2.false)) end
