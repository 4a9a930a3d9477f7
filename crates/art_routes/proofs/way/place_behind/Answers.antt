use Rattle.std.proofs.Common.{◌≡◌, ◌∙◌, ◌-◌, true, false, List, ◌++◌, ℕ, length, take, drop, sym, ap}
use Rattle.std.proofs.lemmas.Bool.Decides.{Decides-eqb}
use Rattle.std.proofs.lemmas.List.{take_rest}
use Rattle.std.proofs.lemmas.Slice.Eq.{starts_is}
use Rattle.art_routes.proofs.way.place_behind.Goals as goal

pub returns-then-starts_with-clause-matched : goal.returns-then-starts_with-clause-matched
returns-then-starts_with-clause-matched g c =
    let key = c.args.key.now in
    let depth = c.args.depth in
    let rest : List ℕ = take (length key - depth) (drop depth key) in
    let prefix : List ℕ = c.stored_prefix-prefix.result.now in
    let told = starts_is Decides-eqb rest prefix c.starts_with.result c.starts_with.ensures.value in
    (drop (length prefix) rest, sym (take_rest key depth) ∙ told.0 c.if-starts_with.true ∙ ap (λ p. p ++ drop (length prefix) rest) c.stored_prefix-prefix.ensures.stored)

pub returns-else-starts_with-clause-none : goal.returns-else-starts_with-clause-none
returns-else-starts_with-clause-none g c = λ begins.
    let key = c.args.key.now in
    let depth = c.args.depth in
    let rest : List ℕ = take (length key - depth) (drop depth key) in
    let prefix : List ℕ = c.stored_prefix-prefix.result.now in
    let told = starts_is Decides-eqb rest prefix c.starts_with.result c.starts_with.ensures.value in
    let yes : c.starts_with.result ≡ true = told.1 begins.0 (take_rest key depth ∙ begins.1 ∙ ap (λ p. p ++ begins.0) (sym c.stored_prefix-prefix.ensures.stored)) in
    let wrong : true ≡ false = sym yes ∙ c.if-starts_with.false in
    absurd (cc)
