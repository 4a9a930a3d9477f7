use Rattle.std.proofs.Common.{◌+◌, ◌-◌, ◌^◌, min, rules}
use Rattle.art_map.proofs.CalledLemmas.{values_same}
use Rattle.art_map_tests.proofs.prices.raise_prices.Goals as goal

pub returns : goal.returns
returns c = values_same _ (λ name price. min (price + 1) (2 ^ 32 - 1)) _ (λ name price now f' called. search rules) _ _ c.for_each_value_mut.ensures.in_turn
