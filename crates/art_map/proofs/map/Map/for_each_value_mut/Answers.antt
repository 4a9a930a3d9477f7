use Rattle.std.proofs.Common.{rules}
use Rattle.std.specs.Map.Calls.{CallableOnEachPair}
use Rattle.art_pages.specs.Retaining.{TakesValue}
use Rattle.art_map.proofs.CalledLemmas.{changes-in-turn, changing, same-keys, testable}
use Rattle.art_map.proofs.map.Map.for_each_value_mut.Goals as goal

pub retain_by-requires : goal.retain_by-requires
retain_by-requires g c =
    let callable : CallableOnEachPair (changing g.F.FnMut) (TakesValue g.F.FnMut) c.args.f c.args.self.now = testable g.F.FnMut c.args.f c.args.self.now c.requires in
    search rules

pub returns-clause-in_turn : goal.returns-clause-in_turn
returns-clause-in_turn g c = changes-in-turn g.F.FnMut c.args.f c.args.self.now c.retain_by.new.self c.retain_by.ensures.retained

pub returns-clause-same_keys : goal.returns-clause-same_keys
returns-clause-same_keys g c =
    same-keys g.F.FnMut c.args.f c.args.self.now c.retain_by.new.self
    (changes-in-turn g.F.FnMut c.args.f c.args.self.now c.retain_by.new.self c.retain_by.ensures.retained)
