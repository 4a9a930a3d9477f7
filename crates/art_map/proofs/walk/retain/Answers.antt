use Rattle.std.proofs.Common.{◌++◌, ◌-◌, ◌≤◌, arith, length, length-append, rules}
use Rattle.std.specs.Map.Calls.{CallableOnEachPair}
use Rattle.art_map.specs.Pages.{entries_in}
use Rattle.art_map.specs.Trees.{pages_in, pages_of}
use Rattle.art_pages.proofs.RetainLemmas.{callable-back, callable-front, retains-append, retains-pairs}
use Rattle.art_map.proofs.FewerLemmas.{head-fewer}
use Rattle.art_map.proofs.WalkLemmas.{fewer-retained}
use Rattle.art_map.proofs.walk.retain.Goals as goal

pub retain-gone-requires : goal.retain-gone-requires
retain-gone-requires g c =
    callable-front g.F.Keeps.step g.F.Keeps.accepts c.args.head.now.entries (entries_in (pages_in (λ tree. pages_of tree.value.arena) c.args.tree.now)) c.args.test c.requires.callable

pub overflow_sub-len : goal.overflow_sub-len
overflow_sub-len g c =
    let head = c.args.head.now.entries in let rest = entries_in (pages_in (λ tree. pages_of tree.value.arena) c.args.tree.now) in
    omega (arith, c.retain-gone.ensures.gone, c.requires.len, length-append head rest)

pub retain_behind-requires : goal.retain_behind-requires
retain_behind-requires g c =
    let head = c.args.head.now.entries in let rest = entries_in (pages_in (λ tree. pages_of tree.value.arena) c.args.tree.now) in
    let gone = c.retain-gone.ensures.gone in
    let callable : CallableOnEachPair g.F.Keeps.step g.F.Keeps.accepts c.retain-gone.new.test rest =
    callable-back g.F.Keeps.step g.F.Keeps.accepts head rest c.args.test c.requires.callable c.retain-gone.new.self.entries c.retain-gone.new.test c.retain-gone.ensures.retained in
    let len : length rest ≤ c.args.len - c.retain-gone.result = omega (arith, gone, c.requires.len, length-append head rest) in
    search rules

pub returns : goal.returns
returns g c =
    let step = g.F.Keeps.step in
    let head = c.args.head.now.entries in let rest = entries_in (pages_in (λ tree. pages_of tree.value.arena) c.args.tree.now) in
    let kept = c.retain-gone.new.self.entries in let left = entries_in (pages_in (λ tree. pages_of tree.value.arena) c.retain_behind.new.tree) in
    let on = c.retain-gone.ensures.retained in let all = c.retain_behind.ensures in record {
      map = all.map kept
          (head-fewer g.K.KeyBytes.order g.K.KeyBytes.is_key g.K.KeyBytes.encoded head (pages_in (λ tree. pages_of tree.value.arena) c.args.tree.now) c.requires.map
          kept (fewer-retained step head kept c.args.test c.retain-gone.new.test on));
      retained = retains-pairs step (head ++ rest) (kept ++ left) c.args.test c.retain_behind.new.test
          (retains-append step head kept c.args.test c.retain-gone.new.test on rest left c.retain_behind.new.test all.retained);
      len = omega (arith, all.len, c.retain-gone.ensures.gone, c.requires.len, length-append head rest, length-append kept left);
    }
