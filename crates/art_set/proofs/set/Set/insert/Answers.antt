use Rattle.std.proofs.Common.{◌∙◌, ap, sym}
use Rattle.std.specs.Map.{keys_of}
use Rattle.std.specs.Option.{is_some}
use Rattle.art_set.proofs.ListLemmas.{has-key, new-key, inserts-key, on-false}
use Rattle.art_set.proofs.OrderedKeys.{length-inserted, same-inserted}
use Rattle.art_set.proofs.set.Set.insert.Goals as goal

pub returns-clause-added : goal.returns-clause-added
returns-clause-added g c =
    new-key c.self.inside.entries c.args.self.now c.self.view_is (g.K.Ord.cmp c.args.key) c.in-Ok.old c.is_none.result c.is_none.ensures c.in-Ok.ensures.old

pub returns-clause-keys : goal.returns-clause-keys
returns-clause-keys g c =
    inserts-key c.self.inside.entries c.args.self.now c.self.view_is g.K.Ord.cmp c.args.key tt c.insert.new.self c.in-Ok.ensures.entries

pub returns-clause-unchanged : goal.returns-clause-unchanged
returns-clause-unchanged g c =
    on-false c.is_none.result (λ is.
    same-inserted g.K.Ord.cmp g.met.K.Ord.total c.args.key c.args.self.now (keys_of c.insert.new.self) c.len-len.ensures.ordered
    (inserts-key c.self.inside.entries c.args.self.now c.self.view_is g.K.Ord.cmp c.args.key tt c.insert.new.self c.in-Ok.ensures.entries)
    (sym is ∙ new-key c.self.inside.entries c.args.self.now c.self.view_is (g.K.Ord.cmp c.args.key) c.in-Ok.old c.is_none.result c.is_none.ensures c.in-Ok.ensures.old))

pub returns-clause-len : goal.returns-clause-len
returns-clause-len g c =
    length-inserted g.K.Ord.cmp g.met.K.Ord.total c.args.key c.args.self.now (keys_of c.insert.new.self) c.len-len.ensures.ordered
    (inserts-key c.self.inside.entries c.args.self.now c.self.view_is g.K.Ord.cmp c.args.key tt c.insert.new.self c.in-Ok.ensures.entries) c.is_none.result
    (new-key c.self.inside.entries c.args.self.now c.self.view_is (g.K.Ord.cmp c.args.key) c.in-Ok.old c.is_none.result c.is_none.ensures c.in-Ok.ensures.old)

pub returns-in-Err-clause-absent : goal.returns-in-Err-clause-absent
returns-in-Err-clause-absent g c =
    sym (has-key c.self.inside.entries c.args.self.now c.self.view_is (g.K.Ord.cmp c.args.key)) ∙ ap is_some c.in-Err.ensures.absent

pub returns-in-Err-clause-err : goal.returns-in-Err-clause-err
returns-in-Err-clause-err g c = ap keys_of c.in-Err.ensures.err ∙ c.self.view_is
