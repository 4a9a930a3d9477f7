use Rattle.std.proofs.Common.{◌≡◌, subst}
use Rattle.std.specs.Prelude.{IfOk}
use Rattle.art_nodes.specs.AnyInner.{inner_of}
use Rattle.art_nodes.specs.ChildMap.{pairs_within}
use Rattle.art_nodes.proofs.commands.any_inner.AnyInner.pairs_within.Goals.{in-Node4, in-Node16, in-Node48, in-Node256}
use Rattle.art_nodes.proofs.commands.any_inner.AnyInner.pairs_within.Goals as goal

pub returns : goal.returns
returns g c =
    let within : c.match-self.pairs ≡ pairs_within (inner_of c.args.self.now).children c.args.start c.args.end = elim c.match-self.branch [
      | in-Node4 w ↦ rw (w.pairs-is, w.in-Node4.is) w.range-pairs.ensures
      | in-Node16 w ↦ rw (w.pairs-is, w.in-Node16.is) w.range-pairs-in-Node16.ensures
      | in-Node48 w ↦ rw (w.pairs-is, w.in-Node48.is) w.range-pairs-in-Node48.ensures
      | in-Node256 w ↦ rw (w.pairs-is, w.in-Node256.is) w.range-pairs-in-Node256.ensures
    ] in
    subst (λ pairs. IfOk c.gathered.result (λ gathered. gathered.items ≡ pairs)) within c.gathered.ensures
