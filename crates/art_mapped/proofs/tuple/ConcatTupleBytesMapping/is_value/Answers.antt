use Rattle.art_mapped.proofs.Pairs.{some_pairs, some_tuple}
use Rattle.art_mapped.proofs.tuple.ConcatTupleBytesMapping.is_value.Goals as goal

pub returns : goal.returns
returns g c =
    let pairs = g.D.TupleValues.in_pairs in
    let is_in_domain = g.J.Joint.is_in_domain in
    let stands_for = g.J.Joint.stands_for in
    let items = c.args.bytes.now.items in (
      λ yes. some_tuple pairs g.D.TupleValues.flat g.met.D.TupleValues.pairs_flat is_in_domain stands_for items (rw c.deref.ensures.value at (c.is_value.ensures.0 yes)),
      λ some. c.is_value.ensures.1 (rw c.deref.ensures.value (some_pairs pairs is_in_domain stands_for items some)),
    )
