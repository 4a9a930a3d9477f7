use Rattle.art_mapped.proofs.Pairs.{some_pairs}
use Rattle.art_mapped.proofs.tuple.ConcatTupleBorrowedMapping.read.Goals as goal

pub read-requires : goal.read-requires
read-requires g c =
    rw c.deref.ensures.value (some_pairs g.D.TupleValues.in_pairs g.J.Joint.is_in_domain g.J.Joint.stands_for c.args.bytes.now.items c.requires)
