use Rattle.std.proofs.Common.{◌≡◌, ◌++◌, ◌*◌, drop, All}
use Rattle.art_mapped.specs.Sequences.{joined}
use Rattle.art_mapped.proofs.sequence.vec_of.Given as goal

abbrev pub invariant-loop-index : goal.invariant-loop-index
invariant-loop-index g l =
    record {
      in_range : All g.E.DomainTexts.is_in_range l.elements.items;
      text : joined g.E.DomainTexts.text_of l.elements.items ++ drop (l.index * g.E.Bytes.FixedBytes.WIDTH) l.bytes ≡ l.bytes;
    }
