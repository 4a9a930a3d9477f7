use Rattle.std.proofs.Common.{◌≡◌, take, All}
use Rattle.art_mapped.specs.Sequences.{joined}
use Rattle.art_mapped.proofs.sequence.joined_bytes.Given as goal

abbrev pub invariant-loop-element : goal.invariant-loop-element
invariant-loop-element g l =
    record {
      in_range : All g.E.DomainTexts.is_in_range (take l.element-index l.elements);
      text : l.bytes.items ≡ joined g.E.DomainTexts.text_of (take l.element-index l.elements);
    }
