use Rattle.std.proofs.Common.{ℕ, ◌<◌}
use Rattle.art_mapped.specs.Sequences.{part}
use Rattle.art_mapped.proofs.Parts.{IsPartOfSome}
use Rattle.art_mapped.proofs.sequence.are_elements.Given as goal

abbrev pub invariant-loop-index : goal.invariant-loop-index
invariant-loop-index g l =
    (k : ℕ) → k < l.index → IsPartOfSome g.E.DomainTexts.is_in_range g.E.DomainTexts.text_of (part g.E.Bytes.FixedBytes.WIDTH k l.bytes)
