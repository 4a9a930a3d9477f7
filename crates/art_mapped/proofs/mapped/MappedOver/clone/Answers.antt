use Rattle.std.proofs.Common.{sym}
use Rattle.art_mapped.proofs.mapped.MappedOver.clone.Goals as goal
use Rattle.art_mapped.specs.MappingLaws.{held_by_text}

pub invariant_of-result : goal.invariant_of-result
invariant_of-result g c =
    let same = c.requires c.in_ok-repr.repr c.in_ok-repr.ensures.cases in
    record { of_a_value = held_by_text g.met.B.BytesMapping.holds_value g.met.B.BytesMapping.kept_by_text c.args.self.now.repr c.in_ok-repr.repr c.prove_is_key.ensures (sym same) c.args.self.now.of_a_value }
