use Rattle.art_mapped.proofs.mapped.MappedOver.read.Goals as goal
use Rattle.art_mapped.specs.MappingLaws.{stands_for_some, read_of_held}
use Rattle.art_mapped.proofs.Answered.{if_ok_both}

pub read-requires : goal.read-requires
read-requires g c = stands_for_some g.met.B.BytesMapping.holds_value c.args.self.now.repr c.args.self.now.of_a_value

pub returns-clause-value : goal.returns-clause-value
returns-clause-value g c =
    let laws = g.met.B.BytesMapping in
    if_ok_both _ _ _ c.read.result c.read.ensures.in_domain c.read.ensures.stands (λ read r_in r_stands.
    (read_of_held laws.holds_value laws.has_text laws.reads_one c.args.self.now.repr read r_in r_stands).0)

pub returns-clause-text : goal.returns-clause-text
returns-clause-text g c =
    let laws = g.met.B.BytesMapping in
    if_ok_both _ _ _ c.read.result c.read.ensures.in_domain c.read.ensures.stands (λ read r_in r_stands.
    (read_of_held laws.holds_value laws.has_text laws.reads_one c.args.self.now.repr read r_in r_stands).1)

pub returns-clause-inverts : goal.returns-clause-inverts
returns-clause-inverts g c =
    let laws = g.met.B.BytesMapping in
    λ value held. if_ok_both _ _ _ c.read.result c.read.ensures.in_domain c.read.ensures.stands (λ read r_in r_stands.
    (read_of_held laws.holds_value laws.has_text laws.reads_one c.args.self.now.repr read r_in r_stands).2 value held)
