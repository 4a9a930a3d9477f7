use Rattle.art_mapped.proofs.mapped.MappedOver.value.Goals as goal
use Rattle.art_mapped.specs.MappingLaws.{stands_for_some, read_of_held}

pub decode-requires : goal.decode-requires
decode-requires g c = stands_for_some g.met.B.BytesMapping.holds_value c.args.self.now.repr c.args.self.now.of_a_value

pub returns-clause-value : goal.returns-clause-value
returns-clause-value g c =
    let laws = g.met.B.BytesMapping in
    (read_of_held laws.holds_value laws.has_text laws.reads_one c.args.self.now.repr c.decode.result c.decode.ensures.in_domain c.decode.ensures.stands).0

pub returns-clause-text : goal.returns-clause-text
returns-clause-text g c =
    let laws = g.met.B.BytesMapping in
    (read_of_held laws.holds_value laws.has_text laws.reads_one c.args.self.now.repr c.decode.result c.decode.ensures.in_domain c.decode.ensures.stands).1

pub returns-clause-inverts : goal.returns-clause-inverts
returns-clause-inverts g c =
    let laws = g.met.B.BytesMapping in
    (read_of_held laws.holds_value laws.has_text laws.reads_one c.args.self.now.repr c.decode.result c.decode.ensures.in_domain c.decode.ensures.stands).2
