use Rattle.std.proofs.Common.{rules, sym, ◌∙◌}
use Rattle.art_mapped.specs.SequenceLaws.{same_from_joined}
use Rattle.art_mapped.proofs.Parts.{size_of_array, joined_from_array}
use Rattle.art_mapped.proofs.array.SeveralBytesMappingArray.from_bytes.Goals as goal

pub array_of-requires : goal.array_of-requires
array_of-requires g c =
    let laws = g.met.E.Element.keeps in
    (search rules, (rw c.deref.ensures.value (size_of_array laws g.row.N c.args.bytes.items c.requires), rw c.deref.ensures.value (joined_from_array laws g.row.N c.args.bytes.items c.requires)))

pub returns-clause-inverts : goal.returns-clause-inverts
returns-clause-inverts g c =
    λ value v_in v_text. same_from_joined g.met.E.Element.keeps c.array_of.result value c.array_of.ensures.in_range v_in.1 (sym c.deref.ensures.value ∙ c.array_of.ensures.text) v_text
