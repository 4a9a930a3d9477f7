use Rattle.std.proofs.Common.{rules}
use Rattle.art_mapped.proofs.Parts.{size_of_array, joined_from_array}
use Rattle.art_mapped.proofs.array.SeveralBorrowedMappingArray.read.Goals as goal

pub array_of-requires : goal.array_of-requires
array_of-requires g c =
    let laws = g.met.E.Element.keeps in
    (search rules, (rw c.deref.ensures.value (size_of_array laws g.row.N c.args.bytes.now.items c.requires), rw c.deref.ensures.value (joined_from_array laws g.row.N c.args.bytes.now.items c.requires)))
