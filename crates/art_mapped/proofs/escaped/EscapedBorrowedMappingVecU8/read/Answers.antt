use Rattle.std.specs.Vec.{vec_items}
use Rattle.std.proofs.Math.Logic.{∥∥₁_map}
use Rattle.art_mapped.proofs.escaped.EscapedBorrowedMappingVecU8.read.Goals as goal

pub unescaped-requires : goal.unescaped-requires
unescaped-requires c = rw c.deref.ensures.value (∥∥₁_map c.requires (λ of. (vec_items of.0, of.2)))
