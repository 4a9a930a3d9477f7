use Rattle.std.specs.Vec.{vec_items}
use Rattle.std.proofs.Math.Logic.{∥∥₁_map}
use Rattle.art_mapped.proofs.Escapes.{stands_for_bytes}
use Rattle.art_mapped.proofs.escaped.EscapedBytesMappingVecU8.is_value.Goals as goal

pub returns : goal.returns
returns c = (
  λ yes. stands_for_bytes c.args.bytes.now (rw c.deref.ensures.value at (c.is_escaped.ensures.0 yes)),
  λ some. c.is_escaped.ensures.1 (rw c.deref.ensures.value (∥∥₁_map some (λ of. (vec_items of.0, of.2)))),
)
