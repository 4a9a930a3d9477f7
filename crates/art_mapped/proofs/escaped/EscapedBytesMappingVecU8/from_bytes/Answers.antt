use Rattle.std.specs.Vec.{vec_items}
use Rattle.std.proofs.Common.{sym, ◌∙◌}
use Rattle.std.proofs.Math.Logic.{∥∥₁_map}
use Rattle.art_mapped.specs.EscapedLaws.{same_from_escaped}
use Rattle.art_mapped.proofs.Answered.{if_ok_both}
use Rattle.art_mapped.proofs.escaped.EscapedBytesMappingVecU8.from_bytes.Goals as goal

pub unescaped-requires : goal.unescaped-requires
unescaped-requires c = rw c.deref.ensures.value (∥∥₁_map c.requires (λ of. (vec_items of.0, of.2)))

pub returns-clause-inverts : goal.returns-clause-inverts
returns-clause-inverts c =
    λ value _ v_text. if_ok_both _ _ _ c.unescaped.result c.unescaped.ensures c.unescaped.ensures (λ read r_text _.
    same_from_escaped read.items value.items (sym c.deref.ensures.value ∙ r_text) v_text)
