-- What a loan says is a fact, so a `&` to it says it too.

use denote.Builtin.{u8}
use denote.Ref.{NamedLft, ShrRef}
use denote.SharingLaws.{said_shr_laws}
use denote.Param.Shared.{copy_shared}
use denote.Struct.Laws.{field_copy}
use denote.Struct.Lending.{Lends-said, of_Lends}
use Rattle.art_c_maps.specs.Loans.{is_life}
use Rattle.std.specs.contracts.marker.PhantomData as P
use Rattle.art_c_maps.specs.contracts.loan.Loan as C
use Rattle.art_c_maps.proofs.loan.Loan.TheLaw.Statement.{statement}

pub shares : (a : NamedLft) → statement a
shares a = of_Lends (C.struct a) (C.the_codes (P.the_row (ShrRef a.mir a.lft u8)).coded) (C.the_heap a.lft) (C.the_lent a.lft)
    (λ d p. said_shr_laws (is_life a.lft d.life) tt)
    (copy_shared (P.the_field (ShrRef a.mir a.lft u8)) (field_copy (P.the_type (ShrRef a.mir a.lft u8)) tt), tt)
    (λ M 𝓤 𝓛 d p. Lends-said 𝓛 (is_life a.lft d.life) tt (C.the_row a).lives)
