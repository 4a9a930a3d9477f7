use Rattle.std.proofs.Common.{◌≡◌, ap}
use Rattle.std.proofs.Props.{props}
use Rattle.art_mapped.specs.Mapping.{HoldsSome}
use Rattle.art_mapped.proofs.mapped.MappedOverClone.clone.Goals as goal

pub returns : goal.returns
returns g c =
    let key = c.args.self.now in
    let prop : (x y : HoldsSome g.B.Holds.holds key.repr) → x ≡ y = hlevel props in
    record { cases = ap (λ held. record { repr = key.repr; mapping = record {}; of_a_value = held }) (prop _ key.of_a_value) }
