use Rattle.std.specs.Prelude.{◌≡◌}
use Rattle.std.specs.Str.{IsUtf8}
use Rattle.std.proofs.Common.{subst}
use Rattle.std.proofs.Math.Logic.{∥∥₁_elim}
use Rattle.std.proofs.Props.{props}
use Rattle.art_mapped.specs.EscapedLaws.{same_from_escaped}
use Rattle.art_mapped.proofs.EscapedRuns.{is_escaped_utf8}
use Rattle.art_mapped.proofs.escaped_string.string_of.Goals as goal

pub unescaped-requires : goal.unescaped-requires
unescaped-requires c = is_escaped_utf8 c.args.text.now c.requires

pub unreachable-requires : goal.unreachable-requires
unreachable-requires c =
    ∥∥₁_elim c.requires (hlevel props) (λ of.
    let same : of.0 ≡ c.in_ok-unescaped.field-0.items = same_from_escaped of.0 c.in_ok-unescaped.field-0.items of.2 c.in_ok-unescaped.ensures in
    let utf8 : IsUtf8 c.in_ok-unescaped.field-0.items = subst IsUtf8 same of.1 in
    let clash = c.in-Err.ensures.succeeds utf8 in cc)
