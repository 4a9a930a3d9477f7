use Rattle.std.proofs.Common.{◌≡◌, rules}
use Rattle.std.proofs.lemmas.Slice.Eq.{slice_eq-Decides}
use Rattle.std.specs.Bool.{Decides}
use Rattle.art_node_tests.proofs.nodes.node_callers.same_pairs_reply.Goals as goal

pub returns : goal.returns
returns g c =
    let decided : Decides c.eq.result (c.args.a ≡ c.args.b) = slice_eq-Decides (λ p q. search rules) c.args.a c.args.b c.eq.result c.eq.ensures in
    search
