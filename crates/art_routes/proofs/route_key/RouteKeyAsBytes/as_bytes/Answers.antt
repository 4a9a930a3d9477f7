use Rattle.std.proofs.Common.{subst}
use Rattle.art_routes.specs.KeyLaws.{network_key-bytes}
use Rattle.art_routes.specs.Networks.{IsNetwork}
use Rattle.art_routes.proofs.route_key.RouteKeyAsBytes.as_bytes.Goals as goal

pub returns-clause-bytes : goal.returns-clause-bytes
returns-clause-bytes c = network_key-bytes c.args.self.now (subst IsNetwork c.self.view_is c.self.invariant.is_network)
