use Rattle.std.proofs.Common.{◌∙◌, ap, length}
use Rattle.art_routes.proofs.table.RouteTable+V.len.Goals as goal

pub returns : goal.returns
returns g c = c.len.ensures ∙ ap length c.self.view_is
