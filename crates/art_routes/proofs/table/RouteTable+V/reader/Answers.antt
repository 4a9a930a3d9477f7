use Rattle.std.proofs.Common.{◌∙◌}
use Rattle.art_routes.proofs.table.RouteTable+V.reader.Goals as goal

pub returns-clause-routes : goal.returns-clause-routes
returns-clause-routes g c = c.reader_of.ensures.routes ∙ c.self.view_is
