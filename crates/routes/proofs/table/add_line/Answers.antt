use Rattle.std.proofs.Common.{refl, sym}
use Rattle.routes.proofs.table.add_line.Goals as goal

pub returns-in-Ok-insert-clause-added : goal.returns-in-Ok-insert-clause-added
returns-in-Ok-insert-clause-added c = record {
  route = (c.in-Ok.network, record { line = c.args.line; number = c.args.number });
  said = (c.in-Ok.ensures.said.0, (refl, c.in-Ok.ensures.said.1));
  numbered = refl;
  none_before = sym c.in_default.ensures;
  put = c.in-Ok-insert.ensures.routes;
}
