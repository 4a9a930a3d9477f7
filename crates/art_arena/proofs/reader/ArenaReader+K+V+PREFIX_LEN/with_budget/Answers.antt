use Rattle.std.proofs.Common.{rules}
use Rattle.art_arena.proofs.reader.ArenaReader+K+V+PREFIX_LEN.with_budget.Goals as goal

pub returns-clause-budget : goal.returns-clause-budget
returns-clause-budget g c = search rules
