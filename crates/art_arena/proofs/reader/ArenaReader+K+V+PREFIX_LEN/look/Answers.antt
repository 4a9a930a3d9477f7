use Rattle.std.proofs.Common.{◌≢◌, ap, sym, subst, arith}
use Rattle.art_arena.specs.Arena.{held, Nothing}
use Rattle.art_arena.proofs.reader.ArenaReader+K+V+PREFIX_LEN.look.Goals as goal

pub returns-clause-counted : goal.returns-clause-counted
returns-clause-counted g c = omega (arith, c.requires.budget, ap (λ r. r.budget) c.self.view_is)

pub node_ref-requires : goal.node_ref-requires
node_ref-requires g c =
    let there : held c.self.inside.arena.now c.args.pointer ≢ Nothing = subst (λ arena. held arena c.args.pointer ≢ Nothing) (sym (ap (λ reader. reader.arena) c.self.view_is)) c.requires.held in
    search
