use Rattle.std.proofs.Common.{◌≡◌, ◌∙◌, Some, sym, ap}
use Rattle.std.specs.Option.{option_copied}
use Rattle.slab.specs.Slab.{get}
use Rattle.art_arena.specs.Arena.{held_option}
use Rattle.art_arena.specs.SlabLaws.{held_in_slab, held_where_contained}
use Rattle.art_arena.proofs.ArenaLemmas.{IsSome-lent, get-called}
use Rattle.art_arena.proofs.arena.NodeArena+K+V+PREFIX_LEN.as_ref.Goals as goal

pub unwrap-requires : goal.unwrap-requires
unwrap-requires g c =
    let within = (held_where_contained g.met.N.ArenaNode.is_slab c.args.self.now c.args.ptr.key).1 c.requires in
    IsSome-lent c.get.result (c.get.ensures ∙ get-called _ _ _ _ c.slab.ensures c.key.ensures) within

pub returns : goal.returns
returns g c =
    let key = c.args.ptr.key in
    let found : get (g.N.InSlab.slab_of c.args.self.now) key ≡ Some c.unwrap.result.now = sym (get-called _ _ _ _ c.slab.ensures c.key.ensures) ∙ sym c.get.ensures ∙ ap option_copied c.unwrap.ensures in
    held_in_slab g.met.N.ArenaNode.is_slab c.args.self.now key ∙ ap (held_option g.N.ArenaNode.held_as) found
