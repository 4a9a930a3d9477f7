use Rattle.std.proofs.Common.{◌≡◌, ◌∙◌, Some, refl, sym, ap, subst, rules}
use Rattle.slab.specs.Slab.{get, ContainsKey}
use Rattle.art_arena.specs.Arena.{held_option}
use Rattle.slab.proofs.SlabLemmas.{Updates-with_value}
use Rattle.art_arena.specs.SlabLaws.{held_in_slab, held_where_contained}
use Rattle.art_arena.proofs.ArenaLemmas.{Changes-written, SameRoom-with_value}
use Rattle.art_arena.proofs.arena.NodeArena+K+V+PREFIX_LEN.as_mut.Goals as goal

pub returns : goal.returns
returns g c =
    let slab = g.met.N.ArenaNode.is_slab in
    let within = (held_where_contained slab c.args.self.now c.args.ptr.key).1 c.requires in
    let found : get (g.N.InSlab.slab_of c.args.self.now) c.args.ptr.key ≡ Some c.index_mut.result.now = sym (ap (λ s. get s c.args.ptr.key) c.slab_mut.ensures.value) ∙ sym (ap (get c.slab_mut.result.now) c.key.ensures) ∙ c.index_mut.ensures.value in (
      (refl, λ w. search rules),
      record {
        writes_back = tt;
        node = held_in_slab slab c.args.self.now c.args.ptr.key ∙ ap (held_option g.N.ArenaNode.held_as) found;
        changes = λ now. Changes-written slab c.args.self.now _ c.args.ptr.key (Some now) (Updates-with_value _ _ now within);
        room = λ now. SameRoom-with_value slab c.args.self.now c.args.ptr.key now within;
      },
    )

pub index_mut-requires : goal.index_mut-requires
index_mut-requires g c =
    let within = (held_where_contained g.met.N.ArenaNode.is_slab c.args.self.now c.args.ptr.key).1 c.requires in
    subst (λ s. ContainsKey s c.key.result) (sym c.slab_mut.ensures.value) (subst (ContainsKey (g.N.InSlab.slab_of c.args.self.now)) (sym c.key.ensures) within)
