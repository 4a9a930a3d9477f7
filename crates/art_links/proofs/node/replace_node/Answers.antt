use Rattle.art_links.proofs.Names.{◌≢◌, ◌∙◌, sym, subst, slab_key, opaque_pointer, held, Nothing, Changes}
use Rattle.art_links.proofs.PlacedNodes.{replaced}
use Rattle.art_links.proofs.HeldNodes.{kept-at}
use Rattle.art_links.proofs.node.replace_node.Goals as goal

pub deallocate-requires : goal.deallocate-requires
deallocate-requires g c =
    let old = c.args.arena.now in
    let now = c.allocate_reserved-placed.new.self in
    let placed = opaque_pointer g.R.Node.TYPE (slab_key c.allocate_reserved-placed.result) in
    let stays = kept-at old now placed _ c.allocate_reserved-placed.ensures.was_free c.allocate_reserved-placed.ensures.added c.args.pointer c.requires.held in
    let there : held now c.args.pointer ≢ Nothing = subst (λ h. h ≢ Nothing) (sym stays) c.requires.held in
    search

pub returns-clause-replaced : goal.returns-clause-replaced
returns-clause-replaced g c =
    let old = c.args.arena.now in
    let now = c.allocate_reserved-placed.new.self in
    let placed = opaque_pointer g.R.Node.TYPE (slab_key c.allocate_reserved-placed.result) in
    replaced old now c.deallocate.new.self (g.R.InnerNodeRead.inner c.args.node) c.to_opaque.ensures c.allocate_reserved-placed.ensures.was_free c.requires.held (subst (Changes old now placed) (g.met.R.ArenaInnerNode.shown c.args.node) c.allocate_reserved-placed.ensures.added) c.deallocate.ensures.removed

pub returns-clause-capacity : goal.returns-clause-capacity
returns-clause-capacity g c = λ kind. c.deallocate.ensures.capacity kind ∙ c.allocate_reserved-placed.ensures.capacity kind
