use Rattle.std.proofs.Common.{◌<◌, ◌↔◌, ◌∙◌, IsTrue, ap, sym, subst}
use Rattle.art_arena.specs.Arena.{room, slab_room}
use Rattle.art_arena.proofs.arena.NodeArena+K+V+PREFIX_LEN.has_room.Goals as goal

pub returns-in-Node4 : goal.returns-in-Node4
returns-in-Node4 g c = subst (λ spare. IsTrue c.has_spare_slot.result ↔ (0 < spare)) (ap (λ a. slab_room a.node4) c.self.view_is ∙ ap (room c.args.self.now) (sym c.in-Node4.is)) c.has_spare_slot.ensures

pub returns-in-Node16 : goal.returns-in-Node16
returns-in-Node16 g c = subst (λ spare. IsTrue c.has_spare_slot-in-Node16.result ↔ (0 < spare)) (ap (λ a. slab_room a.node16) c.self.view_is ∙ ap (room c.args.self.now) (sym c.in-Node16.is)) c.has_spare_slot-in-Node16.ensures

pub returns-in-Node48 : goal.returns-in-Node48
returns-in-Node48 g c = subst (λ spare. IsTrue c.has_spare_slot-in-Node48.result ↔ (0 < spare)) (ap (λ a. slab_room a.node48) c.self.view_is ∙ ap (room c.args.self.now) (sym c.in-Node48.is)) c.has_spare_slot-in-Node48.ensures

pub returns-in-Node256 : goal.returns-in-Node256
returns-in-Node256 g c = subst (λ spare. IsTrue c.has_spare_slot-in-Node256.result ↔ (0 < spare)) (ap (λ a. slab_room a.node256) c.self.view_is ∙ ap (room c.args.self.now) (sym c.in-Node256.is)) c.has_spare_slot-in-Node256.ensures

pub returns-in-Leaf : goal.returns-in-Leaf
returns-in-Leaf g c = subst (λ spare. IsTrue c.has_spare_slot-in-Leaf.result ↔ (0 < spare)) (ap (λ a. slab_room a.leaf) c.self.view_is ∙ ap (room c.args.self.now) (sym c.in-Leaf.is)) c.has_spare_slot-in-Leaf.ensures
