use Rattle.art_steps.proofs.Names.{◌≡◌, ◌∙◌, ◌+◌, ◌-◌, ◌<◌, [], ◌∷◌, ◌++◌, length, map, take, drop, get_or, ap, sym, subst, arith, lit<, vec_capacity, ◌^◌, kind_for, IsAscending, key_bytes, slab_key, NodePtr, LeafNode, room, text_at, leaf_pairs, leaf_pointer, Spans}
use Rattle.art_steps.proofs.LoadLemmas.PlanLemmas.{plan-leads}
use Rattle.art_steps.proofs.LoadLemmas.PlacedTrees.{IsRising, at_leaf, at_inner, rising-none, texts-of-pairs, pair-there, pointer-there, rise-leaf, rise-inner-called, one-pending, last-part, risen}
use Rattle.art_steps.proofs.raising.raise.Goals as goal
use Rattle.art_steps.proofs.raising.raise.Goals.{in-Leaf, in-Inner}
use Rattle.art_links.proofs.HeldNodes.{leaf-there}

pub loop-step-init : goal.loop-step-init
loop-step-init g c =
    let text = g.K.AsBytes.text in
    let old = c.args.arena.now in
    let of = c.args.leaves.now in
    let pairs = leaf_pairs text old of in
    let same = sym (texts-of-pairs text old of) in
    let plan = c.requires.plan in
    record {
      rising = rising-none text pairs (map leaf_pointer of) old c.args.steps.now c.args.pending.items c.requires.none_pending (plan-leads pairs c.args.steps.now plan.shape plan.sound (subst (λ t. Spans t 0 plan.shape (length t)) same plan.spans) plan.in_order) c.requires.room;
      memory = c.requires.memory;
    }

pub offset_bounds-leaves-next : goal.offset_bounds-leaves-next
offset_bounds-leaves-next g c = omega (arith, (at_leaf g.K.AsBytes.text c.args.arena.now c.args.leaves.now _ _ _ _ _ _ _ c.loop-step-test.true c.in-Leaf.is c.loop-step.invariant.rising).inside)

pub bounds-leaves-next : goal.bounds-leaves-next
bounds-leaves-next g c = omega (arith, (at_leaf g.K.AsBytes.text c.args.arena.now c.args.leaves.now _ _ _ _ _ _ _ c.loop-step-test.true c.in-Leaf.is c.loop-step.invariant.rising).inside)

pub push_reserved-requires : goal.push_reserved-requires
push_reserved-requires g c =
    let here = at_leaf g.K.AsBytes.text c.args.arena.now c.args.leaves.now _ _ _ _ _ _ _ c.loop-step-test.true c.in-Leaf.is c.loop-step.invariant.rising in
    omega (arith, here.inside, here.few, c.loop-step.pending.ok.0, c.loop-step.invariant.memory)

pub overflow_add-next : goal.overflow_add-next
overflow_add-next g c = omega (arith, (at_leaf g.K.AsBytes.text c.args.arena.now c.args.leaves.now _ _ _ _ _ _ _ c.loop-step-test.true c.in-Leaf.is c.loop-step.invariant.rising).inside)

pub overflow_sub-below : goal.overflow_sub-below
overflow_sub-below g c = omega (arith, (at_inner g.K.AsBytes.text c.args.arena.now c.args.leaves.now _ _ _ _ _ _ _ _ _ _ c.loop-step-test.true c.in-Inner.is c.loop-step.invariant.rising c.requires.held).ready.enough, c.len.ensures, c.loop-step.pending.ok.0)

pub offset_bounds-leaves-next-in-Inner : goal.offset_bounds-leaves-next-in-Inner
offset_bounds-leaves-next-in-Inner g c =
    let here = at_inner g.K.AsBytes.text c.args.arena.now c.args.leaves.now _ _ _ _ _ _ _ _ _ _ c.loop-step-test.true c.in-Inner.is c.loop-step.invariant.rising c.requires.held in
    omega (arith, here.inside, here.some)

pub bounds-leaves-next-in-Inner : goal.bounds-leaves-next-in-Inner
bounds-leaves-next-in-Inner g c =
    let here = at_inner g.K.AsBytes.text c.args.arena.now c.args.leaves.now _ _ _ _ _ _ _ _ _ _ c.loop-step-test.true c.in-Inner.is c.loop-step.invariant.rising c.requires.held in
    omega (arith, here.inside, here.some)

pub allocate_node-node-requires : goal.allocate_node-node-requires
allocate_node-node-requires g c =
    let d : NodePtr g.row.PREFIX_LEN (LeafNode g.row.K.Denot g.row.V.Denot g.row.PREFIX_LEN) = record { key = 0; node = record {} } in
    let here = at_inner g.K.AsBytes.text c.args.arena.now c.args.leaves.now _ _ _ _ _ _ _ _ _ _ c.loop-step-test.true c.in-Inner.is c.loop-step.invariant.rising c.requires.held in
    let ready = here.ready in
    let last = here.last d in
    let below : c.len.result - c.in-Inner.children ≡ length c.loop-step.pending.items - c.in-Inner.children = omega (arith, c.len.ensures, c.loop-step.pending.ok.0) in
    let kids = last-part c.deref.result.now c.loop-step.pending.items (c.len.result - c.in-Inner.children) c.in-Inner.children c.deref.ensures.value below in
    let short : length here.rising.leads.0.1 < 2 ^ 32 = omega (arith, c.requires.short (c.loop-step.next - 1), ap length last.before) in
    let long = ap length kids in
    let ascending = subst (λ k. IsAscending (key_bytes k)) (sym kids) ready.ascending in
    let rooms = subst (λ n. 0 < room c.loop-step.arena (kind_for n)) (sym (long ∙ ready.count)) ready.rooms in
    (search, (search, (search, (search, (assumption, (lit< tt, (lit< tt, (last.is_held, (ready.ordered, (omega (arith, ready.within, ap length last.now), (omega (arith, ready.within, short), (omega (arith, ready.two, ready.count, long), (omega (arith, ready.few, ready.count, long), (ascending, rooms))))))))))))))

pub push_reserved-requires-in-Inner : goal.push_reserved-requires-in-Inner
push_reserved-requires-in-Inner g c =
    let here = at_inner g.K.AsBytes.text c.args.arena.now c.args.leaves.now _ _ _ _ _ _ _ _ _ _ c.loop-step-test.true c.in-Inner.is c.loop-step.invariant.rising c.requires.held in
    omega (arith, here.ready.enough, here.ready.two, here.few, here.inside, c.truncate.ensures.len, c.truncate.ensures.capacity, c.loop-step.pending.ok.0, c.loop-step.invariant.memory)

pub loop-step-preserved : goal.loop-step-preserved
loop-step-preserved g c =
    let text = g.K.AsBytes.text in
    let old = c.args.arena.now in
    let of = c.args.leaves.now in
    let pairs = leaf_pairs text old of in
    let pointers = map leaf_pointer of in
    let now = c.loop-step.arena in
    let next = c.loop-step.next in
    let pending = c.loop-step.pending.items in
    let d : NodePtr g.row.PREFIX_LEN (LeafNode g.row.K.Denot g.row.V.Denot g.row.PREFIX_LEN) = record { key = 0; node = record {} } in
    let steps = drop (c.loop-step.step-index + 1) c.args.steps.now in
    elim c.match-step.branch [
      | in-Leaf w ↦
          let here = at_leaf text old of now _ _ _ _ _ _ c.loop-step-test.true w.in-Leaf.is c.loop-step.invariant.rising in
          let key = slab_key (get_or of next d) in
          let there = leaf-there text old key (c.requires.held next d here.inside) in
          let after = w.push_reserved.ensures.items ∙ ap (λ p. pending ++ (w.in-Leaf.byte, p) ∷ []) w.to_opaque.ensures in
          let rising = rise-leaf text pairs pointers old now next w.in-Leaf.byte pending w.push_reserved.new.self.items steps (leaf_pointer (get_or of next d)) (text_at text old key) there.0 (pair-there text old of next d here.inside) (pointer-there text old of next d here.inside) there.1 there.2 after here.rising in
          record {
            rising = subst (λ a. IsRising text pairs pointers old a c.match-step.next c.match-step.pending.items steps) (sym w.arena-is) (subst (λ n. IsRising text pairs pointers old now n c.match-step.pending.items steps) (sym w.next-is) (subst (λ items. IsRising text pairs pointers old now (next + 1) items steps) (sym (ap (λ v. v.items) w.pending-is)) rising));
            memory = omega (arith, ap vec_capacity w.pending-is, w.push_reserved.ensures.capacity, c.loop-step.invariant.memory);
          }
      | in-Inner w ↦
          let here = at_inner text old of now _ _ _ _ _ _ _ _ _ c.loop-step-test.true w.in-Inner.is c.loop-step.invariant.rising c.requires.held in
          let last = here.last d in
          let below : w.len.result - w.in-Inner.children ≡ length pending - w.in-Inner.children = omega (arith, w.len.ensures, c.loop-step.pending.ok.0) in
          let kids = last-part w.deref.result.now pending (w.len.result - w.in-Inner.children) w.in-Inner.children w.deref.ensures.value below in
          let after = w.push_reserved-in-Inner.ensures.items ∙ ap (λ front. front ++ (w.in-Inner.byte, w.allocate_node-node.result) ∷ []) (w.truncate.ensures.items ∙ ap (λ n. take n pending) below) in
          let rising = rise-inner-called text pairs pointers old now w.allocate_node-node.new.arena next w.in-Inner.byte w.in-Inner.start w.in-Inner.end w.in-Inner.children pending w.push_reserved-in-Inner.new.self.items _ (text_at text now (slab_key (get_or of (next - 1) d))) steps w.allocate_node-node.result here.rising kids last.now w.allocate_node-node.ensures after in
          record {
            rising = subst (λ a. IsRising text pairs pointers old a c.match-step.next c.match-step.pending.items steps) (sym w.arena-is) (subst (λ n. IsRising text pairs pointers old w.allocate_node-node.new.arena n c.match-step.pending.items steps) (sym w.next-is) (subst (λ items. IsRising text pairs pointers old w.allocate_node-node.new.arena next items steps) (sym (ap (λ v. v.items) w.pending-is)) rising));
            memory = omega (arith, ap vec_capacity w.pending-is, w.push_reserved-in-Inner.ensures.capacity, w.truncate.ensures.capacity, c.loop-step.invariant.memory);
          }
    ]

pub overflow_sub-next : goal.overflow_sub-next
overflow_sub-next g c = (at_inner g.K.AsBytes.text c.args.arena.now c.args.leaves.now _ _ _ _ _ _ _ _ _ _ c.loop-step-test.true c.in-Inner.is c.loop-step.invariant.rising c.requires.held).some

pub index-requires : goal.index-requires
index-requires g c =
    let one = one-pending g.K.AsBytes.text _ _ c.args.arena.now c.loop-step.arena c.loop-step.next c.loop-step.pending.items c.args.steps.now c.loop-step.step-index c.loop-step-test.false c.loop-step.invariant.rising in
    omega (arith, one, c.loop-step.pending.ok.0)

pub returns : goal.returns
returns g c = risen g.K.AsBytes.text c.args.arena.now c.args.leaves.now c.loop-step.arena c.loop-step.next c.loop-step.pending.items c.args.steps.now c.loop-step.step-index c.index.result.now c.loop-step-test.false c.loop-step.invariant.rising c.index.ensures
