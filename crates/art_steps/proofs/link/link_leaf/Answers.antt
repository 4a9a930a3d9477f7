use Rattle.art_steps.proofs.Names.{◌∙◌, ◌++◌, subst, ◌≡◌, ◌≢◌, slab_key, text_at, HoldsLeaf, IsKnit, IsUnlinked, First, Last, IsBeside, IsOnSide, HasGap, Less, text_order, leaf-pointer-fits, slice-fits}
use Rattle.art_steps.proofs.InsertLemmas.LinkLemmas.{ready, still-list, entry-held, others-stay, list-with_before, list-with_after}
use Rattle.art_steps.proofs.SharedLemmas.RoomLemmas.{same-capacity, same-room}
use Rattle.art_steps.proofs.link.link_leaf.Goals as goal

pub insert_before-requires : goal.insert_before-requires
insert_before-requires g c =
    let text = g.K.AsBytes.text in
    let old = c.args.arena.now in
    let now = c.allocate_reserved-leaf.new.self in
    let this = slab_key c.allocate_reserved-leaf.result in
    let sibling = slab_key c.args.sibling in
    let leaf = c.with_no_siblings in
    let gap = subst (λ end. HasGap old end sibling) c.in-First.is c.requires.gap in
    let order = subst (λ end. IsOnSide end (text c.args.key) (text_at text old sibling)) c.in-First.is c.requires.order in
    let is_ready = ready old now this leaf.result c.allocate_reserved-leaf.ensures.was_free c.allocate_reserved-leaf.ensures.added text c.args.key leaf.ensures.key leaf.ensures.previous leaf.ensures.next First sibling gap order in
    let is_held : HoldsLeaf now this = is_ready.held in
    let unlinked : IsUnlinked now this = is_ready.unlinked in
    let apart : this ≢ sibling = is_ready.apart in
    let knit : IsKnit now sibling = is_ready.knit in
    let below : text_order (text_at text now this) (text_at text now sibling) ≡ Less = is_ready.order in
    assumption (leaf-pointer-fits, slice-fits)

pub returns-in-First : goal.returns-in-First
returns-in-First g c =
    let old = c.args.arena.now in
    let now = c.allocate_reserved-leaf.new.self in
    let new = c.insert_before.new.arena in
    let leaf = c.with_no_siblings.result in
    let this = slab_key c.allocate_reserved-leaf.result in
    let linked = c.insert_before.ensures in
    let free = c.allocate_reserved-leaf.ensures.was_free in
    let changes = c.allocate_reserved-leaf.ensures.added in
    record {
      was_free = free;
      entry = entry-held old now this leaf free changes new linked.contents c.args.key c.args.value c.with_no_siblings.ensures.key c.with_no_siblings.ensures.value;
      linked = λ left right is_linked beside. list-with_before now new this (slab_key c.args.sibling) left right linked.linked (still-list old now this leaf free changes (left ++ right) is_linked) (subst (λ end. IsBeside end left right (slab_key c.args.sibling)) c.in-First.is beside);
      others = others-stay old now this leaf free changes new linked.contents;
      other_room = λ other differ. same-room now new linked.room other ∙ c.allocate_reserved-leaf.ensures.other_room other differ;
      capacity = λ kind. same-capacity now new linked.room kind ∙ c.allocate_reserved-leaf.ensures.capacity kind;
    }

pub insert_after-requires : goal.insert_after-requires
insert_after-requires g c =
    let text = g.K.AsBytes.text in
    let old = c.args.arena.now in
    let now = c.allocate_reserved-leaf.new.self in
    let this = slab_key c.allocate_reserved-leaf.result in
    let sibling = slab_key c.args.sibling in
    let leaf = c.with_no_siblings in
    let gap = subst (λ end. HasGap old end sibling) c.in-Last.is c.requires.gap in
    let order = subst (λ end. IsOnSide end (text c.args.key) (text_at text old sibling)) c.in-Last.is c.requires.order in
    let is_ready = ready old now this leaf.result c.allocate_reserved-leaf.ensures.was_free c.allocate_reserved-leaf.ensures.added text c.args.key leaf.ensures.key leaf.ensures.previous leaf.ensures.next Last sibling gap order in
    let is_held : HoldsLeaf now this = is_ready.held in
    let unlinked : IsUnlinked now this = is_ready.unlinked in
    let apart : this ≢ sibling = is_ready.apart in
    let knit : IsKnit now sibling = is_ready.knit in
    let below : text_order (text_at text now sibling) (text_at text now this) ≡ Less = is_ready.order in
    assumption (leaf-pointer-fits, slice-fits)

pub returns-in-Last : goal.returns-in-Last
returns-in-Last g c =
    let old = c.args.arena.now in
    let now = c.allocate_reserved-leaf.new.self in
    let new = c.insert_after.new.arena in
    let leaf = c.with_no_siblings.result in
    let this = slab_key c.allocate_reserved-leaf.result in
    let linked = c.insert_after.ensures in
    let free = c.allocate_reserved-leaf.ensures.was_free in
    let changes = c.allocate_reserved-leaf.ensures.added in
    record {
      was_free = free;
      entry = entry-held old now this leaf free changes new linked.contents c.args.key c.args.value c.with_no_siblings.ensures.key c.with_no_siblings.ensures.value;
      linked = λ left right is_linked beside. list-with_after now new this (slab_key c.args.sibling) left right linked.linked (still-list old now this leaf free changes (left ++ right) is_linked) (subst (λ end. IsBeside end left right (slab_key c.args.sibling)) c.in-Last.is beside);
      others = others-stay old now this leaf free changes new linked.contents;
      other_room = λ other differ. same-room now new linked.room other ∙ c.allocate_reserved-leaf.ensures.other_room other differ;
      capacity = λ kind. same-capacity now new linked.room kind ∙ c.allocate_reserved-leaf.ensures.capacity kind;
    }
