use Rattle.art_tree.proofs.Names.{◌≡◌, ◌∙◌, ◌-◌, [], ◌∷◌, ◌++◌, length, length-append, take, slice_get, Some, sym, ap, subst, arith, refl, lit<, append_assoc, option_copied, option_to_list, into_iter_items, room, AreLinked, knit-member, next-member, LeafKind}
use Rattle.art_tree.proofs.LoadLemmas.LeafLists.{none-linked, allocated, first-linked, next-linked, unlinked, sibling-knit, two-texts, last-split, none-left}
use Rattle.art_steps.proofs.SharedLemmas.PrefixLemmas.{less-same}
use Rattle.art_steps.proofs.LoadLemmas.RefusalLemmas.{forks-less}
use Rattle.art_steps.proofs.SharedLemmas.RoomLemmas.{same-room}
use Rattle.art_tree.proofs.loading.leaves.link_leaves.Goals as goal
use Rattle.art_tree.proofs.loading.leaves.link_leaves.Goals.{in-Some-last, in_default-last}

pub moving-init : goal.moving-init
moving-init g c = record {
  linking = record { done = []; split = sym c.into_iter-rest.ensures.rest; linked = none-linked c.args.arena.now c.args.leaves.now.items c.requires.no_leaves };
  leaf_room = omega (arith, c.into_iter-rest.ensures.len);
  room = omega (arith, c.into_iter-rest.ensures.len, c.requires.room);
  memory = omega (arith, c.into_iter-rest.ensures.len, c.requires.memory, ap length c.requires.no_leaves);
  other_room = λ other differ. refl;
}

pub insert_after-requires : goal.insert_after-requires
insert_after-requires g c =
    let old = c.args.arena.now in
    let now = c.moving.arena in
    let new = c.allocate_reserved-leaf.new.self in
    let before = c.moving.leaves.items in
    let this = c.allocate_reserved-leaf.result in
    let linking = c.moving.invariant.linking in
    let entry : g.row.K.Denot × g.row.V.Denot = (c.in-Some.key, c.in-Some.value) in
    let left = into_iter_items c.next.new.self in
    let a = allocated old now new linking.done before entry this c.with_no_siblings.result linking.linked
    c.allocate_reserved-leaf.ensures.was_free
    c.allocate_reserved-leaf.ensures.added
    c.with_no_siblings.ensures.key c.with_no_siblings.ensures.value c.with_no_siblings.ensures.previous c.with_no_siblings.ensures.next in
    let items = c.next.ensures.items ∙ ap (λ o. option_to_list o ++ left) c.in-Some.is in
    let whole : c.args.entries.items ≡ (linking.done ++ entry ∷ []) ++ left = linking.split ∙ ap (λ z. linking.done ++ z) items ∙ sym (append_assoc linking.done (entry ∷ []) left) in
    let sibling = c.in-Some-last.sibling.now in
    let found : slice_get before (length before - 1) ≡ Some sibling = ap (λ xs. slice_get xs (length xs - 1)) (sym c.deref.ensures.value) ∙ sym c.last.ensures.value ∙ ap option_copied c.in-Some-last.is in
    let front = take (length before - 1) before in
    let split = last-split before sibling found in
    let texts = two-texts g.K.AsBytes.text old new c.args.entries.items linking.done left before front entry this sibling split whole a in
    let fork = c.requires.loadable.fork (length front) texts.0 in
    let less = forks-less _ _ fork.0 fork.1 in
    let free = unlinked old new linking.done before entry this a in
    let apart = a.apart front sibling split in
    let knit = sibling-knit old new linking.done before front entry this sibling split (knit-member new) a in
    (assumption, (assumption, (assumption, (assumption, (assumption, (lit< tt, (free.0, (free.1, (apart, (knit, less-same _ _ _ _ texts.1 texts.2 less))))))))))

pub moving-preserved : goal.moving-preserved
moving-preserved g c =
    let old = c.args.arena.now in
    let now = c.moving.arena in
    let new = c.allocate_reserved-leaf.new.self in
    let before = c.moving.leaves.items in
    let this = c.allocate_reserved-leaf.result in
    let linking = c.moving.invariant.linking in
    let entry : g.row.K.Denot × g.row.V.Denot = (c.in-Some.key, c.in-Some.value) in
    let left = into_iter_items c.next.new.self in
    let a = allocated old now new linking.done before entry this c.with_no_siblings.result linking.linked
    c.allocate_reserved-leaf.ensures.was_free
    c.allocate_reserved-leaf.ensures.added
    c.with_no_siblings.ensures.key c.with_no_siblings.ensures.value c.with_no_siblings.ensures.previous c.with_no_siblings.ensures.next in
    let items = c.next.ensures.items ∙ ap (λ o. option_to_list o ++ left) c.in-Some.is in
    let whole : c.args.entries.items ≡ (linking.done ++ entry ∷ []) ++ left = linking.split ∙ ap (λ z. linking.done ++ z) items ∙ sym (append_assoc linking.done (entry ∷ []) left) in
    let one = ap (λ o. length (option_to_list o)) c.in-Some.is in
    let rooms = c.allocate_reserved-leaf.ensures.room in
    let pushed = ap length c.push_reserved.ensures.items ∙ length-append before (this ∷ []) in
    elim c.match-last.branch [
      | in-Some-last w ↦
          let sibling = w.in-Some-last.sibling.now in
          let found : slice_get before (length before - 1) ≡ Some sibling = ap (λ xs. slice_get xs (length xs - 1)) (sym c.deref.ensures.value) ∙ sym c.last.ensures.value ∙ ap option_copied w.in-Some-last.is in
          let front = take (length before - 1) before in
          let split = last-split before sibling found in
          let linked = next-linked old new w.insert_after.new.arena linking.done before front entry this sibling split (next-member new) a w.insert_after.ensures.contents w.insert_after.ensures.placed w.insert_after.ensures.linked in
          record {
            linking = record { done = linking.done ++ entry ∷ []; split = whole; linked = subst (λ x. AreLinked old x (linking.done ++ entry ∷ []) c.push_reserved.new.self.items) (sym w.arena-is) (subst (AreLinked old w.insert_after.new.arena (linking.done ++ entry ∷ [])) (sym c.push_reserved.ensures.items) linked) };
            room = omega (arith, ap (λ x. room x LeafKind) w.arena-is, same-room new w.insert_after.new.arena w.insert_after.ensures.room LeafKind, rooms, one, c.next.ensures.len, c.moving.invariant.room);
            leaf_room = omega (arith, ap (λ x. room x LeafKind) w.arena-is, same-room new w.insert_after.new.arena w.insert_after.ensures.room LeafKind, rooms, one, c.next.ensures.len, c.moving.invariant.leaf_room);
            memory = omega (arith, pushed, one, c.next.ensures.len, c.push_reserved.ensures.capacity, c.moving.invariant.memory);
            other_room = λ other differ. ap (λ x. room x other) w.arena-is ∙ same-room new w.insert_after.new.arena w.insert_after.ensures.room other ∙ c.allocate_reserved-leaf.ensures.other_room other differ ∙ c.moving.invariant.other_room other differ;
          }
      | in_default-last w ↦
          let none = none-left before (ap (λ xs. slice_get xs (length xs - 1)) (sym c.deref.ensures.value) ∙ sym c.last.ensures.value ∙ ap option_copied w.in_default-last.is) in
          let linked = first-linked old new linking.done before entry this none a in
          record {
            linking = record { done = linking.done ++ entry ∷ []; split = whole; linked = subst (λ x. AreLinked old x (linking.done ++ entry ∷ []) c.push_reserved.new.self.items) (sym w.arena-is) (subst (AreLinked old new (linking.done ++ entry ∷ [])) (sym c.push_reserved.ensures.items) linked) };
            room = omega (arith, ap (λ x. room x LeafKind) w.arena-is, rooms, one, c.next.ensures.len, c.moving.invariant.room);
            leaf_room = omega (arith, ap (λ x. room x LeafKind) w.arena-is, rooms, one, c.next.ensures.len, c.moving.invariant.leaf_room);
            memory = omega (arith, pushed, one, c.next.ensures.len, c.push_reserved.ensures.capacity, c.moving.invariant.memory);
            other_room = λ other differ. ap (λ x. room x other) w.arena-is ∙ c.allocate_reserved-leaf.ensures.other_room other differ ∙ c.moving.invariant.other_room other differ;
          }
    ]
