use Rattle.std.proofs.Common.{◌≡◌, ◌≢◌, ◌∙◌, IfErr, length, vec_len, ap, arith, subst}
use Rattle.std.specs.Vec.Iter.{into_iter_items}
use Rattle.art_steps.specs.Room.{HasEntryRoom}
use Rattle.art_steps.specs.declared.faults.InsertRefusal.TheVariants.{OutOfMemory}
use Rattle.art_map_tests.proofs.map.reserved_entries.enter_each.Goals as goal

pub each-init : goal.each-init
each-init g c =
    let left = length (into_iter_items c.into_iter-entries.result) in
    let same = ap length c.into_iter-entries.ensures.rest in
    let counted : vec_len c.args.entries ≡ left = omega (arith, c.args.entries.ok.0, same) in
    subst (λ count. HasEntryRoom c.reserve_entries.new.self.arena count) (c.len.ensures ∙ counted) c.in_ok-reserve_entries.ensures.room

pub returns-in-Err : goal.returns-in-Err
returns-in-Err g c =
    let left = length (into_iter_items c.next.new.self) in
    let one_more = ap length c.in-Some.ensures.items in
    subst (λ entered. IfErr entered (λ fault. fault.refusal ≢ OutOfMemory)) c.in-Err.is (c.enter.ensures.enough left (subst (λ count. HasEntryRoom c.each.tree.arena count) (omega (arith, one_more)) c.each.invariant))

pub each-preserved : goal.each-preserved
each-preserved g c =
    let left = length (into_iter_items c.next.new.self) in
    let one_more = ap length c.in-Some.ensures.items in
    c.enter.ensures.lasts left (subst (λ count. HasEntryRoom c.each.tree.arena count) (omega (arith, one_more)) c.each.invariant)
