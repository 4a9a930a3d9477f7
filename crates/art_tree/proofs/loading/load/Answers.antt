use Rattle.art_tree.proofs.Names.{◌<◌, ◌≤◌, length, vec_capacity, All, ◌∙◌, refl, sym, subst, arith, vec_len, room, length-map, IsPlanOf, texts_of, HaveNoFault, LeafKind, leaf-pointer-fits, prepared-fits}
use Rattle.art_steps.proofs.LoadLemmas.RefusalLemmas.{loadable}
use Rattle.art_tree.proofs.LoadLemmas.LoadedTree.{loaded-same}
use Rattle.art_tree.proofs.loading.load.Goals as goal

pub prepare-requires : goal.prepare-requires
prepare-requires g c =
    let fine = subst (λ entries. HaveNoFault (texts_of g.K.AsBytes.text entries)) (c.deref.ensures.value ∙ sym c.deref-2.ensures.value) c.in_default.ensures.no_fault in
    let some : 0 < length c.deref-2.result.now = omega (arith, fine.0, length-map c.deref-2.result.now (λ (entry : g.row.K.Denot × g.row.V.Denot). g.K.AsBytes.text entry.0)) in
    let short = loadable (texts_of g.K.AsBytes.text c.deref-2.result.now) fine.1 in
    assumption (leaf-pointer-fits, prepared-fits)

pub make-requires : goal.make-requires
make-requires g c =
    let entries = c.args.entries.items in
    let fine = subst (λ entries. HaveNoFault (texts_of g.K.AsBytes.text entries)) c.deref.ensures.value c.in_default.ensures.no_fault in
    let plan = subst (λ entries. IsPlanOf (texts_of g.K.AsBytes.text entries) c.in-Ok.prepared.steps.items) c.deref-2.ensures.value c.in-Ok.ensures.plan in
    let short = loadable (texts_of g.K.AsBytes.text entries) fine.1 in
    let leaves : vec_len c.args.entries ≤ vec_capacity c.in-Ok.prepared.leaves = omega (arith, c.deref-2.ensures.len, c.in-Ok.ensures.leaves.1) in
    let pending : vec_len c.args.entries ≤ vec_capacity c.in-Ok.prepared.pending = omega (arith, c.deref-2.ensures.len, c.in-Ok.ensures.pending.1) in
    let rooms : vec_len c.args.entries ≤ room c.prepare.new.arena LeafKind = omega (arith, c.deref-2.ensures.len, c.in-Ok.ensures.leaf_room) in
    assumption (leaf-pointer-fits, prepared-fits, c.in-Ok.ensures.leaves.0, c.in-Ok.ensures.pending.0, c.in-Ok.ensures.room)

pub returns-in-Ok-clause-loaded : goal.returns-in-Ok-clause-loaded
returns-in-Ok-clause-loaded g c =
    (c.make.ensures.0, loaded-same g.K.AsBytes.text c.args.arena.now c.prepare.new.arena c.make.new.arena c.args.entries.items c.make.result c.make.ensures.0 c.prepare.ensures.nodes_kept c.make.ensures.1)

pub returns-in-Ok-clause-no_fault : goal.returns-in-Ok-clause-no_fault
returns-in-Ok-clause-no_fault g c = subst (λ entries. HaveNoFault (texts_of g.K.AsBytes.text entries)) c.deref.ensures.value c.in_default.ensures.no_fault

pub returns-in-Err-clause-refusal_due : goal.returns-in-Err-clause-refusal_due
returns-in-Err-clause-refusal_due g c = subst (λ entries. HaveNoFault (texts_of g.K.AsBytes.text entries)) c.deref.ensures.value c.in_default.ensures.no_fault

pub returns-in-Some-clause-entries_back : goal.returns-in-Some-clause-entries_back
returns-in-Some-clause-entries_back g c = refl

pub returns-in-Some-clause-nodes_kept : goal.returns-in-Some-clause-nodes_kept
returns-in-Some-clause-nodes_kept g c = λ _. refl

pub returns-in-Ok-clause-keys : goal.returns-in-Ok-clause-keys
returns-in-Ok-clause-keys g c = subst (All (λ entry. g.K.AsBytes.is_key entry.0)) c.deref.ensures.value c.in_default.ensures.keys
