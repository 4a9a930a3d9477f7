use Rattle.art_tree.proofs.Names.{NodeType, ◌≢◌, ◌≤◌, vec_capacity, ◌<◌, ◌^◌, ℕ, length, ap, sym, subst, arith, room, IsPlanOf, needed, text_of_entry, texts_of, AreLinked, LeafKind, leaf-pointer-fits, slice-fits}
use Rattle.art_tree.proofs.LoadLemmas.LeafLists.{hold-held, hold-texts, hold-count}
use Rattle.art_tree.proofs.LoadLemmas.LoadedTree.{all-short, loaded}
use Rattle.art_tree.proofs.loading.make.Goals as goal

pub raise-requires : goal.raise-requires
raise-requires g c =
    let text = g.K.AsBytes.text in
    let middle = c.link_leaves.new.arena in
    let entries = c.args.entries.items in
    let of = c.deref.result.now in
    let linked = subst (AreLinked c.args.arena.now middle entries) (sym c.deref.ensures.value) c.link_leaves.ensures.linked in
    let texts = hold-texts text middle of entries linked.hold in
    let steps = c.deref-2.ensures.value in
    let short = subst (λ t. (i : ℕ) → length (text_of_entry t i) < 2 ^ 32) (sym texts) (all-short (texts_of text entries) c.requires.loadable) in
    let plan = subst (λ t. IsPlanOf t c.deref-2.result.now) (sym texts) (subst (IsPlanOf (texts_of text entries)) (sym steps) c.requires.plan) in
    let there = hold-held middle of entries linked.hold in
    let rooms : (kind : NodeType) → kind ≢ LeafKind → needed kind c.deref-2.result.now ≤ room middle kind = λ kind inner. omega (arith, ap (needed kind) steps, c.requires.room kind inner, c.link_leaves.ensures.other_room kind inner) in
    let memory : length of ≤ vec_capacity c.args.prepared.pending = omega (arith, hold-count middle of entries linked.hold, c.requires.pending, c.args.entries.ok.0) in
    assumption (leaf-pointer-fits, slice-fits)

pub returns : goal.returns
returns g c =
    let linked = subst (AreLinked c.args.arena.now c.link_leaves.new.arena c.args.entries.items) (sym c.deref.ensures.value) c.link_leaves.ensures.linked in
    (c.raise.ensures.0, loaded g.K.AsBytes.text c.args.arena.now c.link_leaves.new.arena c.raise.new.arena c.args.entries.items c.deref.result.now c.raise.result c.raise.ensures.0 linked c.raise.ensures.1)
