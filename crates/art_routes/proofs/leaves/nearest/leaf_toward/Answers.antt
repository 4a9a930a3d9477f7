use Rattle.art_routes.proofs.LeafNames.{First, IsBesideKey, IsBesideKeyOrNone, Last, Some, ap, leaf_at, leaf_pointer, leaves, next_at, next_key, option_and_then, option_map, previous_at, previous_key, slab_key, subst, sym, ◌∙◌, ◌≡◌}
use Rattle.art_routes.proofs.ListLemmas.{slot-of}
use Rattle.art_routes.proofs.LinkLemmas.{after-last, as-pointers, before-first, first-itself, last-itself}
use Rattle.art_routes.proofs.leaves.nearest.leaf_toward.Goals as goal

pub returns-in-First-side_of_leaf : goal.returns-in-First-side_of_leaf
returns-in-First-side_of_leaf g c = λ root whole side key alone beside.
    let leaf = c.args.beside.0 in
    let first = subst (λ end. IsBesideKey side key (leaves whole) end (leaf_pointer leaf)) c.in-First-side_of_leaf.is beside in
    subst (λ end. IsBesideKeyOrNone side key end (leaves whole) (option_map leaf_pointer (Some leaf))) (sym c.in-First.is)
    (first-itself alone side key (slab_key leaf) first)

pub returns-in-Last-side_of_leaf : goal.returns-in-Last-side_of_leaf
returns-in-Last-side_of_leaf g c = λ root whole side key alone beside.
    let arena = c.args.arena.now in
    let leaf = c.args.beside.0 in
    let last = subst (λ end. IsBesideKey side key (leaves whole) end (leaf_pointer leaf)) c.in-Last-side_of_leaf.is beside in
    let slot = slot-of (leaf_at arena (slab_key leaf)) c.as_ref.result.now c.as_ref.ensures in
    let next_is : option_map slab_key c.next.result ≡ next_at arena (slab_key leaf) = c.next.ensures ∙ sym (ap (option_and_then next_key) slot) in
    subst (λ end. IsBesideKeyOrNone side key end (leaves whole) (option_map leaf_pointer c.next.result)) (sym c.in-First.is)
    (subst (IsBesideKeyOrNone side key First (leaves whole)) (sym (as-pointers c.next.result))
    (after-last alone side key (slab_key leaf) last (option_map slab_key c.next.result) next_is))

pub returns-in-First-side_of_leaf-2 : goal.returns-in-First-side_of_leaf-2
returns-in-First-side_of_leaf-2 g c = λ root whole side key alone beside.
    let arena = c.args.arena.now in
    let leaf = c.args.beside.0 in
    let first = subst (λ end. IsBesideKey side key (leaves whole) end (leaf_pointer leaf)) c.in-First-side_of_leaf-2.is beside in
    let slot = slot-of (leaf_at arena (slab_key leaf)) c.as_ref-in-First-side_of_leaf-2.result.now c.as_ref-in-First-side_of_leaf-2.ensures in
    let previous_is : option_map slab_key c.previous.result ≡ previous_at arena (slab_key leaf) = c.previous.ensures ∙ sym (ap (option_and_then previous_key) slot) in
    subst (λ end. IsBesideKeyOrNone side key end (leaves whole) (option_map leaf_pointer c.previous.result)) (sym c.in-Last.is)
    (subst (IsBesideKeyOrNone side key Last (leaves whole)) (sym (as-pointers c.previous.result))
    (before-first alone side key (slab_key leaf) first (option_map slab_key c.previous.result) previous_is))

pub returns-in-Last-side_of_leaf-2 : goal.returns-in-Last-side_of_leaf-2
returns-in-Last-side_of_leaf-2 g c = λ root whole side key alone beside.
    let leaf = c.args.beside.0 in
    let last = subst (λ end. IsBesideKey side key (leaves whole) end (leaf_pointer leaf)) c.in-Last-side_of_leaf-2.is beside in
    subst (λ end. IsBesideKeyOrNone side key end (leaves whole) (option_map leaf_pointer (Some leaf))) (sym c.in-Last.is)
    (last-itself alone side key (slab_key leaf) last)
