use Rattle.art_steps.proofs.Names.{◌≢◌, subst, arith, Nothing, held, leaf_pointer}
use Rattle.art_steps.proofs.PlaceLemmas.WayPlaces.{depth-within, leaf-begins, leaf-deep, leaf-extends, leaf-parts, leaf-same, leaf-within, spot-held}
use Rattle.art_steps.proofs.place.place_at_leaf.Goals as goal

pub as_ref-requires : goal.as_ref-requires
as_ref-requires g c =
    let there : held c.args.arena.now (leaf_pointer c.args.leaf) ≢ Nothing = subst (λ pointer. held c.args.arena.now pointer ≢ Nothing) c.requires.leaf (spot-held c.requires.spot.1) in
    search

pub slice_bounds-common_prefix_len-count : goal.slice_bounds-common_prefix_len-count
slice_bounds-common_prefix_len-count g c = leaf-deep c.requires.spot.1 c.requires.leaf c.as_ref.ensures c.as_bytes-text.ensures.text c.key_ref.ensures

pub slice_bounds-common_prefix_len-start : goal.slice_bounds-common_prefix_len-start
slice_bounds-common_prefix_len-start g c = leaf-deep c.requires.spot.1 c.requires.leaf c.as_ref.ensures c.as_bytes-text.ensures.text c.key_ref.ensures

pub slice_bounds-common_prefix_len-start-2 : goal.slice_bounds-common_prefix_len-start-2
slice_bounds-common_prefix_len-start-2 g c = depth-within c.requires.spot.1

pub slice_bounds-common_prefix_len-count-2 : goal.slice_bounds-common_prefix_len-count-2
slice_bounds-common_prefix_len-count-2 g c = depth-within c.requires.spot.1

pub overflow_add-index : goal.overflow_add-index
overflow_add-index g c = omega (arith, (leaf-within c.requires.spot.1 c.requires.leaf c.as_ref.ensures c.as_bytes-text.ensures.text c.key_ref.ensures c.common_prefix_len.ensures).1)

pub returns-then-index-key : goal.returns-then-index-key
returns-then-index-key g c = λ tree is. leaf-same is c.requires.leaf c.as_ref.ensures c.as_bytes-text.ensures.text c.key_ref.ensures c.common_prefix_len.ensures c.if-index-text.true c.if-index-key.true

pub returns-else-index-key : goal.returns-else-index-key
returns-else-index-key g c = λ tree is. leaf-extends is c.requires.leaf c.as_ref.ensures c.as_bytes-text.ensures.text c.key_ref.ensures c.common_prefix_len.ensures c.if-index-text.true c.if-index-key.false

pub returns-then-index-key-2 : goal.returns-then-index-key-2
returns-then-index-key-2 g c = λ tree is. leaf-begins is c.requires.leaf c.as_ref.ensures c.as_bytes-text.ensures.text c.key_ref.ensures c.common_prefix_len.ensures c.if-index-text.false c.if-index-key-2.true

pub bounds-key-index : goal.bounds-key-index
bounds-key-index g c = omega (arith, (leaf-within c.requires.spot.1 c.requires.leaf c.as_ref.ensures c.as_bytes-text.ensures.text c.key_ref.ensures c.common_prefix_len.ensures).1, c.if-index-key-2.false)

pub bounds-text-index : goal.bounds-text-index
bounds-text-index g c = omega (arith, (leaf-within c.requires.spot.1 c.requires.leaf c.as_ref.ensures c.as_bytes-text.ensures.text c.key_ref.ensures c.common_prefix_len.ensures).0, c.if-index-text.false)

pub returns : goal.returns
returns g c = λ tree is. leaf-parts is c.requires.leaf c.as_ref.ensures c.as_bytes-text.ensures.text c.key_ref.ensures c.common_prefix_len.ensures c.if-index-text.false c.if-index-key-2.false
