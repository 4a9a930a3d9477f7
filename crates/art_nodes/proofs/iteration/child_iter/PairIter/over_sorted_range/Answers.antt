use Rattle.std.proofs.Common.{◌-◌, length, take, drop, sym, ◌∙◌, ap, refl}
use Rattle.std.proofs.lemmas.List.{take_rest}
use Rattle.std.proofs.lemmas.List.Sums.{count_by-le-length}
use Rattle.std.specs.List.{zip}
use Rattle.art_nodes.specs.PairSources.{first_byte}
use Rattle.art_nodes.proofs.RangeLemmas.{pairs_between, within-between, sorted-between, length-counted}
use Rattle.art_nodes.proofs.SortedLemmas.{above-zip}
use Rattle.art_nodes.proofs.iteration.child_iter.PairIter.over_sorted_range.Goals as goal

pub returns : goal.returns
returns g c =
    let keys = c.args.keys.now in
    let children = c.args.children.now in
    let bytes = c.byte_range-bytes in
    let from = c.count_below-from.result in
    let later = take (length keys - from) (drop from keys) in
    let beside = take (length children - from) (drop from children) in
    c.over_sorted.ensures
    ∙ ap (λ n. zip (take n later) (take n beside)) c.count_below-kept.ensures
    ∙ sorted-between bytes.result.start bytes.result.end keys children c.requires.beside c.requires.ascending later beside
    (take_rest keys from ∙ ap (λ n. drop n keys) c.count_below-from.ensures)
    (take_rest children from ∙ ap (λ n. drop n children) c.count_below-from.ensures)
    ∙ ap (λ n. pairs_between (zip keys children) n bytes.result.end) bytes.ensures.first
    ∙ ap (λ n. pairs_between (zip keys children) (first_byte c.args.start) n) bytes.ensures.end
    ∙ sym (within-between 0 (zip keys children) c.args.start c.args.end (above-zip 0 keys children c.requires.beside c.requires.ascending))

pub slice_bounds-over_sorted-end : goal.slice_bounds-over_sorted-end
slice_bounds-over_sorted-end g c = sym (length-counted _ c.args.keys.now c.args.keys.now c.count_below-from.result c.count_below-kept.result refl c.count_below-kept.ensures)

pub slice_bounds-over_sorted-end-2 : goal.slice_bounds-over_sorted-end-2
slice_bounds-over_sorted-end-2 g c = sym (length-counted _ c.args.keys.now c.args.children.now c.count_below-from.result c.count_below-kept.result c.requires.beside c.count_below-kept.ensures)

pub over_sorted-requires : goal.over_sorted-requires
over_sorted-requires g c = sym (slice_bounds-over_sorted-end-2 g c) ∙ slice_bounds-over_sorted-end g c

pub slice_bounds-keys-count : goal.slice_bounds-keys-count
slice_bounds-keys-count g c = rw c.count_below-from.ensures (count_by-le-length _ c.args.keys.now)

pub slice_bounds-keys-start : goal.slice_bounds-keys-start
slice_bounds-keys-start g c = rw c.count_below-from.ensures (count_by-le-length _ c.args.keys.now)

pub offset_bounds-children-from : goal.offset_bounds-children-from
offset_bounds-children-from g c = rw (c.requires.beside, c.count_below-from.ensures) (count_by-le-length _ c.args.keys.now)

pub slice_bounds-children-count : goal.slice_bounds-children-count
slice_bounds-children-count g c = rw (c.requires.beside, c.count_below-from.ensures) (count_by-le-length _ c.args.keys.now)

pub slice_bounds-children-start : goal.slice_bounds-children-start
slice_bounds-children-start g c = rw (c.requires.beside, c.count_below-from.ensures) (count_by-le-length _ c.args.keys.now)
