use Rattle.std.proofs.Common.{◌≤◌, ◌-◌, length, map, take, drop, sym, ◌∙◌, ap, subst, arith}
use Rattle.std.proofs.lemmas.List.{length-map, take-map, drop-map}
use Rattle.art_nodes.specs.ChildMap.{table_children, pairs_within}
use Rattle.art_nodes.specs.IndexTable.{index_of}
use Rattle.art_nodes.specs.IndirectNode.{named_pointer, named_pointers, AreBelow}
use Rattle.art_nodes.specs.PairSources.{first_byte}
use Rattle.art_nodes.proofs.IndirectLemmas.{below-drop, below-take}
use Rattle.art_nodes.proofs.RangeLemmas.{pairs_between, within-between, table-between}
use Rattle.art_nodes.proofs.TableLemmas.{above-table}
use Rattle.art_nodes.proofs.iteration.child_iter.PairIter.over_indices_range.Goals as goal

pub new-requires-clause-named : goal.new-requires-clause-named
new-requires-clause-named g c =
    let places = c.places.result.now in
    let start = c.byte_range-bytes.result.start in
    let kept = c.byte_range-bytes.result.end - start in
    let whole = rw (← c.places.ensures.indices) at c.requires.named in
    let cut = ap (λ rest. take kept rest) (drop-map index_of start places) ∙ take-map index_of kept (drop start places) in
    subst (AreBelow (length c.args.children.now)) cut (below-take _ kept _ (below-drop _ start _ whole))

pub returns : goal.returns
returns g c =
    let bytes = c.places.result.now in
    let names = named_pointer c.args.children.now in
    let places = named_pointers c.args.children.now (map index_of bytes) in
    let start = c.byte_range-bytes.result.start in
    let end = c.byte_range-bytes.result.end in
    let fits : length places ≤ 256 = simp length-map (omega (arith, c.places.ensures.all_bytes)) in
    let part =
    ap (λ rest. take (end - start) rest) (drop-map names start (map index_of bytes) ∙ ap (map names) (drop-map index_of start bytes))
    ∙ take-map names (end - start) (map index_of (drop start bytes))
    ∙ ap (map names) (take-map index_of (end - start) (drop start bytes)) in
    c.new.ensures
    ∙ ap (table_children start) (sym part)
    ∙ table-between start end places c.byte_range-bytes.ensures.ordered fits
    ∙ ap (λ n. pairs_between (table_children 0 places) n end) c.byte_range-bytes.ensures.first
    ∙ ap (λ n. pairs_between (table_children 0 places) (first_byte c.args.start) n) c.byte_range-bytes.ensures.end
    ∙ sym (within-between 0 (table_children 0 places) c.args.start c.args.end (above-table 0 places (omega (arith, fits))))
    ∙ ap (λ indices. pairs_within (table_children 0 (named_pointers c.args.children.now indices)) c.args.start c.args.end) c.places.ensures.indices
