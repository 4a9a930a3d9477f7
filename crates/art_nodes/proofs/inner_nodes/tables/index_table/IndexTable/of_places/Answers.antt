use Rattle.std.proofs.lemmas.List.{length-set}
use Rattle.art_nodes.proofs.PlaceLemmas.{places_more}
use Rattle.art_nodes.proofs.inner_nodes.tables.index_table.IndexTable.of_places.Goals as goal

pub loop-place-preserved : goal.loop-place-preserved
loop-place-preserved c = rw (c.set.ensures, c.new_unchecked.ensures) record {
  all_bytes = simp length-set c.loop-place.invariant.all_bytes;
  pairs = places_more c.loop-place.table c.args.bytes.now c.loop-place.place c.loop-place.invariant.all_bytes c.requires.ascending c.loop-place-test.true c.loop-place.invariant.pairs;
}
