use Rattle.std.proofs.Common.{◌≡◌, ◌<◌, ◌∙◌, [], length, get_or, ap, arith}
use Rattle.std.specs.List.{zip}
use Rattle.art_c_maps.specs.ByteStrings.{bytes_of_string}
use Rattle.std.proofs.lemmas.Cmp.{nat_list_cmp_total}
use Rattle.std.proofs.lemmas.List.{take_all}
use Rattle.std.proofs.lemmas.Slice.Zip.{length-zip}
use Rattle.art_bytes.specs.Text.{text_order}
use Rattle.art_c_maps.specs.Entries.{entries_in_bytes, put}
use Rattle.art_c_maps.specs.Many.{cut}
use Rattle.art_c_maps.proofs.InBytesLemmas.{put-read}
use Rattle.art_c_maps.proofs.LoadLemmas.{pair-put}
use Rattle.art_c_maps.proofs.ManyLemmas.{cut-left, length-cut}
use Rattle.art_c_maps.proofs.loads.map_of_bytes.Goals as goal

pub loop-index-preserved : goal.loop-index-preserved
loop-index-preserved c =
    let keys = cut c.args.keys.now c.args.ends.now in let values = c.args.values.now in let i = c.loop-index.index in
    let in_ends : i < length c.args.ends.now = omega (arith, c.loop-index-test.true, c.min-count.ensures) in
    let step = cut-left c.args.keys.now c.args.ends.now c.loop-index.start i in_ends c.loop-index.invariant.left in
    let key : bytes_of_string c.in_ok-key.key ≡ get_or keys i [] = c.in_ok-key.ensures.bytes ∙ c.bytes_between.ensures ∙ step.0 in
    record {
      left = step.1;
      entries = ap entries_in_bytes c.in-Ok.ensures.entries ∙ put-read bytes_of_string text_order c.loop-index.loaded c.in_ok-key.key (get_or values i 0)
          ∙ ap (λ bytes. put text_order (entries_in_bytes c.loop-index.loaded) bytes (get_or values i 0)) key
          ∙ ap (λ entries. put text_order entries (get_or keys i []) (get_or values i 0)) c.loop-index.invariant.entries
          ∙ pair-put text_order nat_list_cmp_total keys values i [] 0 c.requires (omega (arith, in_ends, length-cut 0 c.args.keys.now c.args.ends.now)) (omega (arith, c.loop-index-test.true, c.min-count.ensures));
    }

pub returns : goal.returns
returns c =
    let keys = cut c.args.keys.now c.args.ends.now in
    c.loop-index.invariant.entries ∙ take_all c.loop-index.index (zip keys c.args.values.now)
    (omega (arith, c.loop-index-test.false, c.min-count.ensures, length-zip keys c.args.values.now, length-cut 0 c.args.keys.now c.args.ends.now))
