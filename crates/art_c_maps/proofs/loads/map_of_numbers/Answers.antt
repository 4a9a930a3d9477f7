use Rattle.std.proofs.Common.{◌∙◌, get_or, ap, arith}
use Rattle.std.specs.List.{zip}
use Rattle.std.specs.Ordering.{nat_cmp}
use Rattle.std.proofs.lemmas.Cmp.{nat_cmp_total}
use Rattle.std.proofs.lemmas.List.{take_all}
use Rattle.std.proofs.lemmas.Slice.Zip.{length-zip}
use Rattle.art_c_maps.specs.Entries.{put}
use Rattle.art_c_maps.proofs.LoadLemmas.{pair-put}
use Rattle.art_c_maps.proofs.loads.map_of_numbers.Goals as goal

pub loop-index-preserved : goal.loop-index-preserved
loop-index-preserved c =
    let keys = c.args.keys.now in let values = c.args.values.now in let i = c.loop-index.index in
    c.in-Ok.ensures.entries ∙ ap (λ entries. put nat_cmp entries (get_or keys i 0) (get_or values i 0)) c.loop-index.invariant
    ∙ pair-put nat_cmp nat_cmp_total keys values i 0 0 c.requires (omega (arith, c.loop-index-test.true, c.min-count.ensures)) (omega (arith, c.loop-index-test.true, c.min-count.ensures))

pub returns : goal.returns
returns c =
    c.loop-index.invariant ∙ take_all c.loop-index.index (zip c.args.keys.now c.args.values.now)
    (omega (arith, c.loop-index-test.false, c.min-count.ensures, length-zip c.args.keys.now c.args.values.now))
