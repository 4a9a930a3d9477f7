use Rattle.std.proofs.Common.{◌∙◌, true, length, min, take, ap}
use Rattle.art_c_maps.specs.Batch.{toward}
use Rattle.art_c_maps.specs.Entries.{begun_with, keys_of, values_of}
use Rattle.art_c_maps.proofs.number_map.NumberMap.previous_many.Goals as goal

pub returns : goal.returns
returns c =
    let most = min (length c.args.keys.now) (length c.args.values.now) in record {
      count = c.write_entries.ensures.count ∙ ap (λ all. length (take most (toward true all))) c.up_to.ensures;
      keys = c.write_entries.ensures.keys ∙ ap (λ all. begun_with (keys_of (take most (toward true all))) c.args.keys.now) c.up_to.ensures;
      values = c.write_entries.ensures.values ∙ ap (λ all. begun_with (values_of (take most (toward true all))) c.args.values.now) c.up_to.ensures;
    }
