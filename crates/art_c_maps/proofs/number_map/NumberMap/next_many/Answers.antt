use Rattle.std.proofs.Common.{◌∙◌, false, length, min, take, ap}
use Rattle.art_c_maps.specs.Batch.{toward}
use Rattle.art_c_maps.specs.Entries.{begun_with, keys_of, values_of}
use Rattle.art_c_maps.proofs.number_map.NumberMap.next_many.Goals as goal

pub returns : goal.returns
returns c =
    let most = min (length c.args.keys.now) (length c.args.values.now) in record {
      count = c.write_entries.ensures.count ∙ ap (λ all. length (take most (toward false all))) c.from.ensures;
      keys = c.write_entries.ensures.keys ∙ ap (λ all. begun_with (keys_of (take most (toward false all))) c.args.keys.now) c.from.ensures;
      values = c.write_entries.ensures.values ∙ ap (λ all. begun_with (values_of (take most (toward false all))) c.args.values.now) c.from.ensures;
    }
