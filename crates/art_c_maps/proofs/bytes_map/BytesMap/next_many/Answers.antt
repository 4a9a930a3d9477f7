use Rattle.std.proofs.Common.{◌∙◌, false, length, min, ap}
use Rattle.art_c_maps.specs.Batch.{ends_of, fitting, joined_keys, toward, unfit_len}
use Rattle.art_c_maps.specs.Entries.{begun_with, first_of, keys_of, values_of}
use Rattle.art_c_maps.proofs.bytes_map.BytesMap.next_many.Goals as goal

pub returns : goal.returns
returns c =
    let run = ap (toward false) c.from_with_prefix-entries.ensures in
    let most = min (length c.args.ends.now) (length c.args.values.now) in let size = length c.args.keys.now in
    record {
      count = c.write_batch.ensures.count ∙ ap (λ es. length (fitting most size es)) run;
      unfit = c.write_batch.ensures.unfit ∙ ap (λ es. unfit_len (fitting most size es) (first_of es)) run;
      keys = c.write_batch.ensures.keys ∙ ap (λ es. begun_with (joined_keys (keys_of (fitting most size es))) c.args.keys.now) run;
      ends = c.write_batch.ensures.ends ∙ ap (λ es. begun_with (ends_of (fitting most size es)) c.args.ends.now) run;
      values = c.write_batch.ensures.values ∙ ap (λ es. begun_with (values_of (fitting most size es)) c.args.values.now) run;
    }
