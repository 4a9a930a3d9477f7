use Rattle.std.proofs.Common.{◌∙◌, ap}
use Rattle.std.specs.Option.{option_map}
use Rattle.art_c_maps.specs.ByteStrings.{bytes_of_string}
use Rattle.art_c_maps.specs.Buffers.{key_written, len_and_value}
use Rattle.art_c_maps.specs.Entries.{first_of}
use Rattle.art_c_maps.proofs.FoundLemmas.{first-read, first-yielded, now-read}
use Rattle.art_c_maps.proofs.bytes_map.BytesMap.next.Goals as goal

pub returns : goal.returns
returns c =
    let found = now-read bytes_of_string c.next.result ∙ first-read bytes_of_string _ c.from.result (first-yielded c.next.result c.from.result c.next.new.self _ c.next.ensures.steps) ∙ ap first_of c.from.ensures in
    record {
      found = c.write_found.ensures.found ∙ ap (option_map len_and_value) found;
      written = c.write_found.ensures.written ∙ ap (λ entry. key_written entry c.args.key_out.now) found;
    }
