use Rattle.std.proofs.Common.{◌∙◌, ap}
use Rattle.std.specs.Option.{option_map}
use Rattle.art_c_maps.specs.ByteStrings.{bytes_of_string}
use Rattle.art_c_maps.specs.Buffers.{key_written, len_and_value}
use Rattle.art_c_maps.specs.Entries.{last_of}
use Rattle.art_c_maps.proofs.FoundLemmas.{last-read, now-read}
use Rattle.art_c_maps.proofs.bytes_map.BytesMap.last.Goals as goal

pub returns : goal.returns
returns c =
    let found = now-read bytes_of_string c.last_key_value.result ∙ last-read bytes_of_string _ c.self.inside.entries c.last_key_value.ensures.last ∙ ap last_of c.self.view_is in
    record {
      found = c.write_found.ensures.found ∙ ap (option_map len_and_value) found;
      written = c.write_found.ensures.written ∙ ap (λ entry. key_written entry c.args.key_out.now) found;
    }
