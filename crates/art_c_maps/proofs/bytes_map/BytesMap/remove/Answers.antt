use Rattle.std.proofs.Common.{◌∙◌, ap}
use Rattle.std.specs.BTreeMap.{is_at}
use Rattle.art_c_maps.specs.ByteStrings.{bytes_of_string}
use Rattle.art_bytes.specs.Text.{text_order}
use Rattle.art_c_maps.specs.Entries.{entries_in_bytes, value_of, without}
use Rattle.art_c_maps.proofs.InBytesLemmas.{value-read, without-read}
use Rattle.art_c_maps.proofs.bytes_map.BytesMap.remove.Goals as goal

pub returns : goal.returns
returns c = record {
  removed = c.remove.ensures.value ∙ value-read bytes_of_string (is_at (text_order c.args.key.now)) c.self.inside.entries
      ∙ ap (λ seen. value_of text_order seen c.args.key.now) c.self.view_is;
  entries = ap entries_in_bytes c.remove.ensures.entries ∙ without-read bytes_of_string (is_at (text_order c.args.key.now)) c.self.inside.entries
      ∙ ap (λ seen. without text_order seen c.args.key.now) c.self.view_is;
}
