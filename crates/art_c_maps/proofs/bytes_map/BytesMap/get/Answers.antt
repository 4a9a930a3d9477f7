use Rattle.std.proofs.Common.{◌∙◌, ap}
use Rattle.std.specs.BTreeMap.{is_at}
use Rattle.art_c_maps.specs.ByteStrings.{bytes_of_string}
use Rattle.art_bytes.specs.Text.{text_order}
use Rattle.art_c_maps.specs.Entries.{value_of}
use Rattle.art_c_maps.proofs.InBytesLemmas.{value-read}
use Rattle.art_c_maps.proofs.bytes_map.BytesMap.get.Goals as goal

pub returns : goal.returns
returns c =
    c.copied.ensures ∙ c.get.ensures ∙ value-read bytes_of_string (is_at (text_order c.args.key.now)) c.self.inside.entries
    ∙ ap (λ seen. value_of text_order seen c.args.key.now) c.self.view_is
