use Rattle.std.proofs.Common.{◌∙◌, ap}
use Rattle.art_c_maps.specs.ByteStrings.{bytes_of_string}
use Rattle.art_bytes.specs.Text.{text_order}
use Rattle.art_c_maps.specs.Entries.{entries_in_bytes, entries_to}
use Rattle.art_c_maps.proofs.InBytesLemmas.{picked-read}
use Rattle.art_c_maps.proofs.LimitLemmas.{is_before}
use Rattle.art_c_maps.proofs.bytes_map.BytesMap.up_to.Goals as goal

pub returns : goal.returns
returns c =
    ap entries_in_bytes (c.within.ensures.between tt)
    ∙ picked-read bytes_of_string _ (λ key. is_before c.args.inclusive (text_order c.args.key.now key)) c.bound_at.ensures.end c.self.inside.entries
    ∙ ap (entries_to text_order c.args.inclusive c.args.key.now) c.self.view_is
