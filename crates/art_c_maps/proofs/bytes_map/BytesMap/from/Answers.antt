use Rattle.std.proofs.Common.{◌∙◌, ap}
use Rattle.art_c_maps.specs.ByteStrings.{bytes_of_string}
use Rattle.art_bytes.specs.Text.{text_order}
use Rattle.art_map.specs.Ranges.{is_from}
use Rattle.art_c_maps.specs.Entries.{entries_from, entries_in_bytes}
use Rattle.art_c_maps.specs.Limits.{limit_compare}
use Rattle.art_c_maps.proofs.InBytesLemmas.{picked-read}
use Rattle.art_c_maps.proofs.LimitLemmas.{and-true, is_after}
use Rattle.art_c_maps.proofs.bytes_map.BytesMap.from.Goals as goal

pub returns : goal.returns
returns c =
    ap entries_in_bytes (c.within.ensures.between tt)
    ∙ picked-read bytes_of_string _ (λ key. is_after c.args.inclusive (text_order c.args.key.now key))
    (λ key. and-true (is_from limit_compare c.bound_at.result key) ∙ c.bound_at.ensures.start key) c.self.inside.entries
    ∙ ap (entries_from text_order c.args.inclusive c.args.key.now) c.self.view_is
