use Rattle.std.proofs.Common.{◌∙◌, Bool, List, ℕ, ap, nat_eq}
use Rattle.std.specs.List.{starts_with}
use Rattle.std.specs.Prelude.{◌&&◌}
use Rattle.art_c_maps.specs.ByteStrings.{bytes_of_string}
use Rattle.art_bytes.specs.Text.{text_order}
use Rattle.art_c_maps.specs.Entries.{entries_to, entries_in_bytes, entries_with_prefix}
use Rattle.art_c_maps.proofs.InBytesLemmas.{picked-read, picked-twice}
use Rattle.art_c_maps.proofs.LimitLemmas.{is_before}
use Rattle.art_c_maps.proofs.bytes_map.BytesMap.up_to_with_prefix.Goals as goal

pub returns : goal.returns
returns c =
    let begins : List ℕ → Bool = λ key. starts_with nat_eq key c.args.prefix.now in
    let side : List ℕ → Bool = λ key. is_before c.args.inclusive (text_order c.args.key.now key) in
    ap entries_in_bytes (c.within.ensures.between tt)
    ∙ picked-read bytes_of_string _ (λ key. begins key && side key) c.limits_to.ensures c.self.inside.entries
    ∙ picked-twice (λ entry. begins entry.0) (λ entry. side entry.0) (entries_in_bytes c.self.inside.entries)
    ∙ ap (λ seen. entries_to text_order c.args.inclusive c.args.key.now (entries_with_prefix c.args.prefix.now seen)) c.self.view_is
