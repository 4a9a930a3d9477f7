use Rattle.std.proofs.Common.{◌∙◌, length, refl, sym, ap, arith, inl, nat_eq}
use Rattle.std.specs.List.{starts_with}
use Rattle.art_c_maps.specs.ByteStrings.{bytes_of_string}
use Rattle.std.proofs.lemmas.Iterator.Consumers.{YieldsList-from_first, count_from_yields_List}
use Rattle.std.proofs.lemmas.List.{length-map}
use Rattle.art_c_maps.specs.Entries.{entries_with_prefix}
use Rattle.art_c_maps.proofs.FoundLemmas.{filter-fewer, now_of}
use Rattle.art_c_maps.proofs.InBytesLemmas.{entry_read, picked-read}
use Rattle.art_c_maps.proofs.bytes_map.BytesMap.count_prefix.Goals as goal

pub returns : goal.returns
returns c =
    count_from_yields_List c.prefix.result c.count.result c.count.ensures.ran (YieldsList-from_first now_of (λ rest. rest) c.prefix.result refl)
    ∙ ap length c.prefix.ensures.begun ∙ sym (length-map _ (entry_read bytes_of_string))
    ∙ ap length (picked-read bytes_of_string _ (λ key. starts_with nat_eq key c.args.prefix.now) (λ key. refl) c.self.inside.entries)
    ∙ ap (λ seen. length (entries_with_prefix c.args.prefix.now seen)) c.self.view_is

pub count-requires-clause-fits : goal.count-requires-clause-fits
count-requires-clause-fits c =
    inl (omega (arith, filter-fewer _ c.self.inside.entries c.prefix.result c.prefix.ensures.begun, c.len-most.ensures.len, c.len-most.type_inv))
