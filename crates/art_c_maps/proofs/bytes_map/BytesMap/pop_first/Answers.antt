use Rattle.std.proofs.Common.{◌≡◌, ◌∙◌, true, false, length, drop, sym, ap, arith}
use Rattle.std.specs.Option.{option_map}
use Rattle.art_c_maps.specs.ByteStrings.{bytes_of_string}
use Rattle.std.proofs.lemmas.Grind.{common_steps}
use Rattle.std.proofs.lemmas.List.{drop-map}
use Rattle.art_c_maps.specs.Buffers.{key_fits, key_written, len_and_value}
use Rattle.art_c_maps.specs.Entries.{entries_in_bytes, first_of}
use Rattle.art_c_maps.proofs.FoundLemmas.{first-read, now-read, removed-first, where-false, where-true}
use Rattle.art_c_maps.proofs.InBytesLemmas.{entry_read}
use Rattle.art_c_maps.proofs.bytes_map.BytesMap.pop_first.Goals as goal

pub returns-then-not-found_fits : goal.returns-then-not-found_fits
returns-then-not-found_fits c =
    let found = now-read bytes_of_string c.first_key_value.result ∙ first-read bytes_of_string _ c.self.inside.entries c.first_key_value.ensures.first ∙ ap first_of c.self.view_is in
    let fits = c.found_fits.ensures ∙ ap (λ e. key_fits e (length c.args.key_out.now)) found in
    let is_false : key_fits (first_of c.args.self.now) (length c.args.key_out.now) ≡ false = grind (arith, common_steps, fits, c.if-not-found_fits.true) in
    record { found = c.first.ensures.found; written = c.first.ensures.written; entries = where-false _ _ c.args.self.now is_false }

pub returns : goal.returns
returns c =
    let found = now-read bytes_of_string c.first_key_value.result ∙ first-read bytes_of_string _ c.self.inside.entries c.first_key_value.ensures.first ∙ ap first_of c.self.view_is in
    let fits = c.found_fits.ensures ∙ ap (λ e. key_fits e (length c.args.key_out.now)) found in
    let is_true : key_fits (first_of c.args.self.now) (length c.args.key_out.now) ≡ true = grind (arith, common_steps, fits, c.if-not-found_fits.false) in
    let both = removed-first c.pop_first-removed.result c.self.inside.entries c.pop_first-removed.new.self c.pop_first-removed.ensures.removal c.pop_first-removed.ensures.none c.pop_first-removed.ensures.unchanged in
    let entry = first-read bytes_of_string c.pop_first-removed.result c.self.inside.entries both.0 ∙ ap first_of c.self.view_is in
    record {
      found = c.write_removed.ensures.found ∙ ap (option_map len_and_value) entry;
      written = c.write_removed.ensures.written ∙ ap (λ e. key_written e c.args.key_out.now) entry;
      entries = ap entries_in_bytes both.1 ∙ sym (drop-map (entry_read bytes_of_string) 1 c.self.inside.entries) ∙ ap (drop 1) c.self.view_is
          ∙ where-true _ (drop 1 c.args.self.now) c.args.self.now is_true;
    }
