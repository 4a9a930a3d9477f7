use Rattle.std.proofs.Common.{◌≡◌, ◌-◌, ◌∙◌, true, false, length, take, sym, ap, arith}
use Rattle.std.specs.Option.{option_map}
use Rattle.art_c_maps.specs.ByteStrings.{bytes_of_string}
use Rattle.std.proofs.lemmas.Grind.{common_steps}
use Rattle.std.proofs.lemmas.List.{length-map, take-map}
use Rattle.art_c_maps.specs.Buffers.{key_fits, key_written, len_and_value}
use Rattle.art_c_maps.specs.Entries.{entries_in_bytes, last_of}
use Rattle.art_c_maps.proofs.FoundLemmas.{last-read, now-read, removed-last, where-false, where-true}
use Rattle.art_c_maps.proofs.InBytesLemmas.{entry_read}
use Rattle.art_c_maps.proofs.bytes_map.BytesMap.pop_last.Goals as goal

pub returns-then-not-found_fits : goal.returns-then-not-found_fits
returns-then-not-found_fits c =
    let found = now-read bytes_of_string c.last_key_value.result ∙ last-read bytes_of_string _ c.self.inside.entries c.last_key_value.ensures.last ∙ ap last_of c.self.view_is in
    let fits = c.found_fits.ensures ∙ ap (λ e. key_fits e (length c.args.key_out.now)) found in
    let is_false : key_fits (last_of c.args.self.now) (length c.args.key_out.now) ≡ false = grind (arith, common_steps, fits, c.if-not-found_fits.true) in
    record { found = c.last.ensures.found; written = c.last.ensures.written; entries = where-false _ _ c.args.self.now is_false }

pub returns : goal.returns
returns c =
    let found = now-read bytes_of_string c.last_key_value.result ∙ last-read bytes_of_string _ c.self.inside.entries c.last_key_value.ensures.last ∙ ap last_of c.self.view_is in
    let fits = c.found_fits.ensures ∙ ap (λ e. key_fits e (length c.args.key_out.now)) found in
    let is_true : key_fits (last_of c.args.self.now) (length c.args.key_out.now) ≡ true = grind (arith, common_steps, fits, c.if-not-found_fits.false) in
    let both = removed-last c.pop_last-removed.result c.self.inside.entries c.pop_last-removed.new.self c.pop_last-removed.ensures.removal c.pop_last-removed.ensures.none c.pop_last-removed.ensures.unchanged in
    let entry = last-read bytes_of_string c.pop_last-removed.result c.self.inside.entries both.0 ∙ ap last_of c.self.view_is in
    record {
      found = c.write_removed.ensures.found ∙ ap (option_map len_and_value) entry;
      written = c.write_removed.ensures.written ∙ ap (λ e. key_written e c.args.key_out.now) entry;
      entries = ap entries_in_bytes both.1 ∙ sym (take-map (entry_read bytes_of_string) (length c.self.inside.entries - 1) c.self.inside.entries)
          ∙ ap (λ n. take (n - 1) (entries_in_bytes c.self.inside.entries)) (sym (length-map c.self.inside.entries (entry_read bytes_of_string))) ∙ ap (λ seen. take (length seen - 1) seen) c.self.view_is
          ∙ where-true _ (take (length c.args.self.now - 1) c.args.self.now) c.args.self.now is_true;
    }
