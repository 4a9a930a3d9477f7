use Rattle.std.proofs.Common.{◌≡◌, ◌∙◌, Some, None, sym, ap}
use Rattle.std.specs.BTreeMap.{is_at}
use Rattle.std.specs.Map.{set_value}
use Rattle.art_c_maps.specs.ByteStrings.{bytes_of_string}
use Rattle.std.proofs.lemmas.Cmp.{nat_list_cmp_total}
use Rattle.art_bytes.specs.Text.{text_order}
use Rattle.art_c_maps.specs.Entries.{entries_in_bytes, put, value_of}
use Rattle.art_c_maps.proofs.InBytesLemmas.{ordered-read, set-put, set-read, value-read}
use Rattle.art_c_maps.proofs.bytes_map.BytesMap.replace.Goals as goal

pub returns-in_err-there-clause-before : goal.returns-in_err-there-clause-before
returns-in_err-there-clause-before c =
    let none : c.from_residual.result ≡ None = c.from_residual.ensures in
    none ∙ c.in_err-there.ensures.value ∙ value-read bytes_of_string (is_at (text_order c.args.key.now)) c.self.inside.entries
    ∙ ap (λ seen. value_of text_order seen c.args.key.now) c.self.view_is

pub returns-clause-before : goal.returns-clause-before
returns-clause-before c =
    ap Some c.replace.ensures.value ∙ c.in_ok-there.ensures.value ∙ value-read bytes_of_string (is_at (text_order c.args.key.now)) c.self.inside.entries
    ∙ ap (λ seen. value_of text_order seen c.args.key.now) c.self.view_is

pub returns-clause-replaced : goal.returns-clause-replaced
returns-clause-replaced c =
    let key = c.args.key.now in let entries = c.self.inside.entries in
    let found = sym (c.in_ok-there.ensures.value ∙ value-read bytes_of_string (is_at (text_order key)) entries) in
    set-read bytes_of_string (is_at (text_order key)) entries c.replace.new.dest
    ∙ ap (set_value (is_at (text_order key)) (entries_in_bytes entries)) c.replace.ensures.after
    ∙ set-put text_order nat_list_cmp_total (entries_in_bytes entries) key c.in_ok-there.there.now c.args.value (ordered-read bytes_of_string text_order entries c.get_mut.ensures.ordered) found
    ∙ ap (λ seen. put text_order seen key c.args.value) c.self.view_is
