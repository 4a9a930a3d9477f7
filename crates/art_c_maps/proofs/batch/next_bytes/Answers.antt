use Rattle.std.proofs.Common.{◌∙◌, ◌∷◌, List, ℕ, sym, ap}
use Rattle.art_c_maps.specs.ByteStrings.{bytes_of_string}
use Rattle.art_c_maps.specs.Batch.{toward}
use Rattle.art_c_maps.specs.Entries.{entries_in_bytes}
use Rattle.art_c_maps.proofs.FoundLemmas.{none-always, none-toward, one-toward}
use Rattle.art_c_maps.proofs.batch.next_bytes.Goals as goal

pub returns-in_err-key-clause-none : goal.returns-in_err-key-clause-none
returns-in_err-key-clause-none c =
    none-always c.from_residual.result _ (none-toward bytes_of_string c.args.backward c.args.entries.now c.in_err-key.ensures.none)

pub returns-clause-some : goal.returns-clause-some
returns-clause-some c =
    let value = c.in_ok-key.value.now in
    one-toward bytes_of_string c.args.backward c.args.entries.now c.next_entry.new.entries (c.in_ok-key.key.now, value) c.in_ok-key.ensures.some
    ∙ ap (λ (bytes : List ℕ). (bytes, value) ∷ toward c.args.backward (entries_in_bytes c.next_entry.new.entries)) (sym c.as_bytes.ensures)
