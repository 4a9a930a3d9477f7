use Rattle.std.proofs.Common.{◌∙◌, List, ℕ, ap, sym}
use Rattle.std.specs.BTreeMap.{is_at}
use Rattle.art_bytes.specs.Text.{text_order}
use Rattle.art_c_maps.specs.ByteStrings.{bytes_of_string}
use Rattle.art_c_maps.specs.Entries.{entries_in_bytes, put, value_of}
use Rattle.art_c_maps.proofs.InBytesLemmas.{put-read, value-read}
use Rattle.art_c_maps.proofs.bytes_map.BytesMap.insert_once.Goals as goal
use Rattle.art_c_maps.proofs.bytes_map.BytesMap.insert_once.Goals.{in-Ok-insert, in-Err}

pub returns-clause-replaced : goal.returns-clause-replaced
returns-clause-replaced c =
    let owned = bytes_of_string c.in-Ok.owned in
    elim c.match-insert.branch [
      | in-Ok-insert w ↦ rw w.result-is (w.in-Ok-insert.ensures.old ∙ value-read bytes_of_string (is_at (text_order owned)) c.self.inside.entries
          ∙ ap (λ seen. value_of text_order seen owned) c.self.view_is ∙ ap (value_of text_order c.args.self.now) c.in-Ok.ensures.bytes)
      | in-Err w ↦ rw w.result-is tt
    ]

pub returns-clause-entries : goal.returns-clause-entries
returns-clause-entries c =
    let owned = bytes_of_string c.in-Ok.owned in
    elim c.match-insert.branch [
      | in-Ok-insert w ↦ rw w.result-is (ap entries_in_bytes w.in-Ok-insert.ensures.entries ∙ put-read bytes_of_string text_order c.self.inside.entries c.in-Ok.owned c.args.value
          ∙ ap (λ seen. put text_order seen owned c.args.value) c.self.view_is ∙ ap (λ (bytes : List ℕ). put text_order c.args.self.now bytes c.args.value) c.in-Ok.ensures.bytes)
      | in-Err w ↦ rw w.result-is tt
    ]

pub returns-clause-refusal_due : goal.returns-clause-refusal_due
returns-clause-refusal_due c =
    let owned = bytes_of_string c.in-Ok.owned in
    elim c.match-insert.branch [
      | in-Ok-insert w ↦ rw w.result-is tt
      | in-Err w ↦ rw w.result-is (
        c.requires,
        ap (value_of text_order c.args.self.now) (sym c.in-Ok.ensures.bytes) ∙ ap (λ seen. value_of text_order seen owned) (sym c.self.view_is)
            ∙ sym (value-read bytes_of_string (is_at (text_order owned)) c.self.inside.entries) ∙ w.in-Err.ensures.absent,
      )
    ]
