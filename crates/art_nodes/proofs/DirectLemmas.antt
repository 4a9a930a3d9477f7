-- Direct nodes: a write and a removal at one place.
use Rattle.std.proofs.Common.{◌≡◌, ℕ, ◌+◌, ◌-◌, ◌<◌, List, length, get_or, set, Bool, true, false, if◌then◌else◌, Option, Some, None, sym, ◌∙◌, ap, subst, arith}
use Rattle.std.specs.Option.{is_some}
use Rattle.std.proofs.lemmas.List.{length-set}
use Rattle.art_header.specs.Header.{Header}
use Rattle.art_nodes.specs.ChildMap.{table_children}
use Rattle.art_nodes.specs.DirectNode.{IsDirectNode}
use Rattle.art_nodes.specs.Inner.{IsInner, inner_with}
use Rattle.art_nodes.proofs.ChildMapLaws.{length_absent, sound_written, sound_removed}
use Rattle.art_nodes.proofs.TableLemmas.{with_child-table, without_child-table, length-table_filled, length-table_emptied}

module _ {H : Type 0} (prefix_room : ℕ) (header : Header) (places : List (Option H)) (direct : IsDirectNode prefix_room header places) (place : ℕ) (small : place < 256) (was : Bool) (is : is_some (get_or places place None) ≡ was) where
  within : place < length places
  within = omega (arith, direct.all_bytes)

  pub direct-filled : (child : H) (after : Header) → after ≡ record header { count = if was then header.count else header.count + 1 } → IsDirectNode prefix_room after (set places place (Some child))
  direct-filled child after counts =
      let count = length-table_filled places place child was within (omega (arith, direct.all_bytes)) is in
      let shown = with_child-table 0 places place place child (omega arith) within (omega (arith, direct.all_bytes)) in
      let sound = sound_written prefix_room 256 (inner_with header (table_children 0 places)) place child direct.sound small (λ absent. length_absent (table_children 0 places) place small direct.sound.ascending absent) in
      rw counts (record {
        all_bytes = simp length-set direct.all_bytes;
        counted = ap (λ n. if was then n else n + 1) direct.counted ∙ sym count;
        sound = subst (λ cs. IsInner prefix_room 256 (inner_with header cs)) shown sound;
      })

  pub direct-emptied : (after : Header) → after ≡ record header { count = if was then header.count - 1 else header.count } → IsDirectNode prefix_room after (set places place None)
  direct-emptied after counts =
      let count = length-table_emptied places place was (omega (arith, direct.all_bytes)) is in
      let shown = without_child-table 0 places place place (omega arith) (omega (arith, direct.all_bytes)) in
      let sound = sound_removed prefix_room 256 (inner_with header (table_children 0 places)) place direct.sound in
      let left : (if was then header.count - 1 else header.count) ≡ length (table_children 0 (set places place None)) = elim was as (λ b. length (table_children 0 (set places place None)) + (if b then 1 else 0) ≡ length (table_children 0 places) → (if b then header.count - 1 else header.count) ≡ length (table_children 0 (set places place None))) [
        | true ↦ λ less. omega (arith, less, direct.counted)
        | false ↦ λ same. omega (arith, same, direct.counted)
      ] count in
      rw counts (record {
        all_bytes = simp length-set direct.all_bytes;
        counted = left;
        sound = subst (λ cs. IsInner prefix_room 256 (inner_with header cs)) shown sound;
      })
