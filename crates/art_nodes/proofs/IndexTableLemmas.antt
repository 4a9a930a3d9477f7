-- Tables of indices: the pairs of a range of places.
use Rattle.std.proofs.Common.{◌≡◌, ℕ, ◌+◌, ◌<◌, ◌≤◌, List, [], ◌∷◌, ◌++◌, length, take, get_or, map, Option, Some, None, refl, sym, ◌∙◌, ap}
use Rattle.std.proofs.lemmas.List.{get_or-map, length-map, take-map}
use Rattle.art_nodes.specs.ChildMap.{table_children}
use Rattle.art_nodes.specs.IndexTable.{index_of}
use Rattle.art_nodes.proofs.ChildMapLemmas.{lt-true, lt-false}
use Rattle.art_nodes.proofs.PairLemmas.{table-drop_empty, table-take_last}

-- a number below 255 is an index, and no other is
pub index_below : (number : ℕ) → number < 255 → index_of number ≡ Some number
index_below number below = rw (lt-true number 255 below) refl

pub index_none : (number : ℕ) → 255 ≤ number → index_of number ≡ None
index_none number from = rw (lt-false number 255 from) refl

-- the places of these numbers, as indices
abbrev indices : List ℕ → List (Option ℕ)
indices places = map index_of places

module _ (byte : ℕ) (places : List ℕ) (place : ℕ) (within : place < length places) where
  at_place : get_or (indices places) place None ≡ index_of (get_or places place 0)
  at_place = get_or-map index_of places place 0 None within

  within_indices : place < length (indices places)
  within_indices = simp length-map within

  -- up to a place with no index there are the pairs of those before it
  pub drop_last_place : index_of (get_or places place 0) ≡ None → table_children byte (indices (take (place + 1) places)) ≡ table_children byte (indices (take place places))
  drop_last_place empty =
      ap (table_children byte) (sym (take-map index_of (place + 1) places))
      ∙ table-drop_empty byte (indices places) place None within_indices (at_place ∙ empty)
      ∙ ap (table_children byte) (take-map index_of place places)

  -- and up to one with an index, its pair besides
  pub take_last_place : (index : ℕ) → index_of (get_or places place 0) ≡ Some index → table_children byte (indices (take (place + 1) places)) ≡ table_children byte (indices (take place places)) ++ (byte + place, index) ∷ []
  take_last_place index filled =
      ap (table_children byte) (sym (take-map index_of (place + 1) places))
      ∙ table-take_last byte (indices places) place None index within_indices (at_place ∙ filled)
      ∙ ap (λ front. table_children byte front ++ (byte + place, index) ∷ []) (take-map index_of place places)
