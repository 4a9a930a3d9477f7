use Rattle.art_nodes.proofs.ChildMapLemmas.{lt-true, lt-false, not_below}
use Rattle.art_nodes.specs.IndexTable.{index_of}
use Rattle.art_nodes.specs.ChildMap.{table_children}
use Rattle.std.proofs.Math.Seq.{drop-cons}
use Rattle.std.proofs.Math.Numerals.{add-one}
use Rattle.std.proofs.Common.{◌≡◌, ℕ, suc, ◌+◌, ◌<◌, List, ◌∷◌, length, drop, get_or, map, refl, arith, ◌∙◌}
use Rattle.art_nodes.proofs.iteration.index_pairs.first_index.Goals as goal

-- the first remaining place, whether or not it has an index
place_left : (byte place : ℕ) (places : List ℕ) → place < length places → table_children byte (map index_of (drop place places)) ≡ table_children byte (index_of (get_or places place 0) ∷ map index_of (drop (place + 1) places))
place_left byte place places within = rw (add-one, drop-cons places place 0 within) refl

pub returns-in-Some-clause-found : goal.returns-in-Some-clause-found
returns-in-Some-clause-found c = λ byte.
    let found = c.in-Some.ensures in
    c.loop-place.invariant byte ∙ (place_left (byte + c.loop-place.place) c.loop-place.place c.args.places.now c.loop-place-test.true ∙ rw (lt-true _ 255 found.0, found.1, add-one (byte + c.loop-place.place)) refl)

pub loop-place-preserved : goal.loop-place-preserved
loop-place-preserved c = λ byte.
    let place = c.loop-place.place in
    let next : suc (byte + place) ≡ byte + (place + 1) = omega arith in
    c.loop-place.invariant byte ∙ (place_left (byte + place) place c.args.places.now c.loop-place-test.true ∙ rw (lt-false _ 255 (not_below c.in_default.ensures), ← next) refl)
