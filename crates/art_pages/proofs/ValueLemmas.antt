-- Entries of which one has another value.
use Rattle.std.proofs.Common.{◌≡◌, ◌∙◌, ℕ, zero, suc, ◌<◌, List, [], ◌∷◌, length, get_or, Some, refl, sym, ap, arith}
use Rattle.std.specs.Prelude.{set, slice_get}
use Rattle.std.specs.Map.{keys_of}
use Rattle.art_pages.specs.Contents.{set_value_at}

module _ {K V : Type 0} where
  -- an entry at an index within the list
  pub slice_get-within : (entries : List (K × V)) (place : ℕ) (d : K × V) → place < length entries → slice_get entries place ≡ Some (get_or entries place d)
  slice_get-within [] place d within = absurd (omega (arith, within))
  slice_get-within (entry ∷ entries) zero d within = refl
  slice_get-within (entry ∷ entries) (suc place) d within = slice_get-within entries place d (omega (arith, within))

  pub set_value_at-set : (entries : List (K × V)) (place : ℕ) (d : K × V) (value : V) → place < length entries
      → set entries place ((get_or entries place d).0, value) ≡ set_value_at entries place value
  set_value_at-set [] place d value within = absurd (omega (arith, within))
  set_value_at-set (entry ∷ entries) zero d value within = refl
  set_value_at-set (entry ∷ entries) (suc place) d value within = ap (λ l. entry ∷ l) (set_value_at-set entries place d value (omega (arith, within)))

  pub keys_of-set_value_at : (entries : List (K × V)) (place : ℕ) (value : V) → keys_of (set_value_at entries place value) ≡ keys_of entries
  keys_of-set_value_at [] place value = refl
  keys_of-set_value_at (entry ∷ entries) zero value = refl
  keys_of-set_value_at (entry ∷ entries) (suc place) value = ap (λ l. entry.0 ∷ l) (keys_of-set_value_at entries place value)

  -- what a look at an index shows, where the entry there is known
  pub slice_get-is : (entries : List (K × V)) (place : ℕ) (entry : K × V) → place < length entries → entry ≡ get_or entries place entry → slice_get entries place ≡ Some entry
  slice_get-is entries place entry within is = slice_get-within entries place entry within ∙ ap Some (sym is)

  -- a value set in the pair at an index
  pub set-is : (entries : List (K × V)) (place : ℕ) (entry : K × V) (value : V) → place < length entries → entry ≡ get_or entries place entry
      → set entries place (entry.0, value) ≡ set_value_at entries place value
  set-is entries place entry value within is = ap (λ (e : K × V). set entries place (e.0, value)) is ∙ set_value_at-set entries place entry value within
