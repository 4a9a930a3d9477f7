-- What the contracts of a page see.
use Rattle.std.specs.Prelude.{ℕ, zero, suc, List, [], ◌∷◌}

-- the entries of a page, and for how many it has memory
pub record PageContents (K V : Type 0) : Type 0 where
  pub entries : List (K × V)
  pub capacity : ℕ

module _ {K V : Type 0} where
  -- entries with this value at an index
  abbrev pub set_value_at : List (K × V) → ℕ → V → List (K × V)
  set_value_at [] place value = []
  set_value_at (entry ∷ entries) zero value = (entry.0, value) ∷ entries
  set_value_at (entry ∷ entries) (suc place) value = entry ∷ set_value_at entries place value

  -- a page with this value at an index
  abbrev pub page_with_value : PageContents K V → ℕ → V → PageContents K V
  page_with_value page place value = record { entries = set_value_at page.entries place value; capacity = page.capacity }
