-- What the entries beside an index say of a query. No public clause cites this.
use Rattle.std.specs.Prelude.{◌≡◌, ℕ, ◌-◌, ◌<◌, ◌≤◌, List, HoldsAt, length, Result, Ok, Err}
use Rattle.std.specs.declared.cmp.Ordering.{Ordering}
use Rattle.std.specs.declared.cmp.Ordering.TheVariants.{Less, Equal, Greater}

-- the query is equal to the entry at an index, or lies between the entry before it and the one at it
abbrev pub IsSearchResult : {K V : Type 0} → (K → Ordering) → List (K × V) → Result ℕ ℕ → Type 0
IsSearchResult compare entries (Ok index) = (index < length entries) × HoldsAt (λ entry. compare entry.0 ≡ Equal) entries index
IsSearchResult compare entries (Err index) =
    (index ≤ length entries) × (0 < index → HoldsAt (λ entry. compare entry.0 ≡ Greater) entries (index - 1)) × (index < length entries → HoldsAt (λ entry. compare entry.0 ≡ Less) entries index)
