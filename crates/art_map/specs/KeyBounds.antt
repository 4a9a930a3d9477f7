-- Keys below which entries have none, and keys above which they have none.
use Rattle.std.specs.Prelude.{◌≡◌, false, List, IsSome}
use Rattle.std.specs.Ordering.{is_gt, is_lt}
use Rattle.std.specs.declared.cmp.Ordering.{Ordering}
use Rattle.art_pages.specs.Entries.{get_by}

module _ {K V : Type 0} (cmp : K → K → Ordering) (entries : List (K × V)) where
  -- no key with an entry is below this one
  abbrev pub IsLowerBound : K → Type 0
  IsLowerBound key = (other : K) → IsSome (get_by (cmp other) entries) → is_gt (cmp key other) ≡ false

  -- no key with an entry is above this one
  abbrev pub IsUpperBound : K → Type 0
  IsUpperBound key = (other : K) → IsSome (get_by (cmp other) entries) → is_lt (cmp key other) ≡ false
