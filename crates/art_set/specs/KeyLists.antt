-- A set as the list of its keys, in ascending order, in the words that std has for a `BTreeSet`.
use Rattle.std.specs.Prelude.{◌≡◌, Bool, true, false, ◌&&◌, not, List, Option, filter, find, fold, IsTrue}
use Rattle.std.specs.BTreeMap.{is_at}
use Rattle.std.specs.BTreeMap.Range.{range_contains}
use Rattle.std.specs.BTreeSet.{insert_key}
use Rattle.std.specs.List.{list_any}
use Rattle.std.specs.Ordering.{is_gt, is_lt}
use Rattle.std.specs.Set.{sorted_merge}
use Rattle.std.specs.declared.cmp.Ordering.{Ordering}
use Rattle.std.specs.declared.ops.Bound.{Bound}
use Rattle.art_map.specs.Ranges.{is_from, is_past}

module _ {K : Type 0} where
  -- whether a query compares `Equal` to a key
  abbrev pub contains_by : (K → Ordering) → List K → Bool
  contains_by compare keys = list_any (is_at compare) keys

  -- the key to which a query compares `Equal`
  abbrev pub find_by : (K → Ordering) → List K → Option K
  find_by compare keys = find (is_at compare) keys

  module _ (cmp : K → K → Ordering) where
    -- the keys, with each of the others inserted in turn: of equal keys the first stays
    abbrev pub insert_keys : List K → List K → List K
    insert_keys keys others = fold (insert_key cmp) keys others

    -- the keys of either list, in order; of two equal keys, the first list's
    abbrev pub union : List K → List K → List K
    union keys others = sorted_merge cmp true keys others

    -- the keys that others have
    abbrev pub intersection : List K → List K → List K
    intersection keys others = filter (λ key. contains_by (cmp key) others) keys

    -- the keys that others lack
    abbrev pub difference : List K → List K → List K
    difference keys others = filter (λ key. not (contains_by (cmp key) others)) keys

    -- the keys that exactly one of two lists has, in order
    abbrev pub symmetric_difference : List K → List K → List K
    symmetric_difference keys others = sorted_merge cmp false keys others

    -- the keys between two bounds
    abbrev pub keys_between : Bound K → Bound K → List K → List K
    keys_between start end keys = filter (range_contains cmp start end) keys

    -- no key that is there is below this one
    abbrev pub IsLowerKeyBound : List K → K → Type 0
    IsLowerKeyBound keys key = (other : K) → IsTrue (contains_by (cmp other) keys) → is_gt (cmp key other) ≡ false

    -- no key that is there is above this one
    abbrev pub IsUpperKeyBound : List K → K → Type 0
    IsUpperKeyBound keys key = (other : K) → IsTrue (contains_by (cmp other) keys) → is_lt (cmp key other) ≡ false

-- the keys within two bounds of queries, of which this says how they compare to keys
abbrev pub keys_within : {Q K : Type 0} → (Q → K → Ordering) → Bound Q → Bound Q → List K → List K
keys_within compare start end keys = filter (λ key. is_from compare start key && not (is_past compare end key)) keys
