-- The rows of an index.
use Rattle.std.proofs.Common.{◌≡◌, ◌≢◌, ◌∙◌, ◌⊎◌, inl, inr, ℕ, ◌+◌, ◌-◌, ◌^◌, ◌<◌, ◌==◌, ℤ, pos, true, false, ◌&&◌, not, List, [], length, filter, All, AllPairs, Contains, Some, refl, sym, ap, subst, arith, get_or}
use Rattle.std.specs.Prelude.{slice_get}
use Rattle.std.proofs.lemmas.Bool.Decides.{eqb_tells}
use Rattle.std.proofs.lemmas.List.{length-map, get_or-map}
use Rattle.std.proofs.lemmas.Map.Keys.{Less-from_sorted}
use Rattle.std.proofs.lemmas.Option.{slice_get_within, slice_get-get_or}
use Rattle.std.specs.BTreeMap.{insert_entry}
use Rattle.std.specs.BTreeMap.Range.{entries_between}
use Rattle.std.specs.Map.{keys_of}
use Rattle.std.specs.Ordering.{is_le, is_lt}
use Rattle.std.specs.declared.cmp.Ordering.TheVariants.{Less, Equal}
use Rattle.std.specs.declared.net.Ipv6Addr.{Ipv6Addr}
use Rattle.std.specs.declared.ops.Bound.TheVariants.{Included}
use Rattle.art_pages.specs.Entries.{IsOrdered}
use Rattle.index.specs.Keys.{AreKeyed, HasTime, IsKeyed, RowKey, key_of}
use Rattle.index.specs.Replies.{is_within}
use Rattle.index.specs.Rows.{row_order, IsIndex}
use Rattle.index.specs.Searches.{is_after}
use Rattle.index.specs.declared.reading.Reading.{Reading}
use Rattle.index.specs.declared.rows.Row.{Row}
use Rattle.index.proofs.EntryLemmas.{IsPut, filter_values, pairs_of_images, put_all, put_between, put_only, put_there, values_of}
use Rattle.index.proofs.KeyLemmas.{above_host, key_order, order_of_rows, tied_place, within_bounds}

-- the row is one of the first ones
abbrev IsAmong : List Reading → ℕ → Row → Type 0
IsAmong table n row = (row.place < n) × (slice_get table row.place ≡ Some row.reading)

some_is : {A : Type 0} {x y : A} → Some x ≡ Some y → x ≡ y
some_is same = cc

-- rows under their keys ascend as the keys do
pub rows_ascend : (entries : List (RowKey × Row)) → AreKeyed entries → IsOrdered key_order entries → AllPairs (λ a b. row_order a b ≡ Less) (values_of entries)
rows_ascend entries keyed ordered =
    pairs_of_images (λ (entry : RowKey × Row). entry.0) (λ (entry : RowKey × Row). entry.1) IsKeyed (λ a b. key_order a b ≡ Less) (λ a b. row_order a b ≡ Less)
    (λ a b a_is b_is less. sym (order_of_rows a.1 b.1) ∙ ap (λ k. key_order k (key_of b.1)) (sym a_is.key) ∙ ap (key_order a.0) (sym b_is.key) ∙ less) entries keyed (λ i j d before within. Less-from_sorted key_order (keys_of entries) i j d ordered before within)

module _ (table : List Reading) where
  -- the rows of the entries are the first ones of the table
  pub record HasRows (n : ℕ) (entries : List (RowKey × Row)) : Type 0 where
    pub keyed : AreKeyed entries
    pub only : (row : Row) → Contains (values_of entries) row → IsAmong table n row
    pub there : (row : Row) → IsAmong table n row → Contains (values_of entries) row

  pub no_rows : (entries : List (RowKey × Row)) → entries ≡ [] → HasRows 0 entries
  no_rows entries none = rw none record {
    keyed = λ i d within. absurd (omega (arith, within));
    only = λ row inside. absurd (omega (arith, inside.1));
    there = λ row among. absurd (omega (arith, among.0));
  }

  -- one row more
  module _ (n : ℕ) (entries more : List (RowKey × Row)) (key : RowKey) (row : Row) (d : Reading) (has : HasRows n entries) (put : more ≡ insert_entry key_order entries key row) (key_is : key ≡ key_of row)
      (at : row.place ≡ n) (time_in : HasTime row.reading) (fits : n < 2 ^ 64) (within : n < length table) (reading_is : row.reading ≡ get_or table n d) where
    here : slice_get table row.place ≡ Some row.reading
    here = ap (slice_get table) at ∙ slice_get-get_or table n d within ∙ ap Some (sym reading_is)

    new : All (λ other. key_order (key_of row) other.0 ≢ Equal) entries
    new i e below equal =
        let other = get_or entries i e in
        let value : RowKey × Row → Row = λ entry. entry.1 in
        let same : row.place ≡ other.1.place = tied_place (key_of row) other.0 equal ∙ ap (λ (k : RowKey). k.1.1) (has.keyed i e below).key in
        let among = has.only other.1 (i, omega (arith, below, length-map entries value), get_or-map value entries i e other.1 below) in
        omega (arith, same, at, among.0)

    between : IsPut (key_of row, row) entries more
    between = subst (IsPut (key_of row, row) entries) (sym (put ∙ ap (λ k. insert_entry key_order entries k row) key_is)) (put_between (key_of row, row) key_order entries new)

    there_more : (other : Row) → IsAmong table (n + 1) other → Contains (values_of more) other
    there_more other among = put_there (key_of row, row) entries more between other (by_place (eqb_tells other.place n))
      where
        by_place : (((other.place == n) ≡ true) × (other.place ≡ n)) ⊎ (((other.place == n) ≡ false) × (other.place ≢ n)) → Contains (values_of entries) other ⊎ (row ≡ other)
        by_place (inl (is, same)) =
            let place_is : row.place ≡ other.place = at ∙ sym same in
            let reading_same : row.reading ≡ other.reading = some_is (sym here ∙ ap (slice_get table) place_is ∙ among.1) in
            let make : ℕ → Reading → Row = λ place reading. record { place = place; reading = reading } in
            inr (ap (λ place. make place row.reading) place_is ∙ ap (make other.place) reading_same)
        by_place (inr (is, differ)) = inl (has.there other (omega (arith, among.0, differ), among.1))

    only_more : (other : Row) → Contains (values_of more) other → IsAmong table (n + 1) other
    only_more other inside = by_side (put_only (key_of row, row) entries more between other inside)
      where
        by_side : Contains (values_of entries) other ⊎ (row ≡ other) → IsAmong table (n + 1) other
        by_side (inl old) = let among = has.only other old in (omega (arith, among.0), among.1)
        by_side (inr same) = subst (IsAmong table (n + 1)) same (omega (arith, at), here)

    keyed_row : IsKeyed (key_of row, row)
    keyed_row = record { key = refl; time_in = time_in; place_in = omega (arith, at, fits) }

    pub has_one_more : HasRows (n + 1) more
    has_one_more = record { keyed = put_all (key_of row, row) entries more between IsKeyed has.keyed keyed_row; only = only_more; there = there_more }

  -- all rows, in ascending order
  pub is_index : (n : ℕ) (entries : List (RowKey × Row)) → HasRows n entries → n ≡ length table → IsOrdered key_order entries → IsIndex table (values_of entries)
  is_index n entries has all ordered = record {
    ascending = rows_ascend entries has.keyed ordered;
    same_rows = λ row. ((λ inside. (has.only row inside).1), (λ is. has.there row (omega (arith, all, slice_get_within table row.place row.reading is), is)));
  }

-- the rows between the least key of the bounds and the greatest are those within the bounds
pub rows_within : (entries : List (RowKey × Row)) (address : Ipv6Addr) (from to : ℤ) (first last : RowKey) → first ≡ (address, (from, 0)) → last ≡ (address, (to, 2 ^ 64 - 1)) → AreKeyed entries
    → values_of (entries_between key_order (Included first) (Included last) entries) ≡ filter (is_within address from to) (values_of entries)
rows_within entries address from to first last first_is last_is keyed =
    ap (λ k. values_of (entries_between key_order (Included k) (Included last) entries)) first_is ∙ ap (λ k. values_of (entries_between key_order (Included (address, (from, 0))) (Included k) entries)) last_is
    ∙ filter_values IsKeyed (λ entry. is_le (key_order (address, (from, 0)) entry.0) && not (is_lt (key_order (address, (to, 2 ^ 64 - 1)) entry.0))) (is_within address from to) (λ entry is. within_bounds entry is address from to) entries keyed

-- the rows above the greatest key of an address are those of the addresses after it
pub rows_above : (entries : List (RowKey × Row)) (address : Ipv6Addr) → AreKeyed entries
    → values_of (filter (λ entry. is_lt (key_order (address, (pos (2 ^ 63 - 1), 2 ^ 64 - 1)) entry.0)) entries) ≡ filter (λ row. is_after (Some address) row.reading.address) (values_of entries)
rows_above entries address keyed =
    filter_values IsKeyed (λ entry. is_lt (key_order (address, (pos (2 ^ 63 - 1), 2 ^ 64 - 1)) entry.0)) (λ row. is_after (Some address) row.reading.address) (λ entry is. above_host entry is address) entries keyed
