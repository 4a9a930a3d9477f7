-- The order of keys is that of rows, and which keys are between two.
use Rattle.std.proofs.Common.{◌≡◌, ◌∙◌, ℕ, ℤ, pos, ◌-◌, ◌^◌, ◌<◌, ◌<ℤ◌, true, false, not, ◌&&◌, FitsSigned, to_z, of_z, w64, refl, ap, arith}
use Rattle.std.proofs.lemmas.Cmp.{by_ranked, int_cmp_total, int_ranked, nat_list_cmp_total, ranked}
use Rattle.std.proofs.lemmas.Int.{ints, to_z-of_z}
use Rattle.std.proofs.lemmas.Map.Lookups.{exact_unsigned}
use Rattle.std.specs.Prelude.{Some}
use Rattle.std.specs.Cmp.Derive.{then_next}
use Rattle.std.specs.Net.Addr.{ipv6_segments}
use Rattle.std.specs.Ordering.{nat_cmp, int_cmp, ordering_reverse, ordering_then, is_eq, is_ge, is_le, is_lt}
use Rattle.std.specs.declared.cmp.Ordering.{Ordering}
use Rattle.std.specs.declared.cmp.Ordering.TheVariants.{Less, Equal, Greater}
use Rattle.std.specs.declared.net.Ipv6Addr.{Ipv6Addr}
use Rattle.index.specs.Keys.{IsKeyed, RowKey, key_of}
use Rattle.index.specs.Replies.{is_within}
use Rattle.index.specs.Rows.{address_order, row_order}
use Rattle.index.specs.Searches.{is_after}
use Rattle.index.specs.declared.rows.Row.{Row}

-- the order of keys, as a map has it
abbrev pub key_order : RowKey → RowKey → Ordering
key_order x y = ordering_then (address_order x.0 y.0) (ordering_then (int_cmp x.1.0 y.1.0) (nat_cmp x.1.1 y.1.1))

pub order_of_rows : (a b : Row) → key_order (key_of a) (key_of b) ≡ row_order a b
order_of_rows a b = then_next (address_order a.reading.address b.reading.address) (int_cmp a.reading.time b.reading.time) (nat_cmp a.place b.place) refl refl

-- keys that tie have one place
pub tied_place : (x y : RowKey) → key_order x y ≡ Equal → x.1.1 ≡ y.1.1
tied_place x y tied = by_orders (address_order x.0 y.0) (int_cmp x.1.0 y.1.0) tied
  where
    by_orders : (a t : Ordering) → ordering_then a (ordering_then t (nat_cmp x.1.1 y.1.1)) ≡ Equal → x.1.1 ≡ y.1.1
    by_orders Less t tied = absurd (cc)
    by_orders Greater t tied = absurd (cc)
    by_orders Equal Less tied = absurd (cc)
    by_orders Equal Greater tied = absurd (cc)
    by_orders Equal Equal tied = exact_unsigned x.1.1 y.1.1 tied

le_then : (o later : Ordering) → is_le later ≡ true → is_le (ordering_then o later) ≡ is_le o
le_then Less later is = refl
le_then Equal later is = is
le_then Greater later is = refl

lt_then : (o later : Ordering) → is_lt later ≡ false → is_lt (ordering_then o later) ≡ is_lt o
lt_then Less later is = refl
lt_then Equal later is = is
lt_then Greater later is = refl

eq_turned : (o : Ordering) → is_eq (ordering_reverse o) ≡ is_eq o
eq_turned Less = refl
eq_turned Equal = refl
eq_turned Greater = refl

ge_turned : (o : Ordering) → is_ge (ordering_reverse o) ≡ is_le o
ge_turned Less = refl
ge_turned Equal = refl
ge_turned Greater = refl

le_turned : (o : Ordering) → is_le (ordering_reverse o) ≡ not (is_lt o)
le_turned Less = refl
le_turned Equal = refl
le_turned Greater = refl

least_place : (n : ℕ) → is_le (nat_cmp 0 n) ≡ true
least_place n = by_ranked (0 < n) (0 ≡ n) (n < 0) (nat_cmp 0 n) (ranked 0 n (nat_cmp 0 n) refl) (λ is less. ap is_le is) (λ is same. ap is_le is) (λ is greater. absurd (omega (arith, greater)))

greatest_place : (n : ℕ) → n < 2 ^ 64 → is_lt (nat_cmp (2 ^ 64 - 1) n) ≡ false
greatest_place n within =
    by_ranked (2 ^ 64 - 1 < n) (2 ^ 64 - 1 ≡ n) (n < 2 ^ 64 - 1) (nat_cmp (2 ^ 64 - 1) n) (ranked (2 ^ 64 - 1) n (nat_cmp (2 ^ 64 - 1) n) refl) (λ is less. absurd (omega (arith, within, less))) (λ is same. ap is_lt is) (λ is greater. ap is_lt is)

greatest_time : (t : ℤ) → FitsSigned w64 t → is_lt (int_cmp (pos (2 ^ 63 - 1)) t) ≡ false
greatest_time t within =
    by_ranked (pos (2 ^ 63 - 1) <ℤ t) (pos (2 ^ 63 - 1) ≡ t) (t <ℤ pos (2 ^ 63 - 1)) (int_cmp (pos (2 ^ 63 - 1)) t) (int_ranked (pos (2 ^ 63 - 1)) t (int_cmp (pos (2 ^ 63 - 1)) t) refl) (λ is less. absurd (omega (arith, ints, within.sfits, less))) (λ is same. ap is_lt is) (λ is greater. ap is_lt is)

-- what is between the first place and the last of an address has the address, and its time between theirs
between : (address from first to last : Ordering) → is_le first ≡ true → is_lt last ≡ false
    → (is_le (ordering_then address (ordering_then from first)) && not (is_lt (ordering_then address (ordering_then to last)))) ≡ (is_eq address && (is_le from && not (is_lt to)))
between Less from first to last least greatest = refl
between Equal from first to last least greatest = rw (le_then from first least, lt_then to last greatest) refl
between Greater from first to last least greatest = refl

-- what is above the last place of an address has an address above it
above_last : (address time last : Ordering) → is_lt time ≡ false → is_lt last ≡ false → is_lt (ordering_then address (ordering_then time last)) ≡ is_lt address
above_last Less time last latest greatest = refl
above_last Equal time last latest greatest = lt_then time last greatest ∙ latest
above_last Greater time last latest greatest = refl

module _ (entry : RowKey × Row) (is : IsKeyed entry) (address : Ipv6Addr) where
  pub within_bounds : (from to : ℤ) → (is_le (key_order (address, (from, 0)) entry.0) && not (is_lt (key_order (address, (to, 2 ^ 64 - 1)) entry.0))) ≡ is_within address from to entry.1
  within_bounds from to =
      let row = entry.1 in
      let a = row.reading.address in
      let t = row.reading.time in
      let at : Ordering = address_order address a in
      let host : is_eq (address_order a address) ≡ is_eq at = ap is_eq (nat_list_cmp_total.antisymm (ipv6_segments a) (ipv6_segments address)) ∙ eq_turned at in
      let start : is_ge (int_cmp t from) ≡ is_le (int_cmp from t) = ap is_ge (int_cmp_total.antisymm t from) ∙ ge_turned (int_cmp from t) in
      let end : is_le (int_cmp t to) ≡ not (is_lt (int_cmp to t)) = ap is_le (int_cmp_total.antisymm t to) ∙ le_turned (int_cmp to t) in
      rw is.key (rw (host, start, end) (between at (int_cmp from t) (nat_cmp 0 row.place) (int_cmp to t) (nat_cmp (2 ^ 64 - 1) row.place) (least_place row.place) (greatest_place row.place is.place_in)))

  pub above_host : is_lt (key_order (address, (pos (2 ^ 63 - 1), 2 ^ 64 - 1)) entry.0) ≡ is_after (Some address) entry.1.reading.address
  above_host =
      let row = entry.1 in
      rw is.key (above_last (address_order address row.reading.address) (int_cmp (pos (2 ^ 63 - 1)) row.reading.time) (nat_cmp (2 ^ 64 - 1) row.place) (greatest_time row.reading.time is.time_in) (greatest_place row.place is.place_in))

-- a time that was read is the time
pub read_key : (address : Ipv6Addr) (time : ℤ) (place : ℕ) → FitsSigned w64 time → ◌≡◌ {A = RowKey} (address, (to_z w64 (of_z w64 time), place)) (address, (time, place))
read_key address time place fits = ap (λ t. (address, (t, place))) (to_z-of_z w64 time fits)

-- and so are both times of a query
pub same_times : {X : Type 0} (f : ℤ → ℤ → X) (from to : ℤ) → FitsSigned w64 from × FitsSigned w64 to → f (to_z w64 (of_z w64 from)) (to_z w64 (of_z w64 to)) ≡ f from to
same_times f from to fits = ap (λ t. f t (to_z w64 (of_z w64 to))) (to_z-of_z w64 from fits.0) ∙ ap (f from) (to_z-of_z w64 to fits.1)
