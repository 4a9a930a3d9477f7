-- The hosts of rows one after another.
use Rattle.std.proofs.Common.{◌≡◌, ◌∙◌, ◌⊎◌, inl, inr, ℕ, ◌<◌, Bool, true, false, not, ◌&&◌, ◌||◌, List, [], ◌∷◌, ◌++◌, length, filter, AllPairs, Contains, Option, Some, None, refl, sym, ap, subst, arith, get_or, append_assoc, append-nil}
use Rattle.std.specs.Prelude.{slice_get, ℤ}
use Rattle.std.specs.List.{flat_map}
use Rattle.std.specs.Net.Addr.{ipv6_segments}
use Rattle.std.specs.Option.{option_map}
use Rattle.std.specs.Ordering.{is_eq, is_le, is_lt, nat_cmp, int_cmp, ordering_reverse, ordering_then}
use Rattle.std.specs.Cmp.{IsTotalOrder}
use Rattle.std.specs.declared.cmp.Ordering.{Ordering}
use Rattle.std.specs.declared.cmp.Ordering.TheVariants.{Less, Equal, Greater}
use Rattle.std.specs.declared.net.Ipv6Addr.{Ipv6Addr}
use Rattle.std.proofs.lemmas.Cmp.{nat_list_cmp_total, on_total, tied_itself}
use Rattle.std.proofs.lemmas.List.Concat.{flat_map-cons}
use Rattle.std.proofs.lemmas.List.Elements.{Contains-append_left, Contains-get_or, Contains-push, Contains-push_cases}
use Rattle.std.proofs.lemmas.List.Quantifiers.{all_pairs_push}
use Rattle.std.proofs.lemmas.Grind.{flat_map-append}
use Rattle.std.proofs.lemmas.Map.Lookups.{exact_bytes}
use Rattle.art_bytes.proofs.Members.{image_inside, inside_image, none_inside}
use Rattle.index.specs.Replies.{is_timed, is_within, row_line}
use Rattle.index.specs.Rows.{AreHosts, address_order, addresses_of, row_order}
use Rattle.index.specs.Searches.{IsNextHost, is_after}
use Rattle.index.specs.declared.rows.Row.{Row}
use Rattle.index.proofs.ListLemmas.{fewer_pass, filter_parts, first_passes, no_pass, none_passes, same_filter}

-- the order of addresses
addresses_total : IsTotalOrder address_order
addresses_total = on_total ipv6_segments nat_list_cmp_total

same_address : (a b : Ipv6Addr) → address_order a b ≡ Equal → a ≡ b
same_address a b tied =
    let make : List ℕ → Ipv6Addr = λ segments. record { segments = segments } in
    ap make (exact_bytes (ipv6_segments a) (ipv6_segments b) tied)

less_is : (o : Ordering) → is_lt o ≡ true → o ≡ Less
less_is Less is = refl
less_is Equal is = absurd (cc)
less_is Greater is = absurd (cc)

-- what is after an address that is after the last one is after that too
after_later : (last : Option Ipv6Addr) (next address : Ipv6Addr) → is_after last next ≡ true → is_after (Some next) address ≡ true → is_after last address ≡ true
after_later None next address is later = refl
after_later (Some last) next address is later =
    ap is_lt (addresses_total.trans last next address (less_is (address_order last next) is) (less_is (address_order next address) later))

not_after_itself : (address : Ipv6Addr) → is_after (Some address) address ≡ false
not_after_itself address = ap is_lt (tied_itself addresses_total address)

-- what is not after the last one is below what is
below_after : (last : Option Ipv6Addr) (address next : Ipv6Addr) → is_after last address ≡ false → is_after last next ≡ true → address_order address next ≡ Less
below_after None address next not_after is = absurd (cc)
below_after (Some last) address next not_after is = by_order (address_order last address) refl
  where
    by_order : (o : Ordering) → address_order last address ≡ o → address_order address next ≡ Less
    by_order Less less = let wrong : true ≡ false = ap is_lt (sym less) ∙ not_after in absurd (cc)
    by_order Equal equal = sym (addresses_total.congr last address next equal) ∙ less_is (address_order last next) is
    by_order Greater greater =
        let less : address_order address last ≡ Less = addresses_total.antisymm address last ∙ ap ordering_reverse greater in
        addresses_total.trans address last next less (less_is (address_order last next) is)

-- a test that is true where one of two others is
one_of_two : (t u e test : Bool) → (t ≡ true → (u ≡ true) × (e ≡ false)) → (t ≡ false → (u ≡ false) ⊎ (e ≡ true)) → (not t && test) ≡ ((not u && test) || (e && test))
one_of_two true true true test both one = let wrong : true ≡ false = (both refl).1 in absurd (cc)
one_of_two true true false test both one = refl
one_of_two true false e test both one = let wrong : false ≡ true = (both refl).0 in absurd (cc)
one_of_two false false e true both one = refl
one_of_two false false true false both one = refl
one_of_two false false false false both one = refl
one_of_two false true true test both one = refl
one_of_two false true false test both one = elim (one refl) [ inl wrong ↦ absurd (cc) | inr wrong ↦ absurd (cc) ]

-- of the addresses of rows, those that are not after the next host are not after the last one, or are the next host
module _ (rows : List Row) (last : Option Ipv6Addr) (next : Ipv6Addr) (is_next : IsNextHost rows last (Some next)) where
  passed_or_next : (address : Ipv6Addr) → Contains (addresses_of rows) address → is_after (Some next) address ≡ false → (is_after last address ≡ false) ⊎ (next ≡ address)
  passed_or_next address inside not_after = by_order (address_order next address) refl
    where
      by_test : (t : Bool) → is_after last address ≡ t → address_order next address ≡ Greater → is_after last address ≡ false
      by_test true is greater = let wrong : false ≡ true = ap is_le (sym greater) ∙ is_next.2 address inside is in absurd (cc)
      by_test false is greater = is

      by_order : (o : Ordering) → address_order next address ≡ o → (is_after last address ≡ false) ⊎ (next ≡ address)
      by_order Less less = let wrong : true ≡ false = ap is_lt (sym less) ∙ not_after in absurd (cc)
      by_order Equal equal = inr (same_address next address equal)
      by_order Greater greater = inl (by_test (is_after last address) refl greater)

  not_after_next : (address : Ipv6Addr) → is_after last address ≡ false → is_after (Some next) address ≡ false
  not_after_next address passed = by_test (is_after (Some next) address) refl
    where
      by_test : (t : Bool) → is_after (Some next) address ≡ t → is_after (Some next) address ≡ false
      by_test true is = let wrong : true ≡ false = sym (after_later last next address is_next.1 is) ∙ passed in absurd (cc)
      by_test false is = is

  -- fewer addresses are after the next host
  pub fewer_after : length (filter (is_after (Some next)) (addresses_of rows)) < length (filter (is_after last) (addresses_of rows))
  fewer_after = fewer_pass (is_after (Some next)) (is_after last) (addresses_of rows) next (λ address. after_later last next address is_next.1) is_next.0 (not_after_itself next) is_next.1

-- these are the hosts that are not after the last one, in order
pub record AreHostsSoFar (rows : List Row) (last : Option Ipv6Addr) (hosts : List Ipv6Addr) : Type 0 where
  pub ascending : AllPairs (λ a b. address_order a b ≡ Less) hosts
  pub there : (host : Ipv6Addr) → Contains (addresses_of rows) host → is_after last host ≡ false → Contains hosts host
  pub only : (host : Ipv6Addr) → Contains hosts host → Contains (addresses_of rows) host × (is_after last host ≡ false)

pub no_hosts : (rows : List Row) → AreHostsSoFar rows None []
no_hosts rows = record {
  ascending = λ i j d before within. absurd (omega (arith, within));
  there = λ host inside passed. absurd (cc);
  only = λ host inside. absurd (none_inside host inside);
}

pub one_host_more : (rows : List Row) (last : Option Ipv6Addr) (next : Ipv6Addr) (hosts : List Ipv6Addr) → AreHostsSoFar rows last hosts → IsNextHost rows last (Some next) → AreHostsSoFar rows (Some next) (hosts ++ next ∷ [])
one_host_more rows last next hosts so_far is_next = record {
  ascending = all_pairs_push (λ a b. address_order a b ≡ Less) hosts next so_far.ascending
      (λ k d within. let host = get_or hosts k d in below_after last host next (so_far.only host (Contains-get_or hosts k d within)).1 is_next.1);
  there = λ host inside passed.
      elim (passed_or_next rows last next is_next host inside passed) [ inl before ↦ Contains-append_left hosts (next ∷ []) host (so_far.there host inside before) | inr same ↦ subst (Contains (hosts ++ next ∷ [])) same (Contains-push hosts next) ];
  only = λ host inside.
      elim (Contains-push_cases hosts next host inside) [
        | inl old ↦ (let was = so_far.only host old in (was.0, not_after_next rows last next is_next host was.1))
        | inr same ↦ subst (λ h. Contains (addresses_of rows) h × (is_after (Some next) h ≡ false)) same (is_next.0, not_after_itself next)
      ];
}

pub all_hosts : (rows : List Row) (last : Option Ipv6Addr) (hosts : List Ipv6Addr) → AreHostsSoFar rows last hosts → IsNextHost rows last None → AreHosts rows hosts
all_hosts rows last hosts so_far no_next = record {
  ascending = so_far.ascending;
  same_hosts = λ host. ((λ inside. (so_far.only host inside).0), (λ inside. so_far.there host inside (passed host inside (is_after last host) refl)));
}
  where
    passed : (host : Ipv6Addr) → Contains (addresses_of rows) host → (t : Bool) → is_after last host ≡ t → is_after last host ≡ false
    passed host inside true is = absurd (no_next host inside is)
    passed host inside false is = is

-- an item more of what is printed for each
pub printed_more : {X : Type 0} (print : X → List ℕ) (xs : List X) (x : X) (start output longer : List ℕ) → output ≡ start ++ flat_map print xs → longer ≡ output ++ print x → longer ≡ start ++ flat_map print (xs ++ x ∷ [])
printed_more print xs x start output longer before pushed =
    let one : flat_map print (x ∷ []) ≡ print x = flat_map-cons print x [] ∙ append-nil (print x) in
    pushed ∙ ap (λ o. o ++ print x) before ∙ append_assoc start (flat_map print xs) (print x) ∙ ap (λ more. start ++ (flat_map print xs ++ more)) (sym one) ∙ ap (λ all. start ++ all) (sym (flat_map-append print xs (x ∷ [])))

-- whether a row is within the times, and of a host that is not after the last one
abbrev pub is_passed : ℤ → ℤ → Option Ipv6Addr → Row → Bool
is_passed from to last row = not (is_after last row.reading.address) && is_timed from to row

-- rows in ascending order
module _ (rows : List Row) (ascending : AllPairs (λ a b. row_order a b ≡ Less) rows) where
  abbrev address_of : Row → Ipv6Addr
  address_of row = row.reading.address

  abbrev is_row_after : Option Ipv6Addr → Row → Bool
  is_row_after last row = is_after last row.reading.address

  first_part : (a t p : Ordering) → ordering_then (ordering_then a t) p ≡ Less → is_le a ≡ true
  first_part Less t p less = refl
  first_part Equal t p less = refl
  first_part Greater t p less = absurd (cc)

  not_above : (x y : Row) → row_order x y ≡ Less → is_le (address_order x.reading.address y.reading.address) ≡ true
  not_above x y less =
      first_part (address_order x.reading.address y.reading.address) (int_cmp x.reading.time y.reading.time) (nat_cmp x.place y.place) less

  -- the host of the first row after the last host is the next one
  pub next_is : (last result : Option Ipv6Addr) → result ≡ option_map address_of (slice_get (filter (is_row_after last) rows) 0) → IsNextHost rows last result
  next_is last result is = subst (IsNextHost rows last) (sym is) (by_first (slice_get (filter (is_row_after last) rows) 0) refl)
    where
      by_first : (first : Option Row) → slice_get (filter (is_row_after last) rows) 0 ≡ first → IsNextHost rows last (option_map address_of first)
      by_first None none = λ address inside after.
          let (row, there, same) = inside_image address_of rows address inside in
          none_passes (is_row_after last) rows row none there (ap (is_after last) same ∙ after)
      by_first (Some first) found =
          let passes = first_passes (is_row_after last) (λ x y. row_order x y ≡ Less) rows first ascending found in
          let least : (address : Ipv6Addr) → Contains (addresses_of rows) address → is_after last address ≡ true → is_le (address_order first.reading.address address) ≡ true = λ address inside after.
          let (row, there, same) = inside_image address_of rows address inside in
          let le : is_le (address_order first.reading.address row.reading.address) ≡ true = elim (passes.2 row there (ap (is_after last) same ∙ after)) [
            | inl one ↦ subst (λ r. is_le (address_order first.reading.address r.reading.address) ≡ true) one (ap is_le (tied_itself addresses_total first.reading.address))
            | inr before ↦ not_above first row before
          ] in subst (λ a. is_le (address_order first.reading.address a) ≡ true) same le in
          (image_inside address_of rows first first.reading.address refl passes.0, passes.1, least)

  module _ (from to : ℤ) where
    pub none_passed : filter (is_passed from to None) rows ≡ []
    none_passed = no_pass (is_passed from to None) rows (λ row inside. refl)

    -- the rows of the next host come after those of before
    pub passed_more : (last : Option Ipv6Addr) (next : Ipv6Addr) → IsNextHost rows last (Some next) → filter (is_passed from to (Some next)) rows ≡ filter (is_passed from to last) rows ++ filter (is_within next from to) rows
    passed_more last next is_next = filter_parts (is_passed from to last) (is_within next from to) (is_passed from to (Some next)) rows later apart either
      where
        of_next : (row : Row) → is_within next from to row ≡ true → next ≡ row.reading.address
        of_next row within = sym (by_order (address_order row.reading.address next) refl within)
          where
            by_order : (o : Ordering) → address_order row.reading.address next ≡ o → (is_eq o && is_timed from to row) ≡ true → row.reading.address ≡ next
            by_order Less is within = absurd (cc)
            by_order Equal is within = same_address row.reading.address next is
            by_order Greater is within = absurd (cc)

        not_passed : (row : Row) → is_after last row.reading.address ≡ true → is_passed from to last row ≡ false
        not_passed row after = ap (λ t. not t && is_timed from to row) after

        apart : (row : Row) → Contains rows row → is_within next from to row ≡ true → is_passed from to last row ≡ false
        apart row inside within = not_passed row (subst (λ a. is_after last a ≡ true) (of_next row within) is_next.1)

        above_next : (a : Ipv6Addr) → is_le (address_order next a) ≡ true → is_after last a ≡ true
        above_next a le = by_test (is_after last a) refl
          where
            by_test : (t : Bool) → is_after last a ≡ t → t ≡ true
            by_test true is = refl
            by_test false is =
                let less : address_order a next ≡ Less = below_after last a next is is_next.1 in
                let greater : address_order next a ≡ Greater = addresses_total.antisymm next a ∙ ap ordering_reverse less in
                let wrong : false ≡ true = ap is_le (sym greater) ∙ le in absurd (cc)

        later : AllPairs (λ x y. is_within next from to x ≡ true → is_passed from to last y ≡ false) rows
        later i j d before within is =
            let x = get_or rows i d in
            let y = get_or rows j d in
            not_passed y (above_next y.reading.address (subst (λ a. is_le (address_order a y.reading.address) ≡ true) (sym (of_next x is)) (not_above x y (ascending i j d before within))))

        either : (row : Row) → Contains rows row → is_passed from to (Some next) row ≡ (is_passed from to last row || is_within next from to row)
        either row inside = one_of_two (is_after (Some next) a) (is_after last a) (is_eq (address_order a next)) (is_timed from to row) both one
          where
            a : Ipv6Addr
            a = row.reading.address

            both : is_after (Some next) a ≡ true → (is_after last a ≡ true) × (is_eq (address_order a next) ≡ false)
            both after =
                let greater : address_order a next ≡ Greater = addresses_total.antisymm a next ∙ ap ordering_reverse (less_is (address_order next a) after) in
                (after_later last next a is_next.1 after, ap is_eq greater)

            one : is_after (Some next) a ≡ false → (is_after last a ≡ false) ⊎ (is_eq (address_order a next) ≡ true)
            one passed = elim (passed_or_next rows last next is_next a (image_inside address_of rows row a refl inside) passed) [
              | inl before ↦ inl before
              | inr same ↦ inr (subst (λ b. is_eq (address_order b next) ≡ true) same (ap is_eq (tied_itself addresses_total next)))
            ]

    -- where there is no next host, all are passed
    pub all_passed : (last : Option Ipv6Addr) → IsNextHost rows last None → filter (is_passed from to last) rows ≡ filter (is_timed from to) rows
    all_passed last no_next = same_filter (is_passed from to last) (is_timed from to) rows (λ row inside. by_test row inside (is_after last row.reading.address) refl)
      where
        by_test : (row : Row) → Contains rows row → (t : Bool) → is_after last row.reading.address ≡ t → (not t && is_timed from to row) ≡ is_timed from to row
        by_test row inside true is = absurd (no_next row.reading.address (image_inside address_of rows row row.reading.address refl inside) is)
        by_test row inside false is = refl

    -- what is printed with the next host's rows
    pub timed_more : (last : Option Ipv6Addr) (next : Ipv6Addr) → IsNextHost rows last (Some next) → (shown : List Row) (start output longer : List ℕ) → shown ≡ filter (is_within next from to) rows → output ≡ start ++ flat_map row_line (filter (is_passed from to last) rows) → longer ≡ output ++ flat_map row_line shown
        → longer ≡ start ++ flat_map row_line (filter (is_passed from to (Some next)) rows)
    timed_more last next is_next shown start output longer are before pushed =
        let old = filter (is_passed from to last) rows in
        let more : old ++ shown ≡ filter (is_passed from to (Some next)) rows = ap (λ s. old ++ s) are ∙ sym (passed_more last next is_next) in
        pushed ∙ ap (λ o. o ++ flat_map row_line shown) before ∙ append_assoc start (flat_map row_line old) (flat_map row_line shown) ∙ ap (λ all. start ++ all) (sym (flat_map-append row_line old shown) ∙ ap (flat_map row_line) more)
