-- The walk along the networks of a length of which some are free.
use Rattle.std.proofs.Common.{◌≡◌, ◌∙◌, ◌⊎◌, inl, inr, ℕ, zero, suc, ◌+◌, ◌-◌, ◌*◌, ◌/◌, ◌%◌, ◌^◌, ◌<◌, ◌≤◌, Bool, true, false, cond, ◌&&◌, List, [], ◌∷◌, length, All, AllPairs, Contains, Option, None, Some, filter, get_or, refl, sym, ap, subst, arith}
use Rattle.std.specs.Prelude.{nat_le}
use Rattle.std.specs.List.{AllByRecursion, list_any}
use Rattle.std.specs.Ordering.{nat_cmp, ordering_then}
use Rattle.std.specs.declared.cmp.Ordering.TheVariants.{Less}
use Rattle.std.proofs.Math.Nat.{div-mul-le_self, lt-div-mul-add, mul-le-mul_right}
use Rattle.std.proofs.Math.Pow.{shr_mono}
use Rattle.std.proofs.lemmas.Bool.{cases_lt, false_from_ne_true, not_from_false, not_from_true, or_from, or_left, or_right}
use Rattle.std.proofs.lemmas.List.Elements.{All-contains, Contains-get_or, filter_passes}
use Rattle.std.proofs.lemmas.List.Folds.{list_any-from_Any, list_any_none}
use Rattle.std.proofs.lemmas.List.Kept.{AllPairs-cons, AllPairs-filter}
use Rattle.std.proofs.lemmas.Nat.{mod_low, pow_pos, shl-shr}
use Rattle.art_routes.specs.declared.address.Address.{Address}
use Rattle.art_routes.specs.FreeNetworks.{BeginsBehind, IsFree, overlaps}
use Rattle.art_routes.specs.FreeWalks.{IsBefore, IsBehind, IsFirstInside, IsFreeWalk, IsNextInside, Overlapping, free_left, is_free, part_at, parts_from, parts_up_to}
use Rattle.art_routes.specs.KeyLaws.{width_most}
use Rattle.art_routes.specs.Keys.{last_network}
use Rattle.art_routes.specs.Networks.{Block, IsNetwork, covers, contains, first_bits, network_around, network_order}
use Rattle.art_routes.specs.Tables.{IsShortest, NoneContains, covered}
use Rattle.art_routes.specs.StrideLaws.{equal_is, nat_cmp-less}
use Rattle.art_routes.proofs.BitLemmas.{fewer_first, none_behind}
use Rattle.art_routes.proofs.ChangeLemmas.{by-places}
use Rattle.art_routes.proofs.CoverLemmas.{is-in, is-over, over-is}
use Rattle.art_routes.proofs.OrderLemmas.{rank}
use Rattle.art_routes.proofs.PartLemmas.{contains-kept, covers-from, covers-part, covers-to, fewer_bits, head-or-rest, kept-contains, last-is, within-covers}

-- ---- the networks of a length
pub parts-long : (width size bits count : ℕ) → length (parts_from width size bits count) ≡ count
parts-long width size bits zero = refl
parts-long width size bits (suc count) = ap suc (parts-long width size (suc bits) count)

later : (width size low bits : ℕ) → low < bits → network_order (part_at width size low) (part_at width size bits) ≡ Less
later width size low bits less =
    let k = width - size in
    let more : suc low * 2 ^ k ≤ bits * 2 ^ k = mul-le-mul_right (2 ^ k) less in
    let below : low * 2 ^ k < bits * 2 ^ k = omega (arith, more, pow_pos k) in
    ap (λ o. ordering_then o (ordering_then (nat_cmp (low * 2 ^ k) (bits * 2 ^ k)) (nat_cmp size size))) (equal_is width width refl)
    ∙ ap (λ o. ordering_then o (nat_cmp size size)) (nat_cmp-less (low * 2 ^ k) (bits * 2 ^ k) below)

all-later : (width size low bits count : ℕ) → low < bits → AllByRecursion (λ part. network_order (part_at width size low) part ≡ Less) (parts_from width size bits count)
all-later width size low bits zero less = tt
all-later width size low bits (suc count) less = (later width size low bits less, all-later width size low (suc bits) count (omega (arith, less)))

parts-ascend : (width size bits count : ℕ) → AllPairs (λ a b. network_order a b ≡ Less) (parts_from width size bits count)
parts-ascend width size bits zero = λ i j d less inside. absurd (omega (arith, inside))
parts-ascend width size bits (suc count) =
    AllPairs-cons (λ a b. network_order a b ≡ Less) (part_at width size bits) (parts_from width size (suc bits) count)
    (by-places (λ (part : Block). network_order (part_at width size bits) part ≡ Less) (parts_from width size (suc bits) count) (all-later width size bits (suc bits) count (omega arith)))
    (parts-ascend width size (suc bits) count)

-- one of them has first bits of a range
is-part : (width size bits count : ℕ) (part : Block) → Contains (parts_from width size bits count) part → (place : ℕ) × (bits ≤ place) × (place < bits + count) × (part_at width size place ≡ part)
is-part width size bits zero part (k, within, at) = absurd (omega (arith, within))
is-part width size bits (suc count) part there = by_side (head-or-rest (part_at width size bits) (parts_from width size (suc bits) count) part there) (is-part width size (suc bits) count part)
  where
    by_side : (part_at width size bits ≡ part) ⊎ Contains (parts_from width size (suc bits) count) part
        → (Contains (parts_from width size (suc bits) count) part → (place : ℕ) × (suc bits ≤ place) × (place < suc bits + count) × (part_at width size place ≡ part))
        → (place : ℕ) × (bits ≤ place) × (place < bits + suc count) × (part_at width size place ≡ part)
    by_side (inl at) rest = (bits, omega arith, omega arith, at)
    by_side (inr there) rest = let (place, low, high, at) = rest there in (place, omega (arith, low), omega (arith, high), at)

has-part : (width size bits count place : ℕ) → bits ≤ place → place < bits + count → Contains (parts_from width size bits count) (part_at width size place)
has-part width size bits zero place low high = absurd (omega (arith, low, high))
has-part width size bits (suc count) place low high = by_side (cases_lt bits place) (λ less. has-part width size (suc bits) count place (omega (arith, less)) (omega (arith, high)))
  where
    by_side : (bits < place) ⊎ (place ≤ bits) → (bits < place → Contains (parts_from width size (suc bits) count) (part_at width size place))
        → Contains (parts_from width size bits (suc count)) (part_at width size place)
    by_side (inl less) rest = let (k, within, at) = rest less in (suc k, omega (arith, within), at)
    by_side (inr not_less) rest = let same : bits ≡ place = omega (arith, low, not_less) in (0, omega arith, ap (part_at width size) same)

module _ (width size last place : ℕ) (family : (width ≡ 32) ⊎ (width ≡ 128)) (fits : size ≤ width) (most : place ≤ last / 2 ^ (width - size)) where
  -- one that begins no later than the last address
  pub part-begins : place * 2 ^ (width - size) ≤ last
  part-begins =
      let whole = mul-le-mul_right (2 ^ (width - size)) most in
      omega (arith, whole, div-mul-le_self last (2 ^ (width - size)))

  pub part-network : last < 2 ^ width → IsNetwork (part_at width size place)
  part-network under = record {
    family = family;
    bits = omega (arith, part-begins, under);
    fits = fits;
    none_behind =
        let whole : place * 2 ^ (width - size) + 0 ≡ place * 2 ^ (width - size) = omega arith in
        ap (λ m. m % 2 ^ (width - size)) (sym whole) ∙ mod_low place (width - size) 0 (pow_pos (width - size));
  }

-- a network is the one of its first bits
pub part-is : (part : Block) → IsNetwork part → part_at part.address.width part.length (first_bits part.address part.length) ≡ part
part-is part is = λ i. record {
  address = record { width = part.address.width; bits = none_behind part.address.bits (part.address.width - part.length) is.none_behind i };
  length = part.length;
}

-- ---- the walk
module _ (test : Block → Bool) (width size : ℕ) where
  abbrev pub left : ℕ → ℕ → List Block
  left bits end = filter test (parts_from width size bits (suc end - bits))

  skip-parts : (d bits count : ℕ) → ((place : ℕ) → bits ≤ place → place < bits + d → test (part_at width size place) ≡ false)
      → filter test (parts_from width size bits count) ≡ filter test (parts_from width size (bits + d) (count - d))
  skip-parts zero bits count none =
      let sum : bits ≡ bits + 0 = omega arith in
      let less : count ≡ count - 0 = omega arith in
      λ i. filter test (parts_from width size (sum i) (less i))
  skip-parts (suc d) bits zero none =
      let less : 0 ≡ 0 - suc d = omega arith in
      λ i. filter test (parts_from width size (bits + suc d) (less i))
  skip-parts (suc d) bits (suc count) none =
      let sum : suc bits + d ≡ bits + suc d = omega arith in
      let less : count - d ≡ suc count - suc d = omega arith in
      let rest = filter test (parts_from width size (suc bits) count) in
      ap (λ t. cond t (part_at width size bits ∷ rest) rest) (none bits (omega arith) (omega arith))
      ∙ skip-parts d (suc bits) count (λ place low high. none place (omega (arith, low)) (omega (arith, high)))
      ∙ (λ i. filter test (parts_from width size (sum i) (less i)))

  -- none of those up to a place passes
  pub skips : (bits end stop : ℕ) → bits ≤ stop → ((place : ℕ) → bits ≤ place → place ≤ stop → test (part_at width size place) ≡ false) → left bits end ≡ left (suc stop) end
  skips bits end stop up none =
      let sum : bits + (suc stop - bits) ≡ suc stop = omega (arith, up) in
      let less : suc end - bits - (suc stop - bits) ≡ suc end - suc stop = omega (arith, up) in
      skip-parts (suc stop - bits) bits (suc end - bits) (λ place low high. none place low (omega (arith, high, up)))
      ∙ (λ i. filter test (parts_from width size (sum i) (less i)))

  -- the first passes
  pub yields : (bits end : ℕ) → bits ≤ end → test (part_at width size bits) ≡ true → left bits end ≡ part_at width size bits ∷ left (suc bits) end
  yields bits end up passes =
      let count : suc end - bits ≡ suc (end - bits) = omega (arith, up) in
      let less : end - bits ≡ suc end - suc bits = omega arith in
      let rest = filter test (parts_from width size (suc bits) (end - bits)) in
      (λ i. filter test (parts_from width size bits (count i)))
      ∙ ap (λ t. cond t (part_at width size bits ∷ rest) rest) passes
      ∙ (λ i. part_at width size bits ∷ filter test (parts_from width size (suc bits) (less i)))

-- those behind an address
behind-parts : (address : Address) (size last : ℕ) (next : Option Block) → IsBehind address size last next
    → parts_up_to last next ≡ parts_from address.width size (suc (first_bits address size)) (suc (last / 2 ^ (address.width - size)) - suc (first_bits address size))
behind-parts address size last None most =
    let none : 0 ≡ suc (last / 2 ^ (address.width - size)) - suc (first_bits address size) = omega (arith, most) in
    λ i. parts_from address.width size (suc (first_bits address size)) (none i)
behind-parts address size last (Some part) (less, is) =
    let bits : first_bits (part_at address.width size (suc (first_bits address size))).address size ≡ suc (first_bits address size) = shl-shr (suc (first_bits address size)) (address.width - size) in
    ap (λ p. parts_up_to last (Some p)) is
    ∙ (λ i. parts_from address.width size (bits i) (suc (last / 2 ^ (address.width - size)) - bits i))

module _ {V : Type 0} (routes : List (Block × V)) where
  -- what is left behind an address
  behind-left : (address : Address) (size last : ℕ) (next : Option Block) → IsBehind address size last next
      → free_left routes last next ≡ left (is_free routes) address.width size (suc (first_bits address size)) (last / 2 ^ (address.width - size))
  behind-left address size last next behind = ap (filter (is_free routes)) (behind-parts address size last next behind)

  -- a route to a network that overlaps it
  taken : (network part : Block) (value : V) → Contains routes (network, value) → overlaps network part ≡ true → is_free routes part ≡ false
  taken network part value (k, within, at) over =
      not_from_true (list_any (λ route. overlaps route.0 part) routes) (list_any-from_Any (λ route. overlaps route.0 part) routes (k, (network, value), within, at, over))

  pub none-taken : (part : Block) → All (λ route. overlaps route.0 part ≡ false) routes → is_free routes part ≡ true
  none-taken part none = not_from_false (list_any (λ route. overlaps route.0 part) routes) (list_any_none (λ route. overlaps route.0 part) routes none)

  all-apart : (part : Block) → is_free routes part ≡ true → All (λ route. overlaps route.0 part ≡ false) routes
  all-apart part free = λ k d inside. false_from_ne_true (overlaps (get_or routes k d).0 part) (λ over.
      let route = get_or routes k d in
      let wrong : true ≡ false = sym free ∙ taken route.0 part route.1 (Contains-get_or routes k d inside) over in
      absurd (cc))

-- the walk goes on behind an address
behind-walks : (address : Address) (size last : ℕ) (next : Option Block) → ((address.width ≡ 32) ⊎ (address.width ≡ 128)) → size ≤ address.width → last < 2 ^ address.width
    → IsBehind address size last next → IsFreeWalk last next
behind-walks address size last None family fits under most = tt
behind-walks address size last (Some part) family fits under (less, is) =
    let place = suc (first_bits address size) in
    subst (λ p. IsBefore last p) (sym is) (record {
      is_network = part-network address.width size last place family fits less under;
      begins = part-begins address.width size last place family fits less;
      fits = under;
    })

-- ---- networks that overlap
by-overlap : {G : Type 0} (network other : Block) → overlaps network other ≡ true → (covers network other ≡ true → G) → (covers other network ≡ true → G) → G
by-overlap {G} network other over = by_test (covers network other) (covers other network) over refl refl
  where
    by_test : (s t : Bool) → overlaps network other ≡ true → covers network other ≡ s → covers other network ≡ t → (covers network other ≡ true → G) → (covers other network ≡ true → G) → G
    by_test true t over at also one two = one at
    by_test false true over at also one two = two also
    by_test false false over at also one two =
        let wrong : true ≡ false = sym over ∙ or_from (covers network other) (covers other network) at also in
        absurd (cc)

pub rank-last : (network : Block) → IsNetwork network → rank network ≤ rank (last_network network)
rank-last network is = omega (arith, is.fits)

module _ (network part : Block) (is : IsNetwork network) (part_is : IsNetwork part) where
  abbrev pub end_of : ℕ
  end_of = (last_network network).address.bits

  -- the first bits of the last address, so many as the part has
  abbrev pub stop_at : ℕ
  stop_at = end_of / 2 ^ (part.address.width - part.length)

  module _ (test : covers network part ≡ true) where
    widths : part.address.width ≡ network.address.width
    widths = (is-over network part.address part.length test).in_it.widths

    ends : part.address.bits ≤ end_of
    ends = omega (arith, covers-to network part is part_is test, widths, width_most network is)

    up-to : first_bits part.address part.length ≤ stop_at
    up-to = shr_mono (part.address.width - part.length) ends

    covers-all : (place : ℕ) → first_bits part.address part.length ≤ place → place ≤ stop_at → covers network (part_at part.address.width part.length place) ≡ true
    covers-all place low high =
        let k = part.address.width - part.length in
        let one = part_at part.address.width part.length place in
        let under : end_of < 2 ^ part.address.width = subst (λ w. end_of < 2 ^ w) (sym widths) (last-is network is).bits in
        let begins = part-begins part.address.width part.length end_of place part_is.family part_is.fits high in
        let one_is = part-network part.address.width part.length end_of place part_is.family part_is.fits high under in
        let whole : first_bits part.address part.length * 2 ^ k ≡ part.address.bits = none_behind part.address.bits k part_is.none_behind in
        let more : first_bits part.address part.length * 2 ^ k ≤ place * 2 ^ k = mul-le-mul_right (2 ^ k) low in
        let from : rank network ≤ rank one = omega (arith, covers-from network part is part_is test, whole, more) in
        let to : rank one ≤ rank (last_network network) = omega (arith, begins, widths, part_is.fits) in
        within-covers network one is one_is from to

  module _ (test : covers part network ≡ true) where
    -- it ends inside the part
    stays : stop_at ≡ first_bits part.address part.length
    stays =
        let itself = within-covers network (last_network network) is (last-is network is) (rank-last network is) (omega arith) in
        let inner = covers-part part network (last_network network) is (last-is network is) test itself in
        let in_it = (is-over part (last_network network).address (last_network network).length inner).in_it in
        ap (λ w. end_of / 2 ^ (w - part.length)) (sym in_it.widths) ∙ in_it.same

  pub reaches : overlaps network part ≡ true → first_bits part.address part.length ≤ stop_at
  reaches over = by-overlap network part over up-to (λ test. let same = stays test in omega (arith, same))

  pub overlaps-all : overlaps network part ≡ true → (place : ℕ) → first_bits part.address part.length ≤ place → place ≤ stop_at → overlaps network (part_at part.address.width part.length place) ≡ true
  overlaps-all over place low high =
      let one = part_at part.address.width part.length place in
      by-overlap network part over (λ test. or_left (covers network one) (covers one network) (covers-all test place low high))
      (λ test.
      let same : first_bits part.address part.length ≡ place = omega (arith, stays test, low, high) in
      let is_it : part ≡ one = sym (part-is part part_is) ∙ ap (part_at part.address.width part.length) same in
      ap (λ p. overlaps network p) (sym is_it) ∙ over)

  pub same-width : overlaps network part ≡ true → network.address.width ≡ part.address.width
  same-width over = by-overlap network part over (λ test. sym (widths test)) (λ test. (is-over part network.address network.length test).in_it.widths)

-- what is left does not change where the walk goes on behind a route that overlaps the next one
pub goes-behind : {V : Type 0} (routes : List (Block × V)) (last : ℕ) (part network : Block) (part_is : IsNetwork part) (over : Overlapping routes part network)
    → free_left routes last (Some part) ≡ left (is_free routes) part.address.width part.length (suc (stop_at network part over.is_network part_is)) (last / 2 ^ (part.address.width - part.length))
goes-behind routes last part network part_is over =
    skips (is_free routes) part.address.width part.length (first_bits part.address part.length) (last / 2 ^ (part.address.width - part.length)) (stop_at network part over.is_network part_is)
    (reaches network part over.is_network part_is over.overlaps_it)
    (λ place low high. taken routes network (part_at part.address.width part.length place) over.value over.listed (overlaps-all network part over.is_network part_is over.overlaps_it place low high))

-- a step of the walk
module _ {V : Type 0} (routes : List (Block × V)) (last : ℕ) (part : Block) (before : IsBefore last part) (next : Option Block) where
  reached : first_bits part.address part.length ≤ last / 2 ^ (part.address.width - part.length)
  reached = shr_mono (part.address.width - part.length) before.begins

  -- no route overlaps the next one
  pub first-left : All (λ route. overlaps route.0 part ≡ false) routes → IsBehind part.address part.length last next → free_left routes last (Some part) ≡ part ∷ free_left routes last next
  first-left none behind =
      let is_it = part-is part before.is_network in
      yields (is_free routes) part.address.width part.length (first_bits part.address part.length) (last / 2 ^ (part.address.width - part.length)) reached
      (ap (is_free routes) is_it ∙ none-taken routes part none)
      ∙ (λ i. is_it i ∷ sym (behind-left routes part.address part.length last next behind) i)

  pub first-walks : IsBehind part.address part.length last next → IsFreeWalk last next
  first-walks behind = behind-walks part.address part.length last next before.is_network.family before.is_network.fits before.fits behind

  -- a route overlaps it
  module _ (network : Block) (over : Overlapping routes part network) (behind : IsBehind (last_network network).address part.length last next) where
    one-width : network.address.width ≡ part.address.width
    one-width = same-width network part over.is_network before.is_network over.overlaps_it

    pub same-left : free_left routes last next ≡ free_left routes last (Some part)
    same-left =
        behind-left routes (last_network network).address part.length last next behind
        ∙ (λ i. left (is_free routes) (one-width i) part.length (suc ((last_network network).address.bits / 2 ^ (one-width i - part.length))) (last / 2 ^ (one-width i - part.length)))
        ∙ sym (goes-behind routes last part network before.is_network over)

    pub still-walks : IsFreeWalk last next
    still-walks =
        behind-walks (last_network network).address part.length last next over.is_network.family (omega (arith, one-width, before.is_network.fits))
        (subst (λ w. last < 2 ^ w) (sym one-width) before.fits) behind

    pub fewer-parts : length (parts_up_to last next) < length (parts_up_to last (Some part))
    fewer-parts =
        let k = part.address.width - part.length in
        let parts =
        behind-parts (last_network network).address part.length last next behind
        ∙ (λ i. parts_from (one-width i) part.length (suc ((last_network network).address.bits / 2 ^ (one-width i - part.length))) (suc (last / 2 ^ (one-width i - part.length)) - suc ((last_network network).address.bits / 2 ^ (one-width i - part.length)))) in
        let stop = stop_at network part over.is_network before.is_network in
        let long : length (parts_up_to last next) ≡ suc (last / 2 ^ k) - suc stop = ap length parts ∙ parts-long part.address.width part.length (suc stop) (suc (last / 2 ^ k) - suc stop) in
        let all : length (parts_up_to last (Some part)) ≡ suc (last / 2 ^ k) - first_bits part.address part.length =
        parts-long part.address.width part.length (first_bits part.address part.length) (suc (last / 2 ^ k) - first_bits part.address part.length) in
        let up : first_bits part.address part.length ≤ stop = reaches network part over.is_network before.is_network over.overlaps_it in
        omega (arith, long, all, up, reached)

-- which route is found to overlap one
module _ {V : Type 0} (routes : List (Block × V)) (are : All (λ route. IsNetwork route.0) routes) (part : Block) (part_is : IsNetwork part) where
  meets : (network : Block) → IsNetwork network → contains network part.address ≡ true → overlaps network part ≡ true
  meets network is test = by_side (cases_lt part.length network.length)
    where
      by_side : (part.length < network.length) ⊎ (network.length ≤ part.length) → overlaps network part ≡ true
      by_side (inl less) =
          let in_it = is-in network part.address test in
          let same : first_bits network.address part.length ≡ first_bits part.address part.length =
          fewer_bits network.address part.length network.length (omega (arith, less)) is.fits
          ∙ ap (λ n. n / 2 ^ (network.length - part.length)) (sym in_it.same)
          ∙ sym (fewer_bits part.address part.length network.length (omega (arith, less)) (omega (arith, is.fits, in_it.widths))) in
          or_right (covers network part) (covers part network)
          (over-is part network.address network.length (record { in_it = record { widths = sym in_it.widths; same = same }; shorter = omega (arith, less) }))
      by_side (inr no_less) =
          or_left (covers network part) (covers part network)
          (over-is network part.address part.length (record { in_it = is-in network part.address test; shorter = no_less }))

  pub shortest-over : (route : Block × V) → IsShortest routes part.address route → Overlapping routes part route.0
  shortest-over route is =
      let route_is = All-contains (λ r. IsNetwork r.0) routes route are is.listed in
      record { is_network = route_is; value = route.1; listed = is.listed; overlaps_it = meets route.0 route_is is.matches }

  pub covered-over : (route : Block × V) (rest : List (Block × V)) → route ∷ rest ≡ covered part routes → Overlapping routes part route.0
  covered-over route rest is =
      let there : Contains (covered part routes) route = subst (λ rs. Contains rs route) is (0, omega arith, refl) in
      let listed = contains-kept (λ r. covers part r.0) routes route there in
      record {
        is_network = All-contains (λ r. IsNetwork r.0) routes route are listed;
        value = route.1;
        listed = listed;
        overlaps_it = or_right (covers route.0 part) (covers part route.0) (All-contains (λ r. covers part r.0 ≡ true) (covered part routes) route (filter_passes (λ r. covers part r.0) routes) there);
      }

  pub none-over : NoneContains routes part.address → covered part routes ≡ [] → All (λ route. overlaps route.0 part ≡ false) routes
  none-over none no_part = λ k d inside.
      let route = get_or routes k d in
      or_from (covers route.0 part) (covers part route.0) (ap (λ t. t && nat_le route.0.length part.length) (none k d inside))
      (false_from_ne_true (covers part route.0) (λ test.
      let there = kept-contains (λ r. covers part r.0) routes route (Contains-get_or routes k d inside) test in
      let (j, within, at) = subst (λ rs. Contains rs route) no_part there in
      omega (arith, within)))

-- ---- all of the walk
module _ {V : Type 0} (routes : List (Block × V)) (network : Block) (is : IsNetwork network) (size : ℕ) where
  abbrev last_bits : ℕ
  last_bits = (last_network network).address.bits

  none-free : (size < network.length) ⊎ (network.address.width < size) → (part : Block) → IsFree routes network size part → ⊥
  none-free (inl less) part free =
      let over = is-over network part.address part.length free.inside in
      omega (arith, less, over.shorter, free.of_length)
  none-free (inr more) part free =
      let over = is-over network part.address part.length free.inside in
      omega (arith, more, over.in_it.widths, free.of_length, free.is_network.fits)

  module _ (least : network.length ≤ size) (fits : size ≤ network.address.width) where
    abbrev k : ℕ
    k = network.address.width - size

    abbrev first_place : ℕ
    first_place = first_bits network.address size

    abbrev last_place : ℕ
    last_place = last_bits / 2 ^ k

    abbrev all_left : List Block
    all_left = left (is_free routes) network.address.width size first_place last_place

    begins : network.address.bits ≤ first_place * 2 ^ k
    begins =
        let fewer = fewer_first network.address.bits (network.address.width - network.length) k (omega (arith, least)) in
        omega (arith, fewer, none_behind network.address.bits (network.address.width - network.length) is.none_behind)

    -- the walk begins with all of them
    pub starts-left : free_left routes last_bits (Some (network_around network.address size)) ≡ all_left
    starts-left =
        let bits : first_bits (network_around network.address size).address size ≡ first_place = shl-shr first_place k in
        λ i. filter (is_free routes) (parts_from network.address.width size (bits i) (suc last_place - bits i))

    ends-up : network.address.bits ≤ last_bits
    ends-up = omega arith

    up-to-last : first_place ≤ last_place
    up-to-last = shr_mono k ends-up

    pub first-before : IsBefore last_bits (network_around network.address size)
    first-before = record {
      is_network = part-network network.address.width size last_bits first_place is.family fits up-to-last (last-is network is).bits;
      begins = part-begins network.address.width size last_bits first_place is.family fits up-to-last;
      fits = (last-is network is).bits;
    }

    -- those from a place on, which is not before the first one
    abbrev from_place : ℕ → List Block
    from_place start = left (is_free routes) network.address.width size start last_place

    ascend-from : (start : ℕ) → AllPairs (λ a b. network_order a b ≡ Less) (from_place start)
    ascend-from start = AllPairs-filter (λ a b. network_order a b ≡ Less) (is_free routes) (parts_from network.address.width size start (suc last_place - start)) (parts-ascend network.address.width size start (suc last_place - start))

    left-free : (start : ℕ) → first_place ≤ start → (part : Block) → Contains (from_place start) part → IsFree routes network size part × (start * 2 ^ k ≤ part.address.bits)
    left-free start not_before part there =
        let all = parts_from network.address.width size start (suc last_place - start) in
        let (place, low, high, at) = is-part network.address.width size start (suc last_place - start) part (contains-kept (is_free routes) all part there) in
        let most : place ≤ last_place = omega (arith, low, high) in
        let one = part_at network.address.width size place in
        let one_is = part-network network.address.width size last_bits place is.family fits most (last-is network is).bits in
        let up = part-begins network.address.width size last_bits place is.family fits most in
        let more : first_place * 2 ^ k ≤ place * 2 ^ k = mul-le-mul_right (2 ^ k) (omega (arith, not_before, low)) in
        let from : rank network ≤ rank one = omega (arith, begins, more, least) in
        let to : rank one ≤ rank (last_network network) = omega (arith, up, fits) in
        let passes = All-contains (λ p. is_free routes p ≡ true) (from_place start) part (filter_passes (is_free routes) all) there in
        let reaches_it : start * 2 ^ k ≤ place * 2 ^ k = mul-le-mul_right (2 ^ k) low in (
          record {
            is_network = subst IsNetwork at one_is;
            of_length = ap (λ (p : Block). p.length) (sym at);
            inside = ap (λ p. covers network p) (sym at) ∙ within-covers network one is one_is from to;
            free = all-apart routes part passes;
          },
          subst (λ (p : Block). start * 2 ^ k ≤ p.address.bits) at reaches_it,
        )

    free-left : (start : ℕ) (part : Block) → IsFree routes network size part → start * 2 ^ k ≤ part.address.bits → Contains (from_place start) part
    free-left start part free reaches_it =
        let all = parts_from network.address.width size start (suc last_place - start) in
        let over = is-over network part.address part.length free.inside in
        let widths = over.in_it.widths in
        let to = covers-to network part is free.is_network free.inside in
        let none : part.address.bits % 2 ^ k ≡ 0 = (λ i. part.address.bits % 2 ^ (sym widths i - sym free.of_length i)) ∙ free.is_network.none_behind in
        let place = part.address.bits / 2 ^ k in
        let is_it : part_at network.address.width size place ≡ part = λ i. record {
          address = record { width = sym widths i; bits = none_behind part.address.bits k none i };
          length = sym free.of_length i;
        } in
        let most_bits : part.address.bits ≤ last_bits = omega (arith, to, widths, width_most network is) in
        let down = shr_mono k reaches_it in
        let low : start ≤ place = omega (arith, down, shl-shr start k) in
        let high : place ≤ last_place = shr_mono k most_bits in
        kept-contains (is_free routes) all part
        (subst (λ p. Contains all p) is_it (has-part network.address.width size start (suc last_place - start) place low (omega (arith, low, high))))
        (none-taken routes part free.free)

    all-free : (part : Block) → IsFree routes network size part → Contains all_left part
    all-free part free =
        let widths = (is-over network part.address part.length free.inside).in_it.widths in
        let from = covers-from network part is free.is_network free.inside in
        let least_bits : network.address.bits ≤ part.address.bits = omega (arith, from, widths, free.is_network.fits, width_most network is) in
        free-left first_place part free (omega (arith, least_bits, div-mul-le_self network.address.bits (2 ^ k)))

  -- what the walk begins with
  pub walk-starts : (next : Option Block) → IsFirstInside network size next → IsFreeWalk last_bits next
  walk-starts None outside = tt
  walk-starts (Some first) (least, fits, at) = subst (λ p. IsBefore last_bits p) (sym at) (first-before least fits)

  pub walk-ascends : (next : Option Block) → IsFirstInside network size next → AllPairs (λ a b. network_order a b ≡ Less) (free_left routes last_bits next)
  walk-ascends None outside = λ i j d less inside. absurd (omega (arith, inside))
  walk-ascends (Some first) (least, fits, at) =
      subst (λ all. AllPairs (λ a b. network_order a b ≡ Less) all) (sym (ap (λ p. free_left routes last_bits (Some p)) at ∙ starts-left least fits)) (ascend-from least fits (first_place least fits))

  pub walk-is-free : (next : Option Block) → IsFirstInside network size next → (part : Block) → Contains (free_left routes last_bits next) part → IsFree routes network size part
  walk-is-free None outside part (k, within, at) = absurd (omega (arith, within))
  walk-is-free (Some first) (least, fits, at) part there =
      (left-free least fits (first_place least fits) (omega arith) part (subst (λ all. Contains all part) (ap (λ p. free_left routes last_bits (Some p)) at ∙ starts-left least fits) there)).0

  pub free-is-walked : (next : Option Block) → IsFirstInside network size next → (part : Block) → IsFree routes network size part → Contains (free_left routes last_bits next) part
  free-is-walked None outside part free = absurd (none-free outside part free)
  free-is-walked (Some first) (least, fits, at) part free =
      subst (λ all. Contains all part) (sym (ap (λ p. free_left routes last_bits (Some p)) at ∙ starts-left least fits)) (all-free least fits part free)

  -- those that begin behind the last address of a network inside it
  module _ (after : Block) (after_is : IsNetwork after) (inside : covers network after ≡ true) where
    abbrev end : Address
    end = (last_network after).address

    one_width : after.address.width ≡ network.address.width
    one_width = (is-over network after.address after.length inside).in_it.widths

    under : last_bits < 2 ^ after.address.width
    under = subst (λ w. last_bits < 2 ^ w) (sym one_width) (last-is network is).bits

    pub next-walks : (next : Option Block) → IsNextInside network size after next → IsFreeWalk last_bits next
    next-walks next (inl (behind, least, fits)) = behind-walks end size last_bits next after_is.family (omega (arith, fits, one_width)) under behind
    next-walks next (inr (none, outside)) = subst (λ n. IsFreeWalk last_bits n) (sym none) tt

    module _ (least : network.length ≤ size) (fits : size ≤ network.address.width) where
      abbrev start : ℕ
      start = suc (end.bits / 2 ^ k least fits)

      next-left : (next : Option Block) → IsBehind end size last_bits next → free_left routes last_bits next ≡ from_place least fits start
      next-left next behind =
          behind-left routes end size last_bits next behind
          ∙ (λ i. left (is_free routes) (one_width i) size (suc (end.bits / 2 ^ (one_width i - size))) (last_bits / 2 ^ (one_width i - size)))

      not-before : first_place least fits ≤ start
      not-before =
          let from = covers-from network after is after_is inside in
          let begun : network.address.bits ≤ end.bits = omega (arith, from, one_width, after_is.fits, width_most network is) in
          let up = shr_mono (k least fits) begun in
          omega (arith, up)

      behind-it : (part : Block) → start * 2 ^ k least fits ≤ part.address.bits → BeginsBehind after part
      behind-it part reaches_it =
          let high : end.bits < end.bits / 2 ^ k least fits * 2 ^ k least fits + 2 ^ k least fits = lt-div-mul-add (pow_pos (k least fits)) in
          omega (arith, high, reaches_it)

      reaches-it : (part : Block) → IsFree routes network size part → BeginsBehind after part → start * 2 ^ k least fits ≤ part.address.bits
      reaches-it part free behind =
          let widths = (is-over network part.address part.length free.inside).in_it.widths in
          let none : part.address.bits % 2 ^ k least fits ≡ 0 = (λ i. part.address.bits % 2 ^ (sym widths i - sym free.of_length i)) ∙ free.is_network.none_behind in
          let whole : part.address.bits / 2 ^ k least fits * 2 ^ k least fits ≡ part.address.bits = none_behind part.address.bits (k least fits) none in
          by_side whole (cases_lt (end.bits / 2 ^ k least fits) (part.address.bits / 2 ^ k least fits))
        where
          by_side : part.address.bits / 2 ^ k least fits * 2 ^ k least fits ≡ part.address.bits
              → (end.bits / 2 ^ k least fits < part.address.bits / 2 ^ k least fits) ⊎ (part.address.bits / 2 ^ k least fits ≤ end.bits / 2 ^ k least fits)
              → start * 2 ^ k least fits ≤ part.address.bits
          by_side whole (inl less) = subst (λ n. start * 2 ^ k least fits ≤ n) whole (mul-le-mul_right (2 ^ k least fits) less)
          by_side whole (inr no_less) =
              let low = mul-le-mul_right (2 ^ k least fits) no_less in
              absurd (omega (arith, low, whole, behind, div-mul-le_self end.bits (2 ^ k least fits)))

    pub next-ascends : (next : Option Block) → IsNextInside network size after next → AllPairs (λ a b. network_order a b ≡ Less) (free_left routes last_bits next)
    next-ascends next (inl (behind, least, fits)) =
        subst (λ all. AllPairs (λ a b. network_order a b ≡ Less) all) (sym (next-left least fits next behind)) (ascend-from least fits (start least fits))
    next-ascends next (inr (none, outside)) =
        subst (λ n. AllPairs (λ a b. network_order a b ≡ Less) (free_left routes last_bits n)) (sym none) (λ i j d less inside. absurd (omega (arith, inside)))

    pub next-is-free : (next : Option Block) → IsNextInside network size after next → (part : Block) → Contains (free_left routes last_bits next) part → IsFree routes network size part × BeginsBehind after part
    next-is-free next (inl (behind, least, fits)) part there =
        let found = left-free least fits (start least fits) (not-before least fits) part (subst (λ all. Contains all part) (next-left least fits next behind) there) in
        (found.0, behind-it least fits part found.1)
    next-is-free next (inr (none, outside)) part there =
        let (j, within, at) = subst (λ n. Contains (free_left routes last_bits n) part) none there in
        absurd (omega (arith, within))

    pub free-is-next : (next : Option Block) → IsNextInside network size after next → (part : Block) → IsFree routes network size part × BeginsBehind after part → Contains (free_left routes last_bits next) part
    free-is-next next (inl (behind, least, fits)) part (free, begins_behind) =
        subst (λ all. Contains all part) (sym (next-left least fits next behind)) (free-left least fits (start least fits) part free (reaches-it least fits part free begins_behind))
    free-is-next next (inr (none, outside)) part (free, begins_behind) = absurd (none-free outside part free)
