-- Networks that contain an address, and those that cover its first bits.
use Rattle.std.proofs.Common.{◌≡◌, ◌∙◌, ℕ, ◌-◌, ◌*◌, ◌^◌, ◌≤◌, true, false, ◌==◌, List, All, arith, get_or, sym}
use Rattle.std.specs.Prelude.{nat_le}
use Rattle.std.proofs.lemmas.Bool.{and_from, and_parts, eq-eqb, eqb-true, false_from_ne_true, le-leb, leb-true}
use Rattle.art_routes.specs.declared.address.Address.{Address}
use Rattle.art_routes.specs.Networks.{Block, IsNetwork, contains, covers, first_bits}
use Rattle.art_routes.specs.Tables.{IsLongest, IsLongestOver, NoneContains, NoneCovers}
use Rattle.art_routes.proofs.BitLemmas.{none_behind}

-- the address is in the network
pub record IsIn (network : Block) (address : Address) : Type 0 where
  pub widths : address.width ≡ network.address.width
  pub same : first_bits address network.length ≡ first_bits network.address network.length

pub is-in : (network : Block) (address : Address) → contains network address ≡ true → IsIn network address
is-in network address test =
    let both = and_parts (address.width == network.address.width) (first_bits address network.length == first_bits network.address network.length) test in
    record {
      widths = eqb-true address.width network.address.width both.0;
      same = eqb-true (first_bits address network.length) (first_bits network.address network.length) both.1;
    }

pub in-is : (network : Block) (address : Address) → IsIn network address → contains network address ≡ true
in-is network address is =
    and_from (address.width == network.address.width) (first_bits address network.length == first_bits network.address network.length)
    (eq-eqb address.width network.address.width is.widths) (eq-eqb (first_bits address network.length) (first_bits network.address network.length) is.same)

-- the network covers the first bits of the address, so many of them
pub record IsOver (network : Block) (address : Address) (count : ℕ) : Type 0 where
  pub in_it : IsIn network address
  pub shorter : network.length ≤ count

pub is-over : (network : Block) (address : Address) (count : ℕ) → covers network (record { address = address; length = count }) ≡ true → IsOver network address count
is-over network address count test =
    let both = and_parts (contains network address) (nat_le network.length count) test in
    record { in_it = is-in network address both.0; shorter = leb-true network.length count both.1 }

pub over-is : (network : Block) (address : Address) (count : ℕ) → IsOver network address count → covers network (record { address = address; length = count }) ≡ true
over-is network address count is =
    and_from (contains network address) (nat_le network.length count) (in-is network address is.in_it) (le-leb network.length count is.shorter)

-- a network begins at the first address with its bits
starts : (network : Block) → IsNetwork network → first_bits network.address network.length * 2 ^ (network.address.width - network.length) ≡ network.address.bits
starts network is = none_behind network.address.bits (network.address.width - network.length) is.none_behind

-- and so at the first bits of each address in it
pub starts_in : (network : Block) (address : Address) → IsNetwork network → IsIn network address → network.address.bits ≡ first_bits address network.length * 2 ^ (address.width - network.length)
starts_in network address is in_it = sym (starts network is) ∙ (λ i. sym in_it.same i * 2 ^ (sym in_it.widths i - network.length))

module _ {V : Type 0} (routes : List (Block × V)) (are : All (λ route. IsNetwork route.0) routes) (address : Address) where
  -- of the routes that cover a whole address, the longest is the longest that contains it
  pub longest_in : (route : Block × V) → IsLongestOver routes (record { address = address; length = address.width }) route → IsLongest routes address route
  longest_in route is = record {
    listed = is.listed;
    matches = (and_parts (contains route.0 address) (nat_le route.0.length address.width) is.matches).0;
    longest = λ k d inside test.
        let other = get_or routes k d in
        let in_it = is-in other.0 address test in
        let fits = (are k d inside).fits in
        is.longest k d inside (over-is other.0 address address.width (record { in_it = in_it; shorter = omega (arith, fits, in_it.widths) }));
  }

  pub none_in : NoneCovers routes (record { address = address; length = address.width }) → NoneContains routes address
  none_in none k d inside = false_from_ne_true (contains other.0 address) (λ test.
      let in_it = is-in other.0 address test in
      let fits = (are k d inside).fits in
      let wrong : true ≡ false = sym (over-is other.0 address address.width (record { in_it = in_it; shorter = omega (arith, fits, in_it.widths) })) ∙ none k d inside in
      absurd (cc))
    where
      other : Block × V
      other = get_or routes k d
