-- The halves of a network, and networks that contain one address.
use Rattle.std.proofs.Common.{◌≡◌, ◌∙◌, ◌⊎◌, inl, inr, ℕ, suc, ◌+◌, ◌-◌, ◌*◌, ◌/◌, ◌^◌, ◌<◌, ◌≤◌, true, refl, sym, ap, subst, arith}
use Rattle.std.proofs.lemmas.Bool.{cases_lt}
use Rattle.std.proofs.Math.Nat.{div-mul-le_self, mul-le-mul_right}
use Rattle.std.proofs.lemmas.Nat.{shl-shr}
use Rattle.art_routes.specs.declared.address.Address.{Address}
use Rattle.art_routes.specs.Aggregates.{AreHalves}
use Rattle.art_routes.specs.Networks.{Block, IsNetwork, contains, covers, first_bits, network_around}
use Rattle.art_routes.proofs.BitLemmas.{fewer_first, none_behind}
use Rattle.art_routes.proofs.CoverLemmas.{in-is, is-in, is-over, over-is, starts_in}
use Rattle.art_routes.proofs.FreeLemmas.{part-network}
use Rattle.art_routes.proofs.PartLemmas.{fewer_bits}

-- ---- networks that contain one address
module _ (address : Address) (a b : Block) (a_is : IsNetwork a) (b_is : IsNetwork b) (in_a : contains a address ≡ true) (in_b : contains b address ≡ true) where
  -- the shorter covers the longer
  pub nested : a.length ≤ b.length → covers a b ≡ true
  nested less =
      let p = is-in a address in_a in
      let q = is-in b address in_b in
      let widths : b.address.width ≡ a.address.width = sym q.widths ∙ p.widths in
      let same : first_bits b.address a.length ≡ first_bits a.address a.length =
      fewer_bits b.address a.length b.length less b_is.fits
      ∙ ap (λ n. n / 2 ^ (b.length - a.length)) (sym q.same)
      ∙ sym (fewer_bits address a.length b.length less (omega (arith, b_is.fits, q.widths)))
      ∙ p.same in
      over-is a b.address b.length (record { in_it = record { widths = widths; same = same }; shorter = less })

  -- two of one length are one
  pub one-length : a.length ≡ b.length → a ≡ b
  one-length same =
      let p = is-in a address in_a in
      let q = is-in b address in_b in
      let widths : a.address.width ≡ b.address.width = sym p.widths ∙ q.widths in
      let bits : a.address.bits ≡ b.address.bits =
      starts_in a address a_is p ∙ ap (λ l. first_bits address l * 2 ^ (address.width - l)) same ∙ sym (starts_in b address b_is q) in
      λ i. record { address = record { width = widths i; bits = bits i }; length = same i }

-- an address in a part is in the network
pub contains-up : (address : Address) (a b : Block) → IsNetwork b → covers a b ≡ true → contains b address ≡ true → contains a address ≡ true
contains-up address a b b_is over in_b =
    let p = is-over a b.address b.length over in
    let q = is-in b address in_b in
    in-is a address (record {
      widths = q.widths ∙ p.in_it.widths;
      same =
          fewer_bits address a.length b.length p.shorter (omega (arith, b_is.fits, q.widths))
          ∙ ap (λ n. n / 2 ^ (b.length - a.length)) q.same
          ∙ sym (fewer_bits b.address a.length b.length p.shorter b_is.fits)
          ∙ p.in_it.same;
    })

-- two numbers with one half are all that have it, and the lesser is twice that
one-of-two : (x l r p : ℕ) → x / 2 ≡ p → l / 2 ≡ p → r / 2 ≡ p → l < r → (x ≡ l) ⊎ (x ≡ r)
one-of-two x l r p of_x of_l of_r less = by_side (cases_lt x r)
  where
    by_side : (x < r) ⊎ (r ≤ x) → (x ≡ l) ⊎ (x ≡ r)
    by_side (inl below) = inl (omega (arith, of_x, of_l, of_r, less, below))
    by_side (inr not_less) = inr (omega (arith, of_x, of_l, of_r, less, not_less))

twice : (l r p : ℕ) → l / 2 ≡ p → r / 2 ≡ p → l < r → l ≡ p + p
twice l r p of_l of_r less = omega (arith, of_l, of_r, less)

-- of the halves of a network, by their first bits
module _ (left right whole : Block) (left_is : IsNetwork left) (right_is : IsNetwork right) (are : AreHalves left right whole) where
  abbrev more : ℕ
  more = suc whole.length

  halved : (a : Address) → more ≤ a.width → first_bits a whole.length ≡ first_bits a more / 2
  halved a most =
      let one : more - whole.length ≡ 1 = omega arith in
      let power : 2 ^ (more - whole.length) ≡ 2 = ap (λ e. 2 ^ e) one in
      fewer_bits a whole.length more (omega arith) most ∙ ap (λ d. first_bits a more / d) power

  of-half : (half : Block) → IsNetwork half → covers whole half ≡ true → half.length ≡ more → first_bits half.address more / 2 ≡ first_bits whole.address whole.length
  of-half half half_is inside long =
      let over = is-over whole half.address half.length inside in
      sym (halved half.address (omega (arith, half_is.fits, long))) ∙ over.in_it.same

  begins-at : (half : Block) → IsNetwork half → half.length ≡ more → first_bits half.address more * 2 ^ (half.address.width - more) ≡ half.address.bits
  begins-at half half_is long =
      (λ i. half.address.bits / 2 ^ (half.address.width - sym long i) * 2 ^ (half.address.width - sym long i))
      ∙ none_behind half.address.bits (half.address.width - half.length) half_is.none_behind

  one-width : left.address.width ≡ right.address.width
  one-width = (is-over whole left.address left.length are.left_inside).in_it.widths ∙ sym (is-over whole right.address right.length are.right_inside).in_it.widths

  left-less : first_bits left.address more < first_bits right.address more
  left-less = by_side (cases_lt (first_bits left.address more) (first_bits right.address more))
    where
      by_side : (first_bits left.address more < first_bits right.address more) ⊎ (first_bits right.address more ≤ first_bits left.address more) → first_bits left.address more < first_bits right.address more
      by_side (inl less) = less
      by_side (inr not_less) =
          let up : first_bits right.address more * 2 ^ (right.address.width - more) ≤ first_bits left.address more * 2 ^ (right.address.width - more) = mul-le-mul_right (2 ^ (right.address.width - more)) not_less in
          let of_left : first_bits left.address more * 2 ^ (right.address.width - more) ≡ left.address.bits = ap (λ w. first_bits left.address more * 2 ^ (w - more)) (sym one-width) ∙ begins-at left left_is are.left_length in
          let of_right = begins-at right right_is are.right_length in
          let order = are.before in
          absurd (omega (arith, up, of_left, of_right, order))

  left-bits : first_bits left.address more ≡ first_bits whole.address whole.length + first_bits whole.address whole.length
  left-bits = twice (first_bits left.address more) (first_bits right.address more) (first_bits whole.address whole.length) (of-half left left_is are.left_inside are.left_length) (of-half right right_is are.right_inside are.right_length) left-less

-- an address in a network is in one of its halves
pub in-half : (address : Address) (left right whole : Block) → IsNetwork left → IsNetwork right → AreHalves left right whole → contains whole address ≡ true → (contains left address ≡ true) ⊎ (contains right address ≡ true)
in-half address left right whole left_is right_is are inside =
    let w = is-in whole address inside in
    let l = (is-over whole left.address left.length are.left_inside).in_it.widths in
    let r = (is-over whole right.address right.length are.right_inside).in_it.widths in
    let fits : suc whole.length ≤ address.width = omega (arith, left_is.fits, are.left_length, w.widths, l) in
    by_side (w.widths ∙ sym l) (w.widths ∙ sym r)
    (one-of-two (first_bits address (suc whole.length)) (first_bits left.address (suc whole.length)) (first_bits right.address (suc whole.length)) (first_bits whole.address whole.length)
    (sym (halved left right whole left_is right_is are address fits) ∙ w.same)
    (of-half left right whole left_is right_is are left left_is are.left_inside are.left_length)
    (of-half left right whole left_is right_is are right right_is are.right_inside are.right_length)
    (left-less left right whole left_is right_is are))
  where
    by_side : address.width ≡ left.address.width → address.width ≡ right.address.width
        → (first_bits address (suc whole.length) ≡ first_bits left.address (suc whole.length)) ⊎ (first_bits address (suc whole.length) ≡ first_bits right.address (suc whole.length))
        → (contains left address ≡ true) ⊎ (contains right address ≡ true)
    by_side of_left of_right (inl same) = inl (in-is left address (record {
      widths = of_left;
      same = subst (λ n. first_bits address n ≡ first_bits left.address n) (sym are.left_length) same;
    }))
    by_side of_left of_right (inr same) = inr (in-is right address (record {
      widths = of_right;
      same = subst (λ n. first_bits address n ≡ first_bits right.address n) (sym are.right_length) same;
    }))

-- the half beside a network that does not begin as the whole of both
cut-network : (address : Address) (size : ℕ) → ((address.width ≡ 32) ⊎ (address.width ≡ 128)) → address.bits < 2 ^ address.width → size ≤ address.width → IsNetwork (network_around address size)
cut-network address size family under fits = part-network address.width size address.bits (first_bits address size) family fits (omega arith) under

module _ (network : Block) (is : IsNetwork network) (some : 0 < network.length) where
  abbrev whole_of : Block
  whole_of = network_around network.address (network.length - 1)

  abbrev left_of : Block
  left_of = network_around whole_of.address network.length

  whole-network : IsNetwork whole_of
  whole-network = cut-network network.address (network.length - 1) is.family is.bits (omega (arith, is.fits))

  left-begins : left_of.address.bits ≡ whole_of.address.bits
  left-begins =
      let k = network.address.width - network.length in
      let K = network.address.width - (network.length - 1) in
      let fewer = fewer_first whole_of.address.bits K k (omega (arith, some)) in
      let whole = none_behind whole_of.address.bits K whole-network.none_behind in
      let most = div-mul-le_self whole_of.address.bits (2 ^ k) in
      omega (arith, fewer, whole, most)

  whole-covers : covers whole_of network ≡ true
  whole-covers = over-is whole_of network.address network.length (record {
    in_it = record { widths = refl; same = sym (shl-shr (first_bits network.address (network.length - 1)) (network.address.width - (network.length - 1))) };
    shorter = omega arith;
  })

  whole-covers-left : covers whole_of left_of ≡ true
  whole-covers-left =
      let itself : covers whole_of (record { address = whole_of.address; length = network.length }) ≡ true =
      over-is whole_of whole_of.address network.length (record { in_it = record { widths = refl; same = refl }; shorter = omega arith }) in
      ap (λ n. covers whole_of (record { address = record { width = network.address.width; bits = n }; length = network.length })) left-begins ∙ itself

  pub left-half : (whole_of.address.bits ≡ network.address.bits → ⊥) → IsNetwork left_of × AreHalves left_of network whole_of
  left-half differ =
      let most : whole_of.address.bits ≤ network.address.bits = div-mul-le_self network.address.bits (2 ^ (network.address.width - (network.length - 1))) in (
        cut-network whole_of.address network.length whole-network.family whole-network.bits is.fits,
        record {
          whole_is = whole-network;
          left_inside = whole-covers-left;
          right_inside = whole-covers;
          left_length = omega (arith, some);
          right_length = omega (arith, some);
          before = omega (arith, most, left-begins, differ);
        },
      )

-- a right half has one left half, and is in one whole
pub one-whole : (left other right whole around : Block) → IsNetwork right → AreHalves left right whole → AreHalves other right around → whole ≡ around
one-whole left other right whole around right_is are also =
    let lengths : whole.length ≡ around.length = omega (arith, are.right_length, also.right_length) in
    one-length right.address whole around are.whole_is also.whole_is
    (in-is whole right.address (is-over whole right.address right.length are.right_inside).in_it) (in-is around right.address (is-over around right.address right.length also.right_inside).in_it) lengths

pub one-left : (left other right whole around : Block) → IsNetwork left → IsNetwork other → IsNetwork right → AreHalves left right whole → AreHalves other right around → left ≡ other
one-left left other right whole around left_is other_is right_is are also =
    let wholes = one-whole left other right whole around right_is are also in
    let same_also : AreHalves other right whole = subst (λ n. AreHalves other right n) (sym wholes) also in
    let lengths : left.length ≡ other.length = are.left_length ∙ sym same_also.left_length in
    let widths : left.address.width ≡ other.address.width = one-width left right whole left_is right_is are ∙ sym (one-width other right whole other_is right_is same_also) in
    let bits : left.address.bits ≡ other.address.bits =
    sym (begins-at left right whole left_is right_is are left left_is are.left_length)
    ∙ (λ i. (left-bits left right whole left_is right_is are ∙ sym (left-bits other right whole other_is right_is same_also)) i * 2 ^ (widths i - suc whole.length))
    ∙ begins-at other right whole other_is right_is same_also other other_is same_also.left_length in
    λ i. record { address = record { width = widths i; bits = bits i }; length = lengths i }
