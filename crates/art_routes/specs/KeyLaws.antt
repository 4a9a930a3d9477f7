-- Laws of the keys of networks: they sort as networks do, none begins another, and that of a network around another one is the
-- first bytes of the other's and one more. No public clause cites this.
use Rattle.std.proofs.Common.{◌≡◌, ◌∙◌, ◌⊎◌, inl, inr, ℕ, suc, ◌+◌, ◌-◌, ◌*◌, ◌/◌, ◌%◌, ◌^◌, ◌<◌, ◌≤◌, [], ◌∷◌, ◌++◌, length, take, All, refl, sym, ap, subst, arith, append-nil}
use Rattle.std.specs.Cmp.Lexicographic.{nat_list_cmp_total}
use Rattle.std.specs.Ordering.{nat_cmp, ordering_reverse}
use Rattle.std.specs.declared.cmp.Ordering.TheVariants.{Less, Equal, Greater}
use Rattle.std.proofs.lemmas.Cmp.{by_ranked, ranked, tied_itself}
use Rattle.std.proofs.lemmas.List.Elements.{All-cons}
use Rattle.std.proofs.lemmas.Nat.{mod-pow-add, mod_low, pow_pos, shl-shr, shl_below, shr-shr}
use Rattle.art_bytes.specs.Text.{IsPrefixOf, text_order}
use Rattle.art_routes.specs.declared.address.Address.{Address}
use Rattle.art_routes.specs.Keys.{key_text, last_network_byte, left}
use Rattle.art_routes.specs.Networks.{Block, IsNetwork, first_bits, network_order}
use Rattle.art_routes.specs.StrideLaws.{AreAlone, Before, are_alone, equal_is, fewer_strides, head_less, head_same, nat_cmp-less, no_prefix, same_strides, strides_bytes, strides_long, strides_order}
use Rattle.art_routes.specs.Strides.{strides}

pub family_most : (width : ℕ) → (width ≡ 32) ⊎ (width ≡ 128) → width ≤ 128
family_most width (inl four) = omega (arith, four)
family_most width (inr six) = omega (arith, six)

pub width_most : (network : Block) → IsNetwork network → network.address.width ≤ 128
width_most network is = family_most network.address.width is.family

-- clear bits stay clear where more of them are put behind
shift_clear : (x d k : ℕ) → x % 2 ^ k ≡ 0 → x * 2 ^ d % 2 ^ (k + d) ≡ 0
shift_clear x d k none =
    let parts : x * 2 ^ d % 2 ^ (k + d) ≡ x * 2 ^ d / 2 ^ d % 2 ^ k * 2 ^ d + x * 2 ^ d % 2 ^ d = mod-pow-add (x * 2 ^ d) k d in
    let high : x * 2 ^ d / 2 ^ d % 2 ^ k ≡ 0 = ap (λ m. m % 2 ^ k) (shl-shr x d) ∙ none in
    let whole : x * 2 ^ d + 0 ≡ x * 2 ^ d = omega arith in
    let low : x * 2 ^ d % 2 ^ d ≡ 0 = ap (λ m. m % 2 ^ d) (sym whole) ∙ mod_low x d 0 (pow_pos d) in
    let product : x * 2 ^ d / 2 ^ d % 2 ^ k * 2 ^ d ≡ 0 * 2 ^ d = ap (λ m. m * 2 ^ d) high in
    omega (arith, parts, product, low)

module _ (network : Block) (is : IsNetwork network) where
  w : ℕ
  w = network.address.width

  most : network.address.width ≤ 128
  most = width_most network is

  pub left_fits : left network.address < 2 ^ 128
  left_fits =
      let sum : network.address.width + (128 - network.address.width) ≡ 128 = omega (arith, most) in
      subst (λ e. left network.address < 2 ^ e) sum (shl_below network.address.bits network.address.width (128 - network.address.width) is.bits)

  rest_fits : network.length % 7 < 7
  rest_fits = omega arith

  left_alone : AreAlone (network.length / 7) (network.length % 7) (left network.address)
  left_alone =
      let sum : network.address.width - network.length + (128 - network.address.width) ≡ 128 - network.length = omega (arith, most, is.fits) in
      let clear = shift_clear network.address.bits (128 - network.address.width) (network.address.width - network.length) is.none_behind in
      are_alone (network.length / 7) (network.length % 7) (left network.address) (128 - network.length) rest_fits left_fits (omega (arith, most, is.fits))
      (subst (λ e. left network.address % 2 ^ e ≡ 0) sum clear)

pub key_long : (network : Block) → length (key_text network) ≡ suc (suc (network.length / 7))
unfolding key_text
key_long network = ap suc (strides_long (network.length / 7) (network.length % 7) (left network.address))

-- a network comes before another
abbrev Precedes : Block → Block → Type 0
Precedes a b =
    (a.address.width < b.address.width)
    ⊎ ((a.address.width ≡ b.address.width) × ((a.address.bits < b.address.bits) ⊎ ((a.address.bits ≡ b.address.bits) × (a.length < b.length))))

same_left : (w v x y : ℕ) → w ≡ v → x ≡ y → x * 2 ^ (128 - w) ≡ y * 2 ^ (128 - v)
same_left w v x y widths bits = λ i. bits i * 2 ^ (128 - widths i)

less_left : (w v x y : ℕ) → (w ≡ 32) ⊎ (w ≡ 128) → w ≡ v → x < y → x * 2 ^ (128 - w) < y * 2 ^ (128 - v)
less_left w v x y (inl four) widths less =
    let one : x * 2 ^ (128 - w) ≡ x * 2 ^ (128 - 32) = ap (λ u. x * 2 ^ (128 - u)) four in
    let other : y * 2 ^ (128 - v) ≡ y * 2 ^ (128 - 32) = ap (λ u. y * 2 ^ (128 - u)) (sym widths ∙ four) in
    omega (arith, one, other, less)
less_left w v x y (inr six) widths less =
    let one : x * 2 ^ (128 - w) ≡ x * 2 ^ (128 - 128) = ap (λ u. x * 2 ^ (128 - u)) six in
    let other : y * 2 ^ (128 - v) ≡ y * 2 ^ (128 - 128) = ap (λ u. y * 2 ^ (128 - u)) (sym widths ∙ six) in
    omega (arith, one, other, less)

key_less : (a b : Block) → IsNetwork a → IsNetwork b → Precedes a b → text_order (key_text a) (key_text b) ≡ Less
unfolding key_text
key_less a b a_is b_is (inl less) =
    head_less a.address.width b.address.width (strides (a.length / 7) (a.length % 7) (left a.address)) (strides (b.length / 7) (b.length % 7) (left b.address)) less
key_less a b a_is b_is (inr (same, before)) =
    head_same a.address.width b.address.width (strides (a.length / 7) (a.length % 7) (left a.address)) (strides (b.length / 7) (b.length % 7) (left b.address)) same
    (strides_order (a.length / 7) (a.length % 7) (left a.address) (b.length / 7) (b.length % 7) (left b.address) (rest_fits a a_is) (rest_fits b b_is) (left_fits a a_is) (left_fits b b_is) (left_alone a a_is) (left_alone b b_is) (moved before))
  where
    moved : (a.address.bits < b.address.bits) ⊎ ((a.address.bits ≡ b.address.bits) × (a.length < b.length)) → Before (left a.address) (7 * (a.length / 7) + a.length % 7) (left b.address) (7 * (b.length / 7) + b.length % 7)
    moved (inl fewer) = inl (less_left a.address.width b.address.width a.address.bits b.address.bits a_is.family same fewer)
    moved (inr (bits, shorter)) = inr (same_left a.address.width b.address.width a.address.bits b.address.bits same bits, omega (arith, shorter))

order_less : (a b : Block) → Precedes a b → network_order a b ≡ Less
order_less a b (inl less) = rw (nat_cmp-less a.address.width b.address.width less) refl
order_less a b (inr (same, inl less)) = rw (equal_is a.address.width b.address.width same, nat_cmp-less a.address.bits b.address.bits less) refl
order_less a b (inr (same, inr (bits, less))) = rw (equal_is a.address.width b.address.width same, equal_is a.address.bits b.address.bits bits, nat_cmp-less a.length b.length less) refl

more_is : (x y : ℕ) → y < x → nat_cmp x y ≡ Greater
more_is x y more = by_ranked (x < y) (x ≡ y) (y < x) (nat_cmp x y) (ranked x y (nat_cmp x y) refl) (λ is less. absurd (omega (arith, less, more))) (λ is same. absurd (omega (arith, more, same))) (λ is _. is)

order_more : (a b : Block) → Precedes b a → network_order a b ≡ Greater
order_more a b (inl less) = rw (more_is a.address.width b.address.width less) refl
order_more a b (inr (same, inl less)) = rw (equal_is a.address.width b.address.width (sym same), more_is a.address.bits b.address.bits less) refl
order_more a b (inr (same, inr (bits, less))) = rw (equal_is a.address.width b.address.width (sym same), equal_is a.address.bits b.address.bits (sym bits), more_is a.length b.length less) refl

-- which of two comes first, or whether they are one
three_ways : {G : Type 0} (x y : ℕ) → (x < y → G) → (x ≡ y → G) → (y < x → G) → G
three_ways x y less same more = by_ranked (x < y) (x ≡ y) (y < x) (nat_cmp x y) (ranked x y (nat_cmp x y) refl) (λ is. less) (λ is. same) (λ is. more)

-- keys sort as networks do
pub key_order : (a b : Block) → IsNetwork a → IsNetwork b → text_order (key_text a) (key_text b) ≡ network_order a b
key_order a b a_is b_is =
    three_ways a.address.width b.address.width (λ less. up (inl less))
    (λ widths. three_ways a.address.bits b.address.bits (λ less. up (inr (widths, inl less)))
    (λ bits. three_ways a.length b.length (λ less. up (inr (widths, inr (bits, less)))) (λ lengths. level widths bits lengths) (λ more. down (inr (sym widths, inr (sym bits, more)))))
    (λ more. down (inr (sym widths, inl more))))
    (λ more. down (inl more))
  where
    up : Precedes a b → text_order (key_text a) (key_text b) ≡ network_order a b
    up before = key_less a b a_is b_is before ∙ sym (order_less a b before)

    down : Precedes b a → text_order (key_text a) (key_text b) ≡ network_order a b
    down before =
        nat_list_cmp_total.antisymm (key_text a) (key_text b) ∙ ap ordering_reverse (key_less b a b_is a_is before) ∙ sym (order_more a b before)

    level : a.address.width ≡ b.address.width → a.address.bits ≡ b.address.bits → a.length ≡ b.length → text_order (key_text a) (key_text b) ≡ network_order a b
    level widths bits lengths =
        let one : a ≡ b = λ i. record { address = record { width = widths i; bits = bits i }; length = lengths i } in
        let tied : network_order a b ≡ Equal = rw (equal_is a.address.width b.address.width widths, equal_is a.address.bits b.address.bits bits, equal_is a.length b.length lengths) refl in
        ap (λ n. text_order (key_text a) (key_text n)) (sym one) ∙ tied_itself nat_list_cmp_total (key_text a) ∙ sym tied

-- no key is a proper prefix of another
pub no_key_begins_another : (a b : Block) → IsNetwork a → IsNetwork b → IsPrefixOf (key_text a) (key_text b) → key_text a ≡ key_text b
unfolding key_text
no_key_begins_another a b a_is b_is (rest, is) =
    let more : strides (b.length / 7) (b.length % 7) (left b.address) ≡ strides (a.length / 7) (a.length % 7) (left a.address) ++ rest = cc in
    let none = no_prefix (a.length / 7) (a.length % 7) (left a.address) (b.length / 7) (b.length % 7) (left b.address) (rest_fits a a_is) (rest_fits b b_is) (left_fits a a_is) (left_fits b b_is) rest more in
    sym (is ∙ ap (λ xs. (a.address.width ∷ strides (a.length / 7) (a.length % 7) (left a.address)) ++ xs) none ∙ append-nil (a.address.width ∷ strides (a.length / 7) (a.length % 7) (left a.address)))

-- the first bits, moved to the left, are the same
first_left : (w bits l : ℕ) → w ≤ 128 → l ≤ w → bits * 2 ^ (128 - w) / 2 ^ (128 - l) ≡ bits / 2 ^ (w - l)
first_left w bits l most fits =
    let sum : 128 - w + (w - l) ≡ 128 - l = omega (arith, most, fits) in
    ap (λ e. bits * 2 ^ (128 - w) / 2 ^ e) (sym sum) ∙ sym (shr-shr (bits * 2 ^ (128 - w)) (128 - w) (w - l)) ∙ ap (λ n. n / 2 ^ (w - l)) (shl-shr bits (128 - w))

-- the key of a network that begins with the bits of an address is that of the address, cut as it is
pub cut_key : (a : Block) (address : Address) → IsNetwork a → address.width ≡ a.address.width → first_bits address a.length ≡ first_bits a.address a.length
    → key_text a ≡ key_text (record { address = address; length = a.length })
unfolding key_text
cut_key a address a_is widths first =
    let l = a.length in
    let most : address.width ≤ 128 = omega (arith, widths, width_most a a_is) in
    let same : left a.address / 2 ^ (128 - l) ≡ left address / 2 ^ (128 - l) =
    first_left a.address.width a.address.bits l (width_most a a_is) a_is.fits ∙ sym first ∙ sym (first_left address.width address.bits l most (omega (arith, widths, a_is.fits))) in
    let sum : 128 - l + (7 * (l / 7) + l % 7) ≡ 128 = omega (arith, a_is.fits, width_most a a_is) in
    let all = same_strides (l / 7) (l % 7) (left a.address) (left address) (128 - l) (rest_fits a a_is) sum same in
    λ i. sym widths i ∷ all i

-- and that of fewer bits of an address is the first bytes of that of more, and one more byte
pub shorter_key : (address : Address) (n l : ℕ) → n ≤ l
    → key_text (record { address = address; length = n }) ≡ take (suc (n / 7)) (key_text (record { address = address; length = l })) ++ last_network_byte address (n / 7) (n % 7) ∷ []
unfolding key_text last_network_byte
shorter_key address n l shorter =
    let few : n / 7 ≤ l / 7 = omega (arith, shorter) in
    ap (λ xs. address.width ∷ xs) (fewer_strides (n / 7) (l / 7) (n % 7) (l % 7) (left address) few)

-- they are bytes
pub network_key-bytes : (network : Block) → IsNetwork network → All (λ byte. byte < 256) (key_text network)
unfolding key_text
network_key-bytes network is =
    All-cons (λ byte. byte < 256) network.address.width (strides (network.length / 7) (network.length % 7) (left network.address)) (omega (arith, width_most network is))
    (strides_bytes (network.length / 7) (network.length % 7) (left network.address) (rest_fits network is) (left_fits network is))
