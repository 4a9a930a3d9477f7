-- The value that given bytes have: of integers, of `NonZero` integers, of addresses, of arrays and vectors.
use Rattle.std.proofs.Common.{◌≡◌, ℕ, zero, suc, ◌+◌, ◌-◌, ◌*◌, ◌/◌, ◌%◌, ◌^◌, ◌<◌, ◌≤◌, ◌⊎◌, List, [], ◌∷◌, ℤ, pos, length, take, drop, refl, sym, ap, ◌∙◌, inl, inr, arith, pow-suc, length-drop}
use Rattle.std.specs.Prelude.{◌≢◌, ◌↔◌, ◌≤ℤ◌, ◌<ℤ◌, ◌+ℤ◌, neg_ℤ, unsigned_abs, slice_index, Vec}
use Rattle.std.specs.Vec.{vec_items}
use Rattle.std.specs.Net.Addr.{ipv4_octets, ipv6_octets, octets_of, segments_of}
use Rattle.std.specs.declared.cmp.Ordering.{Ordering}
use Rattle.std.specs.declared.net.Ipv4Addr.{Ipv4Addr}
use Rattle.std.specs.declared.net.Ipv6Addr.{Ipv6Addr}
use Rattle.std.proofs.lemmas.Int.{ints}
use Rattle.std.proofs.lemmas.List.{length-take-le}
use Rattle.std.proofs.lemmas.List.Elements.{All-from_get_or}
use Rattle.std.proofs.lemmas.Nat.{mul-le}
use Rattle.std.proofs.Math.Logic.{∥∥₁_elim}
use Rattle.std.proofs.Math.Nat.{mul-div_cancel}
use Rattle.std.proofs.Props.{props}
use Rattle.art_bytes.specs.Text.{IsByte}
use Rattle.art_mapped.specs.Addresses.{AreOctets, IsIpv4, IsIpv6}
use Rattle.art_mapped.specs.DigitLaws.{number_of, number_of_below}
use Rattle.art_mapped.specs.Elements.{KeepsOrder}
use Rattle.art_mapped.specs.Mapping.{StandsForSome, HasTextOf}
use Rattle.art_mapped.specs.NumberLaws.{bits_of_width}
use Rattle.art_mapped.specs.Numbers.{digits, IsUnsigned, IsSigned, signed_text}
use Rattle.art_mapped.specs.SequenceLaws.{same_from_text, length-joined}
use Rattle.art_mapped.specs.Sequences.{joined, part, IsArray, IsVec, vec_text}
use Rattle.art_mapped.specs.ValueBytes.{HasWidth, IsTextOfSome}
use Rattle.art_mapped.proofs.Parts.{are_joined_from_parts, is_part_of_some, no_rest, size_of_parts, size_of_array, joined_from_array, array_from_joined}
use Rattle.art_mapped.proofs.ReadBack.{digits-number_of, octets_of-segments_of}
use Rattle.art_mapped.proofs.Vecs.{vec_from_joined, joined_from_vec}

-- what a list is read as past its end is a byte too
all_bytes : (bytes : List ℕ) → ((k : ℕ) → k < length bytes → slice_index bytes k < 256) → (k : ℕ) → slice_index bytes k < 256
all_bytes [] are k = omega arith
all_bytes (b ∷ bytes) are zero = are 0 (omega arith)
all_bytes (b ∷ bytes) are (suc k) = all_bytes bytes (λ i below. are (suc i) (omega arith)) k

-- any bytes are those of an unsigned number
pub unsigned_value : (width : ℕ) (bytes : List ℕ) → HasWidth width bytes → (n : ℕ) × IsUnsigned width n × (bytes ≡ digits width n)
unsigned_value width bytes is =
    let are = all_bytes bytes is.1 in
    let below : number_of bytes < 256 ^ length bytes = number_of_below bytes are in
    (number_of bytes, rw (bits_of_width width) (rw is.0 at below), sym (digits-number_of width bytes is.0 are))

-- a number below twice a half is a signed number plus the half
lowered : (half n : ℕ) → n < half + half → (z : ℤ) × ((neg_ℤ (pos half) ≤ℤ z) × (z <ℤ pos half)) × (unsigned_abs (z +ℤ pos half) ≡ n)
lowered half n below = (pos n +ℤ neg_ℤ (pos half), (omega (arith, ints), omega (arith, ints)), omega (arith, ints))

-- any bytes are those of a signed number
pub signed_value : (width : ℕ) (bytes : List ℕ) → 0 < width → HasWidth width bytes → (z : ℤ) × IsSigned width z × (bytes ≡ signed_text width z)
signed_value width bytes some is =
    let j = 8 * width - 1 in
    let up : 8 * width ≡ suc j = omega arith in
    let twice : 2 ^ (8 * width) ≡ 2 ^ j + 2 ^ j = ap (λ k. 2 ^ k) up ∙ pow-suc 2 j ∙ omega arith in
    let raised = unsigned_value width bytes is in
    let below : raised.0 < 2 ^ j + 2 ^ j = rw twice at raised.1 in
    let z = lowered (2 ^ j) raised.0 below in
    (z.0, z.1, raised.2 ∙ ap (digits width) (sym z.2))

-- bytes are those of a value that has a number other than zero exactly where they are not those of zero
pub non_zero_value : {X V : Type 0} {is_in_range : V → Type 0} {text : V → List ℕ} {order : V → V → Ordering} {width : ℕ} → KeepsOrder is_in_range text order width
    → (none : V) (IsSome : V → Type 0) (get : X → V) (fact : (x : X) → IsSome (get x)) (make : (v : V) → IsSome v → X) → ((v : V) (f : IsSome v) → get (make v f) ≡ v)
    → ((v : V) → IsSome v ⊎ (v ≡ none)) → (IsSome none → ⊥) → is_in_range none → (zeros : List ℕ) → text none ≡ zeros
    → (bytes : List ℕ) → ((v : V) × is_in_range v × (bytes ≡ text v))
    → IsTextOfSome (λ x. is_in_range (get x)) (λ x. text (get x)) bytes ↔ (bytes ≢ zeros)
non_zero_value {X} {V} {is_in_range = is_in_range} {text = text} laws none IsSome get fact make gets decide apart none_in zeros zeros_are bytes of = (
  λ some are_zeros. ∥∥₁_elim some (hlevel props) (λ x.
      let same : get x.0 ≡ none = same_from_text laws (get x.0) none x.1 none_in x.2 (are_zeros ∙ sym zeros_are) in
      apart (rw same at (fact x.0))),
  λ others. elim (decide of.0) [
    | inl is ↦ let back = gets of.0 is in ∣ (make of.0 is, rw back of.1, rw back of.2) ∣₁
    | inr same ↦ absurd (others (of.2 ∙ ap text same ∙ zeros_are))
  ],
)

-- a number is some or none
pub some_or_zero : (n : ℕ) → (0 < n) ⊎ (n ≡ 0)
some_or_zero zero = inr refl
some_or_zero (suc n) = inl (omega arith)

pub some_or_zero_signed : (z : ℤ) → (0 < unsigned_abs z) ⊎ (z ≡ pos 0)
some_or_zero_signed z = elim (some_or_zero (unsigned_abs z)) [ inl some ↦ inl some | inr none ↦ inr (omega (arith, ints)) ]

-- any bytes are those of an address
pub ipv4_value : (bytes : List ℕ) → HasWidth 4 bytes → (address : Ipv4Addr) × IsIpv4 address × (bytes ≡ ipv4_octets address)
ipv4_value bytes is = (record { octets = bytes }, (is.0, All-from_get_or IsByte bytes 0 is.1), refl)

pub ipv6_value : (bytes : List ℕ) → HasWidth 16 bytes → (address : Ipv6Addr) × IsIpv6 address × (bytes ≡ ipv6_octets address)
ipv6_value bytes is =
    let are : AreOctets 16 bytes = (is.0, All-from_get_or IsByte bytes 0 is.1) in
    let text : bytes ≡ octets_of (segments_of bytes) = sym (octets_of-segments_of 8 bytes are.0 are.1) in
    (record { segments = segments_of bytes }, rw text at are, text)

-- the first of some bytes, and those after them, are bytes
bytes_of_take : (n : ℕ) (bytes : List ℕ) → ((k : ℕ) → slice_index bytes k < 256) → (k : ℕ) → slice_index (take n bytes) k < 256
bytes_of_take zero bytes are k = omega arith
bytes_of_take (suc n) [] are k = omega arith
bytes_of_take (suc n) (b ∷ bytes) are zero = are 0
bytes_of_take (suc n) (b ∷ bytes) are (suc k) = bytes_of_take n bytes (λ i. are (suc i)) k

bytes_of_drop : (n : ℕ) (bytes : List ℕ) → ((k : ℕ) → slice_index bytes k < 256) → (k : ℕ) → slice_index (drop n bytes) k < 256
bytes_of_drop zero bytes are k = are k
bytes_of_drop (suc n) [] are k = omega arith
bytes_of_drop (suc n) (b ∷ bytes) are k = bytes_of_drop n bytes (λ i. are (suc i)) k

-- each side of a cut has its width
pub width_of_first : (first last : ℕ) (bytes : List ℕ) → HasWidth (first + last) bytes → HasWidth first (take first bytes)
width_of_first first last bytes is = let long = is.0 in (length-take-le first bytes (omega arith), λ k _. bytes_of_take first bytes (all_bytes bytes is.1) k)

pub width_of_last : (first last : ℕ) (bytes : List ℕ) → HasWidth (first + last) bytes → HasWidth last (drop first bytes)
width_of_last first last bytes is = let long = is.0 in (omega (arith, length-drop first bytes), λ k _. bytes_of_drop first bytes (all_bytes bytes is.1) k)

-- each part of several of one width has that width
pub width_of_part : (width count k : ℕ) (bytes : List ℕ) → HasWidth (count * width) bytes → k < count → HasWidth width (part width k bytes)
width_of_part width count k bytes is below =
    let rest = drop (k * width) bytes in
    let long = is.0 in
    let within : (k + 1) * width ≤ count * width = mul-le (k + 1) width count width (omega arith) (omega arith) in
    (length-take-le width rest (omega (arith, length-drop (k * width) bytes)), λ i _. bytes_of_take width rest (bytes_of_drop (k * width) bytes (all_bytes bytes is.1)) i)

module _ {E : Type 0} {is_element : E → Type 0} {text : E → List ℕ} {order : E → E → Ordering} {width : ℕ} (laws : KeepsOrder is_element text order width) where
  -- bytes are those of an array by their length and their parts
  pub array_value : (n : ℕ) (bytes : List ℕ)
      → IsTextOfSome (IsArray n is_element) (joined text) bytes ↔ ((length bytes ≡ n * width) × ((k : ℕ) → k < n → IsTextOfSome is_element text (part width k bytes)))
  array_value n bytes = (
    λ are. (
      ∥∥₁_elim are (hlevel props) (λ of. ap length of.2 ∙ length-joined laws of.0 of.1.1 ∙ ap (λ k. k * width) of.1.0),
      λ k below. is_part_of_some laws bytes k (joined_from_array laws n bytes are) (rw (size_of_array laws n bytes are) below),
    ),
    λ parts. array_from_joined laws n bytes (rw parts.0 (mul-div_cancel n laws.some)) (are_joined_from_parts laws n bytes parts.0 parts.1),
  )

  -- the same for a vector
  pub vector_value : {Z : Type 0} (bytes : Vec ℕ Z)
      → StandsForSome (IsVec is_element) (HasTextOf vec_items (vec_text {A = Z} text)) bytes
      ↔ ((length (vec_items bytes) % width ≡ 0) × ((k : ℕ) → k < length (vec_items bytes) / width → IsTextOfSome is_element text (part width k (vec_items bytes))))
  vector_value bytes = (
    λ are. let elements = joined_from_vec laws (vec_items bytes) are in
        (no_rest laws (vec_items bytes) elements, λ k below. is_part_of_some laws (vec_items bytes) k elements below),
    λ parts. let size = size_of_parts laws (vec_items bytes) parts.0 in
        vec_from_joined laws bytes (are_joined_from_parts laws (length (vec_items bytes) / width) (vec_items bytes) size parts.1),
  )
