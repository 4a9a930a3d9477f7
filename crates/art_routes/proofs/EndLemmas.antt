-- The table of the bytes of one bit fewer.
use Rattle.std.proofs.Common.{◌≡◌, ◌∙◌, ◌⊎◌, inl, inr, ℕ, zero, suc, ◌+◌, ◌-◌, ◌/◌, ◌%◌, ◌^◌, ◌<◌, ◌≤◌, Bool, true, false, ◌&&◌, ◌==◌, List, [], ◌∷◌, Option, None, Some, get_or, length, refl, sym, ap, subst, arith}
use Rattle.std.specs.Prelude.{IfNone, IfSome, nat_eq}
use Rattle.std.proofs.lemmas.Bool.Decides.{nat_tests}
use Rattle.std.proofs.Math.Dec.{leb, ltb}
use Rattle.std.proofs.lemmas.Bool.{cases_eq, cases_lt, eqb-true, leb-true, ltb-true}
use Rattle.std.proofs.lemmas.Nat.{shl_below}
use Rattle.art_nodes.specs.ChildMap.{ChildMap, IsAscending, IsAscendingFrom, child_at, key_bytes}
use Rattle.art_routes.specs.declared.address.Address.{Address}
use Rattle.art_routes.specs.declared.ends.TheConstants.{SHORTER}
use Rattle.art_routes.specs.Ends.{HasByte, HasChild, IsKeyOf, IsLongest, IsNextChild, IsNextEnd, NoEndOf, shorter}
use Rattle.art_routes.specs.KeyLaws.{family_most}
use Rattle.art_routes.specs.Keys.{key_text, last_network_byte, left}
use Rattle.art_routes.specs.StrideLaws.{strides_long}
use Rattle.art_routes.specs.Strides.{bits_behind, kept, stride_at, strides, symbol}
use Rattle.art_routes.specs.Ways.{IsEndAt, IsLastEnd, NoEnd}

-- of each number below one
abbrev all-below : (ℕ → Bool) → ℕ → Bool
all-below test zero = true
all-below test (suc n) = test n && all-below test n

and-both : (a b : Bool) → a && b ≡ true → (a ≡ true) × (b ≡ true)
and-both true true both = (refl, refl)
and-both true false both = absurd (cc)
and-both false b both = absurd (cc)

below-at : (test : ℕ → Bool) (n : ℕ) → all-below test n ≡ true → (k : ℕ) → k < n → test k ≡ true
below-at test zero all k less = absurd (omega (arith, less))
below-at test (suc n) all k less = elim (cases_lt k n) [
  | inl under ↦ below-at test n (and-both (test n) (all-below test n) all).1 k under
  | inr not_under ↦ let same : n ≡ k = omega (arith, less, not_under) in ap test (sym same) ∙ (and-both (test n) (all-below test n) all).0
]

-- no byte has one of more bits under it
none-more : (byte : ℕ) → byte < 256 → leb (get_or SHORTER byte 0) byte ≡ true
none-more = below-at (λ byte. leb (get_or SHORTER byte 0) byte) 256 refl

pub shorter-less : (byte : ℕ) → byte < 256 → 0 < byte → get_or SHORTER byte 0 < byte
shorter-less byte fits some =
    let test = below-at (λ byte. ltb (get_or SHORTER (suc byte) 0) (suc byte)) 255 refl (byte - 1) (omega (arith, fits, some)) in
    let is : suc (byte - 1) ≡ byte = omega (arith, some) in
    ltb-true (get_or SHORTER byte 0) byte ((λ i. ltb (get_or SHORTER (sym is i) 0) (sym is i)) ∙ test)

pub shorter-most : (byte : ℕ) → byte < 256 → get_or SHORTER byte 0 ≤ byte
shorter-most byte fits = leb-true (get_or SHORTER byte 0) byte (none-more byte fits)

-- the byte of some bits of a stride, and that of one bit fewer

pub one-fewer : (bits count : ℕ) → bits < 128 → count < 7 → get_or SHORTER (symbol (kept (suc count) bits) (suc count)) 0 ≡ symbol (kept count bits) count
one-fewer bits zero fits few = eqb-true _ _ (below-at (λ b. get_or SHORTER (symbol (kept 1 b) 1) 0 == symbol (kept 0 b) 0) 128 refl bits fits)
one-fewer bits (suc zero) fits few = eqb-true _ _ (below-at (λ b. get_or SHORTER (symbol (kept 2 b) 2) 0 == symbol (kept 1 b) 1) 128 refl bits fits)
one-fewer bits (suc (suc zero)) fits few = eqb-true _ _ (below-at (λ b. get_or SHORTER (symbol (kept 3 b) 3) 0 == symbol (kept 2 b) 2) 128 refl bits fits)
one-fewer bits (suc (suc (suc zero))) fits few = eqb-true _ _ (below-at (λ b. get_or SHORTER (symbol (kept 4 b) 4) 0 == symbol (kept 3 b) 3) 128 refl bits fits)
one-fewer bits (suc (suc (suc (suc zero)))) fits few = eqb-true _ _ (below-at (λ b. get_or SHORTER (symbol (kept 5 b) 5) 0 == symbol (kept 4 b) 4) 128 refl bits fits)
one-fewer bits (suc (suc (suc (suc (suc zero))))) fits few = eqb-true _ _ (below-at (λ b. get_or SHORTER (symbol (kept 6 b) 6) 0 == symbol (kept 5 b) 5) 128 refl bits fits)
one-fewer bits (suc (suc (suc (suc (suc (suc zero)))))) fits few = eqb-true _ _ (below-at (λ b. get_or SHORTER (symbol (kept 7 b) 7) 0 == symbol (kept 6 b) 6) 128 refl bits fits)
one-fewer bits (suc (suc (suc (suc (suc (suc (suc count))))))) fits few = absurd (omega (arith, few))

pub shorter-next : (fewer byte : ℕ) → shorter (suc fewer) byte ≡ get_or SHORTER (shorter fewer byte) 0
unfolding shorter
shorter-next fewer byte = refl

pub shorter-none : (byte : ℕ) → shorter 0 byte ≡ byte
unfolding shorter
shorter-none byte = refl

-- they descend
pub shorter-down : (more fewer byte : ℕ) → shorter fewer byte < 256 → shorter (more + fewer) byte ≤ shorter fewer byte
shorter-down zero fewer byte fits =
    let none : 0 + fewer ≡ fewer = omega arith in
    omega (arith, ap (λ n. shorter n byte) none)
shorter-down (suc more) fewer byte fits =
    let rest = shorter-down more fewer byte fits in
    let less = shorter-most (shorter (more + fewer) byte) (omega (arith, rest, fits)) in
    let sum : suc more + fewer ≡ suc (more + fewer) = omega arith in
    omega (arith, rest, less, shorter-next (more + fewer) byte, ap (λ n. shorter n byte) sum)

-- one step
pub table-step : (end index : ℕ) → index ≡ end → get_or SHORTER index 0 ≡ shorter 1 end
table-step end index is = ap (λ b. get_or SHORTER b 0) (is ∙ sym (shorter-none end)) ∙ sym (shorter-next 0 end)

pub one-less : (end less : ℕ) → less ≡ shorter 1 end → less ≡ get_or SHORTER end 0
one-less end less is = is ∙ shorter-next 0 end ∙ ap (λ b. get_or SHORTER b 0) (shorter-none end)

pub one-further : (longest fewer end less : ℕ) → shorter fewer longest ≡ end → less ≡ shorter 1 end → shorter (suc fewer) longest ≡ less
one-further longest fewer end less is step = shorter-next fewer longest ∙ ap (λ b. get_or SHORTER b 0) is ∙ sym (one-less end less step)

-- none is left behind that of no bits
pub none-further : (Holds : ℕ → Type 0) (longest fewer end : ℕ) → shorter fewer longest ≡ end → end ≡ 0 → (Holds end → ⊥) → ((other : ℕ) → other < fewer → Holds (shorter other longest) → ⊥) → NoEndOf Holds longest
none-further Holds longest fewer end is bottom none first other there = elim (cases_lt other fewer) [
  | inl less ↦ first other less there
  | inr not_less ↦
      let sum : (other - fewer) + fewer ≡ other = omega (arith, not_less) in
      let down = shorter-down (other - fewer) fewer longest (omega (arith, is, bottom)) in
      let same : shorter other longest ≡ end = omega (arith, down, is, bottom, ap (λ n. shorter n longest) sum) in
      none (subst Holds same there)
]

-- nor of those that were passed and the one that is now
pub first-further : (Holds : ℕ → Type 0) (longest fewer end : ℕ) → shorter fewer longest ≡ end → (Holds end → ⊥) → ((other : ℕ) → other < fewer → Holds (shorter other longest) → ⊥)
    → (other : ℕ) → other < suc fewer → Holds (shorter other longest) → ⊥
first-further Holds longest fewer end is none first other few there = elim (cases_lt other fewer) [
  | inl before ↦ first other before there
  | inr not_before ↦
      let last : other ≡ fewer = omega (arith, few, not_before) in
      none (subst Holds (ap (λ n. shorter n longest) last ∙ is) there)
]

-- ---- bytes that ascend
above-low : (low : ℕ) (bytes : List ℕ) → IsAscendingFrom low bytes → (place : ℕ) → place < length bytes → low ≤ get_or bytes place 0
above-low low [] up place within = absurd (omega (arith, within))
above-low low (byte ∷ bytes) up zero within = up.0
above-low low (byte ∷ bytes) up (suc place) within =
    let more = above-low (suc byte) bytes up.2 place (omega (arith, within)) in
    omega (arith, more, up.0)

later-above : (low : ℕ) (bytes : List ℕ) → IsAscendingFrom low bytes → (place later : ℕ) → place < later → later < length bytes → get_or bytes place 0 < get_or bytes later 0
later-above low [] up place later less within = absurd (omega (arith, within))
later-above low (byte ∷ bytes) up zero zero less within = absurd (omega (arith, less))
later-above low (byte ∷ bytes) up zero (suc later) less within = above-low (suc byte) bytes up.2 later (omega (arith, within))
later-above low (byte ∷ bytes) up (suc place) zero less within = absurd (omega (arith, less))
later-above low (byte ∷ bytes) up (suc place) (suc later) less within = later-above (suc byte) bytes up.2 place later (omega (arith, less)) (omega (arith, within))

module _ (bytes : List ℕ) (up : IsAscending bytes) where
  -- one between two neighbours is none of them
  pub passed : (count end : ℕ) → 0 < count → count ≤ length bytes → ((place : ℕ) → count ≤ place → place < length bytes → end < get_or bytes place 0)
      → get_or bytes (count - 1) 0 < end → HasByte bytes end → ⊥
  passed count end some few above below (place, within, at) = elim (cases_lt place (count - 1)) [
    | inl less ↦ let under = later-above 0 bytes up place (count - 1) less (omega (arith, some, few)) in omega (arith, under, below, at)
    | inr not_less ↦ elim (cases_lt place count) [
      | inl last ↦
          let same : count - 1 ≡ place = omega (arith, not_less, last) in
          omega (arith, below, ap (λ k. get_or bytes k 0) same, at)
      | inr beyond ↦ let over = above place beyond within in omega (arith, over, at)
    ]
  ]

  -- none of them is left
  pub none-left : (longest fewer end : ℕ) → shorter fewer longest ≡ end → end < 256 → ((other : ℕ) → other < fewer → HasByte bytes (shorter other longest) → ⊥)
      → ((place : ℕ) → place < length bytes → end < get_or bytes place 0) → NoEndOf (HasByte bytes) longest
  none-left longest fewer end is fits first above other (place, within, at) = elim (cases_lt other fewer) [
    | inl less ↦ first other less (place, within, at)
    | inr not_less ↦
        let sum : (other - fewer) + fewer ≡ other = omega (arith, not_less) in
        let down = shorter-down (other - fewer) fewer longest (omega (arith, is, fits)) in
        let over = above place within in
        omega (arith, down, over, at, is, ap (λ n. shorter n longest) sum)
  ]

-- ---- the children of a node
is-equal : (a b : ℕ) → a ≡ b → nat_eq a b ≡ true
is-equal a b same = grind (arith, nat_tests)

is-other : (a b : ℕ) → (a ≡ b → ⊥) → nat_eq a b ≡ false
is-other a b differs = grind (arith, nat_tests)

module _ {H : Type 0} where
  child_at-same : (first byte : ℕ) (child : H) (others : ChildMap H) → first ≡ byte → child_at ((first, child) ∷ others) byte ≡ Some child
  child_at-same first byte child others same = rw (is-equal first byte same) refl

  child_at-later : (first byte : ℕ) (child : H) (others : ChildMap H) → (first ≡ byte → ⊥) → child_at ((first, child) ∷ others) byte ≡ child_at others byte
  child_at-later first byte child others differs = rw (is-other first byte differs) refl

  -- a byte among those of the children has one, and only such a byte
  pub byte-child : (children : ChildMap H) (byte : ℕ) → HasByte (key_bytes children) byte → HasChild children byte
  byte-child [] byte (place, within, at) = absurd (omega (arith, within))
  byte-child ((first, child) ∷ others) byte (place, within, at) = elim (cases_eq first byte) [
    | inl same ↦ (child, child_at-same first byte child others same)
    | inr differs ↦
        let found = byte-child others byte (in-others place within at differs) in
        (found.0, child_at-later first byte child others differs ∙ found.1)
  ]
    where
      in-others : (place : ℕ) → place < length (key_bytes ((first, child) ∷ others)) → get_or (key_bytes ((first, child) ∷ others)) place 0 ≡ byte → (first ≡ byte → ⊥) → HasByte (key_bytes others) byte
      in-others zero within at differs = absurd (differs at)
      in-others (suc place) within at differs = (place, omega (arith, within), at)

  pub child-byte : (children : ChildMap H) (byte : ℕ) → HasChild children byte → HasByte (key_bytes children) byte
  child-byte [] byte (child, is) = cc
  child-byte ((first, other) ∷ others) byte (child, is) = elim (cases_eq first byte) [
    | inl same ↦ (0, omega arith, same)
    | inr differs ↦
        let found = child-byte others byte (child, sym (child_at-later first byte other others differs) ∙ is) in
        (suc found.0, let within = found.1 in omega (arith, within), found.2)
  ]

  pub no-child-is : (children : ChildMap H) (byte : ℕ) → (HasChild children byte → ⊥) → child_at children byte ≡ None
  no-child-is children byte none = by_value (child_at children byte) refl
    where
      by_value : (value : Option H) → child_at children byte ≡ value → child_at children byte ≡ None
      by_value None is = is
      by_value (Some child) is = absurd (none (child, is))

  pub has-none : (children : ChildMap H) (byte : ℕ) → child_at children byte ≡ None → HasChild children byte → ⊥
  has-none children byte none (child, is) =
      let wrong : None ≡ Some child = sym none ∙ is in
      absurd (cc)

  -- what is found among the bytes of the children is found among the children
  module _ (children : ChildMap H) (bytes : List ℕ) (are : bytes ≡ key_bytes children) (longest : ℕ) where
    as-byte : (byte : ℕ) → HasChild children byte → HasByte bytes byte
    as-byte byte there = subst (λ bs. HasByte bs byte) (sym are) (child-byte children byte there)

    pub none-of-bytes : NoEndOf (HasByte bytes) longest → NoEndOf (HasChild children) longest
    none-of-bytes none fewer there = none fewer (as-byte (shorter fewer longest) there)

    pub next-of-bytes : (end : ℕ) → IsNextEnd (HasByte bytes) longest end → IsNextEnd (HasChild children) longest end
    next-of-bytes end next = record {
      fewer = next.fewer;
      is = next.is;
      holds = byte-child children end (subst (λ bs. HasByte bs end) are next.holds);
      first = λ other less there. next.first other less (as-byte (shorter other longest) there);
    }

-- results
pub none-is : {X : Type 0} {A : Type 0} (result : Option X) → A → IfNone result A
none-is None a = a
none-is (Some x) a = tt

pub if-none : {X : Type 0} {A B : Type 0} (result : Option X) → (A → B) → IfNone result A → IfNone result B
if-none None f is = f is
if-none (Some x) f is = tt

pub if-some : {X : Type 0} {P Q : X → Type 0} (result : Option X) → ((x : X) → P x → Q x) → IfSome result P → IfSome result Q
if-some None f is = tt
if-some (Some x) f is = f x is

-- ---- the ends at a place of a key
stride-fits : (place number : ℕ) → number < 2 ^ 128 → stride_at place number < 128
stride-fits zero number fits = omega arith
stride-fits (suc place) number fits = stride-fits place (bits_behind number) (omega arith)

-- the bytes of a number, one after another
stride-byte : (count rest number place : ℕ) → place < count → get_or (strides count rest number) place 0 ≡ symbol (stride_at place number) 7
stride-byte zero rest number place less = absurd (omega (arith, less))
stride-byte (suc count) rest number zero less = refl
stride-byte (suc count) rest number (suc place) less = stride-byte count rest (bits_behind number) place (omega (arith, less))

last-byte : (count rest number : ℕ) → get_or (strides count rest number) count 0 ≡ symbol (kept rest (stride_at count number)) rest
last-byte zero rest number = refl
last-byte (suc count) rest number = last-byte count rest (bits_behind number)

module _ (address : Address) (family : (address.width ≡ 32) ⊎ (address.width ≡ 128)) (fits : address.bits < 2 ^ address.width) where
  left-fits : left address < 2 ^ 128
  left-fits =
      let sum : address.width + (128 - address.width) ≡ 128 = omega (arith, family_most address.width family) in
      subst (λ e. left address < 2 ^ e) sum (shl_below address.bits address.width (128 - address.width) fits)

  -- the byte of fewer bits
  end-shorter : (place rest : ℕ) → rest < 7 → get_or SHORTER (symbol (kept (suc rest) (stride_at place (left address))) (suc rest)) 0 ≡ last_network_byte address place rest
  unfolding last_network_byte
  end-shorter place rest few = one-fewer (stride_at place (left address)) rest (stride-fits place (left address) left-fits) few

  next-shorter : (place rest : ℕ) → rest < 7 → get_or SHORTER (last_network_byte address place (suc rest)) 0 ≡ last_network_byte address place rest
  unfolding last_network_byte
  next-shorter place rest few = end-shorter place rest few

  shorter-ends : (place rest fewer : ℕ) → rest < 7 → fewer ≤ rest → shorter fewer (last_network_byte address place rest) ≡ last_network_byte address place (rest - fewer)
  shorter-ends place rest zero few less =
      let whole : rest - 0 ≡ rest = omega arith in
      shorter-none (last_network_byte address place rest) ∙ ap (last_network_byte address place) (sym whole)
  shorter-ends place rest (suc fewer) few less =
      let one : suc (rest - suc fewer) ≡ rest - fewer = omega (arith, less) in
      shorter-next fewer (last_network_byte address place rest)
      ∙ ap (λ end. get_or SHORTER end 0) (shorter-ends place rest fewer few (omega (arith, less)) ∙ ap (last_network_byte address place) (sym one))
      ∙ next-shorter place (rest - suc fewer) (omega (arith, few))

  no-bits : (place : ℕ) → last_network_byte address place 0 ≡ 0
  unfolding last_network_byte
  no-bits place = let less = stride-fits place (left address) left-fits in omega (arith, less)

  module _ {H : Type 0} (children : ChildMap H) (most place longest : ℕ) (end : IsLongest address most place longest) where
    few-bits : end.rest < 7
    few-bits = end.at.few

    at-other : (other : ℕ) → other ≤ end.rest → shorter (end.rest - other) longest ≡ last_network_byte address (place - 1) other
    at-other other less =
        let back : end.rest - (end.rest - other) ≡ other = omega (arith, less) in
        ap (shorter (end.rest - other)) end.is ∙ shorter-ends (place - 1) end.rest (end.rest - other) few-bits (omega arith) ∙ ap (last_network_byte address (place - 1)) back

    -- no child of one of them
    pub no-end : NoEndOf (HasChild children) longest → NoEnd address most place children
    no-end none other is =
        no-child-is children (last_network_byte address (place - 1) other)
        (λ there. none (end.rest - other) (subst (HasChild children) (sym (at-other other (end.longest other is))) there))

    -- the first child of one of them is that of the longest
    pub last-end : (child : H) → IsNextChild children longest child → IsLastEnd address most place children child
    last-end child (found, next, is) = record {
      rest = end.rest - next.fewer;
      end = record { some = end.at.some; few = omega (arith, few-bits); fits = let fit = end.at.fits in omega (arith, fit) };
      is = ap (child_at children) (sym here ∙ next.is) ∙ is;
      last = λ other more ends.
          let less = end.longest other ends in
          no-child-is children (last_network_byte address (place - 1) other)
          (λ there. next.first (end.rest - other) (omega (arith, more, less, not-beyond)) (subst (HasChild children) (sym (at-other other less)) there));
    }
      where
        not-beyond : next.fewer ≤ end.rest
        not-beyond = elim (cases_lt end.rest next.fewer) [
          | inl beyond ↦
              let bottom : shorter end.rest longest ≡ 0 =
              ap (λ n. shorter n longest) (let all : end.rest ≡ end.rest - 0 = omega arith in all) ∙ at-other 0 (omega arith) ∙ no-bits (place - 1) in
              let sum : next.fewer - end.rest + end.rest ≡ next.fewer = omega (arith, beyond) in
              let down = shorter-down (next.fewer - end.rest) end.rest longest (omega (arith, bottom)) in
              let same : found ≡ shorter end.rest longest = omega (arith, down, bottom, ap (λ n. shorter n longest) sum, next.is) in
              absurd (next.first end.rest beyond (subst (HasChild children) same next.holds))
          | inr not_beyond ↦ not_beyond
        ]

        here : shorter next.fewer longest ≡ last_network_byte address (place - 1) (end.rest - next.fewer)
        here = ap (shorter next.fewer) end.is ∙ shorter-ends (place - 1) end.rest next.fewer few-bits not-beyond

-- ---- the longest end
module _ (key : List ℕ) (address : Address) (most : ℕ) (of : IsKeyOf key address most) where
  key-long : length key ≡ suc (suc (most / 7))
  unfolding key_text
  key-long = ap length of.key_is ∙ ap suc (strides_long (most / 7) (most % 7) (left address))

  -- behind the key
  pub none-behind : (place rest : ℕ) → length key ≤ place → IsEndAt most place rest → ⊥
  none-behind place rest beyond end = let some = end.some in let fit = end.fits in omega (arith, key-long, beyond, some, fit)

  -- at its last byte
  pub last-longest : (place : ℕ) → 1 ≤ place → length key ≤ place + 1 → place < length key → IsLongest address most place (get_or key place 0)
  unfolding key_text last_network_byte
  last-longest place some last within =
      let same : place ≡ suc (most / 7) = omega (arith, key-long, last, within) in
      let before : place - 1 ≡ most / 7 = omega (arith, same) in
      record {
        rest = most % 7;
        at = record { some = some; few = omega arith; fits = omega (arith, before) };
        is = ap (λ k. get_or k place 0) of.key_is ∙ ap (λ n. get_or (key_text (record { address = address; length = most })) n 0) same
            ∙ last-byte (most / 7) (most % 7) (left address) ∙ ap (λ n. last_network_byte address n (most % 7)) (sym before);
        longest = λ other end. let fit = end.fits in omega (arith, fit, before);
      }

  -- before it
  pub before-longest : (place end : ℕ) → 1 ≤ place → place + 1 < length key → end ≡ get_or SHORTER (get_or key place 0) 0 → IsLongest address most place end
  unfolding key_text
  before-longest place end some within is =
      let sum : suc (place - 1) ≡ place = omega (arith, some) in
      let less : place - 1 < most / 7 = omega (arith, key-long, within, some) in
      let byte : get_or key place 0 ≡ symbol (stride_at (place - 1) (left address)) 7 =
      ap (λ k. get_or k place 0) of.key_is ∙ ap (λ n. get_or (key_text (record { address = address; length = most })) n 0) (sym sum)
      ∙ stride-byte (most / 7) (most % 7) (left address) (place - 1) less in
      let bits = stride_at (place - 1) (left address) in
      let whole : kept 7 bits ≡ bits = omega arith in
      record {
        rest = 6;
        at = record { some = some; few = omega arith; fits = omega (arith, less) };
        is = is ∙ ap (λ b. get_or SHORTER b 0) (byte ∙ ap (λ b. symbol b 7) (sym whole)) ∙ end-shorter address of.family of.fits (place - 1) 6 (omega arith);
        longest = λ other end. let few = end.few in omega (arith, few);
      }
