-- Heads have the order of the texts. No public clause cites this.
use Rattle.std.specs.Prelude.{◌≡◌, ℕ, zero, suc, ◌+◌, ◌-◌, ◌*◌, ◌/◌, ◌^◌, ◌<◌, ◌≤◌, List, [], ◌∷◌, ◌++◌, length, take, drop, get_or, refl}
use Rattle.std.specs.Ordering.{nat_cmp, ordering_then}
use Rattle.std.specs.declared.cmp.Ordering.{Ordering}
use Rattle.std.specs.declared.cmp.Ordering.TheVariants.{Less, Equal, Greater}
use Rattle.std.specs.Cmp.{nat_cmp_is}
use Rattle.std.proofs.Common.{sym, ap, ◌∙◌, arith, pow-suc, length-drop}
use Rattle.std.proofs.Math.Nat.{pow-le-pow_right}
use Rattle.std.proofs.lemmas.Nat.{mul-add-lt, pow-add, div-mul-add}
use Rattle.std.proofs.Math.Seq.{drop-append-add}
use Rattle.std.proofs.lemmas.List.{drop-append-le}
use Rattle.art_mapped.specs.NumberLaws.{bits_of_width}
use Rattle.std.proofs.lemmas.Cmp.{ranked}
use Rattle.std.proofs.lemmas.List.Elements.{All-head, All-tail, All-drop}
use Rattle.art_bytes.specs.Text.{IsByte, IsText, text_order}
use Rattle.art_mapped.specs.DigitLaws.{order_of_two}
use Rattle.art_keys.specs.Heads.{head_of, head_at}

pub head_below : (count : ℕ) (text : List ℕ) → IsText text → head_of count text < 256 ^ count
head_below zero text are = omega arith
head_below (suc more) [] are = pow-le-pow_right {n = 256} (omega arith) {i = 0} {j = suc more} (omega arith)
head_below (suc more) (byte ∷ text) are =
    let rest = head_below more text (All-tail IsByte byte text are) in
    let first : byte < 256 = All-head IsByte byte text are in
    rw pow-suc (mul-add-lt byte (256 ^ more) (head_of more text) 256 first rest)

-- one byte more
pub head_of-more : (count : ℕ) (text : List ℕ) → head_of (suc count) text ≡ head_of count text * 256 + get_or text count 0
head_of-more zero [] = refl
head_of-more zero (byte ∷ text) = omega arith
head_of-more (suc more) [] = refl
head_of-more (suc more) (byte ∷ text) = rw (head_of-more more text, pow-suc) (omega arith)

-- a byte more still fits
pub one_more : (count head byte : ℕ) → head < 256 ^ count → byte < 256 → head * 256 + byte < 256 ^ suc count
one_more count head byte small is_byte = omega (arith, pow-suc 256 count)

-- eight bytes fit
pub fits : (count head byte : ℕ) → count < 8 → head < 256 ^ count → byte < 256 → head * 256 + byte < 2 ^ 64
fits count head byte few small is_byte =
    let most : 256 ^ count ≤ 256 ^ 7 = pow-le-pow_right {n = 256} (omega arith) {i = count} {j = 7} (omega arith) in
    omega arith

then_less : (first o p : Ordering) → ordering_then first o ≡ Less → (o ≡ Less → p ≡ Less) → ordering_then first p ≡ Less
then_less Less o p less later = refl
then_less Equal o p less later = later less
then_less Greater o p less later = less

-- the lesser head is that of the lesser text
heads_less : (count : ℕ) (a b : List ℕ) → IsText a → IsText b → nat_cmp (head_of count a) (head_of count b) ≡ Less → text_order a b ≡ Less
heads_less zero a b a_text b_text less = cc
heads_less (suc more) [] [] a_text b_text less = cc
heads_less (suc more) [] (y ∷ b) a_text b_text less = refl
heads_less (suc more) (x ∷ a) [] a_text b_text less =
    let none : head_of (suc more) (x ∷ a) < 0 = ranked (head_of (suc more) (x ∷ a)) 0 Less (sym less) in
    absurd (omega arith)
heads_less (suc more) (x ∷ a) (y ∷ b) a_text b_text less =
    let a_rest = All-tail IsByte x a a_text in
    let b_rest = All-tail IsByte y b b_text in
    let two = order_of_two (256 ^ more) x y (head_of more a) (head_of more b) (head_below more a a_rest) (head_below more b b_rest) in
    then_less (nat_cmp x y) (nat_cmp (head_of more a) (head_of more b)) (text_order a b) (sym two ∙ less) (heads_less more a b a_rest b_rest)

tied : (x : ℕ) → nat_cmp x x ≡ Equal
tied x = sym (nat_cmp_is x x Equal refl)

-- where two texts agree up to there, the lesser head is that of the lesser text
text_order-drop : (skip : ℕ) (a b : List ℕ) → take skip a ≡ take skip b → text_order a b ≡ text_order (drop skip a) (drop skip b)
text_order-drop zero a b same = refl
text_order-drop (suc skip) [] [] same = refl
text_order-drop (suc skip) [] (y ∷ b) same = cc
text_order-drop (suc skip) (x ∷ a) [] same = cc
text_order-drop (suc skip) (x ∷ a) (y ∷ b) same =
    let first : x ≡ y = cc in
    let later : take skip a ≡ take skip b = cc in
    rw (first, tied y) (text_order-drop skip a b later)

pub text_by_head : (skip : ℕ) (a b : List ℕ) → IsText a → IsText b → take skip a ≡ take skip b → head_at skip a < head_at skip b → text_order a b ≡ Less
text_by_head skip a b a_text b_text same less =
    let heads = sym (nat_cmp_is (head_at skip a) (head_at skip b) Less less) in
    text_order-drop skip a b same ∙ heads_less 8 (drop skip a) (drop skip b) (All-drop IsByte skip a a_text) (All-drop IsByte skip b b_text) heads

head_of-nil : (count : ℕ) → head_of count [] ≡ 0
head_of-nil zero = refl
head_of-nil (suc more) = refl

-- two texts, one after the other
head_of-append : (count : ℕ) (a b : List ℕ) → head_of count (a ++ b) ≡ head_of count a + head_of (count - length a) b
head_of-append count [] b = rw (head_of-nil count) (let whole : count - 0 ≡ count = omega arith in rw whole (omega arith))
head_of-append zero (x ∷ a) b = let none : 0 - suc (length a) ≡ 0 = omega arith in rw none refl
head_of-append (suc more) (x ∷ a) b =
    let left : suc more - suc (length a) ≡ more - length a = omega arith in
    rw (left, head_of-append more a b) (omega arith)

-- the first bytes, and those behind them
head_of-split : (k m : ℕ) (text : List ℕ) → head_of (k + m) text ≡ head_of k text * 256 ^ m + head_of m (drop k text)
head_of-split zero m text = let all : 0 + m ≡ m = omega arith in rw all (omega arith)
head_of-split (suc k) m [] = rw (head_of-nil (suc k + m), head_of-nil m) (omega arith)
head_of-split (suc k) m (byte ∷ text) =
    let up : suc k + m ≡ suc (k + m) = omega arith in
    rw (up, head_of-split k m text, pow-add 256 k m) (omega arith)

-- fewer bytes of the same text
head_of-fewer : (k m : ℕ) (text : List ℕ) → IsText text → head_of (k + m) text / 256 ^ m ≡ head_of k text
head_of-fewer k m text are =
    rw (head_of-split k m text) (div-mul-add (head_of k text) (256 ^ m) (head_of m (drop k text)) (head_below m (drop k text) (All-drop IsByte k text are)))

-- the head of two texts, one after the other: where it begins in the later one
pub later_head : (skip : ℕ) (a b : List ℕ) → length a ≤ skip → head_at skip (a ++ b) ≡ head_at (skip - length a) b
later_head skip a b past =
    let whole : skip ≡ length a + (skip - length a) = omega arith in
    ap (λ n. head_of 8 (drop n (a ++ b))) whole ∙ ap (head_of 8) (drop-append-add a b (skip - length a))

-- where it ends in the first one
pub first_head : (skip : ℕ) (a b : List ℕ) → 8 ≤ length a - skip → head_at skip (a ++ b) ≡ head_at skip a
first_head skip a b enough =
    let inside : skip ≤ length a = omega arith in
    let left = length-drop skip a in
    let none : 8 - length (drop skip a) ≡ 0 = omega (arith, left) in
    ap (head_of 8) (drop-append-le skip a b inside) ∙ head_of-append 8 (drop skip a) b ∙ ap (λ n. head_of 8 (drop skip a) + head_of n b) none ∙ omega arith

-- and where it has bytes of both
pub both_heads : (skip : ℕ) (a b : List ℕ) → IsText b → skip ≤ length a → length a - skip ≤ 8 → head_at skip (a ++ b) ≡ head_at skip a + head_at 0 b / 2 ^ (8 * (length a - skip))
both_heads skip a b b_text inside few =
    let left = length-drop skip a in
    let n = length a - skip in
    let rest : 8 - length (drop skip a) ≡ 8 - n = omega (arith, left) in
    let eight : 8 - n + n ≡ 8 = omega arith in
    let fewer : head_of 8 b / 256 ^ n ≡ head_of (8 - n) b = (rw eight at (head_of-fewer (8 - n) n b b_text)) in
    ap (head_of 8) (drop-append-le skip a b inside) ∙ head_of-append 8 (drop skip a) b ∙ rw (rest, bits_of_width n, ← fewer) refl

pub head_at_below : (skip : ℕ) (text : List ℕ) → IsText text → head_at skip text < 2 ^ 64
head_at_below skip text are = head_below 8 (drop skip text) (All-drop IsByte skip text are)
