-- Laws of a mapping, carried over to bytes that stand for values. No public clause cites this.
use Rattle.std.specs.Prelude.{◌≡◌, ◌↔◌, ℕ, List, refl}
use Rattle.std.proofs.Common.{sym, ◌∙◌}
use Rattle.std.proofs.Props.{props}
use Rattle.std.proofs.Math.Logic.{∥∥₁_elim, ∥∥₁_map}
use Rattle.std.specs.declared.cmp.Ordering.{Ordering}
use Rattle.art_bytes.specs.Text.{IsPrefixOf, text_order}
use Rattle.art_mapped.specs.Mapping.{StandsForSome, HasTextOf, HoldsSome}

-- where bytes stand for the value whose text they have, other bytes with that text stand for some value too
pub kept_by_text : {B D : Type 0} (is_in_domain : D → Type 0) (text : B → List ℕ) (text_of : D → List ℕ) (a b : B) → text a ≡ text b
    → StandsForSome is_in_domain (HasTextOf text text_of) a → StandsForSome is_in_domain (HasTextOf text text_of) b
kept_by_text is_in_domain text text_of a b same some = ∥∥₁_map some (λ of. (of.0, of.1, sym same ∙ of.2))

-- where no value's text is a proper prefix of another's, the same holds of bytes that stand for values
pub text_prefix_is_whole : {B D : Type 0} (is_in_domain : D → Type 0) (stands_for : B → D → Type 0) (text : B → List ℕ) (text_of : D → List ℕ)
    → ((bytes : B) (value : D) → is_in_domain value → stands_for bytes value → text bytes ≡ text_of value)
    → ((x y : D) → is_in_domain x → is_in_domain y → IsPrefixOf (text_of x) (text_of y) → text_of x ≡ text_of y)
    → (a b : B) → StandsForSome is_in_domain stands_for a → StandsForSome is_in_domain stands_for b → IsPrefixOf (text a) (text b) → text a ≡ text b
text_prefix_is_whole is_in_domain stands_for text text_of has_text no_prefixes a b a_some b_some front =
    ∥∥₁_elim a_some (hlevel props) (λ x. ∥∥₁_elim b_some (hlevel props) (λ y.
    let a_text = has_text a x.0 x.1 x.2 in
    let b_text = has_text b y.0 y.1 y.2 in
    a_text ∙ no_prefixes x.0 y.0 x.1 y.1 (rw (a_text, b_text) at front) ∙ sym b_text))

-- what follows both ways follows both ways of what does
pub both_ways : {A B C : Type 0} → A ↔ B → B ↔ C → A ↔ C
both_ways first later = (λ a. later.0 (first.0 a), λ c. first.1 (later.1 c))

-- a key that holds some value stands for one
pub stands_for_some : {K D : Type 0} {holds : K → D → Type 0} {is_in_domain : D → Type 0} {stands_for : K → D → Type 0}
    → ((key : K) (value : D) → holds key value ↔ (is_in_domain value × stands_for key value))
    → (key : K) → HoldsSome holds key → StandsForSome is_in_domain stands_for key
stands_for_some holds_value key some = ∥∥₁_map some (λ of.
    let both = (holds_value key of.0).0 of.1 in
    (of.0, both.0, both.1))

-- where each value in range has a key, a list is the text of a value exactly where a key with that text has that value's text
pub text_of_a_key : {K D : Type 0} (is_key : K → Type 0) (text : K → List ℕ) (is_in_range : D → Type 0) (text_of : D → List ℕ) (given : List ℕ) (value : D)
    → (is_in_range value → (key : K) × is_key key × (text key ≡ text_of value))
    → (is_in_range value × (given ≡ text_of value)) ↔ ((key : K) × is_key key × (text key ≡ given) × is_in_range value × (text key ≡ text_of value))
text_of_a_key is_key text is_in_range text_of given value key_of = (
  λ of.
      let key = key_of of.0 in
      (key.0, key.1, key.2 ∙ sym of.1, of.0, key.2),
  λ of. (of.3, sym of.2 ∙ of.4),
)

-- where a key holds some value, another key with the same text does
pub held_by_text : {K D : Type 0} {holds : K → D → Type 0} {is_in_domain : D → Type 0} {stands_for : K → D → Type 0} {is_key : K → Type 0} {text : K → List ℕ}
    → ((key : K) (value : D) → holds key value ↔ (is_in_domain value × stands_for key value))
    → ((a b : K) → is_key b → text a ≡ text b → StandsForSome is_in_domain stands_for a → StandsForSome is_in_domain stands_for b)
    → (a b : K) → is_key b → text a ≡ text b → HoldsSome holds a → HoldsSome holds b
held_by_text holds_value kept a b b_key same some =
    ∥∥₁_map (kept a b b_key same (stands_for_some holds_value a some)) (λ of. (of.0, (holds_value b of.0).1 (of.1, of.2)))

-- where a mapping keeps the order, keys have the order of the values that they hold
pub order_of_held : {K D : Type 0} {holds : K → D → Type 0} {is_in_domain : D → Type 0} {stands_for : K → D → Type 0} (text : K → List ℕ) {text_of : D → List ℕ} {order : D → D → Ordering}
    → ((key : K) (value : D) → holds key value ↔ (is_in_domain value × stands_for key value))
    → ((key : K) (value : D) → is_in_domain value → stands_for key value → text key ≡ text_of value)
    → ((x y : D) → is_in_domain x → is_in_domain y → order x y ≡ text_order (text_of x) (text_of y))
    → (a b : K) (x y : D) → holds a x → holds b y → text_order (text a) (text b) ≡ order x y
order_of_held text holds_value has_text keeps_order a b x y a_holds b_holds =
    let x_of = (holds_value a x).0 a_holds in
    let y_of = (holds_value b y).0 b_holds in
    rw (has_text a x x_of.0 x_of.1, has_text b y y_of.0 y_of.1, keeps_order x y x_of.0 y_of.0) refl

-- what is read from a key is a value that it holds, and the same as every such value
pub read_of_held : {K D : Type 0} {holds : K → D → Type 0} {is_in_domain : D → Type 0} {stands_for : K → D → Type 0} {are_same : D → D → Type 0} {text : K → List ℕ} {text_of : D → List ℕ}
    → ((key : K) (value : D) → holds key value ↔ (is_in_domain value × stands_for key value))
    → ((key : K) (value : D) → is_in_domain value → stands_for key value → text key ≡ text_of value)
    → ((key : K) (x y : D) → is_in_domain x → is_in_domain y → stands_for key x → stands_for key y → are_same x y)
    → (key : K) (read : D) → is_in_domain read → stands_for key read
    → holds key read × (text key ≡ text_of read) × ((value : D) → holds key value → are_same read value)
read_of_held holds_value has_text reads_one key read in_domain stands = (
  (holds_value key read).1 (in_domain, stands),
  has_text key read in_domain stands,
  λ value held.
      let both = (holds_value key value).0 held in
      reads_one key read value in_domain both.0 stands both.1,
)
