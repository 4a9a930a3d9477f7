-- The bytes of tuples: those of the parts, joined.
use Rattle.std.specs.Prelude.{◌≡◌, ◌↔◌, ℕ, List, ◌++◌, length}
use Rattle.std.specs.declared.cmp.Ordering.{Ordering}
use Rattle.art_bytes.specs.Text.{text_order}
use Rattle.art_mapped.specs.Mapping.{StandsForSome}

-- a value of the part's mapping, with a text of the part's width that stands for it
abbrev pub IsPart : {D : Type 0} → (D → Type 0) → (D → List ℕ) → (List ℕ → D → Type 0) → ℕ → D → Type 0
IsPart is_in_domain text_of stands_for width value = is_in_domain value × (length (text_of value) ≡ width) × stands_for (text_of value) value

-- a text stands for a part's value where the bytes that have it do
abbrev pub IsTextOf : {K D : Type 0} → (K → Type 0) → (K → List ℕ) → (K → D → Type 0) → List ℕ → D → Type 0
IsTextOf {K} is_key text stands_for given value = (bytes : K) × is_key bytes × (text bytes ≡ given) × stands_for bytes value

-- a fact of the parts before the last, and one of the last
abbrev pub Both : {A B : Type 0} → (A → Type 0) → (B → Type 0) → A × B → Type 0
Both front last value = front value.0 × last value.1

-- the text of the parts before the last, and then that of the last
abbrev pub both_texts : {A B : Type 0} → (A → List ℕ) → (B → List ℕ) → A × B → List ℕ
both_texts front last value = front value.0 ++ last value.1

-- two values are the same part by part
abbrev pub AreSameBoth : {A B : Type 0} → (A → A → Type 0) → (B → B → Type 0) → A × B → A × B → Type 0
AreSameBoth front last x y = front x.0 y.0 × last x.1 y.1

-- a text stands for the parts where it is one that stands for those before the last, and then one that stands for the last
abbrev pub StandsForBoth : {A B : Type 0} → (List ℕ → A → Type 0) → (List ℕ → B → Type 0) → List ℕ → A × B → Type 0
StandsForBoth front last text value = (a : List ℕ) × (b : List ℕ) × (text ≡ a ++ b) × front a value.0 × last b value.1

-- a text stands for at most one value, whose text it is; each value's text stands for it; all values have texts of one width
pub record TextLaws {D : Type 0} (is_in_domain : D → Type 0) (text_of : D → List ℕ) (stands_for : List ℕ → D → Type 0) (are_same : D → D → Type 0) (width : ℕ) : Type 0 where
  pub has_text : (text : List ℕ) (value : D) → is_in_domain value → stands_for text value → text ≡ text_of value
  pub long : (value : D) → is_in_domain value → length (text_of value) ≡ width
  pub stands : (value : D) → is_in_domain value → stands_for (text_of value) value
  pub reads_one : (text : List ℕ) (x y : D) → is_in_domain x → is_in_domain y → stands_for text x → stands_for text y → are_same x y

-- the texts keep the order of the values
pub record OrderLaws {D : Type 0} (is_in_domain : D → Type 0) (text_of : D → List ℕ) (order : D → D → Ordering) : Type 0 where
  pub keeps : (x y : D) → is_in_domain x → is_in_domain y → order x y ≡ text_order (text_of x) (text_of y)

-- keys of all parts have texts of one width, joined, which is some value's exactly where each key is
pub record KeyLaws {D Keys : Type 0} (is_in_domain : D → Type 0) (stands_for : List ℕ → D → Type 0) (are_keys : Keys → Type 0) (text : Keys → List ℕ) (are_values : Keys → Type 0) (width : ℕ) : Type 0 where
  pub long : (keys : Keys) → are_keys keys → length (text keys) ≡ width
  pub values : (keys : Keys) → are_keys keys → StandsForSome is_in_domain stands_for (text keys) ↔ are_values keys
