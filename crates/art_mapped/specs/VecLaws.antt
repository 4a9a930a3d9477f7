-- Vectors with the items of a list. No public clause cites this.
use Rattle.std.specs.Prelude.{◌≡◌, ◌≤◌, ◌↔◌, ℕ, List, length, Vec, refl}
use Rattle.std.proofs.Common.{arith, sym, subst}
use Rattle.std.specs.Vec.{vec_items}

-- for a list that is no longer than some vector there is a vector with those items
pub vec_with : {X Y Z : Type 0} (other : Vec X Z) (items : List Y) → length items ≤ length (vec_items other) → (v : Vec Y Z) × (vec_items v ≡ items)
vec_with other items fits = (
  record {
    ptr = other.ptr;
    len = length items;
    cap = other.cap;
    alloc = other.alloc;
    items = items;
    ok = (refl, omega (arith, other.ok.0, other.ok.1));
    small = other.small;
  },
  refl,
)

-- where a vector has the items that stand for a value, so has the list of these items
pub text_of_a_vec : {D Z Is : Type 0} {is_key : Vec ℕ Z → Type 0} → ((v : Vec ℕ Z) → is_key v) → (is_in : D → Type 0) (stands : List ℕ → D → Type 0) (value : D) (other : Vec ℕ Z) (text : List ℕ)
    → length text ≤ length (vec_items other) → Is ↔ (is_in value × stands text value)
    → Is ↔ ((v : Vec ℕ Z) × is_key v × (vec_items v ≡ text) × is_in value × stands (vec_items v) value)
text_of_a_vec all_keys is_in stands value other text fits is = (
  λ a_text.
      let v = vec_with other text fits in
      let both = is.0 a_text in
      let At : List ℕ → Type 0 = λ list. stands list value in
      (v.0, all_keys v.0, v.1, both.0, subst At (sym v.1) both.1),
  λ of.
      let At : List ℕ → Type 0 = λ list. stands list value in
      is.1 (of.3, subst At of.2 of.4),
)
