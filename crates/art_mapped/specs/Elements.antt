-- Elements: values with bytes of one width that sort as the values do.
use Rattle.std.specs.Prelude.{◌≡◌, ℕ, ◌<◌, List, length}
use Rattle.std.specs.declared.cmp.Ordering.{Ordering}
use Rattle.std.specs.declared.cmp.Ordering.TheVariants.{Equal}
use Rattle.art_bytes.specs.Text.{text_order}

-- the values in range have bytes of one width, which is at least 1, in the order of the values, of which no two tie
pub record KeepsOrder {E : Type 0} (is_in_range : E → Type 0) (text_of : E → List ℕ) (order : E → E → Ordering) (width : ℕ) : Type 0 where
  pub some : 0 < width
  pub long : (x : E) → is_in_range x → length (text_of x) ≡ width
  pub keeps : (x y : E) → is_in_range x → is_in_range y → order x y ≡ text_order (text_of x) (text_of y)
  pub exact : (x y : E) → order x y ≡ Equal → x ≡ y
