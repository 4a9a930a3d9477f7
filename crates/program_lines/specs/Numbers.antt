-- Numbers of lines.
use Rattle.std.specs.Prelude.{◌≡◌, ℕ, ◌<◌, ◌≤◌, List, All, length}
use Rattle.std.specs.Int.{IsInRange}
use Rattle.std.specs.Str.Parse.{digits_value}

-- one to ten decimal digits that give the number
pub record IsNumber (word : List ℕ) (number : ℕ) : Type 0 where
  pub has_digit : 0 < length word
  pub has_room : length word ≤ 10
  pub digits : All (IsInRange 48 57) word
  pub value : digits_value 10 word ≡ number
