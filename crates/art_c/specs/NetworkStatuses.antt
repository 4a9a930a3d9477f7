-- What calls write that find networks of which two route tables differ.
use Rattle.std.specs.Prelude.{◌≡◌, ◌<◌, ◌≤◌, ℕ, List, Option, Some, None, length}
use Rattle.art_routes.specs.Networks.{Block}
use Rattle.art_c_maps.specs.Buffers.{written}
use Rattle.art_c_routes.specs.Addresses.{address_bytes, byte_count}
use Rattle.art_c_routes.specs.Differing.{IsFirstDifference}
use Rattle.art_c_maps.specs.Many.{found_or}

abbrev pub ART_INSERT : ℕ
ART_INSERT = 0

abbrev pub ART_REMOVE : ℕ
ART_REMOVE = 1

abbrev pub ART_REPLACE : ℕ
ART_REPLACE = 2

-- the change by which a table with the one value, if there is one, has the other
abbrev pub change_of : Option ℕ → Option ℕ → ℕ
change_of None after = ART_INSERT
change_of (Some before) None = ART_REMOVE
change_of (Some before) (Some after) = ART_REPLACE

-- the first difference of these routes, whose address fits, is written out
pub record IsDifferenceWritten (old new : List (Block × ℕ)) (buffer : List ℕ) (before_old after_old : ℕ) (address : List ℕ) (width count change before after : ℕ) : Type 0 where
  pub network : Block
  pub value_before : Option ℕ
  pub value_after : Option ℕ
  pub first : IsFirstDifference old new network value_before value_after
  pub width_is : width ≡ byte_count network.address
  pub fits : width ≤ length buffer
  pub address_is : address ≡ written (address_bytes network.address) buffer
  pub count_is : count ≡ network.length
  pub change_is : change ≡ change_of value_before value_after
  pub before_is : before ≡ found_or value_before before_old
  pub after_is : after ≡ found_or value_after after_old

-- its address has more bytes than the buffer, so many, and so is not written: the buffer is unchanged
pub record IsTooLong (old new : List (Block × ℕ)) (buffer address : List ℕ) (width : ℕ) : Type 0 where
  pub network : Block
  pub value_before : Option ℕ
  pub value_after : Option ℕ
  pub first : IsFirstDifference old new network value_before value_after
  pub width_is : width ≡ byte_count network.address
  pub longer : length buffer < width
  pub address_is : address ≡ written (address_bytes network.address) buffer
