-- Limits of the entries that are sought: a key, or behind the keys that begin with a prefix. No public clause cites this.
use Rattle.std.specs.Prelude.{ℕ, ◌<◌, ◌^◌, List, length}
use Rattle.std.specs.Ordering.{ordering_then}
use Rattle.std.specs.declared.cmp.Ordering.{Ordering}
use Rattle.std.specs.declared.cmp.Ordering.TheVariants.{Greater}
use Rattle.std.proofs.lemmas.List.Elements.{All-append}
use Rattle.art_bytes.specs.Text.{IsByte, IsText, text_order}
use Rattle.art_keys.specs.Encoding.{Agrees}
use Rattle.art_keys.specs.EncodingLaws.{sorted_agrees}
use Rattle.art_keys.specs.Groups.{grouped}
use Rattle.art_keys.specs.GroupLaws.{strings_are_bytes, strings_sort}
use Rattle.art_keys.specs.Prefixes.{grouped_bound, prefix_cmp}
use Rattle.art_keys.specs.PrefixLaws.{agrees_alone, grouped_bounds_agree, grouped_bounds_are_bytes}
use Rattle.art_keys.specs.declared.prefix.Edge.TheVariants.{Highest}
use Rattle.art_c_maps.specs.ByteStrings.{bytes_of_string}
use Rattle.art_c_maps.specs.declared.byte_string.ByteString.{ByteString}
use Rattle.art_c_maps.specs.declared.limit.Limit.{Limit}
use Rattle.art_c_maps.specs.declared.limit.Limit.TheVariants.{Key, Behind}

-- the bytes of its encoding
abbrev pub limit_encoded : Limit → List ℕ
limit_encoded (Key key) = grouped key.now
limit_encoded (Behind prefix) = grouped_bound prefix.now Highest

-- its bytes are bytes
abbrev pub is_limit : Limit → Type 0
is_limit (Key key) = IsText key.now
is_limit (Behind prefix) = IsText prefix.now

-- how it compares to a key: the limit behind a prefix is above all keys that begin so
abbrev pub limit_compare : Limit → ByteString → Ordering
limit_compare (Key key) other = text_order key.now (bytes_of_string other)
limit_compare (Behind prefix) other = ordering_then (prefix_cmp prefix.now (bytes_of_string other)) Greater

pub limits_are_bytes : (limit : Limit) → is_limit limit → IsText (limit_encoded limit)
limits_are_bytes (Key key) is = strings_are_bytes key.now is
limits_are_bytes (Behind prefix) is = grouped_bounds_are_bytes prefix.now Highest is

-- and sorts as it does
pub limits_agree : (limit : Limit) (other : ByteString) → is_limit limit → IsText (bytes_of_string other) → length (grouped (bytes_of_string other)) < 2 ^ 32
    → Agrees (text_order (limit_encoded limit) (grouped (bytes_of_string other))) (limit_compare limit other)
limits_agree (Key key) other is other_is short =
    let bytes = bytes_of_string other in
    sorted_agrees (text_order key.now bytes) (grouped key.now) (grouped bytes) (strings_sort key.now bytes)
limits_agree (Behind prefix) other is other_is short =
    let bytes = bytes_of_string other in
    agrees_alone (prefix_cmp prefix.now bytes) Highest (grouped_bound prefix.now Highest) (grouped bytes)
    (λ rest rest_is fits. grouped_bounds_agree prefix.now Highest bytes rest (All-append IsByte (grouped bytes) rest (strings_are_bytes bytes other_is) rest_is) fits) short
