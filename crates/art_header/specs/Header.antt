-- Headers: count, prefix length, stored prefix.
use Rattle.std.specs.Prelude.{◌≡◌, ℕ, ◌+◌, ◌-◌, ◌&&◌, ◌==◌, List, ◌++◌, min, take, drop, length, Bool, nat_eq}
use Rattle.std.specs.Cmp.{IsEquivalence, and_equiv, on_equiv, nat_eq_equiv}
use Rattle.std.specs.Cmp.Lexicographic.{pointwise, nat_list_eq_equiv}

-- a header: the number of children, the length of the prefix in bytes, and the stored prefix
pub record Header : Type 0 where
  pub count : ℕ
  pub prefix_len : ℕ
  pub stored : List ℕ

-- how many bytes of a prefix of this length are stored by a header that stores at most `room`
abbrev pub capped : ℕ → ℕ → ℕ
capped room prefix_len = min prefix_len room

-- a header of count 0 for a prefix of this length that begins with these bytes
abbrev pub empty_header : ℕ → List ℕ → ℕ → Header
empty_header room prefix prefix_len = record { count = 0; prefix_len = prefix_len; stored = take (capped room prefix_len) prefix }

-- the header with the prefix of another
abbrev pub with_prefix_of : Header → Header → Header
with_prefix_of header other = record header { prefix_len = other.prefix_len; stored = other.stored }

-- the header without the first bytes of its prefix, where the whole prefix is stored
abbrev pub ltrimmed : Header → ℕ → Header
ltrimmed header len = record header { prefix_len = header.prefix_len - len; stored = drop len header.stored }

-- the header with this many more bytes in its prefix, the first of which are these
abbrev pub with_more : ℕ → Header → List ℕ → ℕ → Header
with_more room header more len =
    record header {
      prefix_len = header.prefix_len + len;
      stored = take (capped room (header.prefix_len + len)) (header.stored ++ more);
    }

-- the header with a prefix of this length that begins with these bytes
abbrev pub with_prefix : ℕ → Header → List ℕ → ℕ → Header
with_prefix room header prefix len = record header { prefix_len = len; stored = take (capped room len) prefix }

-- the header is one for this prefix: it has its length, and stores its first bytes
abbrev pub StandsFor : ℕ → Header → List ℕ → Type 0
StandsFor room header prefix = header ≡ with_prefix room header prefix (length prefix)

-- two headers have the same count, prefix length and stored prefix
abbrev pub same_header : Header → Header → Bool
same_header a b = (a.count == b.count) && ((a.prefix_len == b.prefix_len) && pointwise nat_eq a.stored b.stored)

-- this is an equivalence
pub same_header_equiv : IsEquivalence same_header
same_header_equiv =
    and_equiv (on_equiv (λ h. h.count) nat_eq_equiv) (and_equiv (on_equiv (λ h. h.prefix_len) nat_eq_equiv) (on_equiv (λ h. h.stored) nat_list_eq_equiv))
