-- Matches of a node's prefix with the rest of a key, without reading a leaf.
use Rattle.std.specs.Prelude.{◌≡◌, ℕ, ◌==◌, List, length, None, Result, Ok, Err, true, false, nat_eq, nat_le, nat_lt, slice_get, if◌then◌else◌}
use Rattle.std.specs.List.{common_prefix_len}
use Rattle.art_bytes.specs.Text.{IsPrefixOf}
use Rattle.art_nodes.specs.Inner.{Inner}
use Rattle.art_nodes.specs.declared.inner_nodes.prefix_match.PrefixMatch.{PrefixMatch}
use Rattle.art_nodes.specs.declared.inner_nodes.prefix_match.OptimisticMismatch.{OptimisticMismatch}
use Rattle.art_nodes.specs.declared.inner_nodes.prefix_match.AttemptOptimisticPrefixMatch.{AttemptOptimisticPrefixMatch}
use Rattle.art_nodes.specs.declared.inner_nodes.prefix_match.PessimisticMismatch.{PessimisticMismatch}

-- by lengths alone: the rest is at least as long as the prefix, or it is too short
abbrev pub optimistic_match : ℕ → List ℕ → Result PrefixMatch OptimisticMismatch
optimistic_match prefix_len rest =
    if nat_le prefix_len (length rest) then Ok (record { matched_bytes = prefix_len }) else Err (record { matched_bytes = length rest })

-- the same, where some bytes of the prefix are not stored
abbrev pub implicit_match : ℕ → List ℕ → Result AttemptOptimisticPrefixMatch PessimisticMismatch
implicit_match prefix_len rest =
    if nat_le prefix_len (length rest)
    then Ok (record { matched_bytes = prefix_len; any_implicit_bytes = true })
    else Err (record { matched_bytes = length rest; prefix_byte = None })

-- byte by byte: the prefix is a prefix of the rest, or the first byte where the rest differs or ends
abbrev pub explicit_match : List ℕ → List ℕ → Result AttemptOptimisticPrefixMatch PessimisticMismatch
explicit_match prefix rest =
    let matched = common_prefix_len nat_eq prefix rest in
    if matched == length prefix
    then Ok (record { matched_bytes = matched; any_implicit_bytes = false })
    else Err (record { matched_bytes = matched; prefix_byte = slice_get prefix matched })

-- byte by byte where the whole prefix is stored, else by lengths
abbrev pub cheap_match : ℕ → ℕ → List ℕ → List ℕ → Result AttemptOptimisticPrefixMatch PessimisticMismatch
cheap_match room prefix_len stored rest =
    if nat_lt room prefix_len then implicit_match prefix_len rest else explicit_match stored rest

-- the node may have this prefix: it has the prefix's length, and stores its first bytes
abbrev pub HasPrefix : {H : Type 0} → Inner H → List ℕ → Type 0
HasPrefix node prefix = (length prefix ≡ node.prefix_len) × IsPrefixOf node.stored prefix
