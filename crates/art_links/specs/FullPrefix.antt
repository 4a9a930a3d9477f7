-- The result of a full match, and the side of a key on which texts lie.
use Rattle.std.specs.Prelude.{◌≡◌, ℕ, List, All, Result, Ok, Err}
use Rattle.std.specs.declared.cmp.Ordering.{Ordering}
use Rattle.std.specs.declared.cmp.Ordering.TheVariants.{Less, Equal, Greater}
use Rattle.art_bytes.specs.Text.{text_order}
use Rattle.art_nodes.specs.declared.inner_nodes.prefix_match.ExplicitMismatch.{ExplicitMismatch}
use Rattle.art_nodes.specs.declared.inner_nodes.prefix_match.PrefixMatch.{PrefixMatch}
use Rattle.art_arena.specs.CommonPrefix.{Parting}

-- the result of a full match, but for the leaf that it read
abbrev pub match_of : {K V : Type 0} {P : ℕ} → Result PrefixMatch (ExplicitMismatch K V P) → Result ℕ Parting
match_of (Ok matched) = Ok matched.matched_bytes
match_of (Err mismatch) =
    Err (record {
      equal_bytes = mismatch.matched_bytes;
      prefix_byte = mismatch.prefix_byte;
      order = mismatch.node_prefix_comparison_to_search_key_segment;
    })

-- every text lies on this side of the key: below it or above it
abbrev pub LieOnSide : Ordering → List ℕ → List (List ℕ) → Type 0
LieOnSide Less key texts = All (λ text. text_order text key ≡ Less) texts
LieOnSide Equal key texts = ⊥
LieOnSide Greater key texts = All (λ text. text_order text key ≡ Greater) texts
