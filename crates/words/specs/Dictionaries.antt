-- The words of a list in order.
use Rattle.std.specs.Prelude.{◌≡◌, ◌↔◌, ℕ, List, AllPairs, Contains}
use Rattle.std.specs.declared.cmp.Ordering.TheVariants.{Less}
use Rattle.art_bytes.specs.Text.{text_order}

-- words are those of the list, each once, in ascending order
pub record IsDictionary (list words : List (List ℕ)) : Type 0 where
  pub ascending : AllPairs (λ a b. text_order a b ≡ Less) words
  pub same_words : (word : List ℕ) → Contains words word ↔ Contains list word
