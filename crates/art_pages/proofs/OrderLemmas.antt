-- Lists of entries in order, cut and joined.
use Rattle.std.proofs.Common.{◌≡◌, ◌∙◌, ℕ, List, [], ◌∷◌, ◌++◌, take, drop, All, sym, ap, subst}
use Rattle.std.proofs.lemmas.List.{take-append-drop}
use Rattle.std.proofs.lemmas.List.Elements.{All-nil, All-cons, All-head, All-tail, All-append, All-take, All-drop}
use Rattle.std.specs.Cmp.{IsTotalOrder}
use Rattle.std.specs.List.{AllByRecursion}
use Rattle.std.specs.List.Sorted.{IsStrictlySortedBy}
use Rattle.std.specs.Map.{keys_of}
use Rattle.std.specs.Ordering.{ordering_reverse}
use Rattle.std.specs.declared.cmp.Ordering.{Ordering}
use Rattle.std.specs.declared.cmp.Ordering.TheVariants.{Less, Greater}
use Rattle.art_pages.specs.Entries.{IsOrdered, AllBelow, AllAbove}

module _ {K V : Type 0} where
  -- what holds of the keys of a list holds of those of its parts, and the other way round
  keys-left : (P : K → Type 0) (a b : List (K × V)) → AllByRecursion P (keys_of (a ++ b)) → AllByRecursion P (keys_of a)
  keys-left P [] b all = tt
  keys-left P (entry ∷ a) b all = (all.0, keys-left P a b all.1)

  keys-right : (P : K → Type 0) (a b : List (K × V)) → AllByRecursion P (keys_of (a ++ b)) → AllByRecursion P (keys_of b)
  keys-right P [] b all = all
  keys-right P (entry ∷ a) b all = keys-right P a b all.1

  keys-append : (P : K → Type 0) (a b : List (K × V)) → AllByRecursion P (keys_of a) → AllByRecursion P (keys_of b) → AllByRecursion P (keys_of (a ++ b))
  keys-append P [] b left right = right
  keys-append P (entry ∷ a) b left right = (left.0, keys-append P a b left.1 right)

  keys-from_entries : (P : K → Type 0) (entries : List (K × V)) → All (λ entry. P entry.0) entries → AllByRecursion P (keys_of entries)
  keys-from_entries P [] all = tt
  keys-from_entries P (entry ∷ entries) all =
      (All-head (λ o. P o.0) entry entries all, keys-from_entries P entries (All-tail (λ o. P o.0) entry entries all))

  entries-from_keys : (P : K → Type 0) (entries : List (K × V)) → AllByRecursion P (keys_of entries) → All (λ entry. P entry.0) entries
  entries-from_keys P [] all = All-nil (λ o. P o.0)
  entries-from_keys P (entry ∷ entries) all = All-cons (λ o. P o.0) entry entries all.0 (entries-from_keys P entries all.1)

pub ordered-nil : {K : Type 0} (V : Type 0) (cmp : K → K → Ordering) → IsOrdered {V = V} cmp []
unfolding IsStrictlySortedBy
ordered-nil V cmp = tt

module _ {K V : Type 0} (cmp : K → K → Ordering) where
  pub ordered-left : (a b : List (K × V)) → IsOrdered cmp (a ++ b) → IsOrdered cmp a
  unfolding IsStrictlySortedBy
  ordered-left [] b ordered = tt
  ordered-left (entry ∷ a) b ordered = (keys-left (λ key. cmp entry.0 key ≡ Less) a b ordered.0, ordered-left a b ordered.1)

  pub ordered-right : (a b : List (K × V)) → IsOrdered cmp (a ++ b) → IsOrdered cmp b
  unfolding IsStrictlySortedBy
  ordered-right [] b ordered = ordered
  ordered-right (entry ∷ a) b ordered = ordered-right a b ordered.1

  pub ordered-take : (count : ℕ) (entries : List (K × V)) → IsOrdered cmp entries → IsOrdered cmp (take count entries)
  ordered-take count entries ordered =
      ordered-left (take count entries) (drop count entries) (subst (IsOrdered cmp) (sym (take-append-drop count entries)) ordered)

  pub ordered-drop : (count : ℕ) (entries : List (K × V)) → IsOrdered cmp entries → IsOrdered cmp (drop count entries)
  ordered-drop count entries ordered =
      ordered-right (take count entries) (drop count entries) (subst (IsOrdered cmp) (sym (take-append-drop count entries)) ordered)

  -- without what stands between two parts
  pub ordered-without : (a mid b : List (K × V)) → IsOrdered cmp (a ++ (mid ++ b)) → IsOrdered cmp (a ++ b)
  unfolding IsStrictlySortedBy
  ordered-without [] mid b ordered = ordered-right mid b ordered
  ordered-without (entry ∷ a) mid b ordered =
      let each = λ (key : K). cmp entry.0 key ≡ Less in (
        keys-append each a b (keys-left each a (mid ++ b) ordered.0) (keys-right each mid b (keys-right each a (mid ++ b) ordered.0)),
        ordered-without a mid b ordered.1,
      )

  -- the entries behind the first are above it
  pub above-first : (entry : K × V) (entries : List (K × V)) → IsOrdered cmp (entry ∷ entries) → AllAbove (cmp entry.0) entries
  unfolding IsStrictlySortedBy
  above-first entry entries ordered = entries-from_keys (λ key. cmp entry.0 key ≡ Less) entries ordered.0

  pub ordered-cons : (entry : K × V) (entries : List (K × V)) → AllAbove (cmp entry.0) entries → IsOrdered cmp entries → IsOrdered cmp (entry ∷ entries)
  unfolding IsStrictlySortedBy
  ordered-cons entry entries above ordered = (keys-from_entries (λ key. cmp entry.0 key ≡ Less) entries above, ordered)

  -- with an entry between two parts, above the first and below the second
  pub ordered-between : IsTotalOrder cmp → (a b : List (K × V)) (entry : K × V) → IsOrdered cmp (a ++ b) → AllBelow (cmp entry.0) a → AllAbove (cmp entry.0) b → IsOrdered cmp (a ++ entry ∷ b)
  unfolding IsStrictlySortedBy
  ordered-between total [] b entry ordered below above = ordered-cons entry b above ordered
  ordered-between total (other ∷ a) b entry ordered below above =
      let each = λ (key : K). cmp other.0 key ≡ Less in
      let first : cmp other.0 entry.0 ≡ Less =
      total.antisymm other.0 entry.0 ∙ ap ordering_reverse (All-head (λ o. cmp entry.0 o.0 ≡ Greater) other a below) in (
        keys-append each a (entry ∷ b) (keys-left each a b ordered.0) (first, keys-right each a b ordered.0),
        ordered-between total a b entry ordered.1 (All-tail (λ o. cmp entry.0 o.0 ≡ Greater) other a below) above,
      )

  -- what stands before an entry is below it
  pub below-entry : IsTotalOrder cmp → (a : List (K × V)) (entry : K × V) (b : List (K × V)) → IsOrdered cmp (a ++ entry ∷ b) → AllBelow (cmp entry.0) a
  unfolding IsStrictlySortedBy
  below-entry total [] entry b ordered = All-nil (λ o. cmp entry.0 o.0 ≡ Greater)
  below-entry total (other ∷ a) entry b ordered =
      All-cons (λ o. cmp entry.0 o.0 ≡ Greater) other a
      (total.antisymm entry.0 other.0 ∙ ap ordering_reverse (keys-right (λ key. cmp other.0 key ≡ Less) a (entry ∷ b) ordered.0).0)
      (below-entry total a entry b ordered.1)

-- by an order that is the same
pub ordered-same : {K V : Type 0} (first second : K → K → Ordering) (entries : List (K × V)) → first ≡ second → IsOrdered first entries → IsOrdered second entries
ordered-same first second entries same = subst (λ cmp. IsOrdered cmp entries) same

module _ {K V : Type 0} (is_key : K → Type 0) where
  -- each key is one of these
  abbrev pub AllKeys : List (K × V) → Type 0
  AllKeys entries = All (λ entry. is_key entry.0) entries

  pub keys-between : (a b : List (K × V)) (entry : K × V) → AllKeys (a ++ b) → is_key entry.0 → AllKeys (a ++ entry ∷ b)
  keys-between [] b entry keys is = All-cons (λ o. is_key o.0) entry b is keys
  keys-between (other ∷ a) b entry keys is =
      All-cons (λ o. is_key o.0) other (a ++ entry ∷ b) (All-head (λ o. is_key o.0) other (a ++ b) keys)
      (keys-between a b entry (All-tail (λ o. is_key o.0) other (a ++ b) keys) is)

  pub keys-take : (count : ℕ) (entries : List (K × V)) → AllKeys entries → AllKeys (take count entries)
  keys-take count entries = All-take (λ o. is_key o.0) count entries

  pub keys-drop : (count : ℕ) (entries : List (K × V)) → AllKeys entries → AllKeys (drop count entries)
  keys-drop count entries = All-drop (λ o. is_key o.0) count entries

  pub keys-join : (a b : List (K × V)) → AllKeys a → AllKeys b → AllKeys (a ++ b)
  keys-join a b = All-append (λ o. is_key o.0) a b

  pub keys-without : (a mid b : List (K × V)) → AllKeys (a ++ (mid ++ b)) → AllKeys (a ++ b)
  keys-without [] [] b keys = keys
  keys-without [] (entry ∷ mid) b keys = keys-without [] mid b (All-tail (λ o. is_key o.0) entry (mid ++ b) keys)
  keys-without (entry ∷ a) mid b keys =
      All-cons (λ o. is_key o.0) entry (a ++ b) (All-head (λ o. is_key o.0) entry (a ++ (mid ++ b)) keys)
      (keys-without a mid b (All-tail (λ o. is_key o.0) entry (a ++ (mid ++ b)) keys))

  -- other entries with the same keys
  pub keys-same : (entries now : List (K × V)) → keys_of entries ≡ keys_of now → AllKeys entries → AllKeys now
  keys-same entries now same keys = entries-from_keys is_key now (subst (AllByRecursion is_key) same (keys-from_entries is_key entries keys))
