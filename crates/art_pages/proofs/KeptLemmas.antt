-- What keeps the invariant of a page: its entries are in order, and their keys are those of the type.
use Rattle.std.proofs.Common.{◌≡◌, ◌∙◌, ℕ, suc, ◌+◌, ◌<◌, Bool, true, false, cond, Result, List, [], ◌∷◌, ◌++◌, length, take, drop, get_or, sym, ap, subst, arith}
use Rattle.std.proofs.lemmas.List.{take-append-drop}
use Rattle.std.proofs.lemmas.List.Elements.{All-nil}
use Rattle.std.proofs.Math.Seq.{drop-cons}
use Rattle.std.specs.Cmp.{IsTotalOrder}
use Rattle.std.specs.List.Sorted.{IsStrictlySortedBy}
use Rattle.std.specs.Prelude.{insert}
use Rattle.std.specs.declared.cmp.Ordering.{Ordering}
use Rattle.art_pages.specs.Contents.{PageContents, page_with_value, set_value_at}
use Rattle.art_pages.specs.Entries.{IsOrdered, AllBelow, AllAbove, IsPlaceOf}
use Rattle.art_pages.proofs.OrderLemmas.{AllKeys, ordered-nil, ordered-take, ordered-drop, ordered-between, ordered-without, ordered-same, keys-between, keys-take, keys-drop, keys-without, keys-same}
use Rattle.art_pages.proofs.ValueLemmas.{keys_of-set_value_at}

-- a list, cut at one of its entries
pub cut-at : {X : Type 0} (xs : List X) (i : ℕ) (d : X) → i < length xs → xs ≡ take i xs ++ ((get_or xs i d ∷ []) ++ drop (i + 1) xs)
cut-at xs i d within =
    let more : i + 1 ≡ suc i = omega arith in
    sym (take-append-drop i xs) ∙ ap (λ l. take i xs ++ l) (drop-cons xs i d within) ∙ ap (λ n. take i xs ++ (get_or xs i d ∷ drop n xs)) (sym more)

module _ {K V : Type 0} (order : K → K → Ordering) (is_key : K → Type 0) where
  -- what a page keeps of its entries
  abbrev pub IsKept : List (K × V) → Type 0
  IsKept entries = IsOrdered order entries × AllKeys is_key entries

  pub kept-same : (entries now : List (K × V)) → now ≡ entries → IsKept entries → IsKept now
  kept-same entries now same kept = subst IsKept (sym same) kept

  pub kept-nil : (now : List (K × V)) → now ≡ [] → IsKept now
  kept-nil now none = kept-same [] now none (ordered-nil V order, All-nil (λ o. is_key o.0))

  pub kept-take : (count : ℕ) (entries : List (K × V)) → IsKept entries → IsKept (take count entries)
  kept-take count entries kept = (ordered-take order count entries kept.0, keys-take is_key count entries kept.1)

  pub kept-drop : (count : ℕ) (entries : List (K × V)) → IsKept entries → IsKept (drop count entries)
  kept-drop count entries kept = (ordered-drop order count entries kept.0, keys-drop is_key count entries kept.1)

  pub kept-insert : (cmp : K → K → Ordering) → order ≡ cmp → IsTotalOrder cmp → (entries : List (K × V)) (place : ℕ) (entry : K × V) → IsKept entries
      → AllBelow (cmp entry.0) (take place entries) → AllAbove (cmp entry.0) (drop place entries) → is_key entry.0 → IsKept (insert entries place entry)
  kept-insert cmp same total entries place entry kept below above is = (
    ordered-same cmp order (insert entries place entry) (sym same)
        (ordered-between cmp total (take place entries) (drop place entries) entry
        (ordered-same order cmp (take place entries ++ drop place entries) same (subst (IsOrdered order) (sym (take-append-drop place entries)) kept.0)) below above),
    keys-between is_key (take place entries) (drop place entries) entry (subst (AllKeys is_key) (sym (take-append-drop place entries)) kept.1) is,
  )

  pub kept-without : (entries : List (K × V)) (place : ℕ) (d : K × V) → place < length entries → IsKept entries → IsKept (take place entries ++ drop (place + 1) entries)
  kept-without entries place d within kept =
      let middle = get_or entries place d ∷ [] in (
        ordered-without order (take place entries) middle (drop (place + 1) entries) (subst (IsOrdered order) (cut-at entries place d within) kept.0),
        keys-without is_key (take place entries) middle (drop (place + 1) entries) (subst (AllKeys is_key) (cut-at entries place d within) kept.1),
      )

  pub kept-value : (entries : List (K × V)) (place : ℕ) (d : K × V) (value : V) → place < length entries → IsKept entries → IsKept (set_value_at entries place value)
  kept-value entries place d value within kept = (
    subst (λ keys. IsStrictlySortedBy order keys) (sym (keys_of-set_value_at entries place value)) kept.0,
    keys-same is_key entries (set_value_at entries place value) (sym (keys_of-set_value_at entries place value)) kept.1,
  )

-- either way of a choice
pub either : {X : Type 0} (P : X → Type 0) (b : Bool) (x y : X) → P x → P y → P (cond b x y)
either P true x y first second = first
either P false x y first second = second

-- what is known of a page's entries, of the list behind them
module _ {K V : Type 0} (inside now : PageContents K V) (view_is : inside ≡ now) where
  pub within-view : (place : ℕ) → place < length now.entries → place < length inside.entries
  within-view place within = subst (λ (page : PageContents K V). place < length page.entries) (sym view_is) within

  pub place-view : (compare : K → Ordering) (r : Result ℕ ℕ) → IsPlaceOf compare now.entries r → IsPlaceOf compare inside.entries r
  place-view compare r is = subst (λ (page : PageContents K V). IsPlaceOf compare page.entries r) (sym view_is) is

  -- with a value at an index
  pub value-view : (place : ℕ) (value : V) (entries : List (K × V)) → entries ≡ set_value_at inside.entries place value
      → ◌≡◌ {A = PageContents K V} (record { entries = entries; capacity = inside.capacity }) (page_with_value now place value)
  value-view place value entries is = (λ i. record { entries = is i; capacity = inside.capacity }) ∙ ap (λ (page : PageContents K V). page_with_value page place value) view_is
