-- The keys of entries whose values tell nothing: they compare and are hashed as the entries.
use Rattle.std.proofs.Common.{◌≡◌, Bool, true, false, ◌&&◌, List, [], ◌∷◌, ◌++◌, Option, Some, None, refl, sym, append-nil}
use Rattle.std.proofs.lemmas.List.{length-map}
use Rattle.std.specs.Cmp.Lexicographic.{pointwise, slice_cmp, slice_partial_cmp}
use Rattle.std.specs.Hash as fed
use Rattle.std.specs.List.{AllZip, flat_map}
use Rattle.std.specs.Map.{keys_of}
use Rattle.std.specs.Ordering.{ordering_then, partial_ordering_then}
use Rattle.std.specs.declared.cmp.Ordering.{Ordering}
use Rattle.std.specs.declared.cmp.Ordering.TheVariants.{Less, Equal, Greater}

and-true : (b : Bool) → (b && true) ≡ b
and-true true = refl
and-true false = refl

then-equal : (o : Ordering) → ordering_then o Equal ≡ o
then-equal Less = refl
then-equal Equal = refl
then-equal Greater = refl

then-some-equal : (o : Option Ordering) → partial_ordering_then o (Some Equal) ≡ o
then-some-equal None = refl
then-some-equal (Some Less) = refl
then-some-equal (Some Equal) = refl
then-some-equal (Some Greater) = refl

module _ {K V : Type 0} where
  pub same-keys : (eq : K → K → Bool) (entries others : List (K × V)) → pointwise (λ p q. eq p.0 q.0 && true) entries others ≡ pointwise eq (keys_of entries) (keys_of others)
  same-keys eq [] [] = refl
  same-keys eq [] (other ∷ others) = refl
  same-keys eq (entry ∷ entries) [] = refl
  same-keys eq (entry ∷ entries) (other ∷ others) = λ i. and-true (eq entry.0 other.0) i && same-keys eq entries others i

  pub order-of-keys : (cmp : K → K → Ordering) (entries others : List (K × V)) → slice_cmp (λ p q. ordering_then (cmp p.0 q.0) Equal) entries others ≡ slice_cmp cmp (keys_of entries) (keys_of others)
  order-of-keys cmp [] [] = refl
  order-of-keys cmp [] (other ∷ others) = refl
  order-of-keys cmp (entry ∷ entries) [] = refl
  order-of-keys cmp (entry ∷ entries) (other ∷ others) = λ i. ordering_then (then-equal (cmp entry.0 other.0) i) (order-of-keys cmp entries others i)

  pub partial-order-of-keys : (cmp : K → K → Option Ordering) (entries others : List (K × V))
      → slice_partial_cmp (λ p q. partial_ordering_then (cmp p.0 q.0) (Some Equal)) entries others ≡ slice_partial_cmp cmp (keys_of entries) (keys_of others)
  partial-order-of-keys cmp [] [] = refl
  partial-order-of-keys cmp [] (other ∷ others) = refl
  partial-order-of-keys cmp (entry ∷ entries) [] = refl
  partial-order-of-keys cmp (entry ∷ entries) (other ∷ others) = λ i. partial_ordering_then (then-some-equal (cmp entry.0 other.0) i) (partial-order-of-keys cmp entries others i)

  fed-items : (fed_key : K → fed.HashWrites) (entries : List (K × V)) → flat_map (λ p. fed_key p.0 ++ []) entries ≡ flat_map fed_key (keys_of entries)
  fed-items fed_key [] = refl
  fed-items fed_key (entry ∷ entries) = λ i. append-nil (fed_key entry.0) i ++ fed-items fed_key entries i

  pub fed-keys : (fed_key : K → fed.HashWrites) (entries : List (K × V)) → fed.slice (λ p. fed_key p.0 ++ []) entries ≡ fed.slice fed_key (keys_of entries)
  fed-keys fed_key entries = λ i. fed.usize (sym (length-map entries (λ entry. entry.0)) i) ++ fed-items fed_key entries i

  pub cloned-keys : (of_keys : K → K → Type 0) (of_values : V → V → Type 0) (entries clones : List (K × V))
      → AllZip (λ p q. of_keys p.0 q.0 × of_values p.1 q.1) entries clones → AllZip of_keys (keys_of entries) (keys_of clones)
  cloned-keys of_keys of_values [] [] all = tt
  cloned-keys of_keys of_values [] (clone ∷ clones) all = all
  cloned-keys of_keys of_values (entry ∷ entries) [] all = all
  cloned-keys of_keys of_values (entry ∷ entries) (clone ∷ clones) all = (all.0.0, cloned-keys of_keys of_values entries clones all.1)
