-- Values of a tuple and values of its nested pairs.
use Rattle.std.proofs.Common.{◌≡◌, sym, subst}
use Rattle.std.proofs.Math.Logic.{∥∥₁_map}
use Rattle.art_mapped.specs.Mapping.{StandsForSome}

pub some_pairs : {D P T : Type 0} (pairs : D → P) (is_in_domain : P → Type 0) (stands_for : T → P → Type 0) (text : T)
    → StandsForSome (λ value. is_in_domain (pairs value)) (λ t value. stands_for t (pairs value)) text → StandsForSome is_in_domain stands_for text
some_pairs pairs is_in_domain stands_for text some = ∥∥₁_map some (λ of. (pairs of.0, of.1, of.2))

pub some_tuple : {D P T : Type 0} (pairs : D → P) (flat : P → D) → ((value : P) → pairs (flat value) ≡ value) → (is_in_domain : P → Type 0) (stands_for : T → P → Type 0) (text : T)
    → StandsForSome is_in_domain stands_for text → StandsForSome (λ value. is_in_domain (pairs value)) (λ t value. stands_for t (pairs value)) text
some_tuple {P = P} pairs flat back is_in_domain stands_for text some =
    ∥∥₁_map some (λ of.
    let Is : P → Type 0 = λ value. is_in_domain value in
    let Stands : P → Type 0 = λ value. stands_for text value in
    (flat of.0, subst Is (sym (back of.0)) of.1, subst Stands (sym (back of.0)) of.2))
