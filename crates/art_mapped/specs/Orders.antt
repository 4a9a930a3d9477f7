-- The order of each domain: numbers by size, lists and tuples by the first part that differs.
use Rattle.std.specs.Prelude.{◌≡◌, ℕ, ◌<◌, ℤ, ◌<ℤ◌, ◌⊎◌, List, ◌∷◌, ◌++◌, All}
use Rattle.std.specs.Ordering.{MatchOrdering}
use Rattle.std.specs.declared.cmp.Ordering.{Ordering}
use Rattle.std.specs.declared.cmp.Ordering.TheVariants.{Less, Equal, Greater}

-- two numbers are in this order by their size
abbrev pub BySize : Ordering → ℕ → ℕ → Type 0
BySize order x y = MatchOrdering order (x < y) (x ≡ y) (y < x)

-- the same for signed numbers
abbrev pub BySignedSize : Ordering → ℤ → ℤ → Type 0
BySignedSize order x y = MatchOrdering order (x <ℤ y) (x ≡ y) (y <ℤ x)

-- two lists have the same items up to one, and there the item of the first list is less
pub record FirstDiffers {E : Type 0} (is_less : E → E → Type 0) (xs ys : List E) : Type 0 where
  pub shared : List E
  pub lesser : E
  pub greater : E
  pub after_lesser : List E
  pub after_greater : List E
  pub first : xs ≡ shared ++ lesser ∷ after_lesser
  pub second : ys ≡ shared ++ greater ∷ after_greater
  pub less : is_less lesser greater

-- the first list ends where the second goes on
pub record EndsFirst {E : Type 0} (xs ys : List E) : Type 0 where
  pub next : E
  pub rest : List E
  pub longer : ys ≡ xs ++ next ∷ rest

-- two lists of one length are in this order by the first item that differs
abbrev pub ByFirstItem : {E : Type 0} → (E → E → Type 0) → Ordering → List E → List E → Type 0
ByFirstItem is_less order xs ys = MatchOrdering order (FirstDiffers is_less xs ys) (xs ≡ ys) (FirstDiffers is_less ys xs)

-- two lists are in this order by the first item that differs, and a proper prefix is less
abbrev pub ByFirstItemOrEnd : {E : Type 0} → (E → E → Type 0) → Ordering → List E → List E → Type 0
ByFirstItemOrEnd is_less order xs ys =
    MatchOrdering order (FirstDiffers is_less xs ys ⊎ EndsFirst xs ys) (xs ≡ ys) (FirstDiffers is_less ys xs ⊎ EndsFirst ys xs)

-- of several comparisons, the first that is not equal has this answer
pub record FirstUnequalIs (order : Ordering) (parts : List Ordering) : Type 0 where
  pub equal : List Ordering
  pub later : List Ordering
  pub are_equal : All (λ part. part ≡ Equal) equal
  pub first : parts ≡ equal ++ order ∷ later

-- a comparison has the answer of the first part that is not equal, and is equal where all parts are
abbrev pub ByFirstPart : Ordering → List Ordering → Type 0
ByFirstPart order parts = MatchOrdering order (FirstUnequalIs Less parts) (All (λ part. part ≡ Equal) parts) (FirstUnequalIs Greater parts)
