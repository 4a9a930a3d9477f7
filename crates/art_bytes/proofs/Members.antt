-- Members of a list with one more in front, of a part of a list and of its images, for proofs in crates above.
use Rattle.std.proofs.Common.{◌+◌, ◌++◌, All, length-append, get_or-append-add, subst, ◌≡◌, ◌≢◌, ◌<◌, ◌⊎◌, ◌∙◌, inl, inr, zero, suc, Bool, true, false, cond, List, [], ◌∷◌, length, map, filter, AllPairs, Contains, refl, sym, ap, arith}
use Rattle.std.proofs.lemmas.List.{get_or-map, length-map}
use Rattle.std.proofs.Math.ListN.{get_or-append}

module _ {X : Type 0} where
  pub first_there : (x y : X) (xs : List X) → x ≡ y → Contains (x ∷ xs) y
  first_there x y xs same = (0, omega arith, same)

  pub later_there : (x y : X) (xs : List X) → Contains xs y → Contains (x ∷ xs) y
  later_there x y xs later = (suc later.0, omega (arith, later.1), later.2)

  pub first_or_later : (x y : X) (xs : List X) → Contains (x ∷ xs) y → (x ≡ y) ⊎ Contains xs y
  first_or_later x y xs (zero, within, is) = inl is
  first_or_later x y xs (suc k, within, is) = inr (k, omega (arith, within), is)

  pub none_inside : (y : X) → Contains [] y → ⊥
  none_inside y inside = absurd (omega (arith, inside.1))

  -- the one member of a list of one
  pub the_one : (x y : X) → Contains (x ∷ []) y → x ≡ y
  the_one x y (zero, within, is) = is
  the_one x y (suc k, within, is) = absurd (omega (arith, within))

  -- what is in a part is in the whole, and passes the test; as `range`, `prefix`, `lower_bound` and their like test keys
  pub inside_part : (p : X → Bool) (xs : List X) (x : X) → Contains xs x → p x ≡ true → Contains (filter p xs) x
  inside_part p [] x inside passes = inside
  inside_part p (y ∷ ys) x inside passes = by_place (first_or_later y x ys inside) (p y) refl (λ later. inside_part p ys x later passes)
    where
      by_place : (y ≡ x) ⊎ Contains ys x → (t : Bool) → p y ≡ t → (Contains ys x → Contains (filter p ys) x) → Contains (cond t (y ∷ filter p ys) (filter p ys)) x
      by_place (inl same) true is rest = first_there y x (filter p ys) same
      by_place (inl same) false is rest = let wrong : true ≡ false = sym passes ∙ ap p (sym same) ∙ is in absurd (cc)
      by_place (inr later) true is rest = later_there y x (filter p ys) (rest later)
      by_place (inr later) false is rest = rest later

  pub part_inside : (p : X → Bool) (xs : List X) (x : X) → Contains (filter p xs) x → Contains xs x × (p x ≡ true)
  part_inside p [] x inside = absurd (none_inside x inside)
  part_inside p (y ∷ ys) x inside = by_test (p y) refl inside (part_inside p ys x)
    where
      by_place : (y ≡ x) ⊎ Contains (filter p ys) x → p y ≡ true → (Contains (filter p ys) x → Contains ys x × (p x ≡ true)) → Contains (y ∷ ys) x × (p x ≡ true)
      by_place (inl same) is rest = (first_there y x ys same, ap p (sym same) ∙ is)
      by_place (inr later) is rest = let part = rest later in (later_there y x ys part.0, part.1)

      by_test : (t : Bool) → p y ≡ t → Contains (cond t (y ∷ filter p ys) (filter p ys)) x → (Contains (filter p ys) x → Contains ys x × (p x ≡ true)) → Contains (y ∷ ys) x × (p x ≡ true)
      by_test true is inside rest = by_place (first_or_later y x (filter p ys) inside) is rest
      by_test false is inside rest = let part = rest inside in (later_there y x ys part.0, part.1)

-- what holds of all of two lists in a row holds of all of each
module _ {X : Type 0} (Q : X → Type 0) (xs ys : List X) where
  pub all_left : All Q (xs ++ ys) → All Q xs
  all_left all k d inside = subst Q (get_or-append xs ys d k inside) (all k d (omega (arith, length-append xs ys)))

  pub all_right : All Q (xs ++ ys) → All Q ys
  all_right all k d inside = subst Q (get_or-append-add xs ys k d) (all (length xs + k) d (omega (arith, length-append xs ys)))

module _ {X Y : Type 0} (f : X → Y) where
  pub image_inside : (xs : List X) (x : X) (y : Y) → f x ≡ y → Contains xs x → Contains (map f xs) y
  image_inside [] x y same inside = absurd (none_inside x inside)
  image_inside (z ∷ zs) x y same inside = by_place (first_or_later z x zs inside) (image_inside zs x y same)
    where
      by_place : (z ≡ x) ⊎ Contains zs x → (Contains zs x → Contains (map f zs) y) → Contains (f z ∷ map f zs) y
      by_place (inl first) rest = first_there (f z) y (map f zs) (ap f first ∙ same)
      by_place (inr later) rest = later_there (f z) y (map f zs) (rest later)

  pub inside_image : (xs : List X) (y : Y) → Contains (map f xs) y → (x : X) × Contains xs x × (f x ≡ y)
  inside_image [] y inside = absurd (none_inside y inside)
  inside_image (z ∷ zs) y inside = by_place (first_or_later (f z) y (map f zs) inside) (inside_image zs y)
    where
      by_place : (f z ≡ y) ⊎ Contains (map f zs) y → (Contains (map f zs) y → (x : X) × Contains zs x × (f x ≡ y)) → (x : X) × Contains (z ∷ zs) x × (f x ≡ y)
      by_place (inl same) rest = (z, first_there z z zs refl, same)
      by_place (inr later) rest = let from = rest later in (from.0, later_there z from.0 zs from.1, from.2)

  -- images that differ pair by pair are those of elements that do
  pub images_differ : (xs : List X) → AllPairs (λ a b. a ≢ b) (map f xs) → AllPairs (λ a b. f a ≢ f b) xs
  images_differ xs pairs i j d before within =
      let there : j < length (map f xs) = omega (arith, within, length-map xs f) in
      let first : i < length xs = omega (arith, before, within) in
      rw (← get_or-map f xs i d (f d) first, ← get_or-map f xs j d (f d) within) (pairs i j (f d) before there)
