-- Branches, one list after the other.
use Rattle.art_steps.proofs.Names.{◌≡◌, ◌∙◌, ℕ, suc, ◌+◌, ◌<◌, ◌≤◌, List, [], ◌∷◌, ◌++◌, length, length-append, refl, sym, ap, subst, arith, append_assoc, map-append, IsAscendingFrom, key_bytes, OpaqueNodePtr, NodeArena, AllStandIn, Tree, Branches, NoBranch, Branch, branch_roots, root_of, branch_leaves, branch_places, leaves, places, AreSound, steps_of, branch_steps, BranchesSpan, join, HaveSmallestKinds}

module _ {H : Type 0} where
  -- one branch alone
  abbrev pub one_branch : ℕ → Tree H → Branches H
  one_branch byte tree = Branch byte tree NoBranch

  pub join_assoc : (a b c : Branches H) → join (join a b) c ≡ join a (join b c)
  join_assoc NoBranch b c = refl
  join_assoc (Branch byte tree others) b c = ap (Branch byte tree) (join_assoc others b c)

  pub roots-join : (a b : Branches H) → branch_roots (join a b) ≡ branch_roots a ++ branch_roots b
  roots-join NoBranch b = refl
  roots-join (Branch byte tree others) b = ap (λ rest. (byte, root_of tree) ∷ rest) (roots-join others b)

  pub leaves-join : (a b : Branches H) → branch_leaves (join a b) ≡ branch_leaves a ++ branch_leaves b
  leaves-join NoBranch b = refl
  leaves-join (Branch byte tree others) b = ap (λ rest. leaves tree ++ rest) (leaves-join others b) ∙ sym (append_assoc (leaves tree) (branch_leaves others) (branch_leaves b))

  pub places-join : (a b : Branches H) → branch_places (join a b) ≡ branch_places a ++ branch_places b
  places-join NoBranch b = refl
  places-join (Branch byte tree others) b = ap (λ rest. places tree ++ rest) (places-join others b) ∙ sym (append_assoc (places tree) (branch_places others) (branch_places b))

  pub steps-join : (start : ℕ) (a b : Branches H) → branch_steps start (join a b) ≡ branch_steps start a ++ branch_steps start b
  steps-join start NoBranch b = refl
  steps-join start (Branch byte tree others) b = ap (λ rest. steps_of byte start tree ++ rest) (steps-join start others b) ∙ sym (append_assoc (steps_of byte start tree) (branch_steps start others) (branch_steps start b))

  pub sound-join : (path : List ℕ) (a b : Branches H) → AreSound path a → AreSound path b → AreSound path (join a b)
  sound-join path NoBranch b first second = second
  sound-join path (Branch byte tree others) b first second = (first.0, sound-join path others b first.1 second)

  pub sound-split : (path : List ℕ) (a b : Branches H) → AreSound path (join a b) → AreSound path a × AreSound path b
  sound-split path NoBranch b both = (tt, both)
  sound-split path (Branch byte tree others) b both = let rest = sound-split path others b both.1 in ((both.0, rest.0), rest.1)

  pub span-join : (texts : List (List ℕ)) (low middle high : ℕ) (a b : Branches H) → BranchesSpan texts low a middle → BranchesSpan texts middle b high → BranchesSpan texts low (join a b) high
  span-join texts low middle high NoBranch b first second = let P : ℕ → Type 0 = λ at. BranchesSpan texts at b high in subst P first second
  span-join texts low middle high (Branch byte tree others) b first second = (first.0, first.1, span-join texts first.0 middle high others b first.2 second)

  pub bytes-join : (a b : Branches H) → key_bytes (branch_roots (join a b)) ≡ key_bytes (branch_roots a) ++ key_bytes (branch_roots b)
  bytes-join a b = ap key_bytes (roots-join a b) ∙ map-append (λ pair. pair.0) (branch_roots a) (branch_roots b)

  pub count-one : (a : Branches H) (byte : ℕ) (tree : Tree H) → length (branch_roots (join a (one_branch byte tree))) ≡ length (branch_roots a) + 1
  count-one a byte tree = ap length (roots-join a (one_branch byte tree)) ∙ length-append (branch_roots a) _

module _ {K V : Type 0} {P : ℕ} where
  module _ (text : K → List ℕ) (arena : NodeArena K V P) where
    pub stand-join : (a b : Branches (OpaqueNodePtr K V P)) → AllStandIn text arena a → AllStandIn text arena b → AllStandIn text arena (join a b)
    stand-join NoBranch b first second = second
    stand-join (Branch byte tree others) b first second = (first.0, stand-join others b first.1 second)

    pub stand-split : (a b : Branches (OpaqueNodePtr K V P)) → AllStandIn text arena (join a b) → AllStandIn text arena a × AllStandIn text arena b
    stand-split NoBranch b both = (tt, both)
    stand-split (Branch byte tree others) b both = let rest = stand-split others b both.1 in ((both.0, rest.0), rest.1)

  pub smallest_kinds-join : (a b : Branches (OpaqueNodePtr K V P)) → HaveSmallestKinds a → HaveSmallestKinds b → HaveSmallestKinds (join a b)
  smallest_kinds-join NoBranch b first second = second
  smallest_kinds-join (Branch byte tree others) b first second = (first.0, smallest_kinds-join others b first.1 second)

  pub smallest_kinds-split : (a b : Branches (OpaqueNodePtr K V P)) → HaveSmallestKinds (join a b) → HaveSmallestKinds a × HaveSmallestKinds b
  smallest_kinds-split NoBranch b both = (tt, both)
  smallest_kinds-split (Branch byte tree others) b both = let rest = smallest_kinds-split others b both.1 in ((both.0, rest.0), rest.1)

-- each byte is greater than those before it, at least `low`, and below `top`
abbrev pub AscendBelow : ℕ → List ℕ → ℕ → Type 0
AscendBelow low [] top = low ≤ top
AscendBelow low (byte ∷ bytes) top = (low ≤ byte) × AscendBelow (suc byte) bytes top

pub low-below : (low : ℕ) (bytes : List ℕ) (top : ℕ) → AscendBelow low bytes top → low + length bytes ≤ top
low-below low [] top h = omega arith
low-below low (byte ∷ bytes) top h = let rest = low-below (suc byte) bytes top h.1 in omega (arith, rest, h.0)

pub ascending-last : (low : ℕ) (bytes : List ℕ) (byte : ℕ) → AscendBelow low bytes byte → byte < 256 → IsAscendingFrom low (bytes ++ byte ∷ [])
ascending-last low [] byte h fits = (h, fits, tt)
ascending-last low (x ∷ bytes) byte h fits = let below = low-below (suc x) bytes byte h.1 in (h.0, omega (arith, below, fits), ascending-last (suc x) bytes byte h.1 fits)

pub below-last : (low : ℕ) (bytes : List ℕ) (byte top : ℕ) → AscendBelow low bytes byte → byte < top → AscendBelow low (bytes ++ byte ∷ []) top
below-last low [] byte top h lt = (h, omega (arith, lt))
below-last low (x ∷ bytes) byte top h lt = (h.0, below-last (suc x) bytes byte top h.1 lt)

-- lists that end with one element each are equal where the elements before it and the last ones are
pub last-same : {A : Type 0} (xs ys : List A) (x y : A) → xs ++ x ∷ [] ≡ ys ++ y ∷ [] → (xs ≡ ys) × (x ≡ y)
last-same [] [] x y e = (refl, cc)
last-same [] (b ∷ []) x y e = absurd (cc)
last-same [] (b ∷ c ∷ ys) x y e = absurd (cc)
last-same (a ∷ []) [] x y e = absurd (cc)
last-same (a ∷ c ∷ xs) [] x y e = absurd (cc)
last-same (a ∷ xs) (b ∷ ys) x y e =
    let first : a ≡ b = cc in
    let rest : xs ++ x ∷ [] ≡ ys ++ y ∷ [] = cc in
    let both = last-same xs ys x y rest in
    (let same = both.0 in cc, both.1)
