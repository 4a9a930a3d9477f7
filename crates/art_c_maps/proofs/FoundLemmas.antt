-- An entry that was found, or removed, at an end of a list.
use Rattle.std.proofs.Common.{◌≡◌, ◌≤◌, ◌∙◌, Bool, true, false, filter, ◌-◌, List, [], ◌∷◌, ◌++◌, length, drop, reverse, take, map, Option, Some, None, IfSome, IfNone, refl, sym, ap, arith, length-append}
use Rattle.std.specs.Option.{MatchOption, option_map}
use Rattle.std.specs.Prelude.{slice_get, if◌then◌else◌}
use Rattle.std.specs.Borrow.{Bor}
use Rattle.std.proofs.lemmas.List.{length-map, map-append, reverse-append}
use Rattle.std.proofs.Math.Seq.{take-append_seam}
use Rattle.std.proofs.lemmas.List.Sums.{count_by-le-length, length-filter}
use Rattle.std.proofs.lemmas.Option.{slice_get-map}
use Rattle.art_c_maps.specs.Batch.{toward}
use Rattle.art_c_maps.specs.Entries.{first_of, last_of}
use Rattle.art_c_maps.proofs.InBytesLemmas.{entry_read, reading}

-- the last of a list is what it ends in
last-is : {X : Type 0} (front : List X) (x : X) → slice_get (front ++ x ∷ []) (length (front ++ x ∷ []) - 1) ≡ Some x
last-is {X} front x =
    let long : length (front ++ x ∷ []) - 1 ≡ length front = omega (arith, length-append front (x ∷ [])) in
    ap (slice_get (front ++ x ∷ [])) long ∙ get-last front
  where
    get-last : (ys : List X) → slice_get (ys ++ x ∷ []) (length ys) ≡ Some x
    get-last [] = refl
    get-last (y ∷ ys) = get-last ys

module _ {K V : Type 0} where
  -- behind references
  abbrev pub now_of : Bor K × Bor V → K × V
  now_of item = (item.0.now, item.1.now)

  -- what an iterator yields from an end is there
  pub first-yielded : (found : Option (Bor K × Bor V)) (all left : List (K × V)) (Empty : Type 0)
      → MatchOption found ((all ≡ []) × Empty) (λ item. all ≡ now_of item ∷ left) → option_map now_of found ≡ first_of all
  first-yielded None all left Empty yields = sym (ap first_of (yields.0))
  first-yielded (Some item) all left Empty yields = sym (ap first_of yields)

  pub last-yielded : (found : Option (Bor K × Bor V)) (all left : List (K × V)) (Empty : Type 0)
      → MatchOption found ((all ≡ []) × Empty) (λ item. all ≡ left ++ now_of item ∷ []) → option_map now_of found ≡ last_of all
  last-yielded None all left Empty yields = sym (ap last_of (yields.0))
  last-yielded (Some item) all left Empty yields = sym (ap last_of yields ∙ last-is left (now_of item))

  -- what is removed at an end is there
  pub removed-first : (removed : Option (K × V)) (before after : List (K × V)) → IfSome removed (λ entry. before ≡ entry ∷ after)
      → IfNone removed (before ≡ []) → IfNone removed (after ≡ before) → (removed ≡ first_of before) × (after ≡ drop 1 before)
  removed-first None before after some none same = (rw none refl, rw (same, none) refl)
  removed-first (Some entry) before after some none same = (rw some refl, rw some refl)

  pub removed-last : (removed : Option (K × V)) (before after : List (K × V)) → IfSome removed (λ entry. before ≡ after ++ entry ∷ [])
      → IfNone removed (before ≡ []) → IfNone removed (after ≡ before) → (removed ≡ last_of before) × (after ≡ take (length before - 1) before)
  removed-last None before after some none same = (rw none refl, rw (same, none) refl)
  removed-last (Some entry) before after some none same =
      let long : length (after ++ entry ∷ []) - 1 ≡ length after = omega (arith, length-append after (entry ∷ [])) in
      (sym (ap last_of some ∙ last-is after entry), rw (some, long, take-append_seam after (entry ∷ [])) refl)

-- lists in reverse
reverse-cons : {X : Type 0} (x : X) (xs : List X) → reverse (x ∷ xs) ≡ reverse xs ++ x ∷ []
reverse-cons x xs = reverse-append (x ∷ []) xs

map-reverse : {X Y : Type 0} (f : X → Y) (xs : List X) → reverse (map f xs) ≡ map f (reverse xs)
map-reverse f [] = refl
map-reverse f (x ∷ xs) =
    reverse-cons (f x) (map f xs) ∙ ap (λ ys. ys ++ f x ∷ []) (map-reverse f xs) ∙ sym (map-append f (reverse xs) (x ∷ [])) ∙ ap (map f) (sym (reverse-cons x xs))

-- the same of entries as they are read
module _ {K J V : Type 0} (read : K → J) where
  pub first-read : (found : Option (K × V)) (picked : List (K × V)) → found ≡ first_of picked → option_map (entry_read read) found ≡ first_of (reading read picked)
  first-read found picked is = ap (option_map (entry_read read)) is ∙ sym (slice_get-map (entry_read read) picked 0)

  pub last-read : (found : Option (K × V)) (picked : List (K × V)) → found ≡ last_of picked → option_map (entry_read read) found ≡ last_of (reading read picked)
  last-read found picked is =
      ap (option_map (entry_read read)) is ∙ sym (slice_get-map (entry_read read) picked (length picked - 1))
      ∙ ap (λ n. slice_get (reading read picked) (n - 1)) (sym (length-map picked (entry_read read)))

  -- behind references
  pub now-read : (found : Option (Bor K × Bor V)) → option_map (λ item. (read item.0.now, item.1.now)) found ≡ option_map (entry_read read) (option_map now_of found)
  now-read None = refl
  now-read (Some item) = refl

  -- the entries in a direction
  pub toward-read : (backward : Bool) (entries : List (K × V)) → toward backward (reading read entries) ≡ reading read (toward backward entries)
  toward-read true entries = map-reverse (entry_read read) entries
  toward-read false entries = refl

  pub one-toward : (backward : Bool) (all left : List (K × V)) (x : K × V) → toward backward all ≡ x ∷ toward backward left
      → toward backward (reading read all) ≡ entry_read read x ∷ toward backward (reading read left)
  one-toward backward all left x is =
      toward-read backward all ∙ ap (reading read) is ∙ ap (λ es. entry_read read x ∷ es) (sym (toward-read backward left))

  pub none-toward : (backward : Bool) (all : List (K × V)) → toward backward all ≡ [] → toward backward (reading read all) ≡ []
  none-toward backward all is = toward-read backward all ∙ ap (reading read) is

-- no more pass a test than there are
pub filter-fewer : {X : Type 0} (p : X → Bool) (xs passed : List X) → passed ≡ filter p xs → length passed ≤ length xs
filter-fewer p xs passed same = omega (arith, ap length same, length-filter p xs, count_by-le-length p xs)

-- the choice that is made
pub where-true : {X : Type 0} (t : Bool) (x y : X) → t ≡ true → x ≡ (if t then x else y)
where-true true x y is = refl
where-true false x y is = absurd (cc)

pub where-false : {X : Type 0} (t : Bool) (x y : X) → t ≡ false → y ≡ (if t then x else y)
where-false true x y is = absurd (cc)
where-false false x y is = refl

-- what holds anyway holds where nothing is found
pub none-always : {X : Type 0} (found : Option X) (P : Type 0) → P → IfNone found P
none-always None P holds = holds
none-always (Some x) P holds = tt
