-- Doubly linked lists by keys, and the replacement of a part.
use Rattle.std.proofs.Common.{◌≡◌, ◌≢◌, ◌∙◌, ℕ, List, [], ◌∷◌, ◌++◌, Option, Some, None, refl, sym, ap, subst, slice_get}
use Rattle.std.specs.List.{AllByRecursion}
use Rattle.std.proofs.lemmas.List.Elements.{All-from_recursion, recursion_from_All}
use Rattle.std.proofs.lemmas.Option.{same_Some}
use Rattle.art_arena.specs.Links.{AreDistinct}

-- the first of a list, or else what comes after it
abbrev pub first_or : List ℕ → Option ℕ → Option ℕ
first_or [] after = after
first_or (key ∷ keys) after = Some key

-- the last of a list, or else what comes before it
abbrev pub last_or : Option ℕ → List ℕ → Option ℕ
last_or before [] = before
last_or before (key ∷ keys) = last_or (Some key) keys

first_or-append : (xs ys : List ℕ) (after : Option ℕ) → first_or (xs ++ ys) after ≡ first_or xs (first_or ys after)
first_or-append [] ys after = refl
first_or-append (x ∷ xs) ys after = refl

pub last_or-push : (before : Option ℕ) (xs : List ℕ) (x : ℕ) → last_or before (xs ++ x ∷ []) ≡ Some x
last_or-push before [] x = refl
last_or-push before (y ∷ xs) x = last_or-push (Some y) xs x

pub first_or-slice_get : (xs : List ℕ) → first_or xs None ≡ slice_get xs 0
first_or-slice_get [] = refl
first_or-slice_get (x ∷ xs) = refl

pub Each-append : (Q : ℕ → Type 0) (xs ys : List ℕ) → AllByRecursion Q xs → AllByRecursion Q ys → AllByRecursion Q (xs ++ ys)
Each-append Q [] ys front back = back
Each-append Q (x ∷ xs) ys front back = (front.0, Each-append Q xs ys front.1 back)

pub Each-split : (Q : ℕ → Type 0) (xs ys : List ℕ) → AllByRecursion Q (xs ++ ys) → AllByRecursion Q xs × AllByRecursion Q ys
Each-split Q [] ys each = (tt, each)
Each-split Q (x ∷ xs) ys each = let parts = Each-split Q xs ys each.1 in ((each.0, parts.0), parts.1)

pub Each-weaker : (Q R : ℕ → Type 0) → ((x : ℕ) → Q x → R x) → (xs : List ℕ) → AllByRecursion Q xs → AllByRecursion R xs
Each-weaker Q R weaker [] each = tt
Each-weaker Q R weaker (x ∷ xs) each = (weaker x each.0, Each-weaker Q R weaker xs each.1)

-- no member is twice in the list, by recursion
abbrev pub Distinct : List ℕ → Type 0
Distinct [] = Unit {0}
Distinct (x ∷ xs) = AllByRecursion (λ y. y ≢ x) xs × Distinct xs

pub Distinct-from : (xs : List ℕ) → AreDistinct xs → Distinct xs
Distinct-from [] distinct = tt
Distinct-from (x ∷ xs) distinct = (recursion_from_All _ xs distinct.0, Distinct-from xs distinct.1)

pub AreDistinct-from : (xs : List ℕ) → Distinct xs → AreDistinct xs
AreDistinct-from [] distinct = tt
AreDistinct-from (x ∷ xs) distinct = (All-from_recursion _ xs distinct.0, AreDistinct-from xs distinct.1)

pub Distinct-front : (xs ys : List ℕ) → Distinct (xs ++ ys) → Distinct xs
Distinct-front [] ys distinct = tt
Distinct-front (x ∷ xs) ys distinct = ((Each-split _ xs ys distinct.0).0, Distinct-front xs ys distinct.1)

pub Distinct-back : (xs ys : List ℕ) → Distinct (xs ++ ys) → Distinct ys
Distinct-back [] ys distinct = distinct
Distinct-back (x ∷ xs) ys distinct = Distinct-back xs ys distinct.1

-- a member that is nowhere else may be inserted
pub Distinct-insert : (xs ys : List ℕ) (this : ℕ) → AllByRecursion (λ k. k ≢ this) (xs ++ ys) → Distinct (xs ++ ys) → Distinct (xs ++ this ∷ ys)
Distinct-insert [] ys this apart distinct = (apart, distinct)
Distinct-insert (x ∷ xs) ys this apart distinct =
    let parts = Each-split (λ y. y ≢ x) xs ys distinct.0 in
    (Each-append (λ y. y ≢ x) xs (this ∷ ys) parts.0 (λ same. apart.0 (sym same), parts.1), Distinct-insert xs ys this apart.1 distinct.1)

-- a member may be removed, and is none of the others
pub Distinct-remove : (xs ys : List ℕ) (this : ℕ) → Distinct (xs ++ this ∷ ys) → Distinct (xs ++ ys) × AllByRecursion (λ k. k ≢ this) (xs ++ ys)
Distinct-remove [] ys this distinct = (distinct.1, distinct.0)
Distinct-remove (x ∷ xs) ys this distinct =
    let parts = Each-split (λ y. y ≢ x) xs (this ∷ ys) distinct.0 in
    let rest = Distinct-remove xs ys this distinct.1 in
    ((Each-append (λ y. y ≢ x) xs ys parts.0 parts.1.1, rest.0), (λ same. parts.1.0 (sym same), rest.1))

-- what comes after a part is no member of it
first_or-apart : (xs ys : List ℕ) → Distinct (xs ++ ys) → AllByRecursion (λ k. first_or ys None ≢ Some k) xs
first_or-apart [] ys distinct = tt
first_or-apart (x ∷ xs) ys distinct = (not_first ys (Each-split (λ y. y ≢ x) xs ys distinct.0).1, first_or-apart xs ys distinct.1)
  where
    not_first : (ys : List ℕ) → AllByRecursion (λ y. y ≢ x) ys → first_or ys None ≢ Some x
    not_first [] apart = λ same. cc
    not_first (y ∷ ys) apart = λ same. apart.0 (same_Some _ _ same)

-- nor is what comes before it
last_or-apart : (before : Option ℕ) (xs ys : List ℕ) → AllByRecursion (λ k. before ≢ Some k) ys → Distinct (xs ++ ys) → AllByRecursion (λ k. last_or before xs ≢ Some k) ys
last_or-apart before [] ys apart distinct = apart
last_or-apart before (x ∷ xs) ys apart distinct =
    last_or-apart (Some x) xs ys (Each-weaker (λ y. y ≢ x) (λ k. Some x ≢ Some k) (λ y differ same. differ (sym (same_Some _ _ same))) ys (Each-split (λ y. y ≢ x) xs ys distinct.0).1) distinct.1

last_or-differs : (x y : ℕ) (ys : List ℕ) → AllByRecursion (λ k. k ≢ x) (y ∷ ys) → last_or (Some y) ys ≢ Some x
last_or-differs x y [] apart = λ same. apart.0 (same_Some _ _ same)
last_or-differs x y (z ∷ ys) apart = last_or-differs x z ys apart.1

-- what holds of each member holds of the last
pub last_or-each : (Q : ℕ → Type 0) (before : Option ℕ) (xs : List ℕ) (k : ℕ) → (before ≡ Some k → Q k) → AllByRecursion Q xs → last_or before xs ≡ Some k → Q k
last_or-each Q before [] k outside each last = outside last
last_or-each Q before (x ∷ xs) k outside each last = last_or-each Q (Some x) xs k (λ same. subst Q (same_Some _ _ same) each.0) each.1 last

pub first_or-each : (Q : ℕ → Type 0) (xs : List ℕ) (k : ℕ) → AllByRecursion Q xs → first_or xs None ≡ Some k → Q k
first_or-each Q [] k each first = cc
first_or-each Q (x ∷ xs) k each first = subst Q (same_Some _ _ first) each.0

-- each member names its neighbours, the first one this before it and the last one this after it
abbrev pub Linked : (next previous : ℕ → Option ℕ) → Option ℕ → List ℕ → Option ℕ → Type 0
Linked next previous before [] after = Unit {0}
Linked next previous before (key ∷ keys) after = (previous key ≡ before) × (next key ≡ first_or keys after) × Linked next previous (Some key) keys after

module _ (next previous : ℕ → Option ℕ) where
  pub Linked-split : (before : Option ℕ) (xs ys : List ℕ) (after : Option ℕ) → Linked next previous before (xs ++ ys) after → Linked next previous before xs (first_or ys after) × Linked next previous (last_or before xs) ys after
  Linked-split before [] ys after linked = (tt, linked)
  Linked-split before (x ∷ xs) ys after linked =
      let rest = Linked-split (Some x) xs ys after linked.2 in
      ((linked.0, linked.1 ∙ first_or-append xs ys after, rest.0), rest.1)

  pub Linked-append : (before : Option ℕ) (xs ys : List ℕ) (after : Option ℕ) → Linked next previous before xs (first_or ys after) → Linked next previous (last_or before xs) ys after → Linked next previous before (xs ++ ys) after
  Linked-append before [] ys after front back = back
  Linked-append before (x ∷ xs) ys after front back =
      (front.0, front.1 ∙ sym (first_or-append xs ys after), Linked-append (Some x) xs ys after front.2 back)

  -- whoever is before another has a next
  pub next-of_prefix : (before : Option ℕ) (xs : List ℕ) (last : ℕ) → Linked next previous before xs (Some last) → AllByRecursion (λ k. next k ≢ None) xs
  next-of_prefix before [] last linked = tt
  next-of_prefix before (x ∷ []) last linked = ((λ ends. let e : Some last ≡ None = sym linked.1 ∙ ends in cc), tt)
  next-of_prefix before (x ∷ y ∷ ys) last linked = ((λ ends. let e : Some y ≡ None = sym linked.1 ∙ ends in cc), next-of_prefix (Some x) (y ∷ ys) last linked.2)

  -- whoever is after another has a previous
  pub previous-of_back : (first : ℕ) (xs : List ℕ) (after : Option ℕ) → Linked next previous (Some first) xs after → AllByRecursion (λ k. previous k ≢ None) xs
  previous-of_back first [] after linked = tt
  previous-of_back first (x ∷ xs) after linked = ((λ begins. let e : Some first ≡ None = sym linked.0 ∙ begins in cc), previous-of_back x xs after linked.2)

  -- a leaf that names no neighbour is not in the list of another
  pub unlinked_is_apart : (xs ys : List ℕ) (sibling this : ℕ) → Linked next previous None (xs ++ sibling ∷ ys) None → previous this ≡ None → next this ≡ None → this ≢ sibling → AllByRecursion (λ k. k ≢ this) (xs ++ sibling ∷ ys)
  unlinked_is_apart xs ys sibling this linked no_previous no_next apart =
      let parts = Linked-split None xs (sibling ∷ ys) None linked in
      let front = Each-weaker (λ k. next k ≢ None) (λ k. k ≢ this) (λ k has same. has (ap next same ∙ no_next)) xs (next-of_prefix None xs sibling parts.0) in
      let back = Each-weaker (λ k. previous k ≢ None) (λ k. k ≢ this) (λ k has same. has (ap previous same ∙ no_previous)) ys (previous-of_back sibling ys None parts.1.2) in
      Each-append (λ k. k ≢ this) xs (sibling ∷ ys) front (λ same. apart (sym same), back)

module _ (next previous next' previous' : ℕ → Option ℕ) where
  Linked-same : (before : Option ℕ) (xs : List ℕ) (after : Option ℕ) → AllByRecursion (λ k. (next' k ≡ next k) × (previous' k ≡ previous k)) xs → Linked next previous before xs after → Linked next' previous' before xs after
  Linked-same before [] after same linked = tt
  Linked-same before (x ∷ xs) after same linked = (same.0.1 ∙ linked.0, same.0.0 ∙ linked.1, Linked-same (Some x) xs after same.1 linked.2)

  -- a part whose last member has another next now
  Linked-front : (before : Option ℕ) (xs : List ℕ) (after after' : Option ℕ) → Distinct xs → AllByRecursion (λ k. previous' k ≡ previous k) xs → AllByRecursion (λ k. last_or before xs ≢ Some k → next' k ≡ next k) xs → ((k : ℕ) → last_or before xs ≡ Some k → next' k ≡ after') → Linked next previous before xs after → Linked next' previous' before xs after'
  Linked-front before [] after after' distinct same_previous same_next last linked = tt
  Linked-front before (x ∷ []) after after' distinct same_previous same_next last linked = (same_previous.0 ∙ linked.0, last x refl, tt)
  Linked-front before (x ∷ y ∷ ys) after after' distinct same_previous same_next last linked =
      (same_previous.0 ∙ linked.0, same_next.0 (last_or-differs x y ys distinct.0) ∙ linked.1, Linked-front (Some x) (y ∷ ys) after after' distinct.1 same_previous.1 same_next.1 last linked.2)

  -- a part whose first member has another previous now
  Linked-back : (before before' : Option ℕ) (ys : List ℕ) (after : Option ℕ) → Distinct ys → AllByRecursion (λ k. next' k ≡ next k) ys → AllByRecursion (λ k. first_or ys None ≢ Some k → previous' k ≡ previous k) ys → ((k : ℕ) → first_or ys None ≡ Some k → previous' k ≡ before') → Linked next previous before ys after → Linked next' previous' before' ys after
  Linked-back before before' [] after distinct same_next same_previous first linked = tt
  Linked-back before before' (y ∷ ys) after distinct same_next same_previous first linked =
      (first y refl, same_next.0 ∙ linked.1, Linked-same (Some y) ys after (rest ys distinct.0 same_next.1 same_previous.1) linked.2)
    where
      rest : (zs : List ℕ) → AllByRecursion (λ k. k ≢ y) zs → AllByRecursion (λ k. next' k ≡ next k) zs → AllByRecursion (λ k. Some y ≢ Some k → previous' k ≡ previous k) zs → AllByRecursion (λ k. (next' k ≡ next k) × (previous' k ≡ previous k)) zs
      rest [] apart nexts previouses = tt
      rest (z ∷ zs) apart nexts previouses = ((nexts.0, previouses.0 (λ same. apart.0 (sym (same_Some _ _ same)))), rest zs apart.1 nexts.1 previouses.1)

  -- a part in the middle of a list is replaced: its neighbours name the new part, and no other link
  -- changed but at members that are removed
  pub Linked-exchanged : (Apart : ℕ → Type 0) (front gone part back : List ℕ)
      → Distinct (front ++ back)
      → AllByRecursion Apart front
      → AllByRecursion Apart back
      → ((k : ℕ) → last_or None front ≡ Some k → next' k ≡ first_or part (first_or back None))
      → ((k : ℕ) → first_or back None ≡ Some k → previous' k ≡ last_or (last_or None front) part)
      → ((k : ℕ) → Apart k → last_or None front ≢ Some k → next' k ≡ next k)
      → ((k : ℕ) → Apart k → first_or back None ≢ Some k → previous' k ≡ previous k)
      → Linked next' previous' (last_or None front) part (first_or back None)
      → Linked next previous None (front ++ (gone ++ back)) None
      → Linked next' previous' None (front ++ (part ++ back)) None
  Linked-exchanged Apart front gone part back distinct front_apart back_apart front_next back_previous other_next other_previous inside linked =
      let old = Linked-split next previous None front (gone ++ back) None linked in
      let old_back = (Linked-split next previous (last_or None front) gone back None old.1).1 in
      let front_previous = both front (first_or-apart front back distinct) front_apart (λ k apart differs. other_previous k differs apart) in
      let back_next = both back (last_or-apart None front back (none_apart back) distinct) back_apart (λ k apart differs. other_next k differs apart) in
      let new_front = Linked-front None front (first_or (gone ++ back) None) (first_or part (first_or back None)) (Distinct-front front back distinct) front_previous (Each-weaker Apart (λ k. last_or None front ≢ Some k → next' k ≡ next k) (λ k apart. other_next k apart) front front_apart) front_next old.0 in
      let new_back = Linked-back (last_or (last_or None front) gone) (last_or (last_or None front) part) back None (Distinct-back front back distinct) back_next (Each-weaker Apart (λ k. first_or back None ≢ Some k → previous' k ≡ previous k) (λ k apart. other_previous k apart) back back_apart) back_previous old_back in
      Linked-append next' previous' None front (part ++ back) None
      (subst (λ after. Linked next' previous' None front after) (sym (first_or-append part back None)) new_front)
      (Linked-append next' previous' (last_or None front) part back None inside new_back)
    where
      none_apart : (xs : List ℕ) → AllByRecursion (λ k. None ≢ Some k) xs
      none_apart [] = tt
      none_apart (x ∷ xs) = ((λ same. cc), none_apart xs)

      both : {Q R : ℕ → Type 0} (xs : List ℕ) → AllByRecursion Q xs → AllByRecursion Apart xs → ((k : ℕ) → Q k → Apart k → R k) → AllByRecursion R xs
      both [] qs aparts follows = tt
      both (x ∷ xs) qs aparts follows = (follows x qs.0 aparts.0, both xs qs.1 aparts.1 follows)
