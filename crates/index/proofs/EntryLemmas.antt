-- The entries of a map with one more, and the values of entries.
use Rattle.std.proofs.Common.{◌≡◌, ◌≢◌, ◌⊎◌, ◌∙◌, inl, inr, ◌<◌, Bool, true, false, cond, List, [], ◌∷◌, ◌++◌, length, map, filter, All, AllPairs, Contains, refl, sym, ap, subst, arith, get_or}
use Rattle.std.proofs.lemmas.List.{length-map, get_or-map, map-append}
use Rattle.std.proofs.lemmas.List.Elements.{All-append, All-cons, All-head, All-tail, Contains-append_cases, Contains-append_left, Contains-append_right}
use Rattle.std.specs.BTreeMap.{insert_entry}
use Rattle.std.specs.Ordering.{match_ordering}
use Rattle.std.specs.declared.cmp.Ordering.{Ordering}
use Rattle.std.specs.declared.cmp.Ordering.TheVariants.{Less, Equal, Greater}
use Rattle.art_bytes.proofs.Members.{all_left, all_right, first_or_later, first_there, later_there}

-- the values of entries
abbrev pub values_of : {K V : Type 0} → List (K × V) → List V
values_of entries = map (λ entry. entry.1) entries

module _ {K V : Type 0} (entry : K × V) where
  -- more are the entries and this one, between others
  pub record IsPut (entries more : List (K × V)) : Type 0 where
    pub before : List (K × V)
    pub after : List (K × V)
    pub old : entries ≡ before ++ after
    pub new : more ≡ before ++ entry ∷ after

  -- a map with a new key has the entry so
  pub put_between : (order : K → K → Ordering) (entries : List (K × V)) → All (λ other. order entry.0 other.0 ≢ Equal) entries → IsPut entries (insert_entry order entries entry.0 entry.1)
  put_between order [] apart = record { before = []; after = []; old = refl; new = refl }
  put_between order (other ∷ others) apart = by_order (order entry.0 other.0) (All-head Apart other others apart) (put_between order others (All-tail Apart other others apart))
    where
      Apart : K × V → Type 0
      Apart other = order entry.0 other.0 ≢ Equal

      by_order : (o : Ordering) → o ≢ Equal → IsPut others (insert_entry order others entry.0 entry.1)
          → IsPut (other ∷ others) (match_ordering o ((entry.0, entry.1) ∷ other ∷ others) ((other.0, entry.1) ∷ others) (other ∷ insert_entry order others entry.0 entry.1))
      by_order Less differ rest = record { before = []; after = other ∷ others; old = refl; new = refl }
      by_order Equal differ rest = absurd (differ refl)
      by_order Greater differ rest = record { before = other ∷ rest.before; after = rest.after; old = ap (λ all. other ∷ all) rest.old; new = ap (λ all. other ∷ all) rest.new }

  module _ (entries more : List (K × V)) (put : IsPut entries more) where
    abbrev value : K × V → V
    value e = e.1

    old_values : values_of entries ≡ values_of put.before ++ values_of put.after
    old_values = ap values_of put.old ∙ map-append value put.before put.after

    new_values : values_of more ≡ values_of put.before ++ entry.1 ∷ values_of put.after
    new_values = ap values_of put.new ∙ map-append value put.before (entry ∷ put.after)

    -- its value is there, and those of before
    pub put_there : (v : V) → Contains (values_of entries) v ⊎ (entry.1 ≡ v) → Contains (values_of more) v
    put_there v is = subst (λ values. Contains values v) (sym new_values) (by_side is)
      where
        by_side : Contains (values_of entries) v ⊎ (entry.1 ≡ v) → Contains (values_of put.before ++ entry.1 ∷ values_of put.after) v
        by_side (inl old) = elim (Contains-append_cases (values_of put.before) (values_of put.after) v (subst (λ values. Contains values v) old_values old)) [
          | inl first ↦ Contains-append_left (values_of put.before) (entry.1 ∷ values_of put.after) v first
          | inr later ↦ Contains-append_right (values_of put.before) (entry.1 ∷ values_of put.after) v (later_there entry.1 v (values_of put.after) later)
        ]
        by_side (inr same) = Contains-append_right (values_of put.before) (entry.1 ∷ values_of put.after) v (first_there entry.1 v (values_of put.after) same)

    -- and no others
    pub put_only : (v : V) → Contains (values_of more) v → Contains (values_of entries) v ⊎ (entry.1 ≡ v)
    put_only v inside = elim (Contains-append_cases (values_of put.before) (entry.1 ∷ values_of put.after) v (subst (λ values. Contains values v) new_values inside)) [
      | inl first ↦ inl (subst (λ values. Contains values v) (sym old_values) (Contains-append_left (values_of put.before) (values_of put.after) v first))
      | inr later ↦ by_place (first_or_later entry.1 v (values_of put.after) later)
    ]
      where
        by_place : (entry.1 ≡ v) ⊎ Contains (values_of put.after) v → Contains (values_of entries) v ⊎ (entry.1 ≡ v)
        by_place (inl same) = inr same
        by_place (inr behind) = inl (subst (λ values. Contains values v) (sym old_values) (Contains-append_right (values_of put.before) (values_of put.after) v behind))

    -- what is so of each entry and of a new one
    pub put_all : (P : K × V → Type 0) → All P entries → P entry → All P more
    put_all P all one =
        let parts = subst (All P) put.old all in
        subst (All P) (sym put.new) (All-append P put.before (entry ∷ put.after) (all_left P put.before put.after parts) (All-cons P entry put.after one (all_right P put.before put.after parts)))

module _ {K V : Type 0} where
  -- a test of values, and the same of entries
  pub filter_values : (P : K × V → Type 0) (p : K × V → Bool) (q : V → Bool) → ((entry : K × V) → P entry → p entry ≡ q entry.1) → (entries : List (K × V)) → All P entries → values_of (filter p entries) ≡ filter q (values_of entries)
  filter_values P p q same [] all = refl
  filter_values P p q same (entry ∷ entries) all = by_test (p entry) (q entry.1) (same entry (All-head P entry entries all)) (filter_values P p q same entries (All-tail P entry entries all))
    where
      by_test : (t u : Bool) → t ≡ u → values_of (filter p entries) ≡ filter q (values_of entries) → values_of (cond t (entry ∷ filter p entries) (filter p entries)) ≡ cond u (entry.1 ∷ filter q (values_of entries)) (filter q (values_of entries))
      by_test true true is rest = ap (λ values. entry.1 ∷ values) rest
      by_test true false is rest = absurd (cc)
      by_test false true is rest = absurd (cc)
      by_test false false is rest = rest

-- what is so of each pair of one image is so of each pair of another
pub pairs_of_images : {A B C : Type 0} (f : A → B) (g : A → C) (P : A → Type 0) (R : B → B → Type 0) (S : C → C → Type 0) → ((a b : A) → P a → P b → R (f a) (f b) → S (g a) (g b)) → (xs : List A) → All P xs → AllPairs R (map f xs) → AllPairs S (map g xs)
pairs_of_images f g P R S step [] all pairs i j d before within = absurd (omega (arith, within))
pairs_of_images f g P R S step (x ∷ xs) all pairs i j d before within =
    let right : j < length (x ∷ xs) = omega (arith, within, length-map (x ∷ xs) g) in
    let left : i < length (x ∷ xs) = omega (arith, before, right) in
    let there : j < length (map f (x ∷ xs)) = omega (arith, right, length-map (x ∷ xs) f) in
    let a = get_or (x ∷ xs) i x in
    let b = get_or (x ∷ xs) j x in
    let first : R (f a) (f b) = rw (← get_or-map f (x ∷ xs) i x (f x) left, ← get_or-map f (x ∷ xs) j x (f x) right) (pairs i j (f x) before there) in
    rw (get_or-map g (x ∷ xs) i x d left, get_or-map g (x ∷ xs) j x d right) (step a b (all i x left) (all j x right) first)
