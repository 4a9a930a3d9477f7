-- The words of a map with one word more, and in order.
use Rattle.std.proofs.Common.{◌≡◌, ◌∙◌, ◌⊎◌, inl, inr, ℕ, ◌+◌, ◌<◌, List, [], ◌∷◌, ◌++◌, length, take, map, AllPairs, Contains, refl, sym, ap, subst, arith, get_or, add-one}
use Rattle.std.proofs.Math.Seq.{take-suc}
use Rattle.std.proofs.lemmas.List.{length-map, map-append, get_or-map}
use Rattle.std.proofs.lemmas.List.Elements.{Contains-append_left, Contains-push, Contains-push_cases}
use Rattle.std.proofs.lemmas.Map.Keys.{Less-from_sorted}
use Rattle.std.proofs.lemmas.Map.Lookups.{exact_bytes}
use Rattle.std.specs.BTreeMap.{insert_entry}
use Rattle.std.specs.Ordering.{match_ordering}
use Rattle.std.specs.declared.cmp.Ordering.{Ordering}
use Rattle.std.specs.declared.cmp.Ordering.TheVariants.{Less, Equal, Greater}
use Rattle.art_bytes.specs.Text.{text_order}
use Rattle.art_bytes.proofs.Members.{first_or_later, first_there, later_there, none_inside, the_one}
use Rattle.art_pages.specs.Entries.{IsOrdered}
use Rattle.words.specs.Dictionaries.{IsDictionary}

module _ {K : Type 0} (text : K → List ℕ) where
  abbrev order : K → K → Ordering
  order a b = text_order (text a) (text b)

  abbrev texts : List (K × ℕ) → List (List ℕ)
  texts entries = map (λ entry. text entry.0) entries

  -- the texts with a word more
  module _ (key : K) (value : ℕ) where
    abbrev with_word : List (K × ℕ) → List (K × ℕ)
    with_word entries = insert_entry order entries key value

    there : (entries : List (K × ℕ)) (x : List ℕ) → Contains (texts entries) x ⊎ (text key ≡ x) → Contains (texts (with_word entries)) x
    there [] x (inl old) = absurd (none_inside x old)
    there [] x (inr is) = first_there (text key) x [] is
    there (e ∷ es) x given = by_order (order key e.0) refl given (there es x)
      where
        by_order : (o : Ordering) → order key e.0 ≡ o → Contains (texts (e ∷ es)) x ⊎ (text key ≡ x) → (Contains (texts es) x ⊎ (text key ≡ x) → Contains (texts (with_word es)) x)
            → Contains (texts (match_ordering o ((key, value) ∷ e ∷ es) ((e.0, value) ∷ es) (e ∷ with_word es))) x
        by_order Less less (inl old) later = later_there (text key) x (texts (e ∷ es)) old
        by_order Less less (inr is) later = first_there (text key) x (texts (e ∷ es)) is
        by_order Equal equal (inl old) later = old
        by_order Equal equal (inr is) later = first_there (text e.0) x (texts es) (sym (exact_bytes (text key) (text e.0) equal) ∙ is)
        by_order Greater greater (inl old) later = elim (first_or_later (text e.0) x (texts es) old) [
          | inl here ↦ first_there (text e.0) x (texts (with_word es)) here
          | inr behind ↦ later_there (text e.0) x (texts (with_word es)) (later (inl behind))
        ]
        by_order Greater greater (inr is) later = later_there (text e.0) x (texts (with_word es)) (later (inr is))

    only : (entries : List (K × ℕ)) (x : List ℕ) → Contains (texts (with_word entries)) x → Contains (texts entries) x ⊎ (text key ≡ x)
    only [] x inside = inr (the_one (text key) x inside)
    only (e ∷ es) x inside = by_order (order key e.0) inside (only es x)
      where
        behind : Contains (texts es) x ⊎ (text key ≡ x) → Contains (texts (e ∷ es)) x ⊎ (text key ≡ x)
        behind (inl old) = inl (later_there (text e.0) x (texts es) old)
        behind (inr is) = inr is

        by_order : (o : Ordering) → Contains (texts (match_ordering o ((key, value) ∷ e ∷ es) ((e.0, value) ∷ es) (e ∷ with_word es))) x
            → (Contains (texts (with_word es)) x → Contains (texts es) x ⊎ (text key ≡ x)) → Contains (texts (e ∷ es)) x ⊎ (text key ≡ x)
        by_order Less inside later = elim (first_or_later (text key) x (texts (e ∷ es)) inside) [ inl is ↦ inr is | inr old ↦ inl old ]
        by_order Equal inside later = inl inside
        by_order Greater inside later = elim (first_or_later (text e.0) x (texts (with_word es)) inside) [
          | inl here ↦ inl (first_there (text e.0) x (texts es) here)
          | inr put ↦ behind (later put)
        ]

  -- a map has just these words
  pub record HasWords (entries : List (K × ℕ)) (words : List (List ℕ)) : Type 0 where
    pub there : (x : List ℕ) → Contains words x → Contains (texts entries) x
    pub only : (x : List ℕ) → Contains (texts entries) x → Contains words x

  pub has_none : (entries : List (K × ℕ)) → entries ≡ [] → HasWords entries []
  has_none entries none = rw none record { there = λ x inside. inside; only = λ x inside. inside }

  pub has_one_more : (entries more : List (K × ℕ)) (words longer : List (List ℕ)) (key : K) (value : ℕ) → HasWords entries words → more ≡ insert_entry order entries key value → longer ≡ words ++ text key ∷ [] → HasWords more longer
  has_one_more entries more words longer key value has put one = rw (put, one) record {
    there = λ x inside. elim (Contains-push_cases words (text key) x inside) [ inl old ↦ there key value entries x (inl (has.there x old)) | inr is ↦ there key value entries x (inr is) ];
    only = λ x inside. elim (only key value entries x inside) [ inl old ↦ Contains-append_left words (text key ∷ []) x (has.only x old) | inr is ↦ subst (Contains (words ++ text key ∷ [])) is (Contains-push words (text key)) ];
  }

  ascending : (entries : List (K × ℕ)) → IsOrdered order entries → AllPairs (λ a b. text_order a b ≡ Less) (texts entries)
  ascending [] ordered i j d before within = absurd (omega (arith, within))
  ascending (e ∷ es) ordered i j d before within =
      let all = e ∷ es in
      let of_key : K × ℕ → K = λ entry. entry.0 in
      let of_text : K × ℕ → List ℕ = λ entry. text entry.0 in
      let right : j < length all = omega (arith, within, length-map all of_text) in
      let left : i < length all = omega (arith, before, right) in
      let there : j < length (map of_key all) = omega (arith, right, length-map all of_key) in
      let less : text_order (text (get_or all i e).0) (text (get_or all j e).0) ≡ Less =
      rw (get_or-map of_key all i e e.0 left, get_or-map of_key all j e e.0 right) at (Less-from_sorted order (map of_key all) i j e.0 ordered before there) in
      rw (get_or-map of_text all i e d left, get_or-map of_text all j e d right) less

  -- and in order, where it is a map
  pub is_dictionary : (entries : List (K × ℕ)) (words : List (List ℕ)) → HasWords entries words → IsOrdered order entries → IsDictionary words (texts entries)
  is_dictionary entries words has ordered = record { ascending = ascending entries ordered; same_words = λ x. (has.only x, has.there x) }

-- the words up to one more
pub words_more : {X : Type 0} (f : X → List ℕ) (xs : List X) (i : ℕ) (d : X) (word : List ℕ) → i < length xs → word ≡ f (get_or xs i d) → map f (take (i + 1) xs) ≡ map f (take i xs) ++ word ∷ []
words_more f xs i d word below is =
    let cut : take (i + 1) xs ≡ take i xs ++ get_or xs i d ∷ [] = rw add-one (take-suc xs i d below) in
    ap (map f) cut ∙ map-append f (take i xs) (get_or xs i d ∷ []) ∙ ap (λ last. map f (take i xs) ++ last ∷ []) (sym is)
