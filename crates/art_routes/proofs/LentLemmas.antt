-- The list of the entries once one of them has another value, or a key has one, in its entry or in a new one.
use Rattle.art_routes.proofs.LeafNames.{All-map, All-weaker, AllPairs, AreEntries, Bool, Contains, HasEntry, IsEntry, Less, List, NodeArena, None, Option, SameOtherEntries, Some, [], ap, are-entries, cond, entries_of, entries_with_value, entry_at, false, is_some, list-put, nat_eq, one-list, option_map, option_map_or, pointwise, put_entry, refl, same_text, set_value, subst, sym, text_itself, text_order, texts_of, true, ℕ, ◌∙◌, ◌∷◌, ◌≡◌}
use Rattle.art_routes.proofs.ListLemmas.{entries-find}

module _ {K V : Type 0} (text : K → List ℕ) (x : List ℕ) (value : V) where
  texts-kept : (entries : List (K × V)) → texts_of text (entries_with_value text entries x value) ≡ texts_of text entries
  texts-kept [] = refl
  texts-kept (entry ∷ entries) = ap (λ rest. text entry.0 ∷ rest) (texts-kept entries)

  module _ {P : ℕ} (old new : NodeArena K V P) (entries : List (K × V)) (are : AreEntries text old entries)
      (here : entry_at text new x ≡ option_map (λ (entry : K × V). (entry.0, value)) (entry_at text old x)) (others : SameOtherEntries text old new x) where
    each-now : (e : K × V) → IsEntry text old e → IsEntry text new (e.0, cond (pointwise nat_eq (text e.0) x) value e.1)
    each-now e is = by_test (pointwise nat_eq (text e.0) x) refl
      where
        by_test : (t : Bool) → pointwise nat_eq (text e.0) x ≡ t → entry_at text new (text e.0) ≡ Some (e.0, cond t value e.1)
        by_test true at =
            let same = same_text (text e.0) x at in
            ap (entry_at text new) same ∙ here ∙ ap (option_map (λ (entry : K × V). (entry.0, value))) (ap (entry_at text old) (sym same) ∙ is)
        by_test false at = others (text e.0) (λ same. let wrong : true ≡ false = sym (ap (λ y. pointwise nat_eq y x) same ∙ text_itself x) ∙ at in absurd (cc)) ∙ is

    had : (y : List ℕ) (t : Bool) → pointwise nat_eq y x ≡ t → HasEntry text new y → HasEntry text old y
    had y true at some none =
        let same = same_text y x at in
        some (ap (entry_at text new) same ∙ here ∙ ap (option_map (λ (entry : K × V). (entry.0, value))) (ap (entry_at text old) (sym same) ∙ none))
    had y false at some none = some (others y (λ same. let wrong : true ≡ false = sym (ap (λ z. pointwise nat_eq z x) same ∙ text_itself x) ∙ at in absurd (cc)) ∙ none)

    -- these are the entries then
    pub entries-with-value : AreEntries text new (entries_with_value text entries x value)
    entries-with-value = record {
      ascending = subst (AllPairs (λ a b. text_order a b ≡ Less)) (sym (texts-kept entries)) are.ascending;
      each = All-map (IsEntry text new) (λ (e : K × V). (e.0, cond (pointwise nat_eq (text e.0) x) value e.1)) entries
          (All-weaker (IsEntry text old) (λ e. IsEntry text new (e.0, cond (pointwise nat_eq (text e.0) x) value e.1)) each-now entries are.each);
      all = λ y some. subst (λ all. Contains all y) (sym (texts-kept entries)) (are.all y (had y (pointwise nat_eq y x) refl some));
    }

module _ {K V : Type 0} {P : ℕ} (text : K → List ℕ) (old new : NodeArena K V P) (key : K) (value : V)
    (entry : entry_at text new (text key) ≡ Some (option_map_or (λ (entry : K × V). entry.0) (entry_at text old (text key)) key, value)) (others : SameOtherEntries text old new (text key)) where
  -- they are those of before, with this value under the key
  pub entries-set : entries_of text new ≡ set_value text (entries_of text old) key value
  entries-set = by_entry (entry_at text old (text key)) refl
    where
      by_entry : (o : Option (K × V)) → entry_at text old (text key) ≡ o → entries_of text new ≡ set_value text (entries_of text old) key value
      by_entry None is =
          let none = entries-find text old (text key) ∙ is in
          list-put text old new (key, value) (entry ∙ ap (λ o. Some (option_map_or (λ (e : K × V). e.0) o key, value)) is) others
          ∙ sym (ap (λ o. cond (is_some o) (entries_with_value text (entries_of text old) (text key) value) (put_entry text (entries_of text old) (key, value))) none)
      by_entry (Some e) is =
          let some = entries-find text old (text key) ∙ is in
          let here = entry ∙ ap (λ o. Some (option_map_or (λ (e : K × V). e.0) o key, value)) is ∙ sym (ap (option_map (λ (e : K × V). (e.0, value))) is) in
          one-list text new (entries_of text new) (entries_with_value text (entries_of text old) (text key) value) (are-entries text new) (entries-with-value text (text key) value old new (entries_of text old) (are-entries text old) here others)
          ∙ sym (ap (λ o. cond (is_some o) (entries_with_value text (entries_of text old) (text key) value) (put_entry text (entries_of text old) (key, value))) some)
