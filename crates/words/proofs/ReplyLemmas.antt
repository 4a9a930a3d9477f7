-- What is printed of the entries of a map, beside the words of a dictionary.
use Rattle.std.proofs.Common.{◌≡◌, ◌∙◌, ℕ, zero, suc, ◌-◌, Bool, true, false, cond, List, [], ◌∷◌, ◌++◌, length, take, map, filter, refl, sym, ap, arith, append_assoc}
use Rattle.std.specs.Prelude.{Option, None, Some, Vec, nat_eq, not, slice_get}
use Rattle.std.specs.Borrow.{Bor}
use Rattle.std.specs.Fmt.{decimal}
use Rattle.std.specs.List.{flat_map, starts_with}
use Rattle.std.specs.Option.{option_map}
use Rattle.std.specs.Ordering.{is_gt, is_le, is_lt, ordering_reverse}
use Rattle.std.specs.Vec.{vec_items}
use Rattle.std.specs.declared.cmp.Ordering.{Ordering}
use Rattle.std.specs.declared.cmp.Ordering.TheVariants.{Less, Equal, Greater}
use Rattle.std.proofs.lemmas.Cmp.{nat_list_cmp_total}
use Rattle.std.proofs.lemmas.List.{length-map}
use Rattle.std.proofs.lemmas.List.Concat.{flat_map-cons}
use Rattle.std.proofs.lemmas.Option.{slice_get-map}
use Rattle.art_bytes.specs.Text.{text_order}
use Rattle.program_lines.specs.Lines.{line, SayAll, SayLine}
use Rattle.words.specs.Places.{entry_words}
use Rattle.words.specs.Queries.{SayWord}
use Rattle.words.specs.Replies.{words_with_prefix, words_below, words_above, neighbour, reply}
use Rattle.words.specs.declared.dictionary.Word.{Word}
use Rattle.words.specs.declared.query.Query.{Query}
use Rattle.words.specs.declared.query.Query.TheVariants.{Begin, FirstOf, Count, Before, After}

not_le : (o : Ordering) → not (is_le (ordering_reverse o)) ≡ is_lt o
not_le Less = refl
not_le Equal = refl
not_le Greater = refl

lt_turned : (o : Ordering) → is_lt (ordering_reverse o) ≡ is_gt o
lt_turned Less = refl
lt_turned Equal = refl
lt_turned Greater = refl

abbrev Entry : Type 0 → Type 0
Entry A = Vec ℕ A × ℕ

module _ {A : Type 0} where
  abbrev word_at : Entry A → List ℕ
  word_at entry = vec_items entry.0

  -- the words of some entries are some of the words
  filter_words : (p : Entry A → Bool) (q : List ℕ → Bool) → ((entry : Entry A) → p entry ≡ q (word_at entry)) → (entries : List (Entry A)) → entry_words (filter p entries) ≡ filter q (entry_words entries)
  filter_words p q same [] = refl
  filter_words p q same (entry ∷ entries) = by_test (p entry) (q (word_at entry)) (same entry) (filter_words p q same entries)
    where
      by_test : (t u : Bool) → t ≡ u → entry_words (filter p entries) ≡ filter q (entry_words entries) → entry_words (cond t (entry ∷ filter p entries) (filter p entries)) ≡ cond u (word_at entry ∷ filter q (entry_words entries)) (filter q (entry_words entries))
      by_test true true is rest = ap (λ words. word_at entry ∷ words) rest
      by_test true false is rest = absurd (cc)
      by_test false true is rest = absurd (cc)
      by_test false false is rest = rest

  -- one line more of the first ones
  pub first_line_more : (left : ℕ) (entries rest : List (Entry A)) (entry : Entry A) (output longer whole : List ℕ) → (left ≡ 0 → ⊥) → entries ≡ entry ∷ rest → longer ≡ output ++ line (word_at entry) → output ++ flat_map line (take left (entry_words entries)) ≡ whole → longer ++ flat_map line (take (left - 1) (entry_words rest)) ≡ whole
  first_line_more zero entries rest entry output longer whole some is pushed before = absurd (some refl)
  first_line_more (suc n) entries rest entry output longer whole some is pushed before =
      let less : suc n - 1 ≡ n = omega arith in
      let others : List ℕ = flat_map line (take n (entry_words rest)) in
      let now : output ++ flat_map line (word_at entry ∷ take n (entry_words rest)) ≡ whole = rw is at before in
      ap (λ m. longer ++ flat_map line (take m (entry_words rest))) less ∙ ap (λ o. o ++ others) pushed ∙ append_assoc output (line (word_at entry)) others
      ∙ ap (λ text. output ++ text) (sym (flat_map-cons line (word_at entry) (take n (entry_words rest)))) ∙ now

  abbrev shown_entry : Bor (Vec ℕ A) × Bor ℕ → Entry A
  shown_entry found = (found.0.now, found.1.now)

  abbrev shown_word : Bor (Vec ℕ A) × Bor ℕ → List ℕ
  shown_word found = vec_items found.0.now

  -- the word at a place
  word_found : (found : Option (Bor (Vec ℕ A) × Bor ℕ)) (entries : List (Entry A)) (n : ℕ) → option_map shown_entry found ≡ slice_get entries n → option_map shown_word found ≡ slice_get (entry_words entries) n
  word_found found entries n is = both found ∙ ap (option_map word_at) is ∙ sym (slice_get-map word_at entries n)
    where
      both : (found : Option (Bor (Vec ℕ A) × Bor ℕ)) → option_map shown_word found ≡ option_map word_at (option_map shown_entry found)
      both None = refl
      both (Some entry) = refl

  -- what each query prints
  module _ (entries : List (Entry A)) (output longer : List ℕ) (query : Query) (shown : List (Entry A)) where
    module _ (prefix : Bor (List ℕ)) (given : shown ≡ filter (λ entry. starts_with nat_eq (word_at entry) prefix.now) entries) where
      begun_words : entry_words shown ≡ words_with_prefix prefix.now (entry_words entries)
      begun_words = ap entry_words given ∙ filter_words (λ entry. starts_with nat_eq (word_at entry) prefix.now) (λ word. starts_with nat_eq word prefix.now) (λ entry. refl) entries

      pub reply_begin : query ≡ Begin prefix → longer ≡ output ++ flat_map line (entry_words shown) → longer ≡ output ++ reply (entry_words entries) query
      reply_begin is pushed = pushed ∙ ap (λ words. output ++ flat_map line words) begun_words ∙ ap (λ q. output ++ reply (entry_words entries) q) (sym is)

      pub reply_first : (most : ℕ) → query ≡ FirstOf prefix most → longer ≡ output ++ flat_map line (take most (entry_words shown)) → longer ≡ output ++ reply (entry_words entries) query
      reply_first most is pushed = pushed ∙ ap (λ words. output ++ flat_map line (take most words)) begun_words ∙ ap (λ q. output ++ reply (entry_words entries) q) (sym is)

      pub reply_count : query ≡ Count prefix → longer ≡ output ++ line (decimal (length shown)) → longer ≡ output ++ reply (entry_words entries) query
      reply_count is pushed =
          pushed ∙ ap (λ n. output ++ line (decimal n)) (sym (length-map shown word_at) ∙ ap length begun_words) ∙ ap (λ q. output ++ reply (entry_words entries) q) (sym is)

    module _ (word : Bor (List ℕ)) (found : Option (Bor (Vec ℕ A) × Bor ℕ)) (pushed : longer ≡ output ++ neighbour (option_map shown_word found)) where
      turned : (entry : Entry A) → text_order word.now (word_at entry) ≡ ordering_reverse (text_order (word_at entry) word.now)
      turned entry = nat_list_cmp_total.antisymm word.now (word_at entry)

      pub reply_before : query ≡ Before word → shown ≡ filter (λ entry. not (is_le (text_order word.now (word_at entry)))) entries → option_map shown_entry found ≡ slice_get shown (length shown - 1) → longer ≡ output ++ reply (entry_words entries) query
      reply_before is given last =
          let words : entry_words shown ≡ words_below word.now (entry_words entries) = ap entry_words given ∙ filter_words (λ entry. not (is_le (text_order word.now (word_at entry)))) (λ w. is_lt (text_order w word.now))
          (λ entry. ap (λ o. not (is_le o)) (turned entry) ∙ not_le (text_order (word_at entry) word.now)) entries in
          pushed ∙ ap (λ o. output ++ neighbour o) (word_found found shown (length shown - 1) last ∙ ap (λ n. slice_get (entry_words shown) (n - 1)) (sym (length-map shown word_at)) ∙ ap (λ ws. slice_get ws (length ws - 1)) words)
          ∙ ap (λ q. output ++ reply (entry_words entries) q) (sym is)

      pub reply_after : query ≡ After word → shown ≡ filter (λ entry. is_lt (text_order word.now (word_at entry))) entries → option_map shown_entry found ≡ slice_get shown 0 → longer ≡ output ++ reply (entry_words entries) query
      reply_after is given first =
          let words : entry_words shown ≡ words_above word.now (entry_words entries) = ap entry_words given ∙ filter_words (λ entry. is_lt (text_order word.now (word_at entry))) (λ w. is_gt (text_order w word.now))
          (λ entry. ap is_lt (turned entry) ∙ lt_turned (text_order (word_at entry) word.now)) entries in
          pushed ∙ ap (λ o. output ++ neighbour o) (word_found found shown 0 first ∙ ap (λ ws. slice_get ws 0) words) ∙ ap (λ q. output ++ reply (entry_words entries) q) (sym is)

-- the lines of the list are its words
pub lines_are : (lines : List (List ℕ)) (words : List Word) → SayAll (SayLine SayWord) lines words → map (λ word. word.bytes.now) words ≡ lines
lines_are [] [] said = refl
lines_are [] (word ∷ words) said = absurd said
lines_are (first ∷ lines) [] said = absurd said
lines_are (first ∷ lines) (word ∷ words) said = ap (λ bytes. bytes ∷ map (λ word. word.bytes.now) words) said.0.1.0 ∙ ap (λ rest. first ∷ rest) (lines_are lines words said.1)
