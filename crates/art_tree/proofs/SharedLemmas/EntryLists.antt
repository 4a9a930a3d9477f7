-- The list of an arena's entries.
use Rattle.art_tree.proofs.Names.{◌≡◌, ◌≢◌, ◌∙◌, ℕ, zero, suc, List, [], ◌∷◌, length, All, Contains, Option, Some, None, refl, sym, ap, subst, inl, inr, arith, match_ordering, Ordering, Less, Equal, Greater, All-nil, All-cons, All-head, All-tail, All-weaker, All-contains, Contains-append_left, Contains-append_right, Contains-append_cases, same_Some, text_order, leaf_key, leaf_value, LeafNode, NodeArena, entry_among, entry_at, HasEntry, IsEmpty, IsEntry, SameEntries, SameOtherEntries, AreEntries, entries_among, entries_of, put_entry, without_text, texts_of, Ascend, all_below, ascend_rest, by_order, by_text, first_below, greater_turned, less_differs, other_text, same_order, same_texts, text_is, text_itself, inside_image}
use Rattle.std.proofs.lemmas.List.Kept.{AllPairs-cons}

module _ {K V : Type 0} (text : K → List ℕ) where
  abbrev texts : List (K × V) → List (List ℕ)
  texts = texts_of text

  -- what holds of texts holds of the entries that have them
  of-entries : (Q : List ℕ → Type 0) (es : List (K × V)) → All Q (texts es) → All (λ e. Q (text e.0)) es
  of-entries Q [] all = All-nil (λ e. Q (text e.0))
  of-entries Q (e ∷ es) all = All-cons (λ e. Q (text e.0)) e es (All-head Q (text e.0) (texts es) all) (of-entries Q es (All-tail Q (text e.0) (texts es) all))

  pub put-cases : (Holds : List (K × V) → Type 0) (o : K × V) (es : List (K × V)) (e : K × V) → (text_order (text e.0) (text o.0) ≡ Less → Holds (e ∷ o ∷ es)) → (text_order (text e.0) (text o.0) ≡ Equal → Holds (e ∷ es)) → (text_order (text e.0) (text o.0) ≡ Greater → Holds (o ∷ put_entry text es e)) → Holds (put_entry text (o ∷ es) e)
  put-cases Holds o es e less same more =
      let placed : (c : Ordering) → text_order (text e.0) (text o.0) ≡ c → Holds (match_ordering c (e ∷ o ∷ es) (e ∷ es) (o ∷ put_entry text es e)) → Holds (put_entry text (o ∷ es) e) =
      λ c is. subst (λ c. Holds (match_ordering c (e ∷ o ∷ es) (e ∷ es) (o ∷ put_entry text es e))) (sym is) in
      by_order (text e.0) (text o.0) (Holds (put_entry text (o ∷ es) e)) (λ is. placed Less is (less is)) (λ is. placed Equal is (same is)) (λ is. placed Greater is (more is))

  -- what holds of the texts and of that of an entry holds when the entry is put among them
  put-all : (Q : List ℕ → Type 0) (es : List (K × V)) (e : K × V) → All Q (texts es) → Q (text e.0) → All Q (texts (put_entry text es e))
  put-all Q [] e all one = All-cons Q (text e.0) [] one (All-nil Q)
  put-all Q (o ∷ es) e all one =
      let others = All-tail Q (text o.0) (texts es) all in
      put-cases (λ l. All Q (texts l)) o es e (λ _. All-cons Q (text e.0) (texts (o ∷ es)) one all) (λ _. All-cons Q (text e.0) (texts es) one others)
      (λ _. All-cons Q (text o.0) (texts (put_entry text es e)) (All-head Q (text o.0) (texts es) all) (put-all Q es e others one))

  put-ascends : (es : List (K × V)) (e : K × V) → Ascend (texts es) → Ascend (texts (put_entry text es e))
  put-ascends [] e ascend = AllPairs-cons (λ a b. text_order a b ≡ Less) (text e.0) [] (All-nil (λ z. text_order (text e.0) z ≡ Less)) ascend
  put-ascends (o ∷ es) e ascend =
      put-cases (λ l. Ascend (texts l)) o es e
      (λ less. AllPairs-cons (λ a b. text_order a b ≡ Less) (text e.0) (texts (o ∷ es)) (all_below (text e.0) (text o.0) (texts es) less ascend) ascend)
      (λ same. subst (λ x. Ascend (x ∷ texts es)) (sym (same_order (text e.0) (text o.0) same)) ascend)
      (λ more.
      AllPairs-cons (λ a b. text_order a b ≡ Less) (text o.0) (texts (put_entry text es e))
      (put-all (λ z. text_order (text o.0) z ≡ Less) es e (first_below (text o.0) (texts es) ascend) (greater_turned (text e.0) (text o.0) more))
      (put-ascends es e (ascend_rest (text o.0) (texts es) ascend)))

  -- what holds of an entry, and of the others that have another text, holds of all
  put-each : (Q : K × V → Type 0) (es : List (K × V)) (e : K × V) → Ascend (texts es) → All (λ o. text o.0 ≢ text e.0 → Q o) es → Q e → All Q (put_entry text es e)
  put-each Q [] e ascend all one = All-cons Q e [] one (All-nil Q)
  put-each Q (o ∷ es) e ascend all one =
      let others = All-tail (λ o. text o.0 ≢ text e.0 → Q o) o es all in
      put-cases (All Q) o es e
      (λ less.
      let apart = of-entries (λ z. text_order (text e.0) z ≡ Less) (o ∷ es) (all_below (text e.0) (text o.0) (texts es) less ascend) in
      All-cons Q e (o ∷ es) one (λ k d inside. all k d inside (λ same. less_differs (text e.0) _ (apart k d inside) (sym same))))
      (λ same.
      let above = subst (λ x. All (λ z. text_order x z ≡ Less) (texts es)) (sym (same_order (text e.0) (text o.0) same)) (first_below (text o.0) (texts es) ascend) in
      let apart = of-entries (λ z. text_order (text e.0) z ≡ Less) es above in
      All-cons Q e es one (λ k d inside. others k d inside (λ same. less_differs (text e.0) _ (apart k d inside) (sym same))))
      (λ more.
      let differ : text o.0 ≢ text e.0 = less_differs (text o.0) (text e.0) (greater_turned (text e.0) (text o.0) more) in
      All-cons Q o (put_entry text es e) (All-head (λ o. text o.0 ≢ text e.0 → Q o) o es all differ) (put-each Q es e (ascend_rest (text o.0) (texts es) ascend) others one))

  put-has : (es : List (K × V)) (e : K × V) → Contains (texts (put_entry text es e)) (text e.0)
  put-has [] e = (0, omega arith, refl)
  put-has (o ∷ es) e =
      put-cases (λ l. Contains (texts l) (text e.0)) o es e (λ _. (0, omega arith, refl)) (λ _. (0, omega arith, refl)) (λ _. Contains-append_right (text o.0 ∷ []) (texts (put_entry text es e)) (text e.0) (put-has es e))

  put-keeps : (es : List (K × V)) (e : K × V) (x : List ℕ) → Contains (texts es) x → Contains (texts (put_entry text es e)) x
  put-keeps [] e x (k, inside, is) = absurd (omega (arith, inside))
  put-keeps (o ∷ es) e x inside =
      put-cases (λ l. Contains (texts l) x) o es e (λ _. Contains-append_right (text e.0 ∷ []) (texts (o ∷ es)) x inside)
      (λ same. subst (λ y. Contains (y ∷ texts es) x) (sym (same_order (text e.0) (text o.0) same)) inside)
      (λ _. elim (Contains-append_cases (text o.0 ∷ []) (texts es) x inside) [
        | inl here ↦ Contains-append_left (text o.0 ∷ []) (texts (put_entry text es e)) x here
        | inr later ↦ Contains-append_right (text o.0 ∷ []) (texts (put_entry text es e)) x (put-keeps es e x later)
      ])

  -- an entry of a new text makes the list longer by one
  pub put-long : (es : List (K × V)) (e : K × V) → (Contains (texts es) (text e.0) → ⊥) → length (put_entry text es e) ≡ suc (length es)
  put-long [] e never = refl
  put-long (o ∷ es) e never =
      put-cases (λ l. length l ≡ suc (length (o ∷ es))) o es e (λ _. refl) (λ same. absurd (never (0, omega arith, sym (same_order (text e.0) (text o.0) same))))
      (λ _. ap suc (put-long es e (λ inside. never (Contains-append_right (text o.0 ∷ []) (texts es) (text e.0) inside))))

  pub without-cases : (Holds : List (K × V) → Type 0) (o : K × V) (es : List (K × V)) (x : List ℕ) → (text o.0 ≡ x → Holds (without_text text es x)) → (text o.0 ≢ x → Holds (o ∷ without_text text es x)) → Holds (without_text text (o ∷ es) x)
  without-cases Holds o es x same differ = by_text (text o.0) x (Holds (without_text text (o ∷ es) x)) (λ is one. rw is (same one)) (λ is never. rw is (differ never))

  without-all : (Q : List ℕ → Type 0) (es : List (K × V)) (x : List ℕ) → All Q (texts es) → All Q (texts (without_text text es x))
  without-all Q [] x all = all
  without-all Q (o ∷ es) x all =
      let others = without-all Q es x (All-tail Q (text o.0) (texts es) all) in
      without-cases (λ l. All Q (texts l)) o es x (λ _. others) (λ _. All-cons Q (text o.0) (texts (without_text text es x)) (All-head Q (text o.0) (texts es) all) others)

  without-ascends : (es : List (K × V)) (x : List ℕ) → Ascend (texts es) → Ascend (texts (without_text text es x))
  without-ascends [] x ascend = ascend
  without-ascends (o ∷ es) x ascend =
      let others = without-ascends es x (ascend_rest (text o.0) (texts es) ascend) in
      without-cases (λ l. Ascend (texts l)) o es x (λ _. others)
      (λ _. AllPairs-cons (λ a b. text_order a b ≡ Less) (text o.0) (texts (without_text text es x)) (without-all (λ z. text_order (text o.0) z ≡ Less) es x (first_below (text o.0) (texts es) ascend)) others)

  without-each : (Q : K × V → Type 0) (es : List (K × V)) (x : List ℕ) → All (λ o. text o.0 ≢ x → Q o) es → All Q (without_text text es x)
  without-each Q [] x all = All-nil Q
  without-each Q (o ∷ es) x all =
      let others = without-each Q es x (All-tail (λ o. text o.0 ≢ x → Q o) o es all) in
      without-cases (All Q) o es x (λ _. others) (λ differ. All-cons Q o (without_text text es x) (All-head (λ o. text o.0 ≢ x → Q o) o es all differ) others)

  without-keeps : (es : List (K × V)) (x y : List ℕ) → Contains (texts es) y → y ≢ x → Contains (texts (without_text text es x)) y
  without-keeps [] x y (k, inside, is) differ = absurd (omega (arith, inside))
  without-keeps (o ∷ es) x y inside differ = elim (Contains-append_cases (text o.0 ∷ []) (texts es) y inside) [
    | inl here ↦ without-cases (λ l. Contains (texts l) y) o es x (λ same. absurd (differ (sym (first here) ∙ same))) (λ _. (0, omega arith, first here))
    | inr later ↦
        let others = without-keeps es x y later differ in
        without-cases (λ l. Contains (texts l) y) o es x (λ _. others) (λ _. Contains-append_right (text o.0 ∷ []) (texts (without_text text es x)) y others)
  ]
    where
      first : Contains (text o.0 ∷ []) y → text o.0 ≡ y
      first (zero, within, is) = is
      first (suc k, within, is) = absurd (omega (arith, within))

module _ {K V : Type 0} {P : ℕ} (text : K → List ℕ) where
  among-ascends : (slots : List (Option (LeafNode K V P))) → Ascend (texts_of text (entries_among text slots))
  among-ascends [] = λ i j d before inside. absurd (omega (arith, inside))
  among-ascends (None ∷ slots) = among-ascends slots
  among-ascends (Some leaf ∷ slots) = put-ascends text (entries_among text slots) (leaf_key leaf, leaf_value leaf) (among-ascends slots)

  pub among-each : (slots : List (Option (LeafNode K V P))) → All (λ e. entry_among text slots (text e.0) ≡ Some e) (entries_among text slots)
  among-each [] = All-nil (λ e. None ≡ Some e)
  among-each (None ∷ slots) = among-each slots
  among-each (Some leaf ∷ slots) =
      put-each text (λ e. entry_among text (Some leaf ∷ slots) (text e.0) ≡ Some e) (entries_among text slots) (leaf_key leaf, leaf_value leaf) (among-ascends slots)
      (All-weaker (λ e. entry_among text slots (text e.0) ≡ Some e) (λ e. text e.0 ≢ text (leaf_key leaf) → entry_among text (Some leaf ∷ slots) (text e.0) ≡ Some e)
      (λ e rest differ. rw (other_text (text (leaf_key leaf)) (text e.0) (λ same. differ (sym same))) rest) (entries_among text slots) (among-each slots))
      (rw (text_itself (text (leaf_key leaf))) refl)

  among-all : (slots : List (Option (LeafNode K V P))) (x : List ℕ) → entry_among text slots x ≢ None → Contains (texts_of text (entries_among text slots)) x
  among-all [] x some = absurd (some refl)
  among-all (None ∷ slots) x some = among-all slots x some
  among-all (Some leaf ∷ slots) x some =
      by_text (text (leaf_key leaf)) x (Contains (texts_of text (entries_among text (Some leaf ∷ slots))) x)
      (λ is same. subst (Contains (texts_of text (entries_among text (Some leaf ∷ slots)))) same (put-has text (entries_among text slots) (leaf_key leaf, leaf_value leaf)))
      (λ is never. put-keeps text (entries_among text slots) (leaf_key leaf, leaf_value leaf) x (among-all slots x (λ none. some (rw is none))))

  -- the list of the entries is one
  pub are-entries : (arena : NodeArena K V P) → AreEntries text arena (entries_of text arena)
  are-entries arena = record { ascending = among-ascends arena.leaf.slots; each = among-each arena.leaf.slots; all = among-all arena.leaf.slots }

  same-list : (arena : NodeArena K V P) (a b : List (K × V)) → texts_of text a ≡ texts_of text b → All (IsEntry text arena) a → All (IsEntry text arena) b → a ≡ b
  same-list arena [] [] same in_a in_b = refl
  same-list arena [] (y ∷ b) same in_a in_b = absurd (cc)
  same-list arena (x ∷ a) [] same in_a in_b = absurd (cc)
  same-list arena (x ∷ a) (y ∷ b) same in_a in_b =
      let first : text x.0 ≡ text y.0 = cc in
      let others : texts_of text a ≡ texts_of text b = cc in
      let one = same_Some x y (sym (All-head (IsEntry text arena) x a in_a) ∙ ap (entry_at text arena) first ∙ All-head (IsEntry text arena) y b in_b) in
      ap (λ e. e ∷ a) one ∙ ap (λ es. y ∷ es) (same-list arena a b others (All-tail (IsEntry text arena) x a in_a) (All-tail (IsEntry text arena) y b in_b))

  pub has-entry : (arena : NodeArena K V P) (a : List (K × V)) (x : List ℕ) → All (IsEntry text arena) a → Contains (texts_of text a) x → HasEntry text arena x
  has-entry arena a x each inside none =
      let from = inside_image (λ e. text e.0) a x inside in
      let wrong : None ≡ Some from.0 = sym none ∙ ap (entry_at text arena) (sym from.2) ∙ All-contains (IsEntry text arena) a from.0 each from.1 in
      absurd (cc)

  pub one-list : (arena : NodeArena K V P) (a b : List (K × V)) → AreEntries text arena a → AreEntries text arena b → a ≡ b
  one-list arena a b is_a is_b =
      same-list arena a b
      (same_texts (texts_of text a) (texts_of text b) is_a.ascending is_b.ascending (λ x inside. is_b.all x (has-entry arena a x is_a.each inside)) (λ x inside. is_a.all x (has-entry arena b x is_b.each inside)))
      is_a.each is_b.each

  -- an entry is a member of the list
  pub entry-listed : (arena : NodeArena K V P) (e : K × V) → IsEntry text arena e → Contains (entries_of text arena) e
  entry-listed arena e is =
      let list = are-entries arena in
      let from = inside_image (λ e. text e.0) (entries_of text arena) (text e.0) (list.all (text e.0) (λ none. let wrong : None ≡ Some e = sym none ∙ is in absurd (cc))) in
      let one = same_Some from.0 e (sym (All-contains (IsEntry text arena) (entries_of text arena) from.0 list.each from.1) ∙ ap (entry_at text arena) from.2 ∙ is) in
      subst (Contains (entries_of text arena)) one from.1

  pub listed-entry : (arena : NodeArena K V P) (e : K × V) → Contains (entries_of text arena) e → IsEntry text arena e
  listed-entry arena e inside = All-contains (IsEntry text arena) (entries_of text arena) e (are-entries arena).each inside

  pub no-list : (arena : NodeArena K V P) → IsEmpty text arena → entries_of text arena ≡ []
  no-list arena empty = one-list arena (entries_of text arena) [] (are-entries arena) (record { ascending = λ i j d before inside. absurd (omega (arith, inside)); each = All-nil (IsEntry text arena); all = λ x has. absurd (has (empty x)) })

  module _ (old new : NodeArena K V P) where
    pub list-same : SameEntries text old new → entries_of text new ≡ entries_of text old
    list-same same =
        let was = are-entries old in
        one-list new (entries_of text new) (entries_of text old) (are-entries new) (record {
          ascending = was.ascending;
          each = All-weaker (IsEntry text old) (IsEntry text new) (λ e is. same (text e.0) ∙ is) (entries_of text old) was.each;
          all = λ x has. was.all x (λ none. has (same x ∙ none));
        })

    pub list-put : (e : K × V) → IsEntry text new e → SameOtherEntries text old new (text e.0) → entries_of text new ≡ put_entry text (entries_of text old) e
    list-put e is others =
        let was = are-entries old in
        one-list new (entries_of text new) (put_entry text (entries_of text old) e) (are-entries new) (record {
          ascending = put-ascends text (entries_of text old) e was.ascending;
          each = put-each text (IsEntry text new) (entries_of text old) e was.ascending (All-weaker (IsEntry text old) (λ o. text o.0 ≢ text e.0 → IsEntry text new o) (λ o had differ. others (text o.0) differ ∙ had) (entries_of text old) was.each) is;
          all = λ x has. elim (text_is x (text e.0)) [
            | inl same ↦ subst (Contains (texts_of text (put_entry text (entries_of text old) e))) (sym same) (put-has text (entries_of text old) e)
            | inr differ ↦ put-keeps text (entries_of text old) e x (was.all x (λ none. has (others x differ ∙ none)))
          ];
        })

    pub list-without : (x : List ℕ) → entry_at text new x ≡ None → SameOtherEntries text old new x → entries_of text new ≡ without_text text (entries_of text old) x
    list-without x gone others =
        let was = are-entries old in
        one-list new (entries_of text new) (without_text text (entries_of text old) x) (are-entries new) (record {
          ascending = without-ascends text (entries_of text old) x was.ascending;
          each = without-each text (IsEntry text new) (entries_of text old) x (All-weaker (IsEntry text old) (λ o. text o.0 ≢ x → IsEntry text new o) (λ o had differ. others (text o.0) differ ∙ had) (entries_of text old) was.each);
          all = λ y has.
              let differ : y ≢ x = λ same. has (ap (entry_at text new) same ∙ gone) in
              without-keeps text (entries_of text old) x y (was.all y (λ none. has (others y differ ∙ none))) differ;
        })
