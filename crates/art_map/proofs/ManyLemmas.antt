-- Entries inserted one after the other, and one inserted behind all others.
use Rattle.std.proofs.Common.{◌≡◌, ◌∙◌, true, suc, ◌-◌, List, [], ◌∷◌, ◌++◌, length, Some, None, append-nil, sym, ap, arith}
use Rattle.std.proofs.lemmas.List.Elements.{All-nil, All-cons, All-head}
use Rattle.std.proofs.lemmas.List.Sums.{fold_push}
use Rattle.std.proofs.lemmas.Option.{same_Some, slice_get-get_or}
use Rattle.std.specs.BTreeMap.{insert_entry}
use Rattle.std.specs.Cmp.{IsTotalOrder}
use Rattle.std.specs.Ordering.{is_gt, ordering_reverse}
use Rattle.std.specs.Prelude.{slice_get}
use Rattle.std.specs.declared.cmp.Ordering.{Ordering}
use Rattle.std.specs.declared.cmp.Ordering.TheVariants.{Less, Equal, Greater}
use Rattle.art_pages.specs.Entries.{AllBelow, IsOrdered}
use Rattle.art_pages.proofs.MiddleLemmas.{insert_entry-gap}
use Rattle.art_pages.proofs.OrderLemmas.{above-first, ordered-right}
use Rattle.art_map.specs.Inserts.{insert_all}

module _ {K V : Type 0} (cmp : K → K → Ordering) where
  -- one more is inserted
  pub one-more : (start taken old new : List (K × V)) (entry : K × V) → old ≡ insert_all cmp start taken → new ≡ insert_entry cmp old entry.0 entry.1
      → new ≡ insert_all cmp start (taken ++ entry ∷ [])
  one-more start taken old new entry before put =
      put ∙ ap (λ l. insert_entry cmp l entry.0 entry.1) before ∙ sym (fold_push (λ all e. insert_entry cmp all e.0 e.1) start taken entry)

  -- behind all others
  pub inserted-behind : (entries : List (K × V)) (key : K) (value : V) → AllBelow (cmp key) entries → insert_entry cmp entries key value ≡ entries ++ (key, value) ∷ []
  inserted-behind entries key value below =
      ap (λ l. insert_entry cmp l key value) (sym (append-nil entries)) ∙ insert_entry-gap cmp key value entries [] below (All-nil (λ entry. cmp key entry.0 ≡ Less))

  -- what is above the last entry is above all
  pub all-below-last : IsTotalOrder cmp → (key : K) (entries : List (K × V)) (last : K × V) → IsOrdered cmp entries
      → slice_get entries (length entries - 1) ≡ Some last → cmp key last.0 ≡ Greater → AllBelow (cmp key) entries
  all-below-last total key [] last ordered is above = All-nil (λ entry. cmp key entry.0 ≡ Greater)
  all-below-last total key (e ∷ []) last ordered is above =
      let at : length (e ∷ []) - 1 ≡ 0 = omega arith in
      let same : e ≡ last = same_Some e last (ap (slice_get (e ∷ [])) (sym at) ∙ is) in
      All-cons (λ entry. cmp key entry.0 ≡ Greater) e [] (ap (λ entry. cmp key entry.0) same ∙ above) (All-nil (λ entry. cmp key entry.0 ≡ Greater))
  all-below-last total key (e ∷ f ∷ rest) last ordered is above =
      let at : length (e ∷ f ∷ rest) - 1 ≡ suc (length (f ∷ rest) - 1) = omega arith in
      let later = all-below-last total key (f ∷ rest) last (ordered-right cmp (e ∷ []) (f ∷ rest) ordered) (ap (slice_get (e ∷ f ∷ rest)) (sym at) ∙ is) above in
      let next : cmp f.0 key ≡ Less = total.antisymm f.0 key ∙ ap ordering_reverse (All-head (λ entry. cmp key entry.0 ≡ Greater) f rest later) in
      let first : cmp e.0 key ≡ Less = total.trans e.0 f.0 key (All-head (λ entry. cmp e.0 entry.0 ≡ Less) f rest (above-first cmp e (f ∷ rest) ordered)) next in
      All-cons (λ entry. cmp key entry.0 ≡ Greater) e (f ∷ rest) (total.antisymm key e.0 ∙ ap ordering_reverse first) later

-- where there is no last entry there is none
pub none-last : {X : Type 0} (xs : List X) → slice_get xs (length xs - 1) ≡ None → xs ≡ []
none-last [] none = λ i. []
none-last (x ∷ xs) none = let some = slice_get-get_or (x ∷ xs) (length (x ∷ xs) - 1) x (omega arith) in absurd (cc)

pub is-greater : (o : Ordering) → is_gt o ≡ true → o ≡ Greater
is-greater Less is = absurd (cc)
is-greater Equal is = absurd (cc)
is-greater Greater is = λ i. Greater
