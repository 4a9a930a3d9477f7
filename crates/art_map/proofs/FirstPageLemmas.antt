-- The entries of a page taken out of a map at once.
use Rattle.std.proofs.Common.{◌≡◌, ◌∙◌, ℕ, List, [], ◌∷◌, ◌++◌, sym, ap}
use Rattle.art_map.specs.Pages.{entries_in, map_entries}
use Rattle.art_map.proofs.ChangeLemmas.{entries-around}

module _ {K V : Type 0} (head : List (K × V)) (none : head ≡ []) (left : List (List ℕ × List (K × V))) (page : List ℕ × List (K × V)) (right : List (List ℕ × List (K × V))) (none_left : entries_in left ≡ []) where
  begins : (entries : List (K × V)) → map_entries head (left ++ (page.0, entries) ∷ right) ≡ entries ++ entries_in right
  begins entries =
      ap (λ l. head ++ l) (entries-around left (page.0, entries) right) ∙ ap (λ l. l ++ (entries_in left ++ (entries ++ entries_in right))) none
      ∙ ap (λ l. l ++ (entries ++ entries_in right)) none_left

  -- the entries of the first page that has any are those before all others
  pub page-first : (old new : List (List ℕ × List (K × V))) → old ≡ left ++ page ∷ right → new ≡ left ++ (page.0, []) ∷ right → map_entries head old ≡ page.1 ++ map_entries head new
  page-first old new is now = ap (map_entries head) is ∙ begins page.1 ∙ ap (λ l. page.1 ++ l) (sym (begins []) ∙ ap (map_entries head) (sym now))
