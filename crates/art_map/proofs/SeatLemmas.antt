-- What is looked up in the page of a query is what is looked up in the whole map.
use Rattle.std.proofs.Common.{◌≡◌, ◌∙◌, ℕ, List, [], ◌++◌, Option, Some, None, Ok, Err, refl, sym, ap}
use Rattle.std.proofs.lemmas.List.Elements.{All-nil}
use Rattle.std.specs.BTreeMap.{insert_entry}
use Rattle.std.specs.Option.{option_map}
use Rattle.std.specs.Prelude.{slice_get}
use Rattle.std.specs.declared.cmp.Ordering.{Ordering}
use Rattle.std.specs.declared.cmp.Ordering.TheVariants.{Less, Greater}
use Rattle.art_pages.specs.Entries.{IsPlaceOf, get_by, get_key_by}
use Rattle.art_pages.specs.Contents.{set_value_at}
use Rattle.art_pages.proofs.FoundLemmas.{get_by-found, get_key_by-found, get_by-gap, get_key_by-gap, insert_entry-found}
use Rattle.art_pages.proofs.MiddleLemmas.{get_by-middle, get_key_by-middle}
use Rattle.art_map.specs.Pages.{IsPageOf}

module _ {K V : Type 0} (compare : K → Ordering) (page entries : List (K × V)) (part : IsPageOf compare page entries) where
  pub value-of-page : get_by compare entries ≡ get_by compare page
  value-of-page = ap (get_by compare) part.is ∙ get_by-middle compare part.before page part.after part.below part.above

  pub key-of-page : get_key_by compare entries ≡ get_key_by compare page
  key-of-page = ap (get_key_by compare) part.is ∙ get_key_by-middle compare part.before page part.after part.below part.above

  module _ (place : ℕ) (entry : K × V) (found : IsPlaceOf compare page (Ok place)) (is : slice_get page place ≡ Some entry) where
    pub value-found : Some entry.1 ≡ get_by compare entries
    value-found = sym (value-of-page ∙ get_by-found compare page place entry found is)

    pub key-found : Some entry.0 ≡ get_key_by compare entries
    key-found = sym (key-of-page ∙ get_key_by-found compare page place entry found is)

  module _ (place : ℕ) (gap : IsPlaceOf compare page (Err place)) where
    pub value-missing : None ≡ get_by compare entries
    value-missing = sym (value-of-page ∙ get_by-gap compare page place gap)

    pub key-missing : None ≡ get_key_by compare entries
    key-missing = sym (key-of-page ∙ get_key_by-gap compare page place gap)

-- a page that is all that there is
pub alone : {K V : Type 0} (compare : K → Ordering) (page : List (K × V)) → IsPageOf compare page (page ++ [])
alone compare page = record {
  before = [];
  after = [];
  is = refl;
  below = All-nil (λ entry. compare entry.0 ≡ Greater);
  above = All-nil (λ entry. compare entry.0 ≡ Less);
}

-- where the key is found, an entry that is put replaces the value
module _ {K V : Type 0} (cmp : K → K → Ordering) (key : K) (entries : List (K × V)) (place : ℕ) (found : IsPlaceOf (cmp key) entries (Ok place)) where
  pub old-value : (entry : Option (K × V)) (old : V) → slice_get entries place ≡ entry → option_map (λ e. e.1) entry ≡ Some old → Some old ≡ get_by (cmp key) entries
  old-value None old is some = absurd (cc)
  old-value (Some entry) old is some = sym (get_by-found (cmp key) entries place entry found is ∙ some)

  pub new-value : (entry : Option (K × V)) (old value : V) → slice_get entries place ≡ entry → option_map (λ e. e.1) entry ≡ Some old → set_value_at entries place value ≡ insert_entry cmp entries key value
  new-value None old value is some = absurd (cc)
  new-value (Some entry) old value is some = sym (insert_entry-found cmp key value entries place entry found is)
