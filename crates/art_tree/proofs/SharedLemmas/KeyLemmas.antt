-- The laws of keys hold for the key of each entry of a dictionary.
use Rattle.art_tree.proofs.Names.{◌≡◌, ◌∙◌, ℕ, List, None, Some, All, Contains, sym, ap, subst, same_Some, All-contains, NodeArena, HasEntry, HasKeys, IsEmpty, IsEntry, entry_at, SameEntries, IsEntered, texts_of, IsLeft, inside_image, by_text}

module _ {K V : Type 0} {P : ℕ} (text : K → List ℕ) (is_key : K → Type 0) where
  pub keys-none : (arena : NodeArena K V P) → IsEmpty text arena → HasKeys text is_key arena
  keys-none arena empty entry is = let none = sym (empty (text entry.0)) ∙ is in absurd (cc)

  pub keys-loaded : (arena : NodeArena K V P) (entries : List (K × V)) → All (λ entry. is_key entry.0) entries → All (IsEntry text arena) entries → ((x : List ℕ) → HasEntry text arena x → Contains (texts_of text entries) x) → HasKeys text is_key arena
  keys-loaded arena entries all_keys all_entries no_others entry is =
      let from = inside_image (λ e. text e.0) entries (text entry.0) (no_others (text entry.0) (λ none. absurd (cc))) in
      let one = same_Some from.0 entry (sym (All-contains (IsEntry text arena) entries from.0 all_entries from.1) ∙ ap (entry_at text arena) from.2 ∙ is) in
      subst (λ e. is_key e.0) one (All-contains (λ e. is_key e.0) entries from.0 all_keys from.1)

  module _ (old new : NodeArena K V P) (keys : HasKeys text is_key old) where
    -- entries that are the same, one that comes, one that goes: the keys that are there are keys
    pub keys-same : SameEntries text old new → HasKeys text is_key new
    keys-same same entry is = keys entry (sym (same (text entry.0)) ∙ is)

    pub keys-entered : (key : K) (value : V) → IsEntered text old new key value → is_key key → HasKeys text is_key new
    keys-entered key value entered one entry is =
        by_text (text entry.0) (text key) (is_key entry.0)
        (λ _ same. subst (λ e. is_key e.0) (same_Some (key, value) entry (sym entered.entry ∙ ap (entry_at text new) (sym same) ∙ is)) one)
        (λ _ differ. keys entry (sym (entered.others (text entry.0) differ) ∙ is))

    pub keys-left : (key : List ℕ) → IsLeft text old new key → HasKeys text is_key new
    keys-left key left entry is =
        by_text (text entry.0) key (is_key entry.0)
        (λ _ same. absurd (let wrong : None ≡ Some entry = sym left.gone ∙ ap (entry_at text new) (sym same) ∙ is in cc))
        (λ _ differ. keys entry (sym (left.others (text entry.0) differ) ∙ is))
