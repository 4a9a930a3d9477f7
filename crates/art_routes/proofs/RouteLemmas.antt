-- The routes of a tree's entries: calls on the keys are calls on the networks.
use Rattle.std.proofs.Common.{◌≡◌, ◌∙◌, ℕ, zero, suc, Bool, true, false, cond, not, List, [], ◌∷◌, filter, All, AllPairs, Some, refl, sym, ap, subst, arith, nat_eq}
use Rattle.std.specs.Cmp.Lexicographic.{pointwise, texts_ties}
use Rattle.std.specs.Option.{option_map}
use Rattle.std.specs.Ordering.{is_eq, match_ordering}
use Rattle.std.specs.declared.cmp.Ordering.{Ordering}
use Rattle.std.specs.declared.cmp.Ordering.TheVariants.{Less, Equal, Greater}
use Rattle.std.proofs.lemmas.List.Elements.{All-head, All-tail, All-nil, All-cons}
use Rattle.art_bytes.specs.Text.{text_order}
use Rattle.art_tree.specs.Entries.{put_entry, without_text}
use Rattle.art_steps.specs.Refusals.{texts_of}
use Rattle.art_routes.specs.TreeEntries.{entry_with, entries_with_value}
use Rattle.art_routes.specs.KeyLaws.{key_order}
use Rattle.art_routes.specs.Keys.{key_text}
use Rattle.art_routes.specs.Networks.{Block, IsNetwork, network_order}
use Rattle.art_routes.specs.Tables.{AreInOrder, put_route, route_value, routes_with_value, without_route}

-- pairs in a list that begins with one more
pairs_cons : {X : Type 0} (R : X → X → Type 0) (x : X) (xs : List X) → All (R x) xs → AllPairs R xs → AllPairs R (x ∷ xs)
pairs_cons R x xs first rest zero zero d less within = absurd (omega (arith, less))
pairs_cons R x xs first rest zero (suc j) d less within = first j d (omega (arith, within))
pairs_cons R x xs first rest (suc i) zero d less within = absurd (omega (arith, less))
pairs_cons R x xs first rest (suc i) (suc j) d less within = rest i j d (omega (arith, less)) (omega (arith, within))

same-read : (x y : Block) → IsNetwork x → IsNetwork y → pointwise nat_eq (key_text x) (key_text y) ≡ is_eq (network_order x y)
same-read x y x_is y_is = texts_ties (key_text x) (key_text y) ∙ ap is_eq (key_order x y x_is y_is)

module _ {V : Type 0} where
  abbrev pub AreNetworks : List (Block × V) → Type 0
  AreNetworks entries = All (λ entry. IsNetwork entry.0) entries

  here : (entry : Block × V) (entries : List (Block × V)) → AreNetworks (entry ∷ entries) → IsNetwork entry.0
  here entry entries all = All-head (λ e. IsNetwork e.0) entry entries all

  later : (entry : Block × V) (entries : List (Block × V)) → AreNetworks (entry ∷ entries) → AreNetworks entries
  later entry entries all = All-tail (λ e. IsNetwork e.0) entry entries all

  pub put-read : (entries : List (Block × V)) (key : Block) (value : V) → AreNetworks entries → IsNetwork key → put_entry key_text entries (key, value) ≡ put_route entries key value
  put-read [] key value all is = refl
  put-read (other ∷ entries) key value all is =
      by_order (text_order (key_text key) (key_text other.0)) (key_order key other.0 is (here other entries all)) (put-read entries key value (later other entries all) is)
    where
      by_order : (o : Ordering) → o ≡ network_order key other.0 → put_entry key_text entries (key, value) ≡ put_route entries key value
          → match_ordering o ((key, value) ∷ other ∷ entries) ((key, value) ∷ entries) (other ∷ put_entry key_text entries (key, value)) ≡ put_route (other ∷ entries) key value
      by_order Less is rest = rw (← is) refl
      by_order Equal is rest = rw (← is) refl
      by_order Greater is rest = rw (← is) (ap (λ all. other ∷ all) rest)

  -- a network that is put among networks leaves networks
  pub put-networks : (entries : List (Block × V)) (key : Block) (value : V) → AreNetworks entries → IsNetwork key → AreNetworks (put_entry key_text entries (key, value))
  put-networks [] key value all is = All-cons (λ e. IsNetwork e.0) (key, value) [] is all
  put-networks (other ∷ entries) key value all is =
      by_order (text_order (key_text key) (key_text other.0)) (put-networks entries key value (later other entries all) is)
    where
      by_order : (o : Ordering) → AreNetworks (put_entry key_text entries (key, value)) → AreNetworks (match_ordering o ((key, value) ∷ other ∷ entries) ((key, value) ∷ entries) (other ∷ put_entry key_text entries (key, value)))
      by_order Less rest = All-cons (λ e. IsNetwork e.0) (key, value) (other ∷ entries) is all
      by_order Equal rest = All-cons (λ e. IsNetwork e.0) (key, value) entries is (later other entries all)
      by_order Greater rest = All-cons (λ e. IsNetwork e.0) other (put_entry key_text entries (key, value)) (here other entries all) rest

  pub kept-networks : (p : Block × V → Bool) (entries : List (Block × V)) → AreNetworks entries → AreNetworks (filter p entries)
  kept-networks p [] all = all
  kept-networks p (entry ∷ entries) all = by_test (p entry) (kept-networks p entries (later entry entries all))
    where
      by_test : (t : Bool) → AreNetworks (filter p entries) → AreNetworks (cond t (entry ∷ filter p entries) (filter p entries))
      by_test true rest = All-cons (λ e. IsNetwork e.0) entry (filter p entries) (here entry entries all) rest
      by_test false rest = rest

  pub value-read : (entries : List (Block × V)) (x : Block) → AreNetworks entries → IsNetwork x → option_map (λ entry. entry.1) (entry_with key_text entries (key_text x)) ≡ route_value entries x
  value-read [] x all is = refl
  value-read (entry ∷ entries) x all is =
      by_test (pointwise nat_eq (key_text entry.0) (key_text x)) (same-read entry.0 x (here entry entries all) is) (value-read entries x (later entry entries all) is)
    where
      by_test : (t : Bool) → t ≡ is_eq (network_order entry.0 x) → option_map (λ e. e.1) (entry_with key_text entries (key_text x)) ≡ route_value entries x
          → option_map (λ e. e.1) (cond t (Some entry) (entry_with key_text entries (key_text x))) ≡ route_value (entry ∷ entries) x
      by_test true same rest = rw (← same) refl
      by_test false same rest = rw (← same) rest

  -- another value under a key
  pub with-networks : (entries : List (Block × V)) (x : List ℕ) (value : V) → AreNetworks entries → AreNetworks (entries_with_value key_text entries x value)
  with-networks [] x value all = all
  with-networks (entry ∷ entries) x value all =
      All-cons (λ e. IsNetwork e.0) (entry.0, cond (pointwise nat_eq (key_text entry.0) x) value entry.1) (entries_with_value key_text entries x value) (here entry entries all) (with-networks entries x value (later entry entries all))

  pub with-read : (entries : List (Block × V)) (x : Block) (value : V) → AreNetworks entries → IsNetwork x → entries_with_value key_text entries (key_text x) value ≡ routes_with_value entries x value
  with-read [] x value all is = refl
  with-read (entry ∷ entries) x value all is =
      let same = same-read entry.0 x (here entry entries all) is in
      let rest = with-read entries x value (later entry entries all) is in
      λ i. (entry.0, cond (same i) value entry.1) ∷ rest i

  -- entries are picked by their keys as routes are by their networks
  pub picked-read : (p q : Block → Bool) → ((x : Block) → IsNetwork x → p x ≡ q x) → (entries : List (Block × V)) → AreNetworks entries → filter (λ entry. p entry.0) entries ≡ filter (λ route. q route.0) entries
  picked-read p q same [] all = refl
  picked-read p q same (entry ∷ entries) all =
      by_test (p entry.0) (same entry.0 (here entry entries all)) (picked-read p q same entries (later entry entries all))
    where
      by_test : (t : Bool) → t ≡ q entry.0 → filter (λ e. p e.0) entries ≡ filter (λ e. q e.0) entries
          → cond t (entry ∷ filter (λ e. p e.0) entries) (filter (λ e. p e.0) entries) ≡ filter (λ e. q e.0) (entry ∷ entries)
      by_test true is rest = rw (← is) (ap (λ all. entry ∷ all) rest)
      by_test false is rest = rw (← is) rest

  pub without-read : (entries : List (Block × V)) (x : Block) → AreNetworks entries → IsNetwork x → without_text key_text entries (key_text x) ≡ without_route entries x
  without-read entries x all is =
      picked-read (λ y. not (pointwise nat_eq (key_text y) (key_text x))) (λ n. not (is_eq (network_order n x)))
      (λ y y_is. ap not (same-read y x y_is is)) entries all

  -- a key below others is that of a network before theirs
  below-read : (x : Block) → IsNetwork x → (entries : List (Block × V)) → AreNetworks entries → All (λ y. text_order (key_text x) y ≡ Less) (texts_of key_text entries) → All (λ route. network_order x route.0 ≡ Less) entries
  below-read x is [] all under = All-nil (λ route. network_order x route.0 ≡ Less)
  below-read x is (entry ∷ entries) all under =
      All-cons (λ route. network_order x route.0 ≡ Less) entry entries
      (sym (key_order x entry.0 is (here entry entries all)) ∙ All-head (λ y. text_order (key_text x) y ≡ Less) (key_text entry.0) (texts_of key_text entries) under)
      (below-read x is entries (later entry entries all) (All-tail (λ y. text_order (key_text x) y ≡ Less) (key_text entry.0) (texts_of key_text entries) under))

  -- routes are in order as their keys are
  pub in-order : (entries : List (Block × V)) → AreNetworks entries → AllPairs (λ x y. text_order x y ≡ Less) (texts_of key_text entries) → AreInOrder entries
  in-order [] all ascend = λ i j d less within. absurd (omega (arith, within))
  in-order (entry ∷ entries) all ascend =
      pairs_cons (λ a b. network_order a.0 b.0 ≡ Less) entry entries
      (below-read entry.0 (here entry entries all) entries (later entry entries all) (λ k d inside. ascend 0 (suc k) d (omega arith) (omega (arith, inside))))
      (in-order entries (later entry entries all) (λ i j d less within. ascend (suc i) (suc j) d (omega (arith, less)) (omega (arith, within))))

  -- a call at the key of a network
  module _ (entries routes : List (Block × V)) (view_is : entries ≡ routes) (all : AreNetworks entries) (x network : Block) (is : IsNetwork network) (written : x ≡ network) where
    pub x-is : IsNetwork x
    x-is = subst IsNetwork (sym written) is

    pub value-at : option_map (λ entry. entry.1) (entry_with key_text entries (key_text x)) ≡ route_value routes network
    value-at = value-read entries x all x-is ∙ (λ i. route_value (view_is i) (written i))

    pub put-at : (value : V) → put_entry key_text entries (x, value) ≡ put_route routes network value
    put-at value = put-read entries x value all x-is ∙ (λ i. put_route (view_is i) (written i) value)

    pub with-at : (value : V) → entries_with_value key_text entries (key_text x) value ≡ routes_with_value routes network value
    with-at value = with-read entries x value all x-is ∙ (λ i. routes_with_value (view_is i) (written i) value)

    pub without-at : without_text key_text entries (key_text x) ≡ without_route routes network
    without-at = without-read entries x all x-is ∙ (λ i. without_route (view_is i) (written i))
