-- A value under the key of a network, in the entry that is there or in a new one, is a route that is put.
use Rattle.std.proofs.Common.{◌≡◌, ◌≢◌, ◌∙◌, Bool, true, false, cond, List, [], ◌∷◌, Option, Some, None, OnSome, Result, Err, OnErr, refl, sym, ap, subst}
use Rattle.std.specs.Option.{is_some}
use Rattle.std.specs.Ordering.{is_eq}
use Rattle.art_tree.specs.Entries.{put_entry}
use Rattle.art_routes.specs.TreeEntries.{set_value}
use Rattle.art_routes.specs.TreeEntries.{entries_with_value, entry_with}
use Rattle.art_routes.specs.Keys.{key_text}
use Rattle.art_routes.specs.Networks.{Block, IsNetwork, network_order}
use Rattle.art_routes.specs.Tables.{AreInOrder, put_route, route_value, routes_with_value}
use Rattle.art_routes.proofs.PutAgainLemmas.{with-is-put}
use Rattle.art_routes.proofs.RouteLemmas.{AreNetworks, put-at, put-networks, value-at, with-at, with-networks, x-is}
use Rattle.art_routes.proofs.ResultLemmas.{none_from}

there : {X : Type 0} (o : Option X) → is_some o ≡ true → o ≢ None
there None is none = absurd (cc)
there (Some x) is none = absurd (cc)

module _ {V : Type 0} (entries routes : List (Block × V)) (view_is : entries ≡ routes) (all : AreNetworks entries) (x network : Block) (is : IsNetwork network) (written : x ≡ network) where
  pub set-networks : (value : V) → AreNetworks (set_value key_text entries x value)
  set-networks value = by_test (is_some (entry_with key_text entries (key_text x)))
    where
      by_test : (t : Bool) → AreNetworks (cond t (entries_with_value key_text entries (key_text x) value) (put_entry key_text entries (x, value)))
      by_test true = with-networks entries (key_text x) value all
      by_test false = put-networks entries x value all (x-is entries routes view_is all x network is written)

  pub set-at : AreInOrder routes → AreNetworks routes → (value : V) → set_value key_text entries x value ≡ put_route routes network value
  set-at ordered are value = by_test (is_some (entry_with key_text entries (key_text x))) refl
    where
      by_test : (t : Bool) → is_some (entry_with key_text entries (key_text x)) ≡ t → cond t (entries_with_value key_text entries (key_text x) value) (put_entry key_text entries (x, value)) ≡ put_route routes network value
      by_test true found =
          with-at entries routes view_is all x network is written value
          ∙ with-is-put network is value routes ordered are (λ none. there (entry_with key_text entries (key_text x)) found (none_from (λ entry. entry.1) (entry_with key_text entries (key_text x)) (value-at entries routes view_is all x network is written ∙ none)))
      by_test false none = put-at entries routes view_is all x network is written value

-- without a route to a network another value for it changes nothing
pub no-value-changes : {V : Type 0} (network : Block) (value : V) (routes : List (Block × V)) → route_value routes network ≡ None → routes_with_value routes network value ≡ routes
no-value-changes network value [] none = refl
no-value-changes network value (route ∷ routes) none = by_test (is_eq (network_order route.0 network)) refl none (no-value-changes network value routes)
  where
    by_test : (t : Bool) → is_eq (network_order route.0 network) ≡ t → route_value (route ∷ routes) network ≡ None → (route_value routes network ≡ None → routes_with_value routes network value ≡ routes) → routes_with_value (route ∷ routes) network value ≡ route ∷ routes
    by_test true at none rest = let wrong : Some route.1 ≡ None = rw at at none in absurd (cc)
    by_test false at none rest = let later : route_value routes network ≡ None = rw at at none in rw at (ap (λ more. route ∷ more) (rest later))

-- what holds where there is something holds
pub some-there : {X : Type 0} (o : Option X) (x : X) (P : Type 0) → o ≡ Some x → OnSome o P → P
some-there o x P is = subst (λ p. OnSome p P → P) (sym is) (λ holds. holds)

pub err-there : {A E : Type 0} (r : Result A E) (e : E) (P : Type 0) → r ≡ Err e → OnErr r P → P
err-there r e P is = subst (λ p. OnErr p P → P) (sym is) (λ holds. holds)
