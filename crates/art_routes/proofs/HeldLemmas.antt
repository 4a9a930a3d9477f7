-- The routes of a table by the entries that its tree holds.
use Rattle.std.proofs.Common.{◌≡◌, ◌∙◌, ℕ, List, None, refl, sym, ap, arith, subst}
use Rattle.std.specs.Option.{option_map}
use Rattle.std.proofs.lemmas.List.Elements.{All-weaker}
use Rattle.art_arena.specs.Arena.{NodeArena}
use Rattle.art_tree.proofs.EntryLaws.{are-entries, list-without, never-clash-in, one-list}
use Rattle.art_steps.specs.Dictionary.{HasKeys, IsEntry, SameOtherEntries, entry_at}
use Rattle.art_tree.specs.Entries.{entries_of, without_text}
use Rattle.art_steps.specs.Insertion.{IsRefused}
use Rattle.art_steps.specs.declared.faults.InsertRefusal.{InsertRefusal}
use Rattle.art_steps.specs.declared.faults.InsertRefusal.TheVariants.{KeyTooLong, OutOfMemory, Prefix}
use Rattle.art_routes.specs.KeyLaws.{key_long, no_key_begins_another, width_most}
use Rattle.art_routes.specs.Keys.{key_text}
use Rattle.art_routes.specs.Networks.{Block, IsNetwork}
use Rattle.art_routes.specs.Tables.{AreInOrder, route_value, routes_with_value, without_route}
use Rattle.art_routes.specs.TreeEntries.{entries_with_value}
use Rattle.art_routes.proofs.LentLemmas.{entries-with-value}
use Rattle.art_routes.proofs.ListLemmas.{entries-find}
use Rattle.art_routes.proofs.RouteLemmas.{AreNetworks, in-order, kept-networks, value-at, with-at, without-at}

module _ {V : Type 0} {P : ℕ} (arena : NodeArena Block V P) where
  -- the routes are to networks, and in order
  pub networks-held : HasKeys key_text IsNetwork arena → AreNetworks (entries_of key_text arena)
  networks-held keys = All-weaker (IsEntry key_text arena) (λ entry. IsNetwork entry.0) keys (entries_of key_text arena) (are-entries key_text arena).each

  pub order-held : AreNetworks (entries_of key_text arena) → AreInOrder (entries_of key_text arena)
  order-held all = in-order (entries_of key_text arena) all (are-entries key_text arena).ascending

  -- only a network without a route is refused, since no key is long or begins another
  pub refused-absent : HasKeys key_text IsNetwork arena → (network : Block) → IsNetwork network → (refusal : InsertRefusal) → IsRefused key_text arena (key_text network) refusal → entry_at key_text arena (key_text network) ≡ None
  refused-absent keys network is KeyTooLong due = absurd (omega (arith, due, key_long network, is.fits, width_most network is))
  refused-absent keys network is Prefix due = absurd (never-clash-in key_text IsNetwork no_key_begins_another network is arena keys due.1)
  refused-absent keys network is OutOfMemory due = due.1

-- a call at the bytes of a network
module _ {V : Type 0} {P : ℕ} (arena : NodeArena Block V P) (routes : List (Block × V)) (view_is : entries_of key_text arena ≡ routes) (all : AreNetworks (entries_of key_text arena))
    (network : Block) (is : IsNetwork network) (bytes : List ℕ) (written : bytes ≡ key_text network) where
  pub value-held : option_map (λ entry. entry.1) (entry_at key_text arena bytes) ≡ route_value routes network
  value-held =
      ap (λ x. option_map (λ (entry : Block × V). entry.1) (entry_at key_text arena x)) written
      ∙ ap (option_map (λ (entry : Block × V). entry.1)) (sym (entries-find key_text arena (key_text network))) ∙ value-at (entries_of key_text arena) routes view_is all network network is refl

  module _ (new : NodeArena Block V P) (others : SameOtherEntries key_text arena new bytes) where
    -- the entry is gone
    module _ (gone : entry_at key_text new bytes ≡ None) where
      left : entries_of key_text new ≡ without_text key_text (entries_of key_text arena) bytes
      left = list-without key_text arena new bytes gone others

      pub kept-held : AreNetworks (entries_of key_text new)
      kept-held = subst (λ es. AreNetworks es) (sym left) (kept-networks _ (entries_of key_text arena) all)

      pub without-held : entries_of key_text new ≡ without_route routes network
      without-held = left ∙ ap (without_text key_text (entries_of key_text arena)) written ∙ without-at (entries_of key_text arena) routes view_is all network network is refl

    -- it has another value
    module _ (value : V) (here : entry_at key_text new bytes ≡ option_map (λ (entry : Block × V). (entry.0, value)) (entry_at key_text arena bytes)) where
      pub now-held : entries_of key_text new ≡ entries_with_value key_text (entries_of key_text arena) bytes value
      now-held =
          one-list key_text new (entries_of key_text new) (entries_with_value key_text (entries_of key_text arena) bytes value) (are-entries key_text new)
          (entries-with-value key_text bytes value arena new (entries_of key_text arena) (are-entries key_text arena) here others)

      pub with-held : entries_of key_text new ≡ routes_with_value routes network value
      with-held = now-held ∙ ap (λ x. entries_with_value key_text (entries_of key_text arena) x value) written ∙ with-at (entries_of key_text arena) routes view_is all network network is refl value
