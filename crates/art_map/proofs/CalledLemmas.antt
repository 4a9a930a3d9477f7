-- A closure that is called at entries in turn, as a test of them.
use denote.Param.Members.{Mut}
use denote.Ref.{Bor, MutBor}
use Rattle.std.proofs.Common.{◌≡◌, ◌∙◌, Bool, true, cond, List, [], ◌∷◌, map, ap, subst}
use Rattle.std.specs.List.{FoldsTo}
use Rattle.std.specs.Map.Calls.{CallableOnEachPair, RetainsPairs, SomeCallAtPair}
use Rattle.art_pages.specs.Retaining.{CallableInTurn, ChangesInTurn, ChangesValue, TakesValue}

module _ {F K V : Type 0} (g : Mut F (Bor K × (MutBor V × Unit {0})) (Unit {0} × (MutBor V × Unit {0}))) where
  -- a call of a closure after which the entry stays, as a test of it
  abbrev pub changing : F → K → V → Bool → V → F → Type 0
  changing f key value keeps now f' = (keeps ≡ true) × ChangesValue g f key value now f'

  as-calls : (entries : List (K × V)) (f f' : F) → FoldsTo (SomeCallAtPair changing) f entries f' → FoldsTo (SomeCallAtPair (λ state key value told now left. ChangesValue g state key value now left)) f entries f'
  as-calls [] f f' same = same
  as-calls (entry ∷ entries) f f' (state, (keeps, now, changes), folds) = (state, (keeps, now, changes.1), as-calls entries state f' folds)

  pub testable : (f : F) (entries : List (K × V)) → CallableInTurn g f entries → CallableOnEachPair changing (TakesValue g) f entries
  testable f entries callable = record { at = λ before after f' key value is folds. callable.at before after f' key value is (as-calls before f f' folds) }

  pub changes-in-turn : (f : F) (old new : List (K × V)) → RetainsPairs changing f old new → ChangesInTurn g f old new
  changes-in-turn f [] new none = none
  changes-in-turn f (entry ∷ entries) new (keeps, value, f', rest, (stays, changes), later, is) =
      (value, f', rest, changes, changes-in-turn f' entries rest later, is ∙ ap (λ b. cond b ((entry.0, value) ∷ rest) rest) stays)

  -- no key changes
  pub same-keys : (f : F) (old new : List (K × V)) → ChangesInTurn g f old new → map (λ (e : K × V). e.0) new ≡ map (λ (e : K × V). e.0) old
  same-keys f [] new none = ap (map (λ (e : K × V). e.0)) none
  same-keys f (entry ∷ entries) new (value, f', rest, changes, later, is) = ap (map (λ (e : K × V). e.0)) is ∙ ap (λ l. entry.0 ∷ l) (same-keys f' entries rest later)

-- where each call leaves what a function makes of key and value, and the closure as it was, it is as if that function had been
-- applied to each entry
pub values_same : {F K V : Type 0} (g : Mut F (Bor K × (MutBor V × Unit {0})) (Unit {0} × (MutBor V × Unit {0}))) (change : K → V → V) (f : F)
    → ((key : K) (value now : V) (f' : F) → ChangesValue g f key value now f' → (now ≡ change key value) × (f' ≡ f))
    → (old new : List (K × V)) → ChangesInTurn g f old new → new ≡ map (λ (e : K × V). (e.0, change e.0 e.1)) old
values_same g change f same [] new none = none
values_same g change f same (entry ∷ entries) new (value, f', rest, called, onwards, is) =
    let one = same entry.0 entry.1 value f' called in
    let later = values_same g change f same entries rest (subst (λ state. ChangesInTurn g state entries rest) one.1 onwards) in
    is ∙ ap (λ now. (entry.0, now) ∷ rest) one.0 ∙ ap (λ all. (entry.0, change entry.0 entry.1) ∷ all) later
