-- What a removal of some of the entries leaves where it is refused.
use Rattle.std.specs.Prelude.{◌≡◌, ◌⊎◌, Bool, false, cond, List, [], ◌∷◌}

module _ {F K V : Type 0} (T : F → K → V → Bool → V → F → Type 0) (needs_node : K → Type 0) where
  -- f was called at each entry in turn, up to one at which it returned false, whose removal needs a node: it stays, with
  -- the value that f left there; the entries behind it are unchanged, and those before it are kept where f returned true,
  -- with the values that it left
  abbrev pub StopsRetaining : F → List (K × V) → List (K × V) → Type 0
  StopsRetaining f [] new = ⊥
  StopsRetaining f (entry ∷ entries) new =
      (keeps : Bool) × (value : V) × (f' : F) × T f entry.0 entry.1 keeps value f'
      × (((keeps ≡ false) × needs_node entry.0 × (new ≡ (entry.0, value) ∷ entries))
      ⊎ ((rest : List (K × V)) × StopsRetaining f' entries rest × (new ≡ cond keeps ((entry.0, value) ∷ rest) rest)))
