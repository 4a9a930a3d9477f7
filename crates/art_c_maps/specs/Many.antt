-- Many entries at once: what look-ups find, and keys that lie one behind another.
use Rattle.std.specs.Prelude.{ℕ, ◌-◌, List, [], ◌∷◌, drop, map, take, Option, Some, None}

-- 1 for a key that has an entry, and 0 for any other
abbrev pub one_if_found : {V : Type 0} → Option V → ℕ
one_if_found None = 0
one_if_found (Some value) = 1

-- what is found, or else what was there before
abbrev pub found_or : {V : Type 0} → Option V → V → V
found_or None before = before
found_or (Some value) before = value

module _ {K V : Type 0} (look : K → Option V) where
  -- which of the keys are found
  abbrev pub are_found : List K → List ℕ
  are_found keys = map (λ key. one_if_found (look key)) keys

  -- the value of each key, or else the one beside it
  abbrev pub found_values : List (K × V) → List V
  found_values pairs = map (λ pair. found_or (look pair.0) pair.1) pairs

-- bytes cut into keys, of which each ends at one of these places, and begins where the one before it ends, the first at a start
abbrev pub cut_from : ℕ → List ℕ → List ℕ → List (List ℕ)
cut_from start bytes [] = []
cut_from start bytes (end ∷ ends) = take (end - start) (drop start bytes) ∷ cut_from end bytes ends

abbrev pub cut : List ℕ → List ℕ → List (List ℕ)
cut bytes ends = cut_from 0 bytes ends
