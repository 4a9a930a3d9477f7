-- Child maps: laws for proofs in crates above, of look-ups after a write and a removal, order, sizes and ends.
use Rattle.std.proofs.Common.{◌≡◌, ℕ, zero, suc, ◌+◌, ◌-◌, ◌<◌, ◌≤◌, ◌≢◌, nat_lt, [], ◌∷◌, ◌++◌, length, Some, None, IsSome, IsNone, refl, if◌then◌else◌, true, false, sym, ◌∙◌, ap, arith, filter, slice_get, inl, inr, All}
use Rattle.std.proofs.lemmas.Bool.{cases_lt}
use Rattle.std.proofs.lemmas.Option.{same_Some}
use Rattle.std.specs.Option.{is_some}
use Rattle.std.proofs.lemmas.List.{length-map}
use Rattle.std.proofs.lemmas.List.Elements.{All-nil, All-cons}
use Rattle.art_nodes.specs.ChildMap.{ChildMap, IsAscending, child_at, with_child, without_child, key_bytes, first_pair, last_pair}
use Rattle.art_nodes.specs.Inner.{Inner, HasRoomFor, IsInner, with_children}
use Rattle.art_nodes.proofs.ChildMapLemmas.{IsAbove, child_at-front, child_at-same, child_at-later, with_child-later, with_child-same, cases_eq, eq-false, eq-true, lt-true, lt-false, above-with_child, above-without_child, length-with_child, length-without_child, ascending-length}

module _ {H : Type 0} where
  -- in one map before another
  child_at-before : (children later : ChildMap H) (byte : ℕ) → child_at later byte ≡ None → child_at (children ++ later) byte ≡ child_at children byte
  child_at-before [] later byte none = none
  child_at-before (x ∷ children) later byte none = elim (cases_eq x.0 byte) [
    | inl same ↦ rw (eq-true x.0 byte same) refl
    | inr differs ↦ rw (eq-false x.0 byte differs) (child_at-before children later byte none)
  ]

  child_at-after : (children later : ChildMap H) (byte : ℕ) → child_at children byte ≡ None → child_at (children ++ later) byte ≡ child_at later byte
  child_at-after [] later byte none = refl
  child_at-after (x ∷ children) later byte none = elim (cases_eq x.0 byte) [
    | inl same ↦ (let there : Some x.1 ≡ None = rw (eq-true x.0 byte same) at none in absurd (cc))
    | inr differs ↦ rw (eq-false x.0 byte differs) (child_at-after children later byte (rw (eq-false x.0 byte differs) at none))
  ]

  -- among the lesser bytes
  child_at-lesser : (children : ChildMap H) (byte other : ℕ) → other < byte → child_at (filter (λ p. nat_lt p.0 byte) children) other ≡ child_at children other
  child_at-lesser [] byte other below = refl
  child_at-lesser (x ∷ children) byte other below = elim (cases_lt x.0 byte) [
    | inl kept ↦ rw (lt-true x.0 byte kept) (elim (cases_eq x.0 other) [
      | inl same ↦ rw (eq-true x.0 other same) refl
      | inr differs ↦ rw (eq-false x.0 other differs) (child_at-lesser children byte other below)
    ])
    | inr dropped ↦ rw (lt-false x.0 byte dropped, eq-false x.0 other (λ e. omega arith)) (child_at-lesser children byte other below)
  ]

  child_at-not_lesser : (children : ChildMap H) (byte other : ℕ) → byte ≤ other → child_at (filter (λ p. nat_lt p.0 byte) children) other ≡ None
  child_at-not_lesser [] byte other from = refl
  child_at-not_lesser (x ∷ children) byte other from = elim (cases_lt x.0 byte) [
    | inl kept ↦ rw (lt-true x.0 byte kept, eq-false x.0 other (λ e. omega arith)) (child_at-not_lesser children byte other from)
    | inr dropped ↦ rw (lt-false x.0 byte dropped) (child_at-not_lesser children byte other from)
  ]

  -- among the greater bytes
  child_at-greater : (children : ChildMap H) (byte other : ℕ) → byte < other → child_at (filter (λ p. nat_lt byte p.0) children) other ≡ child_at children other
  child_at-greater [] byte other above = refl
  child_at-greater (x ∷ children) byte other above = elim (cases_lt byte x.0) [
    | inl kept ↦ rw (lt-true byte x.0 kept) (elim (cases_eq x.0 other) [
      | inl same ↦ rw (eq-true x.0 other same) refl
      | inr differs ↦ rw (eq-false x.0 other differs) (child_at-greater children byte other above)
    ])
    | inr dropped ↦ rw (lt-false byte x.0 dropped, eq-false x.0 other (λ e. omega arith)) (child_at-greater children byte other above)
  ]

  child_at-not_greater : (children : ChildMap H) (byte other : ℕ) → other ≤ byte → child_at (filter (λ p. nat_lt byte p.0) children) other ≡ None
  child_at-not_greater [] byte other upto = refl
  child_at-not_greater (x ∷ children) byte other upto = elim (cases_lt byte x.0) [
    | inl kept ↦ rw (lt-true byte x.0 kept, eq-false x.0 other (λ e. omega arith)) (child_at-not_greater children byte other upto)
    | inr dropped ↦ rw (lt-false byte x.0 dropped) (child_at-not_greater children byte other upto)
  ]

  -- a child is found under the byte that it was written under
  pub child_at_written : (children : ChildMap H) (byte : ℕ) (child : H) → child_at (with_child children byte child) byte ≡ Some child
  child_at_written children byte child =
      child_at-after (filter (λ p. nat_lt p.0 byte) children) ((byte, child) ∷ filter (λ p. nat_lt byte p.0) children) byte (child_at-not_lesser children byte byte (omega arith))
      ∙ rw (eq-true byte byte refl) refl

  -- a child that is written where it is changes nothing
  above-written_over : (low : ℕ) (children : ChildMap H) (byte : ℕ) (child : H) → IsAbove low children → child_at children byte ≡ Some child → with_child children byte child ≡ children
  above-written_over low [] byte child above some = absurd (cc)
  above-written_over low (x ∷ children) byte child above some = elim (cases_lt byte x.0) [
    | inl before ↦ (let wrong : None ≡ Some child = sym (child_at-front x.0 byte (x ∷ children) before (omega arith, above.1, above.2)) ∙ some in absurd (cc))
    | inr from ↦ elim (cases_lt x.0 byte) [
      | inl after ↦ with_child-later x.0 byte x.1 children child after ∙ ap (λ rest. x ∷ rest) (above-written_over (suc x.0) children byte child above.2 (sym (child_at-later x.0 byte x.1 children (λ e. omega arith)) ∙ some))
      | inr upto ↦
          let same : x.0 ≡ byte = omega arith in
          let own : x.1 ≡ child = same_Some x.1 child (sym (child_at-same x.0 byte x.1 children same) ∙ some) in
          let pair : (byte, child) ≡ (x.0, x.1) = sym (ap (λ n. (n, x.1)) same ∙ ap (λ h. (byte, h)) own) in
          with_child-same x.0 byte x.1 children child same above.2 ∙ ap (λ first. first ∷ children) pair
    ]
  ]

  pub written_over : (children : ChildMap H) (byte : ℕ) (child : H) → IsAscending (key_bytes children) → child_at children byte ≡ Some child → with_child children byte child ≡ children
  written_over = above-written_over 0

  -- and every other byte has the child that it had
  pub child_at_written_other : (children : ChildMap H) (byte other : ℕ) (child : H) → other ≢ byte → child_at (with_child children byte child) other ≡ child_at children other
  child_at_written_other children byte other child differs =
      let lesser = filter (λ p. nat_lt p.0 byte) children in
      let greater = filter (λ p. nat_lt byte p.0) children in
      let skips : child_at ((byte, child) ∷ greater) other ≡ child_at greater other = rw (eq-false byte other (λ e. differs (sym e))) refl in
      elim (cases_lt other byte) [
        | inl below ↦ child_at-before lesser ((byte, child) ∷ greater) other (skips ∙ child_at-not_greater children byte other (omega arith)) ∙ child_at-lesser children byte other below
        | inr from ↦ child_at-after lesser ((byte, child) ∷ greater) other (child_at-not_lesser children byte other from) ∙ skips ∙ child_at-greater children byte other (omega arith)
      ]

  -- none is found under a byte that was removed
  pub child_at_removed : (children : ChildMap H) (byte : ℕ) → child_at (without_child children byte) byte ≡ None
  child_at_removed [] byte = refl
  child_at_removed (x ∷ children) byte = elim (cases_eq x.0 byte) [
    | inl same ↦ rw (eq-true x.0 byte same) (child_at_removed children byte)
    | inr differs ↦ rw (eq-false x.0 byte differs, eq-false x.0 byte differs) (child_at_removed children byte)
  ]

  -- and every other byte has the child that it had
  pub child_at_removed_other : (children : ChildMap H) (byte other : ℕ) → other ≢ byte → child_at (without_child children byte) other ≡ child_at children other
  child_at_removed_other [] byte other differs = refl
  child_at_removed_other (x ∷ children) byte other differs = elim (cases_eq x.0 byte) [
    | inl same ↦ rw (eq-true x.0 byte same, eq-false x.0 other (λ e. differs (sym e ∙ same))) (child_at_removed_other children byte other differs)
    | inr kept ↦ rw (eq-false x.0 byte kept) (elim (cases_eq x.0 other) [
      | inl found ↦ rw (eq-true x.0 other found) refl
      | inr passed ↦ rw (eq-false x.0 other passed) (child_at_removed_other children byte other differs)
    ])
  ]

  -- bytes ascend after a write and after a removal
  pub ascending_written : (children : ChildMap H) (byte : ℕ) (child : H) → byte < 256 → IsAscending (key_bytes children) → IsAscending (key_bytes (with_child children byte child))
  ascending_written children byte child fits ascending = above-with_child 0 byte children child (omega arith) fits ascending

  pub ascending_removed : (children : ChildMap H) (byte : ℕ) → IsAscending (key_bytes children) → IsAscending (key_bytes (without_child children byte))
  ascending_removed children byte ascending = above-without_child 0 byte children ascending

  -- a new byte is one child more, one that is there none
  pub length_written_new : (children : ChildMap H) (byte : ℕ) (child : H) → IsAscending (key_bytes children) → IsNone (child_at children byte) → length (with_child children byte child) ≡ length children + 1
  length_written_new children byte child ascending absent = rw absent at (length-with_child 0 byte children child ascending)

  pub length_written_over : (children : ChildMap H) (byte : ℕ) (child : H) → IsAscending (key_bytes children) → IsSome (child_at children byte) → length (with_child children byte child) ≡ length children
  length_written_over children byte child ascending there = rw there at (length-with_child 0 byte children child ascending)

  -- a byte that is removed is one child less, one that is not there none
  pub length_removed : (children : ChildMap H) (byte : ℕ) → IsAscending (key_bytes children) → IsSome (child_at children byte) → length (without_child children byte) + 1 ≡ length children
  length_removed children byte ascending there = rw there at (length-without_child 0 byte children ascending)

  pub length_removed_none : (children : ChildMap H) (byte : ℕ) → IsAscending (key_bytes children) → IsNone (child_at children byte) → length (without_child children byte) ≡ length children
  length_removed_none children byte ascending absent = let counted = rw absent at (length-without_child 0 byte children ascending) in omega (arith, counted)

  -- there are at most 256 children
  pub length_ascending : (children : ChildMap H) → IsAscending (key_bytes children) → length children ≤ 256
  length_ascending children ascending = omega (arith, ascending-length 0 (key_bytes children) (omega arith) ascending, length-map children (λ p. p.0))

  -- where a byte has no child, there are fewer than 256
  pub length_absent : (children : ChildMap H) (byte : ℕ) → byte < 256 → IsAscending (key_bytes children) → IsNone (child_at children byte) → length children < 256
  length_absent children byte fits ascending absent = elim children as (λ cs. IsAscending (key_bytes cs) → IsNone (child_at cs byte) → length cs < 256) [
    | [] ↦ λ asc none. omega arith
    | x ∷ others ↦ λ asc none.
        let one_more = length_written_new (x ∷ others) byte x.1 asc none in
        let bytes = ascending-length 0 (key_bytes (with_child (x ∷ others) byte x.1)) (omega arith) (ascending_written (x ∷ others) byte x.1 fits asc) in
        omega (arith, one_more, bytes, length-map (with_child (x ∷ others) byte x.1) (λ p. p.0))
  ] ascending absent

  child_at-placed : (low : ℕ) (children : ChildMap H) (place byte : ℕ) (child : H) → IsAbove low children → slice_get children place ≡ Some (byte, child) → (low ≤ byte) × (child_at children byte ≡ Some child)
  child_at-placed low [] place byte child above is = cc
  child_at-placed low (x ∷ children) zero byte child above is =
      let pair : x ≡ (byte, child) = cc in
      let front : x.0 ≡ byte = ap (λ p. p.0) pair in
      (omega (arith, above.0), child_at-same x.0 byte x.1 children front ∙ ap (λ p. Some p.1) pair)
  child_at-placed low (x ∷ children) (suc place) byte child above is =
      let rest = child_at-placed (suc x.0) children place byte child above.2 is in
      (omega (arith, above.0, rest.0), child_at-later x.0 byte x.1 children (λ e. omega (arith, rest.0)) ∙ rest.1)

  -- the child of each pair is found under its byte
  pub child_at_place : (children : ChildMap H) (place byte : ℕ) (child : H) → IsAscending (key_bytes children) → slice_get children place ≡ Some (byte, child) → child_at children byte ≡ Some child
  child_at_place children place byte child ascending is = (child_at-placed 0 children place byte child ascending is).1

  -- so too those of the first pair and of the last
  pub child_at_first : (children : ChildMap H) (pair : ℕ × H) → first_pair children ≡ Some pair → child_at children pair.0 ≡ Some pair.1
  child_at_first [] pair is = cc
  child_at_first (x ∷ children) pair is =
      let first : x ≡ pair = cc in
      child_at-same x.0 pair.0 x.1 children (ap (λ p. p.0) first) ∙ ap (λ p. Some p.1) first

  pub child_at_last : (children : ChildMap H) (pair : ℕ × H) → IsAscending (key_bytes children) → last_pair children ≡ Some pair → child_at children pair.0 ≡ Some pair.1
  child_at_last children pair ascending is = child_at_place children (length children - 1) pair.0 pair.1 ascending is

  -- and a child that is found is in a pair
  pub place_of_child : (children : ChildMap H) (byte : ℕ) (child : H) → child_at children byte ≡ Some child → (place : ℕ) × (slice_get children place ≡ Some (byte, child))
  place_of_child [] byte child is = cc
  place_of_child (x ∷ children) byte child is = elim (cases_eq x.0 byte) [
    | inl same ↦
        let found : Some x.1 ≡ Some child = sym (child_at-same x.0 byte x.1 children same) ∙ is in
        let second : x.1 ≡ child = cc in
        (0, ap (λ b. Some (b, x.1)) same ∙ ap (λ c. Some (byte, c)) second)
    | inr differs ↦ (let rest = place_of_child children byte child (sym (child_at-later x.0 byte x.1 children differs) ∙ is) in (suc rest.0, rest.1))
  ]

  child_at-above : (low : ℕ) (children : ChildMap H) (byte : ℕ) (child : H) → IsAbove low children → child_at children byte ≡ Some child → low ≤ byte
  child_at-above low children byte child above is = let found = place_of_child children byte child is in (child_at-placed low children found.0 byte child above found.1).0

  -- the first pair has the least byte, and the last the greatest
  pub first_is_least : (children : ChildMap H) (least : ℕ × H) (byte : ℕ) (child : H) → IsAscending (key_bytes children) → first_pair children ≡ Some least → child_at children byte ≡ Some child → least.0 ≤ byte
  first_is_least [] least byte child ascending first is = cc
  first_is_least (x ∷ children) least byte child ascending first is =
      let pair : x ≡ least = cc in
      let from = child_at-above x.0 (x ∷ children) byte child (omega arith, ascending.1, ascending.2) is in
      omega (arith, from, ap (λ p. p.0) pair)

  last-greatest : (low : ℕ) (children : ChildMap H) (place : ℕ) (greatest : ℕ × H) (byte : ℕ) (child : H) → IsAbove low children → place + 1 ≡ length children → slice_get children place ≡ Some greatest → child_at children byte ≡ Some child → byte ≤ greatest.0
  last-greatest low [] place greatest byte child above last at is = cc
  last-greatest low (x ∷ y ∷ children) zero greatest byte child above last at is = absurd (omega arith)
  last-greatest low (x ∷ []) zero greatest byte child above last at is =
      let pair : x ≡ greatest = cc in
      elim (cases_eq x.0 byte) [
        | inl same ↦ omega (arith, same, ap (λ p. p.0) pair)
        | inr differs ↦ (let none : None ≡ Some child = sym (child_at-later x.0 byte x.1 [] differs) ∙ is in absurd (cc))
      ]
  last-greatest low (x ∷ children) (suc place) greatest byte child above last at is = elim (cases_eq x.0 byte) [
    | inl same ↦ (let later = (child_at-placed (suc x.0) children place greatest.0 greatest.1 above.2 at).0 in omega (arith, same, later))
    | inr differs ↦ last-greatest (suc x.0) children place greatest byte child above.2 (omega arith) at (sym (child_at-later x.0 byte x.1 children differs) ∙ is)
  ]

  pub last_is_greatest : (children : ChildMap H) (greatest : ℕ × H) (byte : ℕ) (child : H) → IsAscending (key_bytes children) → last_pair children ≡ Some greatest → child_at children byte ≡ Some child → byte ≤ greatest.0
  last_is_greatest [] greatest byte child ascending last is = cc
  last_is_greatest (x ∷ children) greatest byte child ascending last is = last-greatest 0 (x ∷ children) (length (x ∷ children) - 1) greatest byte child ascending (omega arith) last is

  all-below : (low : ℕ) (children : ChildMap H) (place : ℕ) (greatest : ℕ × H) (byte : ℕ) → IsAbove low children → place + 1 ≡ length children → slice_get children place ≡ Some greatest → greatest.0 < byte → All (λ b. b < byte) (key_bytes children)
  all-below low [] place greatest byte above last at less = All-nil (λ b. b < byte)
  all-below low (x ∷ y ∷ children) zero greatest byte above last at less = absurd (omega arith)
  all-below low (x ∷ []) zero greatest byte above last at less =
      let pair : x ≡ greatest = cc in
      All-cons (λ b. b < byte) x.0 [] (omega (arith, less, ap (λ p. p.0) pair)) (All-nil (λ b. b < byte))
  all-below low (x ∷ children) (suc place) greatest byte above last at less =
      let later = (child_at-placed (suc x.0) children place greatest.0 greatest.1 above.2 at).0 in
      All-cons (λ b. b < byte) x.0 (key_bytes children) (omega (arith, later, less)) (all-below (suc x.0) children place greatest byte above.2 (omega arith) at less)

  -- a byte above the greatest is above each
  pub all_below_greater : (children : ChildMap H) (greatest : ℕ × H) (byte : ℕ) → IsAscending (key_bytes children) → last_pair children ≡ Some greatest → greatest.0 < byte → All (λ b. b < byte) (key_bytes children)
  all_below_greater [] greatest byte ascending last less = All-nil (λ b. b < byte)
  all_below_greater (x ∷ children) greatest byte ascending last less = all-below 0 (x ∷ children) (length (x ∷ children) - 1) greatest byte ascending (omega arith) last less

  -- a node stays sound after a write for which it had spare capacity
  pub sound_written : (prefix_room room : ℕ) (node : Inner H) (byte : ℕ) (child : H) → IsInner prefix_room room node → byte < 256 → HasRoomFor room node byte → IsInner prefix_room room (with_children node (with_child node.children byte child))
  sound_written prefix_room room node byte child sound fits has_room =
      let children = node.children in
      let counts = elim (child_at children byte) as (λ found. (IsNone found → length children < room) → length (with_child children byte child) ≡ (if is_some found then length children else length children + 1) → length (with_child children byte child) ≤ room) [
        | Some old ↦ λ room_for same. omega (arith, same, sound.fits)
        | None ↦ λ room_for more. omega (arith, more, room_for refl)
      ] has_room (length-with_child 0 byte children child sound.ascending) in
      record { ascending = ascending_written children byte child fits sound.ascending; fits = counts; capped_prefix = sound.capped_prefix }

  -- and where a byte is removed
  pub sound_removed : (prefix_room room : ℕ) (node : Inner H) (byte : ℕ) → IsInner prefix_room room node → IsInner prefix_room room (with_children node (without_child node.children byte))
  sound_removed prefix_room room node byte sound =
      let children = node.children in
      let counts = elim (is_some (child_at children byte)) as (λ b. length (without_child children byte) + (if b then 1 else 0) ≡ length children → length (without_child children byte) ≤ room) [
        | true ↦ λ less. omega (arith, less, sound.fits)
        | false ↦ λ same. omega (arith, same, sound.fits)
      ] (length-without_child 0 byte children sound.ascending) in
      record { ascending = ascending_removed children byte sound.ascending; fits = counts; capped_prefix = sound.capped_prefix }
