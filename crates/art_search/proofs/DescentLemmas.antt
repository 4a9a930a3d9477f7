-- Search: a step is right for every prefix that the node may have.
use Rattle.art_search.proofs.Names.{◌≡◌, ◌∙◌, inl, inr, ℕ, zero, suc, ◌+◌, ◌-◌, ◌≤◌, Bool, true, false, ◌||◌, nat_eq, nat_lt, List, [], ◌∷◌, ◌++◌, length, length-append, take, drop, Option, Some, None, IfSome, IfNone, Result, Ok, Err, IfOk, slice_get, refl, sym, ap, subst, arith, append_assoc, append-nil, result_ok, starts_with, common_prefix_len, cases_lt, and_from, and_parts, or_left, or_right, le-leb, le-ltb, lt-ltb, eqb_tells, nil_from_length, take_rest, same_Some, slice_get_within, drop-append_seam, IsPrefixOf, child_at, Held, HeldInner, LeadsOn, LeadsNowhere, LeadsOnFrom, LeadsNowhereFrom, goes_to}
use Rattle.art_nodes.specs.Inner.{Inner}
use Rattle.art_nodes.specs.PrefixMatch.{HasPrefix, cheap_match}
use Rattle.art_nodes.specs.declared.inner_nodes.prefix_match.AttemptOptimisticPrefixMatch.{AttemptOptimisticPrefixMatch}
use Rattle.art_nodes.specs.declared.inner_nodes.prefix_match.PessimisticMismatch.{PessimisticMismatch}

abbrev Is : Result AttemptOptimisticPrefixMatch PessimisticMismatch → Result AttemptOptimisticPrefixMatch PessimisticMismatch → Type 0
Is a b = a ≡ b

-- a text begins with another where all of the other is matched, and only there
pub begins-matched : (stored rest : List ℕ) → common_prefix_len nat_eq stored rest ≡ length stored → starts_with nat_eq rest stored ≡ true
begins-matched [] rest all = refl
begins-matched (s ∷ stored) [] all = absurd (cc)
begins-matched (s ∷ stored) (x ∷ rest) all = elim (eqb_tells s x) [
  | inl same ↦ let more : 1 + common_prefix_len nat_eq stored rest ≡ suc (length stored) = rw same.0 at all in
      let tail = begins-matched stored rest (omega (arith, more)) in rw same.0 tail
  | inr differ ↦ let none : 0 ≡ suc (length stored) = rw differ.0 at all in absurd (cc)
]

pub matched-begins : (stored rest : List ℕ) → starts_with nat_eq rest stored ≡ true → common_prefix_len nat_eq stored rest ≡ length stored
matched-begins [] rest begins = refl
matched-begins (s ∷ stored) [] begins = absurd (cc)
matched-begins (s ∷ stored) (x ∷ rest) begins = elim (eqb_tells s x) [
  | inl same ↦ let tail : starts_with nat_eq rest stored ≡ true = rw same.0 at begins in
      let more = matched-begins stored rest tail in rw same.0 (omega (arith, more))
  | inr differ ↦ let none : false ≡ true = rw differ.0 at begins in absurd (cc)
]

-- a rest that begins with the prefix and the byte goes to the byte
pub begins-prefix : (prefix more : List ℕ) → starts_with nat_eq (prefix ++ more) prefix ≡ true
begins-prefix [] more = refl
begins-prefix (x ∷ prefix) more = elim (eqb_tells x x) [
  | inl same ↦ rw same.0 (begins-prefix prefix more)
  | inr differ ↦ absurd (differ.1 refl)
]

-- the byte that a text begins with
byte-begins : (rest : List ℕ) (n byte : ℕ) → starts_with nat_eq (drop n rest) (byte ∷ []) ≡ true → slice_get rest n ≡ Some byte
byte-begins [] zero byte begins = absurd (cc)
byte-begins [] (suc n) byte begins = absurd (cc)
byte-begins (x ∷ rest) zero byte begins = elim (eqb_tells byte x) [
  | inl same ↦ ap Some (sym same.1)
  | inr differ ↦ let none : false ≡ true = rw differ.0 at begins in absurd (cc)
]
byte-begins (x ∷ rest) (suc n) byte begins = byte-begins rest n byte begins

begins-byte : (rest : List ℕ) (n byte : ℕ) → slice_get rest n ≡ Some byte → starts_with nat_eq (drop n rest) (byte ∷ []) ≡ true
begins-byte [] zero byte at = absurd (cc)
begins-byte [] (suc n) byte at = absurd (cc)
begins-byte (x ∷ rest) zero byte at = elim (eqb_tells byte x) [
  | inl same ↦ rw same.0 refl
  | inr differ ↦ let same : x ≡ byte = cc in absurd (differ.1 (sym same))
]
begins-byte (x ∷ rest) (suc n) byte at = begins-byte rest n byte at

-- where a key goes, its byte past the prefix stands
pub goes-byte : (room : ℕ) (prefix : List ℕ) (byte : ℕ) (rest : List ℕ) → goes_to room prefix byte rest ≡ true → slice_get rest (length prefix) ≡ Some byte
goes-byte room prefix byte rest goes = byte-begins rest (length prefix) byte (and_parts _ _ goes).0

-- a rest that begins with the prefix and a byte goes to the byte
pub prefix-goes : (room : ℕ) (prefix : List ℕ) (byte : ℕ) (rest : List ℕ) → IsPrefixOf (prefix ++ byte ∷ []) rest → goes_to room prefix byte rest ≡ true
prefix-goes room prefix byte rest (more, is) = subst (λ r. goes_to room prefix byte r ≡ true) (sym (is ∙ append_assoc prefix (byte ∷ []) more))
    (and_from _ _ (subst (λ r. starts_with nat_eq r (byte ∷ []) ≡ true) (sym (drop-append_seam prefix (byte ∷ more))) (begins-prefix (byte ∷ []) more)) (or_right _ _ (begins-prefix prefix (byte ∷ more))))

begins-less : (stored more rest : List ℕ) → starts_with nat_eq rest (stored ++ more) ≡ true → starts_with nat_eq rest stored ≡ true
begins-less [] more rest begins = refl
begins-less (s ∷ stored) more [] begins = absurd (cc)
begins-less (s ∷ stored) more (x ∷ rest) begins = elim (eqb_tells s x) [
  | inl same ↦ let tail : starts_with nat_eq rest (stored ++ more) ≡ true = rw same.0 at begins in rw same.0 (begins-less stored more rest tail)
  | inr differ ↦ let none : false ≡ true = rw differ.0 at begins in absurd (cc)
]

or-second : (a b : Bool) → a ≡ false → (a || b) ≡ true → b ≡ true
or-second true b untrue h = absurd (cc)
or-second false b untrue h = h

module _ {H : Type 0} (room : ℕ) (node : Inner H) (rest prefix : List ℕ) (byte : ℕ) (is_prefix : HasPrefix node prefix) where
  -- a prefix that is matched whole
  pub matched-goes : (matched : AttemptOptimisticPrefixMatch) → Ok matched ≡ cheap_match room node.prefix_len node.stored rest → matched.matched_bytes ≡ node.prefix_len → slice_get rest node.prefix_len ≡ Some byte → goes_to room prefix byte rest ≡ true
  matched-goes matched is whole at = and_from _ _ (begins-byte rest (length prefix) byte (subst (λ n. slice_get rest n ≡ Some byte) (sym is_prefix.0) at)) (elim (cases_lt room node.prefix_len) [
    | inl implicit ↦ or_left _ _ (subst (λ n. nat_lt room n ≡ true) (sym is_prefix.0) (lt-ltb room node.prefix_len implicit))
    | inr stored ↦ or_right (nat_lt room (length prefix)) _ (elim (eqb_tells (common_prefix_len nat_eq node.stored rest) (length node.stored)) [
      | inl all ↦
          let same : Is (Ok matched) (Ok (record { matched_bytes = common_prefix_len nat_eq node.stored rest; any_implicit_bytes = false })) = rw (le-ltb room node.prefix_len stored, all.0) at is in
          let bytes : matched ≡ record { matched_bytes = common_prefix_len nat_eq node.stored rest; any_implicit_bytes = false } = cc in
          let count : matched.matched_bytes ≡ common_prefix_len nat_eq node.stored rest = ap (λ m. m.matched_bytes) bytes in
          let as_long : length node.stored ≡ length prefix = sym all.1 ∙ sym count ∙ whole ∙ sym is_prefix.0 in
          subst (λ p. starts_with nat_eq rest p ≡ true) (sym (whole-prefix node.stored prefix is_prefix.1 as_long)) (begins-matched node.stored rest all.1)
      | inr part ↦ let wrong : Is (Ok matched) (Err (record { matched_bytes = common_prefix_len nat_eq node.stored rest; prefix_byte = slice_get node.stored (common_prefix_len nat_eq node.stored rest) })) = rw (le-ltb room node.prefix_len stored, part.0) at is in absurd (cc)
    ])
  ])
    where
      whole-prefix : (a b : List ℕ) → IsPrefixOf a b → length a ≡ length b → b ≡ a
      whole-prefix a b (more, is) same = let none : more ≡ [] = nil_from_length more (omega (arith, same, ap length is, length-append a more)) in is ∙ ap (λ m. a ++ m) none ∙ append-nil a

  -- a mismatch goes nowhere
  pub mismatched-nowhere : (mismatch : PessimisticMismatch) → Err mismatch ≡ cheap_match room node.prefix_len node.stored rest → goes_to room prefix byte rest ≡ true → ⊥
  mismatched-nowhere mismatch is goes = elim (cases_lt room node.prefix_len) [
    | inl implicit ↦ elim (cases_lt (length rest) node.prefix_len) [
      | inl short ↦ let within = slice_get_within rest (length prefix) byte (goes-byte room prefix byte rest goes) in omega (arith, within, short, is_prefix.0)
      | inr long ↦ let wrong : Is (Err mismatch) (Ok (record { matched_bytes = node.prefix_len; any_implicit_bytes = true })) = rw (lt-ltb room node.prefix_len implicit, le-leb node.prefix_len (length rest) long) at is in absurd (cc)
    ]
    | inr stored ↦ elim (eqb_tells (common_prefix_len nat_eq node.stored rest) (length node.stored)) [
      | inl all ↦ let wrong : Is (Err mismatch) (Ok (record { matched_bytes = common_prefix_len nat_eq node.stored rest; any_implicit_bytes = false })) = rw (le-ltb room node.prefix_len stored, all.0) at is in absurd (cc)
      | inr part ↦
          let begins = or-second _ _ (subst (λ n. nat_lt room n ≡ false) (sym is_prefix.0) (le-ltb room node.prefix_len stored)) (and_parts _ _ goes).1 in
          let front = begins-less node.stored is_prefix.1.0 rest (subst (λ p. starts_with nat_eq rest p ≡ true) is_prefix.1.1 begins) in
          part.1 (matched-begins node.stored rest front)
    ]
  ]

pub slice_get-drop : (xs : List ℕ) (n k : ℕ) → slice_get (drop n xs) k ≡ slice_get xs (n + k)
slice_get-drop xs zero k = ap (slice_get xs) (omega arith)
slice_get-drop [] (suc n) k = refl
slice_get-drop (x ∷ xs) (suc n) k = let more : suc n + k ≡ suc (n + k) = omega arith in slice_get-drop xs n k ∙ ap (slice_get (x ∷ xs)) (sym more)

module _ {H : Type 0} (room : ℕ) (node : Inner H) (key : List ℕ) (depth : ℕ) (within : depth ≤ length key) where
  -- what is left of a key, as code slices it
  rest-is : (P : List ℕ → Type 0) → P (take (length key - depth) (drop depth key)) → P (drop depth key)
  rest-is P h = subst P (take_rest key depth) h

  pub step-mismatched : (mismatch : PessimisticMismatch) → Err mismatch ≡ cheap_match room node.prefix_len node.stored (take (length key - depth) (drop depth key)) → LeadsNowhere room node key depth
  step-mismatched mismatch is = λ prefix byte is_prefix goes. absurd (mismatched-nowhere room node (drop depth key) prefix byte is_prefix mismatch (rest-is (λ r. Err mismatch ≡ cheap_match room node.prefix_len node.stored r) is) goes)

  module _ (matched : AttemptOptimisticPrefixMatch) (is : Ok matched ≡ cheap_match room node.prefix_len node.stored (take (length key - depth) (drop depth key))) (whole : matched.matched_bytes ≡ node.prefix_len) where
    module _ (byte : ℕ) (at_place : slice_get key (depth + matched.matched_bytes) ≡ Some byte) where
      pub step-childless : child_at node.children byte ≡ None → LeadsNowhere room node key depth
      step-childless none = λ prefix other is_prefix goes.
          let there : slice_get key (depth + length prefix) ≡ Some other = sym (slice_get-drop key depth (length prefix)) ∙ goes-byte room prefix other (drop depth key) goes in
          let same_place : depth + matched.matched_bytes ≡ depth + length prefix = omega (arith, whole, is_prefix.0) in
          let one : Some byte ≡ Some other = sym at_place ∙ ap (slice_get key) same_place ∙ there in
          let same : byte ≡ other = cc in
          subst (λ b. child_at node.children b ≡ None) same none

      pub step-on : (child : H) → child_at node.children byte ≡ Some child → LeadsOn room node key depth (depth + matched.matched_bytes, child)
      step-on child has = record {
        byte = byte;
        place = ap (λ n. depth + n) whole;
        at_place = at_place;
        child = has;
        goes = λ prefix is_prefix. matched-goes room node (drop depth key) prefix byte is_prefix matched (rest-is (λ r. Ok matched ≡ cheap_match room node.prefix_len node.stored r) is) whole
            (slice_get-drop key depth node.prefix_len ∙ ap (λ n. slice_get key (depth + n)) (sym whole) ∙ at_place);
      }

-- the result of a match, by whether there is one
module _ (answer : Result AttemptOptimisticPrefixMatch PessimisticMismatch) where
  pub from-match : (P : AttemptOptimisticPrefixMatch → Type 0) (matched : AttemptOptimisticPrefixMatch) → result_ok answer ≡ Some matched → IfOk answer P → P matched
  from-match = by_answer answer
    where
      by_answer : (r : Result AttemptOptimisticPrefixMatch PessimisticMismatch) (P : AttemptOptimisticPrefixMatch → Type 0) (matched : AttemptOptimisticPrefixMatch) → result_ok r ≡ Some matched → IfOk r P → P matched
      by_answer (Ok m) P matched is holds = subst P (same_Some m matched is) holds
      by_answer (Err e) P matched is holds = absurd (cc)

  pub is-match : (matched : AttemptOptimisticPrefixMatch) → result_ok answer ≡ Some matched → Is (Ok matched) answer
  is-match = by_answer answer
    where
      by_answer : (r : Result AttemptOptimisticPrefixMatch PessimisticMismatch) (matched : AttemptOptimisticPrefixMatch) → result_ok r ≡ Some matched → Is (Ok matched) r
      by_answer (Ok m) matched is = ap Ok (sym (same_Some m matched is))
      by_answer (Err e) matched is = absurd (cc)

  pub is-mismatch : result_ok answer ≡ None → (mismatch : PessimisticMismatch) × Is (Err mismatch) answer
  is-mismatch = by_answer answer
    where
      by_answer : (r : Result AttemptOptimisticPrefixMatch PessimisticMismatch) → result_ok r ≡ None → (mismatch : PessimisticMismatch) × Is (Err mismatch) r
      by_answer (Ok m) none = absurd (cc)
      by_answer (Err e) none = (e, refl)

-- a step from the node alone, by where the node is held
module _ {H L : Type 0} (room : ℕ) (at : Held H L) (node : Inner H) (key : List ℕ) (depth : ℕ) (here : at ≡ HeldInner node) where
  one-node : (other : Inner H) → at ≡ HeldInner other → node ≡ other
  one-node other is = let one : HeldInner node ≡ HeldInner other = sym here ∙ is in cc

  pub leads-on-from : (next : Option (ℕ × H)) → IfSome next (LeadsOn room node key depth) → IfSome next (LeadsOnFrom room at key depth)
  leads-on-from None on = tt
  leads-on-from (Some next) on = λ other is. subst (λ n. LeadsOn room n key depth next) (one-node other is) on

  pub leads-nowhere-from : (next : Option (ℕ × H)) → IfNone next (LeadsNowhere room node key depth) → IfNone next (LeadsNowhereFrom room at key depth)
  leads-nowhere-from None nowhere = λ other is. subst (λ n. LeadsNowhere room n key depth) (one-node other is) nowhere
  leads-nowhere-from (Some next) nowhere = tt
