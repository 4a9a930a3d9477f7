-- The children of a node whose bytes are not above a byte.
use Rattle.std.specs.Prelude.{◌⊎◌, Option, IfSome, IfNone}
use Rattle.std.specs.Iterator.{YieldsLast}
use Rattle.std.proofs.Common.{◌≡◌, ◌≢◌, ◌∙◌, ℕ, suc, ◌<◌, nat_lt, nat_le, filter, List, [], ◌∷◌, ◌++◌, Contains, Some, None, refl, sym, ap, subst, inl, inr, arith}
use Rattle.std.proofs.lemmas.Bool.{cases_lt, lt-ltb, le-ltb, le-leb, lt-leb, ne_eqb, ltb-true}
use Rattle.std.proofs.lemmas.Bool.Decides.{eqb_tells}
use Rattle.std.proofs.lemmas.List.Elements.{Contains-append_right}
use Rattle.art_bytes.proofs.Members.{first_there, part_inside}
use Rattle.art_nodes.specs.ChildMap.{ChildMap, IsAscending, IsAscendingFrom, child_at, key_bytes, pairs_within}
use Rattle.std.specs.declared.ops.Bound.TheVariants.{Excluded, Included, Unbounded}

-- lists that end in one item each have the same last item
last-same : {A : Type 0} (xs ys : List A) (x y : A) → xs ++ x ∷ [] ≡ ys ++ y ∷ [] → x ≡ y
last-same [] [] x y is = cc
last-same [] (z ∷ []) x y is = absurd (cc)
last-same [] (z ∷ (w ∷ ys)) x y is = absurd (cc)
last-same (z ∷ []) [] x y is = absurd (cc)
last-same (z ∷ (w ∷ xs)) [] x y is = absurd (cc)
last-same (z ∷ xs) (w ∷ ys) x y is = last-same xs ys x y (cc)

-- a list that ends in an item is not empty
some-last : {A : Type 0} (xs : List A) (x : A) → xs ++ x ∷ [] ≡ [] → ⊥
some-last [] x is = cc
some-last (z ∷ xs) x is = cc

module _ {H : Type 0} (byte : ℕ) where
  -- where all bytes are above the byte, no child is under it or before it
  past : (low : ℕ) (children : ChildMap H) → byte < low → IsAscendingFrom low (key_bytes children) → (filter (λ p. nat_le p.0 byte) children ≡ []) × (filter (λ p. nat_lt p.0 byte) children ≡ []) × (child_at children byte ≡ None)
  past low [] less ascend = (refl, refl, refl)
  past low (x ∷ others) less ascend =
      let more : byte < x.0 = omega (arith, less, ascend.0) in
      let rest = past (suc x.0) others (omega (arith, more)) ascend.2 in
      let apart : x.0 ≢ byte = λ same. omega (arith, more, same) in
      (rw (lt-leb x.0 byte more, rest.0), rw (le-ltb x.0 byte (omega (arith, more)), rest.1), rw (ne_eqb x.0 byte apart, rest.2))

  -- the children up to the byte are those before it, and the one under it, if there is one
  parts : (low : ℕ) (children : ChildMap H) → IsAscendingFrom low (key_bytes children) → ((child_at children byte ≡ None) × (filter (λ p. nat_le p.0 byte) children ≡ filter (λ p. nat_lt p.0 byte) children)) ⊎ ((child : H) × (child_at children byte ≡ Some child) × (filter (λ p. nat_le p.0 byte) children ≡ filter (λ p. nat_lt p.0 byte) children ++ (byte, child) ∷ []))
  parts low [] ascend = inl (refl, refl)
  parts low (x ∷ others) ascend = elim (cases_lt x.0 byte) [
    | inl less ↦
        let apart : x.0 ≢ byte = λ same. omega (arith, less, same) in
        elim (parts (suc x.0) others ascend.2) [
          | inl rest ↦ inl (rw (ne_eqb x.0 byte apart, rest.0), rw (lt-ltb x.0 byte less, le-leb x.0 byte (omega (arith, less)), rest.1))
          | inr rest ↦ inr (rest.0, rw (ne_eqb x.0 byte apart, rest.1), rw (lt-ltb x.0 byte less, le-leb x.0 byte (omega (arith, less)), rest.2))
        ]
    | inr from ↦ elim (eqb_tells x.0 byte) [
      | inl same ↦
          let rest = past (suc x.0) others (omega (arith, same.1)) ascend.2 in
          let one : ◌≡◌ {A = List (ℕ × H)} (x ∷ []) ((byte, x.1) ∷ []) = ap (λ n. (n, x.1) ∷ []) same.1 in
          let up : filter (λ p. nat_le p.0 byte) (x ∷ others) ≡ x ∷ [] = rw (le-leb x.0 byte (omega (arith, same.1)), rest.0) in
          let low : filter (λ p. nat_lt p.0 byte) (x ∷ others) ≡ [] = rw (le-ltb x.0 byte from, rest.1) in
          inr (x.1, rw same.0, up ∙ one ∙ sym (ap (λ l. l ++ (byte, x.1) ∷ []) low))
      | inr differ ↦
          let more : byte < x.0 = (let apart = differ.1 in omega (arith, from, λ (same : x.0 ≡ byte). apart same)) in
          let all = past x.0 (x ∷ others) more (omega arith, ascend.1, ascend.2) in
          inl (all.2, all.0 ∙ sym all.1)
    ]
  ]

  -- no child before the byte is under it
  before-apart : (children front : ChildMap H) (b : ℕ) (child : H) → filter (λ p. nat_lt p.0 byte) children ≡ front ++ (b, child) ∷ [] → b < byte
  before-apart children front b child is =
      let last : Contains (filter (λ p. nat_lt p.0 byte) children) (b, child) = subst (λ l. Contains l (b, child)) (sym is) (Contains-append_right front ((b, child) ∷ []) (b, child) (first_there (b, child) (b, child) [] refl)) in
      ltb-true b byte (part_inside (λ p. nat_lt p.0 byte) children (b, child) last).1

  module _ (children : ChildMap H) (ascend : IsAscending (key_bytes children)) where
    module _ (front : ChildMap H) (b : ℕ) (child : H) (is : pairs_within children Unbounded (Included byte) ≡ front ++ (b, child) ∷ []) where
      -- where the last child up to the byte is under it, it is the byte's child
      pub last-own : b ≡ byte → child_at children byte ≡ Some child
      last-own same = elim (parts 0 children ascend) [
        | inl none ↦ absurd (omega (arith, before-apart children front b child (sym none.1 ∙ is), same))
        | inr own ↦
            let pair : ◌≡◌ {A = ℕ × H} (byte, own.0) (b, child) = last-same (filter (λ p. nat_lt p.0 byte) children) front (byte, own.0) (b, child) (sym own.2 ∙ is) in
            own.1 ∙ ap (λ p. Some p.1) pair
      ]

      -- where it is not, the byte has none, and it is the last one before the byte
      pub last-before : b ≢ byte → (child_at children byte ≡ None) × (others : ChildMap H) × (pairs_within children Unbounded (Excluded byte) ≡ others ++ (b, child) ∷ [])
      last-before apart = elim (parts 0 children ascend) [
        | inl none ↦ (none.0, front, sym none.1 ∙ is)
        | inr own ↦
            let pair : ◌≡◌ {A = ℕ × H} (byte, own.0) (b, child) = last-same (filter (λ p. nat_lt p.0 byte) children) front (byte, own.0) (b, child) (sym own.2 ∙ is) in
            absurd (apart (sym (ap (λ p. p.0) pair)))
      ]

    -- where no child is up to the byte, none is under it or before it
    pub none-up_to : pairs_within children Unbounded (Included byte) ≡ [] → (child_at children byte ≡ None) × (pairs_within children Unbounded (Excluded byte) ≡ [])
    none-up_to is = elim (parts 0 children ascend) [
      | inl none ↦ (none.0, sym none.1 ∙ is)
      | inr own ↦ absurd (some-last (filter (λ p. nat_lt p.0 byte) children) (byte, own.0) (sym own.2 ∙ is))
    ]

    -- the same of what is taken off their end
    module _ (found : Option (ℕ × H)) (rest : ChildMap H) (taken : YieldsLast (λ pairs. pairs) (pairs_within children Unbounded (Included byte)) found rest) where
      pub taken-own : IfSome found (λ pair. pair.0 ≡ byte → child_at children byte ≡ Some pair.1)
      taken-own = by found taken
        where
          by : (found : Option (ℕ × H)) → YieldsLast (λ pairs. pairs) (pairs_within children Unbounded (Included byte)) found rest → IfSome found (λ pair. pair.0 ≡ byte → child_at children byte ≡ Some pair.1)
          by None taken = tt
          by (Some pair) taken = last-own rest pair.0 pair.1 taken

      pub taken-before : IfSome found (λ pair. pair.0 ≢ byte → (child_at children byte ≡ None) × (others : ChildMap H) × (pairs_within children Unbounded (Excluded byte) ≡ others ++ (pair.0, pair.1) ∷ []))
      taken-before = by found taken
        where
          by : (found : Option (ℕ × H)) → YieldsLast (λ pairs. pairs) (pairs_within children Unbounded (Included byte)) found rest → IfSome found (λ pair. pair.0 ≢ byte → (child_at children byte ≡ None) × (others : ChildMap H) × (pairs_within children Unbounded (Excluded byte) ≡ others ++ (pair.0, pair.1) ∷ []))
          by None taken = tt
          by (Some pair) taken = last-before rest pair.0 pair.1 taken

      pub taken-none : IfNone found ((child_at children byte ≡ None) × (pairs_within children Unbounded (Excluded byte) ≡ []))
      taken-none = by found taken
        where
          by : (found : Option (ℕ × H)) → YieldsLast (λ pairs. pairs) (pairs_within children Unbounded (Included byte)) found rest → IfNone found ((child_at children byte ≡ None) × (pairs_within children Unbounded (Excluded byte) ≡ []))
          by None taken = none-up_to taken.0
          by (Some pair) taken = tt
