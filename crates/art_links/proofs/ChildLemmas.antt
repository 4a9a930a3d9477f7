-- Children that are written in their order.
use Rattle.art_links.proofs.Names.{◌≡◌, ◌∙◌, ℕ, zero, suc, ◌+◌, ◌<◌, ◌≤◌, List, [], ◌∷◌, length, take, get_or, Option, Some, None, IsNone, refl, ap, arith, le-ltb, lt-ltb, ne_eqb, length-take-le, ChildMap, IsAscendingFrom, IsAscending, key_bytes, child_at, with_child, with_children, HasRoomFor, node_of}
use Rattle.art_nodes.specs.Inner.{Inner}

module _ {H : Type 0} where
  at-least : (low : ℕ) (xs : ChildMap H) (i : ℕ) (d : ℕ × H) → IsAscendingFrom low (key_bytes xs) → i < length xs → low ≤ (get_or xs i d).0
  at-least low [] i d asc lt = absurd (omega arith)
  at-least low (x ∷ xs) zero d asc lt = asc.0
  at-least low (x ∷ xs) (suc i) d asc lt = let rest = at-least (suc x.0) xs i d asc.2 (omega arith) in omega (arith, rest, asc.0)

  -- a byte above those before it goes to the end
  written : (low : ℕ) (xs : ChildMap H) (i : ℕ) (d : ℕ × H) → IsAscendingFrom low (key_bytes xs) → i < length xs → with_child (take i xs) (get_or xs i d).0 (get_or xs i d).1 ≡ take (suc i) xs
  written low [] i d asc lt = absurd (omega arith)
  written low (x ∷ xs) zero d asc lt = refl
  written low (x ∷ xs) (suc i) d asc lt =
      let above : x.0 < (get_or xs i d).0 = at-least (suc x.0) xs i d asc.2 (omega arith) in
      rw (lt-ltb x.0 (get_or xs i d).0 above, le-ltb (get_or xs i d).0 x.0 (omega arith)) (ap (λ rest. x ∷ rest) (written (suc x.0) xs i d asc.2 (omega arith)))

  -- and was not there
  absent : (low : ℕ) (xs : ChildMap H) (i : ℕ) (d : ℕ × H) → IsAscendingFrom low (key_bytes xs) → i < length xs → child_at (take i xs) (get_or xs i d).0 ≡ None
  absent low [] i d asc lt = absurd (omega arith)
  absent low (x ∷ xs) zero d asc lt = refl
  absent low (x ∷ xs) (suc i) d asc lt =
      let above : x.0 < (get_or xs i d).0 = at-least (suc x.0) xs i d asc.2 (omega arith) in
      rw (ne_eqb x.0 (get_or xs i d).0 (λ same. omega (arith, above, same))) (absent (suc x.0) xs i d asc.2 (omega arith))

  none-is : (o : Option H) → o ≡ None → IsNone o
  none-is None e = refl
  none-is (Some x) e = absurd (cc)

  module _ (room : ℕ) (prefix : List ℕ) (xs : ChildMap H) (asc : IsAscending (key_bytes xs)) (node : Inner H) (i : ℕ) (is : node ≡ node_of room prefix (take i xs)) (lt : i < length xs) (d : ℕ × H) where
    pub has-room : (most : ℕ) → length xs ≤ most → HasRoomFor most node (get_or xs i d).0
    has-room most fits = λ _. let long : length node.children ≡ i = ap (λ n. length n.children) is ∙ length-take-le i xs (omega (arith, lt)) in omega (arith, long, lt, fits)

    pub is-new : IsNone (child_at node.children (get_or xs i d).0)
    is-new = none-is (child_at node.children (get_or xs i d).0) (ap (λ n. child_at n.children (get_or xs i d).0) is ∙ absent 0 xs i d asc lt)

    pub written-node : (next : Inner H) (after : ℕ) → after ≡ i + 1 → next ≡ with_children node (with_child node.children (get_or xs i d).0 (get_or xs i d).1) → next ≡ node_of room prefix (take after xs)
    written-node next after more e = let end : suc i ≡ after = omega (arith, more) in e ∙ ap (λ n. with_children n (with_child n.children (get_or xs i d).0 (get_or xs i d).1)) is ∙ ap (node_of room prefix) (written 0 xs i d asc lt) ∙ ap (λ n. node_of room prefix (take n xs)) end
