-- Conversions: children written one after another by ascending byte.
use Rattle.std.proofs.Common.{◌≡◌, ℕ, suc, ◌<◌, ◌≤◌, All, [], ◌∷◌, ◌++◌, None, length, length-append, refl, sym, ◌∙◌, ap, subst, append_assoc, arith}
use Rattle.std.proofs.lemmas.List.Elements.{All-nil, All-cons}
use Rattle.art_nodes.specs.ChildMap.{ChildMap, child_at, key_bytes, with_child, IsAscending}
use Rattle.art_nodes.specs.Inner.{Inner, with_children, node_with_child}
use Rattle.art_nodes.proofs.ChildMapLemmas.{IsAbove, eq-false, with_child-later}

module _ {H : Type 0} where
  -- a byte that follows others is at least the low one
  low_before : (low : ℕ) (front : ChildMap H) (byte : ℕ) (child : H) (later : ChildMap H) → IsAbove low (front ++ (byte, child) ∷ later) → low ≤ byte
  low_before low [] byte child later above = above.0
  low_before low (x ∷ front) byte child later above = let rest = low_before (suc x.0) front byte child later above.2 in omega (arith, rest, above.0)

  -- a child whose byte follows those of the others is written behind them
  pub with_child-behind : (low : ℕ) (front : ChildMap H) (byte : ℕ) (child : H) (later : ChildMap H) → IsAbove low (front ++ (byte, child) ∷ later) → with_child front byte child ≡ front ++ (byte, child) ∷ []
  with_child-behind low [] byte child later above = refl
  with_child-behind low (x ∷ front) byte child later above =
      with_child-later x.0 byte x.1 front child (low_before (suc x.0) front byte child later above.2)
      ∙ ap (λ rest. x ∷ rest) (with_child-behind (suc x.0) front byte child later above.2)

  -- it is not theirs
  pub absent_before : (low : ℕ) (front : ChildMap H) (byte : ℕ) (child : H) (later : ChildMap H) → IsAbove low (front ++ (byte, child) ∷ later) → child_at front byte ≡ None
  absent_before low [] byte child later above = refl
  absent_before low (x ∷ front) byte child later above =
      let behind = low_before (suc x.0) front byte child later above.2 in
      rw (eq-false x.0 byte (λ same. omega (arith, same, behind))) (absent_before (suc x.0) front byte child later above.2)

  -- and it is above theirs
  pub above_before : (low : ℕ) (front : ChildMap H) (byte : ℕ) (child : H) (later : ChildMap H) → IsAbove low (front ++ (byte, child) ∷ later) → All (λ b. b < byte) (key_bytes front)
  above_before low [] byte child later above = All-nil (λ b. b < byte)
  above_before low (x ∷ front) byte child later above =
      All-cons (λ b. b < byte) x.0 (key_bytes front) (omega (arith, low_before (suc x.0) front byte child later above.2)) (above_before (suc x.0) front byte child later above.2)

  -- of a copy of a node: the first children are written, and the rest is to come
  abbrev pub IsCopying : Inner H → Inner H → ChildMap H → ChildMap H → Type 0
  IsCopying node copy front rest = record {
    written : copy ≡ with_children node front;
    to_come : front ++ rest ≡ node.children;
  }

  -- the next child has a byte above those of the copy, and the copy has spare capacity
  pub copying_next : (node copy : Inner H) (front rest : ChildMap H) (byte : ℕ) (child : H) (later : ChildMap H)
      → IsAscending (key_bytes node.children) → IsCopying node copy front rest → rest ≡ (byte, child) ∷ later
      → record {
        absent : child_at copy.children byte ≡ None;
        above : All (λ b. b < byte) (key_bytes copy.children);
        room : length copy.children < length node.children;
        copying : IsCopying node (node_with_child copy byte child) (front ++ (byte, child) ∷ []) later;
      }
  copying_next node copy front rest byte child later ascending copying next =
      let whole = sym (ap (λ r. front ++ r) next) ∙ copying.to_come in
      let low : IsAbove 0 (front ++ (byte, child) ∷ later) = subst (IsAbove 0) (sym whole) ascending in
      record {
        absent = rw copying.written (absent_before 0 front byte child later low);
        above = rw copying.written (above_before 0 front byte child later low);
        room = rw copying.written (omega (arith, ap length whole, length-append front ((byte, child) ∷ later)));
        copying = record {
          written = rw copying.written (ap (with_children node) (with_child-behind 0 front byte child later low));
          to_come = append_assoc front ((byte, child) ∷ []) later ∙ whole;
        };
      }
