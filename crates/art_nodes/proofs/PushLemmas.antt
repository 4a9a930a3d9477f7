-- Sorted nodes: a write of a byte above all others.
use Rattle.std.proofs.Common.{◌≡◌, ℕ, ◌+◌, ◌<◌, All, List, [], ◌∷◌, ◌++◌, length, sym, ◌∙◌, ap, subst, arith}
use Rattle.std.specs.List.{insert, zip}
use Rattle.std.proofs.lemmas.List.Edits.{insert_end}
use Rattle.art_header.specs.Header.{Header}
use Rattle.art_nodes.specs.ChildMap.{key_bytes, with_child}
use Rattle.art_nodes.specs.SortedNode.{IsSortedNode}
use Rattle.art_nodes.specs.WritePoint.{IsGapFor}
use Rattle.art_nodes.proofs.SortedLemmas.{key_bytes-zip, with_child-zip_insert, sorted-insert}

module _ {H : Type 0} (prefix_room room : ℕ) (header : Header) (bytes : List ℕ) (children : List H) (sorted : IsSortedNode prefix_room room header bytes children) (byte : ℕ) (above : All (λ b. b < byte) (key_bytes (zip bytes children))) where
  -- it goes behind them
  gap_behind : IsGapFor bytes byte (length bytes)
  gap_behind =
      let all : All (λ b. b < byte) bytes = subst (All (λ b. b < byte)) (key_bytes-zip bytes children sorted.beside) above in
      record {
        in_range = omega arith;
        smaller_before = λ k below. all k 0 below;
        greater_after = λ k from below. absurd (omega arith);
      }

  bytes_pushed : insert bytes (length bytes) byte ≡ bytes ++ byte ∷ []
  bytes_pushed = insert_end bytes byte

  children_pushed : (child : H) → insert children (length bytes) child ≡ children ++ child ∷ []
  children_pushed child = ap (λ n. insert children n child) (sym sorted.beside) ∙ insert_end children child

  -- with its child behind theirs it is written
  pub with_child-push : (child : H) → with_child (zip bytes children) byte child ≡ zip (bytes ++ byte ∷ []) (children ++ child ∷ [])
  with_child-push child =
      with_child-zip_insert 0 bytes children byte (length bytes) child sorted.beside sorted.ascending gap_behind
      ∙ ap (λ bs. zip bs (insert children (length bytes) child)) bytes_pushed
      ∙ ap (λ cs. zip (bytes ++ byte ∷ []) cs) (children_pushed child)

  -- and the fields are sorted as before
  pub sorted-push : (child : H) → byte < 256 → length bytes < room → (counted : Header) → counted ≡ record header { count = header.count + 1 } → IsSortedNode prefix_room room counted (bytes ++ byte ∷ []) (children ++ child ∷ [])
  sorted-push child fits below counted one_more =
      let inserted = sorted-insert prefix_room room header bytes children sorted byte (length bytes) gap_behind child fits below counted one_more in
      subst (λ cs. IsSortedNode prefix_room room counted (bytes ++ byte ∷ []) cs) (children_pushed child)
      (subst (λ bs. IsSortedNode prefix_room room counted bs (insert children (length bytes) child)) bytes_pushed inserted)
