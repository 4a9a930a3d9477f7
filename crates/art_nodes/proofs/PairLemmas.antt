-- Iterators over children: the remaining pairs after one is removed at the end.
use Rattle.std.proofs.Common.{◌≡◌, ℕ, suc, ◌+◌, ◌-◌, ◌<◌, List, [], ◌∷◌, ◌++◌, length, take, drop, get_or, Option, Some, None, Contains, map, slice_get, unwrap_or, option_map, refl, sym, ◌∙◌, ap, subst, arith}
use Rattle.std.specs.List.{zip}
use Rattle.std.proofs.lemmas.List.{append-nil, take_more, take_rest, length-take-le}
use Rattle.art_nodes.specs.ChildMap.{ChildMap, table_children}
use Rattle.art_nodes.proofs.TableLemmas.{table-append}

module _ {H : Type 0} where
  -- the first byte and the first child are the first pair
  pub zip-first : (byte : ℕ) (bytes : List ℕ) (children : List H) (first : H) → length children ≡ length bytes + 1 → zip (byte ∷ bytes) children ≡ (byte, get_or children 0 first) ∷ zip bytes (take (length children - 1) (drop 1 children))
  zip-first byte bytes [] first same = absurd (omega arith)
  zip-first byte bytes (x ∷ children) first same = ap (λ rest. (byte, x) ∷ zip bytes rest) (sym (take_rest (x ∷ children) 1))

  -- the last byte and the last child are the last pair
  pub zip-last : (bytes : List ℕ) (children : List H) (byte : ℕ) (last : H) → length children ≡ length bytes + 1 → zip (bytes ++ byte ∷ []) children ≡ zip bytes (take (length bytes) children) ++ (byte, get_or children (length bytes) last) ∷ []
  zip-last [] [] byte last same = absurd (omega arith)
  zip-last [] (x ∷ []) byte last same = refl
  zip-last [] (x ∷ y ∷ children) byte last same = absurd (omega arith)
  zip-last (b ∷ bytes) [] byte last same = absurd (omega arith)
  zip-last (b ∷ bytes) (x ∷ children) byte last same = ap (λ rest. (b, x) ∷ rest) (zip-last bytes children byte last (omega arith))

  -- places up to an empty one have the pairs of those before it
  pub table-drop_empty : (byte : ℕ) (places : List (Option H)) (place : ℕ) (d : Option H) → place < length places → get_or places place d ≡ None → table_children byte (take (place + 1) places) ≡ table_children byte (take place places)
  table-drop_empty byte places place d within empty =
      ap (table_children byte) (take_more places place d within)
      ∙ table-append byte (take place places) (get_or places place d ∷ [])
      ∙ ap (λ x. table_children byte (take place places) ++ table_children (byte + length (take place places)) (x ∷ [])) empty
      ∙ append-nil (table_children byte (take place places))

  -- and up to a filled one, its pair besides
  pub table-take_last : (byte : ℕ) (places : List (Option H)) (place : ℕ) (d : Option H) (child : H) → place < length places → get_or places place d ≡ Some child → table_children byte (take (place + 1) places) ≡ table_children byte (take place places) ++ (byte + place, child) ∷ []
  table-take_last byte places place d child within filled =
      ap (table_children byte) (take_more places place d within)
      ∙ table-append byte (take place places) (get_or places place d ∷ [])
      ∙ ap (λ x. table_children byte (take place places) ++ table_children (byte + length (take place places)) (x ∷ [])) filled
      ∙ ap (λ n. table_children byte (take place places) ++ (byte + n, child) ∷ []) (length-take-le place places (omega arith))

  -- the child of a pair between others is one of the children
  pub contains-between : (front back children : ChildMap H) (pair : ℕ × H) → front ++ pair ∷ back ≡ children → Contains (map (λ p. p.1) children) pair.1
  contains-between front back children pair is = subst (λ all. Contains (map (λ p. p.1) all) pair.1) is (at front)
    where
      at : (front : ChildMap H) → Contains (map (λ p. p.1) (front ++ pair ∷ back)) pair.1
      at [] = (0, omega arith, refl)
      at (x ∷ front) = let rest = at front in (suc rest.0, omega (arith, rest.1), rest.2)

  -- and so is the first one's
  pub contains-first : (children : ChildMap H) (pair : ℕ × H) → slice_get children 0 ≡ Some pair → Contains (map (λ p. p.1) children) pair.1
  contains-first [] pair is = cc
  contains-first (x ∷ children) pair is = (0, omega arith, ap (λ p. unwrap_or (option_map (λ q. q.1) p) x.1) is)
