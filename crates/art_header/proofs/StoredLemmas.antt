-- Stored bytes of a prefix: after it is cut, extended or filled from a key.
use Rattle.std.proofs.Common.{◌≡◌, ℕ, ◌+◌, ◌-◌, ◌<◌, ◌≤◌, min, List, ◌++◌, length, take, drop, sym, ap, ◌∙◌, arith, append_assoc, zero-add}
use Rattle.std.proofs.lemmas.List.{length-take-le, length-drop, drop-take, drop-append-le, take-append-le}
use Rattle.std.proofs.Math.Seq.{paste, take-append-add, take-append_seam, drop-append-add}
use Rattle.std.proofs.lemmas.List.Edits.{take-paste}
use Rattle.art_header.specs.Header.{Header, capped, ltrimmed, with_more, StandsFor}

module _ {X : Type 0} where
  -- the bytes from n on, moved to the start
  trimmed : (n kept whole count : ℕ) (bytes : List X) → whole ≡ n + kept → whole ≤ length bytes → count ≡ kept → take kept (paste bytes 0 (drop n bytes) count) ≡ drop n (take whole bytes)
  trimmed n kept whole count bytes is fits same =
      let room : kept ≤ length (drop n bytes) = omega (arith, length-drop n bytes) in
      let head : take (0 + kept) (paste bytes 0 (drop n bytes) kept) ≡ take kept (drop n bytes) = take-paste bytes 0 (drop n bytes) kept (omega arith) room in
      ap (λ k. take kept (paste bytes 0 (drop n bytes) k)) same
      ∙ ap (λ k. take k (paste bytes 0 (drop n bytes) kept)) (sym (zero-add kept))
      ∙ head
      ∙ sym (drop-take n kept bytes)
      ∙ ap (λ k. drop n (take k bytes)) (sym is)

  -- new bytes behind the bytes that were there
  pushed : (start end : ℕ) (bytes more written rest : List X) → start ≤ length bytes → start ≤ end → end - start ≤ length more → written ≡ take (end - start) more → take end (take start bytes ++ (written ++ rest)) ≡ take end (take start bytes ++ more)
  pushed start end bytes more written rest has up enough is =
      let front : length (take start bytes) ≡ start = length-take-le start bytes has in
      let count : end ≡ length (take start bytes) + (end - start) = omega arith in
      let size : end - start ≡ length written = sym (ap length is ∙ length-take-le (end - start) more enough) in
      let seam : take (end - start) (written ++ rest) ≡ written = ap (λ n. take n (written ++ rest)) size ∙ take-append_seam written rest in
      ap (λ n. take n (take start bytes ++ (written ++ rest))) count
      ∙ take-append-add (take start bytes) (written ++ rest) (end - start)
      ∙ ap (λ bs. take start bytes ++ bs) (seam ∙ is)
      ∙ sym (take-append-add (take start bytes) more (end - start))
      ∙ ap (λ n. take n (take start bytes ++ more)) (sym count)

  -- the bytes of a key after a path and n bytes are those of the prefix from index n on
  cut : (stored n depth : ℕ) (path prefix rest : List X) → length path ≡ depth → n + stored ≤ length prefix → take stored (drop (depth + n) ((path ++ prefix) ++ rest)) ≡ take stored (drop n prefix)
  cut stored n depth path prefix rest is fits =
      let behind : drop (depth + n) (path ++ (prefix ++ rest)) ≡ drop n (prefix ++ rest) = ap (λ m. drop (m + n) (path ++ (prefix ++ rest))) (sym is) ∙ drop-append-add path (prefix ++ rest) n in
      let inside : drop n (prefix ++ rest) ≡ drop n prefix ++ rest = drop-append-le n prefix rest (omega arith) in
      let room : stored ≤ length (drop n prefix) = omega (arith, length-drop n prefix) in
      ap (λ bs. take stored (drop (depth + n) bs)) (append_assoc path prefix rest)
      ∙ ap (λ bs. take stored bs) (behind ∙ inside)
      ∙ take-append-le stored (drop n prefix) rest room

-- the header with these fields
abbrev pub shown : ℕ → ℕ → ℕ → List ℕ → Header
shown room count len bytes = record { count = count; prefix_len = len; stored = take (capped room len) bytes }

module _ (room count len : ℕ) (bytes : List ℕ) (header : Header) (is : shown room count len bytes ≡ header) (full : length bytes ≡ room) where
  pub shows-ltrimmed : (n left moved : ℕ) (after : List ℕ) → (0 < n → len ≤ room) → n ≤ len → left ≡ len - n → moved ≡ capped room left → after ≡ paste bytes 0 (drop n bytes) moved → shown room count left after ≡ ltrimmed header n
  shows-ltrimmed n left moved after stored within less same copied =
      let whole : capped room len ≡ n + capped room left = grind (arith, stored) in
      let fits : capped room len ≤ length bytes = omega arith in
      let front = trimmed n (capped room left) (capped room len) moved bytes whole fits same in
      ap (λ bs. record { count = count; prefix_len = left; stored = bs }) (ap (take (capped room left)) copied ∙ front)
      ∙ ap (λ m. record { count = count; prefix_len = m; stored = drop n (take (capped room len) bytes) }) less
      ∙ ap (λ h. ltrimmed h n) is

  pub shows-with_more : (n total start end : ℕ) (more written rest : List ℕ) → min n (room - capped room len) ≤ length more → total ≡ len + n → start ≡ capped room len → end ≡ capped room total → written ≡ take (end - start) more → shown room count total (take start bytes ++ (written ++ rest)) ≡ with_more room header more n
  shows-with_more n total start end more written rest enough sum from upto copied =
      let has : start ≤ length bytes = omega arith in
      let front = pushed start end bytes more written rest has (omega arith) (omega arith) copied in
      ap (λ k. record { count = count; prefix_len = total; stored = take k (take start bytes ++ (written ++ rest)) }) (sym upto)
      ∙ ap (λ bs. record { count = count; prefix_len = total; stored = bs }) front
      ∙ ap (λ k. record { count = count; prefix_len = total; stored = take k (take start bytes ++ more) }) upto
      ∙ ap (λ k. record { count = count; prefix_len = total; stored = take (capped room total) (take k bytes ++ more) }) from
      ∙ ap (λ m. record { count = count; prefix_len = m; stored = take (capped room m) (take (capped room len) bytes ++ more) }) sum
      ∙ ap (λ h. with_more room h more n) is

-- a header of a prefix, filled from a key that has it behind a path, is one for the rest of the prefix
pub stands-cut : (room n depth : ℕ) (key path prefix rest : List ℕ) (old new : Header) → n ≤ old.prefix_len → new ≡ record old { prefix_len = old.prefix_len - n; stored = take (capped room (old.prefix_len - n)) (drop (depth + n) key) } → length path ≡ depth → key ≡ (path ++ prefix) ++ rest → StandsFor room old prefix → StandsFor room new (drop n prefix)
stands-cut room n depth key path prefix rest old new within is at begins stands =
    let whole : old.prefix_len ≡ length prefix = ap (λ h. h.prefix_len) stands in
    let left : old.prefix_len - n ≡ length (drop n prefix) = omega (arith, length-drop n prefix) in
    let front = cut (capped room (old.prefix_len - n)) n depth path prefix rest at (omega arith) in
    let filled : take (capped room (old.prefix_len - n)) (drop (depth + n) key) ≡ take (capped room (length (drop n prefix))) (drop n prefix) =
    ap (λ k. take (capped room (old.prefix_len - n)) (drop (depth + n) k)) begins ∙ front ∙ ap (λ m. take (capped room m) (drop n prefix)) left in
    let count : new.count ≡ old.count = ap (λ h. h.count) is in
    let same : new ≡ record { count = old.count; prefix_len = length (drop n prefix); stored = take (capped room (length (drop n prefix))) (drop n prefix) } =
    is ∙ ap (λ m. record { count = old.count; prefix_len = m; stored = take (capped room (old.prefix_len - n)) (drop (depth + n) key) }) left
    ∙ ap (λ bs. record { count = old.count; prefix_len = length (drop n prefix); stored = bs }) filled in
    same ∙ ap (λ c. record { count = c; prefix_len = length (drop n prefix); stored = take (capped room (length (drop n prefix))) (drop n prefix) }) (sym count)
