-- A text and bytes that are compared with it, one at a time.
use Rattle.std.proofs.Common.{◌≡◌, ◌∙◌, ℕ, suc, ◌+◌, ◌<◌, ◌≤◌, List, [], ◌∷◌, ◌++◌, length, length-append, take, drop, get_or, sym, ap, subst, arith, append_assoc, append-nil}
use Rattle.std.proofs.Math.Seq.{drop-cons, take-suc, get_or-append_seam}
use Rattle.std.proofs.lemmas.List.{nil_from_length, take-append-drop, length-take}
use Rattle.art_bytes.specs.Text.{IsPrefixOf}

-- a text that has a prefix has it with the byte after it
pub with-byte : (front x : List ℕ) (n : ℕ) → length front ≡ n → IsPrefixOf front x → n < length x → IsPrefixOf (front ++ get_or x n 0 ∷ []) x
with-byte front x n long ([], is) inside = absurd (omega (arith, ap length is, length-append front [], inside, long))
with-byte front x n long (b ∷ rest, is) inside =
    let byte : get_or x n 0 ≡ b = ap (λ t. get_or t n 0) is ∙ ap (λ k. get_or (front ++ b ∷ rest) k 0) (sym long) ∙ get_or-append_seam front b rest 0 in
    (rest, is ∙ sym (append_assoc front (b ∷ []) rest) ∙ ap (λ c. (front ++ c ∷ []) ++ rest) (sym byte))

module _ (x bytes path : List ℕ) (i : ℕ) (inside : i < length bytes) where
  -- the path and the bytes up to this one
  abbrev pub front : List ℕ
  front = path ++ take i bytes

  pub front-long : length front ≡ length path + i
  front-long = omega (arith, length-append path (take i bytes), length-take i bytes, inside)

  bytes-parted : bytes ≡ take i bytes ++ get_or bytes i 0 ∷ drop (suc i) bytes
  bytes-parted = sym (take-append-drop i bytes) ∙ ap (λ z. take i bytes ++ z) (drop-cons bytes i 0 inside)

  -- a text that goes on by all bytes goes on by the next one
  pub next-byte : (y : List ℕ) → IsPrefixOf (path ++ bytes) y → IsPrefixOf (front ++ get_or bytes i 0 ∷ []) y
  next-byte y (rest, is) = (
    drop (suc i) bytes ++ rest,
    is ∙ ap (λ z. (path ++ z) ++ rest) bytes-parted
        ∙ ap (λ z. z ++ rest) (sym (append_assoc path (take i bytes) (get_or bytes i 0 ∷ drop (suc i) bytes)) ∙ sym (append_assoc front (get_or bytes i 0 ∷ []) (drop (suc i) bytes)))
        ∙ append_assoc (front ++ get_or bytes i 0 ∷ []) (drop (suc i) bytes) rest,
  )

  module _ (shared : IsPrefixOf front x) where
    -- the text ends here
    pub ends-here : length x ≤ length path + i → x ≡ front
    ends-here short =
        let none : shared.0 ≡ [] = nil_from_length shared.0 (omega (arith, short, front-long, ap length shared.1, length-append front shared.0)) in
        shared.1 ∙ ap (λ z. front ++ z) none ∙ append-nil front

    -- it has a byte here
    pub own-byte : length path + i < length x → IsPrefixOf (front ++ get_or x (length path + i) 0 ∷ []) x
    own-byte within = with-byte front x (length path + i) front-long shared within

    -- the same byte
    pub one-more : length path + i < length x → get_or x (length path + i) 0 ≡ get_or bytes i 0 → IsPrefixOf (path ++ take (suc i) bytes) x
    one-more within same =
        subst (λ f. IsPrefixOf f x) (ap (λ b. front ++ b ∷ []) same ∙ append_assoc path (take i bytes) (get_or bytes i 0 ∷ []) ∙ ap (λ z. path ++ z) (sym (take-suc bytes i 0 inside))) (own-byte within)
