-- Texts that begin with a path, and the order of texts that are the same.
use Rattle.art_steps.proofs.Names.{◌≡◌, ◌∙◌, ℕ, ◌+◌, List, [], ◌∷◌, ◌++◌, take, drop, slice_get, Some, sym, ap, subst, take-append-drop, take_more, slice_get_within, get_or_from_slice_get, Less, IsPrefixOf, text_order}

pub take-get : {A : Type 0} (xs : List A) (i : ℕ) (x : A) → slice_get xs i ≡ Some x → take (i + 1) xs ≡ take i xs ++ x ∷ []
take-get xs i x e = take_more xs i x (slice_get_within xs i x e) ∙ ap (λ y. take i xs ++ y ∷ []) (get_or_from_slice_get xs i x x e)

-- a key begins with its bytes before an index and the one there
pub key-on : (key : List ℕ) (index byte : ℕ) → slice_get key index ≡ Some byte → IsPrefixOf (take index key ++ byte ∷ []) key
key-on key index byte is = (drop (index + 1) key, sym (take-append-drop (index + 1) key) ∙ ap (λ front. front ++ drop (index + 1) key) (take-get key index byte is))

-- texts that are the same have the same order
pub less-same : (a b x y : List ℕ) → a ≡ x → b ≡ y → text_order a b ≡ Less → text_order x y ≡ Less
less-same a b x y first second less = subst (λ t. text_order t y ≡ Less) first (subst (λ t. text_order a t ≡ Less) second less)
