-- The nodes that a key meets are distinct.
use Rattle.art_search.proofs.Names.{◌≢◌, ℕ, ◌+◌, Bool, true, false, cond, List, [], ◌∷◌, ◌++◌, length, drop, All, All-cons, All-head, All-tail, AreDistinct, Tree, Leaf, Inner, Branches, NoBranch, Branch, places, branch_places, goes_to, met, met_below}

-- one list is the other with some members left out
data Sublist {A : Type 0} : List A → List A → Type 0 where
  none : Sublist [] []
  keep : {x : A} {xs ys : List A} → Sublist xs ys → Sublist (x ∷ xs) (x ∷ ys)
  omit : {y : A} {xs ys : List A} → Sublist xs ys → Sublist xs (y ∷ ys)

Sublist-nothing : {A : Type 0} (ys : List A) → Sublist [] ys
Sublist-nothing [] = none
Sublist-nothing (y ∷ ys) = omit (Sublist-nothing ys)

Sublist-append : {A : Type 0} {xs ys us vs : List A} → Sublist xs ys → Sublist us vs → Sublist (xs ++ us) (ys ++ vs)
Sublist-append none others = others
Sublist-append (keep part) others = keep (Sublist-append part others)
Sublist-append (omit part) others = omit (Sublist-append part others)

Sublist-if : {A : Type 0} {xs ys : List A} (taken : Bool) → Sublist xs ys → Sublist (cond taken xs []) ys
Sublist-if true part = part
Sublist-if {ys = ys} false part = Sublist-nothing ys

All-Sublist : {A : Type 0} (P : A → Type 0) {xs ys : List A} → Sublist xs ys → All P ys → All P xs
All-Sublist P none all = all
All-Sublist P (keep {x = x} {xs = xs} {ys = ys} part) all = All-cons P x xs (All-head P x ys all) (All-Sublist P part (All-tail P x ys all))
All-Sublist P (omit {y = y} {ys = ys} part) all = All-Sublist P part (All-tail P y ys all)

AreDistinct-Sublist : {A : Type 0} {xs ys : List A} → Sublist xs ys → AreDistinct ys → AreDistinct xs
AreDistinct-Sublist none distinct = tt
AreDistinct-Sublist (keep {x = x} part) distinct = (All-Sublist (λ other. other ≢ x) part distinct.0, AreDistinct-Sublist part distinct.1)
AreDistinct-Sublist (omit part) distinct = AreDistinct-Sublist part distinct.1

module _ {H : Type 0} (room : ℕ) where
  mutual
    -- the nodes that a key meets are pointers of the tree, in the order of its nodes
    met-Sublist : (tree : Tree H) (rest : List ℕ) → Sublist (met room tree rest) (places tree)
    met-Sublist (Leaf pointer text) rest = keep none
    met-Sublist (Inner pointer prefix branches) rest = keep (met_below-Sublist prefix branches rest)

    met_below-Sublist : (prefix : List ℕ) (branches : Branches H) (rest : List ℕ) → Sublist (met_below room prefix branches rest) (branch_places branches)
    met_below-Sublist prefix NoBranch rest = none
    met_below-Sublist prefix (Branch byte tree others) rest =
        Sublist-append (Sublist-if (goes_to room prefix byte rest) (met-Sublist tree (drop (length prefix + 1) rest))) (met_below-Sublist prefix others rest)

  -- so no node is met twice where no pointer is at two places
  pub met-distinct : (tree : Tree H) (rest : List ℕ) → AreDistinct (places tree) → AreDistinct (met room tree rest)
  met-distinct tree rest distinct = AreDistinct-Sublist (met-Sublist tree rest) distinct
