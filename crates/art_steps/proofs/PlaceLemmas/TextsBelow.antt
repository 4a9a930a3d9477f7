-- The texts of the leaves below a node begin with the path to it.
use Rattle.art_steps.proofs.Names.{ℕ, ◌<◌, List, [], ◌∷◌, ◌++◌, length, length-append, All, Contains, sym, ap, arith, append-nil, All-nil, All-cons, All-contains, All-append, All-weaker, IsPrefixOf, prefix-shorter, Tree, Leaf, Inner, Branches, NoBranch, Branch, leaves, branch_leaves, IsSound, AreSound, reach}

-- a text goes on past a path by some byte
pub record GoesOn (path text : List ℕ) : Type 0 where
  pub byte : ℕ
  pub on : IsPrefixOf (path ++ byte ∷ []) text

-- so it begins with the path, and is longer
pub goes-begins : (path text : List ℕ) → GoesOn path text → IsPrefixOf path text
goes-begins path text goes = prefix-shorter path (goes.byte ∷ []) text goes.on

pub goes-longer : (path text : List ℕ) → GoesOn path text → length path < length text
goes-longer path text goes = omega (arith, ap length goes.on.1, length-append (path ++ goes.byte ∷ []) goes.on.0, length-append path (goes.byte ∷ []))

module _ {H : Type 0} where
  mutual
    -- the texts of a sound tree begin with its path
    pub leaves-begin : (path : List ℕ) (tree : Tree H) → IsSound path tree → All (λ leaf. IsPrefixOf path leaf.1) (leaves tree)
    leaves-begin path (Leaf pointer x) sound = All-cons (λ leaf. IsPrefixOf path leaf.1) (pointer, x) [] sound.0 (All-nil (λ leaf. IsPrefixOf path leaf.1))
    leaves-begin path (Inner pointer prefix branches) sound =
        All-weaker (λ leaf. GoesOn (path ++ prefix) leaf.1) (λ leaf. IsPrefixOf path leaf.1) (λ leaf goes. prefix-shorter path prefix leaf.1 (goes-begins (path ++ prefix) leaf.1 goes)) (branch_leaves branches) (branches-go-on (path ++ prefix) branches sound.2)

    -- those of branches go on past it
    pub branches-go-on : (path : List ℕ) (branches : Branches H) → AreSound path branches → All (λ leaf. GoesOn path leaf.1) (branch_leaves branches)
    branches-go-on path NoBranch sound = All-nil (λ leaf. GoesOn path leaf.1)
    branches-go-on path (Branch byte tree others) sound =
        All-append (λ leaf. GoesOn path leaf.1) (leaves tree) (branch_leaves others)
        (All-weaker (λ leaf. IsPrefixOf (path ++ byte ∷ []) leaf.1) (λ leaf. GoesOn path leaf.1) (λ leaf on. record { byte = byte; on = on }) (leaves tree) (leaves-begin (path ++ byte ∷ []) tree sound.0))
        (branches-go-on path others sound.1)

  -- and the texts of a tree with the first bytes of them that its top has
  pub leaves-reach : (path : List ℕ) (tree : Tree H) → IsSound path tree → All (λ leaf. IsPrefixOf (reach path tree) leaf.1) (leaves tree)
  leaves-reach path (Leaf pointer x) sound = All-cons (λ leaf. IsPrefixOf x leaf.1) (pointer, x) [] ([], sym (append-nil x)) (All-nil (λ leaf. IsPrefixOf x leaf.1))
  leaves-reach path (Inner pointer prefix branches) sound =
      All-weaker (λ leaf. GoesOn (path ++ prefix) leaf.1) (λ leaf. IsPrefixOf (path ++ prefix) leaf.1) (λ leaf goes. goes-begins (path ++ prefix) leaf.1 goes) (branch_leaves branches) (branches-go-on (path ++ prefix) branches sound.2)

  -- the same of one leaf
  pub text-begins : (path : List ℕ) (tree : Tree H) (q : H) (x : List ℕ) → IsSound path tree → Contains (leaves tree) (q, x) → IsPrefixOf path x
  text-begins path tree q x sound inside = All-contains (λ leaf. IsPrefixOf path leaf.1) (leaves tree) (q, x) (leaves-begin path tree sound) inside

  pub branch-text-begins : (path : List ℕ) (branches : Branches H) (q : H) (x : List ℕ) → AreSound path branches → Contains (branch_leaves branches) (q, x) → IsPrefixOf path x
  branch-text-begins path branches q x sound inside = goes-begins path x (All-contains (λ leaf. GoesOn path leaf.1) (branch_leaves branches) (q, x) (branches-go-on path branches sound) inside)

  pub text-reaches : (path : List ℕ) (tree : Tree H) (q : H) (x : List ℕ) → IsSound path tree → Contains (leaves tree) (q, x) → IsPrefixOf (reach path tree) x
  text-reaches path tree q x sound inside = All-contains (λ leaf. IsPrefixOf (reach path tree) leaf.1) (leaves tree) (q, x) (leaves-reach path tree sound) inside
