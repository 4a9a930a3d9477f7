-- Spots to which two keys lead.
use Rattle.art_steps.proofs.Names.{◌≡◌, ℕ, ◌+◌, ◌≤◌, nat_eq, List, [], ◌∷◌, ◌++◌, length, None, refl, inl, inr, arith, common_prefix_len, eqb_tells, IsPrefixOf, OpaqueNodePtr, NodeArena, IsTreeIn, Tree, Whole, path_to, IsSpotIn, Spot}

-- a prefix of a text that is no longer than what the text has in common with another is a prefix of the other
shared-prefix : (path a b : List ℕ) → IsPrefixOf path a → length path ≤ common_prefix_len nat_eq a b → IsPrefixOf path b
shared-prefix [] a b begins short = (b, refl)
shared-prefix (x ∷ path) [] b (rest, is) short = absurd (cc)
shared-prefix (x ∷ path) (y ∷ a) [] begins short = absurd (omega (arith, short))
shared-prefix (x ∷ path) (y ∷ a) (z ∷ b) (rest, is) short = elim (eqb_tells y z) [
  | inl same ↦
      let more : 1 + common_prefix_len nat_eq a b ≡ common_prefix_len nat_eq (y ∷ a) (z ∷ b) = rw same.0 refl in
      let first : y ≡ x = cc in
      let others : a ≡ path ++ rest = cc in
      let tail = shared-prefix path a b (rest, others) (omega (arith, short, more)) in
      let byte : z ≡ x = cc in
      (tail.0, (λ i. byte i ∷ tail.1 i))
  | inr differ ↦
      let none : 0 ≡ common_prefix_len nat_eq (y ∷ a) (z ∷ b) = rw differ.0 refl in
      absurd (omega (arith, none, short))
]

module _ {K V : Type 0} {P : ℕ} (text : K → List ℕ) (arena : NodeArena K V P) (tree : Tree (OpaqueNodePtr K V P)) where
  -- each key leads to the root
  pub root-spot : (key : List ℕ) (root : OpaqueNodePtr K V P) → IsTreeIn text arena root tree → IsSpotIn text arena tree key (record { node = root; depth = 0; parent = None })
  root-spot key root is = record {
    stands = is.stands;
    sound = is.sound;
    at = record { context = Whole; part = tree; whole = refl; at_root = is.at_root; leads = (key, refl); deep = refl; parent_is = refl };
  }

  -- a key leads where another does by bytes that they have in common
  pub spot-shared : (a b : List ℕ) (spot : Spot K V P) → IsSpotIn text arena tree a spot → spot.depth ≤ common_prefix_len nat_eq a b → IsSpotIn text arena tree b spot
  spot-shared a b spot is short = record {
    stands = is.stands;
    sound = is.sound;
    at = record {
      context = is.at.context;
      part = is.at.part;
      whole = is.at.whole;
      at_root = is.at.at_root;
      leads = shared-prefix (path_to is.at.context) a b is.at.leads (omega (arith, is.at.deep, short));
      deep = is.at.deep;
      parent_is = is.at.parent_is;
    };
  }
