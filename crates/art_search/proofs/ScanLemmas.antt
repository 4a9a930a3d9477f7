-- Search: the key can be in one branch only.
use Rattle.art_search.proofs.Names.{other_text, ◌≡◌, ◌∙◌, ℕ, suc, ◌+◌, ◌<◌, Bool, true, false, List, [], ◌∷◌, ◌++◌, length, filter, drop, Some, None, slice_get, refl, sym, subst, inl, inr, arith, nat_eq, append-nil, pointwise, eqb_tells, eq-eqb, filter-append, IsPrefixOf, IsAscendingFrom, key_bytes, child_at, Tree, Leaf, Inner, Branches, NoBranch, Branch, branch_leaves, branch_roots, root_of, IsSound, AreSound, scan, met, met_below, goes_to, IsWay, IsWayUnder, prefix-shorter}
use Rattle.art_search.proofs.DescentLemmas.{goes-byte}

-- the byte after a prefix, in a longer prefix
pub prefix-byte : (q key : List ℕ) (c b : ℕ) → IsPrefixOf (q ++ c ∷ []) key → slice_get key (length q) ≡ Some b → c ≡ b
prefix-byte [] key c b (rest, is) at = let e : slice_get (c ∷ rest) 0 ≡ Some b = subst (λ k. slice_get k 0 ≡ Some b) is at in cc
prefix-byte (x ∷ q) key c b (rest, is) at = prefix-byte q ((q ++ c ∷ []) ++ rest) c b (rest, refl) (subst (λ k. slice_get k (length (x ∷ q)) ≡ Some b) is at)

module _ {H : Type 0} (key : List ℕ) where
  mutual
    -- no leaf has the key where the key does not begin with the path
    pub scan-apart : (path : List ℕ) (tree : Tree H) → IsSound path tree → (IsPrefixOf path key → ⊥) → scan tree key ≡ []
    scan-apart path (Leaf pointer text) sound never = rw (other_text text key (λ same. never (subst (IsPrefixOf path) same sound.0)))
    scan-apart path (Inner pointer prefix branches) sound never = scan-none (path ++ prefix) branches sound.2 (λ byte front. never (prefix-shorter path prefix key (prefix-shorter (path ++ prefix) (byte ∷ []) key front)))

    pub scan-none : (path : List ℕ) (branches : Branches H) → AreSound path branches → ((byte : ℕ) → IsPrefixOf (path ++ byte ∷ []) key → ⊥) → filter (λ leaf. pointwise nat_eq leaf.1 key) (branch_leaves branches) ≡ []
    scan-none path NoBranch sound never = refl
    scan-none path (Branch byte tree others) sound never = rw (filter-append, scan-apart (path ++ byte ∷ []) tree sound.0 (never byte)) (scan-none path others sound.1 never)

  -- a branch past the key's byte has no leaf with it
  scan-past : (path : List ℕ) (branches : Branches H) (low b : ℕ) → AreSound path branches → IsAscendingFrom low (key_bytes (branch_roots branches)) → b < low → slice_get key (length path) ≡ Some b → filter (λ leaf. pointwise nat_eq leaf.1 key) (branch_leaves branches) ≡ []
  scan-past path NoBranch low b sound ascend below at = refl
  scan-past path (Branch byte tree others) low b sound ascend below at =
      rw (filter-append, scan-apart (path ++ byte ∷ []) tree sound.0 (λ front. let e = prefix-byte path key byte b front at in omega (arith, ascend.0)))
      (scan-past path others (suc byte) b sound.1 ascend.2 (omega (arith, ascend.0)) at)

-- the branch that is first has its root as the child under its byte
first-child : {H : Type 0} (byte : ℕ) (tree : Tree H) (others : Branches H) → child_at (branch_roots (Branch byte tree others)) byte ≡ Some (root_of tree)
first-child byte tree others = rw (eq-eqb byte byte refl) refl

no-child-later : {H : Type 0} (byte : ℕ) (tree : Tree H) (others : Branches H) (b : ℕ) → child_at (branch_roots (Branch byte tree others)) b ≡ None → child_at (branch_roots others) b ≡ None
no-child-later byte tree others b none = elim (eqb_tells byte b) [
  | inl same ↦ let some : child_at (branch_roots (Branch byte tree others)) b ≡ Some (root_of tree) = rw same.0 in absurd (cc)
  | inr differ ↦ let rest : child_at (branch_roots (Branch byte tree others)) b ≡ child_at (branch_roots others) b = rw differ.0 in sym rest ∙ none
]

-- where none of a node's children has a way for the key, no leaf has it
pub scan-nowhere : {H : Type 0} (key path : List ℕ) (branches : Branches H) → AreSound path branches → ((byte : ℕ) → IsPrefixOf (path ++ byte ∷ []) key → child_at (branch_roots branches) byte ≡ None) → filter (λ leaf. pointwise nat_eq leaf.1 key) (branch_leaves branches) ≡ []
scan-nowhere key path NoBranch sound never = refl
scan-nowhere key path (Branch byte tree others) sound never =
    rw (filter-append, scan-apart key (path ++ byte ∷ []) tree sound.0 (λ front. let none = never byte front in let some = first-child byte tree others in absurd (cc)))
    (scan-nowhere key path others sound.1 (λ b front. no-child-later byte tree others b (never b front)))

module _ (room : ℕ) (prefix rest : List ℕ) where
  goes-one : (byte b : ℕ) → slice_get rest (length prefix) ≡ Some b → goes_to room prefix byte rest ≡ true → byte ≡ b
  goes-one byte b at goes = let one : Some byte ≡ Some b = sym (goes-byte room prefix byte rest goes) ∙ at in cc

module _ {H : Type 0} (room : ℕ) (prefix rest : List ℕ) where
  -- a branch to which the key does not go has nothing that it meets
  met-skips : (byte : ℕ) (tree : Tree H) (others : Branches H) → (goes_to room prefix byte rest ≡ true → ⊥) → met_below room prefix (Branch byte tree others) rest ≡ met_below room prefix others rest
  met-skips byte tree others never = by_test (goes_to room prefix byte rest) refl
    where
      by_test : (t : Bool) → goes_to room prefix byte rest ≡ t → met_below room prefix (Branch byte tree others) rest ≡ met_below room prefix others rest
      by_test true is = absurd (never is)
      by_test false is = rw is refl

  pub met-nowhere : (branches : Branches H) → ((byte : ℕ) → goes_to room prefix byte rest ≡ true → child_at (branch_roots branches) byte ≡ None) → met_below room prefix branches rest ≡ []
  met-nowhere NoBranch never = refl
  met-nowhere (Branch byte tree others) never =
      met-skips byte tree others (λ goes. let none = never byte goes in let some = first-child byte tree others in absurd (cc))
      ∙ met-nowhere others (λ b goes. no-child-later byte tree others b (never b goes))

  met-past : (branches : Branches H) (low b : ℕ) → IsAscendingFrom low (key_bytes (branch_roots branches)) → b < low → slice_get rest (length prefix) ≡ Some b → met_below room prefix branches rest ≡ []
  met-past NoBranch low b ascend below at = refl
  met-past (Branch byte tree others) low b ascend below at =
      met-skips byte tree others (λ goes. let same = goes-one room prefix rest byte b at goes in omega (arith, ascend.0, below, same))
      ∙ met-past others (suc byte) b ascend.2 (omega (arith, ascend.0, below)) at

  -- the branch to which the key goes: a tree that has all that the branches have of the key
  pub record Branching (path key : List ℕ) (branches : Branches H) (b : ℕ) (root : H) (Stand : Tree H → Type 0) : Type 0 where
    pub tree : Tree H
    pub at_root : root_of tree ≡ root
    pub sound : IsSound (path ++ b ∷ []) tree
    pub stands : Stand tree
    pub same_scan : filter (λ leaf. pointwise nat_eq leaf.1 key) (branch_leaves branches) ≡ scan tree key
    pub same_met : met_below room prefix branches rest ≡ met room tree (drop (length prefix + 1) rest)
    pub way_on : (steps : List (H × ℕ)) (pointer : H) → IsWay tree steps pointer → IsWayUnder branches b steps pointer

  pub branching : {Stand : Tree H → Type 0} {AllStand : Branches H → Type 0} → ((byte : ℕ) (tree : Tree H) (others : Branches H) → AllStand (Branch byte tree others) → Stand tree × AllStand others)
      → (path key : List ℕ) (branches : Branches H) (low b : ℕ) (root : H) → AreSound path branches → AllStand branches → IsAscendingFrom low (key_bytes (branch_roots branches))
      → slice_get key (length path) ≡ Some b → goes_to room prefix b rest ≡ true → child_at (branch_roots branches) b ≡ Some root → Branching path key branches b root Stand
  branching split path key NoBranch low b root sound stand ascend at goes child = absurd (cc)
  branching {Stand = Stand} {AllStand = AllStand} split path key (Branch byte tree others) low b root sound stand ascend at goes child = elim (eqb_tells byte b) [
    | inl same ↦
        let root_is : child_at (branch_roots (Branch byte tree others)) b ≡ Some (root_of tree) = rw same.0 in
        let goes_first : goes_to room prefix byte rest ≡ true = subst (λ c. goes_to room prefix c rest ≡ true) (sym same.1) goes in
        let past : met_below room prefix others rest ≡ [] = met-past others (suc byte) b ascend.2 (omega (arith, same.1)) (goes-byte room prefix b rest goes) in
        record {
          tree = tree;
          at_root = cc;
          sound = subst (λ c. IsSound (path ++ c ∷ []) tree) same.1 sound.0;
          stands = (split byte tree others stand).0;
          same_scan = rw (filter-append, scan-past key path others (suc byte) b sound.1 ascend.2 (omega (arith, same.1)) at) (append-nil (scan tree key));
          same_met = rw (goes_first, past) (append-nil (met room tree (drop (length prefix + 1) rest)));
          way_on = λ steps pointer way. inl (same.1, way);
        }
    | inr differ ↦
        let later : child_at (branch_roots (Branch byte tree others)) b ≡ child_at (branch_roots others) b = rw differ.0 in
        let more = branching {Stand = Stand} {AllStand = AllStand} split path key others (suc byte) b root sound.1 (split byte tree others stand).1 ascend.2 at goes (sym later ∙ child) in
        record {
          tree = more.tree;
          at_root = more.at_root;
          sound = more.sound;
          stands = more.stands;
          same_scan = rw (filter-append, scan-apart key (path ++ byte ∷ []) tree sound.0 (λ front. differ.1 (prefix-byte path key byte b front at))) more.same_scan;
          same_met = met-skips byte tree others (λ goes_first. differ.1 (goes-one room prefix rest byte b (goes-byte room prefix b rest goes) goes_first)) ∙ more.same_met;
          way_on = λ steps pointer way. inr (more.way_on steps pointer way);
        }
  ]
