-- Insertion: a part of a tree with one leaf more.
use Rattle.art_steps.proofs.Names.{◌≡◌, ◌≢◌, ◌⊎◌, ◌∙◌, ℕ, zero, suc, ◌+◌, ◌-◌, ◌<◌, ◌≤◌, ◌^◌, true, ◌&&◌, nat_lt, if◌then◌else◌, List, [], ◌∷◌, ◌++◌, length, length-append, map, filter, take, drop, slice_get, AllPairs, Contains, Some, None, refl, sym, ap, subst, inl, inr, arith, append_assoc, append-nil, cases_lt, cases_eq, eq-eqb, le-ltb, lt-ltb, ne_eqb, drop_at, drop-drop, length-take-le, Contains-append_left, Contains-append_right, Contains-append_cases, filter_agree, slice_get_within, Less, IsPrefixOf, text_order, kind_for, IsAscending, IsAscendingFrom, key_bytes, child_at, with_child, node_kind, OpaqueNodePtr, Tree, Leaf, Inner, Branches, NoBranch, Branch, branch_roots, root_of, leaves, branch_leaves, places, branch_places, IsSound, AreSound, IsBeside, IsOnSide, two_children, branches_on, pairs_on, End, First, Last, HasSmallestKinds, HaveSmallestKinds, reach, join}
use Rattle.std.proofs.Math.Bool.{and-true}
use Rattle.art_steps.proofs.SharedLemmas.BranchLemmas.{roots-join, leaves-join, places-join, sound-join, one_branch, sound-split, smallest_kinds-join}
use Rattle.art_steps.proofs.SharedLemmas.DictionaryLemmas.{after-first}
use Rattle.art_steps.proofs.SharedLemmas.ExchangedSubtree.{none-below, all-above}
use Rattle.art_steps.proofs.SharedLemmas.PrefixLemmas.{key-on}

module _ {H : Type 0} where
  -- the tree without the first bytes of its prefix; a leaf is as it was
  abbrev pub ltrimmed : ℕ → Tree H → Tree H
  ltrimmed len (Leaf pointer text) = Leaf pointer text
  ltrimmed len (Inner pointer prefix branches) = Inner pointer (drop len prefix) branches

  -- between these branches of a node under this path with this prefix there is a place for the byte
  pub record HasPlace (path prefix : List ℕ) (before : Branches H) (byte : ℕ) (after : Branches H) : Type 0 where
    pub sound : AreSound (path ++ prefix) (join before after)
    pub some : 1 ≤ length (branch_roots (join before after))
    pub ascending : (child : H) → IsAscending (key_bytes (branch_roots before ++ (byte, child) ∷ branch_roots after))

  -- the node with a leaf at that place
  abbrev pub with_leaf : H → List ℕ → Branches H → ℕ → H → List ℕ → Branches H → Tree H
  with_leaf pointer prefix before byte leaf text after = Inner pointer prefix (join before (Branch byte (Leaf leaf text) after))

  -- the branches left of a byte, where one tree stands under another byte
  abbrev pub branches_left : ℕ → ℕ → Tree H → Branches H
  branches_left byte other tree = if nat_lt byte other then NoBranch else one_branch other tree

  -- the branches right of it
  abbrev pub branches_right : ℕ → ℕ → Tree H → Branches H
  branches_right byte other tree = if nat_lt byte other then one_branch other tree else NoBranch

-- a byte without a branch parts the branches into those of lesser bytes and those of greater ones
record IsParted {H : Type 0} (low : ℕ) (branches : Branches H) (byte : ℕ) : Type 0 where
  pub before : Branches H
  pub after : Branches H
  pub same : join before after ≡ branches
  pub ascending : (child : H) → IsAscendingFrom low (key_bytes (branch_roots before ++ (byte, child) ∷ branch_roots after))
  pub lesser : filter (λ p. nat_lt p.0 byte) (branch_roots branches) ≡ branch_roots before
  pub greater : filter (λ p. nat_lt byte p.0) (branch_roots branches) ≡ branch_roots after

-- a place for a byte in a node, what is there with a leaf, and what comes before and after it
pub record HasChildPlace {H : Type 0} (path prefix : List ℕ) (branches : Branches H) (byte : ℕ) : Type 0 where
  pub before : Branches H
  pub after : Branches H
  pub same : join before after ≡ branches
  pub place : HasPlace path prefix before byte after
  pub written : (leaf : H) (text : List ℕ) → with_child (branch_roots branches) byte leaf ≡ branch_roots (join before (Branch byte (Leaf leaf text) after))
  pub sides : (end : End) → pairs_on end (branch_roots branches) byte ≡ branch_roots (branches_on end before after)

module _ {H : Type 0} where
  -- a branch of a lesser byte goes before the place
  parted-past : (low byte b : ℕ) (tree : Tree H) (others : Branches H) → low ≤ b → b < 256 → b < byte → IsParted (suc b) others byte → IsParted low (Branch b tree others) byte
  parted-past low byte b tree others from fits less rest = record {
    before = Branch b tree rest.before;
    after = rest.after;
    same = ap (Branch b tree) rest.same;
    ascending = λ child. (from, fits, rest.ascending child);
    lesser = rw (lt-ltb b byte less) (ap (λ more. (b, root_of tree) ∷ more) rest.lesser);
    greater = rw (le-ltb byte b (omega (arith, less))) rest.greater;
  }

  -- there is a place between lesser and greater bytes
  parted : (low byte : ℕ) (branches : Branches H) → low ≤ byte → byte < 256 → IsAscendingFrom low (key_bytes (branch_roots branches)) → child_at (branch_roots branches) byte ≡ None → IsParted low branches byte
  parted low byte NoBranch from fits ascend absent = record { before = NoBranch; after = NoBranch; same = refl; ascending = λ child. (from, fits, tt); lesser = refl; greater = refl }
  parted low byte (Branch b tree others) from fits ascend absent = elim (cases_lt byte b) [
    | inl less ↦
        let later : IsAscendingFrom b (key_bytes (branch_roots (Branch b tree others))) = (omega arith, ascend.1, ascend.2) in
        record {
          before = NoBranch;
          after = Branch b tree others;
          same = refl;
          ascending = λ child. (from, fits, (omega (arith, less), ascend.1, ascend.2));
          lesser = none-below b byte (branch_roots (Branch b tree others)) less later;
          greater = all-above b byte (branch_roots (Branch b tree others)) less later;
        }
    | inr upto ↦ elim (cases_eq b byte) [
      | inl same ↦ (let there : Some (root_of tree) ≡ None = rw (eq-eqb b byte same) at absent in absurd (cc))
      | inr differs ↦
          let less : b < byte = omega (arith, upto, differs) in
          parted-past low byte b tree others ascend.0 ascend.1 less (parted (suc b) byte others (omega (arith, less)) fits ascend.2 (rw (ne_eqb b byte (λ same. omega (arith, less, same))) at absent))
    ]
  ]

  -- the branches of lesser and of greater bytes are those before and after the place
  parted-sides : (low byte : ℕ) (branches : Branches H) (parts : IsParted low branches byte) (end : End) → pairs_on end (branch_roots branches) byte ≡ branch_roots (branches_on end parts.before parts.after)
  parted-sides low byte branches parts First = filter_agree (λ p. nat_lt byte p.0 && true) (λ p. nat_lt byte p.0) (λ p. and-true (nat_lt byte p.0)) (branch_roots branches) ∙ parts.greater
  parted-sides low byte branches parts Last = parts.lesser

  -- an inner node has a place for a byte that has no branch
  pub child-place : (path prefix : List ℕ) (node : H) (branches : Branches H) (byte : ℕ) → IsSound path (Inner node prefix branches) → byte < 256 → child_at (branch_roots branches) byte ≡ None → HasChildPlace path prefix branches byte
  child-place path prefix node branches byte sound fits absent =
      let parts = parted 0 byte branches (omega arith) fits sound.1 absent in
      record {
        before = parts.before;
        after = parts.after;
        same = parts.same;
        place = record {
          sound = subst (AreSound (path ++ prefix)) (sym parts.same) sound.2;
          some = subst (λ all. 1 ≤ length (branch_roots all)) (sym parts.same) (omega (arith, sound.0));
          ascending = parts.ascending;
        };
        written = λ leaf text. rw (parts.lesser, parts.greater) (sym (roots-join parts.before (Branch byte (Leaf leaf text) parts.after)));
        sides = parted-sides 0 byte branches parts;
      }

  -- the node with a leaf at a place has one branch more
  pub taken-count : (before : Branches H) (byte : ℕ) (leaf : H) (text : List ℕ) (after : Branches H) → length (branch_roots (join before (Branch byte (Leaf leaf text) after))) ≡ length (branch_roots (join before after)) + 1
  taken-count before byte leaf text after = omega (
    arith,
    ap length (roots-join before (Branch byte (Leaf leaf text) after)),
    length-append (branch_roots before) ((byte, leaf) ∷ branch_roots after),
    ap length (roots-join before after),
    length-append (branch_roots before) (branch_roots after),
  )

  -- and is sound
  pub taken-sound : (path prefix : List ℕ) (pointer : H) (before : Branches H) (byte : ℕ) (leaf : H) (text : List ℕ) (after : Branches H) → HasPlace path prefix before byte after → IsPrefixOf ((path ++ prefix) ++ byte ∷ []) text → length text < 2 ^ 64 → IsSound path (with_leaf pointer prefix before byte leaf text after)
  taken-sound path prefix pointer before byte leaf text after place front short =
      let both = sound-split (path ++ prefix) before after place.sound in
      let roots = roots-join before (Branch byte (Leaf leaf text) after) in (
        omega (arith, place.some, taken-count before byte leaf text after),
        subst (λ all. IsAscending (key_bytes all)) (sym roots) (place.ascending leaf),
        sound-join (path ++ prefix) before (Branch byte (Leaf leaf text) after) both.0 ((front, short), both.1),
      )

  -- its leaves are those of the branches and the new one between them
  pub leaves-taken : (prefix : List ℕ) (pointer : H) (before : Branches H) (byte : ℕ) (leaf : H) (text : List ℕ) (after : Branches H) → leaves (with_leaf pointer prefix before byte leaf text after) ≡ branch_leaves before ++ (leaf, text) ∷ branch_leaves after
  leaves-taken prefix pointer before byte leaf text after = leaves-join before (Branch byte (Leaf leaf text) after)

  -- its pointers are its own, the new leaf's and those of the branches, and no others
  module _ (prefix : List ℕ) (pointer : H) (before : Branches H) (byte : ℕ) (leaf : H) (text : List ℕ) (after : Branches H) (q : H) where
    among : Contains (branch_places before ++ leaf ∷ branch_places after) q → Contains (places (with_leaf pointer prefix before byte leaf text after)) q
    among inside = Contains-append_right (pointer ∷ []) (branch_places (join before (Branch byte (Leaf leaf text) after))) q (subst (λ all. Contains all q) (sym (places-join before (Branch byte (Leaf leaf text) after))) inside)

    pub in-taken : (q ≡ pointer) ⊎ ((q ≡ leaf) ⊎ Contains (branch_places (join before after)) q) → Contains (places (with_leaf pointer prefix before byte leaf text after)) q
    in-taken (inl here) = (0, omega arith, sym here)
    in-taken (inr (inl new)) = among (Contains-append_right (branch_places before) (leaf ∷ branch_places after) q (0, omega arith, sym new))
    in-taken (inr (inr was)) = elim (Contains-append_cases (branch_places before) (branch_places after) q (subst (λ all. Contains all q) (places-join before after) was)) [
      | inl left ↦ among (Contains-append_left (branch_places before) (leaf ∷ branch_places after) q left)
      | inr right ↦ among (Contains-append_right (branch_places before) (leaf ∷ branch_places after) q (Contains-append_right (leaf ∷ []) (branch_places after) q right))
    ]

  -- a tree without the first bytes of its prefix has the same root, leaves and pointers
  pub root-trimmed : (len : ℕ) (part : Tree H) → root_of (ltrimmed len part) ≡ root_of part
  root-trimmed len (Leaf pointer text) = refl
  root-trimmed len (Inner pointer prefix branches) = refl

  pub leaves-trimmed : (len : ℕ) (part : Tree H) → leaves (ltrimmed len part) ≡ leaves part
  leaves-trimmed len (Leaf pointer text) = refl
  leaves-trimmed len (Inner pointer prefix branches) = refl

  pub places-trimmed : (len : ℕ) (part : Tree H) → places (ltrimmed len part) ≡ places part
  places-trimmed len (Leaf pointer text) = refl
  places-trimmed len (Inner pointer prefix branches) = refl

  -- the branches left and right of a byte are the one tree
  pub both-sides : (byte other : ℕ) (tree : Tree H) → join (branches_left byte other tree) (branches_right byte other tree) ≡ one_branch other tree
  both-sides byte other tree = elim (cases_lt byte other) [ inl less ↦ rw (lt-ltb byte other less) refl | inr upto ↦ rw (le-ltb byte other upto) refl ]

  pub leaves-sides : (byte other : ℕ) (tree : Tree H) → branch_leaves (join (branches_left byte other tree) (branches_right byte other tree)) ≡ leaves tree
  leaves-sides byte other tree = ap branch_leaves (both-sides byte other tree) ∙ append-nil (leaves tree)

  pub places-sides : (byte other : ℕ) (tree : Tree H) → branch_places (join (branches_left byte other tree) (branches_right byte other tree)) ≡ places tree
  places-sides byte other tree = ap branch_places (both-sides byte other tree) ∙ append-nil (places tree)

-- the rest of a path after its first bytes ends where the whole path does
take-past : (path rest : List ℕ) (len to : ℕ) → to ≡ length path + len → take to (path ++ rest) ≡ path ++ take len rest
take-past [] rest len to is = let same : to ≡ len = omega (arith, is) in ap (λ n. take n rest) same
take-past (b ∷ path) rest len zero is = absurd (omega (arith, is))
take-past (b ∷ path) rest len (suc to) is = ap (λ more. b ∷ more) (take-past path rest len to (omega (arith, is)))

-- a key that begins with a path, up to an index past the path
path-up-to : (path key : List ℕ) (index : ℕ) → IsPrefixOf path key → length path ≤ index → path ++ take (index - length path) (drop (length path) key) ≡ take index key
path-up-to path key index (rest, is) past =
    ap (λ more. path ++ take (index - length path) more) (ap (drop (length path)) is ∙ drop_at path rest (length path) refl)
    ∙ sym (take-past path rest (index - length path) index (omega (arith, past)))
    ∙ ap (take index) (sym is)

module _ {H : Type 0} where
  -- without the first bytes of its prefix a tree is sound under a longer path
  trimmed-sound : (path front : List ℕ) (len : ℕ) (part : Tree H) → IsSound path part → IsPrefixOf front (reach path part) → length path + len ≡ length front → IsSound front (ltrimmed len part)
  trimmed-sound path front len (Leaf pointer text) sound begins deep = (begins, sound.1)
  trimmed-sound path front len (Inner pointer prefix branches) sound (rest, is) deep =
      let left : drop len prefix ≡ rest =
      ap (drop len) (sym (drop_at path prefix (length path) refl)) ∙ drop-drop len (length path) (path ++ prefix) ∙ ap (λ n. drop n (path ++ prefix)) deep ∙ ap (drop (length front)) is ∙ drop_at front rest (length front) refl in
      (sound.0, sound.1, subst (λ whole. AreSound whole branches) (is ∙ ap (λ more. front ++ more) (sym left)) sound.2)

  -- and so much is in its prefix
  trimmed-fits : (path front : List ℕ) (len : ℕ) (node : H) (prefix : List ℕ) (branches : Branches H) → IsPrefixOf front (reach path (Inner node prefix branches)) → length path + len ≡ length front → len ≤ length prefix
  trimmed-fits path front len node prefix branches (rest, is) deep = omega (arith, deep, ap length is, length-append path prefix, length-append front rest)

-- a place for a byte beside one tree, in a new node above it
pub record HasForkPlace {H : Type 0} (path shared key : List ℕ) (byte other len : ℕ) (part : Tree H) : Type 0 where
  pub place : HasPlace path shared (branches_left byte other (ltrimmed len part)) byte (branches_right byte other (ltrimmed len part))
  pub leads : IsPrefixOf ((path ++ shared) ++ byte ∷ []) key
  pub written : (leaf : H) (text : List ℕ) → two_children byte leaf other (root_of part) ≡ branch_roots (join (branches_left byte other (ltrimmed len part)) (Branch byte (Leaf leaf text) (branches_right byte other (ltrimmed len part))))
  pub fits : (node : H) (prefix : List ℕ) (branches : Branches H) → part ≡ Inner node prefix branches → len ≤ length prefix

module _ {H : Type 0} where
  -- the bytes of the two children ascend, and the children are those two
  sides-ascend : (byte other : ℕ) (tree : Tree H) (child : H) → byte < 256 → other < 256 → byte ≢ other → IsAscending (key_bytes (branch_roots (branches_left byte other tree) ++ (byte, child) ∷ branch_roots (branches_right byte other tree)))
  sides-ascend byte other tree child fits other_fits differ = elim (cases_lt byte other) [
    | inl less ↦ rw (lt-ltb byte other less) (omega arith, fits, (omega (arith, less), other_fits, tt))
    | inr upto ↦ rw (le-ltb byte other upto) (omega arith, other_fits, (omega (arith, upto, differ), fits, tt))
  ]

  sides-written : (byte other len : ℕ) (part : Tree H) (leaf : H) (text : List ℕ)
      → two_children byte leaf other (root_of part) ≡ branch_roots (join (branches_left byte other (ltrimmed len part)) (Branch byte (Leaf leaf text) (branches_right byte other (ltrimmed len part))))
  sides-written byte other len part leaf text = elim (cases_lt byte other) [
    | inl less ↦ rw (lt-ltb byte other less) (ap (λ root. (byte, leaf) ∷ (other, root) ∷ []) (sym (root-trimmed len part)))
    | inr upto ↦ rw (le-ltb byte other upto) (ap (λ root. (other, root) ∷ (byte, leaf) ∷ []) (sym (root-trimmed len part)))
  ]

  -- where a key differs from a tree there is a place for it in a new node above the tree
  pub fork-place : (path : List ℕ) (part : Tree H) (key : List ℕ) (index byte node_byte : ℕ) → IsSound path part → IsPrefixOf path key → length path ≤ index → slice_get key index ≡ Some byte → byte < 256 → node_byte < 256 → byte ≢ node_byte
      → IsPrefixOf (take index key ++ node_byte ∷ []) (reach path part) → HasForkPlace path (take (index - length path) (drop (length path) key)) key byte node_byte (index + 1 - length path) part
  fork-place path part key index byte node_byte sound begins past at fits node_fits differ shares =
      let upto = path-up-to path key index begins past in
      let long = length-take-le index key (omega (arith, slice_get_within key index byte at)) in
      let deep : length path + (index + 1 - length path) ≡ length (take index key ++ node_byte ∷ []) = omega (arith, past, long, length-append (take index key) (node_byte ∷ [])) in
      let trimmed = ltrimmed (index + 1 - length path) part in
      let under = subst (λ front. IsSound (front ++ node_byte ∷ []) trimmed) (sym upto) (trimmed-sound path (take index key ++ node_byte ∷ []) (index + 1 - length path) part sound shares deep) in
      let one = both-sides byte node_byte trimmed in
      record {
        place = record {
          sound = subst (AreSound (path ++ take (index - length path) (drop (length path) key))) (sym one) (under, tt);
          some = subst (λ all. 1 ≤ length (branch_roots all)) (sym one) (omega arith);
          ascending = λ child. sides-ascend byte node_byte trimmed child fits node_fits differ;
        };
        leads = subst (λ front. IsPrefixOf (front ++ byte ∷ []) key) (sym upto) (key-on key index byte at);
        written = sides-written byte node_byte (index + 1 - length path) part;
        fits = λ node prefix branches is. trimmed-fits path (take index key ++ node_byte ∷ []) (index + 1 - length path) node prefix branches (subst (λ tree. IsPrefixOf (take index key ++ node_byte ∷ []) (reach path tree)) is shares) deep;
      }

module _ {K V : Type 0} {P : ℕ} where
  -- a tree without the first bytes of its prefix has the smallest kinds too, and so have the
  -- branches on both sides of a byte
  pub smallest_kinds-trimmed : (len : ℕ) (part : Tree (OpaqueNodePtr K V P)) → HasSmallestKinds part → HasSmallestKinds (ltrimmed len part)
  smallest_kinds-trimmed len (Leaf pointer text) smallest_kinds = smallest_kinds
  smallest_kinds-trimmed len (Inner pointer prefix branches) smallest_kinds = smallest_kinds

  pub smallest_kinds-sides : (byte other : ℕ) (tree : Tree (OpaqueNodePtr K V P)) → HasSmallestKinds tree → HaveSmallestKinds (branches_left byte other tree) × HaveSmallestKinds (branches_right byte other tree)
  smallest_kinds-sides byte other tree smallest_kinds = elim (cases_lt byte other) [ inl less ↦ rw (lt-ltb byte other less) (tt, (smallest_kinds, tt)) | inr upto ↦ rw (le-ltb byte other upto) ((smallest_kinds, tt), tt) ]

  -- the node with a leaf at a place has the smallest kinds where it is of the kind for one branch
  -- more
  pub smallest_kinds-taken : (pointer : OpaqueNodePtr K V P) (prefix : List ℕ) (before : Branches (OpaqueNodePtr K V P)) (byte : ℕ) (leaf : OpaqueNodePtr K V P) (text : List ℕ) (after : Branches (OpaqueNodePtr K V P)) → node_kind pointer ≡ kind_for (length (branch_roots (join before after)) + 1)
      → HaveSmallestKinds before → HaveSmallestKinds after → HasSmallestKinds (with_leaf pointer prefix before byte leaf text after)
  smallest_kinds-taken pointer prefix before byte leaf text after kind smallest_kinds_before smallest_kinds_after = (kind ∙ ap kind_for (sym (taken-count before byte leaf text after)), smallest_kinds-join before (Branch byte (Leaf leaf text) after) smallest_kinds_before (tt, smallest_kinds_after))

-- a new text lies beside each neighbour of its gap where all texts ascend
module _ {H : Type 0} (R : List ℕ → List ℕ → Type 0) where
  from-gap : (left right : List (H × List ℕ)) → AllPairs R (map (λ pair. pair.1) (left ++ right)) → AllPairs R (map (λ pair. pair.1) right)
  from-gap [] right pairs = pairs
  from-gap (y ∷ left) right pairs = from-gap left right (λ i j d before inside. pairs (suc i) (suc j) d (omega (arith, before)) (omega (arith, inside)))

pub beside-less : {H : Type 0} (left right : List (H × List ℕ)) (leaf : H) (text : List ℕ) → AllPairs (λ a b. text_order a b ≡ Less) (map (λ pair. pair.1) (left ++ (leaf, text) ∷ right))
    → (end : End) (p : H) (x : List ℕ) → IsBeside end left right (p, x) → IsOnSide end text x
beside-less left right leaf text ascend First p x (others, is) =
    after-first (λ a b. text_order a b ≡ Less) (leaf, text) right p x (from-gap (λ a b. text_order a b ≡ Less) left ((leaf, text) ∷ right) ascend) (subst (λ all. Contains all (p, x)) (sym is) (0, omega arith, refl))
beside-less left right leaf text ascend Last p x (others, is) =
    let whole : left ++ (leaf, text) ∷ right ≡ others ++ (p, x) ∷ (leaf, text) ∷ right = ap (λ all. all ++ (leaf, text) ∷ right) is ∙ append_assoc others ((p, x) ∷ []) ((leaf, text) ∷ right) in
    after-first (λ a b. text_order a b ≡ Less) (p, x) ((leaf, text) ∷ right) leaf text
    (from-gap (λ a b. text_order a b ≡ Less) others ((p, x) ∷ (leaf, text) ∷ right) (subst (λ all. AllPairs (λ a b. text_order a b ≡ Less) (map (λ pair. pair.1) all)) whole ascend)) (0, omega arith, refl)
