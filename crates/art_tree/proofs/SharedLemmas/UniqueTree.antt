-- A sound tree is determined by its texts.
use Rattle.art_tree.proofs.Names.{NodeType, Contains, ◌≡◌, ◌∙◌, ℕ, suc, ◌<◌, List, [], ◌∷◌, ◌++◌, length, length-append, get_or, All, refl, sym, ap, subst, arith, append-nil, ◌↔◌, IsWellFormed, Tree, Leaf, Inner, Branches, NoBranch, Branch, leaves, branch_leaves, texts, branch_texts, branch_roots, IsSound, AreSound, SameButPointers, SameBranches, nodes_of, same_texts, map-append, append_cancel_left, All-nil, All-cons, All-head, All-tail, All-weaker, IsPrefixOf, IsAscendingFrom, key_bytes, prefix-antisym, GoesOn, IsLongestCommonPrefix-node, texts-ascend, texts-begin, texts-go-on, texts-some}
use Rattle.std.proofs.Math.ListN.{get_or-append}
use Rattle.art_arena.specs.CommonPrefix.{IsLongestCommonPrefix}
use Rattle.art_tree.proofs.SharedLemmas.NodeCounts.{nodes-agree}

-- where members of one sort come before those of another, a list has one such division
one-division : {X : Type 0} (A B : X → Type 0) → ((x : X) → A x → B x → ⊥) → (xs ys us vs : List X) → xs ++ ys ≡ us ++ vs → All A xs → All B ys → All A us → All B vs → (xs ≡ us) × (ys ≡ vs)
one-division A B apart [] ys [] vs same ax by au bv = (refl, same)
one-division A B apart [] ys (u ∷ us) vs same ax by au bv = absurd (apart u (All-head A u us au) (All-head B u (us ++ vs) (subst (All B) same by)))
one-division A B apart (x ∷ xs) ys [] vs same ax by au bv = absurd (apart x (All-head A x xs ax) (All-head B x (xs ++ ys) (subst (All B) (sym same) bv)))
one-division A B apart (x ∷ xs) ys (u ∷ us) vs same ax by au bv =
    let first : x ≡ u = cc in
    let later : xs ++ ys ≡ us ++ vs = cc in
    let rest = one-division A B apart xs ys us vs later (All-tail A x xs ax) by (All-tail A u us au) bv in
    (ap (λ z. z ∷ xs) first ∙ ap (λ z. u ∷ z) rest.0, rest.1)

-- what begins with a path goes on with one byte
one-byte : (path : List ℕ) (b c : ℕ) (r s : List ℕ) → (path ++ b ∷ []) ++ r ≡ (path ++ c ∷ []) ++ s → b ≡ c
one-byte [] b c r s same = cc
one-byte (x ∷ path) b c r s same = let later : (path ++ b ∷ []) ++ r ≡ (path ++ c ∷ []) ++ s = cc in one-byte path b c r s later

-- a path is shorter than what goes on after it
longer : (path : List ℕ) (byte : ℕ) (text : List ℕ) → IsPrefixOf (path ++ byte ∷ []) text → length path < length text
longer path byte text (rest, is) = omega (arith, ap length is, length-append (path ++ byte ∷ []) rest, length-append path (byte ∷ []))

not-longer : (front text : List ℕ) → IsPrefixOf text front → length front < length text → ⊥
not-longer front text (rest, is) less = omega (arith, ap length is, length-append text rest, less)

module _ {H : Type 0} where
  branch_texts-are : (byte : ℕ) (tree : Tree H) (others : Branches H) → branch_texts (Branch byte tree others) ≡ texts tree ++ branch_texts others
  branch_texts-are byte tree others = map-append (λ leaf. leaf.1) (leaves tree) (branch_leaves others)

  -- none of the later branches has a text that goes on with an earlier byte
  none-goes : (path : List ℕ) (byte low : ℕ) (branches : Branches H) → byte < low → AreSound path branches → IsAscendingFrom low (key_bytes (branch_roots branches)) → All (λ text. IsPrefixOf (path ++ byte ∷ []) text → ⊥) (branch_texts branches)
  none-goes path byte low branches below sound ascend =
      All-weaker (GoesOn path low) (λ text. IsPrefixOf (path ++ byte ∷ []) text → ⊥) (λ text on other. let same = one-byte path on.byte byte on.begins.0 other.0 (sym on.begins.1 ∙ other.1) in omega (arith, same, below, on.reaches)) (branch_texts branches) (texts-go-on path branches low sound ascend)

  -- an inner node has more than one text below
  not-one : (path prefix : List ℕ) (pointer : H) (branches : Branches H) (text : List ℕ) → IsSound path (Inner pointer prefix branches) → branch_texts branches ≡ text ∷ [] → ⊥
  not-one path prefix pointer branches text sound is =
      let itself : All (IsPrefixOf text) (branch_texts branches) = subst (All (IsPrefixOf text)) (sym is) (All-cons (IsPrefixOf text) text [] ([], sym (append-nil text)) (All-nil (IsPrefixOf text))) in
      let goes = All-head (GoesOn (path ++ prefix) 0) text [] (subst (All (GoesOn (path ++ prefix) 0)) is (texts-go-on (path ++ prefix) branches 0 sound.2 sound.1)) in
      not-longer (path ++ prefix) text ((IsLongestCommonPrefix-node path pointer prefix branches sound).longest text itself) (longer (path ++ prefix) goes.byte text goes.begins)

-- the longest text that all of them share is one
one-shared : (all : List (List ℕ)) (p q : List ℕ) → IsLongestCommonPrefix all p → IsLongestCommonPrefix all q → p ≡ q
one-shared all p q first second = prefix-antisym p q (second.longest p first.begins_each) (first.longest q second.begins_each)

module _ {H L : Type 0} where
  mutual
    pub same-tree : (path : List ℕ) (tree : Tree H) (other : Tree L) → IsSound path tree → IsSound path other → texts tree ≡ texts other → SameButPointers tree other
    same-tree path (Leaf pointer text) (Leaf at x) sound other_sound same = cc
    same-tree path (Leaf pointer text) (Inner at prefix branches) sound other_sound same = not-one path prefix at branches text other_sound (sym same)
    same-tree path (Inner pointer prefix branches) (Leaf at x) sound other_sound same = not-one path prefix pointer branches x sound same
    same-tree path (Inner pointer prefix branches) (Inner at p more) sound other_sound same =
        let fronts : path ++ prefix ≡ path ++ p =
        one-shared (branch_texts more) (path ++ prefix) (path ++ p) (subst (λ all. IsLongestCommonPrefix all (path ++ prefix)) same (IsLongestCommonPrefix-node path pointer prefix branches sound)) (IsLongestCommonPrefix-node path at p more other_sound) in
        let prefixes : prefix ≡ p = append_cancel_left path prefix p fronts in
        (prefixes, same-branches (path ++ prefix) branches more 0 0 sound.2 (subst (λ q. AreSound (path ++ q) more) (sym prefixes) other_sound.2) sound.1 other_sound.1 same)

    same-branches : (path : List ℕ) (branches : Branches H) (more : Branches L) (low other_low : ℕ) → AreSound path branches → AreSound path more → IsAscendingFrom low (key_bytes (branch_roots branches)) → IsAscendingFrom other_low (key_bytes (branch_roots more))
        → branch_texts branches ≡ branch_texts more → SameBranches branches more
    same-branches path NoBranch NoBranch low other_low sound more_sound ascend more_ascend same = tt
    same-branches path NoBranch (Branch b t rest) low other_low sound more_sound ascend more_ascend same =
        let some = texts-some (path ++ b ∷ []) t more_sound.0 in
        omega (arith, some, ap length same, ap length (branch_texts-are b t rest), length-append (texts t) (branch_texts rest))
    same-branches path (Branch byte tree others) NoBranch low other_low sound more_sound ascend more_ascend same =
        let some = texts-some (path ++ byte ∷ []) tree sound.0 in
        omega (arith, some, ap length same, ap length (branch_texts-are byte tree others), length-append (texts tree) (branch_texts others))
    same-branches path (Branch byte tree others) (Branch b t rest) low other_low sound more_sound ascend more_ascend same =
        let lists : texts tree ++ branch_texts others ≡ texts t ++ branch_texts rest = sym (branch_texts-are byte tree others) ∙ same ∙ branch_texts-are b t rest in
        let some = texts-some (path ++ byte ∷ []) tree sound.0 in
        let other_some = texts-some (path ++ b ∷ []) t more_sound.0 in
        let begin = texts-begin (path ++ byte ∷ []) tree sound.0 in
        let other_begin = texts-begin (path ++ b ∷ []) t more_sound.0 in
        let first : get_or (texts tree) 0 [] ≡ get_or (texts t) 0 [] =
        sym (get_or-append (texts tree) (branch_texts others) [] 0 some) ∙ ap (λ all. get_or all 0 []) lists ∙ get_or-append (texts t) (branch_texts rest) [] 0 other_some in
        let one = begin 0 [] some in
        let another = other_begin 0 [] other_some in
        let bytes : byte ≡ b = one-byte path byte b one.0 another.0 (sym one.1 ∙ first ∙ another.1) in
        let parts =
        one-division (IsPrefixOf (path ++ byte ∷ [])) (λ text. IsPrefixOf (path ++ byte ∷ []) text → ⊥) (λ text begins never. never begins) (texts tree) (branch_texts others) (texts t) (branch_texts rest) lists begin
        (none-goes path byte (suc byte) others (omega arith) sound.1 ascend.2)
        (subst (λ c. All (IsPrefixOf (path ++ c ∷ [])) (texts t)) (sym bytes) other_begin)
        (none-goes path byte (suc b) rest (omega (arith, bytes)) more_sound.1 more_ascend.2) in
        (bytes, same-tree (path ++ byte ∷ []) tree t sound.0 (subst (λ c. IsSound (path ++ c ∷ []) t) (sym bytes) more_sound.0) parts.0, same-branches path others rest (suc byte) (suc b) sound.1 more_sound.1 ascend.2 more_ascend.2 parts.1)

  -- so trees with the same texts have as many nodes of each kind
  pub same-nodes : (tree : Tree H) (other : Tree L) (kind : NodeType) → IsWellFormed tree → IsWellFormed other → ((text : List ℕ) → Contains (texts tree) text ↔ Contains (texts other) text) → nodes_of kind tree ≡ nodes_of kind other
  same-nodes tree other kind sound other_sound same =
      let one = same_texts (texts tree) (texts other) (texts-ascend [] tree sound) (texts-ascend [] other other_sound) (λ text inside. (same text).0 inside) (λ text inside. (same text).1 inside) in
      nodes-agree kind tree other (same-tree [] tree other sound other_sound one)
