-- Loading: a plan leads from the trees that are made to a whole one.
use Rattle.art_steps.proofs.Names.{◌≡◌, ◌∙◌, ℕ, zero, suc, ◌+◌, ◌-◌, ◌<◌, ◌≤◌, ◌^◌, List, [], ◌∷◌, ◌++◌, length, length-append, map, take, drop, slice_get, Some, refl, sym, ap, subst, arith, append_assoc, append-nil, length-map, take_at, drop_at, IsPrefixOf, IsAscending, key_bytes, Tree, Leaf, Inner, Branches, NoBranch, Branch, branch_roots, IsSound, AreSound, IsWellFormed, steps_of, branch_steps, Spans, BranchesSpan, join, text_of_entry, Step, prefix-shorter}
use Rattle.art_steps.specs.declared.steps.Step.TheVariants as step
use Rattle.art_steps.proofs.SharedLemmas.BranchLemmas.{one_branch, join_assoc}

-- the last trees are the branches of a node with this part of the text as its prefix
pub record Takes {H : Type 0} (text : List ℕ) (stack : Branches H) (start end children : ℕ) : Type 0 where
  pub front : Branches H
  pub branches : Branches H
  pub splits : stack ≡ join front branches
  pub counted : length (branch_roots branches) ≡ children
  pub two : 2 ≤ length (branch_roots branches)
  pub ascending : IsAscending (key_bytes (branch_roots branches))
  pub ordered : start ≤ end
  pub within : end ≤ length text

module _ {H : Type 0} (pairs : List (H × List ℕ)) where
  -- after the first leaves, with these trees made, the steps that are left make one well-formed tree, whatever pointers the nodes get
  abbrev pub Leads : ℕ → Branches H → List Step → Type 0
  Leads i stack [] = (i ≡ length pairs) × (byte : ℕ) × (tree : Tree H) × (stack ≡ one_branch byte tree) × IsWellFormed tree
  Leads i stack (step.Leaf byte ∷ steps) = (leaf : H × List ℕ) × (slice_get pairs i ≡ Some leaf) × Leads (i + 1) (join stack (one_branch byte (Leaf leaf.0 leaf.1))) steps
  Leads i stack (step.Inner byte start end children ∷ steps) =
      (last : H × List ℕ) × (0 < i) × (slice_get pairs (i - 1) ≡ Some last) × (takes : Takes last.1 stack start end children)
      × ((pointer : H) → Leads i (join takes.front (one_branch byte (Inner pointer (take (end - start) (drop start last.1)) takes.branches))) steps)

pub join-none : {H : Type 0} (a : Branches H) → join a NoBranch ≡ a
join-none NoBranch = refl
join-none (Branch byte tree others) = ap (Branch byte tree) (join-none others)

-- the last text of a tree, which begins with its path
record Last (texts : List (List ℕ)) (path : List ℕ) (low high : ℕ) : Type 0 where
  pub some : low < high
  pub within : high ≤ length texts
  pub front : IsPrefixOf path (text_of_entry texts (high - 1))

module _ {U : Type 0} (texts : List (List ℕ)) where
  mutual
    tree-last : (tree : Tree U) (low high : ℕ) (path : List ℕ) → Spans texts low tree high → IsSound path tree → Last texts path low high
    tree-last (Leaf pointer text) low high path spans sound = record {
      some = omega (arith, spans.1);
      within = omega (arith, spans.0, spans.1);
      front = let at : low ≡ high - 1 = omega (arith, spans.1) in subst (IsPrefixOf path) (spans.2 ∙ ap (text_of_entry texts) at) sound.0;
    }
    tree-last (Inner pointer prefix branches) low high path spans sound =
        let last = branches-last branches low high (path ++ prefix) spans sound.2 (omega (arith, sound.0)) in
        record { some = last.some; within = last.within; front = prefix-shorter path prefix (text_of_entry texts (high - 1)) last.front }

    branches-last : (branches : Branches U) (low high : ℕ) (path : List ℕ) → BranchesSpan texts low branches high → AreSound path branches → 1 ≤ length (branch_roots branches) → Last texts path low high
    branches-last NoBranch low high path spans sound some = absurd (omega (arith, some))
    branches-last (Branch byte tree NoBranch) low high path spans sound some =
        let last = tree-last tree low spans.0 (path ++ byte ∷ []) spans.1 sound.0 in
        let same : high ≡ spans.0 = spans.2 in
        record {
          some = omega (arith, last.some, same);
          within = omega (arith, last.within, same);
          front = subst (λ n. IsPrefixOf path (text_of_entry texts (n - 1))) (sym same) (prefix-shorter path (byte ∷ []) (text_of_entry texts (spans.0 - 1)) last.front);
        }
    branches-last (Branch byte tree (Branch b t others)) low high path spans sound some =
        let first = tree-last tree low spans.0 (path ++ byte ∷ []) spans.1 sound.0 in
        let last = branches-last (Branch b t others) spans.0 high path spans.2 sound.1 (omega arith) in
        record { some = omega (arith, first.some, last.some); within = last.within; front = last.front }

-- the middle of a text that begins with three parts
middle-of : (path prefix text : List ℕ) → IsPrefixOf (path ++ prefix) text → take ((length path + length prefix) - length path) (drop (length path) text) ≡ prefix
middle-of path prefix text (rest, is) =
    let split : text ≡ path ++ (prefix ++ rest) = is ∙ append_assoc path prefix rest in
    let long : (length path + length prefix) - length path ≡ length prefix = omega arith in
    ap (λ n. take n (drop (length path) text)) long ∙ ap (λ t. take (length prefix) (drop (length path) t)) split ∙ ap (take (length prefix)) (drop_at path (prefix ++ rest) (length path) refl) ∙ take_at prefix rest (length prefix) refl

module _ {H : Type 0} (pairs : List (H × List ℕ)) where
  abbrev pub texts : List (List ℕ)
  texts = map (λ pair. pair.1) pairs

  -- the pair at an index, whose text is the text there
  pair-at : (i : ℕ) → i < length texts → (pair : H × List ℕ) × (slice_get pairs i ≡ Some pair) × (pair.1 ≡ text_of_entry texts i)
  pair-at i lt = found pairs i lt
    where
      found : (all : List (H × List ℕ)) (i : ℕ) → i < length (map (λ (pair : H × List ℕ). pair.1) all) → (pair : H × List ℕ) × (slice_get all i ≡ Some pair) × (pair.1 ≡ text_of_entry (map (λ (pair : H × List ℕ). pair.1) all) i)
      found [] i lt = absurd (omega arith)
      found (pair ∷ others) zero lt = (pair, refl, refl)
      found (pair ∷ others) (suc i) lt = found others i (omega arith)

module _ {H U : Type 0} (pairs : List (H × List ℕ)) where
  mutual
    tree-leads : (shape : Tree U) (low high : ℕ) (path : List ℕ) (byte : ℕ) (stack : Branches H) (rest : List Step) → Spans (texts pairs) low shape high → IsSound path shape
        → ((tree : Tree H) → IsSound path tree → Leads pairs high (join stack (one_branch byte tree)) rest) → Leads pairs low stack (steps_of byte (length path) shape ++ rest)
    tree-leads (Leaf pointer text) low high path byte stack rest spans sound go =
        let at = pair-at pairs low spans.0 in
        let same : text ≡ at.0.1 = spans.2 ∙ sym at.2 in
        (at.0, at.1, subst (λ n. Leads pairs n (join stack (one_branch byte (Leaf at.0.0 at.0.1))) rest) spans.1 (go (Leaf at.0.0 at.0.1) (subst (λ t. IsPrefixOf path t × (length t < 2 ^ 64)) same sound)))
    tree-leads (Inner pointer prefix branches) low high path byte stack rest spans sound go =
        let made = step.Inner byte (length path) (length path + length prefix) (length (branch_roots branches)) in
        let last = branches-last (texts pairs) branches low high (path ++ prefix) spans sound.2 (omega (arith, sound.0)) in
        let at = pair-at pairs (high - 1) (omega (arith, last.some, last.within)) in
        let front : IsPrefixOf (path ++ prefix) at.0.1 = subst (IsPrefixOf (path ++ prefix)) (sym at.2) last.front in
        let start : length (path ++ prefix) + 1 ≡ length path + length prefix + 1 = omega (arith, length-append path prefix) in
        let long : length path + length prefix ≤ length at.0.1 = omega (arith, ap length front.1, length-append (path ++ prefix) front.0, length-append path prefix) in
        let middle = middle-of path prefix at.0.1 front in
        subst (Leads pairs low stack) (sym (append_assoc (branch_steps (length path + length prefix + 1) branches) (made ∷ []) rest))
        (subst (λ n. Leads pairs low stack (branch_steps n branches ++ (made ∷ rest))) start
        (branches-lead branches low high (path ++ prefix) stack (made ∷ rest) spans sound.2 (λ bs bs_sound bytes.
        let count : length (branch_roots bs) ≡ length (branch_roots branches) = sym (length-map (branch_roots bs) (λ pair. pair.0)) ∙ ap length bytes ∙ length-map (branch_roots branches) (λ pair. pair.0) in (
          at.0,
          omega (arith, last.some),
          at.1,
          record { front = stack; branches = bs; splits = refl; counted = count; two = omega (arith, count, sound.0); ascending = subst IsAscending (sym bytes) sound.1; ordered = omega arith; within = long },
          λ pointer. go (Inner pointer (take ((length path + length prefix) - length path) (drop (length path) at.0.1)) bs)
              (omega (arith, count, sound.0), subst IsAscending (sym bytes) sound.1, subst (λ p. AreSound (path ++ p) bs) (sym middle) bs_sound),
        ))))

    branches-lead : (shapes : Branches U) (low high : ℕ) (path : List ℕ) (stack : Branches H) (rest : List Step) → BranchesSpan (texts pairs) low shapes high → AreSound path shapes
        → ((bs : Branches H) → AreSound path bs → key_bytes (branch_roots bs) ≡ key_bytes (branch_roots shapes) → Leads pairs high (join stack bs) rest) → Leads pairs low stack (branch_steps (length path + 1) shapes ++ rest)
    branches-lead NoBranch low high path stack rest spans sound go = subst (λ n. Leads pairs n stack rest) spans (subst (λ s. Leads pairs high s rest) (join-none stack) (go NoBranch tt refl))
    branches-lead (Branch byte tree others) low high path stack rest spans sound go =
        let deeper : length (path ++ byte ∷ []) ≡ length path + 1 = length-append path (byte ∷ []) in
        subst (Leads pairs low stack) (sym (append_assoc (steps_of byte (length path + 1) tree) (branch_steps (length path + 1) others) rest))
        (subst (λ n. Leads pairs low stack (steps_of byte n tree ++ (branch_steps (length path + 1) others ++ rest))) deeper
        (tree-leads tree low spans.0 (path ++ byte ∷ []) byte stack (branch_steps (length path + 1) others ++ rest) spans.1 sound.0 (λ t t_sound.
        branches-lead others spans.0 high path (join stack (one_branch byte t)) rest spans.2 sound.1 (λ bs bs_sound bytes.
        subst (λ s. Leads pairs high s rest) (sym (join_assoc stack (one_branch byte t) bs)) (go (Branch byte t bs) (t_sound, bs_sound) (ap (λ rest. byte ∷ rest) bytes))))))

  -- a plan of the leaves' texts leads to a tree of them
  pub plan-leads : (steps : List Step) (shape : Tree U) → IsWellFormed shape → Spans (texts pairs) 0 shape (length (texts pairs)) → steps ≡ steps_of 0 0 shape → Leads pairs 0 NoBranch steps
  plan-leads steps shape sound spans is =
      subst (Leads pairs 0 NoBranch) (append-nil (steps_of 0 0 shape) ∙ sym is)
      (tree-leads shape 0 (length (texts pairs)) [] 0 NoBranch [] spans sound (λ tree tree_sound. (length-map pairs (λ pair. pair.1), 0, tree, refl, tree_sound)))
