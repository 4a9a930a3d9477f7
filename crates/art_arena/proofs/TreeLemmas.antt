-- The texts of sound trees: common prefixes and order.
use Rattle.std.proofs.Common.{◌≡◌, ◌∙◌, ℕ, suc, ◌-◌, ◌<◌, ◌≤◌, List, [], ◌∷◌, ◌++◌, length, length-append, get_or, All, AllPairs, refl, sym, ap, subst, inl, inr, arith}
use Rattle.std.specs.declared.cmp.Ordering.TheVariants.{Less}
use Rattle.std.proofs.lemmas.Bool.{cases_lt}
use Rattle.std.proofs.lemmas.List.{map-append}
use Rattle.std.proofs.lemmas.List.Elements.{All-nil, All-cons, All-append, All-weaker}
use Rattle.std.proofs.Math.ListN.{get_or-append}
use Rattle.std.proofs.Math.Seq.{get_or-append_right}
use Rattle.art_bytes.specs.Text.{IsPrefixOf, text_order}
use Rattle.art_nodes.specs.ChildMap.{IsAscendingFrom, key_bytes}
use Rattle.art_arena.specs.CommonPrefix.{IsLongestCommonPrefix}
use Rattle.art_arena.specs.Trees.{Tree, Leaf, Inner, Branches, NoBranch, Branch, leaves, branch_leaves, texts, branch_texts, branch_roots, IsSound, AreSound, SameButPointers, SameBranches}
use Rattle.art_bytes.proofs.PrefixLaws.{prefix-shorter}
use Rattle.art_arena.proofs.TextLemmas.{prefix_of_both, PartsBefore, PartsBefore-less, PartsBefore-apart}

-- pairs of a joined list are pairs of a part, or cross from the first into the second
pub AllPairs-append : {X : Type 0} (R : X → X → Type 0) (xs ys : List X) → AllPairs R xs → AllPairs R ys → All (λ x. All (R x) ys) xs → AllPairs R (xs ++ ys)
AllPairs-append R xs ys left right across i j d before inside = elim (cases_lt j (length xs)) [
  | inl in_left ↦ rw (get_or-append xs ys d i (omega arith), get_or-append xs ys d j in_left) (left i j d before in_left)
  | inr in_right ↦
      let fits : j - length xs < length ys = omega (arith, length-append xs ys) in
      elim (cases_lt i (length xs)) [
        | inl i_left ↦ rw (get_or-append xs ys d i i_left, get_or-append_right xs ys j d in_right) (across i d i_left (j - length xs) d fits)
        | inr i_right ↦ rw (get_or-append_right xs ys i d i_right, get_or-append_right xs ys j d in_right) (right (i - length xs) (j - length xs) d (omega arith) fits)
      ]
]

-- a text begins with this path and a byte that is not below `low`
pub record GoesOn (path : List ℕ) (low : ℕ) (text : List ℕ) : Type 0 where
  pub byte : ℕ
  pub reaches : low ≤ byte
  pub begins : IsPrefixOf (path ++ byte ∷ []) text

-- a text that begins with the path and this byte is before one that goes on with a greater byte
pub parts_before : (path : List ℕ) (byte : ℕ) (x y : List ℕ) → IsPrefixOf (path ++ byte ∷ []) x → GoesOn path (suc byte) y → PartsBefore x y
parts_before path byte x y begins on = record { front = path; lesser = byte; greater = on.byte; begins = begins; other_begins = on.begins; ascends = omega (arith, on.reaches) }

module _ {H : Type 0} where
  mutual
    -- every text of a sound tree begins with the path to it
    pub texts-begin : (path : List ℕ) (tree : Tree H) → IsSound path tree → All (IsPrefixOf path) (texts tree)
    texts-begin path (Leaf pointer text) sound = All-cons (IsPrefixOf path) text [] sound.0 (All-nil (IsPrefixOf path))
    texts-begin path (Inner pointer prefix branches) sound =
        All-weaker (GoesOn (path ++ prefix) 0) (IsPrefixOf path) (λ text on. prefix-shorter path prefix text (prefix-shorter (path ++ prefix) (on.byte ∷ []) text on.begins)) (branch_texts branches) (texts-go-on (path ++ prefix) branches 0 sound.2 sound.1)

    -- and below an inner node with a byte of its branches
    pub texts-go-on : (path : List ℕ) (branches : Branches H) (low : ℕ) → AreSound path branches → IsAscendingFrom low (key_bytes (branch_roots branches)) → All (GoesOn path low) (branch_texts branches)
    texts-go-on path NoBranch low sound ascend = All-nil (GoesOn path low)
    texts-go-on path (Branch byte tree others) low sound ascend =
        subst (All (GoesOn path low)) (sym (map-append (λ leaf. leaf.1) (leaves tree) (branch_leaves others)))
        (All-append (GoesOn path low) (texts tree) (branch_texts others)
        (All-weaker (IsPrefixOf (path ++ byte ∷ [])) (GoesOn path low) (λ text begins. record { byte = byte; reaches = ascend.0; begins = begins }) (texts tree) (texts-begin (path ++ byte ∷ []) tree sound.0))
        (All-weaker (GoesOn path (suc byte)) (GoesOn path low) (λ text on. record { byte = on.byte; reaches = omega (arith, on.reaches, ascend.0); begins = on.begins }) (branch_texts others) (texts-go-on path others (suc byte) sound.1 ascend.2)))

  mutual
    -- a sound tree has a leaf
    pub texts-some : (path : List ℕ) (tree : Tree H) → IsSound path tree → 0 < length (texts tree)
    texts-some path (Leaf pointer text) sound = omega arith
    texts-some path (Inner pointer prefix branches) sound = branch_texts-some (path ++ prefix) branches (omega (arith, sound.0)) sound.2

    pub branch_texts-some : (path : List ℕ) (branches : Branches H) → 0 < length (branch_roots branches) → AreSound path branches → 0 < length (branch_texts branches)
    branch_texts-some path NoBranch some sound = absurd (omega (arith, some))
    branch_texts-some path (Branch byte tree others) some sound =
        rw (map-append (λ leaf. leaf.1) (leaves tree) (branch_leaves others), length-append) (omega (arith, texts-some (path ++ byte ∷ []) tree sound.0))

  -- a common prefix of all texts of two branches is a prefix of the path to them
  prefix_of_two : (path : List ℕ) (b c : ℕ) (t u : Tree H) (others : Branches H) (other : List ℕ) → IsSound (path ++ b ∷ []) t → IsSound (path ++ c ∷ []) u → b < c → All (IsPrefixOf other) (branch_texts (Branch b t (Branch c u others))) → IsPrefixOf other path
  prefix_of_two path b c t u others other t_sound u_sound less all =
      let joined : branch_texts (Branch b t (Branch c u others)) ≡ texts t ++ (texts u ++ branch_texts others) =
      map-append (λ leaf. leaf.1) (leaves t) (branch_leaves (Branch c u others)) ∙ ap (λ z. texts t ++ z) (map-append (λ leaf. leaf.1) (leaves u) (branch_leaves others)) in
      let each : All (IsPrefixOf other) (texts t ++ (texts u ++ branch_texts others)) = subst (All (IsPrefixOf other)) joined all in
      let t_some = texts-some (path ++ b ∷ []) t t_sound in
      let u_some = texts-some (path ++ c ∷ []) u u_sound in
      let x = get_or (texts t) 0 [] in
      let y = get_or (texts u) 0 [] in
      let x_on : IsPrefixOf (path ++ b ∷ []) x = texts-begin (path ++ b ∷ []) t t_sound 0 [] t_some in
      let y_on : IsPrefixOf (path ++ c ∷ []) y = texts-begin (path ++ c ∷ []) u u_sound 0 [] u_some in
      let x_in : IsPrefixOf other x = subst (IsPrefixOf other) (get_or-append (texts t) (texts u ++ branch_texts others) [] 0 t_some) (each 0 [] (omega (arith, t_some, length-append (texts t) (texts u ++ branch_texts others)))) in
      let at : ℕ = length (texts t) in
      let y_in : IsPrefixOf other y =
      subst (IsPrefixOf other) (get_or-append_right (texts t) (texts u ++ branch_texts others) at [] (omega arith) ∙ ap (λ n. get_or (texts u ++ branch_texts others) n []) (omega arith) ∙ get_or-append (texts u) (branch_texts others) [] 0 u_some)
      (each at [] (omega (arith, u_some, length-append (texts t) (texts u ++ branch_texts others), length-append (texts u) (branch_texts others)))) in
      prefix_of_both other path b c x_in.0 x_on.0 y_in.0 y_on.0 (sym x_in.1 ∙ x_on.1) (sym y_in.1 ∙ y_on.1) (λ same. omega (arith, less))

  -- path and prefix of an inner node are what all texts below share
  pub IsLongestCommonPrefix-node : (path : List ℕ) (pointer : H) (prefix : List ℕ) (branches : Branches H) → IsSound path (Inner pointer prefix branches) → IsLongestCommonPrefix (branch_texts branches) (path ++ prefix)
  IsLongestCommonPrefix-node path pointer prefix NoBranch sound = absurd (omega (arith, sound.0))
  IsLongestCommonPrefix-node path pointer prefix (Branch b t NoBranch) sound = absurd (omega (arith, sound.0))
  IsLongestCommonPrefix-node path pointer prefix (Branch b t (Branch c u others)) sound = record {
    begins_each = All-weaker (GoesOn (path ++ prefix) 0) (IsPrefixOf (path ++ prefix)) (λ text on. prefix-shorter (path ++ prefix) (on.byte ∷ []) text on.begins) (branch_texts (Branch b t (Branch c u others))) (texts-go-on (path ++ prefix) (Branch b t (Branch c u others)) 0 sound.2 sound.1);
    longest = λ other all. prefix_of_two (path ++ prefix) b c t u others other sound.2.0 sound.2.1.0 sound.1.2.0 all;
  }

  mutual
    -- each text is before every later one
    pub texts-part : (path : List ℕ) (tree : Tree H) → IsSound path tree → AllPairs PartsBefore (texts tree)
    texts-part path (Leaf pointer text) sound = λ i j d before inside. absurd (omega (arith, before, inside))
    texts-part path (Inner pointer prefix branches) sound = branch_texts-part (path ++ prefix) branches 0 sound.2 sound.1

    pub branch_texts-part : (path : List ℕ) (branches : Branches H) (low : ℕ) → AreSound path branches → IsAscendingFrom low (key_bytes (branch_roots branches)) → AllPairs PartsBefore (branch_texts branches)
    branch_texts-part path NoBranch low sound ascend = λ i j d before inside. absurd (omega (arith, inside))
    branch_texts-part path (Branch byte tree others) low sound ascend =
        subst (AllPairs PartsBefore) (sym (map-append (λ leaf. leaf.1) (leaves tree) (branch_leaves others)))
        (AllPairs-append PartsBefore (texts tree) (branch_texts others)
        (texts-part (path ++ byte ∷ []) tree sound.0)
        (branch_texts-part path others (suc byte) sound.1 ascend.2)
        (All-weaker (IsPrefixOf (path ++ byte ∷ [])) (λ x. All (PartsBefore x) (branch_texts others))
        (λ x begins. All-weaker (GoesOn path (suc byte)) (PartsBefore x) (λ y on. parts_before path byte x y begins on) (branch_texts others) (texts-go-on path others (suc byte) sound.1 ascend.2))
        (texts tree) (texts-begin (path ++ byte ∷ []) tree sound.0)))

  -- texts ascend strictly
  pub texts-ascend : (path : List ℕ) (tree : Tree H) → IsSound path tree → AllPairs (λ a b. text_order a b ≡ Less) (texts tree)
  texts-ascend path tree sound i j d before inside = PartsBefore-less (get_or (texts tree) i d) (get_or (texts tree) j d) (texts-part path tree sound i j d before inside)

  -- no text is a prefix of another
  pub texts-apart : (path : List ℕ) (tree : Tree H) → IsSound path tree → AllPairs (λ a b. (IsPrefixOf a b → ⊥) × (IsPrefixOf b a → ⊥)) (texts tree)
  texts-apart path tree sound i j d before inside = PartsBefore-apart (get_or (texts tree) i d) (get_or (texts tree) j d) (texts-part path tree sound i j d before inside)

module _ {H L : Type 0} where
  mutual
    -- trees that are the same but for their pointers have the same texts
    pub texts-same : (tree : Tree H) (other : Tree L) → SameButPointers tree other → texts tree ≡ texts other
    texts-same (Leaf pointer text) (Leaf other x) same = ap (λ z. z ∷ []) same
    texts-same (Leaf pointer text) (Inner other prefix branches) same = absurd same
    texts-same (Inner pointer prefix branches) (Leaf other x) same = absurd same
    texts-same (Inner pointer prefix branches) (Inner other p more) same = branch_texts-same branches more same.1

    pub branch_texts-same : (branches : Branches H) (others : Branches L) → SameBranches branches others → branch_texts branches ≡ branch_texts others
    branch_texts-same NoBranch NoBranch same = refl
    branch_texts-same NoBranch (Branch b t more) same = absurd same
    branch_texts-same (Branch byte tree others) NoBranch same = absurd same
    branch_texts-same (Branch byte tree others) (Branch b t more) same =
        map-append (λ leaf. leaf.1) (leaves tree) (branch_leaves others) ∙ ap (λ z. z ++ branch_texts others) (texts-same tree t same.1) ∙ ap (λ z. texts t ++ z) (branch_texts-same others more same.2) ∙ sym (map-append (λ leaf. leaf.1) (leaves t) (branch_leaves more))
