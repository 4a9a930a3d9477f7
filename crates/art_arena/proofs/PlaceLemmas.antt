-- The pointers of a tree are distinct, and trees stand where their nodes are unchanged.
use Rattle.std.proofs.Common.{◌≡◌, ◌≢◌, ◌∙◌, ℕ, suc, ◌+◌, ◌<◌, ◌≤◌, List, [], ◌∷◌, ◌++◌, length, length-append, map, get_or, All, Contains, refl, sym, ap, subst, arith}
use Rattle.std.proofs.lemmas.List.{map-append}
use Rattle.std.proofs.lemmas.List.Elements.{Contains-append_left, Contains-append_right, All-nil, All-cons, All-head, All-tail, All-append, All-weaker}
use Rattle.art_bytes.specs.Text.{IsPrefixOf}
use Rattle.art_nodes.specs.ChildMap.{ChildMap, IsAscendingFrom, key_bytes}
use Rattle.art_arena.specs.Arena.{Held, Nothing, HeldInner, HeldLeaf}
use Rattle.art_arena.specs.Links.{AreDistinct}
use Rattle.art_arena.specs.Standing.{Stands, AllStand}
use Rattle.art_arena.specs.Trees.{Tree, Leaf, Inner, Branches, NoBranch, Branch, root_of, leaves, branch_leaves, texts, branch_texts, branch_roots, places, branch_places, IsSound, AreSound}
use Rattle.art_bytes.proofs.PrefixLaws.{prefix-itself, prefix-shorter}
use Rattle.art_arena.proofs.TextLemmas.{PartsBefore-apart}
use Rattle.art_arena.proofs.TreeLemmas.{GoesOn, texts-begin, texts-some, branch_texts-some, parts_before}

abbrev first_child : {H : Type 0} → H → ChildMap H → H
first_child default [] = default
first_child default (pair ∷ others) = pair.1

AreDistinct-append : {A : Type 0} (xs ys : List A) → AreDistinct xs → AreDistinct ys → All (λ x. All (λ y. y ≢ x) ys) xs → AreDistinct (xs ++ ys)
AreDistinct-append [] ys left right across = right
AreDistinct-append (x ∷ xs) ys left right across =
    (All-append (λ y. y ≢ x) xs ys left.0 (All-head (λ z. All (λ y. y ≢ z) ys) x xs across), AreDistinct-append xs ys left.1 right (All-tail (λ z. All (λ y. y ≢ z) ys) x xs across))

module _ {H L : Type 0} (room : ℕ) (text_of : L → List ℕ) where
  module _ (held_at : H → Held H L) where
    mutual
      -- trees that stand at one pointer have the same leaves
      pub leaves-determined : (t u : Tree H) → Stands room text_of held_at t → Stands room text_of held_at u → root_of t ≡ root_of u → leaves t ≡ leaves u
      leaves-determined (Leaf p x) (Leaf q y) (l, l_held, l_text) (m, m_held, m_text) same =
          let one : HeldLeaf l ≡ HeldLeaf m = sym l_held ∙ ap held_at same ∙ m_held in
          let leaf : l ≡ m = cc in
          let text : x ≡ y = sym l_text ∙ ap text_of leaf ∙ m_text in
          rw (same, text) refl
      leaves-determined (Leaf p x) (Inner q r cs) (l, l_held, l_text) (m, m_held, m_shows, m_stand) same =
          let one : HeldLeaf l ≡ HeldInner m = sym l_held ∙ ap held_at same ∙ m_held in absurd (cc)
      leaves-determined (Inner p r bs) (Leaf q y) (n, n_held, n_shows, n_stand) (m, m_held, m_text) same =
          let one : HeldInner n ≡ HeldLeaf m = sym n_held ∙ ap held_at same ∙ m_held in absurd (cc)
      leaves-determined (Inner p r bs) (Inner q s cs) (n, n_held, n_shows, n_stand) (m, m_held, m_shows, m_stand) same =
          let one : HeldInner n ≡ HeldInner m = sym n_held ∙ ap held_at same ∙ m_held in
          let node : n ≡ m = cc in
          branch_leaves-determined bs cs n_stand m_stand (sym n_shows.children ∙ ap (λ z. z.children) node ∙ m_shows.children)

      pub branch_leaves-determined : (bs cs : Branches H) → AllStand room text_of held_at bs → AllStand room text_of held_at cs → branch_roots bs ≡ branch_roots cs → branch_leaves bs ≡ branch_leaves cs
      branch_leaves-determined NoBranch NoBranch b_stand c_stand same = refl
      branch_leaves-determined NoBranch (Branch c u cs) b_stand c_stand same = absurd (cc)
      branch_leaves-determined (Branch b t bs) NoBranch b_stand c_stand same = absurd (cc)
      branch_leaves-determined (Branch b t bs) (Branch c u cs) (t_stands, b_stand) (u_stands, c_stand) same =
          let rest : branch_roots bs ≡ branch_roots cs = cc in
          let roots : root_of t ≡ root_of u = ap (first_child (root_of t)) same in
          ap (λ z. z ++ branch_leaves bs) (leaves-determined t u t_stands u_stands roots) ∙ ap (λ z. leaves u ++ z) (branch_leaves-determined bs cs b_stand c_stand rest)

    -- a pointer that stands for a tree of at most so many texts, all of which begin with this path
    pub record IsPlaced (path : List ℕ) (most : ℕ) (pointer : H) : Type 0 where
      pub tree : Tree H
      pub at_root : root_of tree ≡ pointer
      pub stands : Stands room text_of held_at tree
      pub begin : All (IsPrefixOf path) (texts tree)
      pub some : 0 < length (texts tree)
      pub fits : length (texts tree) ≤ most

    -- the same below a byte that is not below `low`
    pub record IsPlacedOn (path : List ℕ) (low most : ℕ) (pointer : H) : Type 0 where
      pub byte : ℕ
      pub reaches : low ≤ byte
      pub placed : IsPlaced (path ++ byte ∷ []) most pointer

    placed-shorter : (path more : List ℕ) (few many : ℕ) (pointer : H) → few ≤ many → IsPlaced (path ++ more) few pointer → IsPlaced path many pointer
    placed-shorter path more few many pointer less placed = record {
      tree = placed.tree;
      at_root = placed.at_root;
      stands = placed.stands;
      begin = All-weaker (IsPrefixOf (path ++ more)) (IsPrefixOf path) (prefix-shorter path more) (texts placed.tree) placed.begin;
      some = placed.some;
      fits = omega (arith, placed.fits, less);
    }

    placed-below : (path : List ℕ) (low few many : ℕ) (pointer : H) → few ≤ many → IsPlacedOn path low few pointer → IsPlaced path many pointer
    placed-below path low few many pointer less on = placed-shorter path (on.byte ∷ []) few many pointer less on.placed

    placed-lower : (path : List ℕ) (low lower few many : ℕ) (pointer : H) → lower ≤ low → few ≤ many → IsPlacedOn path low few pointer → IsPlacedOn path lower many pointer
    placed-lower path low lower few many pointer below less on = record {
      byte = on.byte;
      reaches = omega (arith, on.reaches, below);
      placed = record { tree = on.placed.tree; at_root = on.placed.at_root; stands = on.placed.stands; begin = on.placed.begin; some = on.placed.some; fits = omega (arith, on.placed.fits, less) };
    }

    joined : (tree : Tree H) (others : Branches H) (byte : ℕ) → length (branch_texts (Branch byte tree others)) ≡ length (texts tree) + length (branch_texts others)
    joined tree others byte = ap length (map-append (λ leaf. leaf.1) (leaves tree) (branch_leaves others)) ∙ length-append (texts tree) (branch_texts others)

    mutual
      pub places-placed : (path : List ℕ) (tree : Tree H) → IsSound path tree → Stands room text_of held_at tree → All (IsPlaced path (length (texts tree))) (places tree)
      places-placed path (Leaf pointer text) sound stands =
          All-cons (IsPlaced path (length (texts (Leaf pointer text)))) pointer [] (record { tree = Leaf pointer text; at_root = refl; stands = stands; begin = texts-begin path (Leaf pointer text) sound; some = omega arith; fits = omega arith }) (All-nil (IsPlaced path (length (texts (Leaf pointer text)))))
      places-placed path (Inner pointer prefix branches) sound stands =
          let total : ℕ = length (branch_texts branches) in
          All-cons (IsPlaced path total) pointer (branch_places branches)
          (record { tree = Inner pointer prefix branches; at_root = refl; stands = stands; begin = texts-begin path (Inner pointer prefix branches) sound; some = texts-some path (Inner pointer prefix branches) sound; fits = omega arith })
          (All-weaker (IsPlacedOn (path ++ prefix) 0 total) (IsPlaced path total) (λ other on. placed-shorter path prefix total total other (omega arith) (placed-below (path ++ prefix) 0 total total other (omega arith) on)) (branch_places branches)
          (branch_places-placed (path ++ prefix) branches 0 sound.2 sound.1 stands.3))

      pub branch_places-placed : (path : List ℕ) (branches : Branches H) (low : ℕ) → AreSound path branches → IsAscendingFrom low (key_bytes (branch_roots branches)) → AllStand room text_of held_at branches → All (IsPlacedOn path low (length (branch_texts branches))) (branch_places branches)
      branch_places-placed path NoBranch low sound ascend stand = All-nil (IsPlacedOn path low (length (branch_texts {H = H} NoBranch)))
      branch_places-placed path (Branch byte tree others) low sound ascend stand =
          let total : ℕ = length (branch_texts (Branch byte tree others)) in
          let sum : total ≡ length (texts tree) + length (branch_texts others) = joined tree others byte in
          All-append (IsPlacedOn path low total) (places tree) (branch_places others)
          (All-weaker (IsPlaced (path ++ byte ∷ []) (length (texts tree))) (IsPlacedOn path low total)
          (λ pointer placed. record { byte = byte; reaches = ascend.0; placed = record { tree = placed.tree; at_root = placed.at_root; stands = placed.stands; begin = placed.begin; some = placed.some; fits = omega (arith, placed.fits, sum) } })
          (places tree) (places-placed (path ++ byte ∷ []) tree sound.0 stand.0))
          (All-weaker (IsPlacedOn path (suc byte) (length (branch_texts others))) (IsPlacedOn path low total)
          (λ pointer on. placed-lower path (suc byte) low (length (branch_texts others)) total pointer (omega (arith, ascend.0)) (omega (arith, sum)) on)
          (branch_places others) (branch_places-placed path others (suc byte) sound.1 ascend.2 stand.1))

    -- two pointers below different bytes differ
    places-apart : (path : List ℕ) (byte most more : ℕ) (x y : H) → IsPlaced (path ++ byte ∷ []) most x → IsPlacedOn path (suc byte) more y → y ≢ x
    places-apart path byte most more x y x_placed y_on same =
        let u : Tree H = x_placed.tree in
        let t : Tree H = y_on.placed.tree in
        let found : leaves t ≡ leaves u = leaves-determined t u y_on.placed.stands x_placed.stands (y_on.placed.at_root ∙ same ∙ sym x_placed.at_root) in
        let z : List ℕ = get_or (texts u) 0 [] in
        let z_begins : IsPrefixOf (path ++ byte ∷ []) z = x_placed.begin 0 [] x_placed.some in
        let moved : All (IsPrefixOf (path ++ y_on.byte ∷ [])) (texts u) = subst (λ l. All (IsPrefixOf (path ++ y_on.byte ∷ [])) (map (λ leaf. leaf.1) l)) found y_on.placed.begin in
        let z_on : GoesOn path (suc byte) z = record { byte = y_on.byte; reaches = y_on.reaches; begins = moved 0 [] x_placed.some } in
        (PartsBefore-apart z z (parts_before path byte z z z_begins z_on)).0 (prefix-itself z)

    -- a node is not at a place of a tree with fewer texts
    place-fewer : (tree : Tree H) (path : List ℕ) (few : ℕ) (pointer : H) → Stands room text_of held_at tree → few < length (texts tree) → IsPlaced path few pointer → pointer ≢ root_of tree
    place-fewer tree path few pointer stands less placed same =
        let found : leaves placed.tree ≡ leaves tree = leaves-determined placed.tree tree placed.stands stands (placed.at_root ∙ same) in
        let counts : length (texts placed.tree) ≡ length (texts tree) = ap (λ l. length (map (λ leaf. leaf.1) l)) found in
        omega (arith, counts, placed.fits, less)

    -- nor at a place of its branches, of which there are two
    node-apart : (path : List ℕ) (pointer : H) (prefix : List ℕ) (branches : Branches H) → IsSound path (Inner pointer prefix branches) → Stands room text_of held_at (Inner pointer prefix branches) → All (λ other. other ≢ pointer) (branch_places branches)
    node-apart path pointer prefix NoBranch sound stands = absurd (omega (arith, sound.0))
    node-apart path pointer prefix (Branch byte tree others) sound stands =
        let whole : Tree H = Inner pointer prefix (Branch byte tree others) in
        let on : List ℕ = path ++ prefix in
        let sum : length (texts whole) ≡ length (texts tree) + length (branch_texts others) = joined tree others byte in
        let first : 0 < length (texts tree) = texts-some (on ++ byte ∷ []) tree sound.2.0 in
        let second : 0 < length (branch_texts others) = branch_texts-some on others (omega (arith, sound.0)) sound.2.1 in
        All-append (λ other. other ≢ pointer) (places tree) (branch_places others)
        (All-weaker (IsPlaced (on ++ byte ∷ []) (length (texts tree))) (λ other. other ≢ pointer) (λ other placed. place-fewer whole (on ++ byte ∷ []) (length (texts tree)) other stands (omega (arith, sum, second)) placed) (places tree) (places-placed (on ++ byte ∷ []) tree sound.2.0 stands.3.0))
        (All-weaker (IsPlacedOn on (suc byte) (length (branch_texts others))) (λ other. other ≢ pointer) (λ other placed_on. place-fewer whole (on ++ placed_on.byte ∷ []) (length (branch_texts others)) other stands (omega (arith, sum, first)) placed_on.placed) (branch_places others) (branch_places-placed on others (suc byte) sound.2.1 sound.1.2 stands.3.1))

    mutual
      -- each pointer of a sound tree that stands is at one place
      pub places-distinct : (path : List ℕ) (tree : Tree H) → IsSound path tree → Stands room text_of held_at tree → AreDistinct (places tree)
      places-distinct path (Leaf pointer text) sound stands = (All-nil (λ other. other ≢ pointer), tt)
      places-distinct path (Inner pointer prefix branches) sound stands =
          (node-apart path pointer prefix branches sound stands, branch_places-distinct (path ++ prefix) branches 0 sound.2 sound.1 stands.3)

      pub branch_places-distinct : (path : List ℕ) (branches : Branches H) (low : ℕ) → AreSound path branches → IsAscendingFrom low (key_bytes (branch_roots branches)) → AllStand room text_of held_at branches → AreDistinct (branch_places branches)
      branch_places-distinct path NoBranch low sound ascend stand = tt
      branch_places-distinct path (Branch byte tree others) low sound ascend stand =
          AreDistinct-append (places tree) (branch_places others) (places-distinct (path ++ byte ∷ []) tree sound.0 stand.0) (branch_places-distinct path others (suc byte) sound.1 ascend.2 stand.1)
          (All-weaker (IsPlaced (path ++ byte ∷ []) (length (texts tree))) (λ x. All (λ y. y ≢ x) (branch_places others))
          (λ x placed. All-weaker (IsPlacedOn path (suc byte) (length (branch_texts others))) (λ y. y ≢ x) (λ y on. places-apart path byte (length (texts tree)) (length (branch_texts others)) x y placed on) (branch_places others) (branch_places-placed path others (suc byte) sound.1 ascend.2 stand.1))
          (places tree) (places-placed (path ++ byte ∷ []) tree sound.0 stand.0))

  module _ (held_before held_after : H → Held H L) where
    module _ (kept : (pointer : H) → held_before pointer ≢ Nothing → held_after pointer ≡ held_before pointer) where
      mutual
        -- a tree still stands where all that was held is held as before
        pub stands-on : (tree : Tree H) → Stands room text_of held_before tree → Stands room text_of held_after tree
        stands-on (Leaf pointer text) (leaf, holds, has) = (leaf, kept pointer (λ free. let one : HeldLeaf leaf ≡ Nothing = sym holds ∙ free in absurd (cc)) ∙ holds, has)
        stands-on (Inner pointer prefix branches) (node, holds, shows, stand) =
            (node, kept pointer (λ free. let one : HeldInner node ≡ Nothing = sym holds ∙ free in absurd (cc)) ∙ holds, shows, all-stand-on branches stand)

        pub all-stand-on : (branches : Branches H) → AllStand room text_of held_before branches → AllStand room text_of held_after branches
        all-stand-on NoBranch stand = tt
        all-stand-on (Branch byte tree others) (stands, stand) = (stands-on tree stands, all-stand-on others stand)

    mutual
      -- a tree still stands where each of its own pointers holds what it held
      pub stands-where_kept : (tree : Tree H) → ((pointer : H) → Contains (places tree) pointer → held_after pointer ≡ held_before pointer) → Stands room text_of held_before tree → Stands room text_of held_after tree
      stands-where_kept (Leaf pointer text) kept (leaf, holds, has) = (leaf, kept pointer (0, omega arith, refl) ∙ holds, has)
      stands-where_kept (Inner pointer prefix branches) kept (node, holds, shows, stand) =
          (node, kept pointer (0, omega arith, refl) ∙ holds, shows, all-stand-where_kept branches (λ q inside. kept q (Contains-append_right (pointer ∷ []) (branch_places branches) q inside)) stand)

      all-stand-where_kept : (branches : Branches H) → ((pointer : H) → Contains (branch_places branches) pointer → held_after pointer ≡ held_before pointer) → AllStand room text_of held_before branches → AllStand room text_of held_after branches
      all-stand-where_kept NoBranch kept stand = tt
      all-stand-where_kept (Branch byte tree others) kept (stands, stand) =
          (stands-where_kept tree (λ q inside. kept q (Contains-append_left (places tree) (branch_places others) q inside)) stands, all-stand-where_kept others (λ q inside. kept q (Contains-append_right (places tree) (branch_places others) q inside)) stand)

    module _ (free : H) (was_free : held_before free ≡ Nothing) (others : (pointer : H) → pointer ≢ free → held_after pointer ≡ held_before pointer) where
      kept-beside : (pointer : H) → held_before pointer ≢ Nothing → held_after pointer ≡ held_before pointer
      kept-beside pointer is_held = others pointer (λ same. is_held (ap held_before same ∙ was_free))

      -- so it does after an allocation at a pointer that held nothing
      pub stands-beside : (tree : Tree H) → Stands room text_of held_before tree → Stands room text_of held_after tree
      stands-beside tree stands = stands-on kept-beside tree stands

      pub all-beside : (branches : Branches H) → AllStand room text_of held_before branches → AllStand room text_of held_after branches
      all-beside branches stand = all-stand-on kept-beside branches stand
