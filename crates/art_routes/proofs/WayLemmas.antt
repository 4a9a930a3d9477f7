-- The way of a key down a tree, and the texts that part from the key with their last byte.
use Rattle.std.proofs.Common.{◌≡◌, ◌∙◌, ◌⊎◌, inl, inr, ℕ, suc, ◌+◌, ◌<◌, ◌≤◌, List, [], ◌∷◌, ◌++◌, length, length-append, get_or, take, drop, Contains, Some, None, refl, sym, ap, subst, arith, append_assoc, min}
use Rattle.std.specs.Prelude.{map}
use Rattle.std.proofs.lemmas.Bool.{eq-eqb, ne_eqb}
use Rattle.std.proofs.lemmas.Bool.Decides.{eqb_tells}
use Rattle.std.proofs.lemmas.List.{take-append-le, take_at, take_all, take-take, take_more, take-append-drop, length-take-le, length-map, get_or-map, drop_at, drop-take}
use Rattle.std.proofs.lemmas.List.Elements.{All-contains, Contains-append_cases, Contains-append_left, Contains-append_right, Contains-get_or}
use Rattle.std.proofs.lemmas.Option.{same_Some}
use Rattle.art_bytes.specs.Text.{IsPrefixOf}
use Rattle.art_nodes.specs.ChildMap.{IsAscending, IsAscendingFrom, child_at, key_bytes}
use Rattle.art_nodes.specs.Inner as nodes
use Rattle.art_nodes.specs.declared.pointers.OpaqueNodePtr.{OpaqueNodePtr}
use Rattle.art_nodes.specs.declared.leaf_node.LeafNode.{LeafNode}
use Rattle.art_arena.specs.Arena.{NodeArena, HeldInner, HeldLeaf, Nothing, held}
use Rattle.art_arena.specs.Standing.{AllStandIn, NodeStands, StandsIn, leaf_text}
use Rattle.art_arena.specs.Trees.{Tree, Leaf, Inner, Branches, NoBranch, Branch, branch_leaves, branch_roots, leaves, root_of, texts, branch_texts, IsSound, AreSound}
use Rattle.art_routes.specs.Ways.{HaveKeyTexts, IsBelow}
use Rattle.art_arena.proofs.TreeLaws.{GoesOn, texts-begin, texts-go-on, texts-some}

-- ---- lists
-- a leaf of a list has one of its texts
text-there : {H : Type 0} (xs : List (H × List ℕ)) (l : H × List ℕ) → Contains xs l → Contains (map (λ x. x.1) xs) l.1
text-there xs l (k, within, at) = (k, (let long = length-map xs (λ x. x.1) in omega (arith, long, within)), get_or-map (λ x. x.1) xs k l l.1 within ∙ ap (λ x. x.1) at)

-- a text that goes on behind a path, and is a text with one byte more, begins with the path as that text does
one-more : (xs ys rest : List ℕ) (b e : ℕ) → (xs ++ b ∷ []) ++ rest ≡ ys ++ e ∷ [] → (length xs ≤ length ys) × (xs ≡ take (length xs) ys)
one-more xs ys rest b e is =
    let long : length ((xs ++ b ∷ []) ++ rest) ≡ length (ys ++ e ∷ []) = ap length is in
    let left : length ((xs ++ b ∷ []) ++ rest) ≡ length (xs ++ b ∷ []) + length rest = length-append (xs ++ b ∷ []) rest in
    let inner : length (xs ++ b ∷ []) ≡ length xs + 1 = length-append xs (b ∷ []) in
    let right : length (ys ++ e ∷ []) ≡ length ys + 1 = length-append ys (e ∷ []) in
    let few : length xs ≤ length ys = omega (arith, long, left, inner, right) in
    (few, sym (take_at xs (b ∷ rest) (length xs) refl) ∙ ap (take (length xs)) (sym (append_assoc xs (b ∷ []) rest) ∙ is) ∙ take-append-le (length xs) ys (e ∷ []) few)

-- ---- the texts that part from a key with their last byte
pub record PartsAt (key text : List ℕ) (place : ℕ) : Type 0 where
  pub within : place < length key
  pub byte : ℕ
  pub is : text ≡ take place key ++ byte ∷ []

module _ (key text path prefix : List ℕ) (depth : ℕ) (path_is : path ≡ take depth key) (deep : depth ≤ length key) (place : ℕ) (parts : PartsAt key text place) (byte : ℕ) (begins : IsPrefixOf ((path ++ prefix) ++ byte ∷ []) text) where
  both : (length (path ++ prefix) ≤ length (take place key)) × (path ++ prefix ≡ take (length (path ++ prefix)) (take place key))
  both = one-more (path ++ prefix) (take place key) begins.0 byte parts.byte (sym begins.1 ∙ parts.is)

  path_long : length path ≡ depth
  path_long = ap length path_is ∙ length-take-le depth key deep

  all_long : length (path ++ prefix) ≡ depth + length prefix
  all_long = length-append path prefix ∙ ap (λ n. n + length prefix) path_long

  -- the node parts no later
  pub no-later : depth + length prefix ≤ place
  no-later = let long = length-take-le place key (let w = parts.within in omega (arith, w)) in let b = both.0 in omega (arith, b, all_long, long)

  -- and its path and prefix are the first bytes of the key
  pub path-on : path ++ prefix ≡ take (depth + length prefix) key
  path-on =
      both.1 ∙ ap (λ n. take n (take place key)) all_long ∙ take-take (depth + length prefix) place key no-later

  -- the byte behind them is the key's, or the last of the text
  pub on-way : depth + length prefix < place → IsPrefixOf (take (depth + length prefix) key ++ get_or key (depth + length prefix) 0 ∷ []) text
  on-way less =
      let at = depth + length prefix in
      let within : at < length key = let w = parts.within in omega (arith, w, less) in
      let more : take (at + 1) key ≡ take at key ++ get_or key at 0 ∷ [] = take_more key at 0 within in
      let part : take (at + 1) (take place key) ≡ take (at + 1) key = take-take (at + 1) place key (omega (arith, less)) in (
        drop (at + 1) (take place key) ++ parts.byte ∷ [],
        parts.is ∙ ap (λ xs. xs ++ parts.byte ∷ []) (sym (take-append-drop (at + 1) (take place key))) ∙ append_assoc (take (at + 1) (take place key)) (drop (at + 1) (take place key)) (parts.byte ∷ [])
            ∙ ap (λ xs. xs ++ (drop (at + 1) (take place key) ++ parts.byte ∷ [])) (part ∙ more),
      )

-- ---- trees
module _ {K V : Type 0} {P : ℕ} (text : K → List ℕ) (arena : NodeArena K V P) (IsKeyText : List ℕ → Type 0) where
  abbrev pub Keys : List (OpaqueNodePtr K V P × List ℕ) → Type 0
  Keys ls = HaveKeyTexts IsKeyText ls

  abbrev pub Below : List ℕ → OpaqueNodePtr K V P → Tree (OpaqueNodePtr K V P) → Type 0
  Below path pointer tree = IsBelow text arena IsKeyText path pointer tree

  -- the texts of a tree begin with the path to it
  pub leaf-begins : (path : List ℕ) (tree : Tree (OpaqueNodePtr K V P)) → IsSound path tree → (l : OpaqueNodePtr K V P × List ℕ) → Contains (leaves tree) l → IsPrefixOf path l.1
  leaf-begins path tree sound l inside = All-contains (IsPrefixOf path) (texts tree) l.1 (texts-begin path tree sound) (text-there (leaves tree) l inside)

  -- the tree of a branch
  pub record IsBranch (path : List ℕ) (branches : Branches (OpaqueNodePtr K V P)) (byte : ℕ) (tree : Tree (OpaqueNodePtr K V P)) : Type 0 where
    pub child : child_at (branch_roots branches) byte ≡ Some (root_of tree)
    pub stands : StandsIn text arena tree
    pub sound : IsSound (path ++ byte ∷ []) tree
    pub inside : (l : OpaqueNodePtr K V P × List ℕ) → Contains (leaves tree) l → Contains (branch_leaves branches) l

  module _ (path : List ℕ) where
    branch-later : (b byte : ℕ) (t tree : Tree (OpaqueNodePtr K V P)) (others : Branches (OpaqueNodePtr K V P)) → (b ≡ byte → ⊥) → IsBranch path others byte tree → IsBranch path (Branch b t others) byte tree
    branch-later b byte t tree others differ is = record {
      child = rw (ne_eqb b byte differ) is.child;
      stands = is.stands;
      sound = is.sound;
      inside = λ l there. Contains-append_right (leaves t) (branch_leaves others) l (is.inside l there);
    }

    branch-here : (b byte : ℕ) (t : Tree (OpaqueNodePtr K V P)) (others : Branches (OpaqueNodePtr K V P)) → b ≡ byte → StandsIn text arena t → IsSound (path ++ b ∷ []) t → IsBranch path (Branch b t others) byte t
    branch-here b byte t others same stands sound = record {
      child = rw (eq-eqb b byte same) refl;
      stands = stands;
      sound = subst (λ c. IsSound (path ++ c ∷ []) t) same sound;
      inside = λ l there. Contains-append_left (leaves t) (branch_leaves others) l there;
    }

    -- the child under a byte
    pub branch-at : (branches : Branches (OpaqueNodePtr K V P)) (byte : ℕ) (child : OpaqueNodePtr K V P) → AllStandIn text arena branches → AreSound path branches → child_at (branch_roots branches) byte ≡ Some child → (tree : Tree (OpaqueNodePtr K V P)) × IsBranch path branches byte tree
    branch-at NoBranch byte child stand sound is = absurd (cc)
    branch-at (Branch b t others) byte child (stands, stand) sound is = elim (eqb_tells b byte) [
      | inl same ↦ (t, branch-here b byte t others same.1 stands sound.0)
      | inr differ ↦
          let later : child_at (branch_roots others) byte ≡ Some child = rw differ.0 at is in
          let found = branch-at others byte child stand sound.1 later in
          (found.0, branch-later b byte t found.0 others differ.1 found.1)
    ]

    -- a leaf whose text begins with the path and a byte is below the child under it
    same-next : (b c : ℕ) (x : List ℕ) → IsPrefixOf (path ++ b ∷ []) x → IsPrefixOf (path ++ c ∷ []) x → b ≡ c
    same-next b c x (rest, is) (more, also) =
        let one : path ++ (b ∷ rest) ≡ path ++ (c ∷ more) = sym (append_assoc path (b ∷ []) rest) ∙ sym is ∙ also ∙ append_assoc path (c ∷ []) more in
        let ends : b ∷ rest ≡ c ∷ more = sym (drop_at path (b ∷ rest) (length path) refl) ∙ ap (drop (length path)) one ∙ drop_at path (c ∷ more) (length path) refl in
        cc

    pub leaf-at : (branches : Branches (OpaqueNodePtr K V P)) (low byte : ℕ) (l : OpaqueNodePtr K V P × List ℕ) → AllStandIn text arena branches → AreSound path branches → IsAscendingFrom low (key_bytes (branch_roots branches))
        → Contains (branch_leaves branches) l → IsPrefixOf (path ++ byte ∷ []) l.1 → (tree : Tree (OpaqueNodePtr K V P)) × IsBranch path branches byte tree × Contains (leaves tree) l
    leaf-at NoBranch low byte l stand sound ascend (k, within, at) begins = absurd (omega (arith, within))
    leaf-at (Branch b t others) low byte l (stands, stand) sound ascend inside begins =
        by_part (Contains-append_cases (leaves t) (branch_leaves others) l inside) (λ later. leaf-at others (suc b) byte l stand sound.1 ascend.2 later begins)
      where
        by_part : Contains (leaves t) l ⊎ Contains (branch_leaves others) l → (Contains (branch_leaves others) l → (tree : Tree (OpaqueNodePtr K V P)) × IsBranch path others byte tree × Contains (leaves tree) l)
            → (tree : Tree (OpaqueNodePtr K V P)) × IsBranch path (Branch b t others) byte tree × Contains (leaves tree) l
        by_part (inl here) further =
            let same : b ≡ byte = same-next b byte l.1 (leaf-begins (path ++ b ∷ []) t sound.0 l here) begins in
            (t, branch-here b byte t others same stands sound.0, here)
        by_part (inr later) further =
            let found = further later in
            let on : GoesOn path (suc b) l.1 = All-contains (GoesOn path (suc b)) (branch_texts others) l.1 (texts-go-on path others (suc b) sound.1 ascend.2) (text-there (branch_leaves others) l later) in
            let next : on.byte ≡ byte = same-next on.byte byte l.1 on.begins begins in
            (found.0, branch-later b byte t found.0 others (λ same. omega (arith, on.reaches, next, same)) found.1, found.2)

  -- an inner node of a tree, with its parts
  pub record IsOpened (path : List ℕ) (node : nodes.Inner (OpaqueNodePtr K V P)) (tree : Tree (OpaqueNodePtr K V P)) : Type 0 where
    pub prefix : List ℕ
    pub branches : Branches (OpaqueNodePtr K V P)
    pub shows : NodeStands P node prefix branches
    pub stand : AllStandIn text arena branches
    pub ascend : IsAscending (key_bytes (branch_roots branches))
    pub sound : AreSound (path ++ prefix) branches
    pub leaves_are : leaves tree ≡ branch_leaves branches

  pub opened : (path : List ℕ) (pointer : OpaqueNodePtr K V P) (tree : Tree (OpaqueNodePtr K V P)) → Below path pointer tree → (node : nodes.Inner (OpaqueNodePtr K V P)) → held arena pointer ≡ HeldInner node → IsOpened path node tree
  opened path pointer tree below node is = by_tree tree below.at_root below.stands below.sound
    where
      by_tree : (tree : Tree (OpaqueNodePtr K V P)) → root_of tree ≡ pointer → StandsIn text arena tree → IsSound path tree → IsOpened path node tree
      by_tree (Leaf p x) root (leaf, holds, has) sound = let one : HeldLeaf leaf ≡ HeldInner node = sym holds ∙ ap (held arena) root ∙ is in absurd (cc)
      by_tree (Inner p prefix branches) root (own, holds, shows, stand) sound =
          let one : HeldInner own ≡ HeldInner node = sym holds ∙ ap (held arena) root ∙ is in
          let same : own ≡ node = cc in
          record {
            prefix = prefix;
            branches = branches;
            shows = subst (λ n. NodeStands P n prefix branches) same shows;
            stand = stand;
            ascend = sound.1;
            sound = sound.2;
            leaves_are = refl;
          }

  -- the leaf of a tree that is one
  pub the-leaf : (path : List ℕ) (pointer : OpaqueNodePtr K V P) (tree : Tree (OpaqueNodePtr K V P)) → Below path pointer tree → (leaf : LeafNode K V P) → held arena pointer ≡ HeldLeaf leaf → leaves tree ≡ (pointer, leaf_text text leaf) ∷ []
  the-leaf path pointer tree below leaf is = by_tree tree below.at_root below.stands
    where
      by_tree : (tree : Tree (OpaqueNodePtr K V P)) → root_of tree ≡ pointer → StandsIn text arena tree → leaves tree ≡ (pointer, leaf_text text leaf) ∷ []
      by_tree (Leaf p x) root (own, holds, has) =
          let one : HeldLeaf own ≡ HeldLeaf leaf = sym holds ∙ ap (held arena) root ∙ is in
          let same : own ≡ leaf = cc in
          let says : x ≡ leaf_text text leaf = sym has ∙ ap (leaf_text text) same in
          λ i. (root i, says i) ∷ []
      by_tree (Inner p prefix branches) root (own, holds, shows, stand) = let one : HeldInner own ≡ HeldLeaf leaf = sym holds ∙ ap (held arena) root ∙ is in absurd (cc)

  -- something is held at the root of a tree
  pub below-held : (path : List ℕ) (pointer : OpaqueNodePtr K V P) (tree : Tree (OpaqueNodePtr K V P)) → Below path pointer tree → held arena pointer ≡ Nothing → ⊥
  below-held path pointer tree below free = by_tree tree below.at_root below.stands
    where
      by_tree : (tree : Tree (OpaqueNodePtr K V P)) → root_of tree ≡ pointer → StandsIn text arena tree → ⊥
      by_tree (Leaf p x) root (own, holds, has) = let one : HeldLeaf own ≡ Nothing = sym holds ∙ ap (held arena) root ∙ free in absurd (cc)
      by_tree (Inner p prefix branches) root (own, holds, shows, stand) = let one : HeldInner own ≡ Nothing = sym holds ∙ ap (held arena) root ∙ free in absurd (cc)

  -- a tree has a leaf
  some-leaf : (path : List ℕ) (pointer : OpaqueNodePtr K V P) (tree : Tree (OpaqueNodePtr K V P)) → IsSound path tree → (l : OpaqueNodePtr K V P × List ℕ) × Contains (leaves tree) l
  some-leaf path pointer tree sound =
      let some = texts-some path tree sound in
      (get_or (leaves tree) 0 (pointer, []), Contains-get_or (leaves tree) 0 (pointer, []) (omega (arith, some, length-map (leaves tree) (λ leaf. leaf.1))))

  module _ (path : List ℕ) (node : nodes.Inner (OpaqueNodePtr K V P)) (tree : Tree (OpaqueNodePtr K V P)) (o : IsOpened path node tree) where
    -- the texts below go on behind path and prefix
    pub goes-on : (l : OpaqueNodePtr K V P × List ℕ) → Contains (leaves tree) l → GoesOn (path ++ o.prefix) 0 l.1
    goes-on l inside =
        All-contains (GoesOn (path ++ o.prefix) 0) (branch_texts o.branches) l.1 (texts-go-on (path ++ o.prefix) o.branches 0 o.sound o.ascend)
        (text-there (branch_leaves o.branches) l (subst (λ ls. Contains ls l) o.leaves_are inside))

    longer : (l : OpaqueNodePtr K V P × List ℕ) → Contains (leaves tree) l → length path + length o.prefix < length l.1
    longer l inside =
        let on = goes-on l inside in
        let begins = on.begins in
        let all : length l.1 ≡ length (((path ++ o.prefix) ++ on.byte ∷ []) ++ begins.0) = ap length begins.1 in
        omega (arith, all, length-append ((path ++ o.prefix) ++ on.byte ∷ []) begins.0, length-append (path ++ o.prefix) (on.byte ∷ []), length-append path o.prefix)

    -- where no key is longer than what a node can store, the node stores its whole prefix
    pub whole-prefix : IsSound path tree → Keys (leaves tree) → (pointer : OpaqueNodePtr K V P) → ((x : List ℕ) → IsKeyText x → length x ≤ P) → node.stored ≡ o.prefix
    whole-prefix sound keys pointer short =
        let some = some-leaf path pointer tree sound in
        let few = short some.0.1 (keys some.0 some.1) in
        let long = longer some.0 some.1 in
        let least : min (length o.prefix) P ≡ length o.prefix = omega (arith, few, long) in
        o.shows.stored ∙ ap (λ n. take n o.prefix) least ∙ take_all (length o.prefix) o.prefix (omega arith)

    children-are : node.children ≡ branch_roots o.branches
    children-are = o.shows.children

    module _ (front : List ℕ) (front_is : path ++ o.prefix ≡ front) (keys : Keys (leaves tree)) (byte : ℕ) where
      as-below : (sub : Tree (OpaqueNodePtr K V P)) → IsBranch (path ++ o.prefix) o.branches byte sub → Below (front ++ byte ∷ []) (root_of sub) sub
      as-below sub is = record {
        at_root = refl;
        stands = is.stands;
        sound = subst (λ xs. IsSound (xs ++ byte ∷ []) sub) front_is is.sound;
        keys = λ l there. keys l (subst (λ ls. Contains ls l) (sym o.leaves_are) (is.inside l there));
      }

      -- the tree of the child under a byte
      pub child-tree : (child : OpaqueNodePtr K V P) → child_at node.children byte ≡ Some child
          → (sub : Tree (OpaqueNodePtr K V P)) × Below (front ++ byte ∷ []) child sub × ((l : OpaqueNodePtr K V P × List ℕ) → Contains (leaves sub) l → Contains (leaves tree) l)
      child-tree child is =
          let at : child_at (branch_roots o.branches) byte ≡ Some child = ap (λ cs. child_at cs byte) (sym children-are) ∙ is in
          let found = branch-at (path ++ o.prefix) o.branches byte child o.stand o.sound at in
          let root : root_of found.0 ≡ child = same_Some (root_of found.0) child (sym found.1.child ∙ at) in
          (found.0, subst (λ p. Below (front ++ byte ∷ []) p found.0) root (as-below found.0 found.1), λ l there. subst (λ ls. Contains ls l) (sym o.leaves_are) (found.1.inside l there))

      -- a leaf whose text goes on with the byte is below that child
      below-child : (l : OpaqueNodePtr K V P × List ℕ) → Contains (leaves tree) l → IsPrefixOf (front ++ byte ∷ []) l.1
          → (sub : Tree (OpaqueNodePtr K V P)) × IsBranch (path ++ o.prefix) o.branches byte sub × Contains (leaves sub) l
      below-child l inside begins =
          leaf-at (path ++ o.prefix) o.branches 0 byte l o.stand o.sound o.ascend (subst (λ ls. Contains ls l) o.leaves_are inside)
          (subst (λ xs. IsPrefixOf (xs ++ byte ∷ []) l.1) (sym front_is) begins)

      pub no-child : (l : OpaqueNodePtr K V P × List ℕ) → Contains (leaves tree) l → IsPrefixOf (front ++ byte ∷ []) l.1 → child_at node.children byte ≡ None → ⊥
      no-child l inside begins none =
          let found = below-child l inside begins in
          let wrong : Some (root_of found.0) ≡ None = sym found.1.child ∙ ap (λ cs. child_at cs byte) (sym children-are) ∙ none in
          absurd (cc)

      pub in-child : (l : OpaqueNodePtr K V P × List ℕ) → Contains (leaves tree) l → IsPrefixOf (front ++ byte ∷ []) l.1 → (child : OpaqueNodePtr K V P) → child_at node.children byte ≡ Some child
          → (sub : Tree (OpaqueNodePtr K V P)) × Below (front ++ byte ∷ []) child sub × Contains (leaves sub) l
      in-child l inside begins child is =
          let found = below-child l inside begins in
          let root : root_of found.0 ≡ child = same_Some (root_of found.0) child (sym found.1.child ∙ ap (λ cs. child_at cs byte) (sym children-are) ∙ is) in
          (found.0, subst (λ p. Below (front ++ byte ∷ []) p found.0) root (as-below found.0 found.1), found.2)

  -- the tree under a path that is a key is the leaf with that key
  pub ended : ((a b : List ℕ) → IsKeyText a → IsKeyText b → IsPrefixOf a b → a ≡ b) → (x : List ℕ) (child : OpaqueNodePtr K V P) (sub : Tree (OpaqueNodePtr K V P)) → IsKeyText x → Below x child sub
      → (leaf : LeafNode K V P) × (held arena child ≡ HeldLeaf leaf) × (leaf_text text leaf ≡ x) × Contains (leaves sub) (child, x)
  ended no_begin x child sub is_key below = by_tree sub below.at_root below.stands below.sound below.keys
    where
      by_tree : (tree : Tree (OpaqueNodePtr K V P)) → root_of tree ≡ child → StandsIn text arena tree → IsSound x tree → Keys (leaves tree) → (leaf : LeafNode K V P) × (held arena child ≡ HeldLeaf leaf) × (leaf_text text leaf ≡ x) × Contains (leaves tree) (child, x)
      by_tree (Leaf p t) root (leaf, holds, has) sound keys =
          let same : x ≡ t = no_begin x t is_key (keys (p, t) (0, omega arith, refl)) sound.0 in
          (leaf, ap (held arena) (sym root) ∙ holds, has ∙ sym same, subst (λ (l : OpaqueNodePtr K V P × List ℕ). Contains ((p, t) ∷ []) l) (λ i. (root i, sym same i)) (0, omega arith, refl))
      by_tree (Inner p prefix branches) root stands sound keys =
          let tree : Tree (OpaqueNodePtr K V P) = Inner p prefix branches in
          let some = some-leaf x p tree sound in
          let same : x ≡ some.0.1 = no_begin x some.0.1 is_key (keys some.0 some.1) (leaf-begins x tree sound some.0 some.1) in
          let on : GoesOn (x ++ prefix) 0 some.0.1 = All-contains (GoesOn (x ++ prefix) 0) (branch_texts branches) some.0.1 (texts-go-on (x ++ prefix) branches 0 sound.2 sound.1) (text-there (branch_leaves branches) some.0 some.1) in
          let begins = on.begins in
          let all : length some.0.1 ≡ length (((x ++ prefix) ++ on.byte ∷ []) ++ begins.0) = ap length begins.1 in
          let long : length x ≡ length some.0.1 = ap length same in
          absurd (omega (arith, all, long, length-append ((x ++ prefix) ++ on.byte ∷ []) begins.0, length-append (x ++ prefix) (on.byte ∷ []), length-append x prefix))

-- ---- what a node's prefix tells of the key
module _ (key prefix : List ℕ) (depth : ℕ) (deep : depth ≤ length key) where
  -- the first bytes of the key end with the prefix
  pub prefix-next : take depth key ++ prefix ≡ take (depth + length prefix) key → IsPrefixOf prefix (drop depth key)
  prefix-next is =
      let m = length prefix in
      let same : prefix ≡ take m (drop depth key) = sym (drop_at (take depth key) prefix depth (length-take-le depth key deep)) ∙ ap (drop depth) is ∙ drop-take depth m key in
      (drop m (drop depth key), sym (take-append-drop m (drop depth key)) ∙ ap (λ xs. xs ++ drop m (drop depth key)) (sym same))

  pub next-prefix : IsPrefixOf prefix (drop depth key) → (take depth key ++ prefix ≡ take (depth + length prefix) key) × (depth + length prefix ≤ length key)
  next-prefix (rest, is) =
      let whole : key ≡ (take depth key ++ prefix) ++ rest = sym (take-append-drop depth key) ∙ ap (λ xs. take depth key ++ xs) is ∙ sym (append_assoc (take depth key) prefix rest) in
      let long : length (take depth key ++ prefix) ≡ depth + length prefix = length-append (take depth key) prefix ∙ ap (λ n. n + length prefix) (length-take-le depth key deep) in
      let all : length key ≡ length ((take depth key ++ prefix) ++ rest) = ap length whole in (
        sym (take_at (take depth key ++ prefix) rest (depth + length prefix) long) ∙ ap (take (depth + length prefix)) (sym whole),
        omega (arith, all, long, length-append (take depth key ++ prefix) rest),
      )
