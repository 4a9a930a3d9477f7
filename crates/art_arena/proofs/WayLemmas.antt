-- The prefix of a node in the texts of the leaves below it.
use Rattle.std.proofs.Common.{◌≡◌, ◌≢◌, ◌∙◌, ℕ, ◌+◌, ◌≤◌, List, [], ◌++◌, length, length-append, Option, Some, None, All, Contains, ◌-◌, drop, take, refl, sym, ap, subst, arith}
use Rattle.std.proofs.lemmas.List.{take_all, drop_at, append_assoc, take_at, length-map}
use Rattle.std.proofs.Math.ListN.{get_or-map}
use Rattle.std.proofs.lemmas.List.Elements.{All-nil, All-cons, All-append, All-contains}
use Rattle.art_bytes.specs.Text.{IsPrefixOf}
use Rattle.art_header.specs.Header.{capped}
use Rattle.art_nodes.specs.Inner as nodes
use Rattle.art_arena.specs.Arena.{Held, Nothing, HeldLeaf, held_leaf}
use Rattle.art_arena.specs.CommonPrefix.{IsSharedFrom}
use Rattle.art_arena.specs.Standing.{Stands, AllStand, StandsUnder}
use Rattle.art_arena.specs.Trees.{Tree, Leaf, Inner, Branches, NoBranch, Branch, leaves, branch_leaves, texts, branch_texts, IsSound}
use Rattle.art_arena.proofs.TreeLemmas.{IsLongestCommonPrefix-node}
use Rattle.art_arena.proofs.TextLemmas.{IsSharedFrom-same}

-- a slot of leaves that is not free has one
pub held_leaf-some : {H L : Type 0} (slot : Option L) → held_leaf {H = H} slot ≢ Nothing → (leaf : L) × (held_leaf {H = H} slot ≡ HeldLeaf leaf)
held_leaf-some None taken = absurd (taken refl)
held_leaf-some (Some leaf) taken = (leaf, refl)

module _ {H L : Type 0} (room : ℕ) (text_of : L → List ℕ) (held_at : H → Held H L) where
  -- a leaf of a tree, by its pointer and its text, is held with that text
  pub LeafHeld : H × List ℕ → Type 0
  LeafHeld leaf = (value : L) × (held_at leaf.0 ≡ HeldLeaf value) × (text_of value ≡ leaf.1)

  mutual
    unfolding LeafHeld

    pub leaves-held : (tree : Tree H) → Stands room text_of held_at tree → All LeafHeld (leaves tree)
    leaves-held (Leaf pointer text) stands = All-cons LeafHeld (pointer, text) [] stands (All-nil LeafHeld)
    leaves-held (Inner pointer prefix branches) stands = branch_leaves-held branches stands.3

    pub branch_leaves-held : (branches : Branches H) → AllStand room text_of held_at branches → All LeafHeld (branch_leaves branches)
    branch_leaves-held NoBranch stand = All-nil LeafHeld
    branch_leaves-held (Branch byte tree others) stand = All-append LeafHeld (leaves tree) (branch_leaves others) (leaves-held tree stand.0) (branch_leaves-held others stand.1)

  -- what a pointer to a leaf of the tree holds
  pub leaf-text : (tree : Tree H) (pointer : H) (text : List ℕ) (value : L) → Stands room text_of held_at tree → Contains (leaves tree) (pointer, text) → held_at pointer ≡ HeldLeaf value → text_of value ≡ text
  unfolding LeafHeld
  leaf-text tree pointer text value stands in_tree holds =
      let found = All-contains LeafHeld (leaves tree) (pointer, text) (leaves-held tree stands) in_tree in
      let one : HeldLeaf value ≡ HeldLeaf found.0 = sym holds ∙ found.1 in
      let same : value ≡ found.0 = cc in
      ap text_of same ∙ found.2

  -- what holds of each text holds of a leaf's
  pub of_leaf : (P : List ℕ → Type 0) (tree : Tree H) (pointer : H) (text : List ℕ) → All P (texts tree) → Contains (leaves tree) (pointer, text) → P text
  of_leaf P tree pointer text all (k, inside, is) =
      subst P (get_or-map (λ leaf. leaf.1) (leaves tree) k (pointer, text) ∙ ap (λ leaf. leaf.1) is) (all k text (omega (arith, inside, length-map (leaves tree) (λ leaf. leaf.1))))

  -- what a leaf's text has of the prefix of a node above it
  pub record HasNodePrefix (depth n : ℕ) (text : List ℕ) (tree : Tree H) : Type 0 where
    pub fits : depth + n ≤ length text
    pub shared : IsSharedFrom depth (texts tree) (take (depth + n - depth) (drop depth text))

  pub leaf-node-prefix : (node : nodes.Inner H) (tree : Tree H) (path : List ℕ) (depth n : ℕ) (pointer : H) (text : List ℕ) → StandsUnder room text_of held_at node tree → IsSound path tree → length path ≡ depth → n ≡ node.prefix_len → Contains (leaves tree) (pointer, text) → HasNodePrefix depth n text tree
  leaf-node-prefix node (Leaf p x) path depth n pointer text stands sound deep long in_tree = absurd stands
  leaf-node-prefix node (Inner p prefix branches) path depth n pointer text (shows, stand) sound deep long in_tree =
      let front = IsLongestCommonPrefix-node path p prefix branches sound in
      let begins = of_leaf (IsPrefixOf (path ++ prefix)) (Inner p prefix branches) pointer text front.begins_each in_tree in
      let whole : text ≡ path ++ (prefix ++ begins.0) = begins.1 ∙ append_assoc path prefix begins.0 in
      let rest : drop depth text ≡ prefix ++ begins.0 = ap (drop depth) whole ∙ drop_at path (prefix ++ begins.0) depth deep in
      let first : take (depth + n - depth) (drop depth text) ≡ prefix = ap (take (depth + n - depth)) rest ∙ take_at prefix begins.0 (depth + n - depth) (omega (arith, long, shows.prefix_len)) in
      record {
        fits = omega (arith, ap length begins.1, length-append (path ++ prefix) begins.0, length-append path prefix, deep, long, shows.prefix_len);
        shared = (path ++ prefix, front, first ∙ sym (drop_at path prefix depth deep));
      }

  -- a prefix that is wholly stored is what the texts share
  pub IsSharedFrom-stored : (node : nodes.Inner H) (tree : Tree H) (path : List ℕ) (depth : ℕ) → StandsUnder room text_of held_at node tree → IsSound path tree → length path ≡ depth → node.prefix_len ≤ room → IsSharedFrom depth (texts tree) node.stored
  IsSharedFrom-stored node (Leaf p x) path depth stands sound deep few = absurd stands
  IsSharedFrom-stored node (Inner p prefix branches) path depth (shows, stand) sound deep few =
      (path ++ prefix, IsLongestCommonPrefix-node path p prefix branches sound, shows.stored ∙ take_all (capped room (length prefix)) prefix (omega (arith, few, shows.prefix_len)) ∙ sym (drop_at path prefix depth deep))

  -- path and what is shared from there begin every text
  pub begin-shared : (node : nodes.Inner H) (tree : Tree H) (path : List ℕ) (depth : ℕ) (shared : List ℕ) → StandsUnder room text_of held_at node tree → IsSound path tree → length path ≡ depth → IsSharedFrom depth (texts tree) shared → All (IsPrefixOf (path ++ shared)) (texts tree)
  begin-shared node (Leaf p x) path depth shared stands sound deep is = absurd stands
  begin-shared node (Inner p prefix branches) path depth shared (shows, stand) sound deep is =
      let front = IsLongestCommonPrefix-node path p prefix branches sound in
      let same : shared ≡ prefix = IsSharedFrom-same depth (branch_texts branches) shared prefix is (path ++ prefix, front, sym (drop_at path prefix depth deep)) in
      subst (λ q. All (IsPrefixOf (path ++ q)) (branch_texts branches)) (sym same) front.begins_each
