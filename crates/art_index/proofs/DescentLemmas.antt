-- One step of the way down.
use Rattle.std.proofs.Common.{◌≡◌, ◌≢◌, ◌∙◌, ℕ, ◌+◌, ◌<◌, ◌≤◌, ◌^◌, Bool, true, false, nat_lt, filter, List, [], ◌∷◌, ◌++◌, length, length-append, drop, get_or, All, Some, None, refl, sym, ap, subst, arith, append_assoc, append-nil}
use Rattle.std.proofs.lemmas.List.{drop_at, nil_from_length}
use Rattle.std.proofs.lemmas.List.Elements.{All-append, All-weaker, All-cons, All-nil}
use Rattle.std.specs.Ordering.{is_le}
use Rattle.std.specs.declared.cmp.Ordering.TheVariants.{Less, Equal, Greater}
use Rattle.art_bytes.proofs.PrefixLaws.{prefix-antisym, prefix-shorter}
use Rattle.art_bytes.specs.Text.{IsPrefixOf, text_order}
use Rattle.std.specs.declared.ops.Bound.TheVariants.{Excluded, Unbounded}
use Rattle.art_nodes.specs.ChildMap.{ChildMap, child_at, pairs_within}
use Rattle.art_nodes.specs.Inner as nodes
use Rattle.art_nodes.specs.Leaf.{leaf_key}
use Rattle.art_nodes.specs.declared.leaf_node.LeafNode.{LeafNode}
use Rattle.art_nodes.specs.declared.pointers.OpaqueNodePtr.{OpaqueNodePtr}
use Rattle.art_arena.proofs.Heights.{height-fits}
use Rattle.art_arena.proofs.TreeLaws.{GoesOn, IsLongestCommonPrefix-node, texts-go-on}
use Rattle.art_arena.specs.Arena.{NodeArena, HeldInner, HeldLeaf, Nothing, held}
use Rattle.art_arena.specs.CommonPrefix.{IsSharedFrom}
use Rattle.art_arena.specs.Standing.{IsTreeIn, NodeStands, StandsIn, TreeAt, TreeUnder}
use Rattle.art_arena.specs.Trees.{Tree, Leaf, Inner, Branches, NoBranch, Branch, branch_leaves, branch_roots, leaves, root_of, texts, IsSound}
use Rattle.art_arena.specs.declared.ends.End.TheVariants.{First, Last}
use Rattle.art_index.specs.Descent.{AreLow, ComparesAs, IsBeside, IsNodePart, IsPart, LeadsTo, PassesPrefix}
use Rattle.art_index.proofs.BranchLemmas.{IsBranch, all-unmapped, last-below, none-below, own-branch}
use Rattle.art_index.proofs.ByteLemmas.{with-byte}
use Rattle.art_index.proofs.OrderLemmas.{longer-above, prefix-low}

module _ {K V : Type 0} {P : ℕ} (text : K → List ℕ) (arena : NodeArena K V P) (x : List ℕ) (whole : List (OpaqueNodePtr K V P × List ℕ)) (at : OpaqueNodePtr K V P) where
  -- an inner node's part
  pub node-part : (node : nodes.Inner (OpaqueNodePtr K V P)) (part : IsPart text arena x whole at) → held arena at ≡ HeldInner node → (own : IsNodePart text arena x whole at) × (own.path ≡ part.path) × NodeStands P node own.prefix own.branches
  node-part node part is = by_tree part.tree part.at_root part.stands part.sound part.is
    where
      by_tree : (tree : Tree (OpaqueNodePtr K V P)) → root_of tree ≡ at → StandsIn text arena tree → IsSound part.path tree → whole ≡ part.left ++ (leaves tree ++ part.right) → (own : IsNodePart text arena x whole at) × (own.path ≡ part.path) × NodeStands P node own.prefix own.branches
      by_tree (Leaf p y) root (leaf, holds, has) sound split = let wrong : HeldLeaf leaf ≡ HeldInner node = sym holds ∙ ap (held arena) root ∙ is in absurd (cc)
      by_tree (Inner p prefix branches) root (own, holds, shows, stand) sound split =
          let one : HeldInner own ≡ HeldInner node = sym holds ∙ ap (held arena) root ∙ is in
          let same : own ≡ node = cc in (
            record {
              path = part.path;
              prefix = prefix;
              branches = branches;
              stands = (own, ap (held arena) (sym root) ∙ holds, shows, stand);
              sound = sound;
              left = part.left;
              right = part.right;
              is = split;
              before = part.before;
              after = part.after;
            },
            refl,
            subst (λ n. NodeStands P n prefix branches) same shows,
          )

  -- it is a part
  abbrev pub as-part : IsNodePart text arena x whole at → IsPart text arena x whole at
  as-part own =
      record {
        tree = Inner at own.prefix own.branches;
        path = own.path;
        at_root = refl;
        stands = own.stands;
        sound = own.sound;
        left = own.left;
        right = own.right;
        is = own.is;
        before = own.before;
        after = own.after;
      }

  -- the tree of the node as a value
  abbrev pub as-under : (node : nodes.Inner (OpaqueNodePtr K V P)) (own : IsNodePart text arena x whole at) (depth : ℕ) → length own.path ≡ depth → NodeStands P node own.prefix own.branches → TreeUnder text arena node depth
  as-under node own depth deep shows = record { tree = Inner at own.prefix own.branches; path = own.path; stands = (shows, own.stands.3); sound = own.sound; deep = deep }

  -- what its texts share is its prefix
  shared-is : (own : IsNodePart text arena x whole at) (depth : ℕ) → length own.path ≡ depth → (shared : List ℕ) → IsSharedFrom depth (texts (Inner at own.prefix own.branches)) shared → shared ≡ own.prefix
  shared-is own depth deep shared (front, longest, is) =
      let mine = IsLongestCommonPrefix-node own.path at own.prefix own.branches own.sound in
      let same : front ≡ own.path ++ own.prefix = prefix-antisym front (own.path ++ own.prefix) (mine.longest front longest.begins_each) (longest.longest (own.path ++ own.prefix) mine.begins_each) in
      is ∙ ap (drop depth) same ∙ drop_at own.path own.prefix depth deep

  -- all texts of the node go on after its prefix
  module _ (own : IsNodePart text arena x whole at) where
    abbrev front : List ℕ
    front = own.path ++ own.prefix

    go-on : All (λ leaf. GoesOn front 0 leaf.1) (branch_leaves own.branches)
    go-on = all-unmapped (GoesOn front 0) (λ leaf. leaf.1) (branch_leaves own.branches) (texts-go-on front own.branches 0 own.sound.2 own.sound.1)

    -- so where its prefix is less than the text's bytes, all are not above the text; where it is greater, all are above
    beside-less : ((y : List ℕ) → IsPrefixOf front y → text_order y x ≡ Less) → IsBeside text arena x whole at Last
    beside-less less = record {
      part = as-part own;
      side = All-weaker (λ leaf. GoesOn front 0 leaf.1) (λ leaf. is_le (text_order leaf.1 x) ≡ true) (λ leaf on. ap is_le (less leaf.1 (prefix-shorter front (on.byte ∷ []) leaf.1 on.begins))) (branch_leaves own.branches) go-on;
    }

    beside-greater : ((y : List ℕ) → IsPrefixOf front y → text_order y x ≡ Greater) → IsBeside text arena x whole at First
    beside-greater greater = record {
      part = as-part own;
      side = All-weaker (λ leaf. GoesOn front 0 leaf.1) (λ leaf. is_le (text_order leaf.1 x) ≡ false) (λ leaf on. ap is_le (greater leaf.1 (prefix-shorter front (on.byte ∷ []) leaf.1 on.begins))) (branch_leaves own.branches) go-on;
    }

    -- a text goes on after the path and the prefix, so these are shorter than a text can be
    pub front-fits : length front + 1 < 2 ^ 64
    front-fits = by_branches own.branches own.sound
      where
        by_branches : (branches : Branches (OpaqueNodePtr K V P)) → IsSound own.path (Inner at own.prefix branches) → length front + 1 < 2 ^ 64
        by_branches NoBranch sound = absurd (omega (arith, sound.0))
        by_branches (Branch b tree others) sound = omega (arith, height-fits (front ++ b ∷ []) tree sound.2.0, length-append front (b ∷ []))

    -- where the text ends with its prefix, all are longer
    pub beside-end : x ≡ front → IsBeside text arena x whole at First
    beside-end is = record {
      part = as-part own;
      side = All-weaker (λ leaf. GoesOn front 0 leaf.1) (λ leaf. is_le (text_order leaf.1 x) ≡ false) (λ leaf on. ap is_le (longer-above x on.byte leaf.1 (subst (λ f. IsPrefixOf (f ++ on.byte ∷ []) leaf.1) (sym is) on.begins))) (branch_leaves own.branches) go-on;
    }

    -- a branch, as a part of all leaves
    abbrev wide : (child : OpaqueNodePtr K V P) (branch : IsBranch text arena x front own.branches child) → IsPart text arena x whole child
    wide child branch = record {
      tree = branch.tree;
      path = front ++ branch.byte ∷ [];
      at_root = branch.at_root;
      stands = branch.stands;
      sound = branch.sound;
      left = own.left ++ branch.left;
      right = branch.right ++ own.right;
      is = own.is ∙ ap (λ z. own.left ++ (z ++ own.right)) branch.is
          ∙ ap (λ z. own.left ++ z) (append_assoc branch.left (leaves branch.tree ++ branch.right) own.right ∙ ap (λ z. branch.left ++ z) (append_assoc (leaves branch.tree) branch.right own.right))
          ∙ sym (append_assoc own.left branch.left (leaves branch.tree ++ (branch.right ++ own.right)));
      before = All-append (λ leaf. is_le (text_order leaf.1 x) ≡ true) own.left branch.left own.before branch.before;
      after = All-append (λ leaf. is_le (text_order leaf.1 x) ≡ false) branch.right own.right branch.after own.after;
    }

    module _ (byte : ℕ) (leads : IsPrefixOf (front ++ byte ∷ []) x) where
      -- the child under the text's next byte
      pub down : (child : OpaqueNodePtr K V P) → child_at (branch_roots own.branches) byte ≡ Some child → LeadsTo text arena x whole child (length front + 1)
      down child is =
          let found = own-branch text arena x front byte leads 0 own.branches child own.stands.3 own.sound.2 own.sound.1 is in
          record {
            part = wide child found.0;
            leads = subst (λ b. IsPrefixOf (front ++ b ∷ []) x) (sym found.1) leads;
            deep = length-append front (found.0.byte ∷ []);
          }

      -- or the last one below
      pub beside-below : (c : ℕ) (child : OpaqueNodePtr K V P) (others : ChildMap (OpaqueNodePtr K V P)) → child_at (branch_roots own.branches) byte ≡ None → filter (λ p. nat_lt p.0 byte) (branch_roots own.branches) ≡ others ++ (c, child) ∷ [] → IsBeside text arena x whole child Last
      beside-below c child others absent is =
          let found = last-below text arena x front byte leads 0 own.branches c child others own.stands.3 own.sound.2 own.sound.1 absent is in
          record { part = wide child found.0; side = found.1 }

      -- or none
      pub beside-none : child_at (branch_roots own.branches) byte ≡ None → filter (λ p. nat_lt p.0 byte) (branch_roots own.branches) ≡ [] → IsBeside text arena x whole at First
      beside-none absent none = record { part = as-part own; side = none-below x front byte leads 0 own.branches own.sound.2 own.sound.1 absent none }

  module _ (node : nodes.Inner (OpaqueNodePtr K V P)) (holds : held arena at ≡ HeldInner node) where
    -- the children of a node are the roots of its branches
    children-are : (own : IsNodePart text arena x whole at) → node.children ≡ branch_roots own.branches
    children-are own =
        let (other, there, shows, stand) = own.stands in
        let one : HeldInner other ≡ HeldInner node = sym there ∙ holds in
        let same : other ≡ node = cc in ap (λ n. n.children) (sym same) ∙ shows.children

    -- where a text that has the prefix goes
    module _ (index : ℕ) (passes : PassesPrefix text arena x whole at index) where
      pub passes-end : length x ≤ index → IsBeside text arena x whole at First
      passes-end short =
          let mine = passes.node in
          let none : passes.leads.0 ≡ [] = nil_from_length passes.leads.0 (omega (arith, short, passes.deep, ap length passes.leads.1, length-append (mine.path ++ mine.prefix) passes.leads.0)) in
          beside-end mine (passes.leads.1 ∙ ap (λ z. (mine.path ++ mine.prefix) ++ z) none ∙ append-nil (mine.path ++ mine.prefix))

      module _ (byte : ℕ) (inside : index < length x) (is : byte ≡ get_or x index 0) where
        next : IsPrefixOf ((passes.node.path ++ passes.node.prefix) ++ byte ∷ []) x
        next = subst (λ b. IsPrefixOf ((passes.node.path ++ passes.node.prefix) ++ b ∷ []) x) (sym is) (with-byte (passes.node.path ++ passes.node.prefix) x index passes.deep passes.leads inside)

        pub passes-down : (child : OpaqueNodePtr K V P) → child_at node.children byte ≡ Some child → LeadsTo text arena x whole child (index + 1)
        passes-down child found =
            subst (λ n. LeadsTo text arena x whole child (n + 1)) passes.deep (down passes.node byte next child (subst (λ children. child_at children byte ≡ Some child) (children-are passes.node) found))

        module _ (absent : child_at node.children byte ≡ None) where
          absent-branch : child_at (branch_roots passes.node.branches) byte ≡ None
          absent-branch = subst (λ children. child_at children byte ≡ None) (children-are passes.node) absent

          pub passes-below : (below : ℕ) (child : OpaqueNodePtr K V P) (others : ChildMap (OpaqueNodePtr K V P)) → pairs_within node.children Unbounded (Excluded byte) ≡ others ++ (below, child) ∷ [] → IsBeside text arena x whole child Last
          passes-below below child others found =
              beside-below passes.node byte next below child others absent-branch (subst (λ children. pairs_within children Unbounded (Excluded byte) ≡ others ++ (below, child) ∷ []) (children-are passes.node) found)

          pub passes-none : pairs_within node.children Unbounded (Excluded byte) ≡ [] → IsBeside text arena x whole at First
          passes-none none =
              beside-none passes.node byte next absent-branch (subst (λ children. pairs_within children Unbounded (Excluded byte) ≡ []) (children-are passes.node) none)

    -- a node to which the text leads
    module _ (depth : ℕ) (leads : LeadsTo text arena x whole at depth) where
      abbrev pub own-part : IsNodePart text arena x whole at
      own-part = (node-part node leads.part holds).0

      pub own-path : own-part.path ≡ leads.part.path
      own-path = (node-part node leads.part holds).1

      pub own-deep : length own-part.path ≡ depth
      own-deep = ap length own-path ∙ leads.deep

      own-leads : IsPrefixOf own-part.path x
      own-leads = subst (λ path. IsPrefixOf path x) (sym own-path) leads.leads

      abbrev pub under-node : TreeUnder text arena node depth
      under-node = as-under node own-part depth own-deep (node-part node leads.part holds).2

      module _ (prefix : List ℕ) (shared : IsSharedFrom depth (texts under-node.tree) prefix) where
        prefix-is : prefix ≡ own-part.prefix
        prefix-is = shared-is own-part depth own-deep prefix shared

        pub prefix-fits : depth + length prefix + 1 < 2 ^ 64
        prefix-fits = omega (arith, front-fits own-part, length-append own-part.path own-part.prefix, own-deep, ap length prefix-is)

        -- where its prefix is less than the text's bytes, or greater, or the same
        pub goes-less : ComparesAs x depth prefix Less → IsBeside text arena x whole at Last
        goes-less less = beside-less own-part (λ y on. less own-part.path own-deep own-leads y (subst (λ p. IsPrefixOf (own-part.path ++ p) y) (sym prefix-is) on))

        pub goes-greater : ComparesAs x depth prefix Greater → IsBeside text arena x whole at First
        goes-greater greater = beside-greater own-part (λ y on. greater own-part.path own-deep own-leads y (subst (λ p. IsPrefixOf (own-part.path ++ p) y) (sym prefix-is) on))

        pub goes-through : ComparesAs x depth prefix Equal → PassesPrefix text arena x whole at (depth + length prefix)
        goes-through equal = record {
          node = own-part;
          leads = subst (λ p. IsPrefixOf (own-part.path ++ p) x) prefix-is (equal own-part.path own-deep own-leads);
          deep = omega (arith, length-append own-part.path own-part.prefix, own-deep, ap length prefix-is);
        }

  -- a leaf to which the text leads
  module _ (node : LeafNode K V P) (holds : held arena at ≡ HeldLeaf node) (depth : ℕ) (leads : LeadsTo text arena x whole at depth) where
    -- its tree is the leaf alone
    leaf-alone : (IsPrefixOf leads.part.path (text (leaf_key node))) × (length (text (leaf_key node)) < 2 ^ 64) × (leaves leads.part.tree ≡ (at, text (leaf_key node)) ∷ [])
    leaf-alone = by_tree leads.part.tree leads.part.at_root leads.part.stands leads.part.sound
      where
        by_tree : (tree : Tree (OpaqueNodePtr K V P)) → root_of tree ≡ at → StandsIn text arena tree → IsSound leads.part.path tree → (IsPrefixOf leads.part.path (text (leaf_key node))) × (length (text (leaf_key node)) < 2 ^ 64) × (leaves tree ≡ (at, text (leaf_key node)) ∷ [])
        by_tree (Leaf p y) root (leaf, there, has) sound =
            let one : HeldLeaf leaf ≡ HeldLeaf node = sym there ∙ ap (held arena) root ∙ holds in
            let same : leaf ≡ node = cc in
            let is : y ≡ text (leaf_key node) = sym has ∙ ap (λ l. text (leaf_key l)) same in
            (subst (IsPrefixOf leads.part.path) is sound.0, subst (λ z. length z < 2 ^ 64) is sound.1, (λ i. (root i, is i) ∷ []))
        by_tree (Inner p prefix branches) root (inner, there, shows, stand) sound = let wrong : HeldInner inner ≡ HeldLeaf node = sym there ∙ ap (held arena) root ∙ holds in absurd (cc)

    -- its text is as long as the path to it, and fits
    pub leaf-deep : depth ≤ length (text (leaf_key node))
    leaf-deep = omega (arith, ap length leaf-alone.0.1, length-append leads.part.path leaf-alone.0.0, leads.deep)

    pub leaf-fits : length (text (leaf_key node)) < 2 ^ 64
    leaf-fits = leaf-alone.1

    whole-text : leads.part.path ++ drop depth (text (leaf_key node)) ≡ text (leaf_key node)
    whole-text = ap (λ z. leads.part.path ++ z) (ap (drop depth) leaf-alone.0.1 ∙ drop_at leads.part.path leaf-alone.0.0 depth leads.deep) ∙ sym leaf-alone.0.1

    on-side : (low : Bool) → is_le (text_order (text (leaf_key node)) x) ≡ low → AreLow x low (leaves leads.part.tree)
    on-side low is = subst (AreLow x low) (sym leaf-alone.2) (All-cons (λ leaf. is_le (text_order leaf.1 x) ≡ low) (at, text (leaf_key node)) [] is (All-nil (λ leaf. is_le (text_order leaf.1 x) ≡ low)))

    begins-itself : IsPrefixOf (leads.part.path ++ drop depth (text (leaf_key node))) (text (leaf_key node))
    begins-itself = ([], sym whole-text ∙ sym (append-nil (leads.part.path ++ drop depth (text (leaf_key node)))))

    -- where the rest of it is less than the text's bytes, or the same, or greater
    pub leaf-less : ComparesAs x depth (drop depth (text (leaf_key node))) Less → IsBeside text arena x whole at Last
    leaf-less less = record { part = leads.part; side = on-side true (ap is_le (less leads.part.path leads.deep leads.leads (text (leaf_key node)) begins-itself)) }

    pub leaf-equal : ComparesAs x depth (drop depth (text (leaf_key node))) Equal → IsBeside text arena x whole at Last
    leaf-equal equal = record { part = leads.part; side = on-side true (prefix-low (text (leaf_key node)) x (subst (λ z. IsPrefixOf z x) whole-text (equal leads.part.path leads.deep leads.leads))) }

    pub leaf-greater : ComparesAs x depth (drop depth (text (leaf_key node))) Greater → IsBeside text arena x whole at First
    leaf-greater greater = record { part = leads.part; side = on-side false (ap is_le (greater leads.part.path leads.deep leads.leads (text (leaf_key node)) begins-itself)) }

  -- a node to which a text leads is held
  pub leads-held : (depth : ℕ) → LeadsTo text arena x whole at depth → held arena at ≢ Nothing
  leads-held depth leads none = by_tree leads.part.tree leads.part.at_root leads.part.stands
    where
      by_tree : (tree : Tree (OpaqueNodePtr K V P)) → root_of tree ≡ at → StandsIn text arena tree → ⊥
      by_tree (Leaf p y) root (leaf, there, has) = let wrong : HeldLeaf leaf ≡ Nothing = sym there ∙ ap (held arena) root ∙ none in cc
      by_tree (Inner p prefix branches) root (inner, there, shows, stand) = let wrong : HeldInner inner ≡ Nothing = sym there ∙ ap (held arena) root ∙ none in cc

  -- and is as deep as a path can be
  pub leads-fits : (depth : ℕ) → LeadsTo text arena x whole at depth → depth < 2 ^ 64
  leads-fits depth leads = omega (arith, height-fits leads.part.path leads.part.tree leads.part.sound, leads.deep)

-- the tree of a part, where it stands
abbrev pub part-at : {K V : Type 0} {P : ℕ} {text : K → List ℕ} {arena : NodeArena K V P} {x : List ℕ} {whole : List (OpaqueNodePtr K V P × List ℕ)} {at : OpaqueNodePtr K V P} → IsPart text arena x whole at → TreeAt text arena at
part-at part = record { tree = part.tree; path = part.path; at_root = part.at_root; stands = part.stands; sound = part.sound }

-- a text leads to the root of a tree
pub leads-root : {K V : Type 0} {P : ℕ} (text : K → List ℕ) (arena : NodeArena K V P) (x : List ℕ) (root : OpaqueNodePtr K V P) (tree : Tree (OpaqueNodePtr K V P)) → IsTreeIn text arena root tree → LeadsTo text arena x (leaves tree) root 0
leads-root text arena x root tree is = record {
  part = record {
    tree = tree;
    path = [];
    at_root = is.at_root;
    stands = is.stands;
    sound = is.sound;
    left = [];
    right = [];
    is = sym (append-nil (leaves tree));
    before = All-nil (λ leaf. is_le (text_order leaf.1 x) ≡ true);
    after = All-nil (λ leaf. is_le (text_order leaf.1 x) ≡ false);
  };
  leads = (x, refl);
  deep = refl;
}
