-- Removal: the way to a leaf as the place of that leaf in the tree.
use Rattle.art_tree.proofs.Names.{◌≡◌, ◌∙◌, ℕ, List, [], ◌∷◌, ◌++◌, Option, Some, None, refl, sym, ap, inl, inr, append_assoc, append-nil, same_Some, OpaqueNodePtr, Tree, Leaf, Inner, Branches, NoBranch, Branch, Context, Whole, Under, plug, join, HasParents, HasLeafAt, IsAtPath, steps_to, path_of, above, IsWay, IsWayUnder, TreePath, Root, ChildOfRoot, Normal}
use Rattle.art_steps.proofs.SharedLemmas.BranchLemmas.{one_branch, join_assoc}
use Rattle.art_search.proofs.PathSteps.{path_of-visit, visited}

-- the place is the child under this byte of an inner node, which has this parent
pub record IsUnder {H : Type 0} (context : Context H) (parent : H) (byte : ℕ) (higher : Option (H × ℕ)) : Type 0 where
  pub upper : Context H
  pub prefix : List ℕ
  pub before : Branches H
  pub after : Branches H
  pub is : context ≡ Under upper parent prefix before byte after
  pub parent_is : above upper ≡ higher

module _ {H : Type 0} where
  mutual
    -- a way on from a part of a tree goes on from the place of the part
    way-from : (context : Context H) (part : Tree H) (steps : List (H × ℕ)) (pointer : H) → IsWay part steps pointer → HasLeafAt (plug context part) (steps_to context ++ steps) pointer
    way-from context (Leaf at text) steps pointer (none, same) = record {
      context = context;
      text = text;
      whole = ap (λ p. plug context (Leaf p text)) same;
      same = sym (append-nil (steps_to context)) ∙ ap (λ more. steps_to context ++ more) (sym none);
    }
    way-from context (Inner at prefix branches) steps pointer (byte, rest, is, under) =
        let leaf = way-under context at prefix NoBranch branches byte rest pointer under in
        record { context = leaf.context; text = leaf.text; whole = leaf.whole; same = leaf.same ∙ ap (λ more. steps_to context ++ more) (sym is) }

    -- and so does one from the branches of its top node that are left
    way-under : (context : Context H) (at : H) (prefix : List ℕ) (before branches : Branches H) (byte : ℕ) (rest : List (H × ℕ)) (pointer : H) → IsWayUnder branches byte rest pointer
        → HasLeafAt (plug context (Inner at prefix (join before branches))) (steps_to context ++ (at, byte) ∷ rest) pointer
    way-under context at prefix before NoBranch byte rest pointer under = absurd under
    way-under context at prefix before (Branch b tree others) byte rest pointer under = elim under [
      | inl (same, way) ↦
          let leaf = way-from (Under context at prefix before b others) tree rest pointer way in
          record {
            context = leaf.context;
            text = leaf.text;
            whole = leaf.whole;
            same = leaf.same ∙ append_assoc (steps_to context) ((at, b) ∷ []) rest ∙ ap (λ z. steps_to context ++ (at, z) ∷ rest) same;
          }
      | inr later ↦
          let leaf = way-under context at prefix (join before (one_branch b tree)) others byte rest pointer later in
          record {
            context = leaf.context;
            text = leaf.text;
            whole = leaf.whole ∙ ap (λ all. plug context (Inner at prefix all)) (join_assoc before (one_branch b tree) others);
            same = leaf.same;
          }
    ]

  -- a way leads to a place
  pub way-context : (tree : Tree H) (steps : List (H × ℕ)) (pointer : H) → IsWay tree steps pointer → HasLeafAt tree steps pointer
  way-context tree steps pointer way = way-from Whole tree steps pointer way

  -- a leaf is under its parent, where its place is
  abbrev has-parents : (tree : Tree H) (steps : List (H × ℕ)) (pointer parent : H) (byte : ℕ) (higher : Option (H × ℕ)) (leaf : HasLeafAt tree steps pointer) → IsUnder leaf.context parent byte higher → HasParents tree pointer parent byte higher
  has-parents tree steps pointer parent byte higher leaf under = record {
    upper = under.upper;
    prefix = under.prefix;
    before = under.before;
    after = under.after;
    text = leaf.text;
    whole = ap (λ context. plug context (Leaf pointer leaf.text)) (sym under.is) ∙ leaf.whole;
    parent_is = under.parent_is;
  }

module _ {K V : Type 0} {P : ℕ} where
  -- the last step of a path
  abbrev last_step : TreePath K V P → Option (OpaqueNodePtr K V P × ℕ)
  last_step Root = None
  last_step (ChildOfRoot parent byte) = Some (parent, byte)
  last_step (Normal grandparent parent_byte parent byte) = Some (parent, byte)

  -- the last step but one
  abbrev step_before : TreePath K V P → Option (OpaqueNodePtr K V P × ℕ)
  step_before Root = None
  step_before (ChildOfRoot parent byte) = None
  step_before (Normal grandparent parent_byte parent byte) = Some (grandparent, parent_byte)

  last-visited : (path : TreePath K V P) (node : OpaqueNodePtr K V P) (byte : ℕ) → last_step (visited path node byte) ≡ Some (node, byte)
  last-visited Root node byte = refl
  last-visited (ChildOfRoot parent higher) node byte = refl
  last-visited (Normal grandparent higher parent below) node byte = refl

  before-visited : (path : TreePath K V P) (node : OpaqueNodePtr K V P) (byte : ℕ) → step_before (visited path node byte) ≡ last_step path
  before-visited Root node byte = refl
  before-visited (ChildOfRoot parent higher) node byte = refl
  before-visited (Normal grandparent higher parent below) node byte = refl

  -- the last step of the path to a place is from the node above it
  above-last : (context : Context (OpaqueNodePtr K V P)) → above context ≡ last_step (path_of (steps_to context))
  above-last Whole = refl
  above-last (Under upper pointer prefix before byte after) = sym (ap last_step (path_of-visit (steps_to upper) pointer byte) ∙ last-visited (path_of (steps_to upper)) pointer byte)

  -- and the one before it is from the node above that one
  above-before : (upper : Context (OpaqueNodePtr K V P)) (pointer : OpaqueNodePtr K V P) (byte : ℕ) → above upper ≡ step_before (path_of (steps_to upper ++ (pointer, byte) ∷ []))
  above-before upper pointer byte = above-last upper ∙ sym (ap step_before (path_of-visit (steps_to upper) pointer byte) ∙ before-visited (path_of (steps_to upper)) pointer byte)

  -- a place to which there is no step is the whole
  pub path-root : (context : Context (OpaqueNodePtr K V P)) → path_of (steps_to context) ≡ Root → context ≡ Whole
  path-root Whole is = refl
  path-root (Under upper pointer prefix before byte after) is =
      let wrong = above-last (Under upper pointer prefix before byte after) ∙ ap last_step is in absurd (cc)

  -- the other places are under the node of the last step
  path-under : (context : Context (OpaqueNodePtr K V P)) (path : TreePath K V P) (parent : OpaqueNodePtr K V P) (byte : ℕ) → path_of (steps_to context) ≡ path → last_step path ≡ Some (parent, byte) → IsUnder context parent byte (step_before path)
  path-under Whole path parent byte is last = let wrong = ap last_step is ∙ last in absurd (cc)
  path-under (Under upper pointer prefix before b after) path parent byte is last =
      let one : Some (pointer, b) ≡ Some (parent, byte) = above-last (Under upper pointer prefix before b after) ∙ ap last_step is ∙ last in
      let step = same_Some (pointer, b) (parent, byte) one in
      record {
        upper = upper;
        prefix = prefix;
        before = before;
        after = after;
        is = ap (λ s. Under upper s.0 prefix before s.1 after) step;
        parent_is = above-before upper pointer b ∙ ap step_before is;
      }

  module _ (tree : Tree (OpaqueNodePtr K V P)) (pointer : OpaqueNodePtr K V P) (x : List ℕ) where
    -- a leaf to which the path has no step is the whole tree
    pub leaf-root : IsAtPath tree pointer Root x → tree ≡ Leaf pointer x
    leaf-root (steps, leaf, has, is) = sym leaf.whole ∙ ap (λ context. plug context (Leaf pointer leaf.text)) (path-root leaf.context (ap path_of leaf.same ∙ sym is)) ∙ ap (Leaf pointer) has

    -- any other leaf is a child of the node of the last step
    leaf-under : (path : TreePath K V P) (parent : OpaqueNodePtr K V P) (byte : ℕ) → IsAtPath tree pointer path x → last_step path ≡ Some (parent, byte) → (parents : HasParents tree pointer parent byte (step_before path)) × (parents.text ≡ x)
    leaf-under path parent byte (steps, leaf, has, is) last =
        (has-parents tree steps pointer parent byte (step_before path) leaf (path-under leaf.context path parent byte (ap path_of leaf.same ∙ sym is) last), has)

    pub leaf-child : (parent : OpaqueNodePtr K V P) (byte : ℕ) → IsAtPath tree pointer (ChildOfRoot parent byte) x → (parents : HasParents tree pointer parent byte None) × (parents.text ≡ x)
    leaf-child parent byte path = leaf-under (ChildOfRoot parent byte) parent byte path refl

    pub leaf-normal : (grandparent : OpaqueNodePtr K V P) (parent_byte : ℕ) (parent : OpaqueNodePtr K V P) (byte : ℕ) → IsAtPath tree pointer (Normal grandparent parent_byte parent byte) x → (parents : HasParents tree pointer parent byte (Some (grandparent, parent_byte))) × (parents.text ≡ x)
    leaf-normal grandparent parent_byte parent byte path = leaf-under (Normal grandparent parent_byte parent byte) parent byte path refl
