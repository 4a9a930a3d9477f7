-- The parent of a node.
use Rattle.art_steps.proofs.Names.{◌≡◌, ◌≢◌, ◌∙◌, ℕ, Option, Some, None, IsNone, Result, Ok, Err, OnOk, OnErr, Bool, true, false, sym, ap, subst, refl, same_Some, most_children, is_err, IsAscending, child_at, key_bytes, node_kind, opaque_key, OpaqueNodePtr, LeafNode, NodeArena, HeldInner, Nothing, held, held_leaf, held_under, HasChildUnder, IsChildOrRoot, written_over, one-inner, LeafKind, InnerNode, with_children, HasRoomFor}
use Rattle.art_steps.proofs.InsertLemmas.NodeLemmas.{some-inner}

pub always-ok : {T E : Type 0} (r : Result T E) (Q : Type 0) → Q → OnOk r Q
always-ok (Ok x) Q holds = holds
always-ok (Err e) Q holds = tt

module _ {K V : Type 0} {P : ℕ} where
  no-inner : (leaf : Option (LeafNode K V P)) (node : InnerNode (OpaqueNodePtr K V P)) → held_leaf leaf ≡ HeldInner node → ⊥
  no-inner None node is = cc
  no-inner (Some leaf) node is = cc

  -- no inner node is held at a pointer of the kind of leaves
  pub inner-kind : (arena : NodeArena K V P) (pointer : OpaqueNodePtr K V P) (node : InnerNode (OpaqueNodePtr K V P)) → held arena pointer ≡ HeldInner node → node_kind pointer ≢ LeafKind
  inner-kind arena pointer node is leaf = no-inner _ node (sym (ap (λ kind. held_under arena kind (opaque_key pointer)) leaf) ∙ is)

  -- a parent that has a child under the byte
  pub record IsParent (arena : NodeArena K V P) (parent : OpaqueNodePtr K V P) (byte : ℕ) : Type 0 where
    pub is_held : held arena parent ≢ Nothing
    pub is_inner : node_kind parent ≢ LeafKind
    pub has_room : (node : InnerNode (OpaqueNodePtr K V P)) → held arena parent ≡ HeldInner node → HasRoomFor (most_children (node_kind parent)) node byte

  there-already : (o : Option (OpaqueNodePtr K V P)) (A : Type 0) → o ≢ None → IsNone o → A
  there-already None A some none = absurd (some refl)
  there-already (Some child) A some none = absurd (cc)

  pub is-parent : (arena : NodeArena K V P) (above : Option (OpaqueNodePtr K V P × ℕ)) (parent : OpaqueNodePtr K V P) (byte : ℕ) (child : OpaqueNodePtr K V P) → HasChildUnder arena above child → above ≡ Some (parent, byte) → IsParent arena parent byte
  is-parent arena None parent byte child can is = absurd (cc)
  is-parent arena (Some (p, b)) parent byte child (node, holds, some, ascend) is =
      let one : (p, b) ≡ (parent, byte) = same_Some (p, b) (parent, byte) is in
      let here : held arena parent ≡ HeldInner node = ap (held arena) (sym (ap (λ pair. pair.0) one)) ∙ holds in
      record {
        is_held = some-inner (held arena parent) node here;
        is_inner = inner-kind arena parent node here;
        has_room = λ own is_own.
            let same : node ≡ own = one-inner (held arena parent) node own here is_own in
            there-already (child_at own.children byte) _ (λ none. let wrong : Some child ≡ None = sym some ∙ ap (child_at node.children) (ap (λ pair. pair.1) one) ∙ ap (λ n. child_at n.children byte) same ∙ none in absurd (cc));
      }

-- a node that is put where it is leaves the parent as it is
pub child_or_root-there : {K V : Type 0} {P : ℕ} (arena : NodeArena K V P) (above : Option (OpaqueNodePtr K V P × ℕ)) (parent : OpaqueNodePtr K V P) (byte : ℕ) (child root : OpaqueNodePtr K V P) → HasChildUnder arena above child → above ≡ Some (parent, byte) → IsChildOrRoot arena arena above child root root
child_or_root-there arena None parent byte child root can is = absurd (cc)
child_or_root-there arena (Some (p, b)) parent byte child root (node, holds, some, ascend) is = (
  refl,
  λ own is_own.
      let same : node ≡ own = one-inner (held arena p) node own holds is_own in
      let over = written_over own.children b child (subst (λ n. IsAscending (key_bytes n.children)) same ascend) (ap (λ n. child_at n.children b) (sym same) ∙ some) in
      record {
        changed = is_own ∙ ap (λ children. HeldInner (with_children own children)) (sym over);
        others = λ pointer differs. refl;
      },
)

-- what holds where a result is Ok holds where it is no error
pub ok-then : {T E : Type 0} (r : Result T E) (Q : Type 0) {test : Bool} → test ≡ is_err r → test ≡ false → OnOk r Q → Q
ok-then (Ok x) Q is never holds = holds
ok-then (Err e) Q is never holds = absurd (cc)

-- what holds where a result is an error holds where it is one
pub err-then : {T E : Type 0} (r : Result T E) (Q : Type 0) {test : Bool} → test ≡ is_err r → test ≡ true → OnErr r Q → Q
err-then (Ok x) Q is always holds = absurd (cc)
err-then (Err e) Q is always holds = holds
