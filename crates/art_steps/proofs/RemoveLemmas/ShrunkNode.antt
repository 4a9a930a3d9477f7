-- Removal: inner nodes with one child less, or with the prefix of the node above.
use Rattle.art_steps.proofs.Names.{◌≡◌, ◌≢◌, ◌∙◌, ℕ, ◌+◌, ◌-◌, ◌<◌, ◌≤◌, min, List, [], ◌∷◌, ◌++◌, length, length-append, take, None, refl, sym, ap, subst, inl, inr, arith, append_assoc, ◌==◌, ◌↔◌, IsTrue, cases_eq, cases_lt, eq-eqb, eqb-true, ne_eqb, take-append-add, take_all, take-take, take-append-le, length-take-le, Header, capped, with_more, StandsFor, least_children, shrunk_kind, NodeType, ChildMap, child_at, without_child, node_without_child, node_kind, opaque_key, LeafNode, OpaqueNodePtr, NodeArena, Held, HeldInner, HeldLeaf, Nothing, held, room, Changes, SameRoom, HasOneLess, HasRoomToShrink, IsReplaced, leaf_kind, one-inner, LeafKind, Node4}
use Rattle.art_nodes.specs.Inner.{Inner}
use Rattle.art_steps.proofs.SharedLemmas.RoomLemmas.{same-room}
use Rattle.art_steps.proofs.InsertLemmas.NodeLemmas.{some-inner}

-- what is at most a number and is not it is less
pub less-where-differ : (least count : ℕ) → least ≤ count → count ≢ least → least < count
less-where-differ least count most differ = elim (cases_lt least count) [
  | inl less ↦ less
  | inr upto ↦ absurd (differ (omega (arith, most, upto)))
]

-- a test whether a count is the least one
pub counted : (count start : ℕ) {all least : ℕ} → count ≡ all → start ≡ least → IsTrue (count == start) ↔ (all ≡ least)
counted count start is from = (λ same. omega (arith, eqb-true count start same, is, from), λ e. eq-eqb count start (omega (arith, is, from)))

-- there are fewer children where one is taken away
module _ {H : Type 0} where
  no-more : (children : ChildMap H) (byte : ℕ) → length (without_child children byte) ≤ length children
  no-more [] byte = omega arith
  no-more (x ∷ children) byte = elim (cases_eq x.0 byte) [
    | inl same ↦ rw (eq-eqb x.0 byte same) (omega (arith, no-more children byte))
    | inr differ ↦ rw (ne_eqb x.0 byte differ) (omega (arith, no-more children byte))
  ]

  pub fewer : (children : ChildMap H) (byte : ℕ) → child_at children byte ≢ None → length (without_child children byte) < length children
  fewer [] byte there = absurd (there refl)
  fewer (x ∷ children) byte there = elim (cases_eq x.0 byte) [
    | inl same ↦ rw (eq-eqb x.0 byte same) (omega (arith, no-more children byte))
    | inr differ ↦ rw (ne_eqb x.0 byte differ) (omega (arith, fewer children byte (rw (ne_eqb x.0 byte differ) at there)))
  ]

-- a prefix that is pushed behind another: what is stored begins the whole
stored-join : (size : ℕ) (front more back : List ℕ) → take (capped size (length back)) more ≡ take (capped size (length back)) back
    → take (capped size (length front + length back)) (take (capped size (length front)) front ++ more) ≡ take (capped size (length front + length back)) (front ++ back)
stored-join size front more back same = elim (cases_lt size (length front)) [
  | inl long ↦
      let all : capped size (length front + length back) ≡ size = omega (arith, long) in
      let own : capped size (length front) ≡ size = omega (arith, long) in
      let kept : length (take size front) ≡ size = length-take-le size front (omega (arith, long)) in
      rw (all, own) (take-append-le size (take size front) more (omega (arith, kept)) ∙ take-take size size front (omega arith) ∙ sym (take-append-le size front back (omega (arith, long))))
  | inr short ↦
      let rest : ℕ = min (length back) (size - length front) in
      let all : capped size (length front + length back) ≡ length front + rest = omega (arith, short) in
      let own : take (capped size (length front)) front ≡ front = take_all (capped size (length front)) front (omega (arith, short)) in
      let few : rest ≤ capped size (length back) = omega arith in
      let end : take rest more ≡ take rest back = sym (take-take rest (capped size (length back)) more few) ∙ ap (take rest) same ∙ take-take rest (capped size (length back)) back few in
      rw (all, own) (take-append-add front more rest ∙ ap (λ bytes. front ++ bytes) end ∙ sym (take-append-add front back rest))
]

-- a header that stands for a prefix, and is given more, stands for the longer one
pub more-stands : (size : ℕ) (header : Header) (front more back : List ℕ) (len : ℕ) → StandsFor size header front → len ≡ length back → take (capped size len) more ≡ take (capped size len) back → StandsFor size (with_more size header more len) (front ++ back)
more-stands size header front more back len stands is same =
    let front_len : header.prefix_len ≡ length front = ap (λ h. h.prefix_len) stands in
    let stored : header.stored ≡ take (capped size (length front)) front = ap (λ h. h.stored) stands in
    let len_is : header.prefix_len + len ≡ length (front ++ back) = omega (arith, front_len, is, length-append front back) in
    let sum : header.prefix_len + len ≡ length front + length back = omega (arith, front_len, is) in
    let bytes : take (capped size (header.prefix_len + len)) (header.stored ++ more) ≡ take (capped size (length (front ++ back))) (front ++ back) =
    ap (λ n. take (capped size n) (header.stored ++ more)) sum
    ∙ ap (λ s. take (capped size (length front + length back)) (s ++ more)) stored
    ∙ stored-join size front more back (subst (λ n. take (capped size n) more ≡ take (capped size n) back) is same)
    ∙ ap (λ n. take (capped size n) (front ++ back)) (sym (length-append front back)) in
    λ i. record { count = header.count; prefix_len = len_is i; stored = bytes i }

-- the prefix of the node above, a byte and the prefix of the node below, one behind the other
pub joined-stands : (size : ℕ) (above below : Header) (front back : List ℕ) (byte : ℕ) → StandsFor size above front → StandsFor size below back
    → StandsFor size (with_more size (with_more size above (byte ∷ []) 1) below.stored below.prefix_len) (front ++ byte ∷ back)
joined-stands size above below front back byte stands_above stands_below =
    let first = more-stands size above front (byte ∷ []) (byte ∷ []) 1 stands_above refl refl in
    let len : below.prefix_len ≡ length back = ap (λ h. h.prefix_len) stands_below in
    let stored : below.stored ≡ take (capped size (length back)) back = ap (λ h. h.stored) stands_below in
    let begins : take (capped size below.prefix_len) below.stored ≡ take (capped size below.prefix_len) back =
    ap (take (capped size below.prefix_len)) stored ∙ take-take (capped size below.prefix_len) (capped size (length back)) back (omega (arith, len)) in
    let both = more-stands size (with_more size above (byte ∷ []) 1) (front ++ byte ∷ []) below.stored back below.prefix_len first len begins in
    subst (StandsFor size (with_more size (with_more size above (byte ∷ []) 1) below.stored below.prefix_len)) (append_assoc front (byte ∷ []) back) both

module _ {K V : Type 0} {P : ℕ} where
  -- what stands at a pointer that is no leaf's is an inner node
  pub inner-there : (arena : NodeArena K V P) (pointer : OpaqueNodePtr K V P) → held arena pointer ≢ Nothing → node_kind pointer ≢ LeafKind → (node : Inner (OpaqueNodePtr K V P)) × (held arena pointer ≡ HeldInner node)
  inner-there arena pointer was inner = go (held arena pointer) refl
    where
      go : (there : Held (OpaqueNodePtr K V P) (LeafNode K V P)) → held arena pointer ≡ there → (node : Inner (OpaqueNodePtr K V P)) × (held arena pointer ≡ HeldInner node)
      go Nothing is = absurd (was is)
      go (HeldInner node) is = (node, is)
      go (HeldLeaf leaf) is = absurd (inner (leaf_kind arena (node_kind pointer) (opaque_key pointer) leaf is))

  -- a node of a kind that is replaced by one of the next smaller kind
  module _ (old : NodeArena K V P) (pointer : OpaqueNodePtr K V P) {kind : NodeType} (is_kind : node_kind pointer ≡ kind) where
    pub smaller-room : 0 < room old (shrunk_kind (node_kind pointer)) → 0 < room old (shrunk_kind kind)
    smaller-room has = subst (λ kind. 0 < room old (shrunk_kind kind)) is_kind has

    module _ {there : Inner (OpaqueNodePtr K V P)} (here : held old pointer ≡ HeldInner there) where
      pub few-there : ((node : Inner (OpaqueNodePtr K V P)) → held old pointer ≡ HeldInner node → length node.children < least_children (node_kind pointer)) → length there.children < least_children kind
      few-there few = subst (λ kind. length there.children < least_children kind) is_kind (few there here)

      pub replaced-there : {new : NodeArena K V P} {node shrunk : Inner (OpaqueNodePtr K V P)} {to : OpaqueNodePtr K V P} → shrunk ≡ there → held old pointer ≡ HeldInner node
          → IsReplaced old new pointer (shrunk_kind kind) shrunk to → IsReplaced old new pointer (shrunk_kind (node_kind pointer)) node to
      replaced-there {new = new} {node = node} {to = to} shrinks is is_replaced =
          let one = shrinks ∙ one-inner (held old pointer) there node here is in
          subst (λ kind. IsReplaced old new pointer (shrunk_kind kind) node to) (sym is_kind) (subst (λ n. IsReplaced old new pointer (shrunk_kind kind) n to) one is_replaced)

  -- a node from which a child is taken in its place
  module _ (old mid : NodeArena K V P) (pointer : OpaqueNodePtr K V P) (byte : ℕ) (was : held old pointer ≢ Nothing) (inner : node_kind pointer ≢ LeafKind)
      (lost : (node : Inner (OpaqueNodePtr K V P)) → held old pointer ≡ HeldInner node → Changes old mid pointer (HeldInner (node_without_child node byte))) where
    before : (node : Inner (OpaqueNodePtr K V P)) × (held old pointer ≡ HeldInner node)
    before = inner-there old pointer was inner

    -- it is held as before
    pub shrunk-held : held mid pointer ≢ Nothing
    shrunk-held = some-inner (held mid pointer) _ (lost before.0 before.1).changed

    module _ (fewest : (node : Inner (OpaqueNodePtr K V P)) → held old pointer ≡ HeldInner node → length node.children ≡ least_children (node_kind pointer)) where
      -- of the fewest children of its kind one is gone
      pub few-left : ((node : Inner (OpaqueNodePtr K V P)) → held old pointer ≡ HeldInner node → child_at node.children byte ≢ None)
          → (there : Inner (OpaqueNodePtr K V P)) → held mid pointer ≡ HeldInner there → length there.children < least_children (node_kind pointer)
      few-left has there here =
          let is_less = one-inner (held mid pointer) there (node_without_child before.0 byte) here (lost before.0 before.1).changed in
          omega (arith, fewer before.0.children byte (has before.0 before.1), ap (λ n. length n.children) is_less, fewest before.0 before.1)

      -- the fewest of the smallest kind are two
      pub not-smallest : ((node : Inner (OpaqueNodePtr K V P)) → held old pointer ≡ HeldInner node → (2 < length node.children) × (least_children (node_kind pointer) ≤ length node.children)) → node_kind pointer ≢ Node4
      not-smallest many kind = omega (arith, (many before.0 before.1).0, fewest before.0 before.1, ap least_children kind)

      -- the spare capacity is unchanged
      pub room-left : HasRoomToShrink old pointer → SameRoom old mid
          → ((node : Inner (OpaqueNodePtr K V P)) → held old pointer ≡ HeldInner node → (2 < length node.children) × (least_children (node_kind pointer) ≤ length node.children)) → 0 < room mid (shrunk_kind (node_kind pointer))
      room-left rooms same_room many =
          let has = rooms before.0 before.1 (many before.0 before.1).0 (fewest before.0 before.1) in
          omega (arith, has, same-room old mid same_room (shrunk_kind (node_kind pointer)))

      -- and what it shrinks to stands for it
      pub shrunk-left : {new : NodeArena K V P} {to : OpaqueNodePtr K V P} (node : Inner (OpaqueNodePtr K V P)) → held old pointer ≡ HeldInner node
          → ((there : Inner (OpaqueNodePtr K V P)) → held mid pointer ≡ HeldInner there → IsReplaced mid new pointer (shrunk_kind (node_kind pointer)) there to) → HasOneLess old new pointer node (node_without_child node byte) to
      shrunk-left {to = to} node is replaces =
          let here = (lost node is).changed in
          let moved = replaces (node_without_child node byte) here in
          let apart : to ≢ pointer = λ one. some-inner (held mid to) (node_without_child node byte) (ap (held mid) one ∙ here) moved.was_free in
          inr (record {
            least = fewest node is;
            replaced = record {
              kind = moved.kind;
              was_free = sym ((lost node is).others to apart) ∙ moved.was_free;
              is_held = moved.is_held;
              is_free = moved.is_free;
              others = λ other not_new not_old. moved.others other not_new not_old ∙ (lost node is).others other not_old;
            };
          })
