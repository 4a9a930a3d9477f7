-- Insertion: inner nodes with one child more, or with another prefix.
use Rattle.art_steps.proofs.Names.{◌≡◌, ◌≢◌, ◌∙◌, ℕ, Bool, false, ◌<◌, ◌≤◌, List, [], ◌∷◌, length, Option, Some, None, IsNone, refl, sym, ap, subst, arith, false≢true, le-ltb, lt-ltb, option_map, option_map_or, Header, most_children, grown_kind, NodeType, child_at, IsAscending, key_bytes, header_of, node_with_child, leaf_key, node_kind, OpaqueNodePtr, LeafNode, length_absent, one-inner, NodeArena, Held, HeldInner, HeldLeaf, Nothing, held, held_header, room, HasRoomToGrow, IsMoved, WhetherFull, two_children, IsReplaced}
use Rattle.art_nodes.specs.Inner.{Inner}

-- kinds with space for more and more children are apart
pub kinds-apart : {a b : NodeType} → most_children a < most_children b → a ≢ b
kinds-apart less same = omega (arith, less, ap most_children same)

-- two children by ascending byte
module _ {H : Type 0} (byte : ℕ) (child : H) (other : ℕ) (node : H) where
  pub child-first : byte < other → (byte, child) ∷ (other, node) ∷ [] ≡ two_children byte child other node
  child-first less = rw (lt-ltb byte other less) refl

  pub child-last : other ≤ byte → (other, node) ∷ (byte, child) ∷ [] ≡ two_children byte child other node
  child-last most = rw (le-ltb byte other most) refl

-- a node with no child under a byte has less than 256
pub few-where-absent : {H : Type 0} (node : Inner H) (byte : ℕ) → byte < 256 → IsAscending (key_bytes node.children) → child_at node.children byte ≡ None → length node.children < 256
few-where-absent node byte below ascending absent = length_absent node.children byte below ascending (subst IsNone (sym absent) refl)

module _ {K V : Type 0} {P : ℕ} where
  -- a pointer holds one leaf
  pub one-leaf : (h : Held (OpaqueNodePtr K V P) (LeafNode K V P)) (a b : LeafNode K V P) → h ≡ HeldLeaf a → h ≡ HeldLeaf b → a ≡ b
  one-leaf h a b first second = cc

  -- and then something
  pub some-inner : (h : Held (OpaqueNodePtr K V P) (LeafNode K V P)) (a : Inner (OpaqueNodePtr K V P)) → h ≡ HeldInner a → h ≢ Nothing
  some-inner h a is none = absurd (cc)

  pub some-leaf : (h : Held (OpaqueNodePtr K V P) (LeafNode K V P)) (a : LeafNode K V P) → h ≡ HeldLeaf a → h ≢ Nothing
  some-leaf h a is none = absurd (cc)

  -- the header of an inner node that is held
  pub header-of-held : (h : Held (OpaqueNodePtr K V P) (LeafNode K V P)) (header : Header) (node : Inner (OpaqueNodePtr K V P)) → Some header ≡ held_header h → h ≡ HeldInner node → header ≡ header_of node
  header-of-held h header node told is = let one : Some header ≡ Some (header_of node) = told ∙ ap held_header is in cc

  -- what has a header is an inner node
  pub header-held : (h : Held (OpaqueNodePtr K V P) (LeafNode K V P)) (header : Header) → Some header ≡ held_header h → (node : Inner (OpaqueNodePtr K V P)) × (h ≡ HeldInner node) × (header ≡ header_of node)
  header-held Nothing header e = absurd (cc)
  header-held (HeldInner node) header e = (node, refl, cc)
  header-held (HeldLeaf leaf) header e = absurd (cc)

  -- a node that is not full has space for a child more
  pub not-full : (arena : NodeArena K V P) (pointer : OpaqueNodePtr K V P) {full : Bool} → WhetherFull arena pointer full → full ≡ false → (node : Inner (OpaqueNodePtr K V P)) → held arena pointer ≡ HeldInner node → length node.children < most_children (node_kind pointer)
  not-full arena pointer tells untrue node is =
      let (all, most) = tells node is in
      let differ : length node.children ≢ most_children (node_kind pointer) = λ same. false≢true (sym untrue ∙ all.1 same) in
      omega (arith, differ, most)

  -- a full node of a kind grows to one of the next, for which there is spare capacity
  pub room-of-kind : (arena : NodeArena K V P) (pointer : OpaqueNodePtr K V P) {kind : NodeType} (there : Inner (OpaqueNodePtr K V P)) → node_kind pointer ≡ kind → held arena pointer ≡ HeldInner there
      → length there.children ≡ most_children (node_kind pointer) → HasRoomToGrow arena pointer → 0 < room arena (grown_kind kind)
  room-of-kind arena pointer there is_kind here full rooms = subst (λ kind. 0 < room arena (grown_kind kind)) is_kind (rooms there here full)

  -- the node that grew is the one that was held, which it replaced
  pub moved-there : (arena new : NodeArena K V P) (pointer : OpaqueNodePtr K V P) {kind : NodeType} {there node grown : Inner (OpaqueNodePtr K V P)} {to : OpaqueNodePtr K V P} (byte : ℕ) (child : OpaqueNodePtr K V P) → node_kind pointer ≡ kind → held arena pointer ≡ HeldInner there → length there.children ≡ most_children (node_kind pointer)
      → grown ≡ node_with_child there byte child → held arena pointer ≡ HeldInner node → IsReplaced arena new pointer (grown_kind kind) grown to → IsMoved arena new pointer node (node_with_child node byte child) to
  moved-there arena new pointer {kind = kind} {there = there} {node = node} {grown = grown} {to = to} byte child is_kind here full grows is replaced =
      let now = subst (λ k. IsReplaced arena new pointer (grown_kind k) grown to) (sym is_kind) replaced in
      subst (λ n. IsMoved arena new pointer n (node_with_child n byte child) to) (one-inner (held arena pointer) there node here is) (record { full = full; replaced = subst (λ n. IsReplaced arena new pointer (grown_kind (node_kind pointer)) n to) grows now })
