-- Nodes that are placed into an arena.
use Rattle.art_links.proofs.Names.{◌≡◌, ◌≢◌, ◌∙◌, ℕ, ◌+◌, ◌≤◌, refl, sym, ap, subst, NodeType, node_kind, opaque_key, opaque_pointer, OpaqueNodePtr, NodeArena, HeldInner, Nothing, held, room, SameCapacity, SameOtherRoom, Changes, IsPlaced, IsReplaced, InnerNode}

module _ {K V : Type 0} {P : ℕ} where
  -- the result of an allocation
  pub placed : (old new : NodeArena K V P) (kind : NodeType) (key : ℕ) (node : InnerNode (OpaqueNodePtr K V P)) (at : OpaqueNodePtr K V P) → node_kind at ≡ kind → opaque_key at ≡ key → held old (opaque_pointer kind key) ≡ Nothing
      → Changes old new (opaque_pointer kind key) (HeldInner node) → room old kind ≤ room new kind + 1 → SameOtherRoom old new kind → SameCapacity old new → IsPlaced old new kind node at
  placed old new kind key node at is_kind is_key free changes rooms others same_capacity =
      let same : opaque_pointer kind key ≡ at = λ i. record { node_type = (sym is_kind) i; key = (sym is_key) i; leaf = record {} } in
      record { is_kind = is_kind; was_free = subst (λ p. held old p ≡ Nothing) same free; changes = subst (λ p. Changes old new p (HeldInner node)) same changes; room = rooms; other_room = others; capacity = same_capacity }

  -- a node is replaced by one of another kind
  pub replaced : (old now new : NodeArena K V P) (after : InnerNode (OpaqueNodePtr K V P)) {at made pointer : OpaqueNodePtr K V P} → at ≡ made → held old made ≡ Nothing → held old pointer ≢ Nothing
      → Changes old now made (HeldInner after) → Changes now new pointer Nothing → IsReplaced old new pointer (node_kind made) after at
  replaced old now new after {made = made} {pointer = pointer} same free was made_there given_up =
      subst (λ p. IsReplaced old new pointer (node_kind made) after p) (sym same) (record {
        kind = refl;
        was_free = free;
        is_held = given_up.others made (λ e. was (ap (held old) (sym e) ∙ free)) ∙ made_there.changed;
        is_free = given_up.changed;
        others = λ other not_new not_old. given_up.others other not_old ∙ made_there.others other not_new;
      })

module _ {K V : Type 0} {P : ℕ} {old new : NodeArena K V P} {node : InnerNode (OpaqueNodePtr K V P)} {at : OpaqueNodePtr K V P} where
  pub placed-kind : (kind other : NodeType) → other ≡ kind → IsPlaced old new kind node at → IsPlaced old new other node at
  placed-kind kind other same p = subst (λ k. IsPlaced old new k node at) (sym same) p
