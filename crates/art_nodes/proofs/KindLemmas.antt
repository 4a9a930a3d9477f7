-- Node kinds: the smallest kind for a number of children, and its changes.
use Rattle.std.specs.Option.{is_some}
use Rattle.std.proofs.Common.{true, false, ◌≡◌, ◌≢◌, ℕ, ◌+◌, ◌<◌, ◌≤◌, length, Some, None, IsSome, IsNone, refl, ap, sym, subst, inl, inr, if◌then◌else◌, arith}
use Rattle.std.proofs.lemmas.List.{length-map}
use Rattle.std.proofs.lemmas.Bool.{cases_lt}
use Rattle.std.proofs.lemmas.Bool.Decides.{nat_tests}
use Rattle.art_header.specs.NodeType.{least_children, most_children, grown_kind, shrunk_kind, kind_for}
use Rattle.art_header.specs.declared.node_type.NodeType.{NodeType}
use Rattle.art_header.specs.declared.node_type.NodeType.TheVariants.{Node4, Node16, Node48, Node256, Leaf}
use Rattle.art_nodes.specs.ChildMap.{ChildMap, IsAscending, key_bytes, child_at, with_child, without_child}
use Rattle.art_nodes.proofs.ChildMapLemmas.{above-with_child, length-with_child, length-without_child}
use Rattle.art_nodes.proofs.ChildMapLemmas.{ascending-length}

-- an inner node of this kind may have so many children
pub record IsOfKind (kind : NodeType) (count : ℕ) : Type 0 where
  pub inner : kind ≢ Leaf
  pub few : count ≤ most_children kind
  pub many : kind ≢ Node4 → least_children kind ≤ count

-- no other kind may
pub kind_for-IsOfKind : (kind : NodeType) (count : ℕ) → IsOfKind kind count → kind ≡ kind_for count
kind_for-IsOfKind Node4 count of = let few : count ≤ 4 = of.few in grind (arith, nat_tests)
kind_for-IsOfKind Node16 count of = let few : count ≤ 16 = of.few in let many : 5 ≤ count = of.many (λ e. cc) in grind (arith, nat_tests)
kind_for-IsOfKind Node48 count of = let few : count ≤ 48 = of.few in let many : 17 ≤ count = of.many (λ e. cc) in grind (arith, nat_tests)
kind_for-IsOfKind Node256 count of = let many : 49 ≤ count = of.many (λ e. cc) in grind (arith, nat_tests)
kind_for-IsOfKind Leaf count of = absurd (of.inner refl)

-- the smallest kind for so many children may have them
pub IsOfKind-kind_for : (count : ℕ) → count ≤ 256 → IsOfKind (kind_for count) count
IsOfKind-kind_for count le = elim (cases_lt 4 count) [
  | inr upto4 ↦ is Node4 (kind_for-IsOfKind Node4 count (record { inner = λ e. cc; few = upto4; many = λ differs. absurd (differs refl) })) (record { inner = λ e. cc; few = upto4; many = λ differs. absurd (differs refl) })
  | inl above4 ↦ elim (cases_lt 16 count) [
    | inr upto16 ↦ let of : IsOfKind Node16 count = record { inner = λ e. cc; few = upto16; many = λ differs. omega arith } in is Node16 (kind_for-IsOfKind Node16 count of) of
    | inl above16 ↦ elim (cases_lt 48 count) [
      | inr upto48 ↦ let of : IsOfKind Node48 count = record { inner = λ e. cc; few = upto48; many = λ differs. omega arith } in is Node48 (kind_for-IsOfKind Node48 count of) of
      | inl above48 ↦ let of : IsOfKind Node256 count = record { inner = λ e. cc; few = le; many = λ differs. omega arith } in is Node256 (kind_for-IsOfKind Node256 count of) of
    ]
  ]
]
  where
    is : (kind : NodeType) → kind ≡ kind_for count → IsOfKind kind count → IsOfKind (kind_for count) count
    is kind same of = subst (λ k. IsOfKind k count) same of

-- no kind holds more than 256
pub most_children-le : (kind : NodeType) → most_children kind ≤ 256
most_children-le Node4 = omega arith
most_children-le Node16 = omega arith
most_children-le Node48 = omega arith
most_children-le Node256 = omega arith
most_children-le Leaf = omega arith

-- the smallest kind for its children may have them
pub IsOfKind-smallest : (kind : NodeType) (count : ℕ) → kind ≡ kind_for count → count ≤ most_children kind → IsOfKind kind count
IsOfKind-smallest kind count is few = subst (λ k. IsOfKind k count) (sym is) (IsOfKind-kind_for count (omega (arith, few, most_children-le kind)))

module _ {H : Type 0} (kind : NodeType) (children : ChildMap H) (byte : ℕ) (child : H) (ascending : IsAscending (key_bytes children)) (of : IsOfKind kind (length children)) where
  -- a write over a child keeps the kind
  pub kept-overwrite : IsSome (child_at children byte) → kind ≡ kind_for (length (with_child children byte child))
  kept-overwrite there = kind_for-IsOfKind kind _ (subst (IsOfKind kind) (sym (rw there at (length-with_child {H = H} 0 byte children child ascending))) of)

  -- and so does one where the node is not full
  pub kept-room : length children < most_children kind → kind ≡ kind_for (length (with_child children byte child))
  kept-room below = elim (child_at children byte) as (λ o. child_at children byte ≡ o → kind ≡ kind_for (length (with_child children byte child))) [
    | Some old ↦ λ is. kept-overwrite (rw is refl)
    | None ↦ λ is.
        let one_more = rw is at (length-with_child {H = H} 0 byte children child ascending) in
        kind_for-IsOfKind kind (length (with_child children byte child)) (record { inner = of.inner; few = omega (arith, one_more); many = λ differs. omega (arith, one_more, of.many differs) })
  ] refl

  -- a write of a new byte into a full node asks for the next greater kind
  pub grown : (next : NodeType) → next ≢ Leaf → length children ≡ most_children kind → least_children next ≡ most_children kind + 1 → most_children kind < most_children next → IsNone (child_at children byte) → next ≡ kind_for (length (with_child children byte child))
  grown next inner full least most absent =
      let one_more = rw absent at (length-with_child {H = H} 0 byte children child ascending) in
      kind_for-IsOfKind next (length (with_child children byte child)) (record { inner = inner; few = omega (arith, one_more); many = λ differs. omega (arith, one_more) })

-- a node that lacks a byte has fewer than 256 children
pub absent_below : {H : Type 0} (children : ChildMap H) (byte : ℕ) (child : H) → IsAscending (key_bytes children) → byte < 256 → IsNone (child_at children byte) → length children < 256
absent_below {H} children byte child ascending fits absent =
    let one_more = rw absent at (length-with_child {H = H} 0 byte children child ascending) in
    let bytes = ascending-length 0 (key_bytes (with_child children byte child)) (omega arith) (above-with_child {H = H} 0 byte children child (omega arith) fits ascending) in
    omega (arith, one_more, bytes, length-map (with_child children byte child) (λ p. p.0))

-- a full node of fewer than 256 children is not of the greatest kind
pub smaller_kind : (kind : NodeType) (count : ℕ) → count ≡ most_children kind → count < 256 → kind ≢ Node256
smaller_kind kind count full below e = let most = ap most_children e in omega (arith, full, below, most)

-- children that fit and do not fill the node leave spare capacity
pub room_left : (count most : ℕ) → count ≤ most → count ≢ most → count < most
room_left count most fits not_full = omega arith

-- the next greater kind
pub record Grows (kind : NodeType) : Type 0 where
  pub inner : grown_kind kind ≢ Leaf
  pub least : least_children (grown_kind kind) ≡ most_children kind + 1
  pub most : most_children kind < most_children (grown_kind kind)

pub Grows-kind : (kind : NodeType) → kind ≢ Leaf → kind ≢ Node256 → Grows kind
Grows-kind Node4 inner smaller = record { inner = λ e. cc; least = refl; most = omega arith }
Grows-kind Node16 inner smaller = record { inner = λ e. cc; least = refl; most = omega arith }
Grows-kind Node48 inner smaller = record { inner = λ e. cc; least = refl; most = omega arith }
Grows-kind Node256 inner smaller = absurd (smaller refl)
Grows-kind Leaf inner smaller = absurd (inner refl)

-- the next smaller kind
pub record Shrinks (kind : NodeType) : Type 0 where
  pub inner : shrunk_kind kind ≢ Leaf
  pub least : least_children kind ≡ most_children (shrunk_kind kind) + 1
  pub many : least_children (shrunk_kind kind) ≤ most_children (shrunk_kind kind)

pub Shrinks-kind : (kind : NodeType) → kind ≢ Leaf → kind ≢ Node4 → Shrinks kind
Shrinks-kind Node4 inner greater = absurd (greater refl)
Shrinks-kind Node16 inner greater = record { inner = λ e. cc; least = refl; many = omega arith }
Shrinks-kind Node48 inner greater = record { inner = λ e. cc; least = refl; many = omega arith }
Shrinks-kind Node256 inner greater = record { inner = λ e. cc; least = refl; many = omega arith }
Shrinks-kind Leaf inner greater = absurd (inner refl)

-- one that leaves it below its range asks for the next smaller kind
pub shrunk-remove : (kind : NodeType) (count left : ℕ) → IsOfKind kind count → count ≤ left + 1 → kind ≢ Node4 → left < least_children kind → shrunk_kind kind ≡ kind_for left
shrunk-remove kind count left of le greater below =
    let shrinks = Shrinks-kind kind of.inner greater in
    kind_for-IsOfKind (shrunk_kind kind) left (record { inner = shrinks.inner; few = omega (arith, shrinks.least); many = λ differs. omega (arith, shrinks.least, shrinks.many, of.many greater) })

-- one that leaves it in its range keeps the kind
pub kept-remove : (kind : NodeType) (count left : ℕ) → IsOfKind kind count → left ≤ count → (((kind ≢ Node4) × left < least_children kind) → ⊥) → kind ≡ kind_for left
kept-remove kind count left of le in_range = kind_for-IsOfKind kind left (record {
  inner = of.inner;
  few = omega (arith, of.few);
  many = λ differs. elim (cases_lt left (least_children kind)) [ inl below ↦ absurd (in_range (differs, below)) | inr above ↦ above ];
})

-- what is below the range of its kind fits the next smaller one
pub fits-shrunk : (kind : NodeType) (count : ℕ) → kind ≢ Node4 → count < least_children kind → count ≤ most_children (shrunk_kind kind)
fits-shrunk Node4 count greater below = absurd (greater refl)
fits-shrunk Node16 count greater below = omega arith
fits-shrunk Node48 count greater below = omega arith
fits-shrunk Node256 count greater below = omega arith
fits-shrunk Leaf count greater below = omega arith

-- a removal takes one child at most
pub removed_counts : {H : Type 0} (children : ChildMap H) (byte : ℕ) → IsAscending (key_bytes children) → record { few : length (without_child children byte) ≤ length children; many : length children ≤ length (without_child children byte) + 1 }
removed_counts {H} children byte ascending =
    let counts = length-without_child {H = H} 0 byte children ascending in
    elim (is_some (child_at children byte)) as (λ b. length (without_child children byte) + (if b then 1 else 0) ≡ length children → record { few : length (without_child children byte) ≤ length children; many : length children ≤ length (without_child children byte) + 1 }) [
      | true ↦ λ same. record { few = omega (arith, same); many = omega (arith, same) }
      | false ↦ λ same. record { few = omega (arith, same); many = omega (arith, same) }
    ] counts
