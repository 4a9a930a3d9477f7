-- The branches of a node on both sides of a byte.
use Rattle.std.proofs.Common.{◌≡◌, ◌∙◌, ℕ, suc, ◌<◌, ◌≤◌, true, false, nat_lt, filter, List, [], ◌∷◌, ◌++◌, map, All, Some, None, refl, sym, ap, subst, inl, inr, arith, append_assoc}
use Rattle.std.proofs.lemmas.Bool.{cases_lt, lt-ltb, le-ltb}
use Rattle.std.proofs.lemmas.Bool.Decides.{eqb_tells}
use Rattle.std.proofs.lemmas.List.{get_or-map, length-map}
use Rattle.std.proofs.lemmas.List.Elements.{All-nil, All-append, All-weaker}
use Rattle.std.proofs.lemmas.Option.{same_Some}
use Rattle.std.specs.Ordering.{is_le}
use Rattle.art_bytes.specs.Text.{IsPrefixOf, text_order}
use Rattle.art_nodes.specs.ChildMap.{ChildMap, IsAscendingFrom, child_at, key_bytes}
use Rattle.art_nodes.specs.declared.pointers.OpaqueNodePtr.{OpaqueNodePtr}
use Rattle.art_arena.proofs.TreeLaws.{texts-begin}
use Rattle.art_arena.specs.Arena.{NodeArena}
use Rattle.art_arena.specs.Standing.{AllStandIn, StandsIn}
use Rattle.art_arena.specs.Trees.{Tree, Branches, NoBranch, Branch, branch_leaves, branch_roots, leaves, root_of, AreSound, IsSound}
use Rattle.art_index.specs.Descent.{AreLow}
use Rattle.art_index.proofs.OrderLemmas.{greater-byte, lesser-byte}

-- what holds of all images holds of what they are images of
pub all-unmapped : {X Y : Type 0} (Q : Y → Type 0) (f : X → Y) (xs : List X) → All Q (map f xs) → All (λ x. Q (f x)) xs
all-unmapped Q f xs all k d inside = subst Q (get_or-map f xs k d (f d) inside) (all k (f d) (omega (arith, inside, length-map xs f)))

-- the texts of a sound tree begin with its path
pub leaves-begin : {H : Type 0} (path : List ℕ) (tree : Tree H) → IsSound path tree → All (λ leaf. IsPrefixOf path leaf.1) (leaves tree)
leaves-begin path tree sound = all-unmapped (IsPrefixOf path) (λ leaf. leaf.1) (leaves tree) (texts-begin path tree sound)

module _ {H : Type 0} (x path : List ℕ) (byte : ℕ) (leads : IsPrefixOf (path ++ byte ∷ []) x) where
  -- the leaves under a lesser byte are not above the text, those under a greater byte are
  low-tree : (b : ℕ) (tree : Tree H) → b < byte → IsSound (path ++ b ∷ []) tree → AreLow x true (leaves tree)
  low-tree b tree less sound =
      All-weaker (λ leaf. IsPrefixOf (path ++ b ∷ []) leaf.1) (λ leaf. is_le (text_order leaf.1 x) ≡ true)
      (λ leaf on. ap is_le (lesser-byte path b byte leaf.1 x on leads less)) (leaves tree) (leaves-begin (path ++ b ∷ []) tree sound)

  high-tree : (b : ℕ) (tree : Tree H) → byte < b → IsSound (path ++ b ∷ []) tree → AreLow x false (leaves tree)
  high-tree b tree more sound =
      All-weaker (λ leaf. IsPrefixOf (path ++ b ∷ []) leaf.1) (λ leaf. is_le (text_order leaf.1 x) ≡ false)
      (λ leaf on. ap is_le (greater-byte path b byte leaf.1 x on leads more)) (leaves tree) (leaves-begin (path ++ b ∷ []) tree sound)

  high-branches : (low : ℕ) (branches : Branches H) → AreSound path branches → byte < low → IsAscendingFrom low (key_bytes (branch_roots branches)) → AreLow x false (branch_leaves branches)
  high-branches low NoBranch sound less ascend = All-nil (λ leaf. is_le (text_order leaf.1 x) ≡ false)
  high-branches low (Branch b tree others) sound less ascend =
      All-append (λ leaf. is_le (text_order leaf.1 x) ≡ false) (leaves tree) (branch_leaves others)
      (high-tree b tree (omega (arith, less, ascend.0)) sound.0)
      (high-branches (suc b) others sound.1 (omega (arith, less, ascend.0)) ascend.2)

  -- where no branch has a lesser byte or the byte itself, all have greater ones
  pub none-below : (low : ℕ) (branches : Branches H) → AreSound path branches → IsAscendingFrom low (key_bytes (branch_roots branches)) → child_at (branch_roots branches) byte ≡ None → filter (λ p. nat_lt p.0 byte) (branch_roots branches) ≡ [] → AreLow x false (branch_leaves branches)
  none-below low NoBranch sound ascend absent none = All-nil (λ leaf. is_le (text_order leaf.1 x) ≡ false)
  none-below low (Branch b tree others) sound ascend absent none = elim (cases_lt b byte) [
    | inl less ↦ (let some = rw (lt-ltb b byte less) at none in absurd (cc))
    | inr from ↦ elim (eqb_tells b byte) [
      | inl same ↦ (let there = rw same.0 at absent in absurd (cc))
      | inr differ ↦
          let more : byte < b = (let apart = differ.1 in omega (arith, from, λ (same : b ≡ byte). apart same)) in
          All-append (λ leaf. is_le (text_order leaf.1 x) ≡ false) (leaves tree) (branch_leaves others)
          (high-tree b tree more sound.0)
          (high-branches (suc b) others sound.1 (omega (arith, more)) ascend.2)
    ]
  ]

-- a child under a byte is not below the first byte
at-least : {H : Type 0} (low : ℕ) (branches : Branches H) (byte : ℕ) (child : H) → IsAscendingFrom low (key_bytes (branch_roots branches)) → child_at (branch_roots branches) byte ≡ Some child → low ≤ byte
at-least low NoBranch byte child ascend is = absurd (cc)
at-least low (Branch b tree others) byte child ascend is = elim (eqb_tells b byte) [
  | inl same ↦ omega (arith, ascend.0, same.1)
  | inr differ ↦ (let later = rw differ.0 at is in omega (arith, ascend.0, at-least (suc b) others byte child ascend.2 later))
]

module _ {K V : Type 0} {P : ℕ} (text : K → List ℕ) (arena : NodeArena K V P) (x path : List ℕ) where
  -- one of the branches, between leaves that are not above the text and leaves that are
  pub record IsBranch (branches : Branches (OpaqueNodePtr K V P)) (child : OpaqueNodePtr K V P) : Type 0 where
    pub byte : ℕ
    pub tree : Tree (OpaqueNodePtr K V P)
    pub at_root : root_of tree ≡ child
    pub stands : StandsIn text arena tree
    pub sound : IsSound (path ++ byte ∷ []) tree
    pub left : List (OpaqueNodePtr K V P × List ℕ)
    pub right : List (OpaqueNodePtr K V P × List ℕ)
    pub is : branch_leaves branches ≡ left ++ (leaves tree ++ right)
    pub before : AreLow x true left
    pub after : AreLow x false right

  -- the same with another branch before it
  abbrev wider : (b : ℕ) (tree : Tree (OpaqueNodePtr K V P)) (others : Branches (OpaqueNodePtr K V P)) (child : OpaqueNodePtr K V P) → AreLow x true (leaves tree) → IsBranch others child → IsBranch (Branch b tree others) child
  wider b tree others child low at =
      record {
        byte = at.byte;
        tree = at.tree;
        at_root = at.at_root;
        stands = at.stands;
        sound = at.sound;
        left = leaves tree ++ at.left;
        right = at.right;
        is = ap (λ z. leaves tree ++ z) at.is ∙ sym (append_assoc (leaves tree) at.left (leaves at.tree ++ at.right));
        before = All-append (λ leaf. is_le (text_order leaf.1 x) ≡ true) (leaves tree) at.left low at.before;
        after = at.after;
      }

  module _ (byte : ℕ) (leads : IsPrefixOf (path ++ byte ∷ []) x) where
    -- the branch under the text's own byte
    pub own-branch : (low : ℕ) (branches : Branches (OpaqueNodePtr K V P)) (child : OpaqueNodePtr K V P) → AllStandIn text arena branches → AreSound path branches → IsAscendingFrom low (key_bytes (branch_roots branches)) → child_at (branch_roots branches) byte ≡ Some child → (at : IsBranch branches child) × (at.byte ≡ byte)
    own-branch low NoBranch child stand sound ascend is = absurd (cc)
    own-branch low (Branch b tree others) child (stands, stand) sound ascend is = elim (eqb_tells b byte) [
      | inl same ↦
          let here : Some (root_of tree) ≡ Some child = rw same.0 at is in (
            record {
              byte = b;
              tree = tree;
              at_root = same_Some (root_of tree) child here;
              stands = stands;
              sound = sound.0;
              left = [];
              right = branch_leaves others;
              is = refl;
              before = All-nil (λ leaf. is_le (text_order leaf.1 x) ≡ true);
              after = high-branches x path byte leads (suc b) others sound.1 (omega (arith, same.1)) ascend.2;
            },
            same.1,
          )
      | inr differ ↦
          let later : child_at (branch_roots others) byte ≡ Some child = rw differ.0 at is in
          let found = own-branch (suc b) others child stand sound.1 ascend.2 later in
          let less : b < byte = omega (arith, at-least (suc b) others byte child ascend.2 later) in
          (wider b tree others child (low-tree x path byte leads b tree less sound.0) found.0, found.1)
    ]

    -- where the byte has none, the last of those under lesser bytes
    pub last-below : (low : ℕ) (branches : Branches (OpaqueNodePtr K V P)) (c : ℕ) (child : OpaqueNodePtr K V P) (front : ChildMap (OpaqueNodePtr K V P)) → AllStandIn text arena branches → AreSound path branches → IsAscendingFrom low (key_bytes (branch_roots branches)) → child_at (branch_roots branches) byte ≡ None
        → filter (λ p. nat_lt p.0 byte) (branch_roots branches) ≡ front ++ (c, child) ∷ [] → (at : IsBranch branches child) × AreLow x true (leaves at.tree)
    last-below low NoBranch c child [] stand sound ascend absent is = absurd (cc)
    last-below low NoBranch c child (p ∷ front) stand sound ascend absent is = absurd (cc)
    last-below low (Branch b tree others) c child front (stands, stand) sound ascend absent is = elim (cases_lt b byte) [
      | inl less ↦
          let kept : (b, root_of tree) ∷ filter (λ p. nat_lt p.0 byte) (branch_roots others) ≡ front ++ (c, child) ∷ [] = rw (lt-ltb b byte less) at is in
          let absent_later : child_at (branch_roots others) byte ≡ None = elim (eqb_tells b byte) [ inl same ↦ absurd (omega (arith, same.1, less)) | inr differ ↦ rw differ.0 at absent ] in
          by_front front kept absent_later less (λ front rest absent. last-below (suc b) others c child front stand sound.1 ascend.2 absent rest)
      | inr from ↦ absurd (none-kept (suc b) others front (omega (arith, from)) ascend.2 (rw (le-ltb b byte from) at is))
    ]
      where
        -- past the byte none is lesser
        none-kept : (from : ℕ) (branches : Branches (OpaqueNodePtr K V P)) (front : ChildMap (OpaqueNodePtr K V P)) → byte ≤ from → IsAscendingFrom from (key_bytes (branch_roots branches)) → filter (λ p. nat_lt p.0 byte) (branch_roots branches) ≡ front ++ (c, child) ∷ [] → ⊥
        none-kept from NoBranch [] past ascend is = cc
        none-kept from NoBranch (p ∷ front) past ascend is = cc
        none-kept from (Branch d t more) front past ascend is = none-kept (suc d) more front (omega (arith, past, ascend.0)) ascend.2 (rw (le-ltb d byte (omega (arith, past, ascend.0))) at is)

        by_front : (front : ChildMap (OpaqueNodePtr K V P)) → (b, root_of tree) ∷ filter (λ p. nat_lt p.0 byte) (branch_roots others) ≡ front ++ (c, child) ∷ [] → child_at (branch_roots others) byte ≡ None → b < byte
            → ((front : ChildMap (OpaqueNodePtr K V P)) → filter (λ p. nat_lt p.0 byte) (branch_roots others) ≡ front ++ (c, child) ∷ [] → child_at (branch_roots others) byte ≡ None → (at : IsBranch others child) × AreLow x true (leaves at.tree))
            → (at : IsBranch (Branch b tree others) child) × AreLow x true (leaves at.tree)
        by_front [] is absent_later less later =
            let pair : ◌≡◌ {A = ℕ × OpaqueNodePtr K V P} (b, root_of tree) (c, child) = cc in
            let root : root_of tree ≡ child = ap (λ p. p.1) pair in
            let none : filter (λ p. nat_lt p.0 byte) (branch_roots others) ≡ [] = cc in (
              record {
                byte = b;
                tree = tree;
                at_root = root;
                stands = stands;
                sound = sound.0;
                left = [];
                right = branch_leaves others;
                is = refl;
                before = All-nil (λ leaf. is_le (text_order leaf.1 x) ≡ true);
                after = none-below x path byte leads (suc b) others sound.1 ascend.2 absent_later none;
              },
              low-tree x path byte leads b tree less sound.0,
            )
        by_front (p ∷ front) is absent_later less later =
            let rest : filter (λ p. nat_lt p.0 byte) (branch_roots others) ≡ front ++ (c, child) ∷ [] = cc in
            let found = later front rest absent_later in
            (wider b tree others child (low-tree x path byte leads b tree less sound.0) found.0, found.1)
