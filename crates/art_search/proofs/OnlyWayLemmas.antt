-- Search: there is one way to each leaf of a sound tree that stands.
use Rattle.art_search.proofs.Names.{Contains, ◌≡◌, ◌∙◌, inl, inr, ℕ, List, [], ◌∷◌, sym, ap, arith, Contains-append_left, Contains-append_right, AreDistinct, Tree, Leaf, Inner, Branches, NoBranch, Branch, places, branch_places, IsWay, IsWayUnder}
use Rattle.art_search.proofs.DistinctLists.{AreDistinct-split}

module _ {H : Type 0} where
  mutual
    -- a leaf to which a way leads is at a place of the tree
    way-place : (tree : Tree H) (steps : List (H × ℕ)) (pointer : H) → IsWay tree steps pointer → Contains (places tree) pointer
    way-place (Leaf at text) steps pointer (none, same) = (0, omega arith, sym same)
    way-place (Inner at prefix branches) steps pointer (byte, rest, is, under) = Contains-append_right (at ∷ []) (branch_places branches) pointer (under-place branches byte rest pointer under)

    under-place : (branches : Branches H) (byte : ℕ) (steps : List (H × ℕ)) (pointer : H) → IsWayUnder branches byte steps pointer → Contains (branch_places branches) pointer
    under-place NoBranch byte steps pointer under = absurd under
    under-place (Branch b tree others) byte steps pointer under = elim under [
      | inl (same, way) ↦ Contains-append_left (places tree) (branch_places others) pointer (way-place tree steps pointer way)
      | inr later ↦ Contains-append_right (places tree) (branch_places others) pointer (under-place others byte steps pointer later)
    ]

  mutual
    pub one-way : (tree : Tree H) → AreDistinct (places tree) → (steps more : List (H × ℕ)) (pointer : H) → IsWay tree steps pointer → IsWay tree more pointer → more ≡ steps
    one-way (Leaf at text) distinct steps more pointer (none, same) (none_too, same_too) = none_too ∙ sym none
    one-way (Inner at prefix branches) distinct steps more pointer (byte, rest, is, under) (byte_too, rest_too, is_too, under_too) =
        let one = one-under branches distinct.1 byte byte_too rest rest_too pointer under under_too in
        is_too ∙ ap (λ b. (at, b) ∷ rest_too) one.0 ∙ ap (λ r. (at, byte) ∷ r) one.1 ∙ sym is

    one-under : (branches : Branches H) → AreDistinct (branch_places branches) → (byte byte_too : ℕ) (steps more : List (H × ℕ)) (pointer : H) → IsWayUnder branches byte steps pointer → IsWayUnder branches byte_too more pointer → (byte_too ≡ byte) × (more ≡ steps)
    one-under NoBranch distinct byte byte_too steps more pointer under under_too = absurd under
    one-under (Branch b tree others) distinct byte byte_too steps more pointer under under_too =
        let parts = AreDistinct-split (places tree) (branch_places others) distinct in
        elim under [
          | inl (same, way) ↦ elim under_too [
            | inl (same_too, way_too) ↦ (sym same_too ∙ same, one-way tree parts.0 steps more pointer way way_too)
            | inr later ↦ absurd (parts.2 pointer (way-place tree steps pointer way) (under-place others byte_too more pointer later))
          ]
          | inr later ↦ elim under_too [
            | inl (same_too, way_too) ↦ absurd (parts.2 pointer (way-place tree more pointer way_too) (under-place others byte steps pointer later))
            | inr later_too ↦ one-under others parts.1 byte byte_too steps more pointer later later_too
          ]
        ]
