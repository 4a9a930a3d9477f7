-- The steps of a link call. No public clause cites it.
use Rattle.std.specs.Prelude.{◌≡◌, ◌≢◌, ℕ, Option, Some}
use Rattle.art_arena.specs.Arena.{NodeArena}
use Rattle.art_arena.specs.Links.{leaf_at, previous_at, next_at, SameButLinks}

module _ {K V : Type 0} {P : ℕ} where
  -- the next neighbour of this leaf, which may be none, is this one now, and no other link changed
  pub record SetsNext (old new : NodeArena K V P) (leaf next : Option ℕ) : Type 0 where
    pub set : (key : ℕ) → leaf ≡ Some key → next_at new key ≡ next
    pub other_next : (key : ℕ) → leaf ≢ Some key → next_at new key ≡ next_at old key
    pub previous : (key : ℕ) → previous_at new key ≡ previous_at old key
    pub other_leaves : (key : ℕ) → leaf ≢ Some key → leaf_at new key ≡ leaf_at old key
    pub contents : SameButLinks old new

  -- the previous neighbour of this leaf, which may be none, is this one now, and no other link
  -- changed
  pub record SetsPrevious (old new : NodeArena K V P) (leaf previous : Option ℕ) : Type 0 where
    pub set : (key : ℕ) → leaf ≡ Some key → previous_at new key ≡ previous
    pub other_previous : (key : ℕ) → leaf ≢ Some key → previous_at new key ≡ previous_at old key
    pub next : (key : ℕ) → next_at new key ≡ next_at old key
    pub other_leaves : (key : ℕ) → leaf ≢ Some key → leaf_at new key ≡ leaf_at old key
    pub contents : SameButLinks old new

  -- the neighbours of this leaf are these now, each of which may be none, and no other link changed
  pub record SetsBoth (old new : NodeArena K V P) (leaf : ℕ) (previous next : Option ℕ) : Type 0 where
    pub set_previous : previous_at new leaf ≡ previous
    pub set_next : next_at new leaf ≡ next
    pub other_leaves : (key : ℕ) → key ≢ leaf → leaf_at new key ≡ leaf_at old key
    pub contents : SameButLinks old new
