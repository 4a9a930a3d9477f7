-- Loading: the plan of a tree, as steps for each node after those of its children. No public clause
-- cites it.
use Rattle.std.specs.Prelude.{◌≡◌, ℕ, ◌+◌, ◌-◌, ◌<◌, ◌^◌, ◌==◌, List, [], ◌∷◌, ◌++◌, length, take, slice_index, ◌&&◌, nat_le, if◌then◌else◌}
use Rattle.art_header.specs.NodeType.{least_children, most_children}
use Rattle.art_header.specs.declared.node_type.NodeType.{NodeType}
use Rattle.art_arena.specs.Trees.{Tree, Leaf, Inner, Branches, NoBranch, Branch, branch_roots, IsWellFormed}
use Rattle.art_steps.specs.Refusals.{text_of_entry}
use Rattle.art_steps.specs.declared.steps.Step.{Step}
use Rattle.art_steps.specs.declared.steps.Step.TheVariants as steps

-- two texts share so many bytes, and then the first one's byte is less
pub record IsFork (a b : List ℕ) (at : ℕ) : Type 0 where
  pub in_first : at < length a
  pub in_second : at < length b
  pub shared : take at a ≡ take at b
  pub less : slice_index a at < slice_index b at

-- they do at some place
abbrev pub Forks : List ℕ → List ℕ → Type 0
Forks a b = (at : ℕ) × IsFork a b at

-- no text is too long, and each forks from the next
pub record AreLoadable (texts : List (List ℕ)) : Type 0 where
  pub short : (i : ℕ) → i < length texts → length (text_of_entry texts i) < 2 ^ 32
  pub fork : (i : ℕ) → i + 1 < length texts → Forks (text_of_entry texts i) (text_of_entry texts (i + 1))

-- the byte that leads to what begins at a place of a text, 0 for the root
abbrev pub byte_before : List ℕ → ℕ → ℕ
byte_before text place = if place == 0 then 0 else slice_index text (place - 1)

module _ {H : Type 0} where
  abbrev mutual
    -- the steps that make a tree which begins after so many bytes, under a byte
    pub steps_of : ℕ → ℕ → Tree H → List Step
    steps_of byte start (Leaf pointer text) = steps.Leaf byte ∷ []
    steps_of byte start (Inner pointer prefix branches) =
        branch_steps (start + length prefix + 1) branches ++ steps.Inner byte start (start + length prefix) (length (branch_roots branches)) ∷ []

    pub branch_steps : ℕ → Branches H → List Step
    branch_steps start NoBranch = []
    branch_steps start (Branch byte tree others) = steps_of byte start tree ++ branch_steps start others

  abbrev mutual
    -- the leaves of the tree have the texts from this index up to that one
    pub Spans : List (List ℕ) → ℕ → Tree H → ℕ → Type 0
    Spans texts low (Leaf pointer text) high = (low < length texts) × (high ≡ low + 1) × (text ≡ text_of_entry texts low)
    Spans texts low (Inner pointer prefix branches) high = BranchesSpan texts low branches high

    pub BranchesSpan : List (List ℕ) → ℕ → Branches H → ℕ → Type 0
    BranchesSpan texts low NoBranch high = high ≡ low
    BranchesSpan texts low (Branch byte tree others) high = (middle : ℕ) × Spans texts low tree middle × BranchesSpan texts middle others high

-- the steps make a well-formed tree of these texts
pub record IsPlanOf (texts : List (List ℕ)) (steps : List Step) : Type 0 where
  pub shape : Tree (Unit {0})
  pub sound : IsWellFormed shape
  pub spans : Spans texts 0 shape (length texts)
  pub in_order : steps ≡ steps_of 0 0 shape

-- how many nodes of a kind the steps make
abbrev pub needed : NodeType → List Step → ℕ
needed kind [] = 0
needed kind (steps.Leaf byte ∷ others) = needed kind others
needed kind (steps.Inner byte start end children ∷ others) =
    (if nat_le (least_children kind) children && nat_le children (most_children kind) then 1 else 0) + needed kind others
