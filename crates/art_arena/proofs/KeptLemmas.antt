-- Trees and lists that are unchanged where leaves or inner nodes change.
use Rattle.std.proofs.Common.{◌≡◌, ◌≢◌, ◌∙◌, ℕ, List, [], ◌∷◌, Option, Some, None, refl, sym, ap, inl, inr}
use Rattle.std.specs.List.{AllByRecursion}
use Rattle.std.proofs.lemmas.Bool.{cases_eq}
use Rattle.std.proofs.lemmas.Option.{same_Some}
use Rattle.art_header.specs.declared.node_type.NodeType.TheVariants as kinds
use Rattle.art_nodes.specs.Inner as nodes
use Rattle.art_nodes.specs.Leaf.{leaf_key, previous_key, next_key}
use Rattle.art_nodes.specs.Pointers.{node_kind, opaque_key, opaque_pointer}
use Rattle.art_nodes.specs.declared.pointers.OpaqueNodePtr.{OpaqueNodePtr}
use Rattle.art_nodes.specs.declared.leaf_node.LeafNode.{LeafNode}
use Rattle.art_arena.specs.Arena.{NodeArena, Held, HeldInner, HeldLeaf, held, held_leaf, Changes}
use Rattle.art_arena.specs.Links.{IsLinkedAfter, IsLinkedList, SameButLinks, leaf_at}
use Rattle.art_arena.specs.Standing.{StandsIn, AllStandIn}
use Rattle.art_arena.specs.Trees.{Tree, Leaf, Inner, Branches, NoBranch, Branch}
use Rattle.art_arena.proofs.StandingLaws.{leaf_place}
use Rattle.art_arena.proofs.LeafLemmas.{IsLinkedList-kept, held_leaf-same, leaf_at-changed, leaf_at-other}

module _ {K V : Type 0} {P : ℕ} where
  leaf_under : (arena : NodeArena K V P) (pointer : OpaqueNodePtr K V P) (leaf : LeafNode K V P) → held arena pointer ≡ HeldLeaf leaf → leaf_at arena (opaque_key pointer) ≡ Some leaf
  leaf_under arena pointer leaf is = held_leaf-same (leaf_at arena (opaque_key pointer)) (Some leaf) (ap (held arena) (leaf_place arena pointer leaf is) ∙ is)

module _ {K V : Type 0} {P : ℕ} (text : K → List ℕ) (old new : NodeArena K V P) where
  -- inner nodes are held as they were, and leaves with the texts that they had
  record KeepsTexts : Type 0 where
    pub inner : (pointer : OpaqueNodePtr K V P) (node : nodes.Inner (OpaqueNodePtr K V P)) → held old pointer ≡ HeldInner node → held new pointer ≡ HeldInner node
    pub leaf : (key : ℕ) (leaf : LeafNode K V P) → leaf_at old key ≡ Some leaf → (now : LeafNode K V P) × (leaf_at new key ≡ Some now) × (text (leaf_key now) ≡ text (leaf_key leaf))

  module _ (keeps : KeepsTexts) where
    mutual
      tree_stands_on : (tree : Tree (OpaqueNodePtr K V P)) → StandsIn text old tree → StandsIn text new tree
      tree_stands_on (Leaf pointer x) (leaf, holds, has) =
          let now = keeps.leaf (opaque_key pointer) leaf (leaf_under old pointer leaf holds) in
          (now.0, ap (held new) (sym (leaf_place old pointer leaf holds)) ∙ ap held_leaf now.1, now.2 ∙ has)
      tree_stands_on (Inner pointer prefix branches) (node, holds, shows, stand) = (node, keeps.inner pointer node holds, shows, branches_stand_on branches stand)

      branches_stand_on : (branches : Branches (OpaqueNodePtr K V P)) → AllStandIn text old branches → AllStandIn text new branches
      branches_stand_on NoBranch stand = tt
      branches_stand_on (Branch byte tree others) (stands, stand) = (tree_stands_on tree stands, branches_stand_on others stand)

  pub stands-relinked : (tree : Tree (OpaqueNodePtr K V P)) → SameButLinks old new → StandsIn text old tree → StandsIn text new tree
  stands-relinked tree same stands = tree_stands_on (record { inner = same.inner; leaf = λ key leaf found. let now = same.leaf key leaf found in (now.0, now.1, ap text now.2) }) tree stands

  module _ (key : ℕ) (was now : LeafNode K V P) (found : leaf_at old key ≡ Some was) (changes : Changes old new (opaque_pointer kinds.Leaf key) (HeldLeaf now)) where
    stood : held old (opaque_pointer kinds.Leaf key) ≡ HeldLeaf was
    stood = ap held_leaf found

    pub stands-exchanged : (tree : Tree (OpaqueNodePtr K V P)) → text (leaf_key now) ≡ text (leaf_key was) → StandsIn text old tree → StandsIn text new tree
    stands-exchanged tree same_text stands = tree_stands_on keeps tree stands
      where
        keeps : KeepsTexts
        keeps = record {
          inner = λ pointer node inner. changes.others pointer (λ same. let e : HeldLeaf was ≡ HeldInner node = sym stood ∙ ap (held old) (sym same) ∙ inner in cc) ∙ inner;
          leaf = λ at before there. elim (cases_eq at key) [
            | inl same ↦
                let one : before ≡ was = same_Some _ _ (sym there ∙ ap (leaf_at old) same ∙ found) in
                (now, ap (leaf_at new) same ∙ leaf_at-changed old new key now changes, same_text ∙ ap (λ l. text (leaf_key l)) (sym one))
            | inr differ ↦ (before, leaf_at-other old new key (HeldLeaf now) changes at differ ∙ there, refl)
          ];
        }

module _ {K V : Type 0} {P : ℕ} (old new : NodeArena K V P) where
  module _ (key : ℕ) (was now : LeafNode K V P) (found : leaf_at old key ≡ Some was) (changes : Changes old new (opaque_pointer kinds.Leaf key) (HeldLeaf now)) (same_previous : previous_key now ≡ previous_key was) (same_next : next_key now ≡ next_key was) where
    list_on : (before : Option ℕ) (keys : List ℕ) → IsLinkedAfter old before keys → IsLinkedAfter new before keys
    list_on before [] is_linked = tt
    list_on before (at ∷ keys) ((leaf, there, previous, next), rest) = (
      elim (cases_eq at key) [
        | inl same ↦
            let one : leaf ≡ was = same_Some _ _ (sym there ∙ ap (leaf_at old) same ∙ found) in
            (now, ap (leaf_at new) same ∙ leaf_at-changed old new key now changes, same_previous ∙ ap previous_key (sym one) ∙ previous, same_next ∙ ap next_key (sym one) ∙ next)
        | inr differ ↦ (leaf, leaf_at-other old new key (HeldLeaf now) changes at differ ∙ there, previous, next)
      ],
      list_on (Some at) keys rest,
    )

    pub list-exchanged : (keys : List ℕ) → IsLinkedList old keys → IsLinkedList new keys
    list-exchanged keys is_list = record { distinct = is_list.distinct; is_linked = list_on None keys is_list.is_linked }

  -- a node of another kind than a leaf changes
  pub list-beside : (pointer : OpaqueNodePtr K V P) (now : Held (OpaqueNodePtr K V P) (LeafNode K V P)) (keys : List ℕ) → node_kind pointer ≢ kinds.Leaf → Changes old new pointer now → IsLinkedList old keys → IsLinkedList new keys
  list-beside pointer now keys inner changes is_list = IsLinkedList-kept old new keys (all keys) is_list
    where
      all : (keys : List ℕ) → AllByRecursion (λ key. leaf_at new key ≡ leaf_at old key) keys
      all [] = tt
      all (key ∷ keys) = (held_leaf-same (leaf_at new key) (leaf_at old key) (changes.others (opaque_pointer kinds.Leaf key) (λ same. inner (sym (ap node_kind same)))), all keys)
