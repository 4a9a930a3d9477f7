-- Insertion: its refusals and its results.
use Rattle.std.specs.Prelude.{◌≡◌, ◌≢◌, ◌⊎◌, ℕ, ◌<◌, ◌≤◌, ◌^◌, List, length, Option, Some, None, Result, IfOk, IfErr, OnOk, OnErr}
use Rattle.art_header.specs.declared.node_type.NodeType.{NodeType}
use Rattle.art_nodes.specs.declared.pointers.OpaqueNodePtr.{OpaqueNodePtr}
use Rattle.art_arena.specs.Arena.{LeafPtr, NodeArena, SameNodes, SameRoom}
use Rattle.art_steps.specs.Art.{IsArt}
use Rattle.art_steps.specs.Dictionary.{entry_at, HasEntry, SameEntries, SameOtherEntries, OneIsProperPrefix}
use Rattle.art_steps.specs.Edits.{HoldsEntry}
use Rattle.art_steps.specs.Leaves.{KeepsOtherLeaves}
use Rattle.art_steps.specs.Room.{GrowsOnlyWhere, LacksRoomToInsert}
use Rattle.art_search.specs.Search.{leaf_pointer}
use Rattle.art_steps.specs.declared.faults.InsertFault.{InsertFault}
use Rattle.art_steps.specs.declared.faults.InsertRefusal.{InsertRefusal}
use Rattle.art_steps.specs.declared.faults.InsertRefusal.TheVariants.{KeyTooLong, Prefix, OutOfMemory}

module _ {K V : Type 0} {P : ℕ} (text : K → List ℕ) where
  -- a text that has an entry is a proper prefix of this one, or this one of it
  abbrev pub ClashesIn : NodeArena K V P → List ℕ → Type 0
  ClashesIn arena x = (other : List ℕ) × HasEntry text arena other × OneIsProperPrefix other x

  -- nothing but an allocation failure refuses an entry with this text
  abbrev pub MayEnter : NodeArena K V P → List ℕ → Type 0
  MayEnter arena x = (length x < 2 ^ 32) × (¬ ClashesIn arena x)

  -- the first refusal that is due to an entry with this text; memory is needed only for a text
  -- without an entry
  abbrev pub IsRefused : NodeArena K V P → List ℕ → InsertRefusal → Type 0
  IsRefused arena x KeyTooLong = 2 ^ 32 ≤ length x
  IsRefused arena x Prefix = (length x < 2 ^ 32) × ClashesIn arena x
  IsRefused arena x OutOfMemory = MayEnter arena x × (entry_at text arena x ≡ None)

  -- the key's text has this entry now, and every other text the entry that it had
  pub record IsEntered (old new : NodeArena K V P) (key : K) (value : V) : Type 0 where
    pub entry : entry_at text new (text key) ≡ Some (key, value)
    pub others : SameOtherEntries text old new (text key)
    pub leaves : KeepsOtherLeaves text old new (text key)

  -- an entry with a new text is added below this root, if there is one, and the root returned, with the
  -- entry's leaf; or the entry comes back, where a kind that the tree needs has no room
  pub record AddsEntry (old new : NodeArena K V P) (root : Option (OpaqueNodePtr K V P)) (key : K) (value : V) (result : Result (OpaqueNodePtr K V P × LeafPtr K V P) (K × V)) : Type 0 where
    pub art : IfOk result (λ at. IsArt text new (Some at.0))
    pub leaf : IfOk result (λ at. HoldsEntry new (leaf_pointer at.1) key value)
    pub entered : OnOk result (IsEntered old new key value)
    pub entry_back : IfErr result (λ entry. entry ≡ (key, value))
    pub nodes_kept : OnErr result (SameNodes old new)
    pub no_room : OnErr result ((kind : NodeType) × LacksRoomToInsert text old root (text key) kind)
    pub memory : GrowsOnlyWhere old new (LacksRoomToInsert text old root (text key))

  -- the same, or the entry is refused
  pub record InsertsNew (old new : NodeArena K V P) (root : Option (OpaqueNodePtr K V P)) (key : K) (value : V) (result : Result (OpaqueNodePtr K V P × LeafPtr K V P) (InsertFault K V)) : Type 0 where
    pub art : IfOk result (λ at. IsArt text new (Some at.0))
    pub leaf : IfOk result (λ at. HoldsEntry new (leaf_pointer at.1) key value)
    pub absent : OnOk result (entry_at text old (text key) ≡ None)
    pub entered : OnOk result (IsEntered old new key value)
    pub no_refusal : OnOk result (MayEnter old (text key))
    pub refusal_due : IfErr result (λ fault. IsRefused old (text key) fault.refusal)
    pub entry_back : IfErr result (λ fault. (fault.key ≡ key) × (fault.value ≡ value))
    pub same_entries : OnErr result (SameEntries text old new)
    pub nodes_kept : OnErr result (SameNodes old new)
    pub untouched : IfErr result (λ fault. fault.refusal ≢ OutOfMemory → new ≡ old)
    pub no_room : IfErr result (λ fault. fault.refusal ≡ OutOfMemory → (kind : NodeType) × LacksRoomToInsert text old root (text key) kind)
    pub takes_no_memory : entry_at text old (text key) ≢ None → SameRoom old new
    pub memory : GrowsOnlyWhere old new (LacksRoomToInsert text old root (text key))

  -- the leaf at the pointer has the key's text: it was there, and nothing changed, or it is new, with this key
  -- and a value that was made
  abbrev pub FindsEntry : NodeArena K V P → NodeArena K V P → K → (V → Type 0) → OpaqueNodePtr K V P → Type 0
  FindsEntry old new key made pointer =
      ((entry : K × V) × (entry_at text old (text key) ≡ Some entry) × (new ≡ old) × HoldsEntry new pointer entry.0 entry.1)
      ⊎ ((value : V) × made value × (entry_at text old (text key) ≡ None) × IsEntered old new key value × HoldsEntry new pointer key value)
