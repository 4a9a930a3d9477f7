-- An entry that is entered at its place in a tree with its arena. No public clause cites it.
use Rattle.std.specs.Prelude.{◌≡◌, ◌≢◌, ℕ, ◌+◌, List, Contains, Option, Some, None, Result, IfSome, IfOk, IfErr, OnOk, OnErr}
use Rattle.std.specs.Option.{option_map}
use Rattle.art_header.specs.declared.node_type.NodeType.{NodeType}
use Rattle.art_nodes.specs.declared.pointers.OpaqueNodePtr.{OpaqueNodePtr}
use Rattle.art_arena.specs.Arena.{LeafPtr, NodeArena, SameNodes, SameRoom}
use Rattle.art_arena.specs.Trees.{Tree, leaves}
use Rattle.art_steps.specs.Art.{Art, IsAlone}
use Rattle.art_steps.specs.Dictionary.{SameEntries, entry_at}
use Rattle.art_steps.specs.Edits.{HoldsEntry}
use Rattle.art_steps.specs.Insertion.{FindsEntry, IsEntered, IsRefused, MayEnter}
use Rattle.art_steps.specs.Places.{Belongs, present_leaf}
use Rattle.art_steps.specs.Room.{GrowsOnlyWhere, HasEntryRoom, LacksRoomToInsert}
use Rattle.art_search.specs.Search.{EachTree, leaf_pointer}
use Rattle.art_steps.specs.declared.faults.InsertFault.{InsertFault}
use Rattle.art_steps.specs.declared.faults.InsertRefusal.TheVariants.{OutOfMemory}
use Rattle.art_steps.specs.declared.place.Place.{Place}

module _ {K V : Type 0} {P : ℕ} (text : K → List ℕ) where
  -- the leaf has this text in the one tree of the arena
  pub record IsPresent (art : Art (NodeArena K V P) (OpaqueNodePtr K V P)) (leaf : LeafPtr K V P) (x : List ℕ) : Type 0 where
    pub root : OpaqueNodePtr K V P
    pub is_root : art.root ≡ Some root
    pub tree : Tree (OpaqueNodePtr K V P)
    pub alone : IsAlone text art.arena root tree
    pub inside : Contains (leaves tree) (leaf_pointer leaf, x)

  -- the text belongs at this place of the tree at the root, if there is one
  pub record IsPlaceOf (art : Art (NodeArena K V P) (OpaqueNodePtr K V P)) (x : List ℕ) (found : Option (OpaqueNodePtr K V P × Place K V P)) : Type 0 where
    pub root : option_map (λ place. place.0) found ≡ art.root
    pub belongs : IfSome found (λ place. EachTree text art.arena place.0 (λ tree. Belongs tree x place.1))
    pub present : IfSome (present_leaf found) (λ at. IsPresent art at.1 x)

module _ {K V : Type 0} {P : ℕ} (text : K → List ℕ) (old new : Art (NodeArena K V P) (OpaqueNodePtr K V P)) (key : K) where
  -- an entry with a new text is added to a tree, and its leaf returned; or it is refused
  pub record InsertsAt (value : V) (result : Result (LeafPtr K V P) (InsertFault K V)) : Type 0 where
    pub leaf : IfOk result (λ leaf. HoldsEntry new.arena (leaf_pointer leaf) key value)
    pub absent : OnOk result (entry_at text old.arena (text key) ≡ None)
    pub entered : OnOk result (IsEntered text old.arena new.arena key value)
    pub no_refusal : OnOk result (MayEnter text old.arena (text key))
    pub refusal_due : IfErr result (λ fault. IsRefused text old.arena (text key) fault.refusal)
    pub entry_back : IfErr result (λ fault. (fault.key ≡ key) × (fault.value ≡ value))
    pub same_entries : OnErr result (SameEntries text old.arena new.arena)
    pub nodes_kept : OnErr result (SameNodes old.arena new.arena)
    pub root_kept : OnErr result (new.root ≡ old.root)
    pub untouched : IfErr result (λ fault. fault.refusal ≢ OutOfMemory → new ≡ old)
    pub no_room : IfErr result (λ fault. fault.refusal ≡ OutOfMemory → (kind : NodeType) × LacksRoomToInsert text old.arena old.root (text key) kind)
    pub takes_no_memory : entry_at text old.arena (text key) ≢ None → SameRoom old.arena new.arena
    pub memory : GrowsOnlyWhere old.arena new.arena (LacksRoomToInsert text old.arena old.root (text key))
    pub room_suffices : (count : ℕ) → HasEntryRoom old.arena (count + 1) → IfErr result (λ fault. fault.refusal ≢ OutOfMemory)
    pub room_lasts : (count : ℕ) → HasEntryRoom old.arena (count + 1) → HasEntryRoom new.arena count

  -- an entry is put in the place of one with the same text, which is returned
  pub record ReplacesEntry (value : V) (before : K × V) : Type 0 where
    pub replaced : Some before ≡ entry_at text old.arena (text key)
    pub entered : IsEntered text old.arena new.arena key value
    pub no_refusal : MayEnter text old.arena (text key)
    pub takes_no_memory : SameRoom old.arena new.arena
    pub memory : GrowsOnlyWhere old.arena new.arena (LacksRoomToInsert text old.arena old.root (text key))
    pub room_lasts : (count : ℕ) → HasEntryRoom old.arena (count + 1) → HasEntryRoom new.arena count

  -- the leaf with a text is found, or added with a value that was made; or the entry is refused
  pub record FindsOrInserts (made : V → Type 0) (result : Result (LeafPtr K V P) (InsertFault K V)) : Type 0 where
    pub found : IfOk result (λ leaf. FindsEntry text old.arena new.arena key made (leaf_pointer leaf))
    pub present_kept : OnOk result (entry_at text old.arena (text key) ≢ None → new ≡ old)
    pub no_refusal : OnOk result (MayEnter text old.arena (text key))
    pub refusal_due : IfErr result (λ fault. IsRefused text old.arena (text key) fault.refusal)
    pub entry_back : IfErr result (λ fault. (fault.key ≡ key) × made fault.value)
    pub same_entries : OnErr result (SameEntries text old.arena new.arena)
    pub nodes_kept : OnErr result (SameNodes old.arena new.arena)
    pub root_kept : OnErr result (new.root ≡ old.root)
    pub no_room : IfErr result (λ fault. fault.refusal ≡ OutOfMemory → (kind : NodeType) × LacksRoomToInsert text old.arena old.root (text key) kind)
    pub memory : GrowsOnlyWhere old.arena new.arena (LacksRoomToInsert text old.arena old.root (text key))
