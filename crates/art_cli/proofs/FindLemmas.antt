-- The entries of a tree after each command, and what the commands print.
use Rattle.std.proofs.Common.{◌≡◌, ◌≢◌, ◌∙◌, ℕ, ◌+◌, ◌≤◌, Bool, true, false, List, [], ◌∷◌, ◌++◌, length, All, Contains, Option, None, Some, option_map, IsSomeAnd, MatchOption, bytes_eq, refl, sym, ap, arith, append-nil, append_assoc, subst}
use Rattle.std.proofs.lemmas.List.{length-append}
use Rattle.std.proofs.lemmas.Bool.Decides.{not_from_Decides}
use Rattle.std.proofs.lemmas.List.Elements.{All-filter, Contains-get_or}
use Rattle.std.proofs.lemmas.Map.{update_same, update_other}
use Rattle.std.proofs.lemmas.Slice.Eq.{bytes_eq-Decides}
use Rattle.std.proofs.lemmas.Option.{same_Some}
use Rattle.std.specs.Map.{update}
use Rattle.art_nodes.specs.Leaf.{leaf_key, leaf_value}
use Rattle.art_nodes.specs.Pointers.{slab_key}
use Rattle.art_nodes.specs.declared.leaf_node.LeafNode.{LeafNode}
use Rattle.art_nodes.specs.declared.pointers.NodePtr.{NodePtr}
use Rattle.art_nodes.specs.declared.pointers.OpaqueNodePtr.{OpaqueNodePtr}
use Rattle.art_arena.specs.Arena.{NodeArena, HeldLeaf, held, held_leaf}
use Rattle.art_arena.specs.Links.{leaf_at}
use Rattle.art_arena.specs.Trees.{Tree, leaves, texts}
use Rattle.art_steps.specs.Dictionary.{entry_at, HasEntry, IsEmpty, IsEntry}
use Rattle.art_search.specs.Search.{scan, leaf_pointer}
use Rattle.art_steps.specs.Insertion.{ClashesIn, MayEnter, IsRefused}
use Rattle.art_steps.specs.declared.faults.InsertRefusal.{InsertRefusal}
use Rattle.art_steps.specs.declared.faults.InsertRefusal.TheVariants.{KeyTooLong, Prefix, OutOfMemory}
use Rattle.art_cli.specs.declared.find.command.TreeCommand.{TreeCommand}
use Rattle.art_cli.specs.declared.find.command.TreeCommand.TheVariants.{Insert, Remove, Find}
use Rattle.program_lines.specs.declared.failure.Failure.{Failure}
use Rattle.art_cli.specs.declared.failure.LineFault.{LineFault}
use Rattle.art_cli.specs.Find.{Entries, no_entries, after, after_all, IsPrefixOfOther, IsAdmitted, AreAdmitted}
use Rattle.art_cli.specs.Answer.{HasTheTexts, HoldsEntries, IsCarriedOut, IsReply, AreReplies}
use Rattle.art_cli.specs.Program.{IsCommandFailure, failure_for}

-- what has no number is no entry
no_entry : {K : Type 0} (o : Option (K × ℕ)) → option_map (λ entry. entry.1) o ≡ None → o ≡ None
no_entry None none = refl
no_entry (Some entry) none = absurd (cc)

-- where each entry is mapped to its number
pub number_taken : {K : Type 0} {Gives : K × ℕ → ℕ → Type 0} → ((entry : K × ℕ) (number : ℕ) → Gives entry number → number ≡ entry.1) → (o : Option (K × ℕ)) (r : Option ℕ) → MatchOption o (r ≡ None) (λ entry. IsSomeAnd r (Gives entry)) → r ≡ option_map (λ entry. entry.1) o
number_taken means None r is = is
number_taken means (Some entry) None is = absurd is
number_taken means (Some entry) (Some number) is = ap Some (means entry number is)

-- a leaf that a scan finds is one of the tree's
found_inside : {H : Type 0} (tree : Tree H) (pointer : H) (query : List ℕ) → scan tree query ≡ (pointer, query) ∷ [] → Contains (leaves tree) (pointer, query)
found_inside tree pointer query one =
    let all = All-filter _ (Contains (leaves tree)) (leaves tree) (λ k d inside. Contains-get_or (leaves tree) k d inside) in
    subst (All (Contains (leaves tree))) one all 0 (pointer, query) (omega arith)

-- a slot with a value holds a leaf that has it
valued_leaf : {K : Type 0} {P : ℕ} (slot : Option (LeafNode K ℕ P)) (number : ℕ) → option_map leaf_value slot ≡ Some number → (leaf : LeafNode K ℕ P) × (held_leaf {H = OpaqueNodePtr K ℕ P} slot ≡ HeldLeaf leaf) × (leaf_value leaf ≡ number)
valued_leaf None number none = absurd (cc)
valued_leaf (Some leaf) number is = (leaf, refl, same_Some (leaf_value leaf) number is)

module _ {K : Type 0} {P : ℕ} (text : K → List ℕ) where
  -- one text's number is another now
  module _ (old new : NodeArena K ℕ P) (number_of : List ℕ → Option ℕ) (key : List ℕ) (number : Option ℕ)
      (before : (x : List ℕ) → option_map (λ entry. entry.1) (entry_at text old x) ≡ number_of x)
      (this : option_map (λ entry. entry.1) (entry_at text new key) ≡ number)
      (others : (x : List ℕ) → x ≢ key → entry_at text new x ≡ entry_at text old x) where
    holds_changed : (x : List ℕ) → option_map (λ entry. entry.1) (entry_at text new x) ≡ update bytes_eq number_of key number x
    holds_changed x = by_test (bytes_eq key x) refl
      where
        by_test : (t : Bool) → bytes_eq key x ≡ t → option_map (λ entry. entry.1) (entry_at text new x) ≡ update bytes_eq number_of key number x
        by_test true is =
            let same : key ≡ x = (bytes_eq-Decides key x).0 is in
            ap (λ y. option_map (λ entry. entry.1) (entry_at text new y)) (sym same) ∙ this ∙ sym (update_same bytes_eq number_of key number x is)
        by_test false is =
            let apart = not_from_Decides (bytes_eq key x) (bytes_eq-Decides key x) is in
            ap (option_map (λ entry. entry.1)) (others x (λ same. apart (sym same))) ∙ before x ∙ sym (update_other bytes_eq number_of key number x is)

  module _ (old new : NodeArena K ℕ P) (entries : Entries) (holds : HoldsEntries text old entries) where
    -- one entry more, or one with another number
    pub holds_inserted : (key : K) (number : ℕ) → IsEntry text new (key, number) → ((x : List ℕ) → x ≢ text key → entry_at text new x ≡ entry_at text old x) → number ≡ entries.next → HoldsEntries text new (after entries (Insert (text key)))
    holds_inserted key number entry others next =
        holds_changed old new entries.number_of (text key) (Some entries.next) holds (ap (option_map (λ e. e.1)) entry ∙ ap Some next) others

    -- one entry less
    pub holds_removed : (key : List ℕ) → entry_at text new key ≡ None → ((x : List ℕ) → x ≢ key → entry_at text new x ≡ entry_at text old x) → HoldsEntries text new (after entries (Remove key))
    holds_removed key gone others = holds_changed old new entries.number_of key None holds (ap (option_map (λ e. e.1)) gone) others

  module _ (arena : NodeArena K ℕ P) (entries : Entries) (holds : HoldsEntries text arena entries) where
    -- a text has a number where it has an entry
    has_entry : (x : List ℕ) → entries.number_of x ≢ None → HasEntry text arena x
    has_entry x some none = some (sym (holds x) ∙ ap (option_map (λ entry. entry.1)) none)

    has_number : (x : List ℕ) → HasEntry text arena x → entries.number_of x ≢ None
    has_number x some none = some (no_entry (entry_at text arena x) (holds x ∙ none))

    -- so what may enter the arena is admitted
    pub admitted : (x : List ℕ) → MayEnter text arena x → IsAdmitted entries (Insert x)
    admitted x may = (may.0, λ front. may.1 (front.0, has_entry front.0 front.1, front.2))

    clashes : (x : List ℕ) → ClashesIn text arena x → IsPrefixOfOther entries x
    clashes x clash = (clash.0, has_number clash.0 clash.1, clash.2)

    -- and its refusals are those of the entries
    pub refused : (x : List ℕ) (line : ℕ) (refusal : InsertRefusal) (failure : Failure LineFault) → IsRefused text arena x refusal → failure ≡ failure_for line refusal → IsCommandFailure entries line (Insert x) failure
    refused x line KeyTooLong failure due is = rw is (refl, refl, due)
    refused x line Prefix failure due is = rw is (refl, refl, (due.0, clashes x due.1))
    refused x line OutOfMemory failure due is = rw is tt

    -- the texts with entries are those of a tree that has them
    pub same_texts : (tree : Tree (OpaqueNodePtr K ℕ P)) → ((x : List ℕ) → (HasEntry text arena x → Contains (texts tree) x) × (Contains (texts tree) x → HasEntry text arena x)) → HasTheTexts entries tree
    same_texts tree are x = (λ some. (are x).0 (has_entry x some), λ inside. has_number x ((are x).1 inside))

    -- no text has a number in an empty arena
    pub none_there : IsEmpty text arena → (x : List ℕ) → entries.number_of x ≡ None
    none_there empty x = sym (holds x) ∙ ap (option_map (λ entry. entry.1)) (empty x)

    -- the leaf that a scan finds has the number of the query's entry
    pub found_number : (tree : Tree (OpaqueNodePtr K ℕ P)) (leaf : NodePtr P (LeafNode K ℕ P)) (query : List ℕ) (number : ℕ) → ((held_there : LeafNode K ℕ P) → Contains (leaves tree) (leaf_pointer leaf, query) → held arena (leaf_pointer leaf) ≡ HeldLeaf held_there → entry_at text arena query ≡ Some (leaf_key held_there, leaf_value held_there)) → scan tree query ≡ (leaf_pointer leaf, query) ∷ [] → option_map leaf_value (leaf_at arena (slab_key leaf)) ≡ Some number → entries.number_of query ≡ Some number
    found_number tree leaf query number entry one is =
        let there = valued_leaf (leaf_at arena (slab_key leaf)) number is in
        sym (holds query) ∙ ap (option_map (λ e. e.1)) (entry there.0 (found_inside tree (leaf_pointer leaf) query one) there.1) ∙ ap Some there.2

-- one command more
pub after_one : (entries : Entries) (commands : List (TreeCommand (List ℕ))) (command : TreeCommand (List ℕ)) → after_all entries (commands ++ command ∷ []) ≡ after (after_all entries commands) command
after_one entries [] command = refl
after_one entries (c ∷ commands) command = after_one (after entries c) commands command

admitted_one : (entries : Entries) (commands : List (TreeCommand (List ℕ))) (command : TreeCommand (List ℕ)) → AreAdmitted entries commands → IsAdmitted (after_all entries commands) command → AreAdmitted entries (commands ++ command ∷ [])
admitted_one entries [] command are is = (is, tt)
admitted_one entries (c ∷ commands) command are is = (are.0, admitted_one (after entries c) commands command are.1 is)

replies_one : (K : Type 0) (P : ℕ) (entries : Entries) (commands : List (TreeCommand (List ℕ))) (command : TreeCommand (List ℕ)) (output first : List ℕ) → AreReplies K P entries commands output → IsReply K P (after_all entries commands) command first → AreReplies K P entries (commands ++ command ∷ []) (output ++ first)
replies_one K P entries [] command output first none is = (first, [], ap (λ o. o ++ first) none ∙ sym (append-nil first), is, refl)
replies_one K P entries (c ∷ commands) command output first (one, others, text, reply, are) is =
    (one, others ++ first, ap (λ o. o ++ first) text ∙ append_assoc one others first, reply, replies_one K P (after entries c) commands command others first are is)

-- what is true after some commands
pub record SoFar {K : Type 0} {P : ℕ} (text : K → List ℕ) (arena : NodeArena K ℕ P) (commands : List (TreeCommand (List ℕ))) (next : ℕ) (output : List ℕ) : Type 0 where
  pub admitted_all : AreAdmitted no_entries commands
  pub replies : AreReplies K P no_entries commands output
  pub holds : HoldsEntries text arena (after_all no_entries commands)
  pub next_is : next ≡ (after_all no_entries commands).next
  pub few : next ≤ length commands

-- the number of the next entry grows by one at most
next_at_most : (entries : Entries) (command : TreeCommand (List ℕ)) → (after entries command).next ≤ entries.next + 1
next_at_most entries (Insert key) = omega arith
next_at_most entries (Remove key) = omega arith
next_at_most entries (Find key) = omega arith

-- after one more
pub so_far_one : {K : Type 0} {P : ℕ} (text : K → List ℕ) (old new : NodeArena K ℕ P) (commands : List (TreeCommand (List ℕ))) (command : TreeCommand (List ℕ)) (next more : ℕ) (output longer : List ℕ) → SoFar text old commands next output → IsCarriedOut text (after_all no_entries commands) command new output longer more → SoFar text new (commands ++ command ∷ []) more longer
so_far_one {K} {P} text old new commands command next more output longer before one =
    let state = sym (after_one no_entries commands command) in
    record {
      admitted_all = admitted_one no_entries commands command before.admitted_all one.admitted;
      replies = rw one.reply.1 (replies_one K P no_entries commands command output one.reply.0 before.replies one.reply.2);
      holds = subst (HoldsEntries text new) state one.holds;
      next_is = one.next_is ∙ ap (λ e. e.next) state;
      few = omega (arith, one.next_is, next_at_most (after_all no_entries commands) command, before.next_is, before.few, length-append commands (command ∷ []));
    }
