-- The results of the commands of `find`, and the lines that it prints.
use Rattle.std.specs.Prelude.{◌≡◌, ◌≢◌, ◌↔◌, ◌⊎◌, ℕ, ◌++◌, List, [], ◌∷◌, Option, None, Some, Contains, option_map, codes, length}
use Rattle.std.specs.Fmt.{decimal}
use Rattle.art_nodes.specs.declared.pointers.OpaqueNodePtr.{OpaqueNodePtr}
use Rattle.art_arena.specs.Arena.{NodeArena}
use Rattle.art_arena.specs.Trees.{Tree, texts, IsWellFormed}
use Rattle.art_steps.specs.Dictionary.{entry_at}
use Rattle.art_search.specs.Search.{scan, met, IsPathTo}
use Rattle.art_search.specs.declared.path.TreePath.{TreePath}
use Rattle.art_search.specs.declared.path.TreePath.TheVariants.{Root, ChildOfRoot, Normal}
use Rattle.art_cli.specs.Find.{Entries, after, IsAdmitted}
use Rattle.program_lines.specs.Lines.{line}
use Rattle.art_cli.specs.declared.find.command.TreeCommand.{TreeCommand}
use Rattle.art_cli.specs.declared.find.command.TreeCommand.TheVariants.{Insert, Remove, Find}

module _ {K V : Type 0} {P : ℕ} where
  -- the path to a leaf
  abbrev pub path_text : TreePath K V P → List ℕ
  path_text Root = codes "root"
  path_text (ChildOfRoot parent byte) = codes "child " ++ decimal byte
  path_text (Normal grandparent parent_byte parent byte) =
      codes "normal " ++ decimal parent_byte ++ codes " " ++ decimal byte

  -- the number of the entry that is found and the path to its leaf, or none, and how many nodes
  -- were visited
  abbrev pub answer_text : Option (ℕ × TreePath K V P) → ℕ → List ℕ
  answer_text None reads = codes "none reads " ++ decimal reads
  answer_text (Some answer) reads =
      codes "found " ++ decimal answer.0 ++ codes " " ++ path_text answer.1 ++ codes " reads " ++ decimal reads

-- the number of the entry that is removed, or that there was none
abbrev pub removal_text : Option ℕ → List ℕ
removal_text None = codes "absent"
removal_text (Some number) = codes "removed " ++ decimal number

module _ {K : Type 0} {P : ℕ} where
  -- the texts of the tree are those that have an entry
  abbrev pub HasTheTexts : Entries → Tree (OpaqueNodePtr K ℕ P) → Type 0
  HasTheTexts entries tree = (text : List ℕ) → (entries.number_of text ≢ None) ↔ Contains (texts tree) text

  -- the scan of the tree finds no leaf; or it finds one, to which the path leads, and the number is that of the query's entry
  abbrev pub IsScanned : Entries → Tree (OpaqueNodePtr K ℕ P) → List ℕ → Option (ℕ × TreePath K ℕ P) → Type 0
  IsScanned entries tree query None = scan tree query ≡ []
  IsScanned entries tree query (Some answer) =
      (leaf : OpaqueNodePtr K ℕ P) × (scan tree query ≡ (leaf, query) ∷ []) × (entries.number_of query ≡ Some answer.0) × IsPathTo tree leaf answer.1

  -- without entries nothing is found, and no node is visited; else it is the result of the scan,
  -- and one node visit for each pointer that the query meets
  abbrev pub IsFindAnswer : Entries → List ℕ → Option (ℕ × TreePath K ℕ P) → ℕ → Type 0
  IsFindAnswer entries query answer reads =
      (((text : List ℕ) → entries.number_of text ≡ None) × (answer ≡ None) × (reads ≡ 0))
      ⊎ ((tree : Tree (OpaqueNodePtr K ℕ P)) × IsWellFormed tree × HasTheTexts entries tree × IsScanned entries tree query answer × (reads ≡ length (met P tree query)))

  -- the arena's entries are these, by their numbers
  abbrev pub HoldsEntries : (K → List ℕ) → NodeArena K ℕ P → Entries → Type 0
  HoldsEntries text arena entries = (x : List ℕ) → option_map (λ entry. entry.1) (entry_at text arena x) ≡ entries.number_of x

module _ (K : Type 0) (P : ℕ) where
  -- what a command prints
  abbrev pub IsReply : Entries → TreeCommand (List ℕ) → List ℕ → Type 0
  IsReply entries (Insert key) text = text ≡ []
  IsReply entries (Remove key) text = text ≡ line (removal_text (entries.number_of key))
  IsReply entries (Find key) text =
      (answer : Option (ℕ × TreePath K ℕ P)) × (reads : ℕ) × IsFindAnswer entries key answer reads × (text ≡ line (answer_text answer reads))

  -- what commands print, one after another
  abbrev pub AreReplies : Entries → List (TreeCommand (List ℕ)) → List ℕ → Type 0
  AreReplies entries [] output = output ≡ []
  AreReplies entries (command ∷ commands) output =
      (first others : List ℕ) × (output ≡ first ++ others) × IsReply entries command first × AreReplies (after entries command) commands others

module _ {K : Type 0} {P : ℕ} (text : K → List ℕ) where
  -- a command inserts no entry that is refused beside these, prints what is new in the output, and
  -- leaves the arena with the entries after it. No public clause cites it
  pub record IsCarriedOut (entries : Entries) (command : TreeCommand (List ℕ)) (arena : NodeArena K ℕ P) (old new : List ℕ) (next : ℕ) : Type 0 where
    pub admitted : IsAdmitted entries command
    pub reply : (printed : List ℕ) × (new ≡ old ++ printed) × IsReply K P entries command printed
    pub holds : HoldsEntries text arena (after entries command)
    pub next_is : next ≡ (after entries command).next
