-- Child commands as steps of a finite map.
use Rattle.std.specs.Prelude.{ℕ, List, [], ◌∷◌, if◌then◌else◌}
use Rattle.art_nodes.specs.ChildMap.{ChildMap, child_at, with_child, without_child, first_pair, last_pair, pairs_within, are_valid_bounds, AreValidBounds}
use Rattle.art_nodes.specs.declared.pointers.OpaqueNodePtr.{OpaqueNodePtr}
use Rattle.art_nodes.specs.declared.commands.command.ChildCommand.{ChildCommand}
use Rattle.art_nodes.specs.declared.commands.command.ChildCommand.TheVariants.{Write, Remove, Lookup, Min, Max, Range}
use Rattle.art_nodes.specs.declared.commands.command.ChildReply.{ChildReply}
use Rattle.art_nodes.specs.declared.commands.command.ChildReply.TheVariants.{Child, Pair, Pairs, InvalidBounds}

module _ {K V : Type 0} {P : ℕ} where
  -- the reply to a command
  abbrev pub reply_to : ChildMap (OpaqueNodePtr K V P) → ChildCommand K V P → ChildReply K V P
  reply_to children (Write byte child) = Child (child_at children byte)
  reply_to children (Remove byte) = Child (child_at children byte)
  reply_to children (Lookup byte) = Child (child_at children byte)
  reply_to children Min = Pair (first_pair children)
  reply_to children Max = Pair (last_pair children)
  reply_to children (Range start end) =
      if are_valid_bounds start end then Pairs (pairs_within children start end) else InvalidBounds

  -- the child map after a command
  abbrev pub child_map_after : ChildMap (OpaqueNodePtr K V P) → ChildCommand K V P →
      ChildMap (OpaqueNodePtr K V P)
  child_map_after children (Write byte child) = with_child children byte child
  child_map_after children (Remove byte) = without_child children byte
  child_map_after children (Lookup byte) = children
  child_map_after children Min = children
  child_map_after children Max = children
  child_map_after children (Range start end) = children

  -- the replies to a list of commands, and the child map after them
  abbrev pub run_of : ChildMap (OpaqueNodePtr K V P) → List (ChildCommand K V P) →
      List (ChildReply K V P) × ChildMap (OpaqueNodePtr K V P)
  run_of children [] = ([], children)
  run_of children (command ∷ commands) =
      let rest = run_of (child_map_after children command) commands in
      (reply_to children command ∷ rest.0, rest.1)

  -- the command is a range with valid bounds, whose reply takes memory
  abbrev pub TakesMemory : ChildCommand K V P → Type 0
  TakesMemory (Range start end) = AreValidBounds start end
  TakesMemory _ = ⊥
