use Rattle.std.proofs.Common.{◌≡◌, ◌++◌, [], drop}
use Rattle.art_nodes.specs.Commands.{run_of}
use Rattle.art_nodes.proofs.commands.replay.replay.Given as goal

-- the replies so far and those to the remaining commands are those to all, and the remaining commands lead to the same children
abbrev pub invariant-loop-command : goal.invariant-loop-command
invariant-loop-command g l =
    let rest = run_of l.node.children (drop l.command-index l.commands) in
    let whole = run_of [] l.commands in
    record {
      replies : l.replies.items ++ rest.0 ≡ whole.0;
      children : rest.1 ≡ whole.1;
      prefix_len : l.node.prefix_len ≡ l.fn.header.prefix_len;
      stored : l.node.stored ≡ l.fn.header.stored;
    }
