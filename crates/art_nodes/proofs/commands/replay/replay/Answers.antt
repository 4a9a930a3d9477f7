use Rattle.art_nodes.specs.declared.pointers.OpaqueNodePtr.{OpaqueNodePtr}
use Rattle.art_nodes.specs.declared.commands.command.ChildCommand.{ChildCommand}
use Rattle.art_nodes.specs.Commands.{run_of}
use Rattle.art_nodes.specs.ChildMap.{ChildMap}
use Rattle.std.proofs.Math.Seq.{drop-cons}
use Rattle.std.proofs.Math.Numerals.{add-one}
use Rattle.std.proofs.Common.{arith, ap, sym, ◌∙◌, refl, ◌≡◌, ℕ, ◌+◌, ◌<◌, List, ◌∷◌, length, drop, get_or, append_assoc}
use Rattle.std.proofs.lemmas.List.{append-nil, drop_all}
use Rattle.art_nodes.proofs.commands.replay.replay.Goals as goal

pub loop-command-init : goal.loop-command-init
loop-command-init g c =
    let node = c.from_header-node.ensures in
    record { replies = rw (c.in_ok-replies.ensures.items, node) refl; children = rw node refl; prefix_len = ap (λ n. n.prefix_len) node; stored = ap (λ n. n.stored) node }

pub returns-clause-replies : goal.returns-clause-replies
returns-clause-replies g c =
    let done = drop_all c.loop-command.command-index c.args.commands.now (omega arith) in
    sym (append-nil _) ∙ (rw done at c.loop-command.invariant.replies)

pub returns-clause-children : goal.returns-clause-children
returns-clause-children g c =
    let done = drop_all c.loop-command.command-index c.args.commands.now (omega arith) in
    rw done at c.loop-command.invariant.children

pub from_header-node-requires : goal.from_header-node-requires
from_header-node-requires g c = search

pub apply-requires : goal.apply-requires
apply-requires g c = search

-- the first remaining command is run, and then those after it
run_of-step : {K V : Type 0} {P : ℕ} (children : ChildMap (OpaqueNodePtr K V P)) (commands : List (ChildCommand K V P)) (index : ℕ) (d : ChildCommand K V P) → index < length commands
    → run_of children (drop index commands) ≡ run_of children (get_or commands index d ∷ drop (index + 1) commands)
run_of-step children commands index d within = rw (add-one, drop-cons commands index d within) refl

pub loop-command-preserved : goal.loop-command-preserved
loop-command-preserved g c =
    let node = c.loop-command.node in
    let step = run_of-step node.children c.args.commands.now c.loop-command.command-index _ c.loop-command-test.true in
    let before = c.loop-command.invariant in
    let after = c.in_ok-apply.ensures.children in
    record {
      replies = rw (c.in_ok-push.ensures.items, append_assoc, c.in_ok-apply.ensures.reply, after) (rw step at before.replies);
      children = rw after (rw step at before.children);
      prefix_len = ap (λ n. n.prefix_len) after ∙ before.prefix_len;
      stored = ap (λ n. n.stored) after ∙ before.stored;
    }
