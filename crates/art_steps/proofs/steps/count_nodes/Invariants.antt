use Rattle.art_steps.proofs.Names.{◌≡◌, ◌≤◌, ◌+◌, drop, needed}
use Rattle.art_steps.proofs.steps.count_nodes.Given as goal

-- the nodes so far and those of the steps that are left are all
abbrev pub invariant-loop-step : goal.invariant-loop-step
invariant-loop-step l = record {
  counted : l.count + needed l.kind (drop l.step-index l.steps) ≡ needed l.kind l.steps;
  few : l.count ≤ l.step-index;
}
