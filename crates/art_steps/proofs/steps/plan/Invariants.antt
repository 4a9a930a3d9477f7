use Rattle.art_steps.proofs.Names.{◌≡◌, ◌<◌, length, map, IsPlanOf, text_of_entry}
use Rattle.art_steps.proofs.LoadLemmas.OpenNodes.{IsPlanned, IsClosing, Parts}
use Rattle.art_steps.proofs.steps.plan.Given as goal

-- a plan of the entries so far, and at the end of all of them
abbrev pub invariant-loop-i : goal.invariant-loop-i
invariant-loop-i g l = record {
  before_next : l.i < length l.entries → IsPlanned (map (g.E.KeyIn.text_in l.context) l.entries) l.i l.top l.open.items l.steps.items;
  after_last : l.i ≡ length l.entries → IsPlanOf (map (g.E.KeyIn.text_in l.context) l.entries) l.steps.items;
}

abbrev pub invariant-closing : goal.invariant-closing
invariant-closing g l = record {
  is_text : l.text ≡ text_of_entry (map (g.E.KeyIn.text_in l.context) l.entries) l.i;
  parts : Parts (map (g.E.KeyIn.text_in l.context) l.entries) l.i l.text l.shared;
  finished : IsClosing (map (g.E.KeyIn.text_in l.context) l.entries) l.i l.text l.shared l.top l.open.items l.steps.items;
}

abbrev pub decreases-closing : goal.decreases-closing
decreases-closing g l = length l.open.items
