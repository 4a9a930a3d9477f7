use Rattle.art_steps.proofs.Names.{length, TreeAt}
use Rattle.art_steps.proofs.PlaceLemmas.TowardLemmas.{IsToward}
use Rattle.art_steps.proofs.place.text_toward.Given as goal

-- at the top of the subtree of each tree at the pointer toward which the bytes that are passed lead
abbrev pub invariant-way : goal.invariant-way
invariant-way g l = (found : TreeAt g.K.AsBytes.text l.arena l.fn.pointer) → IsToward g.K.AsBytes.text l.arena l.fn.pointer l.fn.rest found l.at l.left

abbrev pub decreases-way : goal.decreases-way
decreases-way g l = length l.left
