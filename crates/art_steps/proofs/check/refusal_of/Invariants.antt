use Rattle.art_steps.proofs.Names.{◌≡◌, ℕ, ◌<◌, None, get_or, texts_of, fault_at}
use Rattle.art_steps.proofs.check.refusal_of.Given as goal

-- the entries so far have no fault, and their keys were read
abbrev pub invariant-loop-index : goal.invariant-loop-index
invariant-loop-index g l = record {
  no_fault : (earlier : ℕ) → earlier < l.index → fault_at (texts_of g.K.AsBytes.text l.entries) earlier ≡ None;
  keys : (earlier : ℕ) (other : g.row.K.Denot × g.row.V.Denot) → earlier < l.index → g.K.AsBytes.is_key (get_or l.entries earlier other).0;
}
