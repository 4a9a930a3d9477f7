use Rattle.art_tree.proofs.Names.{ℕ, List, subst, PopsEntry, IsEndFound, IsLeafOf, leaf-pointer-fits, spot-fits}
use Rattle.art_tree.proofs.RemoveLemmas.TakenEntries.{at-err, pops-none, pops-refused, pops-taken}
use Rattle.art_tree.proofs.SharedLemmas.RoomLasts.{fewer-room}
use Rattle.art_tree.proofs.tree.ends.ArtTree+K+V+PREFIX_LEN.pop_end.Goals as goal

pub returns-in_default : goal.returns-in_default
returns-in_default g c =
    let empty = subst (IsEndFound g.K.AsBytes.text c.args.self.now c.args.end) c.in_default.is c.find_end.ensures in
    pops-none g.K.AsBytes.text c.args.self.now c.args.self.now c.args.end empty (fewer-room c.args.self.now.arena)

pub remove_found-requires : goal.remove_found-requires
remove_found-requires g c =
    let text = g.K.AsBytes.text in
    let found = subst (IsEndFound text c.args.self.now c.args.end) c.in-Some.is c.find_end.ensures in
    let place : (x : List ℕ) × IsLeafOf text c.args.self.now c.in-Some.leaf c.in-Some.path x = (text found.0.0, found.2) in
    assumption (leaf-pointer-fits, spot-fits)

pub returns-in_err-entry : goal.returns-in_err-entry
returns-in_err-entry g c =
    let text = g.K.AsBytes.text in
    let old = c.args.self.now in
    let found = subst (IsEndFound text old c.args.end) c.in-Some.is c.find_end.ensures in
    at-err (PopsEntry text old c.remove_found.new.self c.args.end) (pops-refused text old c.remove_found.new.self c.args.end found.0 found.1 _ (c.in_err-entry.ensures (text found.0.0) found.2)) c.from_residual.result c.from_residual.ensures.0

pub returns : goal.returns
returns g c =
    let text = g.K.AsBytes.text in
    let found = subst (IsEndFound text c.args.self.now c.args.end) c.in-Some.is c.find_end.ensures in
    pops-taken text c.args.self.now c.remove_found.new.self c.args.end found.0 found.1 c.in_ok-entry.entry (c.in_ok-entry.ensures (text found.0.0) found.2)
