use Rattle.art_tree.proofs.Names.{ℕ, List, refl, sym, subst, inl, arith, IsFound, IsLeafOf, leaf-pointer-fits, spot-fits, err_from_is_err_and}
use Rattle.art_tree.proofs.SharedLemmas.RoomLasts.{fewer-room}
use Rattle.art_tree.proofs.tree.changes.ArtTree+K+V+PREFIX_LEN.remove.Goals as goal

pub returns-in_default : goal.returns-in_default
returns-in_default g c =
    let absent = subst (IsFound g.K.AsBytes.text c.args.self.now c.args.key.now) c.in_default.is c.find.ensures in
    record {
      removed = sym absent;
      absent_kept = refl;
      gone = absent;
      others = λ other differ. refl;
      leaves_stay = λ pointer leaf is differ. (leaf, is, refl, refl);
      refused = tt;
      same_entries = tt;
      nodes_kept = tt;
      root_kept = tt;
      no_room = tt;
      takes_no_memory = λ enough kind. omega arith;
      memory = λ kind. inl refl;
      room_suffices = λ count has. refl;
      room_lasts = fewer-room c.args.self.now.arena;
    }

pub remove_found-requires : goal.remove_found-requires
remove_found-requires g c =
    let text = g.K.AsBytes.text in
    let place : (x : List ℕ) × IsLeafOf text c.args.self.now c.in-Some.leaf c.in-Some.path x = (c.args.key.now, subst (IsFound text c.args.self.now c.args.key.now) c.in-Some.is c.find.ensures) in
    assumption (leaf-pointer-fits, spot-fits)

pub returns-in_err-entry : goal.returns-in_err-entry
returns-in_err-entry g c =
    let found = subst (IsFound g.K.AsBytes.text c.args.self.now c.args.key.now) c.in-Some.is c.find.ensures in
    let takes = c.in_err-entry.ensures c.args.key.now found in
    let exit = err_from_is_err_and c.from_residual.result c.from_residual.ensures.1 in
    rw exit.1 (record {
      removed = tt;
      absent_kept = tt;
      gone = tt;
      others = tt;
      leaves_stay = tt;
      refused = takes.refused;
      same_entries = takes.same_entries;
      nodes_kept = takes.nodes_kept;
      root_kept = takes.root_kept;
      no_room = takes.no_room;
      takes_no_memory = takes.takes_no_memory;
      memory = takes.memory;
      room_suffices = takes.room_suffices;
      room_lasts = takes.room_lasts;
    })

pub returns : goal.returns
returns g c =
    let found = subst (IsFound g.K.AsBytes.text c.args.self.now c.args.key.now) c.in-Some.is c.find.ensures in
    let takes = c.in_ok-entry.ensures c.args.key.now found in
    record {
      removed = sym takes.removed;
      absent_kept = tt;
      gone = takes.left.gone;
      others = takes.left.others;
      leaves_stay = takes.left.leaves;
      refused = tt;
      same_entries = tt;
      nodes_kept = tt;
      root_kept = tt;
      no_room = tt;
      takes_no_memory = takes.takes_no_memory;
      memory = takes.memory;
      room_suffices = takes.room_suffices;
      room_lasts = takes.room_lasts;
    }
