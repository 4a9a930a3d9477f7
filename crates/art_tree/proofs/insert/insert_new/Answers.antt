use Rattle.art_tree.proofs.Names.{◌<◌, ◌^◌, ◌≤◌, length, None, IfSome, [], refl, sym, ap, subst, inl, inr, arith, option_map, IsArt, IsAlone, Clashes, AddsEntry, Belongs, LacksChild, Parts, EachTree, leaf_pointer, Tree, texts, KeyTooLong, Prefix, leaf-pointer-fits, spot-fits, texts-apart}
use Rattle.art_tree.proofs.InsertLemmas.EntryLemmas.{answered, apart-new, child-apart, clash-entry, empty-new, empty-stays, fork-apart, present-new, untouched-refused}
use Rattle.art_steps.proofs.SharedLemmas.ExchangedTree.{entries-stay}
use Rattle.art_steps.proofs.PlaceLemmas.WayPlaces.{begins-clash, extends-clash}
use Rattle.art_tree.proofs.SharedLemmas.TreeLaws.{apart-there}
use Rattle.art_tree.proofs.insert.insert_new.Goals as goal

pub returns-then-as_bytes : goal.returns-then-as_bytes
returns-then-as_bytes g c =
    let old = c.args.arena.now in
    untouched-refused g.K.AsBytes.text old old (option_map (λ place. place.0) c.args.found) c.args.key c.args.value KeyTooLong (subst (λ text. 2 ^ 32 ≤ length text) c.as_bytes.ensures.text c.if-as_bytes.true) (λ is. cc) refl

pub insert_first-requires : goal.insert_first-requires
insert_first-requires g c =
    let text = g.K.AsBytes.text in
    let empty : IsArt text c.args.arena.now None = subst (λ found. IsArt text c.args.arena.now (option_map (λ place. place.0) found)) c.in_default.is c.requires.art in
    let short : length (text c.args.key) < 2 ^ 32 = omega (arith, c.if-as_bytes.false, ap length c.as_bytes.ensures.text) in
    assumption (leaf-pointer-fits, spot-fits)

pub returns-in_default : goal.returns-in_default
returns-in_default g c =
    let text = g.K.AsBytes.text in
    let old = c.args.arena.now in
    let new = c.insert_first.new.arena in
    let no_root = ap (option_map (λ place. place.0)) c.in_default.is in
    let nothing = subst (IsArt text old) no_root c.requires.art in
    let is_new = empty-new text old nothing (text c.args.key) (omega (arith, c.if-as_bytes.false, ap length c.as_bytes.ensures.text)) in
    let first = subst (λ root. AddsEntry text old new root c.args.key c.args.value c.insert_first.result) (sym no_root) c.insert_first.ensures in
    answered text old new (option_map (λ place. place.0) c.args.found) c.args.key c.args.value c.insert_first.result first is_new (λ same. empty-stays text old new same nothing) c.newly_added.result c.newly_added.ensures.added c.newly_added.ensures.refused

pub unreachable-requires : goal.unreachable-requires
unreachable-requires g c = present-new c.args.found c.in-Some.root c.in-Some.place c.in-Some.is c.requires.new _ c.in-Present.is

pub returns-in-Extends : goal.returns-in-Extends
returns-in-Extends g c =
    let text = g.K.AsBytes.text in
    let key = text c.args.key in
    let arena = c.args.arena.now in
    let root_is = ap (option_map (λ place. place.0)) c.in-Some.is in
    let art = subst (IsArt text arena) root_is c.requires.art in
    let belongs = subst (λ found. IfSome found (λ place. EachTree text arena place.0 (λ tree. Belongs tree key place.1))) c.in-Some.is c.requires.place art.0 art.1.is_tree in
    let apart = apart-there art.1 in
    let clash : Clashes (texts art.0) key = elim c.in-Extends.is [
      | inl at ↦
          let is = subst (Belongs art.0 key) at.1 belongs in
          extends-clash art.0 key (leaf_pointer at.0) is.0 is.1 is.2
      | inr at ↦ begins-clash art.0 key at.0 art.1.is_tree.sound (subst (Belongs art.0 key) at.1 belongs)
    ] in
    untouched-refused text arena arena (option_map (λ place. place.0) c.args.found) c.args.key c.args.value Prefix (omega (arith, c.if-as_bytes.false, ap length c.as_bytes.ensures.text), clash-entry text arena c.in-Some.root art.0 art.1 apart key clash) (λ is. cc) refl

pub insert_child-requires : goal.insert_child-requires
insert_child-requires g c =
    let text = g.K.AsBytes.text in
    let arena = c.args.arena.now in
    let art = subst (IsArt text arena) (ap (option_map (λ place. place.0)) c.in-Some.is) c.requires.art in
    let belongs = subst (λ found. IfSome found (λ place. EachTree text arena place.0 (λ tree. Belongs tree (text c.args.key) place.1))) c.in-Some.is c.requires.place art.0 art.1.is_tree in
    let short : length (text c.args.key) < 2 ^ 32 = omega (arith, c.if-as_bytes.false, ap length c.as_bytes.ensures.text) in
    let place : (tree : Tree _) × IsAlone text arena c.in-Some.root tree × LacksChild tree (text c.args.key) c.in-Absent.spot c.in-Absent.byte =
    (art.0, art.1, subst (Belongs art.0 (text c.args.key)) c.in-Absent.is belongs) in
    assumption (leaf-pointer-fits, spot-fits)

pub returns-in-Absent : goal.returns-in-Absent
returns-in-Absent g c =
    let text = g.K.AsBytes.text in
    let key = text c.args.key in
    let old = c.args.arena.now in
    let new = c.insert_child.new.arena in
    let root_is = ap (option_map (λ place. place.0)) c.in-Some.is in
    let art = subst (IsArt text old) root_is c.requires.art in
    let belongs = subst (λ found. IfSome found (λ place. EachTree text old place.0 (λ tree. Belongs tree key place.1))) c.in-Some.is c.requires.place art.0 art.1.is_tree in
    let short : length key < 2 ^ 32 = omega (arith, c.if-as_bytes.false, ap length c.as_bytes.ensures.text) in
    let lacks = subst (Belongs art.0 key) c.in-Absent.is belongs in
    let is_new = apart-new text old c.in-Some.root art.0 art.1 key short (child-apart (texts-apart []) art.0 art.1.is_tree.sound key short c.in-Absent.spot c.in-Absent.byte lacks) in
    let child = subst (λ root. AddsEntry text old new root c.args.key c.args.value c.insert_child.result) (sym root_is) c.insert_child.ensures in
    answered text old new (option_map (λ place. place.0) c.args.found) c.args.key c.args.value c.insert_child.result child is_new (λ same. entries-stay text old new same c.in-Some.root art.0 art.1 (apart-there art.1)) c.newly_added-in-Absent.result c.newly_added-in-Absent.ensures.added c.newly_added-in-Absent.ensures.refused

pub insert_fork-requires : goal.insert_fork-requires
insert_fork-requires g c =
    let text = g.K.AsBytes.text in
    let arena = c.args.arena.now in
    let art = subst (IsArt text arena) (ap (option_map (λ place. place.0)) c.in-Some.is) c.requires.art in
    let belongs = subst (λ found. IfSome found (λ place. EachTree text arena place.0 (λ tree. Belongs tree (text c.args.key) place.1))) c.in-Some.is c.requires.place art.0 art.1.is_tree in
    let short : length (text c.args.key) < 2 ^ 32 = omega (arith, c.if-as_bytes.false, ap length c.as_bytes.ensures.text) in
    let place : (tree : Tree _) × IsAlone text arena c.in-Some.root tree × Parts tree (text c.args.key) c.in-Differs.spot c.in-Differs.mismatch =
    (art.0, art.1, subst (Belongs art.0 (text c.args.key)) c.in-Differs.is belongs) in
    assumption (leaf-pointer-fits, spot-fits)

pub returns-in-Differs : goal.returns-in-Differs
returns-in-Differs g c =
    let text = g.K.AsBytes.text in
    let key = text c.args.key in
    let old = c.args.arena.now in
    let new = c.insert_fork.new.arena in
    let root_is = ap (option_map (λ place. place.0)) c.in-Some.is in
    let art = subst (IsArt text old) root_is c.requires.art in
    let belongs = subst (λ found. IfSome found (λ place. EachTree text old place.0 (λ tree. Belongs tree key place.1))) c.in-Some.is c.requires.place art.0 art.1.is_tree in
    let short : length key < 2 ^ 32 = omega (arith, c.if-as_bytes.false, ap length c.as_bytes.ensures.text) in
    let parts = subst (Belongs art.0 key) c.in-Differs.is belongs in
    let is_new = apart-new text old c.in-Some.root art.0 art.1 key short (fork-apart (texts-apart []) art.0 art.1.is_tree.sound key short c.in-Differs.spot c.in-Differs.mismatch parts) in
    let fork = subst (λ root. AddsEntry text old new root c.args.key c.args.value c.insert_fork.result) (sym root_is) c.insert_fork.ensures in
    answered text old new (option_map (λ place. place.0) c.args.found) c.args.key c.args.value c.insert_fork.result fork is_new (λ same. entries-stay text old new same c.in-Some.root art.0 art.1 (apart-there art.1)) c.newly_added-in-Differs.result c.newly_added-in-Differs.ensures.added c.newly_added-in-Differs.ensures.refused
