use Rattle.art_search.proofs.Names.{length, ◌+◌, ◌≡◌, ◌≢◌, ◌∙◌, lit<, ◌∷◌, ◌++◌, [], ℕ, sym, ap, subst, refl, arith, get_or_from_slice_get, slab_key, opaque_key, PointerTo, Nothing, held, leaf_text, IsTreeIn, IsWay, LeadsTo, leaf_pointer, HasVisited, path_of, at-some, leaf-pointer-is, leaf_kind, Tree, places-apart}
use Rattle.art_search.proofs.OnlyWayLemmas.{one-way}
use Rattle.art_search.proofs.PathNodes.{way-leads}
use Rattle.art_search.proofs.WayLemmas.{here-start, here-held, here-leaf, here-nowhere-scan, here-nowhere-met, here-on, still-held, told, told-on, told-nowhere, told-later, leaf-hit, leaf-miss, not-true}
use Rattle.art_search.proofs.find.find_leaf.Goals as goal

pub way-init : goal.way-init
way-init g c = record {
  within = omega arith;
  visits = omega (arith, c.requires.budget);
  same_arena = refl;
  here = λ tree is. here-start g.K.AsBytes.text c.args.reader.now.arena tree c.args.key.now c.args.root c.default-search.result c.args.reader.now.budget is c.default-search.ensures;
}

pub look-node-requires : goal.look-node-requires
look-node-requires g c =
    let (tree, is) = c.requires.tree in
    let there = here-held g.K.AsBytes.text c.args.reader.now.arena tree c.args.key.now c.way.at c.way.depth c.way.search _ _ (c.way.invariant.here tree is) in
    (search, (search, (search, (search, (search, (lit< tt, (subst (λ a. held a c.way.at ≢ Nothing) (sym c.way.invariant.same_arena) there, omega (arith, c.way.invariant.visits, c.way.invariant.within))))))))

pub returns-then-matches_full_key : goal.returns-then-matches_full_key
returns-then-matches_full_key g c =
    let text = g.K.AsBytes.text in
    let arena = c.args.reader.now.arena in
    let here = c.way.invariant.here in
    let holds = ap (λ a. held a c.way.at) (sym c.way.invariant.same_arena) ∙ c.in-LeafNode.ensures.node in
    let at = λ (tree : Tree (PointerTo g.row.K.Denot g.row.V.Denot g.row.PREFIX_LEN)) (is : IsTreeIn text arena c.args.root tree). here-leaf text arena tree c.args.key.now c.way.at c.way.depth c.way.search _ _ (here tree is) c.in-LeafNode.leaf.now holds in
    let key_is = at-some (λ leaf. slab_key leaf ≡ opaque_key c.way.at) c.cast.result c.unwrap.result c.unwrap.ensures c.cast.ensures.key in
    let pointer = leaf-pointer-is c.way.at c.unwrap.result (leaf_kind arena _ _ c.in-LeafNode.leaf.now holds) key_is in
    let distinct = λ (tree : Tree (PointerTo g.row.K.Denot g.row.V.Denot g.row.PREFIX_LEN)) (is : IsTreeIn text arena c.args.root tree). places-apart text arena [] tree is.stands is.sound in
    record {
      answer = λ tree is. leaf-hit _ _ (leaf_text text c.in-LeafNode.leaf.now) _ (at tree is).same_scan (c.matches_full_key.ensures.0 c.if-matches_full_key.true) ∙ ap (λ h. (h, c.args.key.now) ∷ []) (sym pointer);
      path = λ tree is. (
        (here tree is).steps,
        (subst (IsWay tree (here tree is).steps) (sym pointer) (at tree is).way, λ others way. one-way tree (distinct tree is) (here tree is).steps others c.way.at (at tree is).way (subst (IsWay tree others) pointer way)),
        (c.finish.ensures (here tree is).steps).0 (here tree is).remembered,
      );
      leads =
          let (tree, is) = c.requires.tree in
          let steps = (here tree is).steps in
          let from_root = subst (λ root. LeadsTo arena root (path_of steps) (leaf_pointer c.unwrap.result)) is.at_root (way-leads text arena [] tree steps (leaf_pointer c.unwrap.result) is.stands is.sound (subst (IsWay tree steps) (sym pointer) (at tree is).way)) in
          subst (λ a. LeadsTo a c.args.root c.finish.result (leaf_pointer c.unwrap.result)) (sym (c.look-node.ensures.same_arena ∙ c.way.invariant.same_arena))
          (subst (λ path. LeadsTo arena c.args.root path (leaf_pointer c.unwrap.result)) (sym ((c.finish.ensures steps).0 (here tree is).remembered)) from_root);
      visits = λ tree is. omega (arith, (here tree is).counted, (at tree is).visits, c.look-node.ensures.counted);
      visits_bounded = λ tree is. omega (arith, (here tree is).few, (at tree is).visits, c.way.invariant.within);
      visits_of_found = λ tree is steps way. (at tree is).visits ∙ ap (λ all. length all + 1) (sym (one-way tree (distinct tree is) (here tree is).steps steps c.way.at (at tree is).way (subst (IsWay tree steps) pointer way)));
      same_arena = c.look-node.ensures.same_arena ∙ c.way.invariant.same_arena;
      held = still-held _ arena c.way.at c.unwrap.result c.in-LeafNode.leaf.now (c.look-node.ensures.same_arena ∙ c.way.invariant.same_arena) pointer holds;
    }

pub returns-else-matches_full_key : goal.returns-else-matches_full_key
returns-else-matches_full_key g c =
    let text = g.K.AsBytes.text in
    let arena = c.args.reader.now.arena in
    let here = c.way.invariant.here in
    let holds = ap (λ a. held a c.way.at) (sym c.way.invariant.same_arena) ∙ c.in-LeafNode.ensures.node in
    let at = λ (tree : Tree (PointerTo g.row.K.Denot g.row.V.Denot g.row.PREFIX_LEN)) (is : IsTreeIn text arena c.args.root tree). here-leaf text arena tree c.args.key.now c.way.at c.way.depth c.way.search _ _ (here tree is) c.in-LeafNode.leaf.now holds in
    record {
      answer = λ tree is. leaf-miss _ _ (leaf_text text c.in-LeafNode.leaf.now) _ (at tree is).same_scan (λ same. not-true c.matches_full_key.result c.if-matches_full_key.false (c.matches_full_key.ensures.1 same));
      path = λ tree is. tt;
      leads = tt;
      visits = λ tree is. omega (arith, (here tree is).counted, (at tree is).visits, c.look-node.ensures.counted);
      visits_bounded = λ tree is. omega (arith, (here tree is).few, (at tree is).visits, c.way.invariant.within);
      visits_of_found = λ tree is. tt;
      same_arena = c.look-node.ensures.same_arena ∙ c.way.invariant.same_arena;
      held = tt;
    }

pub returns-in_err-index : goal.returns-in_err-index
returns-in_err-index g c =
    let text = g.K.AsBytes.text in
    let arena = c.args.reader.now.arena in
    let here = c.way.invariant.here in
    let t = told arena c.way.reader.arena c.args.key.now c.way.at c.way.depth c.next_child.result c.way.invariant.same_arena c.look-node.result c.look-node.ensures.node c.in_default.not-LeafNode c.next_child.ensures.on c.next_child.ensures.nowhere in
    let nowhere = told-nowhere _ _ _ _ _ t c.in_err-index.was in
    let met = λ (tree : Tree (PointerTo g.row.K.Denot g.row.V.Denot g.row.PREFIX_LEN)) (is : IsTreeIn text arena c.args.root tree). here-nowhere-met text arena tree c.args.key.now c.way.at c.way.depth c.way.search _ _ (here tree is) t.node t.is nowhere in
    rw c.from_residual.ensures (record {
      answer = λ tree is. here-nowhere-scan text arena tree c.args.key.now c.way.at c.way.depth c.way.search _ _ (here tree is) t.node t.is nowhere;
      path = λ tree is. tt;
      leads = tt;
      visits = λ tree is. omega (arith, (here tree is).counted, met tree is, c.look-node.ensures.counted);
      visits_bounded = λ tree is. omega (arith, (here tree is).few, met tree is, c.way.invariant.within);
      visits_of_found = λ tree is. tt;
      same_arena = c.look-node.ensures.same_arena ∙ c.way.invariant.same_arena;
      held = tt;
    })

pub way-preserved : goal.way-preserved
way-preserved g c =
    let text = g.K.AsBytes.text in
    let arena = c.args.reader.now.arena in
    let t = told arena c.way.reader.arena c.args.key.now c.way.at c.way.depth c.next_child.result c.way.invariant.same_arena c.look-node.result c.look-node.ensures.node c.in_default.not-LeafNode c.next_child.ensures.on c.next_child.ensures.nowhere in
    let next : ℕ × PointerTo g.row.K.Denot g.row.V.Denot g.row.PREFIX_LEN = (c.in_ok-index.index, c.in_ok-index.child) in
    let later = told-later _ _ _ _ _ t next c.in_ok-index.was in
    record {
      within = omega (arith, c.in_ok-index.ensures.within);
      visits = omega (arith, later, c.look-node.ensures.counted, c.way.invariant.visits);
      same_arena = c.look-node.ensures.same_arena ∙ c.way.invariant.same_arena;
      here = λ tree is. here-on text arena tree c.args.key.now c.way.at c.way.depth c.way.search _ _ (c.way.invariant.here tree is) t.node t.is next (told-on _ _ _ _ _ t next c.in_ok-index.was) c.visit_inner_node.new.self
          (λ steps byte there stands. subst (λ b. HasVisited c.visit_inner_node.new.self (steps ++ (c.way.at, b) ∷ [])) (get_or_from_slice_get c.args.key.now c.in_ok-index.index byte 0 there) (c.visit_inner_node.ensures steps stands))
          c.look-node.new.self.budget c.look-node.ensures.counted;
    }
