use Rattle.std.proofs.Common.{◌≡◌, ◌∙◌, ◌+◌, ◌<◌, ◌≤◌, true, false, None, Some, ap, arith, get_or, length, rules, subst, sym}
use Rattle.art_nodes.specs.ChildMap.{child_at}
use Rattle.art_arena.specs.Arena.{HeldLeaf, Nothing, held}
use Rattle.art_arena.specs.InnerRef.{inner_shown}
use Rattle.art_arena.specs.Reader.{shown}
use Rattle.art_arena.proofs.StandingLaws.{as-held}
use Rattle.art_routes.specs.Networks.{IsNetwork, covers}
use Rattle.art_routes.specs.Ways.{IsShortestBelow}
use Rattle.art_routes.specs.KeyLaws.{family_most}
use Rattle.art_routes.proofs.MatchLemmas.{child-way-now, first-found, first-leaf-now, key-length, leaf-first, leaf-missed, mismatch, none-at-end, none-ends, none-under, with-child-now}
use Rattle.art_routes.proofs.way.+shortest_below.Goals as goal

pub returns-then-covers_bits-clause-shortest : goal.returns-then-covers_bits-clause-shortest
returns-then-covers_bits-clause-shortest g t c = λ tree is.
    let room : 20 ≤ 20 = omega arith in
    let leaf_is = sym (c.network_from-network.ensures.network ∙ c.key_ref.ensures) in
    let is_network = subst IsNetwork (sym c.network_from-network.ensures.network) c.network_from-network.ensures.is in
    let test : covers c.network_from-network.result (record { address = c.args.address; length = c.args.most }) ≡ true = sym c.covers_bits.ensures ∙ c.if-covers_bits.true in
    subst (λ v. IsShortestBelow c.args.reader.now.arena tree (record { address = c.args.address; length = c.args.most }) (c.network_from-network.result, v)) (sym c.value_ref.ensures)
    (leaf-first c.args.address c.args.most c.requires.family c.requires.fits c.requires.within c.args.key.now c.requires.key room c.args.reader.now.arena c.args.depth c.requires.depth c.args.at tree is
    c.in-LeafNode.leaf.now c.in-LeafNode.ensures.node c.network_from-network.result leaf_is is_network test)

pub returns-else-covers_bits-clause-shortest : goal.returns-else-covers_bits-clause-shortest
returns-else-covers_bits-clause-shortest g t c = λ tree is.
    let room : 20 ≤ 20 = omega arith in
    let leaf_is = sym (c.network_from-network.ensures.network ∙ c.key_ref.ensures) in
    let is_network = subst IsNetwork (sym c.network_from-network.ensures.network) c.network_from-network.ensures.is in
    let not : covers c.network_from-network.result (record { address = c.args.address; length = c.args.most }) ≡ false = sym c.covers_bits.ensures ∙ c.if-covers_bits.false in
    leaf-missed c.args.address c.args.most c.requires.family c.requires.fits c.requires.within c.args.key.now c.requires.key room c.args.reader.now.arena c.args.depth c.requires.depth c.args.at tree is
    c.in-LeafNode.leaf.now c.in-LeafNode.ensures.node c.network_from-network.result leaf_is is_network not

pub returns-in_err-place : goal.returns-in_err-place
returns-in_err-place g t c =
    let room : 20 ≤ 20 = omega arith in
    let holds = c.look-node.ensures.node ∙ as-held (shown c.look-node.result) (inner_shown c.in_ok-inner.inner) (sym c.in_ok-inner.ensures.node) in
    rw c.from_residual-in_err-place.ensures (record {
      shortest = λ tree is.
          mismatch c.args.address c.args.most c.requires.family c.requires.fits c.requires.within c.args.key.now c.requires.key room c.args.reader.now.arena c.args.depth c.requires.depth c.args.at tree is
          (inner_shown c.in_ok-inner.inner) holds c.in_err-place.ensures.none;
      visits = omega (arith, c.look-node.ensures.counted, c.requires.depth);
      same_arena = c.look-node.ensures.same_arena;
    })

pub first_end-requires : goal.first_end-requires
first_end-requires g t c =
    let width = family_most c.args.address.width c.requires.family in
    let long = key-length c.args.address c.args.most c.requires.family c.requires.fits c.requires.within c.args.key.now c.requires.key in
    let most : c.args.most ≤ 128 = omega (arith, width, c.requires.within) in
    let place : c.in_ok-place.place ≤ 20 = omega (arith, long, most, c.in_ok-place.ensures.within) in
    (search rules, (search rules, (search rules, (search rules, (most, (c.requires.family, (c.requires.fits, place)))))))

pub look-requires : goal.look-requires
look-requires g t c =
    let room : 20 ≤ 20 = omega arith in
    let holds = c.look-node.ensures.node ∙ as-held (shown c.look-node.result) (inner_shown c.in_ok-inner.inner) (sym c.in_ok-inner.ensures.node) in
    let (tree, is) = c.requires.tree in
    let leaf = first-leaf-now c.args.address c.args.most c.requires.family c.requires.fits c.requires.within c.args.key.now c.requires.key room c.args.reader.now.arena c.args.depth c.requires.depth c.args.at tree is (inner_shown c.in_ok-inner.inner) holds c.in_ok-place.place c.in_ok-place.ensures.place c.in_ok-place.ensures.matched c.look-node.new.self.arena c.look-node.ensures.same_arena c.in-Some.child c.in-Some.ensures.some in (
      search rules,
      (
        search rules,
        (
          search rules,
          (
            search rules,
            (
              search rules,
              (
                search rules,
                (
                  (λ free. let wrong : HeldLeaf leaf.0 ≡ Nothing = sym leaf.1 ∙ free in absurd (cc)),
                  omega (arith, c.look-node.ensures.counted, c.requires.budget, c.requires.depth),
                ),
              ),
            ),
          ),
        ),
      ),
    )

pub returns-in-LeafNode-look : goal.returns-in-LeafNode-look
returns-in-LeafNode-look g t c =
    let room : 20 ≤ 20 = omega arith in
    let holds = c.look-node.ensures.node ∙ as-held (shown c.look-node.result) (inner_shown c.in_ok-inner.inner) (sym c.in_ok-inner.ensures.node) in
    let end = c.in-Some.ensures.some in
    let there = ap (λ a. held a c.in-Some.child) (sym c.look-node.ensures.same_arena) ∙ c.in-LeafNode-look.ensures.node in
    let route_is = sym (c.network_from.ensures.network ∙ c.key_ref-in-LeafNode-look.ensures) in
    let is_network = subst IsNetwork (sym c.network_from.ensures.network) c.network_from.ensures.is in
    record {
      shortest = λ tree is.
          subst (λ v. IsShortestBelow c.args.reader.now.arena tree (record { address = c.args.address; length = c.args.most }) (c.network_from.result, v)) (sym c.value_ref-in-LeafNode-look.ensures)
          (first-found c.args.address c.args.most c.requires.family c.requires.fits c.requires.within c.args.key.now c.requires.key room c.args.reader.now.arena c.args.depth c.requires.depth c.args.at tree is (inner_shown c.in_ok-inner.inner) holds c.in_ok-place.place c.in_ok-place.ensures.place c.in_ok-place.ensures.matched c.in-Some.child end.rest end.end end.is c.in-LeafNode-look.leaf.now there c.network_from.result route_is is_network end.first);
      visits = omega (arith, c.look-node.ensures.counted, c.look.ensures.counted, c.requires.depth);
      same_arena = c.look.ensures.same_arena ∙ c.look-node.ensures.same_arena;
    }

pub returns-in_default-look : goal.returns-in_default-look
returns-in_default-look g t c =
    let room : 20 ≤ 20 = omega arith in
    let holds = c.look-node.ensures.node ∙ as-held (shown c.look-node.result) (inner_shown c.in_ok-inner.inner) (sym c.in_ok-inner.ensures.node) in
    let (tree, is) = c.requires.tree in
    let leaf = first-leaf-now c.args.address c.args.most c.requires.family c.requires.fits c.requires.within c.args.key.now c.requires.key room c.args.reader.now.arena c.args.depth c.requires.depth c.args.at tree is (inner_shown c.in_ok-inner.inner) holds c.in_ok-place.place c.in_ok-place.ensures.place c.in_ok-place.ensures.matched c.look-node.new.self.arena c.look-node.ensures.same_arena c.in-Some.child c.in-Some.ensures.some in
    let there = sym leaf.1 ∙ c.look.ensures.node in
    search rules

pub returns-then-key-place : goal.returns-then-key-place
returns-then-key-place g t c =
    let room : 20 ≤ 20 = omega arith in
    let holds = c.look-node.ensures.node ∙ as-held (shown c.look-node.result) (inner_shown c.in_ok-inner.inner) (sym c.in_ok-inner.ensures.node) in
    record {
      shortest = λ tree is. none-ends c.args.address c.args.most c.requires.family c.requires.fits c.requires.within c.args.key.now c.requires.key room c.args.reader.now.arena c.args.depth c.requires.depth c.args.at tree is (inner_shown c.in_ok-inner.inner) holds c.in_ok-place.place c.in_ok-place.ensures.place c.in_ok-place.ensures.matched (none-at-end c.args.address c.args.most c.requires.family c.requires.fits c.requires.within c.args.key.now c.requires.key room c.args.reader.now.arena c.args.depth c.requires.depth c.args.at tree is (inner_shown c.in_ok-inner.inner) holds c.in_ok-place.place c.in_ok-place.ensures.place c.in_ok-place.ensures.matched c.if-key-place.true) c.in_default-first_end.ensures.none;
      visits = omega (arith, c.look-node.ensures.counted, c.requires.depth);
      same_arena = c.look-node.ensures.same_arena;
    }

pub returns-in_err-child : goal.returns-in_err-child
returns-in_err-child g t c =
    let room : 20 ≤ 20 = omega arith in
    let holds = c.look-node.ensures.node ∙ as-held (shown c.look-node.result) (inner_shown c.in_ok-inner.inner) (sym c.in_ok-inner.ensures.node) in
    let none : child_at (inner_shown c.in_ok-inner.inner).children (get_or c.args.key.now c.in_ok-place.place 0) ≡ None = sym c.lookup_child.ensures.child ∙ c.in_err-child.was in
    rw c.from_residual-in_err-child.ensures (record {
      shortest = λ tree is. none-ends c.args.address c.args.most c.requires.family c.requires.fits c.requires.within c.args.key.now c.requires.key room c.args.reader.now.arena c.args.depth c.requires.depth c.args.at tree is (inner_shown c.in_ok-inner.inner) holds c.in_ok-place.place c.in_ok-place.ensures.place c.in_ok-place.ensures.matched (none-under c.args.address c.args.most c.requires.family c.requires.fits c.requires.within c.args.key.now c.requires.key room c.args.reader.now.arena c.args.depth c.requires.depth c.args.at tree is (inner_shown c.in_ok-inner.inner) holds c.in_ok-place.place c.in_ok-place.ensures.place c.in_ok-place.ensures.matched none) c.in_default-first_end.ensures.none;
      visits = omega (arith, c.look-node.ensures.counted, c.requires.depth);
      same_arena = c.look-node.ensures.same_arena;
    })

pub shortest_below-requires : goal.shortest_below-requires
shortest_below-requires g t c κs within =
    let room : 20 ≤ 20 = omega arith in
    let holds = c.look-node.ensures.node ∙ as-held (shown c.look-node.result) (inner_shown c.in_ok-inner.inner) (sym c.in_ok-inner.ensures.node) in
    let (tree, is) = c.requires.tree in
    let more : c.in_ok-place.place + 1 < length c.args.key.now = omega (arith, c.if-key-place.false) in
    let child : child_at (inner_shown c.in_ok-inner.inner).children (get_or c.args.key.now c.in_ok-place.place 0) ≡ Some c.in_ok-child.child = sym c.lookup_child.ensures.child ∙ c.in_ok-child.was in
    let way = child-way-now c.args.address c.args.most c.requires.family c.requires.fits c.requires.within c.args.key.now c.requires.key room c.args.reader.now.arena c.args.depth c.requires.depth c.args.at tree is (inner_shown c.in_ok-inner.inner) holds c.in_ok-place.place c.in_ok-place.ensures.place c.in_ok-place.ensures.matched more c.in_ok-child.child child c.look-node.new.self.arena c.look-node.ensures.same_arena in
    let fewer : c.look-node.new.self.budget < t = omega (arith, c.look-node.ensures.counted, c.decreases) in
    let budget : length c.args.key.now < c.in_ok-place.place + 1 + c.look-node.new.self.budget = omega (arith, c.look-node.ensures.counted, c.requires.budget, c.in_ok-place.ensures.place) in
    search rules

pub returns : goal.returns
returns g t c =
    let room : 20 ≤ 20 = omega arith in
    let holds = c.look-node.ensures.node ∙ as-held (shown c.look-node.result) (inner_shown c.in_ok-inner.inner) (sym c.in_ok-inner.ensures.node) in
    let more : c.in_ok-place.place + 1 < length c.args.key.now = omega (arith, c.if-key-place.false) in
    let child : child_at (inner_shown c.in_ok-inner.inner).children (get_or c.args.key.now c.in_ok-place.place 0) ≡ Some c.in_ok-child.child = sym c.lookup_child.ensures.child ∙ c.in_ok-child.was in
    record {
      shortest = λ tree is. with-child-now c.args.address c.args.most c.requires.family c.requires.fits c.requires.within c.args.key.now c.requires.key room c.args.reader.now.arena c.args.depth c.requires.depth c.args.at tree is (inner_shown c.in_ok-inner.inner) holds c.in_ok-place.place c.in_ok-place.ensures.place c.in_ok-place.ensures.matched more c.in_ok-child.child child c.look-node.new.self.arena c.look-node.ensures.same_arena c.in_default-first_end.ensures.none c.shortest_below.result c.shortest_below.ensures.shortest;
      visits = omega (arith, c.look-node.ensures.counted, c.shortest_below.ensures.visits, c.in_ok-place.ensures.place);
      same_arena = c.shortest_below.ensures.same_arena ∙ c.look-node.ensures.same_arena;
    }
