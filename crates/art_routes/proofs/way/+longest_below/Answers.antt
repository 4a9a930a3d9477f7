use Rattle.std.proofs.Common.{◌≡◌, ◌∙◌, ◌+◌, ◌<◌, ◌≤◌, true, false, None, Some, arith, get_or, length, rules, subst, sym}
use Rattle.art_nodes.specs.ChildMap.{child_at}
use Rattle.art_arena.specs.InnerRef.{inner_shown}
use Rattle.art_arena.specs.Reader.{shown}
use Rattle.art_arena.proofs.StandingLaws.{as-held}
use Rattle.art_routes.specs.Networks.{IsNetwork, covers}
use Rattle.art_routes.specs.Ways.{IsLongestBelow}
use Rattle.art_routes.specs.KeyLaws.{family_most}
use Rattle.art_routes.specs.Tables.{route_now}
use Rattle.art_routes.proofs.MatchLemmas.{child-way-now, end-leaf-now, found-in-child-now, key-length, leaf-found, leaf-missed, looks-here, looks-on, mismatch, none-at-end, none-in-child-now, none-under, with-ends-now}
use Rattle.art_routes.proofs.way.+longest_below.Goals as goal

pub returns-then-covers_bits-clause-longest : goal.returns-then-covers_bits-clause-longest
returns-then-covers_bits-clause-longest g t c = λ tree is.
    let room : 20 ≤ 20 = omega arith in
    let leaf_is = sym (c.network_from-network.ensures.network ∙ c.key_ref.ensures) in
    let is_network = subst IsNetwork (sym c.network_from-network.ensures.network) c.network_from-network.ensures.is in
    let test : covers c.network_from-network.result (record { address = c.args.address; length = c.args.most }) ≡ true = sym c.covers_bits.ensures ∙ c.if-covers_bits.true in
    subst (λ v. IsLongestBelow c.args.reader.now.arena tree (record { address = c.args.address; length = c.args.most }) (c.network_from-network.result, v)) (sym c.value_ref.ensures)
    (leaf-found c.args.address c.args.most c.requires.family c.requires.fits c.requires.within c.args.key.now c.requires.key room c.args.reader.now.arena c.args.depth c.requires.depth c.args.at tree is
    c.in-LeafNode.leaf.now c.in-LeafNode.ensures.node c.network_from-network.result leaf_is is_network test)

pub returns-else-covers_bits-clause-longest : goal.returns-else-covers_bits-clause-longest
returns-else-covers_bits-clause-longest g t c = λ tree is.
    let room : 20 ≤ 20 = omega arith in
    let leaf_is = sym (c.network_from-network.ensures.network ∙ c.key_ref.ensures) in
    let is_network = subst IsNetwork (sym c.network_from-network.ensures.network) c.network_from-network.ensures.is in
    let not : covers c.network_from-network.result (record { address = c.args.address; length = c.args.most }) ≡ false = sym c.covers_bits.ensures ∙ c.if-covers_bits.false in
    leaf-missed c.args.address c.args.most c.requires.family c.requires.fits c.requires.within c.args.key.now c.requires.key room c.args.reader.now.arena c.args.depth c.requires.depth c.args.at tree is
    c.in-LeafNode.leaf.now c.in-LeafNode.ensures.node c.network_from-network.result leaf_is is_network not

pub returns-in_err-place : goal.returns-in_err-place
returns-in_err-place g t c =
    let room : 20 ≤ 20 = omega arith in
    let holds = c.look-node.ensures.node ∙ as-held (shown c.look-node.result) (inner_shown c.in_ok-inner.inner) (sym c.in_ok-inner.ensures.node) in
    rw c.from_residual-in_err-place.ensures (record {
      longest = λ tree is.
          mismatch c.args.address c.args.most c.requires.family c.requires.fits c.requires.within c.args.key.now c.requires.key room c.args.reader.now.arena c.args.depth c.requires.depth c.args.at tree is
          (inner_shown c.in_ok-inner.inner) holds c.in_err-place.ensures.none;
      visits = omega (arith, c.look-node.ensures.counted, c.requires.depth);
      same_arena = c.look-node.ensures.same_arena;
    })

pub route_at_end-requires : goal.route_at_end-requires
route_at_end-requires g t c =
    let room : 20 ≤ 20 = omega arith in
    let holds = c.look-node.ensures.node ∙ as-held (shown c.look-node.result) (inner_shown c.in_ok-inner.inner) (sym c.in_ok-inner.ensures.node) in
    let (tree, is) = c.requires.tree in
    let width = family_most c.args.address.width c.requires.family in
    let long = key-length c.args.address c.args.most c.requires.family c.requires.fits c.requires.within c.args.key.now c.requires.key in
    let place : c.in_ok-place.place ≤ 20 = omega (arith, width, c.requires.within, long, c.in_ok-place.ensures.within) in (
      search rules,
      (
        search rules,
        (
          search rules,
          (
            search rules,
            (
              search rules,
              (
                c.requires.family,
                (
                  c.requires.fits,
                  (
                    c.requires.within,
                    (
                      c.requires.key,
                      (
                        place,
                        (
                          (λ child end. end-leaf-now c.args.address c.args.most c.requires.family c.requires.fits c.requires.within c.args.key.now c.requires.key room c.args.reader.now.arena c.args.depth c.requires.depth c.args.at tree is (inner_shown c.in_ok-inner.inner) holds c.in_ok-place.place c.in_ok-place.ensures.place c.in_ok-place.ensures.matched c.look-node.new.self.arena (c.look-node.ensures.same_arena) child end),
                          omega (arith, c.look-node.ensures.counted, c.requires.budget, c.requires.depth),
                        ),
                      ),
                    ),
                  ),
                ),
              ),
            ),
          ),
        ),
      ),
    )

pub returns-then-key-place : goal.returns-then-key-place
returns-then-key-place g t c =
    let room : 20 ≤ 20 = omega arith in
    let holds = c.look-node.ensures.node ∙ as-held (shown c.look-node.result) (inner_shown c.in_ok-inner.inner) (sym c.in_ok-inner.ensures.node) in
    record {
      longest = λ tree is.
          with-ends-now c.args.address c.args.most c.requires.family c.requires.fits c.requires.within c.args.key.now c.requires.key room c.args.reader.now.arena c.args.depth c.requires.depth c.args.at tree is (inner_shown c.in_ok-inner.inner) holds c.in_ok-place.place c.in_ok-place.ensures.place c.in_ok-place.ensures.matched c.look-node.new.self.arena c.look-node.ensures.same_arena (none-at-end c.args.address c.args.most c.requires.family c.requires.fits c.requires.within c.args.key.now c.requires.key room c.args.reader.now.arena c.args.depth c.requires.depth c.args.at tree is (inner_shown c.in_ok-inner.inner) holds c.in_ok-place.place c.in_ok-place.ensures.place c.in_ok-place.ensures.matched c.if-key-place.true) c.route_at_end.result c.route_at_end.ensures.found;
      visits = looks-here c.route_at_end.result c.args.reader.now.budget c.look-node.new.self.budget c.route_at_end.new.reader.budget c.args.depth (length c.args.key.now) c.look-node.ensures.counted c.requires.depth c.route_at_end.ensures.visits;
      same_arena = c.route_at_end.ensures.same_arena ∙ c.look-node.ensures.same_arena;
    }

pub route_at_end-requires-in_default-lookup_child : goal.route_at_end-requires-in_default-lookup_child
route_at_end-requires-in_default-lookup_child g t c =
    let room : 20 ≤ 20 = omega arith in
    let holds = c.look-node.ensures.node ∙ as-held (shown c.look-node.result) (inner_shown c.in_ok-inner.inner) (sym c.in_ok-inner.ensures.node) in
    let (tree, is) = c.requires.tree in
    let width = family_most c.args.address.width c.requires.family in
    let long = key-length c.args.address c.args.most c.requires.family c.requires.fits c.requires.within c.args.key.now c.requires.key in
    let place : c.in_ok-place.place ≤ 20 = omega (arith, width, c.requires.within, long, c.in_ok-place.ensures.within) in (
      search rules,
      (
        search rules,
        (
          search rules,
          (
            search rules,
            (
              search rules,
              (
                c.requires.family,
                (
                  c.requires.fits,
                  (
                    c.requires.within,
                    (
                      c.requires.key,
                      (
                        place,
                        (
                          (λ child end. end-leaf-now c.args.address c.args.most c.requires.family c.requires.fits c.requires.within c.args.key.now c.requires.key room c.args.reader.now.arena c.args.depth c.requires.depth c.args.at tree is (inner_shown c.in_ok-inner.inner) holds c.in_ok-place.place c.in_ok-place.ensures.place c.in_ok-place.ensures.matched c.look-node.new.self.arena (c.look-node.ensures.same_arena) child end),
                          omega (arith, c.look-node.ensures.counted, c.requires.budget, c.requires.depth),
                        ),
                      ),
                    ),
                  ),
                ),
              ),
            ),
          ),
        ),
      ),
    )

pub returns-in_default-lookup_child : goal.returns-in_default-lookup_child
returns-in_default-lookup_child g t c =
    let room : 20 ≤ 20 = omega arith in
    let holds = c.look-node.ensures.node ∙ as-held (shown c.look-node.result) (inner_shown c.in_ok-inner.inner) (sym c.in_ok-inner.ensures.node) in
    let found = c.route_at_end-in_default-lookup_child in
    let none : child_at (inner_shown c.in_ok-inner.inner).children (get_or c.args.key.now c.in_ok-place.place 0) ≡ None = sym c.lookup_child.ensures.child ∙ c.in_default-lookup_child.is in
    record {
      longest = λ tree is.
          with-ends-now c.args.address c.args.most c.requires.family c.requires.fits c.requires.within c.args.key.now c.requires.key room c.args.reader.now.arena c.args.depth c.requires.depth c.args.at tree is (inner_shown c.in_ok-inner.inner) holds c.in_ok-place.place c.in_ok-place.ensures.place c.in_ok-place.ensures.matched c.look-node.new.self.arena c.look-node.ensures.same_arena (none-under c.args.address c.args.most c.requires.family c.requires.fits c.requires.within c.args.key.now c.requires.key room c.args.reader.now.arena c.args.depth c.requires.depth c.args.at tree is (inner_shown c.in_ok-inner.inner) holds c.in_ok-place.place c.in_ok-place.ensures.place c.in_ok-place.ensures.matched none) found.result found.ensures.found;
      visits = looks-here found.result c.args.reader.now.budget c.look-node.new.self.budget found.new.reader.budget c.args.depth (length c.args.key.now) c.look-node.ensures.counted c.requires.depth found.ensures.visits;
      same_arena = found.ensures.same_arena ∙ c.look-node.ensures.same_arena;
    }

pub longest_below-requires : goal.longest_below-requires
longest_below-requires g t c κs within =
    let room : 20 ≤ 20 = omega arith in
    let holds = c.look-node.ensures.node ∙ as-held (shown c.look-node.result) (inner_shown c.in_ok-inner.inner) (sym c.in_ok-inner.ensures.node) in
    let (tree, is) = c.requires.tree in
    let more : c.in_ok-place.place + 1 < length c.args.key.now = omega (arith, c.if-key-place.false) in
    let child : child_at (inner_shown c.in_ok-inner.inner).children (get_or c.args.key.now c.in_ok-place.place 0) ≡ Some c.in-Some.child = sym c.lookup_child.ensures.child ∙ c.in-Some.is in
    let way = child-way-now c.args.address c.args.most c.requires.family c.requires.fits c.requires.within c.args.key.now c.requires.key room c.args.reader.now.arena c.args.depth c.requires.depth c.args.at tree is (inner_shown c.in_ok-inner.inner) holds c.in_ok-place.place c.in_ok-place.ensures.place c.in_ok-place.ensures.matched more c.in-Some.child child c.look-node.new.self.arena c.look-node.ensures.same_arena in
    let fewer : c.look-node.new.self.budget < t = omega (arith, c.look-node.ensures.counted, c.decreases) in
    let budget : length c.args.key.now < c.in_ok-place.place + 1 + c.look-node.new.self.budget = omega (arith, c.look-node.ensures.counted, c.requires.budget, c.in_ok-place.ensures.place) in
    search rules

pub route_at_end-requires-in-None : goal.route_at_end-requires-in-None
route_at_end-requires-in-None g t c =
    let room : 20 ≤ 20 = omega arith in
    let holds = c.look-node.ensures.node ∙ as-held (shown c.look-node.result) (inner_shown c.in_ok-inner.inner) (sym c.in_ok-inner.ensures.node) in
    let (tree, is) = c.requires.tree in
    let width = family_most c.args.address.width c.requires.family in
    let long = key-length c.args.address c.args.most c.requires.family c.requires.fits c.requires.within c.args.key.now c.requires.key in
    let place : c.in_ok-place.place ≤ 20 = omega (arith, width, c.requires.within, long, c.in_ok-place.ensures.within) in (
      search rules,
      (
        search rules,
        (
          search rules,
          (
            search rules,
            (
              search rules,
              (
                c.requires.family,
                (
                  c.requires.fits,
                  (
                    c.requires.within,
                    (
                      c.requires.key,
                      (
                        place,
                        (
                          (λ child end. end-leaf-now c.args.address c.args.most c.requires.family c.requires.fits c.requires.within c.args.key.now c.requires.key room c.args.reader.now.arena c.args.depth c.requires.depth c.args.at tree is (inner_shown c.in_ok-inner.inner) holds c.in_ok-place.place c.in_ok-place.ensures.place c.in_ok-place.ensures.matched c.longest_below.new.reader.arena (c.longest_below.ensures.same_arena ∙ c.look-node.ensures.same_arena) child end),
                          omega (arith, c.look-node.ensures.counted, c.requires.budget, c.in_ok-place.ensures.place, c.in-None.ensures.visits, c.if-key-place.false),
                        ),
                      ),
                    ),
                  ),
                ),
              ),
            ),
          ),
        ),
      ),
    )

pub returns-in-Some-longest_below : goal.returns-in-Some-longest_below
returns-in-Some-longest_below g t c =
    let room : 20 ≤ 20 = omega arith in
    let holds = c.look-node.ensures.node ∙ as-held (shown c.look-node.result) (inner_shown c.in_ok-inner.inner) (sym c.in_ok-inner.ensures.node) in
    let more : c.in_ok-place.place + 1 < length c.args.key.now = omega (arith, c.if-key-place.false) in
    let child : child_at (inner_shown c.in_ok-inner.inner).children (get_or c.args.key.now c.in_ok-place.place 0) ≡ Some c.in-Some.child = sym c.lookup_child.ensures.child ∙ c.in-Some.is in
    let deep : c.args.depth ≤ c.in_ok-place.place = omega (arith, c.in_ok-place.ensures.place) in
    record {
      longest = λ tree is.
          found-in-child-now c.args.address c.args.most c.requires.family c.requires.fits c.requires.within c.args.key.now c.requires.key room c.args.reader.now.arena c.args.depth c.requires.depth c.args.at tree is (inner_shown c.in_ok-inner.inner) holds c.in_ok-place.place c.in_ok-place.ensures.place c.in_ok-place.ensures.matched more c.in-Some.child child c.look-node.new.self.arena c.look-node.ensures.same_arena (route_now c.in-Some-longest_below.found) c.in-Some-longest_below.ensures.longest;
      visits = omega (arith, c.look-node.ensures.counted, deep, c.in-Some-longest_below.ensures.visits);
      same_arena = c.longest_below.ensures.same_arena ∙ c.look-node.ensures.same_arena;
    }

pub returns-in-None : goal.returns-in-None
returns-in-None g t c =
    let room : 20 ≤ 20 = omega arith in
    let holds = c.look-node.ensures.node ∙ as-held (shown c.look-node.result) (inner_shown c.in_ok-inner.inner) (sym c.in_ok-inner.ensures.node) in
    let more : c.in_ok-place.place + 1 < length c.args.key.now = omega (arith, c.if-key-place.false) in
    let child : child_at (inner_shown c.in_ok-inner.inner).children (get_or c.args.key.now c.in_ok-place.place 0) ≡ Some c.in-Some.child = sym c.lookup_child.ensures.child ∙ c.in-Some.is in
    let deep : c.args.depth ≤ c.in_ok-place.place = omega (arith, c.in_ok-place.ensures.place) in
    let found = c.route_at_end-in-None in
    record {
      longest = λ tree is.
          with-ends-now c.args.address c.args.most c.requires.family c.requires.fits c.requires.within c.args.key.now c.requires.key room c.args.reader.now.arena c.args.depth c.requires.depth c.args.at tree is (inner_shown c.in_ok-inner.inner) holds c.in_ok-place.place c.in_ok-place.ensures.place c.in_ok-place.ensures.matched c.longest_below.new.reader.arena (c.longest_below.ensures.same_arena ∙ c.look-node.ensures.same_arena) (none-in-child-now c.args.address c.args.most c.requires.family c.requires.fits c.requires.within c.args.key.now c.requires.key room c.args.reader.now.arena c.args.depth c.requires.depth c.args.at tree is (inner_shown c.in_ok-inner.inner) holds c.in_ok-place.place c.in_ok-place.ensures.place c.in_ok-place.ensures.matched more c.in-Some.child child c.look-node.new.self.arena c.look-node.ensures.same_arena c.in-None.ensures.longest) found.result found.ensures.found;
      visits = looks-on found.result c.args.reader.now.budget c.look-node.new.self.budget c.longest_below.new.reader.budget found.new.reader.budget c.args.depth c.in_ok-place.place (length c.args.key.now) c.look-node.ensures.counted deep c.in-None.ensures.visits found.ensures.visits;
      same_arena = found.ensures.same_arena ∙ c.longest_below.ensures.same_arena ∙ c.look-node.ensures.same_arena;
    }
