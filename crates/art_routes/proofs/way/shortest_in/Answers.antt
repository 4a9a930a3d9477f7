use Rattle.std.proofs.Common.{◌≡◌, ◌∙◌, ◌+◌, ap, arith, refl, rules, subst, take}
use Rattle.art_steps.specs.Art.{IsArt}
use Rattle.art_tree.specs.Entries.{entries_of}
use Rattle.art_routes.specs.Keys.{key_text}
use Rattle.art_routes.specs.Networks.{Block}
use Rattle.art_routes.specs.Tables.{IsShortest, NoneContains, route_now}
use Rattle.art_routes.specs.Ways.{IsShortestBelow, NoneBelow}
use Rattle.art_routes.proofs.MatchLemmas.{key-length}
use Rattle.art_routes.proofs.ResultLemmas.{match-map}
use Rattle.art_routes.proofs.TreeRoutes.{networks-of-table, none-of-table, root-way, shortest-of-table}
use Rattle.art_routes.proofs.CoverLemmas.{none_in}
use Rattle.art_routes.proofs.way.shortest_in.Goals as goal

pub shortest_below-requires : goal.shortest_below-requires
shortest_below-requires g c =
    let arena = c.args.reader.now.arena in
    let (tree, alone) = subst (λ r. IsArt key_text arena r) c.in_ok-root.was c.requires.one_tree in
    let root = c.in_ok-root.root in
    let way = root-way arena root tree alone (c.entries_are_what_leaves_hold.ensures.held arena root tree alone) (c.entries_are_what_leaves_hold.ensures.leaves arena root tree alone)
    (c.entries_are_what_leaves_hold.ensures.texts arena root tree alone) (c.entries_are_one_list.ensures.members arena) c.requires.keys (entries_of key_text arena) refl in
    let key = take (c.from.result + 2) c.text_of-text.result in
    let key_is : key ≡ key_text (record { address = c.args.address; length = c.args.address.width }) = ap (λ n. take (n + 2) c.text_of-text.result) c.from.ensures ∙ c.text_of-text.ensures.text in
    let long = key-length c.args.address c.args.address.width c.requires.family c.requires.fits (omega arith) key key_is in (
      search rules,
      (
        search rules,
        (
          search rules,
          (
            search rules,
            (
              search rules,
              (
                c.requires.family,
                (
                  c.requires.fits,
                  (
                    (omega arith),
                    (
                      key_is,
                      (
                        omega (arith, long),
                        (
                          (tree, way),
                          omega (arith, long, c.requires.budget),
                        ),
                      ),
                    ),
                  ),
                ),
              ),
            ),
          ),
        ),
      ),
    )

pub returns : goal.returns
returns g c =
    let arena = c.args.reader.now.arena in
    let (tree, alone) = subst (λ r. IsArt key_text arena r) c.in_ok-root.was c.requires.one_tree in
    let root = c.in_ok-root.root in
    let held = c.entries_are_what_leaves_hold.ensures.held arena root tree alone in
    let leaves = c.entries_are_what_leaves_hold.ensures.leaves arena root tree alone in
    let texts = c.entries_are_what_leaves_hold.ensures.texts arena root tree alone in
    let members = c.entries_are_one_list.ensures.members arena in
    let keys = c.requires.keys in
    let way = root-way arena root tree alone held leaves texts members keys (entries_of key_text arena) refl in
    let target : Block = record { address = c.args.address; length = c.args.address.width } in
    let key = take (c.from.result + 2) c.text_of-text.result in
    let key_is : key ≡ key_text target = ap (λ n. take (n + 2) c.text_of-text.result) c.from.ensures ∙ c.text_of-text.ensures.text in
    let long = key-length c.args.address c.args.address.width c.requires.family c.requires.fits (omega arith) key key_is in
    let networks = networks-of-table arena root tree alone held leaves texts members keys (entries_of key_text arena) refl in
    record {
      shortest =
          match-map c.shortest_below.result (NoneBelow tree target) (NoneContains (entries_of key_text arena) c.args.address)
          (λ route. IsShortestBelow arena tree target (route_now route)) (λ route. IsShortest (entries_of key_text arena) c.args.address (route_now route))
          (λ none. none_in (entries_of key_text arena) networks c.args.address (none-of-table arena root tree alone held leaves texts members keys (entries_of key_text arena) refl target none))
          (λ route. shortest-of-table arena root tree alone held leaves texts members keys (entries_of key_text arena) refl c.args.address (route_now route))
          (c.shortest_below.ensures.shortest tree way);
      visits = omega (arith, long, c.shortest_below.ensures.visits);
      same_arena = c.shortest_below.ensures.same_arena;
    }
