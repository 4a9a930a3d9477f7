use Rattle.std.proofs.Common.{◌≡◌, ◌∙◌, ◌+◌, ap, arith, length, refl, rules, subst, take}
use Rattle.art_steps.specs.Art.{IsArt}
use Rattle.art_tree.specs.Entries.{entries_of}
use Rattle.art_routes.specs.Keys.{key_text}
use Rattle.art_routes.specs.Networks.{Block}
use Rattle.art_routes.specs.Tables.{IsLongestOver, NoneCovers, route_now}
use Rattle.art_routes.specs.Ways.{IsLongestBelow, NoneBelow}
use Rattle.art_routes.proofs.MatchLemmas.{all-looks, key-length}
use Rattle.art_routes.proofs.ResultLemmas.{match-map}
use Rattle.art_routes.proofs.TreeRoutes.{longest-of-table, none-of-table, root-way}
use Rattle.art_routes.proofs.way.longest_in.Goals as goal

pub longest_below-requires : goal.longest_below-requires
longest_below-requires g c =
    let arena = c.args.reader.now.arena in
    let (tree, alone) = subst (λ r. IsArt key_text arena r) c.in_ok-root.was c.requires.one_tree in
    let root = c.in_ok-root.root in
    let way = root-way arena root tree alone (c.entries_are_what_leaves_hold.ensures.held arena root tree alone) (c.entries_are_what_leaves_hold.ensures.leaves arena root tree alone)
    (c.entries_are_what_leaves_hold.ensures.texts arena root tree alone) (c.entries_are_one_list.ensures.members arena) c.requires.keys (entries_of key_text arena) refl in
    let key = take (c.from.result + 2) c.text_of-text.result in
    let key_is : key ≡ key_text (record { address = c.args.address; length = c.args.length }) = ap (λ n. take (n + 2) c.text_of-text.result) c.from.ensures ∙ c.text_of-text.ensures.text in
    let long = key-length c.args.address c.args.length c.requires.family c.requires.fits c.requires.length key key_is in (
      search rules,
      (
        search rules,
        (
          search rules,
          (
            search rules,
            (
              search rules,
              (
                c.requires.family,
                (
                  c.requires.fits,
                  (
                    c.requires.length,
                    (
                      key_is,
                      (
                        omega (arith, long),
                        (
                          (tree, way),
                          omega (arith, long, c.requires.budget),
                        ),
                      ),
                    ),
                  ),
                ),
              ),
            ),
          ),
        ),
      ),
    )

pub returns : goal.returns
returns g c =
    let arena = c.args.reader.now.arena in
    let (tree, alone) = subst (λ r. IsArt key_text arena r) c.in_ok-root.was c.requires.one_tree in
    let root = c.in_ok-root.root in
    let held = c.entries_are_what_leaves_hold.ensures.held arena root tree alone in
    let leaves = c.entries_are_what_leaves_hold.ensures.leaves arena root tree alone in
    let texts = c.entries_are_what_leaves_hold.ensures.texts arena root tree alone in
    let members = c.entries_are_one_list.ensures.members arena in
    let keys = c.requires.keys in
    let way = root-way arena root tree alone held leaves texts members keys (entries_of key_text arena) refl in
    let target : Block = record { address = c.args.address; length = c.args.length } in
    let key = take (c.from.result + 2) c.text_of-text.result in
    let key_is : key ≡ key_text target = ap (λ n. take (n + 2) c.text_of-text.result) c.from.ensures ∙ c.text_of-text.ensures.text in
    let long = key-length c.args.address c.args.length c.requires.family c.requires.fits c.requires.length key key_is in
    record {
      longest =
          match-map c.longest_below.result (NoneBelow tree target) (NoneCovers (entries_of key_text arena) target)
          (λ route. IsLongestBelow arena tree target (route_now route)) (λ route. IsLongestOver (entries_of key_text arena) target (route_now route))
          (none-of-table arena root tree alone held leaves texts members keys (entries_of key_text arena) refl target)
          (λ route. longest-of-table arena root tree alone held leaves texts members keys (entries_of key_text arena) refl target (route_now route))
          (c.longest_below.ensures.longest tree way);
      visits = all-looks c.longest_below.result c.args.reader.now.budget c.longest_below.new.reader.budget (length key) c.args.length long c.longest_below.ensures.visits;
      same_arena = c.longest_below.ensures.same_arena;
    }
