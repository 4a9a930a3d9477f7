use Rattle.art_map.proofs.LastLemmas.{last-added, last-entries}
use Rattle.art_map.proofs.RoomLemmas.{key-never-refused}
use Rattle.art_map.proofs.room.add_last.Goals as goal

pub unreachable-requires : goal.unreachable-requires
unreachable-requires g c =
    let old = c.args.tree.now.arena in
    key-never-refused g.K.KeyBytes.is_key g.K.KeyBytes.encoded old c.requires.map.anchors (c.encodings_never_clash.ensures old)
    c.args.key.now c.requires.key c.in_ok-anchor.anchor c.in_ok-anchor.ensures.bytes c.in-Err.field-0.refusal
    (c.in-Err.ensures.room_suffices 0 c.requires.room) c.in-Err.ensures.refusal_due

pub returns-clause-map : goal.returns-clause-map
returns-clause-map g c =
    last-added g.K.KeyBytes.order g.K.Ord.cmp g.met.K.RadixKey.ordered g.met.K.Ord.total g.K.KeyBytes.is_key g.K.KeyBytes.encoded g.met.K.RadixKey.sorted
    c.args.key.now c.requires.key c.args._head.now.entries c.args.tree.now.arena c.requires.map c.add_page.new.tree.arena c.requires.above c.requires.anchors
    c.in_ok-anchor.anchor c.in_ok-anchor.ensures.bytes c.in_ok-page.page c.in_ok-page.ensures.entries c.in-Ok.ensures.added

pub returns-clause-same : goal.returns-clause-same
returns-clause-same g c =
    last-entries g.K.KeyBytes.order g.K.Ord.cmp g.met.K.RadixKey.ordered g.met.K.Ord.total g.K.KeyBytes.is_key g.K.KeyBytes.encoded g.met.K.RadixKey.sorted
    c.args.key.now c.requires.key c.args._head.now.entries c.args.tree.now.arena c.requires.map c.add_page.new.tree.arena c.requires.above c.requires.anchors
    c.in_ok-anchor.anchor c.in_ok-anchor.ensures.bytes c.in_ok-page.page c.in_ok-page.ensures.entries c.in-Ok.ensures.added
