use Rattle.art_map.specs.Trees.{pages_of}
use Rattle.art_map.proofs.FewerLemmas.{head-left, last-of-head, none-in-head, none-left}
use Rattle.art_map.proofs.ends.take_last_over.Goals as goal

pub returns-in-None-clause-map : goal.returns-in-None-clause-map
returns-in-None-clause-map g c =
    head-left c.args.head.now.entries c.take_last_in.new.page.entries c.take_last_in.result c.take_last_in.ensures.last c.take_last_in.ensures.same
    g.K.KeyBytes.order g.K.KeyBytes.is_key g.K.KeyBytes.encoded _ c.take_last_of_tree.ensures.map

pub returns-in-None-clause-last : goal.returns-in-None-clause-last
returns-in-None-clause-last g c =
    last-of-head c.args.head.now.entries c.take_last_in.new.page.entries (pages_of c.args.tree.now.arena) (pages_of c.take_last_of_tree.new.tree.arena)
    c.in-None.ensures.none c.in-None.ensures.same c.take_last_in.result c.take_last_in.ensures.last

pub returns-in-None-clause-none : goal.returns-in-None-clause-none
returns-in-None-clause-none g c =
    none-in-head c.args.head.now.entries c.take_last_in.new.page.entries (pages_of c.args.tree.now.arena) (pages_of c.take_last_of_tree.new.tree.arena)
    c.in-None.ensures.none c.in-None.ensures.same c.take_last_in.result c.take_last_in.ensures.none

pub returns-in-None-clause-same : goal.returns-in-None-clause-same
returns-in-None-clause-same g c =
    none-left c.args.head.now.entries c.take_last_in.new.page.entries (pages_of c.args.tree.now.arena) (pages_of c.take_last_of_tree.new.tree.arena)
    c.in-None.ensures.none c.in-None.ensures.same c.take_last_in.result c.take_last_in.ensures.none c.take_last_in.ensures.same
