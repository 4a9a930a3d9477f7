use Rattle.std.proofs.Common.{ap, refl}
use Rattle.art_map.specs.Pages.{entries_in}
use Rattle.art_map.specs.Trees.{pages_in, pages_of}
use Rattle.art_map.proofs.FewerLemmas.{head-left, last-of-head, none-in-head, none-left}
use Rattle.art_map.proofs.ends.take_last.Goals as goal

pub returns-in-None-clause-map : goal.returns-in-None-clause-map
returns-in-None-clause-map g c =
    head-left c.args.head.now.entries c.take_last_in.new.page.entries c.take_last_in.result c.take_last_in.ensures.last c.take_last_in.ensures.same
    g.K.KeyBytes.order g.K.KeyBytes.is_key g.K.KeyBytes.encoded _ c.requires

pub returns-in-None-clause-last : goal.returns-in-None-clause-last
returns-in-None-clause-last g c =
    let pages = pages_in (λ tree. pages_of tree.value.arena) c.args.tree.now in
    last-of-head c.args.head.now.entries c.take_last_in.new.page.entries pages pages
    (ap (λ tree. entries_in (pages_in (λ tree. pages_of tree.value.arena) tree)) c.in-None.is) refl c.take_last_in.result c.take_last_in.ensures.last

pub returns-in-None-clause-none : goal.returns-in-None-clause-none
returns-in-None-clause-none g c =
    let pages = pages_in (λ tree. pages_of tree.value.arena) c.args.tree.now in
    none-in-head c.args.head.now.entries c.take_last_in.new.page.entries pages pages
    (ap (λ tree. entries_in (pages_in (λ tree. pages_of tree.value.arena) tree)) c.in-None.is) refl c.take_last_in.result c.take_last_in.ensures.none

pub returns-in-None-clause-same : goal.returns-in-None-clause-same
returns-in-None-clause-same g c =
    let pages = pages_in (λ tree. pages_of tree.value.arena) c.args.tree.now in
    none-left c.args.head.now.entries c.take_last_in.new.page.entries pages pages
    (ap (λ tree. entries_in (pages_in (λ tree. pages_of tree.value.arena) tree)) c.in-None.is) refl c.take_last_in.result c.take_last_in.ensures.none c.take_last_in.ensures.same
