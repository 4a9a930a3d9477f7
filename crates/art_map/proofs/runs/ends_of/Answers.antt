use Rattle.art_map.proofs.RunLemmas.{whole-pages, whole-run}
use Rattle.art_map.proofs.runs.ends_of.Goals as goal

pub returns-clause-pages : goal.returns-clause-pages
returns-clause-pages g c = whole-pages c.args.tree.now.arena c.in_ok-first.first c.in_ok-last.last c.in_ok-first.ensures c.in_ok-last.ensures

pub returns-clause-run : goal.returns-clause-run
returns-clause-run g c = whole-run c.args.tree.now.arena c.in_ok-first.first c.in_ok-last.last c.in_ok-first.ensures c.in_ok-last.ensures
