use Rattle.art_index.proofs.ChangeLemmas.{page-added}
use Rattle.art_tree.proofs.EntryLaws.{list-same}
use Rattle.art_index.proofs.pages.add_page.Goals as goal

pub returns-in-Ok-clause-added : goal.returns-in-Ok-clause-added
returns-in-Ok-clause-added g c = page-added g.A.AsBytes.text c.args.tree.now c.insert.new.self c.args.anchor c.args.page c.in-Ok.ensures.entry c.in-Ok.ensures.others

pub returns-clause-same_entries : goal.returns-clause-same_entries
returns-clause-same_entries g c = list-same g.A.AsBytes.text c.args.tree.now.arena c.insert.new.self.arena c.in-Err.ensures.same_entries
