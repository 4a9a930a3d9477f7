use Rattle.art_map.proofs.EndLemmas.{last-and-rest}
use Rattle.art_map.proofs.ends.take_last_in.Goals as goal

pub returns-clause-last : goal.returns-clause-last
returns-clause-last g c =
    last-and-rest c.args.page.now.entries c.remove_at.new.self.entries c.remove_at.result c.len-len.result c.len-len.ensures.len c.remove_at.ensures.entry c.remove_at.ensures.entries
