use Rattle.std.proofs.Common.{◌+◌, ◌-◌, rules}
use Rattle.art_header.proofs.header.Header.ltrim_by.Goals as goal
use Rattle.art_header.proofs.StoredLemmas.{shows-ltrimmed}

pub returns : goal.returns
returns g c =
    shows-ltrimmed g.row.PREFIX_LEN c.self.inside.num_children c.self.inside.prefix_len c.self.inside.prefix c.args.self.now c.self.view_is c.self.told
    c.args.len (c.prefix_len.result - c.args.len) ((c.args.len + c.capped_prefix_len.result) - c.args.len) c.copy_within.new.self
    (search rules) (search rules) (search rules) (search rules) (search rules)
