use Rattle.std.proofs.Common.{◌+◌, ◌-◌, rules}
use borrow.Rule.Slice.PartMut.{post_of}
use Rattle.art_header.proofs.header.Header.push_prefix.Goals as goal
use Rattle.art_header.proofs.StoredLemmas.{shows-with_more}

pub returns : goal.returns
returns g c =
    shows-with_more g.row.PREFIX_LEN c.self.inside.num_children c.self.inside.prefix_len c.self.inside.prefix c.args.self.now c.self.view_is c.self.told
    c.args.len (c.prefix_len.result + c.args.len) c.capped_prefix_len-start.result c.capped_prefix_len-end.result c.args.new.now c.copy_from_slice.new.self
    (post_of c.capped_prefix_len-start.result (c.capped_prefix_len-end.result - c.capped_prefix_len-start.result) c.self.inside.prefix)
    (search rules) (search rules) (search rules) (search rules) (search rules)
