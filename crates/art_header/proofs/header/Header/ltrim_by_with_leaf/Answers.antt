use Rattle.std.proofs.Common.{arith}
use Rattle.std.proofs.lemmas.Grind.{common_steps}
use Rattle.art_header.proofs.header.Header.ltrim_by_with_leaf.Goals as goal
use Rattle.art_header.proofs.StoredLemmas.{stands-cut}

pub returns-clause-stands : goal.returns-clause-stands
returns-clause-stands g c path prefix rest at begins stands =
    stands-cut g.row.PREFIX_LEN c.args.len c.args.depth c.args.leaf_key.now path prefix rest c.args.self.now _ c.requires.within (grind (arith, common_steps)) at begins stands
