use Rattle.std.proofs.Common.{arith}
use Rattle.art_map.proofs.EntryLemmas.{too-long-absent}
use Rattle.art_map.proofs.map.Map.insert.Goals as goal

pub returns-then-encoded_len-ge-TOO_LONG-clause-absent : goal.returns-then-encoded_len-ge-TOO_LONG-clause-absent
returns-then-encoded_len-ge-TOO_LONG-clause-absent g c =
    too-long-absent g.K.Ord.cmp g.K.KeyBytes.is_key g.K.KeyBytes.encoded c.args.key g.met.K.RadixKey.sorted c.encoded_len.ensures.key (omega arith) c.args.self.now c.show_keys.ensures.keys
