use Rattle.std.proofs.Common.{lit<, ◌<◌, ◌^◌}
use Rattle.art_arena.proofs.arena.NodeArena+K+V+PREFIX_LEN.as_key_value_ref.Goals as goal

pub as_ref-requires : goal.as_ref-requires
as_ref-requires g c = let word : 8 < 2 ^ 63 = lit< tt in search

pub entry_ref-requires : goal.entry_ref-requires
entry_ref-requires g c = let word : 8 < 2 ^ 63 = lit< tt in search
