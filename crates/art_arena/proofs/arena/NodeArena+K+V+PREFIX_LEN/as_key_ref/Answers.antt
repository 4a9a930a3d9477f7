use Rattle.std.proofs.Common.{lit<, ◌<◌, ◌^◌}
use Rattle.art_arena.proofs.arena.NodeArena+K+V+PREFIX_LEN.as_key_ref.Goals as goal

pub as_ref-requires : goal.as_ref-requires
as_ref-requires g c = let word : 8 < 2 ^ 63 = lit< tt in search

pub key_ref-requires : goal.key_ref-requires
key_ref-requires g c = let word : 8 < 2 ^ 63 = lit< tt in search
