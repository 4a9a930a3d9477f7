use Rattle.std.proofs.Common.{◌≡◌, ◌≤◌, ◌*◌, ◌++◌, drop, length, take}
use Rattle.art_c_routes.specs.Available.{joined_addresses}
use Rattle.art_c_routes.proofs.available.write_addresses.Given as goal

-- the first addresses are written, and the other networks are left
abbrev pub invariant-loop-index : goal.invariant-loop-index
invariant-loop-index l = record {
  left : l.free ≡ drop l.index l.fn.free;
  enough : l.index ≤ length l.fn.free;
  out : l.out ≡ joined_addresses (take l.index l.fn.free) ++ drop (l.index * l.width) l.fn.out;
}
