-- A sound node of a smaller kind is sound among nodes of any kind.
use Rattle.std.proofs.Common.{ℕ, arith}
use Rattle.art_nodes.specs.Inner.{Inner, IsInner, indirect_room}

module _ {H : Type 0} (prefix_room : ℕ) (node : Inner H) where
  pub of_node4 : IsInner prefix_room 4 node → IsInner prefix_room 256 node
  of_node4 sound = record { ascending = sound.ascending; fits = omega (arith, sound.fits); capped_prefix = sound.capped_prefix }

  pub of_node16 : IsInner prefix_room 16 node → IsInner prefix_room 256 node
  of_node16 sound = record { ascending = sound.ascending; fits = omega (arith, sound.fits); capped_prefix = sound.capped_prefix }

  pub of_node48 : IsInner prefix_room (indirect_room 48) node → IsInner prefix_room 256 node
  of_node48 sound = record { ascending = sound.ascending; fits = omega (arith, sound.fits); capped_prefix = sound.capped_prefix }
