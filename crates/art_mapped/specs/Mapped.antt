-- The bytes of a `Mapped`.
use Rattle.std.specs.Prelude.{ℕ, List}
use Rattle.art_bytes.specs.declared.bytes.AsBytes as keys
use Rattle.art_mapped.specs.declared.mapping.Holds as holdings
use Rattle.art_mapped.specs.declared.mapped.MappedOver.{MappedOver}

module _ {B D K : Type 0} {holding : holdings.Ghosts B D K} {key : keys.Ghosts K} where
  -- the bytes that the key holds
  abbrev pub mapped_bytes : MappedOver B D K holding key → K
  mapped_bytes mapped = mapped.repr

  -- those bytes, as a list
  abbrev pub mapped_text : MappedOver B D K holding key → List ℕ
  mapped_text mapped = key.text mapped.repr

  -- the key holds the bytes of this value
  abbrev pub HoldsValue : MappedOver B D K holding key → D → Type 0
  HoldsValue mapped value = holding.holds mapped.repr value
