-- The bytes of the routes around an address that end at one place of its key. No public clause cites this.
use Rattle.std.specs.Prelude.{◌≡◌, ◌⊎◌, ◌<◌, ◌≤◌, ◌-◌, ◌^◌, ℕ, zero, suc, List, Some, get_or, length}
use Rattle.art_nodes.specs.ChildMap.{ChildMap, child_at}
use Rattle.art_routes.specs.declared.address.Address.{Address}
use Rattle.art_routes.specs.declared.ends.TheConstants.{SHORTER}
use Rattle.art_routes.specs.Keys.{key_text, last_network_byte}
use Rattle.art_routes.specs.Ways.{IsEndAt}

-- this is one of the bytes
abbrev pub HasByte : List ℕ → ℕ → Type 0
HasByte bytes byte = (place : ℕ) × (place < length bytes) × (get_or bytes place 0 ≡ byte)

-- the byte has a child
abbrev pub HasChild : {H : Type 0} → ChildMap H → ℕ → Type 0
HasChild {H} children byte = (child : H) × (child_at children byte ≡ Some child)

-- the byte of so many bits fewer of the same stride
unfoldable pub shorter : ℕ → ℕ → ℕ
shorter zero end = end
shorter (suc fewer) end = get_or SHORTER (shorter fewer end) 0

module _ (Holds : ℕ → Type 0) (longest : ℕ) where
  -- it holds of neither this byte nor one of fewer bits
  abbrev pub NoEndOf : Type 0
  NoEndOf = (fewer : ℕ) → Holds (shorter fewer longest) → ⊥

  -- of these it holds of this one first
  pub record IsNextEnd (end : ℕ) : Type 0 where
    pub fewer : ℕ
    pub is : shorter fewer longest ≡ end
    pub holds : Holds end
    pub first : (other : ℕ) → other < fewer → Holds (shorter other longest) → ⊥

-- the child of the first of them that has one
abbrev pub IsNextChild : {H : Type 0} → ChildMap H → ℕ → H → Type 0
IsNextChild children longest child = (end : ℕ) × IsNextEnd (HasChild children) longest end × (child_at children end ≡ Some child)

-- the key is that of the first bits of an address, so many of them
pub record IsKeyOf (key : List ℕ) (address : Address) (most : ℕ) : Type 0 where
  pub family : (address.width ≡ 32) ⊎ (address.width ≡ 128)
  pub fits : address.bits < 2 ^ address.width
  pub within : most ≤ address.width
  pub key_is : key ≡ key_text (record { address = address; length = most })

-- this is the byte of the longest route around the address that may end at a place of its key
pub record IsLongest (address : Address) (most place end : ℕ) : Type 0 where
  pub rest : ℕ
  pub at : IsEndAt most place rest
  pub is : end ≡ last_network_byte address (place - 1) rest
  pub longest : (other : ℕ) → IsEndAt most place other → other ≤ rest

module _ (key : List ℕ) (place : ℕ) where
  -- no route may end there
  abbrev pub NoEndAt : Type 0
  NoEndAt = (address : Address) (most rest : ℕ) → IsKeyOf key address most → IsEndAt most place rest → ⊥

  abbrev pub IsLongestEnd : ℕ → Type 0
  IsLongestEnd end = (address : Address) (most : ℕ) → IsKeyOf key address most → IsLongest address most place end
