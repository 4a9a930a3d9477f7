-- The routes of a tree below a place that the key of an address goes to. No public clause cites this.
use Rattle.std.specs.Prelude.{◌≡◌, ℕ, suc, ◌+◌, ◌-◌, ◌*◌, ◌/◌, ◌<◌, ◌≤◌, true, List, Contains, Some, None}
use Rattle.art_nodes.specs.ChildMap.{ChildMap, child_at}
use Rattle.art_nodes.specs.Leaf.{leaf_key, leaf_value}
use Rattle.art_nodes.specs.declared.leaf_node.LeafNode.{LeafNode}
use Rattle.art_nodes.specs.declared.pointers.OpaqueNodePtr.{OpaqueNodePtr}
use Rattle.art_arena.specs.Arena.{NodeArena, HeldLeaf, held}
use Rattle.art_arena.specs.Standing.{StandsIn}
use Rattle.art_arena.specs.Trees.{Tree, IsSound, leaves, root_of}
use Rattle.art_routes.specs.declared.address.Address.{Address}
use Rattle.art_routes.specs.Keys.{key_text, last_network_byte}
use Rattle.art_routes.specs.Networks.{Block, IsNetwork, covers}

-- each of these leaves has the text of a key
abbrev pub HaveKeyTexts : {H : Type 0} → (List ℕ → Type 0) → List (H × List ℕ) → Type 0
HaveKeyTexts {H = H} IsKeyText leaves = (l : H × List ℕ) → Contains leaves l → IsKeyText l.1

-- a tree of such keys stands in an arena at a pointer, under this path
pub record IsBelow {K V : Type 0} {P : ℕ} (text : K → List ℕ) (arena : NodeArena K V P) (IsKeyText : List ℕ → Type 0) (path : List ℕ) (pointer : OpaqueNodePtr K V P) (tree : Tree (OpaqueNodePtr K V P)) : Type 0 where
  pub at_root : root_of tree ≡ pointer
  pub stands : StandsIn text arena tree
  pub sound : IsSound path tree
  pub keys : HaveKeyTexts IsKeyText (leaves tree)

-- the bytes are those of a network
abbrev pub IsNetworkText : List ℕ → Type 0
IsNetworkText text = (network : Block) × IsNetwork network × (text ≡ key_text network)

-- a route of so many strides before a place, and the rest behind them, has at most so many bits
pub record IsEndAt (most place rest : ℕ) : Type 0 where
  pub some : 1 ≤ place
  pub few : rest < 7
  pub fits : 7 * (place - 1) + rest ≤ most

module _ {H : Type 0} (address : Address) (most place : ℕ) (children : ChildMap H) where
  -- no route around the address ends at this place
  abbrev pub NoEnd : Type 0
  NoEnd = (rest : ℕ) → IsEndAt most place rest → child_at children (last_network_byte address (place - 1) rest) ≡ None

  -- this child is that of the longest route that does
  pub record IsLastEnd (child : H) : Type 0 where
    pub rest : ℕ
    pub end : IsEndAt most place rest
    pub is : child_at children (last_network_byte address (place - 1) rest) ≡ Some child
    pub last : (other : ℕ) → rest < other → IsEndAt most place other → child_at children (last_network_byte address (place - 1) other) ≡ None

  -- and this one that of the shortest
  pub record IsFirstEnd (child : H) : Type 0 where
    pub rest : ℕ
    pub end : IsEndAt most place rest
    pub is : child_at children (last_network_byte address (place - 1) rest) ≡ Some child
    pub first : (other : ℕ) → other < rest → IsEndAt most place other → child_at children (last_network_byte address (place - 1) other) ≡ None

module _ {V : Type 0} {P : ℕ} where
  -- a tree of keys of networks stands in an arena at a pointer, under this path
  abbrev pub IsWayTree : NodeArena Block V P → List ℕ → OpaqueNodePtr Block V P → Tree (OpaqueNodePtr Block V P) → Type 0
  IsWayTree arena path pointer tree = IsBelow key_text arena IsNetworkText path pointer tree

  -- a leaf of the tree has the key of this network
  abbrev pub HasNetwork : Tree (OpaqueNodePtr Block V P) → Block → Type 0
  HasNetwork tree network = (pointer : OpaqueNodePtr Block V P) × Contains (leaves tree) (pointer, key_text network)

  -- a leaf of the tree has this network and this value
  pub record IsRouteOf (arena : NodeArena Block V P) (tree : Tree (OpaqueNodePtr Block V P)) (route : Block × V) : Type 0 where
    pub pointer : OpaqueNodePtr Block V P
    pub leaf : LeafNode Block V P
    pub held_there : held arena pointer ≡ HeldLeaf leaf
    pub inside : Contains (leaves tree) (pointer, key_text route.0)
    pub network : leaf_key leaf ≡ route.0
    pub value : leaf_value leaf ≡ route.1

  -- no network of the tree covers this one
  abbrev pub NoneBelow : Tree (OpaqueNodePtr Block V P) → Block → Type 0
  NoneBelow tree target = (other : Block) → IsNetwork other → HasNetwork tree other → covers other target ≡ true → ⊥

  -- no network of the tree that covers this one has the key's bytes behind this place
  abbrev pub NoneFurther : Tree (OpaqueNodePtr Block V P) → Block → ℕ → Type 0
  NoneFurther tree target place = (other : Block) → IsNetwork other → HasNetwork tree other → covers other target ≡ true → suc (other.length / 7) ≤ place

  -- the longest route around the address that ends at this place, at the child of a node
  pub record IsEndRoute (arena : NodeArena Block V P) (address : Address) (most place : ℕ) (children : ChildMap (OpaqueNodePtr Block V P)) (route : Block × V) : Type 0 where
    pub child : OpaqueNodePtr Block V P
    pub end : IsLastEnd address most place children child
    pub leaf : LeafNode Block V P
    pub held_there : held arena child ≡ HeldLeaf leaf
    pub network : leaf_key leaf ≡ route.0
    pub value : leaf_value leaf ≡ route.1
    pub is_network : IsNetwork route.0

  -- this route of the tree covers the network, and no longer one does
  pub record IsLongestBelow (arena : NodeArena Block V P) (tree : Tree (OpaqueNodePtr Block V P)) (target : Block) (route : Block × V) : Type 0 where
    pub listed : IsRouteOf arena tree route
    pub is_network : IsNetwork route.0
    pub matches : covers route.0 target ≡ true
    pub longest : (other : Block) → IsNetwork other → HasNetwork tree other → covers other target ≡ true → other.length ≤ route.0.length

  -- this route of the tree covers the network, and no shorter one does
  pub record IsShortestBelow (arena : NodeArena Block V P) (tree : Tree (OpaqueNodePtr Block V P)) (target : Block) (route : Block × V) : Type 0 where
    pub listed : IsRouteOf arena tree route
    pub is_network : IsNetwork route.0
    pub matches : covers route.0 target ≡ true
    pub shortest : (other : Block) → IsNetwork other → HasNetwork tree other → covers other target ≡ true → route.0.length ≤ other.length
