-- The longest route around an address, below a place on the way of its key.
use Rattle.std.proofs.Common.{◌≡◌, ◌∙◌, ◌⊎◌, inl, inr, ℕ, suc, ◌+◌, ◌-◌, ◌*◌, ◌/◌, ◌%◌, ◌^◌, ◌<◌, ◌≤◌, true, false, List, [], ◌∷◌, ◌++◌, length, get_or, take, drop, Contains, Option, Some, None, refl, sym, ap, subst, arith}
use Rattle.std.proofs.Math.Nat.{div-mul-le_self}
use Rattle.std.proofs.lemmas.Bool.{cases_lt}
use Rattle.std.proofs.lemmas.List.{length-take-le, take_more, take-append-drop, append-nil, nil_from_length, length-append}
use Rattle.std.proofs.lemmas.Nat.{mod_low, pow_pos, shl-shr}
use Rattle.std.specs.Borrow.{Bor}
use Rattle.std.specs.Option.{MatchOption}
use Rattle.art_bytes.specs.Text.{IsPrefixOf, text_order}
use Rattle.art_bytes.proofs.TextLaws.{order_itself}
use Rattle.art_nodes.specs.ChildMap.{child_at}
use Rattle.art_nodes.specs.Inner as nodes
use Rattle.art_nodes.specs.Leaf.{leaf_key, leaf_value}
use Rattle.art_nodes.specs.declared.pointers.OpaqueNodePtr.{OpaqueNodePtr}
use Rattle.art_nodes.specs.declared.leaf_node.LeafNode.{LeafNode}
use Rattle.art_arena.specs.Arena.{NodeArena, HeldInner, HeldLeaf, held}
use Rattle.art_arena.specs.Trees.{Tree, leaves}
use Rattle.art_routes.specs.declared.address.Address.{Address}
use Rattle.art_routes.specs.KeyLaws.{cut_key, key_long, key_order, no_key_begins_another, shorter_key, width_most}
use Rattle.art_routes.specs.Keys.{key_text, last_network_byte}
use Rattle.art_routes.specs.Networks.{Block, IsNetwork, covers, first_bits, network_around}
use Rattle.art_routes.specs.Tables.{route_now}
use Rattle.art_routes.specs.Ways.{HasNetwork, IsBelow, IsEndAt, IsEndRoute, IsFirstEnd, IsLastEnd, IsLongestBelow, IsNetworkText, IsRouteOf, IsShortestBelow, IsWayTree, NoEnd, NoneBelow, NoneFurther}
use Rattle.art_routes.proofs.CoverLemmas.{IsIn, IsOver, is-over, over-is}
use Rattle.art_routes.proofs.CallLaws.{same_network}
use Rattle.art_routes.proofs.WayLemmas.{IsOpened, PartsAt, child-tree, ended, goes-on, in-child, leaf-begins, next-prefix, no-child, no-later, on-way, opened, path-on, prefix-next, the-leaf, whole-prefix}

-- networks with the same bytes are one
pub same-key : (a b : Block) → IsNetwork a → IsNetwork b → key_text a ≡ key_text b → a ≡ b
same-key a b a_is b_is same = same_network a b (sym (key_order a b a_is b_is) ∙ ap (λ x. text_order (key_text a) x) (sym same) ∙ order_itself (key_text a))

-- of the bytes of networks none begins others
pub no-text-begins : (a b : List ℕ) → IsNetworkText a → IsNetworkText b → IsPrefixOf a b → a ≡ b
no-text-begins a b (n, n_is, a_of) (m, m_is, b_of) begins =
    a_of ∙ no_key_begins_another n m n_is m_is (subst (λ x. IsPrefixOf x (key_text m)) a_of (subst (IsPrefixOf a) b_of begins)) ∙ sym b_of

-- they are at most twenty
pub text-short : (x : List ℕ) → IsNetworkText x → length x ≤ 20
text-short x (n, is, of) = omega (arith, ap length of, key_long n, is.fits, width_most n is)

module _ (address : Address) (most : ℕ) (family : (address.width ≡ 32) ⊎ (address.width ≡ 128)) (fits : address.bits < 2 ^ address.width) (within : most ≤ address.width) where
  abbrev pub target : Block
  target = record { address = address; length = most }

  -- the networks around the address
  around-is : (n : ℕ) → n ≤ address.width → IsNetwork (network_around address n)
  around-is n few =
      let d = address.width - n in
      let q = first_bits address n in
      let whole : q * 2 ^ d + 0 ≡ q * 2 ^ d = omega arith in
      record {
        family = family;
        bits = omega (arith, div-mul-le_self address.bits (2 ^ d), fits);
        fits = few;
        none_behind = ap (λ m. m % 2 ^ d) (sym whole) ∙ mod_low q d 0 (pow_pos d);
      }

  around-in : (n : ℕ) → IsIn (network_around address n) address
  around-in n = record { widths = refl; same = sym (shl-shr (first_bits address n) (address.width - n)) }

  around-text : (n : ℕ) → n ≤ address.width → key_text (network_around address n) ≡ key_text (record { address = address; length = n })
  around-text n few = cut_key (network_around address n) address (around-is n few) refl (around-in n).same

  pub around-covers : (n : ℕ) → n ≤ most → covers (network_around address n) target ≡ true
  around-covers n few = over-is (network_around address n) address most (record { in_it = around-in n; shorter = few })

  module _ (key : List ℕ) (key_is : key ≡ key_text target) where
    pub key-is-text : IsNetworkText key
    key-is-text = (network_around address most, around-is most within, key_is ∙ sym (around-text most within))

    pub key-length : length key ≡ suc (suc (most / 7))
    key-length = ap length key_is ∙ ap length (sym (around-text most within)) ∙ key_long (network_around address most)

    -- the bytes of a network around the address part from the key with the last one
    cut-text : (n : ℕ) → n ≤ most → key_text (record { address = address; length = n }) ≡ take (suc (n / 7)) key ++ last_network_byte address (n / 7) (n % 7) ∷ []
    cut-text n few = shorter_key address n most few ∙ ap (λ x. take (suc (n / 7)) x ++ last_network_byte address (n / 7) (n % 7) ∷ []) (sym key_is)

    text-of : (other : Block) → IsNetwork other → IsOver other address most → key_text other ≡ take (suc (other.length / 7)) key ++ last_network_byte address (other.length / 7) (other.length % 7) ∷ []
    text-of other is over = cut_key other address is over.in_it.widths over.in_it.same ∙ cut-text other.length over.shorter

    parts : (other : Block) → IsNetwork other → IsOver other address most → PartsAt key (key_text other) (suc (other.length / 7))
    parts other is over = record {
      within = omega (arith, key-length, over.shorter);
      byte = last_network_byte address (other.length / 7) (other.length % 7);
      is = text-of other is over;
    }

    -- the bytes of the network that ends at a place
    end-text : (place rest : ℕ) → IsEndAt most place rest → take place key ++ last_network_byte address (place - 1) rest ∷ [] ≡ key_text (network_around address (7 * (place - 1) + rest))
    end-text place rest end =
        let n = 7 * (place - 1) + rest in
        let some = end.some in
        let few = end.few in
        let fit = end.fits in
        let strides : n / 7 ≡ place - 1 = omega (arith, few) in
        let rests : n % 7 ≡ rest = omega (arith, few) in
        let next : suc (n / 7) ≡ place = omega (arith, strides, some) in
        let at = cut-text n fit in
        (λ i. take (sym next i) key ++ last_network_byte address (sym strides i) (sym rests i) ∷ []) ∙ sym at ∙ sym (around-text n (omega (arith, fit, within)))

    module _ {V : Type 0} {P : ℕ} (room : 20 ≤ P) (arena : NodeArena Block V P) (depth : ℕ) (deep : depth < length key) (pointer : OpaqueNodePtr Block V P)
        (tree : Tree (OpaqueNodePtr Block V P)) (below : IsWayTree arena (take depth key) pointer tree) where
      -- a leaf
      module _ (leaf : LeafNode Block V P) (is : held arena pointer ≡ HeldLeaf leaf) (network : Block) (leaf_is : leaf_key leaf ≡ network) (is_network : IsNetwork network) where
        leaves-are : leaves tree ≡ (pointer, key_text (leaf_key leaf)) ∷ []
        leaves-are = the-leaf key_text arena IsNetworkText (take depth key) pointer tree below leaf is

        only : (other : Block) → IsNetwork other → HasNetwork tree other → other ≡ network
        only other other_is (p, inside) = by_index (subst (λ (ls : List (OpaqueNodePtr Block V P × List ℕ)). Contains ls (p, key_text other)) leaves-are inside)
          where
            by_index : Contains {X = OpaqueNodePtr Block V P × List ℕ} ((pointer, key_text (leaf_key leaf)) ∷ []) (p, key_text other) → other ≡ network
            by_index (k, one, at) =
                let first : k ≡ 0 = omega (arith, one) in
                let leaves : List (OpaqueNodePtr Block V P × List ℕ) = (pointer, key_text (leaf_key leaf)) ∷ [] in
                let l : OpaqueNodePtr Block V P × List ℕ = (p, key_text other) in
                let same : get_or leaves 0 l ≡ l = ap (λ i. get_or leaves i l) (sym first) ∙ at in
                same-key other network other_is is_network (sym (ap (λ (x : OpaqueNodePtr Block V P × List ℕ). x.1) same) ∙ ap key_text leaf_is)

        pub leaf-missed : covers network target ≡ false → NoneBelow tree target
        leaf-missed not other other_is there test =
            let wrong : true ≡ false = sym test ∙ ap (λ n. covers n target) (only other other_is there) ∙ not in
            absurd (cc)

        pub leaf-found : covers network target ≡ true → IsLongestBelow arena tree target (network, leaf_value leaf)
        leaf-found test = record {
          listed = record {
            pointer = pointer;
            leaf = leaf;
            held_there = is;
            inside = subst (λ (ls : List (OpaqueNodePtr Block V P × List ℕ)). Contains ls (pointer, key_text network)) (sym leaves-are) (0, omega arith, ap (λ n. (pointer, key_text n)) leaf_is);
            network = leaf_is;
            value = refl;
          };
          is_network = is_network;
          matches = test;
          longest = λ other other_is there covered. let same = ap (λ n. n.length) (only other other_is there) in omega (arith, same);
        }

        pub leaf-first : covers network target ≡ true → IsShortestBelow arena tree target (network, leaf_value leaf)
        leaf-first test =
            let found = leaf-found test in
            record {
              listed = found.listed;
              is_network = is_network;
              matches = test;
              shortest = λ other other_is there covered. let same = ap (λ n. n.length) (only other other_is there) in omega (arith, same);
            }

      -- an inner node
      module _ (node : nodes.Inner (OpaqueNodePtr Block V P)) (is : held arena pointer ≡ HeldInner node) where
        o : IsOpened key_text arena IsNetworkText (take depth key) node tree
        o = opened key_text arena IsNetworkText (take depth key) pointer tree below node is

        stored-is : node.stored ≡ o.prefix
        stored-is = whole-prefix key_text arena IsNetworkText (take depth key) node tree o below.sound below.keys pointer (λ x x_is. let few = text-short x x_is in omega (arith, few, room))

        deep-too : depth ≤ length key
        deep-too = omega (arith, deep)

        pub mismatch : (IsPrefixOf node.stored (drop depth key) → ⊥) → NoneBelow tree target
        mismatch differ other other_is (p, inside) test =
            let over = is-over other address most test in
            let on = goes-on key_text arena IsNetworkText (take depth key) node tree o (p, key_text other) inside in
            let same = path-on key (key_text other) (take depth key) o.prefix depth refl deep-too (suc (other.length / 7)) (parts other other_is over) on.byte on.begins in
            differ (subst (λ s. IsPrefixOf s (drop depth key)) (sym stored-is) (prefix-next key o.prefix depth deep-too same))

        module _ (place : ℕ) (place_is : place ≡ depth + length node.stored) (matched : IsPrefixOf node.stored (drop depth key)) where
          at : place ≡ depth + length o.prefix
          at = place_is ∙ ap (λ s. depth + length s) stored-is

          both : (take depth key ++ o.prefix ≡ take (depth + length o.prefix) key) × (depth + length o.prefix ≤ length key)
          both = next-prefix key o.prefix depth deep-too (subst (λ s. IsPrefixOf s (drop depth key)) stored-is matched)

          front : take depth key ++ o.prefix ≡ take place key
          front = both.0 ∙ ap (λ n. take n key) (sym at)

          -- a network around the address is not left before this place
          reached : (other : Block) → IsNetwork other → HasNetwork tree other → IsOver other address most → place ≤ suc (other.length / 7)
          reached other other_is (p, inside) over =
              let on = goes-on key_text arena IsNetworkText (take depth key) node tree o (p, key_text other) inside in
              let late = no-later key (key_text other) (take depth key) o.prefix depth refl deep-too (suc (other.length / 7)) (parts other other_is over) on.byte on.begins in
              omega (arith, late, at)

          -- one that goes on begins with the next byte of the key
          further : (other : Block) → IsNetwork other → HasNetwork tree other → IsOver other address most → place < suc (other.length / 7) → IsPrefixOf (take place key ++ get_or key place 0 ∷ []) (key_text other)
          further other other_is (p, inside) over less =
              let on = goes-on key_text arena IsNetworkText (take depth key) node tree o (p, key_text other) inside in
              subst (λ n. IsPrefixOf (take n key ++ get_or key n 0 ∷ []) (key_text other)) (sym at)
              (on-way key (key_text other) (take depth key) o.prefix depth refl deep-too (suc (other.length / 7)) (parts other other_is over) on.byte on.begins (omega (arith, less, at)))

          abbrev pub Ended : Type 0
          Ended = NoneFurther tree target place

          pub none-at-end : length key ≤ place + 1 → Ended
          none-at-end last other other_is there test = let short = (is-over other address most test).shorter in omega (arith, last, key-length, short)

          pub none-under : child_at node.children (get_or key place 0) ≡ None → Ended
          none-under none other other_is (p, inside) test = elim (cases_lt place (suc (other.length / 7))) [
            | inl less ↦
                absurd (no-child key_text arena IsNetworkText (take depth key) node tree o (take place key) front below.keys (get_or key place 0) (p, key_text other) inside
                (further other other_is (p, inside) (is-over other address most test) less) none)
            | inr not_less ↦ omega (arith, not_less)
          ]

          -- the child on the way
          module _ (within_key : place + 1 < length key) (child : OpaqueNodePtr Block V P) (child_is : child_at node.children (get_or key place 0) ≡ Some child) where
            path : take place key ++ get_or key place 0 ∷ [] ≡ take (place + 1) key
            path = sym (take_more key place 0 (omega (arith, within_key)))

            as-way : (sub : Tree (OpaqueNodePtr Block V P)) → IsBelow key_text arena IsNetworkText (take place key ++ get_or key place 0 ∷ []) child sub → IsWayTree arena (take (place + 1) key) child sub
            as-way sub sub_is = subst (λ xs. IsWayTree arena xs child sub) path sub_is

            pub child-way : (sub : Tree (OpaqueNodePtr Block V P)) × IsWayTree arena (take (place + 1) key) child sub × ((l : OpaqueNodePtr Block V P × List ℕ) → Contains (leaves sub) l → Contains (leaves tree) l)
            child-way =
                let found = child-tree key_text arena IsNetworkText (take depth key) node tree o (take place key) front below.keys (get_or key place 0) child child_is in
                (found.0, as-way found.0 found.1, found.2)

            goes-in : (other : Block) → IsNetwork other → HasNetwork tree other → IsOver other address most → place < suc (other.length / 7) → (sub : Tree (OpaqueNodePtr Block V P)) × IsWayTree arena (take (place + 1) key) child sub × HasNetwork sub other
            goes-in other other_is (p, inside) over less =
                let found = in-child key_text arena IsNetworkText (take depth key) node tree o (take place key) front below.keys (get_or key place 0) (p, key_text other) inside (further other other_is (p, inside) over less) child child_is in
                (found.0, as-way found.0 found.1, (p, found.2))

            pub none-in-child : ((sub : Tree (OpaqueNodePtr Block V P)) → IsWayTree arena (take (place + 1) key) child sub → NoneBelow sub target) → Ended
            none-in-child none other other_is there test = elim (cases_lt place (suc (other.length / 7))) [
              | inl less ↦ let found = goes-in other other_is there (is-over other address most test) less in absurd (none found.0 found.1 other other_is found.2 test)
              | inr not_less ↦ omega (arith, not_less)
            ]

            -- a route that is found below it has more bits than those that end here
            found-beyond : (route : Block × V) (sub : Tree (OpaqueNodePtr Block V P)) → IsWayTree arena (take (place + 1) key) child sub → IsLongestBelow arena sub target route → place < suc (route.0.length / 7)
            found-beyond route sub sub_is found = elim (cases_lt place (suc (route.0.length / 7))) [
              | inl less ↦ less
              | inr not_less ↦
                  let over = is-over route.0 address most found.matches in
                  let inside = found.listed.inside in
                  let begins = begins-with sub sub_is (found.listed.pointer, key_text route.0) inside in
                  let front_long = length-take-le (place + 1) key (omega (arith, within_key)) in
                  let text_long = key_long route.0 in
                  let all : length (key_text route.0) ≡ length (take (place + 1) key ++ begins.0) = ap length begins.1 in
                  let sum = length-append (take (place + 1) key) begins.0 in
                  let none : length begins.0 ≡ 0 = omega (arith, not_less, front_long, text_long, all, sum) in
                  let whole : key_text route.0 ≡ take (place + 1) key = begins.1 ∙ ap (λ xs. take (place + 1) key ++ xs) (nil_from_length begins.0 none) ∙ append-nil (take (place + 1) key) in
                  let begun : IsPrefixOf (key_text route.0) key = (drop (place + 1) key, sym (take-append-drop (place + 1) key) ∙ ap (λ xs. xs ++ drop (place + 1) key) (sym whole)) in
                  let same = no-text-begins (key_text route.0) key (route.0, found.is_network, refl) key-is-text begun in
                  absurd (omega (arith, ap length same, ap length whole, front_long, within_key))
            ]
              where
                begins-with : (sub : Tree (OpaqueNodePtr Block V P)) → IsWayTree arena (take (place + 1) key) child sub → (l : OpaqueNodePtr Block V P × List ℕ) → Contains (leaves sub) l → IsPrefixOf (take (place + 1) key) l.1
                begins-with sub sub_is l there = leaf-begins key_text arena IsNetworkText (take (place + 1) key) sub sub_is.sound l there

            pub found-in-child : (route : Block × V) → ((sub : Tree (OpaqueNodePtr Block V P)) → IsWayTree arena (take (place + 1) key) child sub → IsLongestBelow arena sub target route) → IsLongestBelow arena tree target route
            found-in-child route found =
                let way = child-way in
                let here = found way.0 way.1 in
                let listed = here.listed in
                record {
                  listed = record { pointer = listed.pointer; leaf = listed.leaf; held_there = listed.held_there; inside = way.2 (listed.pointer, key_text route.0) listed.inside; network = listed.network; value = listed.value };
                  is_network = here.is_network;
                  matches = here.matches;
                  longest = λ other other_is there test.
                      elim (cases_lt place (suc (other.length / 7))) [
                        | inl less ↦
                            let sub = goes-in other other_is there (is-over other address most test) less in
                            (found sub.0 sub.1).longest other other_is sub.2 test
                        | inr not_less ↦ let beyond = found-beyond route way.0 way.1 here in omega (arith, not_less, beyond)
                      ];
                }

            -- the same, said in an arena that is the same
            module _ (now : NodeArena Block V P) (same_arena : now ≡ arena) where
              pub none-in-child-now : ((sub : Tree (OpaqueNodePtr Block V P)) → IsWayTree now (take (place + 1) key) child sub → NoneBelow sub target) → Ended
              none-in-child-now none = none-in-child (subst (λ a. (sub : Tree (OpaqueNodePtr Block V P)) → IsWayTree a (take (place + 1) key) child sub → NoneBelow sub target) same_arena none)

              pub found-in-child-now : (route : Block × V) → ((sub : Tree (OpaqueNodePtr Block V P)) → IsWayTree now (take (place + 1) key) child sub → IsLongestBelow now sub target route) → IsLongestBelow arena tree target route
              found-in-child-now route found =
                  found-in-child route (subst (λ a. (sub : Tree (OpaqueNodePtr Block V P)) → IsWayTree a (take (place + 1) key) child sub → IsLongestBelow a sub target route) same_arena found)

              pub child-way-now : (sub : Tree (OpaqueNodePtr Block V P)) × IsWayTree now (take (place + 1) key) child sub
              child-way-now = let way = child-way in (way.0, subst (λ a. IsWayTree a (take (place + 1) key) child way.0) (sym same_arena) way.1)

          -- those that end here
          ends-here : (other : Block) → IsNetwork other → HasNetwork tree other → covers other target ≡ true → suc (other.length / 7) ≤ place → IsEndAt most place (other.length % 7)
              × (place - 1 ≡ other.length / 7) × (key_text other ≡ take place key ++ last_network_byte address (place - 1) (other.length % 7) ∷ [])
          ends-here other other_is there test last =
              let over = is-over other address most test in
              let short = over.shorter in
              let least = reached other other_is there over in
              let next : suc (other.length / 7) ≡ place = omega (arith, last, least) in
              let strides : other.length / 7 ≡ place - 1 = omega (arith, next) in (
                record { some = omega (arith, next); few = omega arith; fits = omega (arith, strides, short) },
                sym strides,
                text-of other other_is over ∙ (λ i. take (next i) key ++ last_network_byte address (strides i) (other.length % 7) ∷ []),
              )

          none-at : (other : Block) → IsNetwork other → HasNetwork tree other → (rest : ℕ) → key_text other ≡ take place key ++ last_network_byte address (place - 1) rest ∷ [] → child_at node.children (last_network_byte address (place - 1) rest) ≡ None → ⊥
          none-at other other_is (p, inside) rest text none =
              no-child key_text arena IsNetworkText (take depth key) node tree o (take place key) front below.keys (last_network_byte address (place - 1) rest) (p, key_text other) inside ([], text ∙ sym (append-nil (take place key ++ last_network_byte address (place - 1) rest ∷ []))) none

          pub none-ends : Ended → NoEnd address most place node.children → NoneBelow tree target
          none-ends last none other other_is there test =
              let here = ends-here other other_is there test (last other other_is there test) in
              none-at other other_is there (other.length % 7) here.2 (none (other.length % 7) here.0)

          -- the child under the last byte of a route is its leaf
          module _ (child : OpaqueNodePtr Block V P) (rest : ℕ) (end : IsEndAt most place rest) (child_is : child_at node.children (last_network_byte address (place - 1) rest) ≡ Some child) where
            abbrev pub end-network : Block
            end-network = network_around address (7 * (place - 1) + rest)

            network-is : IsNetwork end-network
            network-is = let fit = end.fits in around-is (7 * (place - 1) + rest) (omega (arith, fit, within))

            sub-tree : (sub : Tree (OpaqueNodePtr Block V P)) × IsBelow key_text arena IsNetworkText (key_text end-network) child sub × ((l : OpaqueNodePtr Block V P × List ℕ) → Contains (leaves sub) l → Contains (leaves tree) l)
            sub-tree =
                let found = child-tree key_text arena IsNetworkText (take depth key) node tree o (take place key) front below.keys (last_network_byte address (place - 1) rest) child child_is in
                (found.0, subst (λ x. IsBelow key_text arena IsNetworkText x child found.0) (end-text place rest end) found.1, found.2)

            pub end-leaf : (leaf : LeafNode Block V P) × (held arena child ≡ HeldLeaf leaf) × (key_text (leaf_key leaf) ≡ key_text end-network) × Contains (leaves tree) (child, key_text end-network)
            end-leaf =
                let way = sub-tree in
                let leaf = ended key_text arena IsNetworkText no-text-begins (key_text end-network) child way.0 (end-network, network-is, refl) way.1 in
                (leaf.0, leaf.1, leaf.2, way.2 (child, key_text end-network) leaf.3)

            module _ (leaf : LeafNode Block V P) (leaf_there : held arena child ≡ HeldLeaf leaf) (route : Block) (route_is : leaf_key leaf ≡ route) (is_network : IsNetwork route) where
              same-route : route ≡ end-network
              same-route =
                  let way = end-leaf in
                  let one : HeldLeaf way.0 ≡ HeldLeaf leaf = sym way.1 ∙ leaf_there in
                  let same_leaf : way.0 ≡ leaf = cc in
                  same-key route end-network is_network network-is (ap key_text (sym route_is ∙ ap leaf_key (sym same_leaf)) ∙ way.2)

              route-long : route.length ≡ 7 * (place - 1) + rest
              route-long = ap (λ n. n.length) same-route

              route-listed : IsRouteOf arena tree (route, leaf_value leaf)
              route-listed = record {
                pointer = child;
                leaf = leaf;
                held_there = leaf_there;
                inside = subst (λ (n : Block). Contains (leaves tree) (child, key_text n)) (sym same-route) (let way = end-leaf in way.3);
                network = route_is;
                value = refl;
              }

              route-covers : covers route target ≡ true
              route-covers = let fit = end.fits in ap (λ n. covers n target) same-route ∙ around-covers (7 * (place - 1) + rest) fit

              pub end-found : Ended → ((other : ℕ) → rest < other → IsEndAt most place other → child_at node.children (last_network_byte address (place - 1) other) ≡ None) → IsLongestBelow arena tree target (route, leaf_value leaf)
              end-found last longer = record {
                listed = route-listed;
                is_network = is_network;
                matches = route-covers;
                longest = λ other other_is there test.
                    let here = ends-here other other_is there test (last other other_is there test) in
                    elim (cases_lt rest (other.length % 7)) [
                      | inl more ↦ absurd (none-at other other_is there (other.length % 7) here.2 (longer (other.length % 7) more here.0))
                      | inr no_more ↦ let strides = here.1 in let long = route-long in omega (arith, no_more, strides, long)
                    ];
              }

              pub first-found : ((other : ℕ) → other < rest → IsEndAt most place other → child_at node.children (last_network_byte address (place - 1) other) ≡ None) → IsShortestBelow arena tree target (route, leaf_value leaf)
              first-found shorter = record {
                listed = route-listed;
                is_network = is_network;
                matches = route-covers;
                shortest = λ other other_is there test.
                    let few = end.few in
                    let some = end.some in
                    let long = route-long in
                    elim (cases_lt place (suc (other.length / 7))) [
                      | inl beyond ↦ omega (arith, beyond, few, some, long)
                      | inr not_beyond ↦
                          let here = ends-here other other_is there test (omega (arith, not_beyond)) in
                          elim (cases_lt (other.length % 7) rest) [
                            | inl less ↦ absurd (none-at other other_is there (other.length % 7) here.2 (shorter (other.length % 7) less here.0))
                            | inr not_less ↦ let strides = here.1 in omega (arith, not_less, strides, long)
                          ]
                    ];
              }

          -- the longest route that ends here is the longest of all, where none goes on
          pub with-ends : Ended → (result : Option (Block × Bor V)) → MatchOption result (NoEnd address most place node.children) (λ route. IsEndRoute arena address most place node.children (route_now route))
              → MatchOption result (NoneBelow tree target) (λ route. IsLongestBelow arena tree target (route_now route))
          with-ends last None none = none-ends last none
          with-ends last (Some route) found =
              subst (λ v. IsLongestBelow arena tree target (route.0, v)) found.value (end-found found.child found.end.rest found.end.end found.end.is found.leaf found.held_there route.0 found.network found.is_network last found.end.last)

          -- the same, seen in an arena that is the same
          module _ (now : NodeArena Block V P) (same_arena : now ≡ arena) where
            pub end-leaf-now : (child : OpaqueNodePtr Block V P) → IsLastEnd address most place node.children child → (leaf : LeafNode Block V P) × (held now child ≡ HeldLeaf leaf)
            end-leaf-now child end = let way = end-leaf child end.rest end.end end.is in (way.0, ap (λ a. held a child) same_arena ∙ way.1)

            pub with-ends-now : Ended → (result : Option (Block × Bor V)) → MatchOption result (NoEnd address most place node.children) (λ route. IsEndRoute now address most place node.children (route_now route))
                → MatchOption result (NoneBelow tree target) (λ route. IsLongestBelow arena tree target (route_now route))
            with-ends-now last result found =
                with-ends last result (subst (λ a. MatchOption result (NoEnd address most place node.children) (λ route. IsEndRoute a address most place node.children (route_now route))) same_arena found)

            pub first-leaf-now : (child : OpaqueNodePtr Block V P) → IsFirstEnd address most place node.children child → (leaf : LeafNode Block V P) × (held now child ≡ HeldLeaf leaf)
            first-leaf-now child end = let way = end-leaf child end.rest end.end end.is in (way.0, ap (λ a. held a child) same_arena ∙ way.1)

          -- where none ends here, each goes on
          go-on : NoEnd address most place node.children → (other : Block) → IsNetwork other → HasNetwork tree other → covers other target ≡ true → place < suc (other.length / 7)
          go-on none other other_is there test = elim (cases_lt place (suc (other.length / 7))) [
            | inl less ↦ less
            | inr not_less ↦
                let here = ends-here other other_is there test (omega (arith, not_less)) in
                absurd (none-at other other_is there (other.length % 7) here.2 (none (other.length % 7) here.0))
          ]

          -- and the shortest is below the child on the way
          module _ (within_key : place + 1 < length key) (child : OpaqueNodePtr Block V P) (child_is : child_at node.children (get_or key place 0) ≡ Some child) (now : NodeArena Block V P) (same_arena : now ≡ arena) where
            pub first-in-child : NoEnd address most place node.children → (route : Block × V) → ((sub : Tree (OpaqueNodePtr Block V P)) → IsWayTree arena (take (place + 1) key) child sub → IsShortestBelow arena sub target route) → IsShortestBelow arena tree target route
            first-in-child none route found =
                let way = child-way within_key child child_is in
                let here = found way.0 way.1 in
                let listed = here.listed in
                record {
                  listed = record { pointer = listed.pointer; leaf = listed.leaf; held_there = listed.held_there; inside = way.2 (listed.pointer, key_text route.0) listed.inside; network = listed.network; value = listed.value };
                  is_network = here.is_network;
                  matches = here.matches;
                  shortest = λ other other_is there test.
                      let sub = goes-in within_key child child_is other other_is there (is-over other address most test) (go-on none other other_is there test) in
                      (found sub.0 sub.1).shortest other other_is sub.2 test;
                }

            -- what is found below the child is what is found here
            pub with-child-now : NoEnd address most place node.children → (result : Option (Block × Bor V))
                → ((sub : Tree (OpaqueNodePtr Block V P)) → IsWayTree now (take (place + 1) key) child sub → MatchOption result (NoneBelow sub target) (λ route. IsShortestBelow now sub target (route_now route)))
                → MatchOption result (NoneBelow tree target) (λ route. IsShortestBelow arena tree target (route_now route))
            with-child-now none None found = none-ends (none-in-child-now within_key child child_is now same_arena found) none
            with-child-now none (Some route) found =
                first-in-child none (route_now route) (subst (λ a. (sub : Tree (OpaqueNodePtr Block V P)) → IsWayTree a (take (place + 1) key) child sub → IsShortestBelow a sub target (route_now route)) same_arena found)

-- looks that are counted, one more where a leaf is found
pub looks-here : {X : Type 0} (r : Option X) (old mid new depth long : ℕ) → mid + 1 ≡ old → depth < long → MatchOption r (new ≡ mid) (λ _. new + 1 ≡ mid) → MatchOption r (old + depth ≤ new + long) (λ _. old + depth ≤ new + long + 1)
looks-here None old mid new depth long counted deep is = omega (arith, counted, deep, is)
looks-here (Some x) old mid new depth long counted deep is = omega (arith, counted, deep, is)

pub looks-on : {X : Type 0} (r : Option X) (old mid back new depth place long : ℕ) → mid + 1 ≡ old → depth ≤ place → mid + (place + 1) ≤ back + long → MatchOption r (new ≡ back) (λ _. new + 1 ≡ back) → MatchOption r (old + depth ≤ new + long) (λ _. old + depth ≤ new + long + 1)
looks-on None old mid back new depth place long counted deep below is = omega (arith, counted, deep, below, is)
looks-on (Some x) old mid back new depth place long counted deep below is = omega (arith, counted, deep, below, is)

pub all-looks : {X : Type 0} (r : Option X) (old new long most : ℕ) → long ≡ suc (suc (most / 7)) → MatchOption r (old + 0 ≤ new + long) (λ _. old + 0 ≤ new + long + 1) → old ≤ new + (most / 7 + 3)
all-looks None old new long most is visits = omega (arith, is, visits)
all-looks (Some x) old new long most is visits = omega (arith, is, visits)
