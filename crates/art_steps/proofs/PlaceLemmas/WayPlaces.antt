-- The place of a key, by the nodes that it meets on its way down.
use Rattle.art_steps.proofs.Names.{leaf_key, Contains-get_or, All-nil, All-cons, All-contains, All-map, All-weaker, Contains-append_left, Contains-append_right, ◌≡◌, ◌≢◌, ◌∙◌, ℕ, zero, suc, ◌+◌, ◌-◌, ◌<◌, ◌≤◌, nat_eq, List, [], ◌∷◌, ◌++◌, length, length-append, map, take, drop, All, Contains, Option, Some, None, IfSome, slice_get, get_or, refl, sym, ap, subst, inl, inr, arith, append_assoc, append-nil, common_prefix_len, eqb_tells, nil_from_length, drop-drop, drop_at, map-append, take_all, take_at, take_rest, common_prefix_len-le, slice_get-get_or, IsPrefixOf, capped, child_at, OpaqueNodePtr, LeafNode, NodeArena, HeldInner, HeldLeaf, Nothing, held, StandsIn, TreeAt, leaf_text, Tree, Leaf, Inner, Branches, NoBranch, Branch, branch_roots, leaves, texts, branch_texts, branch_leaves, IsSound, AreSound, IsWellFormed, Context, Under, plug, path_to, leaves_before, leaves_after, Clashes, IsProperPrefixOf, reach, toward, BeginsAll, HasLeafText, prefix_of, IsDescentIn, IsSpotIn, LacksChild, LeadsToLeaf, Parts, Spot, prefix-on, image_inside, texts-begin, texts-some, InnerNode}
use Rattle.art_search.proofs.DescentLemmas.{slice_get-drop}
use Rattle.art_steps.proofs.PlaceLemmas.TextsBelow.{GoesOn, branch-text-begins, branches-go-on, goes-begins, goes-longer}
use Rattle.art_steps.proofs.PlaceLemmas.TowardLemmas.{IsSplit, split-at, toward-child, toward-text}
use Rattle.art_steps.proofs.SharedLemmas.ExchangedSubtree.{leaves-plug, sound-part, stands-part}
use Rattle.art_search.proofs.HeldParts.{IsInnerPart, inner-part, leaf-part, part-held}

-- two texts are alike in so many bytes, and part there unless one ends
record AreAlike (a b : List ℕ) (n : ℕ) : Type 0 where
  pub front : List ℕ
  pub left : List ℕ
  pub right : List ℕ
  pub a_is : a ≡ front ++ left
  pub b_is : b ≡ front ++ right
  pub long : length front ≡ n
  pub part : (x y : ℕ) → slice_get left 0 ≡ Some x → slice_get right 0 ≡ Some y → y ≢ x

alike : (a b : List ℕ) → AreAlike a b (common_prefix_len nat_eq a b)
alike [] b = record { front = []; left = []; right = b; a_is = refl; b_is = refl; long = refl; part = λ x y none some. absurd (cc) }
alike (x ∷ a) [] = record { front = []; left = x ∷ a; right = []; a_is = refl; b_is = refl; long = refl; part = λ c d some none. absurd (cc) }
alike (x ∷ a) (y ∷ b) = elim (eqb_tells x y) [
  | inl same ↦
      let tail = alike a b in
      let more : 1 + common_prefix_len nat_eq a b ≡ common_prefix_len nat_eq (x ∷ a) (y ∷ b) = rw same.0 refl in
      record {
        front = x ∷ tail.front;
        left = tail.left;
        right = tail.right;
        a_is = ap (λ z. x ∷ z) tail.a_is;
        b_is = ap (λ z. z ∷ b) (sym same.1) ∙ ap (λ z. x ∷ z) tail.b_is;
        long = omega (arith, tail.long, more);
        part = tail.part;
      }
  | inr differ ↦
      let none : 0 ≡ common_prefix_len nat_eq (x ∷ a) (y ∷ b) = rw differ.0 refl in
      record {
        front = [];
        left = x ∷ a;
        right = y ∷ b;
        a_is = refl;
        b_is = refl;
        long = none;
        part = λ c d first second same. let one : x ≡ c = cc in let other : y ≡ d = cc in differ.1 (one ∙ sym same ∙ sym other);
      }
]

-- what two texts have in common past a path that both begin with
alike-below : (path a key : List ℕ) (depth n : ℕ) → length path ≡ depth → IsPrefixOf path key → n ≡ common_prefix_len nat_eq a (drop depth key) → AreAlike (path ++ a) key (depth + n)
alike-below path a key depth n deep (rest, key_is) counted =
    let rest_is : drop depth key ≡ rest = ap (drop depth) key_is ∙ drop_at path rest depth deep in
    let both = alike a rest in
    record {
      front = path ++ both.front;
      left = both.left;
      right = both.right;
      a_is = ap (λ z. path ++ z) both.a_is ∙ sym (append_assoc path both.front both.left);
      b_is = key_is ∙ ap (λ z. path ++ z) both.b_is ∙ sym (append_assoc path both.front both.right);
      long = omega (arith, length-append path both.front, deep, both.long, counted, ap (common_prefix_len nat_eq a) rest_is);
      part = both.part;
    }

at-seam : (front rest : List ℕ) (n : ℕ) → length front ≡ n → slice_get (front ++ rest) n ≡ slice_get rest 0
at-seam [] rest n long = ap (slice_get rest) (sym long)
at-seam (x ∷ front) rest zero long = absurd (omega (arith, long))
at-seam (x ∷ front) rest (suc n) long = at-seam front rest n (omega (arith, long))

take-seam : (front rest : List ℕ) (n : ℕ) → length front ≡ n → take n (front ++ rest) ≡ front
take-seam [] rest zero long = refl
take-seam [] rest (suc n) long = absurd (omega (arith, long))
take-seam (x ∷ front) rest zero long = absurd (omega (arith, long))
take-seam (x ∷ front) rest (suc n) long = ap (λ z. x ∷ z) (take-seam front rest n (omega (arith, long)))

head-is : (xs : List ℕ) (x : ℕ) → slice_get xs 0 ≡ Some x → IsPrefixOf (x ∷ []) xs
head-is [] x at = absurd (cc)
head-is (y ∷ xs) x at = let same : y ≡ x = cc in (xs, ap (λ z. z ∷ xs) same)

-- a text that has a prefix has the prefix with the byte after it too
prefix-byte : (front text : List ℕ) (n byte : ℕ) → length front ≡ n → IsPrefixOf front text → slice_get text n ≡ Some byte → IsPrefixOf (front ++ byte ∷ []) text
prefix-byte front text n byte long (rest, is) at =
    let head = head-is rest byte (sym (at-seam front rest n long) ∙ ap (λ t. slice_get t n) (sym is) ∙ at) in
    (head.0, is ∙ ap (λ z. front ++ z) head.1 ∙ sym (append_assoc front (byte ∷ []) head.0))

-- a text that is no longer than the prefix that it shares with another is a prefix of the other
whole-prefix : (front rest text other more : List ℕ) (n : ℕ) → text ≡ front ++ rest → other ≡ front ++ more → length front ≡ n → length text ≤ n → IsPrefixOf text other
whole-prefix front rest text other more n is other_is long short =
    let none : rest ≡ [] = nil_from_length rest (omega (arith, short, long, ap length is, length-append front rest)) in
    let all : text ≡ front = is ∙ ap (λ z. front ++ z) none ∙ append-nil front in
    (more, other_is ∙ ap (λ z. z ++ more) (sym all))

module _ (a b : List ℕ) (n : ℕ) (both : AreAlike a b n) where
  -- the second text ends, or the first
  alike-second : length b ≤ n → IsPrefixOf b a
  alike-second short = whole-prefix both.front both.right b a both.left n both.b_is both.a_is both.long short

  alike-first : length a ≤ n → IsPrefixOf a b
  alike-first short = whole-prefix both.front both.left a b both.right n both.a_is both.b_is both.long short

  -- they part
  alike-parts : (x y : ℕ) → slice_get a n ≡ Some x → slice_get b n ≡ Some y → (y ≢ x) × IsPrefixOf (take n b ++ x ∷ []) a
  alike-parts x y in_a in_b =
      let left : slice_get both.left 0 ≡ Some x = sym (at-seam both.front both.left n both.long) ∙ ap (λ t. slice_get t n) (sym both.a_is) ∙ in_a in
      let right : slice_get both.right 0 ≡ Some y = sym (at-seam both.front both.right n both.long) ∙ ap (λ t. slice_get t n) (sym both.b_is) ∙ in_b in
      let taken : take n b ≡ both.front = ap (take n) both.b_is ∙ take-seam both.front both.right n both.long in
      (both.part x y left right, subst (λ f. IsPrefixOf (f ++ x ∷ []) a) (sym taken) (prefix-byte both.front a n x both.long (both.left, both.a_is) in_a))

-- one of these texts begins with the path
pub record HasText (path : List ℕ) (all : List (List ℕ)) : Type 0 where
  pub text : List ℕ
  pub inside : Contains all text
  pub begins : IsPrefixOf path text

module _ {H : Type 0} where
  -- what stands in a part stands in the whole
  leaf-of-whole : (context : Context H) (part : Tree H) (leaf : H × List ℕ) → Contains (leaves part) leaf → Contains (leaves (plug context part)) leaf
  leaf-of-whole context part leaf inside = subst (λ all. Contains all leaf) (sym (leaves-plug context part))
      (Contains-append_right (leaves_before context) (leaves part ++ leaves_after context) leaf (Contains-append_left (leaves part) (leaves_after context) leaf inside))

  text-of-whole : (context : Context H) (part : Tree H) (text : List ℕ) → Contains (texts part) text → Contains (texts (plug context part)) text
  text-of-whole context part text inside =
      let of : List (H × List ℕ) → List (List ℕ) = map (λ leaf. leaf.1) in
      let same : texts (plug context part) ≡ of (leaves_before context) ++ (texts part ++ of (leaves_after context)) =
      ap of (leaves-plug context part) ∙ map-append (λ leaf. leaf.1) (leaves_before context) (leaves part ++ leaves_after context)
      ∙ ap (λ z. of (leaves_before context) ++ z) (map-append (λ leaf. leaf.1) (leaves part) (leaves_after context)) in
      subst (λ all. Contains all text) (sym same) (Contains-append_right (of (leaves_before context)) (texts part ++ of (leaves_after context)) text (Contains-append_left (texts part) (of (leaves_after context)) text inside))

  -- a sound tree has a text, which begins with the path
  pub some-text : (path : List ℕ) (tree : Tree H) → IsSound path tree → HasText path (texts tree)
  some-text path tree sound = let some = texts-some path tree sound in record { text = get_or (texts tree) 0 []; inside = Contains-get_or (texts tree) 0 [] some; begins = texts-begin path tree sound 0 [] some }

  -- and so have branches, where it goes on by a byte
  pub branch-text : (path : List ℕ) (branches : Branches H) → 0 < length (branch_roots branches) → AreSound path branches → (byte : ℕ) × HasText (path ++ byte ∷ []) (branch_texts branches)
  branch-text path NoBranch some sound = absurd (omega (arith, some))
  branch-text path (Branch byte tree others) some sound =
      let first = some-text (path ++ byte ∷ []) tree sound.0 in
      let inside = subst (λ all. Contains all first.text) (sym (map-append (λ leaf. leaf.1) (leaves tree) (branch_leaves others))) (Contains-append_left (texts tree) (branch_texts others) first.text first.inside) in
      (byte, record { text = first.text; inside = inside; begins = first.begins })

-- the further down a search is, the less is left
pub smaller : (all now next : ℕ) → now < next → next ≤ all → all - next < all - now
smaller all now next more within = omega (arith, more, within)

-- a key leads to a spot of a tree
module _ {K V : Type 0} {P : ℕ} {text : K → List ℕ} {arena : NodeArena K V P} {tree : Tree (OpaqueNodePtr K V P)} {key : List ℕ} {spot : Spot K V P} (is : IsSpotIn text arena tree key spot) where
  pub depth-within : spot.depth ≤ length key
  depth-within = omega (arith, is.at.deep, ap length is.at.leads.1, length-append (path_to is.at.context) is.at.leads.0)

  pub part-stands : StandsIn text arena is.at.part
  part-stands = stands-part text arena arena is.at.context is.at.part (subst (StandsIn text arena) (sym is.at.whole) is.stands)

  pub part-sound : IsSound (path_to is.at.context) is.at.part
  part-sound = sound-part is.at.context is.at.part (subst IsWellFormed (sym is.at.whole) is.sound)

  -- the tree at the spot
  abbrev pub spot-tree : TreeAt text arena spot.node
  spot-tree = record { tree = is.at.part; path = path_to is.at.context; at_root = is.at.at_root; stands = part-stands; sound = part-sound }

  -- something is held there
  pub spot-held : held arena spot.node ≢ Nothing
  spot-held = part-held text arena spot.node is.at.part is.at.at_root part-stands

  -- where the key differs from all texts of the part
  parts-at : (told : List ℕ) (index : ℕ) (byte other : ℕ) → reach (path_to is.at.context) is.at.part ≡ told → AreAlike told key index → spot.depth ≤ index → slice_get told index ≡ Some other → slice_get key index ≡ Some byte → Parts tree key spot (record { index = index; byte = byte; node_byte = other })
  parts-at told index byte other told_is both later in_told in_key =
      let parted = alike-parts told key index both other byte in_told in_key in
      record { at = is.at; later = later; byte = in_key; node = subst (IsPrefixOf (take index key ++ other ∷ [])) (sym told_is) parted.1; differ = parted.0 }

-- and an inner node is held there
module _ {K V : Type 0} {P : ℕ} {text : K → List ℕ} {arena : NodeArena K V P} {tree : Tree (OpaqueNodePtr K V P)} {key : List ℕ} {spot : Spot K V P} {node : InnerNode (OpaqueNodePtr K V P)} (is : IsSpotIn text arena tree key spot) (holds : held arena spot.node ≡ HeldInner node) where
  here : IsInnerPart text arena spot.node node is.at.part
  here = inner-part text arena spot.node node is.at.part is.at.at_root (part-stands is) holds

  here-sound : IsSound (path_to is.at.context) (Inner spot.node here.prefix here.branches)
  here-sound = subst (IsSound (path_to is.at.context)) here.is (part-sound is)

  -- the path to the node and its prefix, which all its texts begin with
  abbrev way : List ℕ
  way = path_to is.at.context ++ here.prefix

  told-way : reach (path_to is.at.context) is.at.part ≡ way
  told-way = ap (reach (path_to is.at.context)) here.is

  way-long : length way ≡ spot.depth + length here.prefix
  way-long = omega (arith, length-append (path_to is.at.context) here.prefix, is.at.deep)

  -- a text of a leaf below has the prefix
  pub prefix-in-text : (x : List ℕ) → HasLeafText (toward (drop spot.depth key) is.at.part) x → (spot.depth + node.prefix_len ≤ length x) × (take node.prefix_len (drop spot.depth x) ≡ prefix_of is.at.part)
  prefix-in-text x below =
      let (pointer, inside) = toward-text (drop spot.depth key) is.at.part x below in
      let begins = branch-text-begins way here.branches pointer x here-sound.2 (subst (λ part. Contains (leaves part) (pointer, x)) here.is inside) in
      let rest : drop spot.depth x ≡ here.prefix ++ begins.0 = ap (drop spot.depth) (begins.1 ∙ append_assoc (path_to is.at.context) here.prefix begins.0) ∙ drop_at (path_to is.at.context) (here.prefix ++ begins.0) spot.depth is.at.deep in
      (omega (arith, way-long, ap length begins.1, length-append way begins.0, here.shows.prefix_len), ap (take node.prefix_len) rest ∙ take_at here.prefix begins.0 node.prefix_len (sym here.shows.prefix_len) ∙ sym (ap prefix_of here.is))

  -- a prefix that is stored whole
  pub prefix-stored : node.prefix_len ≤ P → node.stored ≡ prefix_of is.at.part
  prefix-stored few = here.shows.stored ∙ take_all (capped P (length here.prefix)) here.prefix (omega (arith, few, here.shows.prefix_len)) ∙ sym (ap prefix_of here.is)

-- its prefix was read, and so many bytes of it match what is left of the key
module _ {K V : Type 0} {P : ℕ} {text : K → List ℕ} {arena : NodeArena K V P} {tree : Tree (OpaqueNodePtr K V P)} {key : List ℕ} {spot : Spot K V P} {node : InnerNode (OpaqueNodePtr K V P)} {prefix : List ℕ} {n : ℕ} (is : IsSpotIn text arena tree key spot) (holds : held arena spot.node ≡ HeldInner node) (read : prefix ≡ prefix_of is.at.part)
    (told : n ≡ common_prefix_len nat_eq prefix (take (length key - spot.depth) (drop spot.depth key))) where
  abbrev there : IsInnerPart text arena spot.node node is.at.part
  there = here is holds

  abbrev front : List ℕ
  front = way is holds

  prefix_is : prefix ≡ there.prefix
  prefix_is = read ∙ ap prefix_of there.is

  counted : n ≡ common_prefix_len nat_eq there.prefix (drop spot.depth key)
  counted = told ∙ ap (λ p. common_prefix_len nat_eq p (take (length key - spot.depth) (drop spot.depth key))) prefix_is ∙ ap (common_prefix_len nat_eq there.prefix) (take_rest key spot.depth)

  node-alike : AreAlike front key (spot.depth + n)
  node-alike = alike-below (path_to is.at.context) there.prefix key spot.depth n is.at.deep is.at.leads counted

  pub matched-within : spot.depth + n ≤ length key
  matched-within = omega (arith, ap length node-alike.b_is, length-append node-alike.front node-alike.right, node-alike.long)

  -- the key ends there
  pub node-begins : spot.depth + n ≡ length key → BeginsAll tree key spot
  node-begins ends =
      let shared = alike-second front key (spot.depth + n) node-alike (omega (arith, ends)) in
      record {
        at = is.at;
        begins = subst (λ part. All (λ leaf. IsProperPrefixOf key leaf.1) (leaves part)) (sym there.is) (All-weaker (λ leaf. GoesOn front leaf.1) (λ leaf. IsProperPrefixOf key leaf.1)
            (λ leaf goes. (
              prefix-on key front leaf.1 shared (goes-begins front leaf.1 goes),
              λ same. omega (arith, goes-longer front leaf.1 goes, ap length shared.1, length-append key shared.0, ap length same),
            )) (branch_leaves there.branches) (branches-go-on front there.branches (here-sound is holds).2));
      }

  -- it goes on
  module _ (goes_on : (spot.depth + n ≡ length key) → ⊥) where
    pub inside : spot.depth + n < length key
    inside = omega (arith, matched-within, goes_on)

    abbrev next : ℕ
    next = get_or key (spot.depth + n) 0

    -- and differs from the prefix
    pub node-parts : n < length prefix → Parts tree key spot (record { index = spot.depth + n; byte = next; node_byte = get_or prefix n 0 })
    node-parts short =
        parts-at is front (spot.depth + n) next (get_or prefix n 0) (told-way is holds) node-alike (omega arith)
        (sym (slice_get-drop front spot.depth n) ∙ ap (λ rest. slice_get rest n) (drop_at (path_to is.at.context) there.prefix spot.depth is.at.deep) ∙ slice_get-get_or there.prefix n 0 (omega (arith, short, ap length prefix_is)) ∙ ap (λ p. Some (get_or p n 0)) (sym prefix_is))
        (slice_get-get_or key (spot.depth + n) 0 inside)

    -- or leads past all of it
    module _ (all : length prefix ≤ n) where
      whole : n ≡ length there.prefix
      whole = omega (arith, all, ap length prefix_is, (common_prefix_len-le nat_eq there.prefix (drop spot.depth key)).0, counted)

      leads-on : IsPrefixOf (front ++ next ∷ []) key
      leads-on = prefix-byte front key (spot.depth + n) next (omega (arith, way-long is holds, whole)) (alike-first front key (spot.depth + n) node-alike (omega (arith, way-long is holds, whole))) (slice_get-get_or key (spot.depth + n) 0 inside)

      -- where there is no child under the next byte
      pub node-lacks : child_at node.children next ≡ None → LacksChild tree key spot next
      node-lacks none = record {
        at = is.at;
        prefix = there.prefix;
        branches = there.branches;
        part = there.is;
        leads = leads-on;
        absent = ap (λ children. child_at children next) (sym there.shows.children) ∙ none;
      }

      -- or one, where its way goes on
      module _ {child : OpaqueNodePtr K V P} (some : child_at node.children next ≡ Some child) where
        split : IsSplit there.branches next child
        split = split-at there.branches next child (ap (λ children. child_at children next) (sym there.shows.children) ∙ some)

        abbrev node-leads : IsSpotIn text arena tree key (record { node = child; depth = spot.depth + n + 1; parent = Some (spot.node, next) })
        node-leads = record {
          stands = is.stands;
          sound = is.sound;
          at = record {
            context = Under is.at.context spot.node there.prefix split.before next split.after;
            part = split.tree;
            whole = ap (plug is.at.context) (ap (Inner spot.node there.prefix) split.whole ∙ sym there.is) ∙ is.at.whole;
            at_root = split.at_root;
            leads = leads-on;
            deep = omega (arith, length-append front (next ∷ []), way-long is holds, whole);
            parent_is = refl;
          };
        }

        toward-next : toward (drop spot.depth key) is.at.part ≡ toward (drop (spot.depth + n + 1) key) split.tree
        toward-next =
            let past : spot.depth + (n + 1) ≡ spot.depth + n + 1 = omega arith in
            let next-at : slice_get (drop spot.depth key) n ≡ Some next = slice_get-drop key spot.depth n ∙ slice_get-get_or key (spot.depth + n) 0 inside in
            ap (toward (drop spot.depth key)) there.is
            ∙ toward-child spot.node there.prefix there.branches next child split (drop spot.depth key) (ap (slice_get (drop spot.depth key)) (sym whole) ∙ next-at)
            ∙ ap (λ rest. toward rest split.tree) (ap (λ m. drop (m + 1) (drop spot.depth key)) (sym whole) ∙ drop-drop (n + 1) spot.depth key ∙ ap (λ m. drop m key) past)

        pub node-descends : (known : Option (List ℕ)) → IfSome known (HasLeafText (toward (drop spot.depth key) is.at.part)) → IsDescentIn text arena tree key (record { node = child; depth = spot.depth + n + 1; parent = Some (spot.node, next) }) known
        node-descends known below = record { spot_in = node-leads; below = subst (λ part. IfSome known (HasLeafText part)) toward-next below }

-- or a leaf is held there, whose text was read
module _ {K V : Type 0} {P : ℕ} {text : K → List ℕ} {arena : NodeArena K V P} {tree : Tree (OpaqueNodePtr K V P)} {key : List ℕ} {spot : Spot K V P} {pointer : OpaqueNodePtr K V P} {leaf : LeafNode K V P} {own : K} {x : List ℕ} (is : IsSpotIn text arena tree key spot) (at : spot.node ≡ pointer) (holds : held arena pointer ≡ HeldLeaf leaf) (read : x ≡ text own) (of : own ≡ leaf_key leaf) where
  text_is : leaf_text text leaf ≡ x
  text_is = sym (read ∙ ap text of)

  part_is : is.at.part ≡ Leaf spot.node x
  part_is = leaf-part text arena spot.node leaf is.at.part is.at.at_root (part-stands is) (ap (held arena) at ∙ holds) ∙ ap (Leaf spot.node) text_is

  x-begins : IsPrefixOf (path_to is.at.context) x
  x-begins = (subst (IsSound (path_to is.at.context)) part_is (part-sound is)).0

  pub leaf-deep : spot.depth ≤ length x
  leaf-deep = omega (arith, is.at.deep, ap length x-begins.1, length-append (path_to is.at.context) x-begins.0)

  -- the key leads to the leaf
  leads-to-leaf : LeadsToLeaf tree key pointer x
  leads-to-leaf = subst (λ pointer. LeadsToLeaf tree key pointer x) at (record { context = is.at.context; whole = ap (plug is.at.context) (sym part_is) ∙ is.at.whole; leads = is.at.leads })

  module _ {n : ℕ} (told : n ≡ common_prefix_len nat_eq (take (length x - spot.depth) (drop spot.depth x)) (take (length key - spot.depth) (drop spot.depth key))) where
    leaf-alike : AreAlike x key (spot.depth + n)
    leaf-alike =
        let counted = told ∙ ap (λ z. common_prefix_len nat_eq z (take (length key - spot.depth) (drop spot.depth key))) (take_rest x spot.depth) ∙ ap (common_prefix_len nat_eq (drop spot.depth x)) (take_rest key spot.depth) in
        let rest : drop spot.depth x ≡ x-begins.0 = ap (drop spot.depth) x-begins.1 ∙ drop_at (path_to is.at.context) x-begins.0 spot.depth is.at.deep in
        subst (λ t. AreAlike t key (spot.depth + n)) (ap (λ z. path_to is.at.context ++ z) rest ∙ sym x-begins.1) (alike-below (path_to is.at.context) (drop spot.depth x) key spot.depth n is.at.deep is.at.leads counted)

    pub leaf-within : (spot.depth + n ≤ length x) × (spot.depth + n ≤ length key)
    leaf-within = (
      omega (arith, ap length leaf-alike.a_is, length-append leaf-alike.front leaf-alike.left, leaf-alike.long),
      omega (arith, ap length leaf-alike.b_is, length-append leaf-alike.front leaf-alike.right, leaf-alike.long),
    )

    -- they end together
    pub leaf-same : spot.depth + n ≡ length x → spot.depth + n ≡ length key → LeadsToLeaf tree key pointer key
    leaf-same first second =
        let left : leaf-alike.left ≡ [] = nil_from_length leaf-alike.left (omega (arith, first, ap length leaf-alike.a_is, length-append leaf-alike.front leaf-alike.left, leaf-alike.long)) in
        let right : leaf-alike.right ≡ [] = nil_from_length leaf-alike.right (omega (arith, second, ap length leaf-alike.b_is, length-append leaf-alike.front leaf-alike.right, leaf-alike.long)) in
        let same : x ≡ key = leaf-alike.a_is ∙ ap (λ z. leaf-alike.front ++ z) (left ∙ sym right) ∙ sym leaf-alike.b_is in
        subst (LeadsToLeaf tree key pointer) same leads-to-leaf

    -- the leaf's text ends before the key, or the key before the leaf's text
    pub leaf-extends : spot.depth + n ≡ length x → spot.depth + n ≢ length key → (z : List ℕ) × LeadsToLeaf tree key pointer z × IsProperPrefixOf z key
    leaf-extends ends longer = (x, leads-to-leaf, (alike-first x key (spot.depth + n) leaf-alike (omega (arith, ends)), λ same. longer (ends ∙ ap length same)))

    pub leaf-begins : spot.depth + n ≢ length x → spot.depth + n ≡ length key → BeginsAll tree key spot
    leaf-begins longer ends = record {
      at = is.at;
      begins = subst (λ part. All (λ leaf. IsProperPrefixOf key leaf.1) (leaves part)) (sym part_is)
          (All-cons (λ leaf. IsProperPrefixOf key leaf.1) (spot.node, x) [] (alike-second x key (spot.depth + n) leaf-alike (omega (arith, ends)), λ same. longer (ends ∙ ap length same)) (All-nil (λ leaf. IsProperPrefixOf key leaf.1)));
    }

    -- they part
    pub leaf-parts : spot.depth + n ≢ length x → spot.depth + n ≢ length key → Parts tree key spot (record { index = spot.depth + n; byte = get_or key (spot.depth + n) 0; node_byte = get_or x (spot.depth + n) 0 })
    leaf-parts in_text in_key =
        parts-at is x (spot.depth + n) (get_or key (spot.depth + n) 0) (get_or x (spot.depth + n) 0) (ap (reach (path_to is.at.context)) part_is) leaf-alike (omega arith)
        (slice_get-get_or x (spot.depth + n) 0 (omega (arith, leaf-within.0, in_text))) (slice_get-get_or key (spot.depth + n) 0 (omega (arith, leaf-within.1, in_key)))

module _ {H : Type 0} (tree : Tree H) (key : List ℕ) where
  -- a leaf to which a key leads is in the tree
  pub leaf-inside : (pointer : H) (x : List ℕ) → LeadsToLeaf tree key pointer x → Contains (leaves tree) (pointer, x)
  leaf-inside pointer x at = subst (λ whole. Contains (leaves whole) (pointer, x)) at.whole (leaf-of-whole at.context (Leaf pointer x) (pointer, x) (0, omega arith, refl))

  -- so a key that extends its text clashes
  pub extends-clash : (pointer : H) (x : List ℕ) → LeadsToLeaf tree key pointer x → IsProperPrefixOf x key → Clashes (texts tree) key
  extends-clash pointer x at longer = (x, image_inside (λ leaf. leaf.1) (leaves tree) (pointer, x) x refl (leaf-inside pointer x at), inl longer)

-- and so does one that begins all texts at a spot
pub begins-clash : {K V : Type 0} {P : ℕ} (tree : Tree (OpaqueNodePtr K V P)) (key : List ℕ) (spot : Spot K V P) → IsWellFormed tree → BeginsAll tree key spot → Clashes (texts tree) key
begins-clash tree key spot sound begins =
    let at = begins.at in
    let some = some-text (path_to at.context) at.part (sound-part at.context at.part (subst IsWellFormed (sym at.whole) sound)) in
    let all = All-map (IsProperPrefixOf key) (λ leaf. leaf.1) (leaves at.part) begins.begins in
    (some.text, subst (λ whole. Contains (texts whole) some.text) at.whole (text-of-whole at.context at.part some.text some.inside), inr (All-contains (IsProperPrefixOf key) (texts at.part) some.text all some.inside))
