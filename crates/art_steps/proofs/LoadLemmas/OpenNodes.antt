-- Loading: a plan that is being made, with its open nodes and the tree that was finished last.
use Rattle.art_steps.proofs.Names.{◌≡◌, ◌∙◌, ℕ, zero, suc, ◌+◌, ◌-◌, ◌<◌, ◌≤◌, ◌^◌, max, List, [], ◌∷◌, ◌++◌, length, length-append, take, drop, get_or, map, refl, inl, inr, sym, ap, subst, arith, append_assoc, length-drop, append-nil, take-take, take-append-drop, take_more, length-take-le, get_or-take, get_or_past, length-map, cases_lt, nat_tests, IsText, IsAscending, key_bytes, Tree, Leaf, Inner, Branches, branch_roots, IsSound, AreSound, steps_of, branch_steps, Spans, BranchesSpan, IsFork, byte_before, IsPlanOf, join, text_of_entry, Open, Step}
use Rattle.art_steps.specs.declared.steps.Step.TheVariants as step
use Rattle.art_steps.proofs.SharedLemmas.BranchLemmas.{steps-join, sound-join, span-join, bytes-join, count-one, AscendBelow, low-below, ascending-last, below-last, last-same, one_branch}

abbrev pub Shape : Type 0
Shape = Tree (Unit {0})

-- an open node: its branch byte stands at `end` of each text below
pub record Frame : Type 0 where
  pub end : ℕ
  pub branches : Branches (Unit {0})

-- as the code keeps them, the last one opened at the end, above the one in which the root is the only child
abbrev pub opens : List Frame → List Open
opens [] = record { path = 0; children = 0 } ∷ []
opens (f ∷ fs) = opens fs ++ record { path = f.end + 1; children = length (branch_roots f.branches) } ∷ []

-- how many bytes lead to a child of the last one
abbrev pub top_path : List Frame → ℕ
top_path [] = 0
top_path (f ∷ fs) = f.end + 1

abbrev pub frame_steps : List Frame → List Step
frame_steps [] = []
frame_steps (f ∷ fs) = frame_steps fs ++ branch_steps (f.end + 1) f.branches

abbrev pub FramesSpan : List (List ℕ) → List Frame → ℕ → Type 0
FramesSpan texts [] high = high ≡ 0
FramesSpan texts (f ∷ fs) high = (middle : ℕ) × FramesSpan texts fs middle × BranchesSpan texts middle f.branches high

-- the node is on the path to this text, past those below it, and its branches stand under lesser bytes
pub record IsOpen (text : List ℕ) (below : ℕ) (f : Frame) : Type 0 where
  pub within : f.end < length text
  pub past : below ≤ f.end
  pub some : 1 ≤ length (branch_roots f.branches)
  pub sound : AreSound (take f.end text) f.branches
  pub bytes : AscendBelow 0 (key_bytes (branch_roots f.branches)) (get_or text f.end 0)

abbrev pub AreOpen : List ℕ → List Frame → Type 0
AreOpen text [] = Unit {0}
AreOpen text (f ∷ fs) = IsOpen text (top_path fs) f × AreOpen text fs

-- before a text: its path is open, and all texts before it have their steps
pub record IsPlanned (texts : List (List ℕ)) (i : ℕ) (top : Open) (open_before : List Open) (steps : List Step) : Type 0 where
  pub frames : List Frame
  pub opened : open_before ++ top ∷ [] ≡ opens frames
  pub spans : FramesSpan texts frames i
  pub are_open : AreOpen (text_of_entry texts i) frames
  pub in_order : steps ≡ frame_steps frames

-- after a text's leaf: a finished tree with it, which stands under the last open node or under one where the next text parts
pub record IsClosing (texts : List (List ℕ)) (i : ℕ) (text : List ℕ) (shared : ℕ) (top : Open) (open_before : List Open) (steps : List Step) : Type 0 where
  pub frames : List Frame
  pub tree : Shape
  pub middle : ℕ
  pub opened : open_before ++ top ∷ [] ≡ opens frames
  pub before : FramesSpan texts frames middle
  pub spans : Spans texts middle tree (i + 1)
  pub are_open : AreOpen text frames
  pub sound : IsSound (take (max shared (top_path frames)) text) tree
  pub in_order : steps ≡ frame_steps frames ++ steps_of (byte_before text (max shared (top_path frames))) (max shared (top_path frames)) tree

-- where two texts part, or the end of all
pub record Parts (texts : List (List ℕ)) (i : ℕ) (text : List ℕ) (shared : ℕ) : Type 0 where
  pub between : i + 1 < length texts → (at : ℕ) × (shared ≡ at + 1) × IsFork text (text_of_entry texts (i + 1)) at
  pub last : i + 1 ≡ length texts → shared ≡ 0
  pub within : shared ≤ length text

-- the text of the entry at an index
pub entry-text : {A : Type 0} (text : A → List ℕ) (entries : List A) (i : ℕ) (entry : A) → i < length entries → entry ≡ get_or entries i entry → get_or (map text entries) i [] ≡ text entry
entry-text text [] i entry lt e = absurd (omega arith)
entry-text text (x ∷ entries) zero entry lt e = ap text (sym e)
entry-text text (x ∷ entries) (suc i) entry lt e = entry-text text entries i entry (omega arith) e

-- each place of a text has a byte
pub bytes-at : (text : List ℕ) → IsText text → (k : ℕ) → get_or text k 0 < 256
bytes-at text h k = elim (cases_lt k (length text)) [
  | inl within ↦ h k 0 within
  | inr past ↦ let none = get_or_past text k 0 past in omega (arith, none)
]

byte-last : (text : List ℕ) (at : ℕ) → byte_before text (at + 1) ≡ get_or text at 0
byte-last text at = grind (arith, nat_tests)

-- the last one opened is the last in the list
pub top-path : (frames : List Frame) (xs : List Open) (top : Open) → xs ++ top ∷ [] ≡ opens frames → top.path ≡ top_path frames
top-path [] xs top e = ap (λ o. o.path) (last-same xs [] top _ e).1
top-path (f ∷ fs) xs top e = ap (λ o. o.path) (last-same xs (opens fs) top _ e).1

regroup : (a b c d : List Step) → ((a ++ b) ++ c) ++ d ≡ a ++ ((b ++ (c ++ [])) ++ d)
regroup a b c d = simp (append_assoc, append-nil)

node-step : (text : List ℕ) (a b c d m n : ℕ) → a ≡ b → c ≡ d → m ≡ n → step.Inner (byte_before text a) a c m ≡ step.Inner (byte_before text b) b d n
node-step text a b c d m n ab cd mn = ap (λ x. step.Inner (byte_before text x) x c m) ab ∙ ap (λ x. step.Inner (byte_before text b) b x m) cd ∙ ap (λ x. step.Inner (byte_before text b) b d x) mn

open-same : (xs ys : List Open) (a b m n : ℕ) → xs ≡ ys → a ≡ b → m ≡ n → xs ++ record { path = a; children = m } ∷ [] ≡ ys ++ record { path = b; children = n } ∷ []
open-same xs ys a b m n same ab mn = ap (λ z. z ++ record { path = a; children = m } ∷ []) same ∙ ap (λ x. ys ++ record { path = x; children = m } ∷ []) ab ∙ ap (λ x. ys ++ record { path = b; children = x } ∷ []) mn

some-opens : (frames : List Frame) → 0 < length (opens frames)
some-opens [] = omega arith
some-opens (f ∷ fs) = omega (arith, length-append (opens fs) (record { path = f.end + 1; children = length (branch_roots f.branches) } ∷ []))

open-path : (text : List ℕ) (frames : List Frame) → AreOpen text frames → top_path frames ≤ length text
open-path text [] h = omega arith
open-path text (f ∷ fs) h = omega (arith, h.0.within)

pub planned-path : (texts : List (List ℕ)) (i : ℕ) (top : Open) (xs : List Open) (steps : List Step) → IsPlanned texts i top xs steps → top.path ≤ length (text_of_entry texts i)
planned-path texts i top xs steps p = omega (arith, top-path p.frames xs top p.opened, open-path (text_of_entry texts i) p.frames p.are_open)

pub parts-between : (texts : List (List ℕ)) (i : ℕ) (text next : List ℕ) (at : ℕ) → i + 1 < length texts → next ≡ text_of_entry texts (i + 1) → IsFork text next at → Parts texts i text (at + 1)
parts-between texts i text next at lt is_next fork = record {
  between = λ _. (at, refl, subst (λ t. IsFork text t at) is_next fork);
  last = λ e. absurd (omega (arith, lt, e));
  within = omega (arith, fork.in_first);
}

pub parts-last : (texts : List (List ℕ)) (i : ℕ) (text : List ℕ) → length texts ≤ i + 1 → Parts texts i text 0
parts-last texts i text le = record { between = λ lt. absurd (omega (arith, le, lt)); last = λ _. refl; within = omega arith }

module _ (texts : List (List ℕ)) (i : ℕ) (text : List ℕ) (is_text : text ≡ text_of_entry texts i) where
  -- a text's leaf
  pub closing-leaf : (shared : ℕ) (top : Open) (xs : List Open) (steps : List Step) → i < length texts → length text < 2 ^ 64 → (p : IsPlanned texts i top xs steps) → IsClosing texts i text shared top xs (steps ++ step.Leaf (byte_before text (max shared top.path)) ∷ [])
  closing-leaf shared top xs steps within short p =
      let is_top = top-path p.frames xs top p.opened in
      record {
        frames = p.frames;
        tree = Leaf tt text;
        middle = i;
        opened = p.opened;
        before = p.spans;
        spans = (within, refl, is_text);
        are_open = subst (λ x. AreOpen x p.frames) (sym is_text) p.are_open;
        sound = ((drop (max shared (top_path p.frames)) text, sym (take-append-drop (max shared (top_path p.frames)) text)), short);
        in_order = ap (λ path. steps ++ step.Leaf (byte_before text (max shared path)) ∷ []) is_top ∙ ap (λ before. before ++ step.Leaf (byte_before text (max shared (top_path p.frames))) ∷ []) p.in_order;
      }

  -- something is open below a node that is to be finished
  pub closing-some : (shared : ℕ) (top : Open) (xs : List Open) (steps : List Step) → shared < top.path → IsClosing texts i text shared top xs steps → 0 < length xs
  closing-some shared top xs steps lt c = at_frames c.frames c.opened
    where
      at_frames : (frames : List Frame) → xs ++ top ∷ [] ≡ opens frames → 0 < length xs
      at_frames [] opened = absurd (omega (arith, top-path [] xs top opened, lt))
      at_frames (f ∷ fs) opened = omega (arith, ap length (last-same xs (opens fs) top _ opened).0, some-opens fs)

  -- and its children lie within the text
  pub closing-below : (shared : ℕ) (top below : Open) (xs ys : List Open) (steps : List Step) → xs ≡ ys ++ below ∷ [] → shared < top.path → IsClosing texts i text shared top xs steps → below.path ≤ length text
  closing-below shared top below xs ys steps popped lt c = at_frames c.frames c.opened c.are_open
    where
      at_frames : (frames : List Frame) → xs ++ top ∷ [] ≡ opens frames → AreOpen text frames → below.path ≤ length text
      at_frames [] opened h = absurd (omega (arith, top-path [] xs top opened, lt))
      at_frames (f ∷ fs) opened h = omega (arith, top-path fs ys below (sym popped ∙ (last-same xs (opens fs) top _ opened).0), open-path text fs h.1)

  module _ (are_bytes : (k : ℕ) → get_or text k 0 < 256) where
    -- the last open node is finished: the finished tree is its last child
    pub closing-node : (shared : ℕ) (top below : Open) (xs ys : List Open) (steps : List Step) → xs ≡ ys ++ below ∷ [] → shared < top.path → IsClosing texts i text shared top xs steps
        → IsClosing texts i text shared below ys (steps ++ step.Inner (byte_before text (max shared below.path)) (max shared below.path) (top.path - 1) (top.children + 1) ∷ [])
    closing-node shared top below xs ys steps popped lt c = at_frames c.frames c.tree c.middle c.opened c.before c.spans c.are_open c.sound c.in_order
      where
        at_frames : (frames : List Frame) (tree : Shape) (middle : ℕ) → xs ++ top ∷ [] ≡ opens frames → FramesSpan texts frames middle → Spans texts middle tree (i + 1) → AreOpen text frames → IsSound (take (max shared (top_path frames)) text) tree
            → steps ≡ frame_steps frames ++ steps_of (byte_before text (max shared (top_path frames))) (max shared (top_path frames)) tree
            → IsClosing texts i text shared below ys (steps ++ step.Inner (byte_before text (max shared below.path)) (max shared below.path) (top.path - 1) (top.children + 1) ∷ [])
        at_frames [] tree middle opened before spans are_open sound order = absurd (omega (arith, top-path [] xs top opened, lt))
        at_frames (f ∷ fs) tree middle opened before spans are_open sound order =
            let same = last-same xs (opens fs) top _ opened in
            let top_at : top.path ≡ f.end + 1 = ap (λ o. o.path) same.1 in
            let top_count : top.children ≡ length (branch_roots f.branches) = ap (λ o. o.children) same.1 in
            let below_at : below.path ≡ top_path fs = top-path fs ys below (sym popped ∙ same.0) in
            let start = max shared (top_path fs) in
            let prefix = drop start (take f.end text) in
            let byte = get_or text f.end 0 in
            let branches = join f.branches (one_branch byte tree) in
            let path : max shared (f.end + 1) ≡ f.end + 1 = omega (arith, lt, top_at) in
            let le : start ≤ f.end = omega (arith, lt, top_at, are_open.0.past) in
            let child : IsSound (take f.end text ++ byte ∷ []) tree = subst (λ p. IsSound p tree) (ap (λ n. take n text) path ∙ take_more text f.end 0 are_open.0.within) sound in
            let front : take start text ++ prefix ≡ take f.end text = ap (λ p. p ++ prefix) (sym (take-take start f.end text le)) ∙ take-append-drop start (take f.end text) in
            let ends : start + length prefix ≡ f.end = omega (arith, le, are_open.0.within, length-drop start (take f.end text), length-take-le f.end text (omega (arith, are_open.0.within))) in
            let count = count-one f.branches byte tree in
            let first_steps = branch_steps (f.end + 1) f.branches in
            let last_steps = steps_of byte (f.end + 1) tree in
            let made : step.Inner (byte_before text (max shared below.path)) (max shared below.path) (top.path - 1) (top.children + 1) ≡ step.Inner (byte_before text start) start (start + length prefix) (length (branch_roots branches))
            = node-step text (max shared below.path) start (top.path - 1) (start + length prefix) (top.children + 1) (length (branch_roots branches)) (ap (max shared) below_at) (omega (arith, ends, top_at)) (omega (arith, count, top_count)) in
            let inside : branch_steps (start + length prefix + 1) branches ≡ first_steps ++ (last_steps ++ []) = ap (λ n. branch_steps (n + 1) branches) ends ∙ steps-join (f.end + 1) f.branches (one_branch byte tree) in
            let earlier : steps ≡ (frame_steps fs ++ first_steps) ++ last_steps = order ∙ ap (λ n. (frame_steps fs ++ first_steps) ++ steps_of (byte_before text n) n tree) path ∙ ap (λ b. (frame_steps fs ++ first_steps) ++ steps_of b (f.end + 1) tree) (byte-last text f.end) in
            record {
              frames = fs;
              tree = Inner tt prefix branches;
              middle = before.0;
              opened = sym popped ∙ same.0;
              before = before.1;
              spans = span-join texts before.0 middle (i + 1) f.branches (one_branch byte tree) before.2 (i + 1, spans, refl);
              are_open = are_open.1;
              sound = (omega (arith, count, are_open.0.some), subst IsAscending (sym (bytes-join f.branches (one_branch byte tree))) (ascending-last 0 (key_bytes (branch_roots f.branches)) byte are_open.0.bytes (are_bytes f.end)), subst (λ p. AreSound p branches) (sym front) (sound-join (take f.end text) f.branches (one_branch byte tree) are_open.0.sound (child, tt)));
              in_order = ap (λ s. s ++ step.Inner (byte_before text (max shared below.path)) (max shared below.path) (top.path - 1) (top.children + 1) ∷ []) earlier ∙ ap (λ s. ((frame_steps fs ++ first_steps) ++ last_steps) ++ s ∷ []) made
                  ∙ regroup (frame_steps fs) first_steps last_steps (step.Inner (byte_before text start) start (start + length prefix) (length (branch_roots branches)) ∷ [])
                  ∙ ap (λ s. frame_steps fs ++ (s ++ step.Inner (byte_before text start) start (start + length prefix) (length (branch_roots branches)) ∷ [])) (sym inside);
            }

    -- the same as the code writes it
    pub closing-node-called : (shared : ℕ) (top below : Open) (xs ys : List Open) (steps after : List Step) (byte start : ℕ) → xs ≡ ys ++ below ∷ [] → shared < top.path → start ≡ max shared below.path → byte ≡ byte_before text start
        → after ≡ steps ++ step.Inner byte start (top.path - 1) (top.children + 1) ∷ [] → IsClosing texts i text shared top xs steps → IsClosing texts i text shared below ys after
    closing-node-called shared top below xs ys steps after byte start popped lt is_start is_byte is_after c =
        subst (IsClosing texts i text shared below ys) (sym (is_after ∙ ap (λ b. steps ++ step.Inner b start (top.path - 1) (top.children + 1) ∷ []) is_byte ∙ ap (λ s. steps ++ step.Inner (byte_before text s) s (top.path - 1) (top.children + 1) ∷ []) is_start))
        (closing-node shared top below xs ys steps popped lt c)

    -- the children of the last open node are fewer than there are bytes
    pub closing-count : (shared : ℕ) (top : Open) (xs : List Open) (steps : List Step) → IsClosing texts i text shared top xs steps → top.children < 257
    closing-count shared top xs steps c = at_frames c.frames c.opened c.are_open
      where
        at_frames : (frames : List Frame) → xs ++ top ∷ [] ≡ opens frames → AreOpen text frames → top.children < 257
        at_frames [] opened are_open = let count : top.children ≡ 0 = ap (λ o. o.children) (last-same xs [] top _ opened).1 in omega (arith, count)
        at_frames (f ∷ fs) opened are_open =
            let count : top.children ≡ length (branch_roots f.branches) = ap (λ o. o.children) (last-same xs (opens fs) top _ opened).1 in
            let below = low-below 0 (key_bytes (branch_roots f.branches)) (get_or text f.end 0) are_open.0.bytes in
            omega (arith, count, below, are_bytes f.end, length-map (branch_roots f.branches) (λ pair. pair.0))

    module _ (next : List ℕ) (is_next : next ≡ text_of_entry texts (i + 1)) (at : ℕ) (fork : IsFork text next at) where
      -- what is open above the fork is on the path to the next text too
      reopen : (frames : List Frame) → top_path frames ≤ at → AreOpen text frames → AreOpen next frames
      reopen [] le h = tt
      reopen (f ∷ fs) le h =
          let front : take f.end text ≡ take f.end next = sym (take-take f.end at text (omega (arith, le))) ∙ ap (take f.end) fork.shared ∙ take-take f.end at next (omega (arith, le)) in
          let byte : get_or text f.end 0 ≡ get_or next f.end 0 = sym (get_or-take at text f.end 0 (omega (arith, le))) ∙ ap (λ s. get_or s f.end 0) fork.shared ∙ get_or-take at next f.end 0 (omega (arith, le)) in (
            record {
              within = omega (arith, fork.in_second, le);
              past = h.0.past;
              some = h.0.some;
              sound = subst (λ p. AreSound p f.branches) front h.0.sound;
              bytes = subst (AscendBelow 0 (key_bytes (branch_roots f.branches))) byte h.0.bytes;
            },
            reopen fs (omega (arith, h.0.past, le)) h.1,
          )

      child-at : (tree : Shape) (m : ℕ) → m ≡ at + 1 → IsSound (take m text) tree → IsSound (take at next ++ get_or text at 0 ∷ []) tree
      child-at tree m path sound = subst (λ p. IsSound p tree) (ap (λ n. take n text) path ∙ take_more text at 0 fork.in_first ∙ ap (λ p. p ++ get_or text at 0 ∷ []) fork.shared) sound

      last-steps : (tree : Shape) (m : ℕ) → m ≡ at + 1 → steps_of (byte_before text m) m tree ≡ steps_of (get_or text at 0) (at + 1) tree
      last-steps tree m path = ap (λ n. steps_of (byte_before text n) n tree) path ∙ ap (λ b. steps_of b (at + 1) tree) (byte-last text at)

      -- the finished tree is the first child of a new open node
      pub branch-new : (shared : ℕ) (top : Open) (xs : List Open) (steps : List Step) → shared ≡ at + 1 → top.path < shared → IsClosing texts i text shared top xs steps → IsPlanned texts (i + 1) (record { path = shared; children = 1 }) (xs ++ top ∷ []) steps
      branch-new shared top xs steps at_fork lt c =
          let is_top = top-path c.frames xs top c.opened in
          let byte = get_or text at 0 in
          let m = max shared (top_path c.frames) in
          let path : m ≡ at + 1 = omega (arith, lt, is_top, at_fork) in
          let f : Frame = record { end = at; branches = one_branch byte c.tree } in
          record {
            frames = f ∷ c.frames;
            opened = ap (λ o. o ++ record { path = shared; children = 1 } ∷ []) c.opened ∙ ap (λ n. opens c.frames ++ record { path = n; children = 1 } ∷ []) at_fork;
            spans = (c.middle, c.before, (i + 1, c.spans, refl));
            are_open = subst (λ t. AreOpen t (f ∷ c.frames)) is_next (
              record {
                within = fork.in_second;
                past = omega (arith, lt, is_top, at_fork);
                some = omega arith;
                sound = (child-at c.tree m path c.sound, tt);
                bytes = (omega arith, fork.less);
              },
              reopen c.frames (omega (arith, lt, is_top, at_fork)) c.are_open,
            );
            in_order = c.in_order ∙ ap (λ s. frame_steps c.frames ++ s) (last-steps c.tree m path ∙ sym (append-nil _));
          }

      -- the finished tree is one more child of the last open node
      pub branch-last : (shared : ℕ) (top : Open) (xs : List Open) (steps : List Step) → shared ≡ at + 1 → top.path ≡ shared → IsClosing texts i text shared top xs steps → IsPlanned texts (i + 1) (record { path = top.path; children = top.children + 1 }) xs steps
      branch-last shared top xs steps at_fork same_path c = at_frames c.frames c.tree c.middle c.opened c.before c.spans c.are_open c.sound c.in_order
        where
          at_frames : (frames : List Frame) (tree : Shape) (middle : ℕ) → xs ++ top ∷ [] ≡ opens frames → FramesSpan texts frames middle → Spans texts middle tree (i + 1) → AreOpen text frames → IsSound (take (max shared (top_path frames)) text) tree
              → steps ≡ frame_steps frames ++ steps_of (byte_before text (max shared (top_path frames))) (max shared (top_path frames)) tree
              → IsPlanned texts (i + 1) (record { path = top.path; children = top.children + 1 }) xs steps
          at_frames [] tree middle opened before spans are_open sound order = absurd (omega (arith, top-path [] xs top opened, same_path, at_fork))
          at_frames (g ∷ fs) tree middle opened before spans are_open sound order =
              let same = last-same xs (opens fs) top _ opened in
              let top_at : top.path ≡ g.end + 1 = ap (λ o. o.path) same.1 in
              let top_count : top.children ≡ length (branch_roots g.branches) = ap (λ o. o.children) same.1 in
              let end : g.end ≡ at = omega (arith, top_at, same_path, at_fork) in
              let byte = get_or text at 0 in
              let m = max shared (g.end + 1) in
              let path : m ≡ at + 1 = omega (arith, end, at_fork) in
              let branches = join g.branches (one_branch byte tree) in
              let f : Frame = record { end = g.end; branches = branches } in
              let count = count-one g.branches byte tree in
              record {
                frames = f ∷ fs;
                opened = open-same xs (opens fs) top.path (g.end + 1) (top.children + 1) (length (branch_roots branches)) same.0 top_at (omega (arith, count, top_count));
                spans = (before.0, before.1, span-join texts before.0 middle (i + 1) g.branches (one_branch byte tree) before.2 (i + 1, spans, refl));
                are_open = subst (λ t. AreOpen t (f ∷ fs)) is_next (
                  record {
                    within = omega (arith, fork.in_second, end);
                    past = are_open.0.past;
                    some = omega (arith, count);
                    sound = subst (λ n. AreSound (take n next) branches) (sym end) (sound-join (take at next) g.branches (one_branch byte tree) (subst (λ p. AreSound p g.branches) (ap (λ n. take n text) end ∙ fork.shared) are_open.0.sound) (child-at tree m path sound, tt));
                    bytes = subst (λ bytes. AscendBelow 0 bytes (get_or next g.end 0)) (sym (bytes-join g.branches (one_branch byte tree))) (subst (λ n. AscendBelow 0 (key_bytes (branch_roots g.branches) ++ byte ∷ []) (get_or next n 0)) (sym end) (below-last 0 (key_bytes (branch_roots g.branches)) byte (get_or next at 0) (subst (λ n. AscendBelow 0 (key_bytes (branch_roots g.branches)) (get_or text n 0)) end are_open.0.bytes) fork.less));
                  },
                  reopen fs (omega (arith, are_open.0.past, end)) are_open.1,
                );
                in_order = order ∙ ap (λ s. (frame_steps fs ++ branch_steps (g.end + 1) g.branches) ++ s) (last-steps tree m path ∙ ap (λ n. steps_of byte (n + 1) tree) (sym end) ∙ sym (append-nil _))
                    ∙ append_assoc (frame_steps fs) _ _ ∙ ap (λ s. frame_steps fs ++ s) (sym (steps-join (g.end + 1) g.branches (one_branch byte tree)));
              }

  -- where the last text's leaf is closed to the root, the steps are those of a whole tree
  pub closed : (shared : ℕ) (top : Open) (xs : List Open) (steps : List Step) → shared ≡ 0 → top.path ≤ shared → i + 1 ≡ length texts → IsClosing texts i text shared top xs steps → IsPlanOf texts steps
  closed shared top xs steps none le all c = at_frames c.frames c.tree c.middle c.opened c.before c.spans c.sound c.in_order
    where
      at_frames : (frames : List Frame) (tree : Shape) (middle : ℕ) → xs ++ top ∷ [] ≡ opens frames → FramesSpan texts frames middle → Spans texts middle tree (i + 1) → IsSound (take (max shared (top_path frames)) text) tree
          → steps ≡ frame_steps frames ++ steps_of (byte_before text (max shared (top_path frames))) (max shared (top_path frames)) tree → IsPlanOf texts steps
      at_frames (f ∷ fs) tree middle opened before spans sound order = absurd (omega (arith, top-path (f ∷ fs) xs top opened, none, le))
      at_frames [] tree middle opened before spans sound order =
          let root : max shared 0 ≡ 0 = omega (arith, none) in
          record {
            shape = tree;
            sound = subst (λ n. IsSound (take n text) tree) root sound;
            spans = subst (λ low. Spans texts low tree (length texts)) before (subst (λ high. Spans texts middle tree high) all spans);
            in_order = order ∙ ap (λ n. steps_of (byte_before text n) n tree) root;
          }
