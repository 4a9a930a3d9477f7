-- What lines say, one after another.
use Rattle.std.proofs.Common.{◌≡◌, ◌∙◌, ℕ, ◌+◌, ◌-◌, List, [], ◌∷◌, ◌++◌, length, get_or, refl, sym, ap, arith, append_assoc, append-nil, subst}
use Rattle.std.proofs.lemmas.List.{length-append}
use Rattle.program_lines.specs.Lines.{lines_of, line_at, SayAll, IsFirstBad}

-- the element after so many
pub get_or-after : {X : Type 0} (before after : List X) (x d : X) → get_or (before ++ x ∷ after) (length before) d ≡ x
get_or-after [] after x d = refl
get_or-after (y ∷ before) after x d = get_or-after before after x d

module _ {C : Type 0} (Say : List ℕ → C → Type 0) where
  -- as many items as lines
  as_many : (lines : List (List ℕ)) (items : List C) → SayAll Say lines items → length lines ≡ length items
  as_many [] [] said = refl
  as_many [] (item ∷ items) said = absurd said
  as_many (line ∷ lines) [] said = absurd said
  as_many (line ∷ lines) (item ∷ items) said = omega (arith, as_many lines items said.1)

  -- lines, and others after them
  pub said_append : (lines others : List (List ℕ)) (items more : List C) → SayAll Say lines items → SayAll Say others more → SayAll Say (lines ++ others) (items ++ more)
  said_append [] others [] more said and = and
  said_append [] others (item ∷ items) more said and = absurd said
  said_append (line ∷ lines) others [] more said and = absurd said
  said_append (line ∷ lines) others (item ∷ items) more said and = (said.0, said_append lines others items more said.1 and)

  -- the lines so far say these items, and the rest comes after them
  pub record SaidSoFar (all : List (List ℕ)) (rest : List ℕ) (items : List C) : Type 0 where
    pub before : List (List ℕ)
    pub whole : all ≡ before ++ lines_of rest
    pub said : SayAll Say before items

  pub said_first : (bytes : List ℕ) (items : List C) → items ≡ [] → SaidSoFar (lines_of bytes) bytes items
  said_first bytes items none = record { before = []; whole = refl; said = rw none tt }

  module _ (all : List (List ℕ)) (rest : List ℕ) (items : List C) (so_far : SaidSoFar all rest items) where
    -- what the rest says comes after them
    pub said_rest : (more : List C) → SayAll Say (lines_of rest) more → SayAll Say all (items ++ more)
    said_rest more said = rw so_far.whole (said_append so_far.before (lines_of rest) items more so_far.said said)

    pub said_whole : rest ≡ [] → SayAll Say all items
    said_whole none =
        let this : SayAll Say (lines_of rest) [] = rw none tt in
        subst (SayAll Say all) (append-nil items) (said_rest [] this)

    -- the first bad line of the rest is that of all
    pub said_bad : (number count : ℕ) → count ≡ length items + number → IsFirstBad Say (lines_of rest) number → IsFirstBad Say all count
    said_bad number count is (before, after, bad, more, cut, at, said, nothing) = (
      so_far.before ++ before,
      after,
      bad,
      items ++ more,
      so_far.whole ∙ ap (λ lines. so_far.before ++ lines) cut ∙ sym (append_assoc so_far.before before (bad ∷ after)),
      omega (arith, is, at, length-append so_far.before before, as_many so_far.before items so_far.said),
      said_append so_far.before before items more so_far.said said,
      nothing,
    )

    module _ (line after : List ℕ) (cut : lines_of rest ≡ line ∷ lines_of after) where
      pub said_next : (item : C) (more : List C) → Say line item → more ≡ items ++ item ∷ [] → SaidSoFar all after more
      said_next item more one pushed = record {
        before = so_far.before ++ line ∷ [];
        whole = rw append_assoc (so_far.whole ∙ ap (λ lines. so_far.before ++ lines) cut);
        said = rw pushed (said_append so_far.before (line ∷ []) items (item ∷ []) so_far.said (one, tt));
      }

      -- where the next line says nothing
      pub said_nothing : (number : ℕ) → number ≡ length items + 1 → ((item : C) → ¬ Say line item) → IsFirstBad Say all number
      said_nothing number counted nothing = said_bad 1 number counted ([], lines_of after, line, [], cut, refl, tt, nothing)

      -- the next line, by its number
      pub said_line : (number : ℕ) → number ≡ length items + 1 → line_at all number ≡ line
      said_line number counted =
          let place : number - 1 ≡ length so_far.before = omega (arith, counted, as_many so_far.before items so_far.said) in
          ap (λ k. get_or all k []) place ∙ ap (λ lines. get_or lines (length so_far.before) []) (so_far.whole ∙ ap (λ lines. so_far.before ++ lines) cut)
          ∙ get_or-after so_far.before (lines_of after) line []
