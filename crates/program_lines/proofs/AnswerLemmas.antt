-- The answers to lines, one after another, and what is written of them.
use Rattle.std.proofs.Common.{◌≡◌, ◌∙◌, ℕ, suc, ◌+◌, Bool, true, false, ◌&&◌, List, [], ◌∷◌, ◌++◌, length, take, refl, sym, ap, subst, arith, append_assoc, append-nil}
use Rattle.std.specs.Prelude.{Option, None, Some, IfSome, Result, Ok, Err, OnErr}
use Rattle.std.proofs.Math.Seq.{take-append-add, take-length}
use Rattle.std.specs.Io.KnownBytes.{Appends}
use Rattle.std.specs.Io.Buffered.{reader_remaining, reader_inner, reader_buffer, reader_capacity}
use Rattle.std.specs.declared.io.buffered.BufReader.{BufReader}
use Rattle.std.proofs.KnownBytes.{Appends-nil, Appends-trans, prepend_known-nil}
use Rattle.std.proofs.lemmas.List.{length-append}
use Rattle.program_lines.specs.Lines.{lines_of}
use Rattle.program_lines.specs.Programs.{AppendsBeginning}
use Rattle.program_lines.specs.Sessions.{GivesAll, GivesFirst, AnswersAll, AnswersSome, IsQuiet, IsAnswer, AreAnswers, Moves, TakesLine}

-- some messages more, or none
pub quiet_more : (a b : Bool) (told text : List ℕ) → IsQuiet a told → IsQuiet b text → IsQuiet (a && b) (told ++ text)
quiet_more true true told text none more = ap (λ t. t ++ text) none ∙ more
quiet_more true false told text none more = λ is. more (sym (ap (λ t. t ++ text) none) ∙ is)
quiet_more false b [] text some more = absurd (some refl)
quiet_more false b (x ∷ told) text some more = λ is. cc

-- nothing is written of what waits
pub nothing_begun : (old : Option (List ℕ)) (waits : List ℕ) → AppendsBeginning old old waits
nothing_begun old waits = (0, Appends-nil old)

-- all is
pub all_begun : (old new : Option (List ℕ)) (waits : List ℕ) → Appends old new waits → AppendsBeginning old new waits
all_begun old new waits whole = (length waits, rw take-length whole)

-- what is so anyway, is so of an error
pub anyway : {X E : Type 0} {Q : Type 0} (result : Result X E) → Q → OnErr result Q
anyway (Ok x) so = tt
anyway (Err e) so = so

module _ (IsReply : List ℕ → List ℕ → Type 0) (IsMessage : ℕ → List ℕ → List ℕ → Type 0) where
  answers_more : (n : ℕ) (lines : List (List ℕ)) (line replies told reply text : List ℕ) → AreAnswers IsReply IsMessage n lines replies told → IsAnswer IsReply IsMessage (n + length lines) line reply text
      → AreAnswers IsReply IsMessage n (lines ++ line ∷ []) (replies ++ reply) (told ++ text)
  answers_more n [] line replies told reply text (none, quiet) one =
      let here : n + 0 ≡ n = omega arith in
      (reply, text, [], [], subst (λ k. IsAnswer IsReply IsMessage k line reply text) here one, (refl, refl), ap (λ r. r ++ reply) none ∙ sym (append-nil reply), ap (λ t. t ++ text) quiet ∙ sym (append-nil text))
  answers_more n (first ∷ lines) line replies told reply text (begin, said, more, others, is, rest, whole, wholly) one =
      let next : n + length (first ∷ lines) ≡ suc n + length lines = omega arith in
      (begin, said, more ++ reply, others ++ text, is, answers_more (suc n) lines line more others reply text rest (subst (λ k. IsAnswer IsReply IsMessage k line reply text) next one), ap (λ r. r ++ reply) whole ∙ append_assoc begin more reply, ap (λ t. t ++ text) wholly ∙ append_assoc said others text)

  -- the lines so far are answered, and what waits is not written yet
  pub record Session (given left old new old_errors new_errors : Option (List ℕ)) (start waits : List ℕ) (number : ℕ) (quiet : Bool) : Type 0 where
    pub lines : List (List ℕ)
    pub replies : List ℕ
    pub told : List ℕ
    pub out : List ℕ
    pub read : IfSome given (λ all. (rest : List ℕ) × (left ≡ Some rest) × (lines_of all ≡ lines ++ lines_of rest))
    pub counted : number ≡ 1 + length lines
    pub answered : AreAnswers IsReply IsMessage 1 lines replies told
    pub is_quiet : IsQuiet quiet told
    pub written : Appends old new out
    pub waiting : start ++ replies ≡ out ++ waits
    pub reported : Appends old_errors new_errors told

  pub session_begun : (given old errors : Option (List ℕ)) (start : List ℕ) → Session given given old old errors errors start start 1 true
  session_begun given old errors start = record {
    lines = [];
    replies = [];
    told = [];
    out = [];
    read = by_known given;
    counted = refl;
    answered = (refl, refl);
    is_quiet = refl;
    written = Appends-nil old;
    waiting = append-nil start;
    reported = Appends-nil errors;
  }
    where
      by_known : (known : Option (List ℕ)) → IfSome known (λ all. (rest : List ℕ) × (known ≡ Some rest) × (lines_of all ≡ lines_of rest))
      by_known None = tt
      by_known (Some all) = (all, refl, refl)

  module _ (given left old new old_errors new_errors : Option (List ℕ)) (start waits : List ℕ) (number : ℕ) (quiet : Bool) (so_far : Session given left old new old_errors new_errors start waits number quiet) where
    -- some of what waits is written
    pub session_moved : (newer : Option (List ℕ)) (later : List ℕ) → Moves new newer waits later → Session given left old newer old_errors new_errors start later number quiet
    session_moved newer later (gone, more, cut) = record {
      lines = so_far.lines;
      replies = so_far.replies;
      told = so_far.told;
      out = so_far.out ++ gone;
      read = so_far.read;
      counted = so_far.counted;
      answered = so_far.answered;
      is_quiet = so_far.is_quiet;
      written = Appends-trans old new newer so_far.out gone so_far.written more;
      waiting = so_far.waiting ∙ ap (λ w. so_far.out ++ w) cut ∙ sym (append_assoc so_far.out gone later);
      reported = so_far.reported;
    }

    -- one line more is answered
    pub session_line : (next newer newer_errors : Option (List ℕ)) (line reply text later : List ℕ) (replied : Bool) → TakesLine left next line → IsAnswer IsReply IsMessage number line reply text → IsQuiet replied text → Moves new newer (waits ++ reply) later
        → Appends new_errors newer_errors text → Session given next old newer old_errors newer_errors start later (number + 1) (quiet && replied)
    session_line next newer newer_errors line reply text later replied takes one is_replied (gone, more, cut) says = record {
      lines = so_far.lines ++ line ∷ [];
      replies = so_far.replies ++ reply;
      told = so_far.told ++ text;
      out = so_far.out ++ gone;
      read = by_known given so_far.read;
      counted = omega (arith, so_far.counted, length-append so_far.lines (line ∷ []));
      answered = answers_more 1 so_far.lines line so_far.replies so_far.told reply text so_far.answered (subst (λ k. IsAnswer IsReply IsMessage k line reply text) so_far.counted one);
      is_quiet = quiet_more quiet replied so_far.told text so_far.is_quiet is_replied;
      written = Appends-trans old new newer so_far.out gone so_far.written more;
      waiting = sym (append_assoc start so_far.replies reply) ∙ ap (λ w. w ++ reply) so_far.waiting ∙ append_assoc so_far.out waits reply ∙ ap (λ w. so_far.out ++ w) cut ∙ sym (append_assoc so_far.out gone later);
      reported = Appends-trans old_errors new_errors newer_errors so_far.told text so_far.reported says;
    }
      where
        by_rest : (all : List ℕ) (rest : List ℕ) → left ≡ Some rest → lines_of all ≡ so_far.lines ++ lines_of rest → TakesLine (Some rest) next line → (others : List ℕ) × (next ≡ Some others) × (lines_of all ≡ (so_far.lines ++ line ∷ []) ++ lines_of others)
        by_rest all rest is whole (others, then, first) = (others, then, whole ∙ ap (λ l. so_far.lines ++ l) first ∙ sym (append_assoc so_far.lines (line ∷ []) (lines_of others)))

        by_known : (known : Option (List ℕ)) → IfSome known (λ all. (rest : List ℕ) × (left ≡ Some rest) × (lines_of all ≡ so_far.lines ++ lines_of rest)) → IfSome known (λ all. (others : List ℕ) × (next ≡ Some others) × (lines_of all ≡ (so_far.lines ++ line ∷ []) ++ lines_of others))
        by_known None before = tt
        by_known (Some all) (rest, is, whole) = by_rest all rest is whole (subst (λ l. TakesLine l next line) is takes)

    -- all lines are
    pub session_ended : (newer : Option (List ℕ)) → IfSome left (λ rest. lines_of rest ≡ []) → Appends new newer waits → AnswersAll IsReply IsMessage (λ heading. heading ≡ start) quiet given old newer old_errors new_errors
    session_ended newer none more = (so_far.lines, start, so_far.replies, so_far.told, by_known given so_far.read, refl, so_far.answered, so_far.is_quiet, subst (Appends old newer) (sym so_far.waiting) (Appends-trans old new newer so_far.out waits so_far.written more), so_far.reported)
      where
        by_known : (known : Option (List ℕ)) → IfSome known (λ all. (rest : List ℕ) × (left ≡ Some rest) × (lines_of all ≡ so_far.lines ++ lines_of rest)) → GivesAll known so_far.lines
        by_known None before = tt
        by_known (Some all) (rest, is, whole) =
            let nothing : lines_of rest ≡ [] = subst (λ l. IfSome l (λ rest. lines_of rest ≡ [])) is none in
            whole ∙ ap (λ l. so_far.lines ++ l) nothing ∙ append-nil so_far.lines

    -- some lines are, and the first part of their replies is written
    pub session_stopped : (newer : Option (List ℕ)) → AppendsBeginning new newer waits → AnswersSome IsReply IsMessage (λ heading. heading ≡ start) given old newer
    session_stopped newer (count, more) = (so_far.lines, start, so_far.replies, so_far.told, by_known given so_far.read, refl, so_far.answered, begun)
      where
        begun : AppendsBeginning old newer (start ++ so_far.replies)
        begun = (length so_far.out + count, rw (so_far.waiting, take-append-add so_far.out waits count) (Appends-trans old new newer so_far.out (take count waits) so_far.written more))

        by_known : (known : Option (List ℕ)) → IfSome known (λ all. (rest : List ℕ) × (left ≡ Some rest) × (lines_of all ≡ so_far.lines ++ lines_of rest)) → GivesFirst known so_far.lines
        by_known None before = tt
        by_known (Some all) (rest, is, whole) = (lines_of rest, whole)

  -- the heading is what waited first
  module _ (IsHeading : List ℕ → Type 0) (start : List ℕ) (given old new : Option (List ℕ)) (is : IsHeading start) where
    pub all_headed : (quiet : Bool) (old_errors new_errors : Option (List ℕ)) → AnswersAll IsReply IsMessage (λ heading. heading ≡ start) quiet given old new old_errors new_errors → AnswersAll IsReply IsMessage IsHeading quiet given old new old_errors new_errors
    all_headed quiet old_errors new_errors (lines, heading, replies, told, gives, same, answers, is_quiet, written, reported) = (lines, heading, replies, told, gives, subst IsHeading (sym same) is, answers, is_quiet, written, reported)

    pub some_headed : AnswersSome IsReply IsMessage (λ heading. heading ≡ start) given old new → AnswersSome IsReply IsMessage IsHeading given old new
    some_headed (lines, heading, replies, told, gives, same, answers, begun) = (lines, heading, replies, told, gives, subst IsHeading (sym same) is, answers, begun)

-- a buffer that is empty adds nothing to what its reader gives
pub unbuffered : {T A : Type 0} (remaining : T → Option (List ℕ)) (lines : BufReader T A) (input : T) → reader_inner lines ≡ input → reader_buffer lines ≡ [] → reader_capacity lines ≡ 8192 → reader_remaining remaining lines ≡ remaining input
unbuffered remaining lines input inner empty capacity = rw (capacity, empty, inner) (prepend_known-nil (remaining input))

-- the heading is what waits after a table is loaded
pub headed : (IsHeading : List ℕ → Type 0) (empty start : List ℕ) → empty ≡ [] → ((heading : List ℕ) × IsHeading heading × (start ≡ empty ++ heading)) → IsHeading start
headed IsHeading empty start none (heading, is, whole) = subst IsHeading (sym (whole ∙ ap (λ e. e ++ heading) none)) is
