use Rattle.std.proofs.Common.{◌≡◌, ◌++◌, ◌∙◌, ℕ, List, map, length, subst, sym, ap, refl, rules}
use Rattle.std.specs.Prelude.{codes}
use Rattle.std.specs.Fmt.{decimal}
use Rattle.std.specs.Vec.{vec_items}
use Rattle.std.proofs.lemmas.List.{length-map}
use Rattle.program_lines.specs.Lines.{line, lines_of}
use Rattle.words.specs.declared.dictionary.Word.{Word}
use Rattle.words.specs.Dictionaries.{IsDictionary}
use Rattle.words.specs.Places.{entry_words}
use Rattle.words.specs.Replies.{counts}
use Rattle.words.proofs.ReplyLemmas.{lines_are}
use Rattle.words.proofs.replies.WordsProgram.load.Goals as goal

pub returns-clause-table : goal.returns-clause-table
returns-clause-table c =
    let list = lines_are (lines_of c.args.list.now) c.in_ok-words.words.items c.in_ok-words.ensures.all in
    ((c.in_ok-words.words.items, c.in_ok-words.ensures.all, subst (λ lines. IsDictionary lines (entry_words c.in_ok-dictionary.dictionary)) (ap (map (λ word. word.bytes.now)) c.deref.ensures.value ∙ list) c.in_ok-dictionary.ensures.words), c.in_ok-dictionary.ensures.places)

pub returns-clause-heading : goal.returns-clause-heading
returns-clause-heading c =
    let words : List (List ℕ) = entry_words c.in_ok-dictionary.dictionary in
    let list = lines_are (lines_of c.args.list.now) c.in_ok-words.words.items c.in_ok-words.ensures.all in
    let bytes : Word → List ℕ = λ word. word.bytes.now in
    let first : c.len.result ≡ length c.in_ok-dictionary.dictionary = search rules in
    let second : c.len-2.result ≡ length c.in_ok-words.words.items = search rules in
    let many : c.len.result ≡ length words = first ∙ sym (length-map c.in_ok-dictionary.dictionary (λ entry. vec_items entry.0)) in
    let given : c.len-2.result ≡ length (lines_of c.args.list.now) = second ∙ sym (length-map c.in_ok-words.words.items bytes) ∙ ap length list in
    let said : c.push_counts.new.output.items ≡ c.args.output.now.items ++ counts words (lines_of c.args.list.now) =
    c.in_ok-push_counts.ensures ∙ ap (λ n. c.args.output.now.items ++ line (decimal n ++ codes " words in " ++ decimal c.len-2.result ++ codes " lines")) many
    ∙ ap (λ n. c.args.output.now.items ++ line (decimal (length words) ++ codes " words in " ++ decimal n ++ codes " lines")) given in
    (counts words (lines_of c.args.list.now), (words, (c.in_ok-words.words.items, c.in_ok-words.ensures.all, subst (λ lines. IsDictionary lines words) (ap (map (λ word. word.bytes.now)) c.deref.ensures.value ∙ list) c.in_ok-dictionary.ensures.words), refl), said)
