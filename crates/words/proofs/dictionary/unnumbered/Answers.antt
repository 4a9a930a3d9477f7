use Rattle.std.proofs.Common.{◌≡◌, map, take, arith, subst}
use Rattle.std.proofs.Math.Seq.{take_all}
use Rattle.std.specs.Vec.{vec_items}
use Rattle.words.proofs.WordLemmas.{HasWords, has_none, has_one_more, is_dictionary, words_more}
use Rattle.words.proofs.dictionary.unnumbered.Goals as goal

pub loop-word-init : goal.loop-word-init
loop-word-init c = has_none vec_items _ c.new-dictionary.ensures

pub loop-word-preserved : goal.loop-word-preserved
loop-word-preserved c =
    has_one_more vec_items c.loop-word.dictionary c.insert.new.self _ _ c.in_ok-key.key 0 c.loop-word.invariant c.in_ok-insert.ensures.entries (words_more (λ word. word.bytes.now) c.args.words.now c.loop-word.word-index _ (vec_items c.in_ok-key.key) (omega (arith, c.loop-word-test.true)) (c.in_ok-key.ensures.items_if_clones_equal (λ x y same. same)))

pub returns : goal.returns
returns c =
    let all : take c.loop-word.word-index c.args.words.now ≡ c.args.words.now = take_all c.loop-word.word-index c.args.words.now (omega (arith, c.loop-word-test.false)) in
    is_dictionary vec_items c.loop-word.dictionary (map (λ word. word.bytes.now) c.args.words.now)
    (subst (λ words. HasWords vec_items c.loop-word.dictionary (map (λ word. word.bytes.now) words)) all c.loop-word.invariant) c.len-count.ensures.ordered
