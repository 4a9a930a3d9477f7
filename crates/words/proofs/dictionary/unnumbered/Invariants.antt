use Rattle.std.proofs.Common.{map, take}
use Rattle.std.specs.Vec.{vec_items}
use Rattle.words.proofs.WordLemmas.{HasWords}
use Rattle.words.proofs.dictionary.unnumbered.Given as goal

-- the keys are the words so far
abbrev pub invariant-loop-word : goal.invariant-loop-word
invariant-loop-word l = HasWords vec_items l.dictionary (map (λ word. word.bytes.now) (take l.word-index l.words))
