use Rattle.std.proofs.Common.{ℕ, [], ◌∷◌, ◌++◌}
use Rattle.std.proofs.lemmas.List.Elements.{All-weaker}
use Rattle.art_bytes.specs.Text.{IsPrefixOf}
use Rattle.art_arena.specs.Trees.{branch_texts}
use Rattle.art_arena.proofs.TreeLemmas.{GoesOn, texts-begin, texts-go-on}
use Rattle.art_arena.proofs.laws.texts_begin_with_their_path.Goals as goal

pub returns-clause-path : goal.returns-clause-path
returns-clause-path g c = λ path tree sound. texts-begin path tree sound

pub returns-clause-prefix : goal.returns-clause-prefix
returns-clause-prefix g c = λ path prefix pointer branches sound.
    All-weaker (GoesOn (path ++ prefix) 0) (λ text. (byte : ℕ) × IsPrefixOf ((path ++ prefix) ++ byte ∷ []) text) (λ text on. (on.byte, on.begins)) (branch_texts branches) (texts-go-on (path ++ prefix) branches 0 sound.2 sound.1)
