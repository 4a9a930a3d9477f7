use Rattle.std.proofs.Common.{◌≡◌, [], ◌∷◌, ◌++◌}
use Rattle.std.specs.declared.cmp.Ordering.TheVariants.{Less}
use Rattle.std.proofs.lemmas.List.Elements.{All-weaker}
use Rattle.art_bytes.specs.Text.{IsPrefixOf, text_order}
use Rattle.art_arena.specs.Trees.{texts}
use Rattle.art_arena.proofs.TextLemmas.{PartsBefore-less}
use Rattle.art_arena.proofs.TreeLemmas.{texts-begin}
use Rattle.art_arena.proofs.laws.texts_part_at_a_byte.Goals as goal

pub returns-clause-before : goal.returns-clause-before
returns-clause-before g c = λ path key byte other tree sound leads less.
    All-weaker (IsPrefixOf (path ++ byte ∷ [])) (λ text. text_order text key ≡ Less)
    (λ text begins. PartsBefore-less text key (record { front = path; lesser = byte; greater = other; begins = begins; other_begins = leads; ascends = less })) (texts tree) (texts-begin (path ++ byte ∷ []) tree sound)

pub returns-clause-behind : goal.returns-clause-behind
returns-clause-behind g c = λ path key byte other tree sound leads more.
    All-weaker (IsPrefixOf (path ++ byte ∷ [])) (λ text. text_order key text ≡ Less)
    (λ text begins. PartsBefore-less key text (record { front = path; lesser = other; greater = byte; begins = leads; other_begins = begins; ascends = more })) (texts tree) (texts-begin (path ++ byte ∷ []) tree sound)
