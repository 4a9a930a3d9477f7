use Rattle.std.proofs.Common.{◌≡◌, [], ◌∷◌, ◌++◌, All}
use Rattle.std.specs.declared.cmp.Ordering.TheVariants.{Less}
use Rattle.std.proofs.lemmas.List.Elements.{All-weaker}
use Rattle.art_bytes.specs.Text.{IsPrefixOf, text_order}
use Rattle.art_arena.specs.Trees.{texts}
use Rattle.art_tree_tests.proofs.tree.branches.branches_are_in_order.Goals as goal

pub returns : goal.returns
returns g c = λ path byte later tree other sound other_sound less.
    All-weaker (IsPrefixOf (path ++ later ∷ [])) (λ above. All (λ text. text_order text above ≡ Less) (texts tree))
    (λ above begins. c.texts_part_at_a_byte.ensures.before path above byte later tree sound begins less) (texts other)
    (c.texts_begin_with_their_path.ensures.path (path ++ later ∷ []) other other_sound)
