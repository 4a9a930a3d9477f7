use Rattle.art_tree.proofs.Names.{◌≡◌, [], texts, same_texts, texts-apart, texts-ascend}
use Rattle.art_steps.proofs.SharedLemmas.DictionaryLemmas.{entry-of-text, text-of-entry}
use Rattle.art_tree.proofs.SharedLemmas.SameKinds.{same-kinds}
use Rattle.art_tree.proofs.SharedLemmas.UniqueTree.{same-tree}
use Rattle.art_tree.proofs.laws.the_same_entries_make_the_same_tree.Goals as goal

pub returns : goal.returns
returns g c = λ arena other_arena root other_root tree other alone other_alone entries.
    let text = g.K.AsBytes.text in
    let sound = alone.is_tree.sound in
    let other_sound = other_alone.is_tree.sound in
    let one : texts tree ≡ texts other = same_texts (texts tree) (texts other) (texts-ascend [] tree sound) (texts-ascend [] other other_sound)
    (λ x inside. text-of-entry text other_arena other_root other other_alone x ((entries x).0 (entry-of-text text arena root tree alone (texts-apart [] tree sound) x inside)))
    (λ x inside. text-of-entry text arena root tree alone x ((entries x).1 (entry-of-text text other_arena other_root other other_alone (texts-apart [] other other_sound) x inside))) in
    let same = same-tree [] tree other sound other_sound one in
    (same, same-kinds text arena other_arena tree other alone.is_tree.stands other_alone.is_tree.stands alone.smallest_kinds other_alone.smallest_kinds same)
