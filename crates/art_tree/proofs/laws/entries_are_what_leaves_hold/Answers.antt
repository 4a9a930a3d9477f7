use Rattle.art_tree.proofs.Names.{[], texts-apart}
use Rattle.art_steps.proofs.SharedLemmas.DictionaryLemmas.{empty-entry, entry-of-member, entry-of-text, leaf-held-in, text-found, text-of-entry}
use Rattle.art_steps.proofs.PlaceLemmas.WayPlaces.{some-text}
use Rattle.art_tree.proofs.laws.entries_are_what_leaves_hold.Goals as goal

pub returns-clause-none : goal.returns-clause-none
returns-clause-none g c = λ arena nothing text. empty-entry g.K.AsBytes.text arena nothing text

pub returns-clause-some : goal.returns-clause-some
returns-clause-some g c = λ arena root tree alone.
    let one = some-text [] tree alone.is_tree.sound in
    (one.text, entry-of-text g.K.AsBytes.text arena root tree alone (texts-apart [] tree alone.is_tree.sound) one.text one.inside)

pub returns-clause-text : goal.returns-clause-text
returns-clause-text g c = λ arena text entry found. text-found g.K.AsBytes.text arena text entry found

pub returns-clause-held : goal.returns-clause-held
returns-clause-held g c = λ arena root tree alone pointer text inside.
    leaf-held-in g.K.AsBytes.text arena tree alone.is_tree.stands pointer text inside

pub returns-clause-texts : goal.returns-clause-texts
returns-clause-texts g c = λ arena root tree alone text.
    let apart = texts-apart [] tree alone.is_tree.sound in
    (text-of-entry g.K.AsBytes.text arena root tree alone text, entry-of-text g.K.AsBytes.text arena root tree alone apart text)

pub returns-clause-leaves : goal.returns-clause-leaves
returns-clause-leaves g c = λ arena root tree alone pointer text leaf inside is.
    entry-of-member g.K.AsBytes.text arena root tree alone (texts-apart [] tree alone.is_tree.sound) pointer text leaf inside is
