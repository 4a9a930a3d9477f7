use Rattle.art_steps.proofs.SharedLemmas.ExchangedSubtree.{sound-under, sound-exchanged, leaves-plug, smallest_kinds-whole, stands-part, stands-whole}
use Rattle.art_tree.proofs.Names.{places-apart, plug}
use Rattle.art_tree.proofs.laws.a_subtree_may_be_exchanged.Goals as goal

pub returns-clause-part : goal.returns-clause-part
returns-clause-part g c = λ path context part sound. sound-under path context part sound

pub returns-clause-part_stands : goal.returns-clause-part_stands
returns-clause-part_stands g c = λ arena context part stands. stands-part g.K.AsBytes.text arena arena context part stands

pub returns-clause-sound : goal.returns-clause-sound
returns-clause-sound g c = λ path context part now sound now_sound. sound-exchanged path context part now sound now_sound

pub returns-clause-leaves : goal.returns-clause-leaves
returns-clause-leaves g c = λ context part. leaves-plug context part

pub returns-clause-smallest_kinds : goal.returns-clause-smallest_kinds
returns-clause-smallest_kinds g c = λ context part now smallest_kinds now_smallest_kinds. smallest_kinds-whole context part now smallest_kinds now_smallest_kinds

pub returns-clause-stands : goal.returns-clause-stands
returns-clause-stands g c = λ old new path context part now sound exchanged.
    stands-whole g.K.AsBytes.text old new path context part now sound (places-apart g.K.AsBytes.text old path (plug context part) exchanged.stood sound) exchanged
