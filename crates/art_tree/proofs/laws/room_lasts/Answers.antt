use Rattle.art_header.specs.declared.node_type.NodeType.TheVariants.{Leaf as LeafKind}
use Rattle.art_tree.proofs.SharedLemmas.RoomLasts.{enough-to-insert, enough-to-remove, fewer-room, kept-count, lasts-after-insert, lasts-after-removal, lasts-where-kept}
use Rattle.art_tree.proofs.laws.room_lasts.Goals as goal

pub returns-clause-enough_to_insert : goal.returns-clause-enough_to_insert
returns-clause-enough_to_insert g c = λ arena root text kind count art has lacks.
    enough-to-insert g.K.AsBytes.text arena root text kind count art has lacks

pub returns-clause-enough_to_remove : goal.returns-clause-enough_to_remove
returns-clause-enough_to_remove g c = λ arena root text kind count art has lacks.
    enough-to-remove g.K.AsBytes.text arena root text kind count art has lacks

pub returns-clause-inserted : goal.returns-clause-inserted
returns-clause-inserted g c = λ old new root new_root text count art new_art others same there has.
    lasts-after-insert g.K.AsBytes.text old new root new_root text count art new_art others same has there

pub returns-clause-removed : goal.returns-clause-removed
returns-clause-removed g c = λ old new root new_root text count art new_art others same gone has.
    lasts-after-removal g.K.AsBytes.text old new root new_root text count art new_art others same has gone

pub returns-clause-kept : goal.returns-clause-kept
returns-clause-kept g c = λ old new root count art kept same has.
    lasts-where-kept g.K.AsBytes.text old new root count art kept same has

pub returns-clause-fewer : goal.returns-clause-fewer
returns-clause-fewer g c = fewer-room

pub returns-clause-same_count : goal.returns-clause-same_count
returns-clause-same_count g c = λ old new root art kept.
    kept-count g.K.AsBytes.text old new root art kept LeafKind
