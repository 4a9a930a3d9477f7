use Rattle.std.proofs.Common.{◌∙◌, ap, map}
use Rattle.art_map.specs.Trees.{page_of, pages_of}
use Rattle.art_tree.proofs.EntryLaws.{no-list}
use Rattle.art_map.proofs.room.plant.Goals as goal

pub returns : goal.returns
returns g c =
    ap (λ (tree : _). pages_of tree.arena) c.in_ok-first.ensures.ok ∙ ap (map page_of) (no-list (λ anchor. anchor) c.new.result.arena c.new.ensures.no_entry)
