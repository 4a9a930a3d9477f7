use Rattle.std.proofs.lemmas.Option.{slice_get-get_or}
use Rattle.std.proofs.Common.{◌<◌, length, slice_get, Some, ap, sym, ◌∙◌}
use Rattle.art_nodes.proofs.iteration.index_pairs.named_child.Goals as goal

pub returns : goal.returns
returns g c =
    let within : c.from.result < length c.args.children.now = rw (← c.from.ensures) c.requires in
    ap (slice_get c.args.children.now) c.from.ensures ∙ slice_get-get_or c.args.children.now c.from.result c.index-children-from.result within ∙ ap Some (sym c.index-children-from.is)
