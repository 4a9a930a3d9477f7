use Rattle.std.proofs.Common.{rules, length, sym, ap, ◌∙◌}
use Rattle.std.proofs.lemmas.List.{length-map}
use Rattle.art_nodes.specs.Inner.{IsInner, indirect_room}
use Rattle.art_nodes.proofs.PlaceLemmas.{zip-parts}
use Rattle.art_nodes.proofs.inner_nodes.representations.inner_node_indirect.InnerNodeIndirect.from_sorted.Goals as goal

pub from_ascending-requires : goal.from_ascending-requires
from_ascending-requires g c =
    let node = c.args.node.now in
    let sound : IsInner g.row.PREFIX_LEN (indirect_room g.row.SIZE) node = record {
      ascending = c.header.ensures.sound.ascending;
      fits = c.requires;
      capped_prefix = c.header.ensures.sound.capped_prefix;
    } in
    let bytes = c.initialized_portion.ensures.bytes in
    let children = c.initialized_portion.ensures.children in
    let bytes_long = ap length bytes ∙ length-map node.children (λ p. p.0) in (
      search rules,
      (
        search rules,
        (
          search,
          (
            ap length children ∙ length-map node.children (λ p. p.1) ∙ sym bytes_long,
            (ap (λ h. h.count) c.header.ensures.header ∙ sym bytes_long, rw (bytes, children, c.header.ensures.header, zip-parts) sound),
          ),
        ),
      ),
    )

pub returns : goal.returns
returns g c =
    c.from_ascending.ensures
    ∙ rw (c.initialized_portion.ensures.bytes, c.initialized_portion.ensures.children, c.header.ensures.header, zip-parts) (search)
