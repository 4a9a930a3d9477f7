use Rattle.art_links.proofs.Names.{◌∙◌, ◌+◌, arith, lit<, refl, ap, take_all, node_of}
use Rattle.art_nodes.proofs.BuilderLaws.{builder_fits}
use Rattle.art_links.proofs.ChildLemmas.{has-room, is-new, written-node}
use Rattle.art_links.proofs.node.inner_node.Goals as goal

pub builder-requires : goal.builder-requires
builder-requires g c = (builder_fits _ c.requires.memory, (omega arith, (omega arith, c.requires.short)))

pub write_child-first-requires : goal.write_child-first-requires
write_child-first-requires g c = (
  builder_fits _ c.requires.memory,
  (
    lit< tt,
    (
      builder_fits _ c.requires.memory,
      has-room g.row.PREFIX_LEN c.args.prefix.now c.args.children.now c.requires.ascending (g.N.InnerNodeRead.inner c.builder.result) 0 c.builder.ensures (omega (arith, c.requires.two)) _ _ c.requires.fits,
    ),
  ),
)

pub write_child-requires : goal.write_child-requires
write_child-requires g c =
    let first = written-node g.row.PREFIX_LEN c.args.prefix.now c.args.children.now c.requires.ascending (g.N.InnerNodeRead.inner c.builder.result) 0 c.builder.ensures (omega (arith, c.requires.two)) _ (g.N.InnerNodeRead.inner c.write_child-first.result) 1 refl c.write_child-first.ensures in (
      builder_fits _ c.requires.memory,
      (
        lit< tt,
        (
          builder_fits _ c.requires.memory,
          (
            has-room g.row.PREFIX_LEN c.args.prefix.now c.args.children.now c.requires.ascending (g.N.InnerNodeRead.inner c.write_child-first.result) 1 first (omega (arith, c.requires.two)) _ _ c.requires.fits,
            is-new g.row.PREFIX_LEN c.args.prefix.now c.args.children.now c.requires.ascending (g.N.InnerNodeRead.inner c.write_child-first.result) 1 first (omega (arith, c.requires.two)) _,
          ),
        ),
      ),
    )

pub write_child-requires-in-loop-i : goal.write_child-requires-in-loop-i
write_child-requires-in-loop-i g c = (
  lit< tt,
  has-room g.row.PREFIX_LEN c.args.prefix.now c.args.children.now c.requires.ascending (g.N.InnerNodeRead.inner c.loop-i.node) c.loop-i.i c.loop-i.invariant c.loop-i-test.true _ _ c.requires.fits,
)

pub build-node-requires : goal.build-node-requires
build-node-requires g c = builder_fits _ c.requires.memory

pub loop-i-init : goal.loop-i-init
loop-i-init g c =
    let first = written-node g.row.PREFIX_LEN c.args.prefix.now c.args.children.now c.requires.ascending (g.N.InnerNodeRead.inner c.builder.result) 0 c.builder.ensures (omega (arith, c.requires.two)) _ (g.N.InnerNodeRead.inner c.write_child-first.result) 1 refl c.write_child-first.ensures in
    written-node g.row.PREFIX_LEN c.args.prefix.now c.args.children.now c.requires.ascending (g.N.InnerNodeRead.inner c.write_child-first.result) 1 first (omega (arith, c.requires.two)) _ (g.N.InnerNodeRead.inner c.build-node.result) 2 refl (ap g.N.InnerNodeRead.inner c.build-node.ensures.node ∙ c.write_child.ensures)

pub loop-i-preserved : goal.loop-i-preserved
loop-i-preserved g c =
    written-node g.row.PREFIX_LEN c.args.prefix.now c.args.children.now c.requires.ascending (g.N.InnerNodeRead.inner c.loop-i.node) c.loop-i.i c.loop-i.invariant c.loop-i-test.true _ (g.N.InnerNodeRead.inner c.write_child-in-loop-i.new.self) (c.loop-i.i + 1) refl c.write_child-in-loop-i.ensures.written

pub returns : goal.returns
returns g c = c.loop-i.invariant ∙ ap (node_of g.row.PREFIX_LEN c.args.prefix.now) (take_all c.loop-i.i c.args.children.now (omega (arith, c.loop-i-test.false)))
