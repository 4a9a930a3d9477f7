use Rattle.std.proofs.Common.{◌∙◌, Some, sym, ap}
use Rattle.art_arena.specs.Arena.{held_header}
use Rattle.art_arena.specs.Reader.{shown, shown_kind}
use Rattle.art_arena.proofs.ArenaLemmas.{IsInner-held}
use Rattle.art_arena.proofs.arena.NodeArena+K+V+PREFIX_LEN.header.Goals as goal

pub returns-in-Node4-clause-header : goal.returns-in-Node4-clause-header
returns-in-Node4-clause-header g c =
    let there = c.node_ref.ensures.node ∙ ap shown c.in-Node4.is in
    ap Some c.header.ensures.header ∙ sym (ap held_header there)

pub returns-in-Node4-clause-sound : goal.returns-in-Node4-clause-sound
returns-in-Node4-clause-sound g c = λ node is.
    let there = c.node_ref.ensures.node ∙ ap shown c.in-Node4.is in
    let kind = sym (ap shown_kind c.in-Node4.is) ∙ c.node_ref.ensures.kind in
    IsInner-held c.args.self.now c.args.pointer kind there c.header.ensures.sound is

pub returns-in-Node16-clause-header : goal.returns-in-Node16-clause-header
returns-in-Node16-clause-header g c =
    let there = c.node_ref.ensures.node ∙ ap shown c.in-Node16.is in
    ap Some c.header-in-Node16.ensures.header ∙ sym (ap held_header there)

pub returns-in-Node16-clause-sound : goal.returns-in-Node16-clause-sound
returns-in-Node16-clause-sound g c = λ node is.
    let there = c.node_ref.ensures.node ∙ ap shown c.in-Node16.is in
    let kind = sym (ap shown_kind c.in-Node16.is) ∙ c.node_ref.ensures.kind in
    IsInner-held c.args.self.now c.args.pointer kind there c.header-in-Node16.ensures.sound is

pub returns-in-Node48-clause-header : goal.returns-in-Node48-clause-header
returns-in-Node48-clause-header g c =
    let there = c.node_ref.ensures.node ∙ ap shown c.in-Node48.is in
    ap Some c.header-in-Node48.ensures.header ∙ sym (ap held_header there)

pub returns-in-Node48-clause-sound : goal.returns-in-Node48-clause-sound
returns-in-Node48-clause-sound g c = λ node is.
    let there = c.node_ref.ensures.node ∙ ap shown c.in-Node48.is in
    let kind = sym (ap shown_kind c.in-Node48.is) ∙ c.node_ref.ensures.kind in
    IsInner-held c.args.self.now c.args.pointer kind there c.header-in-Node48.ensures.sound is

pub returns-in-Node256-clause-header : goal.returns-in-Node256-clause-header
returns-in-Node256-clause-header g c =
    let there = c.node_ref.ensures.node ∙ ap shown c.in-Node256.is in
    ap Some c.header-in-Node256.ensures.header ∙ sym (ap held_header there)

pub returns-in-Node256-clause-sound : goal.returns-in-Node256-clause-sound
returns-in-Node256-clause-sound g c = λ node is.
    let there = c.node_ref.ensures.node ∙ ap shown c.in-Node256.is in
    let kind = sym (ap shown_kind c.in-Node256.is) ∙ c.node_ref.ensures.kind in
    IsInner-held c.args.self.now c.args.pointer kind there c.header-in-Node256.ensures.sound is

pub node_ref-requires : goal.node_ref-requires
node_ref-requires g c = search
