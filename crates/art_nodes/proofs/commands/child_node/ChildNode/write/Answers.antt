use Rattle.art_nodes.specs.ChildMap.{child_at}
use Rattle.art_nodes.specs.Inner.{node_with_child}
use mathlib.Core.Bool.{true≢false}
use Rattle.std.proofs.Common.{rules, ◌≡◌, ◌≢◌, length, not, ap, sym, ◌∙◌}
use Rattle.std.specs.Option.{is_some}
use Rattle.art_header.specs.NodeType.{most_children, grown_kind}
use Rattle.art_nodes.specs.AnyInner.{inner_of, kind_of}
use Rattle.art_nodes.proofs.KindLemmas.{IsOfKind, IsOfKind-smallest, Grows-kind, kept-overwrite, kept-room, grown, absent_below, smaller_kind, room_left}
use Rattle.art_nodes.proofs.commands.child_node.ChildNode.write.Goals as goal
use Rattle.art_nodes.proofs.commands.child_node.ChildNode.write.Goals.{then-is_full+then-is_none, else-is_full, else-is_full-via-then-is_full+else-is_none, else-is_full-via-else-is_full}

pub grow-requires : goal.grow-requires
grow-requires g c =
    let any = c.self.inside.node in
    let children = (inner_of any).children in
    let absent = ap is_some (sym c.lookup_child.ensures) ∙ (c.is_none.ensures ∙ ap not c.if-is_none.true) in
    let full : length children ≡ most_children (kind_of any) = c.is_full.ensures.value.0 c.if-is_full.true in
    let below = absent_below children c.args.byte c.args.child c.is_full.ensures.sound.ascending c.ranges.byte.fits absent in
    (search rules, smaller_kind (kind_of any) (length children) full below)

pub insert_child-requires : goal.insert_child-requires
insert_child-requires g c =
    let any = c.self.inside.node in
    let children = (inner_of any).children in
    let sound = c.is_full.ensures.sound in (
      search rules,
      (
        search,
        elim c.if-is_full.branch [
          | then-is_full+then-is_none w ↦
              let absent = ap is_some (sym w.lookup_child.ensures) ∙ (w.is_none.ensures ∙ ap not w.if-is_none.true) in
              let full : length children ≡ most_children (kind_of any) = c.is_full.ensures.value.0 w.if-is_full.true in
              let below = absent_below children c.args.byte c.args.child sound.ascending c.ranges.byte.fits absent in
              let smaller = smaller_kind (kind_of any) (length children) full below in
              let of : IsOfKind (kind_of any) (length children) = IsOfKind-smallest _ _ c.self.invariant sound.fits in
              let grows = Grows-kind (kind_of any) of.inner smaller in
              rw (w.self-inside-is, w.grow.ensures.kind, w.grow.ensures.same) (λ _. rw full grows.most)
          | else-is_full w ↦ rw w.self-inside-is (elim w.else-is_full.branch [
            | else-is_full-via-then-is_full+else-is_none v ↦ λ absent. (let some = ap is_some (sym v.lookup_child.ensures) ∙ (v.is_none.ensures ∙ ap not v.if-is_none.false) in absurd (true≢false (sym some ∙ absent)))
            | else-is_full-via-else-is_full v ↦
                let not_full : length children ≢ most_children (kind_of any) = λ full. (let yes = c.is_full.ensures.value.1 full in let no = v.if-is_full.false in cc) in
                λ _. room_left (length children) (most_children (kind_of any)) sound.fits not_full
          ])
        ],
      ),
    )

pub invariant_of-self : goal.invariant_of-self
invariant_of-self g c =
    let any = c.self.inside.node in
    let children = (inner_of any).children in
    let sound = c.is_full.ensures.sound in
    let of : IsOfKind (kind_of any) (length children) = IsOfKind-smallest _ _ c.self.invariant sound.fits in
    rw (c.insert_child.ensures.kind, c.insert_child.ensures.written) (elim c.if-is_full.branch [
      | then-is_full+then-is_none w ↦
          let absent = ap is_some (sym w.lookup_child.ensures) ∙ (w.is_none.ensures ∙ ap not w.if-is_none.true) in
          let full : length children ≡ most_children (kind_of any) = c.is_full.ensures.value.0 w.if-is_full.true in
          let below = absent_below children c.args.byte c.args.child sound.ascending c.ranges.byte.fits absent in
          let smaller = smaller_kind (kind_of any) (length children) full below in
          let grows = Grows-kind (kind_of any) of.inner smaller in
          rw (w.self-inside-is, w.grow.ensures.kind, w.grow.ensures.same) (grown (kind_of any) children c.args.byte c.args.child sound.ascending of (grown_kind (kind_of any)) grows.inner full grows.least grows.most absent)
      | else-is_full w ↦ rw w.self-inside-is (elim w.else-is_full.branch [
        | else-is_full-via-then-is_full+else-is_none v ↦ kept-overwrite (kind_of any) children c.args.byte c.args.child sound.ascending of (ap is_some (sym v.lookup_child.ensures) ∙ (v.is_none.ensures ∙ ap not v.if-is_none.false))
        | else-is_full-via-else-is_full v ↦
            let not_full : length children ≢ most_children (kind_of any) = λ full. (let yes = c.is_full.ensures.value.1 full in let no = v.if-is_full.false in cc) in
            kept-room (kind_of any) children c.args.byte c.args.child sound.ascending of (room_left (length children) (most_children (kind_of any)) sound.fits not_full)
      ])
    ])

pub returns : goal.returns
returns g c =
    let same : inner_of c.if-is_full.self-inside.node ≡ c.args.self.now = elim c.if-is_full.branch [
      | then-is_full+then-is_none w ↦ ap (λ i. inner_of i.node) w.self-inside-is ∙ (w.grow.ensures.same ∙ c.self.view_is)
      | else-is_full w ↦ ap (λ i. inner_of i.node) w.self-inside-is ∙ c.self.view_is
    ] in
    record {
      old_child = c.insert_child.ensures.old_child ∙ ap (λ n. child_at n.children c.args.byte) same;
      written = c.insert_child.ensures.written ∙ ap (λ n. node_with_child n c.args.byte c.args.child) same;
    }
