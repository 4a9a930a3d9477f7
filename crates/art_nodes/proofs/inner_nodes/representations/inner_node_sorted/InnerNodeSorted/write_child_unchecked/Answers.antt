use Rattle.std.proofs.Common.{◌<◌, All, length, arith, rules, ap, subst, sym}
use Rattle.art_nodes.specs.ChildMap.{key_bytes}
use Rattle.art_nodes.proofs.SortedLemmas.{count_fits, length-zip}
use Rattle.art_nodes.proofs.PushLemmas.{with_child-push, sorted-push}
use Rattle.art_nodes.proofs.inner_nodes.representations.inner_node_sorted.InnerNodeSorted.write_child_unchecked.Goals as goal

pub push-requires : goal.push-requires
push-requires g c =
    let bytes = c.self.inside.keys.items in
    let shown = ap (λ n. length n.children) c.self.view_is in
    (search rules, omega (arith, c.requires.room, shown, length-zip bytes c.self.inside.child_pointers.items c.self.invariant.beside))

pub push-requires-2 : goal.push-requires-2
push-requires-2 g c =
    let bytes = c.self.inside.keys.items in
    let shown = ap (λ n. length n.children) c.self.view_is in
    (search rules, omega (arith, c.requires.room, shown, c.self.invariant.beside, length-zip bytes c.self.inside.child_pointers.items c.self.invariant.beside))

pub inc_num_children-requires : goal.inc_num_children-requires
inc_num_children-requires g c =
    (search rules, omega (arith, count_fits c.self.invariant))

pub invariant_of-self : goal.invariant_of-self
invariant_of-self g c =
    let bytes = c.self.inside.keys.items in
    let shown = ap (λ n. length n.children) c.self.view_is in
    let below : length bytes < g.row.SIZE = omega (arith, c.requires.room, shown, length-zip bytes c.self.inside.child_pointers.items c.self.invariant.beside) in
    let above = subst (λ n. All (λ b. b < c.args.key_fragment) (key_bytes n.children)) (sym c.self.view_is) c.requires.above in
    rw (c.push.ensures.items, c.push-2.ensures.items) (sorted-push _ _ _ _ _ c.self.invariant _ above _ c.ranges.key_fragment.fits below _ c.inc_num_children.ensures)

pub returns : goal.returns
returns g c =
    let above = subst (λ n. All (λ b. b < c.args.key_fragment) (key_bytes n.children)) (sym c.self.view_is) c.requires.above in
    rw (← c.self.view_is, ← c.new.ensures, c.inc_num_children.ensures, c.push.ensures.items, c.push-2.ensures.items) (ap (λ children. record { prefix_len = c.self.inside.header.prefix_len; stored = c.self.inside.header.stored; children = children }) (sym (with_child-push _ _ _ _ _ c.self.invariant _ above _)))
