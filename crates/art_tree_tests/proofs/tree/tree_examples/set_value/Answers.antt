use Rattle.std.proofs.Common.{◌≡◌, Option, Some, None, refl}
use Rattle.std.specs.Option.{option_map}
use Rattle.art_nodes.specs.Leaf.{leaf_value, with_value}
use Rattle.art_nodes.specs.Pointers.{slab_key}
use Rattle.art_arena.specs.Links.{leaf_at, with_value_at}
use Rattle.art_tree_tests.proofs.tree.tree_examples.set_value.Goals as goal

some-of : {A B : Type 0} (f : A → B) (o : Option A) (b : B) → option_map f o ≡ Some b → (a : A) × (o ≡ Some a)
some-of f None b is = absurd (cc)
some-of f (Some a) b is = (a, refl)

pub returns : goal.returns
returns g c =
    let (tree, is) = c.requires in
    let arena = c.args.arena.now in
    let key = slab_key c.in-Some.leaf in
    let (leaf, found) = some-of leaf_value (leaf_at arena key) c.as_value_mut.result.now c.as_value_mut.ensures.value in
    let stands = c.trees_stand_where_texts_are_kept.ensures.leaf arena (with_value_at arena key c.args.value) key leaf (with_value leaf c.args.value) tree found (c.as_value_mut.ensures.changes leaf c.args.value found) refl is.stands in
    (tree, record { at_root = is.at_root; stands = stands; sound = is.sound })
