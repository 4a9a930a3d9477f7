use Rattle.std.proofs.Common.{◌≡◌, ◌∙◌, ◌<◌, length, Some, Ok, inl, inr, sym, ap, subst}
use Rattle.std.specs.BTreeMap.{is_at}
use Rattle.std.specs.Map.{set_value}
use Rattle.std.specs.Option.{option_copied_mut, option_map}
use Rattle.std.specs.Prelude.{slice_get}
use Rattle.art_arena.specs.Links.{with_value_at}
use Rattle.art_nodes.specs.Pointers.{slab_key}
use Rattle.art_pages.specs.Contents.{page_with_value, set_value_at}
use Rattle.art_pages.specs.Entries.{IsOrdered, get_by}
use Rattle.art_pages.proofs.OrderLemmas.{ordered-same}
use Rattle.art_map.specs.Pages.{map_entries, IsMap}
use Rattle.art_map.specs.Spots.{IsPageSpot, IsSpotInLeaf}
use Rattle.art_map.specs.Trees.{pages_in, pages_of}
use Rattle.art_map.proofs.SpotLemmas.{spot-none, spot-head, value-in-head, set-in-head, kept-in-head, value-in-leaf, set-in-leaf, kept-in-leaf}
use Rattle.art_map.proofs.map.Map.get_mut.Goals as goal

pub returns-in_default : goal.returns-in_default
returns-in_default g c =
    let compare = g.Q.RadixQuery.compare c.args.key in let x = g.Q.RadixQuery.encoded c.args.key in
    let head = c.self.inside.head.entries in let tree = c.self.inside.tree in
    let spot = subst (λ place. IsPageSpot compare x head (λ tree. tree.value.arena) tree c.find-leaf.result.0 place) c.in_default.is c.find-leaf.ensures in (
      (λ i. inr (c.self.view_is i)),
      record {
        writes_back = tt;
        value = sym (ap (get_by compare) (sym c.self.view_is) ∙ spot-none (λ tree. tree.value.arena) x head compare c.in_default.field-0 tree c.find-leaf.result.0 spot);
        ordered = subst (IsOrdered g.K.Ord.cmp) c.self.view_is (ordered-same g.K.KeyBytes.order g.K.Ord.cmp _ g.met.K.RadixKey.ordered c.self.invariant.0.ordered);
      },
    )

pub invariant_of-self-lent : goal.invariant_of-self-lent
invariant_of-self-lent g c =
    let compare = g.Q.RadixQuery.compare c.args.key in let x = g.Q.RadixQuery.encoded c.args.key in
    let head = c.self.inside.head.entries in let tree = c.self.inside.tree in
    let spot = spot-head (λ tree. tree.value.arena) x head compare (Ok c.in-Ok.place) tree
    (subst (λ leaf. IsPageSpot compare x head (λ tree. tree.value.arena) tree leaf (Ok c.in-Ok.place)) c.in-None.is
    (subst (λ place. IsPageSpot compare x head (λ tree. tree.value.arena) tree c.find-leaf.result.0 place) c.in-Ok.is c.find-leaf.ensures)) in
    λ w. kept-in-head g.K.KeyBytes.order g.K.KeyBytes.is_key g.K.KeyBytes.encoded compare x head c.in-Ok.place c.self.inside.len w
    (pages_in (λ tree. pages_of tree.value.arena) tree) c.self.invariant spot

pub returns-in-None : goal.returns-in-None
returns-in-None g c =
    let compare = g.Q.RadixQuery.compare c.args.key in let x = g.Q.RadixQuery.encoded c.args.key in
    let head = c.self.inside.head.entries in let tree = c.self.inside.tree in let place = c.in-Ok.place in
    let others = pages_in (λ tree. pages_of tree.value.arena) tree in
    let spot = spot-head (λ tree. tree.value.arena) x head compare (Ok place) tree
    (subst (λ leaf. IsPageSpot compare x head (λ tree. tree.value.arena) tree leaf (Ok place)) c.in-None.is
    (subst (λ place. IsPageSpot compare x head (λ tree. tree.value.arena) tree c.find-leaf.result.0 place) c.in-Ok.is c.find-leaf.ensures)) in (
      (λ i. inl (c.value_mut.result.ghost_name, λ w. (set-in-head compare x head others place spot w ∙ ap (λ l. set_value (is_at compare) l w) c.self.view_is) i)),
      record {
        writes_back = tt;
        value = sym (ap (get_by compare) (sym c.self.view_is) ∙ value-in-head compare x head others place spot c.value_mut.result.now c.value_mut.ensures.value);
        ordered = subst (IsOrdered g.K.Ord.cmp) c.self.view_is (ordered-same g.K.KeyBytes.order g.K.Ord.cmp _ g.met.K.RadixKey.ordered c.self.invariant.0.ordered);
      },
    )

pub value_mut-requires-in-Some-as_mut : goal.value_mut-requires-in-Some-as_mut
value_mut-requires-in-Some-as_mut g c =
    let compare = g.Q.RadixQuery.compare c.args.key in let x = g.Q.RadixQuery.encoded c.args.key in
    let head = c.self.inside.head.entries in let place = c.in-Ok.place in let tree = c.deref_mut.result.now in
    let spot : IsSpotInLeaf compare x head tree.arena c.in-Some.leaf (Ok place) =
    subst (λ (t : _). IsSpotInLeaf compare x head t.arena c.in-Some.leaf (Ok place)) (sym c.deref_mut.ensures.value)
    (subst (λ tree. IsPageSpot compare x head (λ tree. tree.value.arena) tree (Some c.in-Some.leaf) (Ok place)) (sym c.as_mut.ensures.value ∙ ap option_copied_mut c.in-Some-as_mut.is)
    (subst (λ leaf. IsPageSpot compare x head (λ tree. tree.value.arena) c.self.inside.tree leaf (Ok place)) c.in-Some.is
    (subst (λ place. IsPageSpot compare x head (λ tree. tree.value.arena) c.self.inside.tree c.find-leaf.result.0 place) c.in-Ok.is c.find-leaf.ensures))) in
    subst (λ (p : _). place < length p.entries) (sym (c.page_mut.ensures.page spot.here)) spot.at.0

pub invariant_of-self-lent-in-Some-as_mut : goal.invariant_of-self-lent-in-Some-as_mut
invariant_of-self-lent-in-Some-as_mut g c =
    let compare = g.Q.RadixQuery.compare c.args.key in let x = g.Q.RadixQuery.encoded c.args.key in
    let order = g.K.KeyBytes.order in let is_key = g.K.KeyBytes.is_key in let encoded = g.K.KeyBytes.encoded in let len = c.self.inside.len in
    let head = c.self.inside.head.entries in let place = c.in-Ok.place in let tree = c.deref_mut.result.now in let leaf = c.in-Some.leaf in
    let spot : IsSpotInLeaf compare x head tree.arena leaf (Ok place) =
    subst (λ (t : _). IsSpotInLeaf compare x head t.arena leaf (Ok place)) (sym c.deref_mut.ensures.value)
    (subst (λ tree. IsPageSpot compare x head (λ tree. tree.value.arena) tree (Some leaf) (Ok place)) (sym c.as_mut.ensures.value ∙ ap option_copied_mut c.in-Some-as_mut.is)
    (subst (λ leaf. IsPageSpot compare x head (λ tree. tree.value.arena) c.self.inside.tree leaf (Ok place)) c.in-Some.is
    (subst (λ place. IsPageSpot compare x head (λ tree. tree.value.arena) c.self.inside.tree c.find-leaf.result.0 place) c.in-Ok.is c.find-leaf.ensures))) in
    let kept : IsMap order is_key encoded head (pages_of tree.arena) × (len ≡ length (map_entries head (pages_of tree.arena))) =
    subst (λ (t : _). IsMap order is_key encoded head (pages_of t.arena) × (len ≡ length (map_entries head (pages_of t.arena)))) (sym c.deref_mut.ensures.value)
    (subst (λ tree. IsMap order is_key encoded head (pages_in (λ tree. pages_of tree.value.arena) tree) × (len ≡ length (map_entries head (pages_in (λ tree. pages_of tree.value.arena) tree)))) (sym c.as_mut.ensures.value ∙ ap option_copied_mut c.in-Some-as_mut.is) c.self.invariant) in
    (λ w. let page = page_with_value c.page_mut.result.now place w in
    kept-in-leaf order is_key encoded compare x head place len w tree.arena (with_value_at tree.arena (slab_key leaf) page) leaf page kept spot
    (ap (λ (p : _). set_value_at p.entries place w) (c.page_mut.ensures.page spot.here)) (c.page_mut.ensures.changes spot.here page))

pub returns-in-Some-as_mut : goal.returns-in-Some-as_mut
returns-in-Some-as_mut g c =
    let compare = g.Q.RadixQuery.compare c.args.key in let x = g.Q.RadixQuery.encoded c.args.key in
    let head = c.self.inside.head.entries in let place = c.in-Ok.place in let tree = c.deref_mut.result.now in let leaf = c.in-Some.leaf in
    let spot : IsSpotInLeaf compare x head tree.arena leaf (Ok place) =
    subst (λ (t : _). IsSpotInLeaf compare x head t.arena leaf (Ok place)) (sym c.deref_mut.ensures.value)
    (subst (λ tree. IsPageSpot compare x head (λ tree. tree.value.arena) tree (Some leaf) (Ok place)) (sym c.as_mut.ensures.value ∙ ap option_copied_mut c.in-Some-as_mut.is)
    (subst (λ leaf. IsPageSpot compare x head (λ tree. tree.value.arena) c.self.inside.tree leaf (Ok place)) c.in-Some.is
    (subst (λ place. IsPageSpot compare x head (λ tree. tree.value.arena) c.self.inside.tree c.find-leaf.result.0 place) c.in-Ok.is c.find-leaf.ensures))) in
    let all : map_entries head (pages_of tree.arena) ≡ c.args.self.now =
    ap (λ (t : _). map_entries head (pages_of t.arena)) c.deref_mut.ensures.value
    ∙ ap (λ tree. map_entries head (pages_in (λ tree. pages_of tree.value.arena) tree)) (sym (sym c.as_mut.ensures.value ∙ ap option_copied_mut c.in-Some-as_mut.is)) ∙ c.self.view_is in
    let lent = c.value_mut-in-Some-as_mut.result in (
      (λ i. inl (
        lent.ghost_name,
        λ w. (
            let page = page_with_value c.page_mut.result.now place w in
            set-in-leaf compare x head tree.arena leaf (with_value_at tree.arena (slab_key leaf) page) page place spot w
            (ap (λ (p : _). set_value_at p.entries place w) (c.page_mut.ensures.page spot.here)) (c.page_mut.ensures.changes spot.here page)
            ∙ ap (λ l. set_value (is_at compare) l w) all) i,
      )),
      record {
        writes_back = tt;
        value = sym (ap (get_by compare) (sym all) ∙ value-in-leaf compare x head tree.arena leaf place spot lent.now
            (subst (λ (p : _). option_map (λ entry. entry.1) (slice_get p.entries place) ≡ Some lent.now) (c.page_mut.ensures.page spot.here) c.value_mut-in-Some-as_mut.ensures.value));
        ordered = subst (IsOrdered g.K.Ord.cmp) c.self.view_is (ordered-same g.K.KeyBytes.order g.K.Ord.cmp _ g.met.K.RadixKey.ordered c.self.invariant.0.ordered);
      },
    )
