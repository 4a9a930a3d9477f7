use Rattle.std.proofs.Common.{◌≡◌, ◌∙◌, ◌+◌, ◌<◌, length, Some, Ok, inl, sym, ap, subst}
use Rattle.std.specs.BTreeMap.{insert_entry, is_at}
use Rattle.std.specs.Map.{set_value}
use Rattle.std.specs.Option.{UnwrapsOrElse, option_copied_mut, option_map}
use Rattle.std.specs.Prelude.{slice_get}
use Rattle.art_arena.specs.Links.{with_value_at}
use Rattle.art_nodes.specs.Pointers.{slab_key}
use Rattle.art_pages.specs.Contents.{page_with_value, set_value_at}
use Rattle.art_pages.specs.Entries.{IsOrdered, get_by}
use Rattle.art_pages.proofs.OrderLemmas.{ordered-same}
use Rattle.art_map.specs.Pages.{map_entries, IsMap}
use Rattle.art_map.specs.Spots.{IsPageSpot, IsSpotInLeaf}
use Rattle.art_map.specs.Trees.{pages_in, pages_of}
use Rattle.art_map.proofs.SpotLemmas.{spot-head, spot-inserts, value-in-head, set-in-head, kept-in-head, value-in-leaf, set-in-leaf, kept-in-leaf}
use Rattle.art_map.proofs.ValueLemmas.{entered-inserts, entered-length, entered-value}
use Rattle.art_map.proofs.map.Map.get_or_insert_with.Goals as goal

pub invariant_of-self-lent : goal.invariant_of-self-lent
invariant_of-self-lent g c =
    let cmp = g.K.Ord.cmp in let key = c.args.key in let x = g.K.KeyBytes.encoded key in let total = g.met.K.Ord.total in
    let order = g.K.KeyBytes.order in let is_key = g.K.KeyBytes.is_key in let encoded = g.K.KeyBytes.encoded in
    let head = c.enter.new.head.entries in let place = c.in_ok-spot.spot.place in let more = c.in_ok-spot.spot.more in let len = c.self.inside.len in
    let others = pages_in (λ tree. pages_of tree.value.arena) c.enter.new.tree in
    let spot = spot-head (λ tree. tree.value.arena) x head (cmp key) (Ok place) c.enter.new.tree
    (subst (λ leaf. IsPageSpot (cmp key) x head (λ tree. tree.value.arena) c.enter.new.tree leaf (Ok place)) c.in-None.is c.in_ok-spot.ensures.spot) in
    let kept : IsMap order is_key encoded head others × (len + more ≡ length (map_entries head others)) = (c.enter.ensures.map, entered-length cmp total key _ _ _ more c.in_ok-spot.ensures.entered len c.self.invariant.1) in
    λ w. kept-in-head order is_key encoded (cmp key) x head place (len + more) w others kept spot

pub returns-in-None : goal.returns-in-None
returns-in-None g c =
    let cmp = g.K.Ord.cmp in let key = c.args.key in let x = g.K.KeyBytes.encoded key in let total = g.met.K.Ord.total in
    let order = g.K.KeyBytes.order in let is_key = g.K.KeyBytes.is_key in let encoded = g.K.KeyBytes.encoded in
    let head = c.enter.new.head.entries in let place = c.in_ok-spot.spot.place in let more = c.in_ok-spot.spot.more in let len = c.self.inside.len in
    let others = pages_in (λ tree. pages_of tree.value.arena) c.enter.new.tree in
    let spot = spot-head (λ tree. tree.value.arena) x head (cmp key) (Ok place) c.enter.new.tree
    (subst (λ leaf. IsPageSpot (cmp key) x head (λ tree. tree.value.arena) c.enter.new.tree leaf (Ok place)) c.in-None.is c.in_ok-spot.ensures.spot) in (
      (λ i. inl (
        c.value_mut.result.ghost_name,
        λ w. (set-in-head (cmp key) x head others place spot w
            ∙ spot-inserts (λ tree. tree.value.arena) x head cmp key place c.enter.new.tree c.in_ok-spot.spot.leaf c.in_ok-spot.ensures.spot w
            ∙ entered-inserts cmp total key _ _ _ more c.in_ok-spot.ensures.entered w ∙ ap (λ l. insert_entry cmp l key w) c.self.view_is) i,
      )),
      record {
        writes_back = tt;
        value = subst (λ l. UnwrapsOrElse (get_by (cmp key) l) (g.F.FnOnce.post c.args.make tt) c.value_mut.result.now) c.self.view_is
            (entered-value cmp total key _ _ _ more c.in_ok-spot.ensures.entered c.value_mut.result.now (value-in-head (cmp key) x head others place spot c.value_mut.result.now c.value_mut.ensures.value));
        too_long = tt;
        returned = tt;
        absent = tt;
        ordered = subst (IsOrdered cmp) c.self.view_is (ordered-same order cmp _ g.met.K.RadixKey.ordered c.self.invariant.0.ordered);
      },
    )

pub value_mut-requires-in-Some-as_mut : goal.value_mut-requires-in-Some-as_mut
value_mut-requires-in-Some-as_mut g c =
    let cmp = g.K.Ord.cmp in let key = c.args.key in let x = g.K.KeyBytes.encoded key in let total = g.met.K.Ord.total in
    let order = g.K.KeyBytes.order in let is_key = g.K.KeyBytes.is_key in let encoded = g.K.KeyBytes.encoded in
    let head = c.enter.new.head.entries in let place = c.in_ok-spot.spot.place in let more = c.in_ok-spot.spot.more in let len = c.self.inside.len in
    let tree = c.deref_mut.result.now in let leaf = c.in-Some.leaf in
    let spot : IsSpotInLeaf (cmp key) x head tree.arena leaf (Ok place) =
    subst (λ (t : _). IsSpotInLeaf (cmp key) x head t.arena leaf (Ok place)) (sym c.deref_mut.ensures.value)
    (subst (λ tree. IsPageSpot (cmp key) x head (λ tree. tree.value.arena) tree (Some leaf) (Ok place)) (sym c.as_mut.ensures.value ∙ ap option_copied_mut c.in-Some-as_mut.is)
    (subst (λ leaf. IsPageSpot (cmp key) x head (λ tree. tree.value.arena) c.enter.new.tree leaf (Ok place)) c.in-Some.is c.in_ok-spot.ensures.spot)) in
    subst (λ (p : _). place < length p.entries) (sym (c.page_mut.ensures.page spot.here)) spot.at.0

pub invariant_of-self-lent-in-Some : goal.invariant_of-self-lent-in-Some
invariant_of-self-lent-in-Some g c =
    let cmp = g.K.Ord.cmp in let key = c.args.key in let x = g.K.KeyBytes.encoded key in let total = g.met.K.Ord.total in
    let order = g.K.KeyBytes.order in let is_key = g.K.KeyBytes.is_key in let encoded = g.K.KeyBytes.encoded in
    let head = c.enter.new.head.entries in let place = c.in_ok-spot.spot.place in let more = c.in_ok-spot.spot.more in let len = c.self.inside.len in
    let tree = c.deref_mut.result.now in let leaf = c.in-Some.leaf in
    let spot : IsSpotInLeaf (cmp key) x head tree.arena leaf (Ok place) =
    subst (λ (t : _). IsSpotInLeaf (cmp key) x head t.arena leaf (Ok place)) (sym c.deref_mut.ensures.value)
    (subst (λ tree. IsPageSpot (cmp key) x head (λ tree. tree.value.arena) tree (Some leaf) (Ok place)) (sym c.as_mut.ensures.value ∙ ap option_copied_mut c.in-Some-as_mut.is)
    (subst (λ leaf. IsPageSpot (cmp key) x head (λ tree. tree.value.arena) c.enter.new.tree leaf (Ok place)) c.in-Some.is c.in_ok-spot.ensures.spot)) in
    let kept : IsMap order is_key encoded head (pages_of tree.arena) × (len + more ≡ length (map_entries head (pages_of tree.arena))) =
    subst (λ (t : _). IsMap order is_key encoded head (pages_of t.arena) × (len + more ≡ length (map_entries head (pages_of t.arena)))) (sym c.deref_mut.ensures.value)
    (subst (λ tree. IsMap order is_key encoded head (pages_in (λ tree. pages_of tree.value.arena) tree) × (len + more ≡ length (map_entries head (pages_in (λ tree. pages_of tree.value.arena) tree)))) (sym c.as_mut.ensures.value ∙ ap option_copied_mut c.in-Some-as_mut.is)
    (c.enter.ensures.map, entered-length cmp total key _ _ _ more c.in_ok-spot.ensures.entered len c.self.invariant.1)) in
    (λ w. let page = page_with_value c.page_mut.result.now place w in
    kept-in-leaf order is_key encoded (cmp key) x head place (len + more) w tree.arena (with_value_at tree.arena (slab_key leaf) page) leaf page kept spot
    (ap (λ (p : _). set_value_at p.entries place w) (c.page_mut.ensures.page spot.here)) (c.page_mut.ensures.changes spot.here page))

pub returns-in-Some-as_mut : goal.returns-in-Some-as_mut
returns-in-Some-as_mut g c =
    let cmp = g.K.Ord.cmp in let key = c.args.key in let x = g.K.KeyBytes.encoded key in let total = g.met.K.Ord.total in
    let order = g.K.KeyBytes.order in let is_key = g.K.KeyBytes.is_key in let encoded = g.K.KeyBytes.encoded in
    let head = c.enter.new.head.entries in let place = c.in_ok-spot.spot.place in let more = c.in_ok-spot.spot.more in let len = c.self.inside.len in
    let tree = c.deref_mut.result.now in let leaf = c.in-Some.leaf in
    let spot : IsSpotInLeaf (cmp key) x head tree.arena leaf (Ok place) =
    subst (λ (t : _). IsSpotInLeaf (cmp key) x head t.arena leaf (Ok place)) (sym c.deref_mut.ensures.value)
    (subst (λ tree. IsPageSpot (cmp key) x head (λ tree. tree.value.arena) tree (Some leaf) (Ok place)) (sym c.as_mut.ensures.value ∙ ap option_copied_mut c.in-Some-as_mut.is)
    (subst (λ leaf. IsPageSpot (cmp key) x head (λ tree. tree.value.arena) c.enter.new.tree leaf (Ok place)) c.in-Some.is c.in_ok-spot.ensures.spot)) in
    let all : map_entries head (pages_of tree.arena) ≡ map_entries head (pages_in (λ tree. pages_of tree.value.arena) c.enter.new.tree) =
    ap (λ (t : _). map_entries head (pages_of t.arena)) c.deref_mut.ensures.value
    ∙ ap (λ tree. map_entries head (pages_in (λ tree. pages_of tree.value.arena) tree)) (sym (sym c.as_mut.ensures.value ∙ ap option_copied_mut c.in-Some-as_mut.is)) in
    let lent = c.value_mut-in-Some-as_mut.result in (
      (λ i. inl (
        lent.ghost_name,
        λ w. (
            let page = page_with_value c.page_mut.result.now place w in
            set-in-leaf (cmp key) x head tree.arena leaf (with_value_at tree.arena (slab_key leaf) page) page place spot w
            (ap (λ (p : _). set_value_at p.entries place w) (c.page_mut.ensures.page spot.here)) (c.page_mut.ensures.changes spot.here page)
            ∙ ap (λ l. set_value (is_at (cmp key)) l w) all
            ∙ spot-inserts (λ tree. tree.value.arena) x head cmp key place c.enter.new.tree c.in_ok-spot.spot.leaf c.in_ok-spot.ensures.spot w
            ∙ entered-inserts cmp total key _ _ _ more c.in_ok-spot.ensures.entered w ∙ ap (λ l. insert_entry cmp l key w) c.self.view_is) i,
      )),
      record {
        writes_back = tt;
        value = subst (λ l. UnwrapsOrElse (get_by (cmp key) l) (g.F.FnOnce.post c.args.make tt) lent.now) c.self.view_is
            (entered-value cmp total key _ _ _ more c.in_ok-spot.ensures.entered lent.now (ap (get_by (cmp key)) (sym all)
            ∙ value-in-leaf (cmp key) x head tree.arena leaf place spot lent.now
            (subst (λ (p : _). option_map (λ entry. entry.1) (slice_get p.entries place) ≡ Some lent.now) (c.page_mut.ensures.page spot.here) c.value_mut-in-Some-as_mut.ensures.value)));
        too_long = tt;
        returned = tt;
        absent = tt;
        ordered = subst (IsOrdered cmp) c.self.view_is (ordered-same order cmp _ g.met.K.RadixKey.ordered c.self.invariant.0.ordered);
      },
    )
