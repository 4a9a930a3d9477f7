use Rattle.std.proofs.Common.{◌≡◌, [], Some, None, IfOk, OnErr, OnOk, sym, subst}
use Rattle.art_keys.specs.EncodingLaws.{sorted_agrees}
use Rattle.std.proofs.lemmas.List.Elements.{All-nil}
use Rattle.std.specs.declared.cmp.Ordering.TheVariants.{Greater}
use Rattle.art_bytes.specs.Text.{text_order}
use Rattle.art_pages.specs.Entries.{get_key_by}
use Rattle.art_map.specs.Inserts.{IsSwapped}
use Rattle.art_map.specs.Pages.{IsMap, map_entries}
use Rattle.art_map.specs.Trees.{pages_in, pages_of}
use Rattle.art_map.proofs.PartLemmas.{AgreesBy}
use Rattle.art_map.proofs.PutLemmas.{by-result}
use Rattle.art_map.proofs.SwapLemmas.{head-swap-map}
use Rattle.art_map.proofs.put.swap.Goals as goal

pub returns-in-None-clause-map : goal.returns-in-None-clause-map
returns-in-None-clause-map g c =
    let order = g.K.KeyBytes.order in let cmp = g.K.Ord.cmp in let is_key = g.K.KeyBytes.is_key in let encoded = g.K.KeyBytes.encoded in let key = c.args.key in
    let law : AgreesBy is_key encoded (cmp key) (encoded key) = λ k is. sorted_agrees (cmp key k) (encoded key) (encoded k) (g.met.K.RadixKey.sorted key k c.requires.key.0 is.0) in
    let head = c.args.head.now.entries in let now = c.swap_in.new.page.entries in
    let map = subst (λ tree. IsMap order is_key encoded head (pages_in (λ tree. pages_of tree.value.arena) tree)) c.in-None.is c.requires.map in
    subst (λ tree. IsMap order is_key encoded now (pages_in (λ tree. pages_of tree.value.arena) tree)) (sym c.in-None.is)
    (by-result (IsMap order is_key encoded now []) c.swap_in.result c.swap_in.ensures.entries c.swap_in.ensures.same
    (λ swapped. head-swap-map order cmp g.met.K.RadixKey.ordered g.met.K.Ord.total is_key encoded key c.requires.key law head [] map (All-nil (λ page. text_order page.0 (encoded key) ≡ Greater)) now swapped)
    (λ so. subst (λ l. IsMap order is_key encoded l []) (sym so) map))

pub returns-in-Some-clause-entries : goal.returns-in-Some-clause-entries
returns-in-Some-clause-entries g c =
    let now = map_entries c.swap_over.new.head.entries (pages_of c.swap_over.new.tree.arena) in
    subst (λ tree. OnOk c.swap_over.result (IsSwapped g.K.Ord.cmp c.args.key (map_entries c.args.head.now.entries (pages_in (λ tree. pages_of tree.value.arena) tree)) now)) (sym c.in-Some.is)
    (subst (λ tree. OnOk c.swap_over.result (IsSwapped g.K.Ord.cmp c.args.key (map_entries c.args.head.now.entries (pages_of tree.arena)) now)) c.deref_mut.ensures.value c.swap_over.ensures.entries)

pub returns-in-Some-clause-old : goal.returns-in-Some-clause-old
returns-in-Some-clause-old g c =
    subst (λ tree. IfOk c.swap_over.result (λ old. get_key_by (g.K.Ord.cmp c.args.key) (map_entries c.args.head.now.entries (pages_in (λ tree. pages_of tree.value.arena) tree)) ≡ Some old)) (sym c.in-Some.is)
    (subst (λ tree. IfOk c.swap_over.result (λ old. get_key_by (g.K.Ord.cmp c.args.key) (map_entries c.args.head.now.entries (pages_of tree.arena)) ≡ Some old)) c.deref_mut.ensures.value c.swap_over.ensures.old)

pub returns-in-Some-clause-absent : goal.returns-in-Some-clause-absent
returns-in-Some-clause-absent g c =
    subst (λ tree. OnErr c.swap_over.result (get_key_by (g.K.Ord.cmp c.args.key) (map_entries c.args.head.now.entries (pages_in (λ tree. pages_of tree.value.arena) tree)) ≡ None)) (sym c.in-Some.is)
    (subst (λ tree. OnErr c.swap_over.result (get_key_by (g.K.Ord.cmp c.args.key) (map_entries c.args.head.now.entries (pages_of tree.arena)) ≡ None)) c.deref_mut.ensures.value c.swap_over.ensures.absent)

pub returns-in-Some-clause-same : goal.returns-in-Some-clause-same
returns-in-Some-clause-same g c =
    let now = map_entries c.swap_over.new.head.entries (pages_of c.swap_over.new.tree.arena) in
    subst (λ tree. OnErr c.swap_over.result (now ≡ map_entries c.args.head.now.entries (pages_in (λ tree. pages_of tree.value.arena) tree))) (sym c.in-Some.is)
    (subst (λ tree. OnErr c.swap_over.result (now ≡ map_entries c.args.head.now.entries (pages_of tree.arena))) c.deref_mut.ensures.value c.swap_over.ensures.same)
