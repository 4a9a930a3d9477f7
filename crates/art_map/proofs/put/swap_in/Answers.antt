use Rattle.std.proofs.Common.{◌≡◌, ◌∙◌, ◌<◌, ◌+◌, ◌∷◌, ◌++◌, Some, length, take, drop, ap, subst, sym}
use Rattle.std.proofs.lemmas.Option.{slice_get-get_or}
use Rattle.std.specs.Prelude.{set, slice_get}
use Rattle.art_pages.specs.Contents.{PageContents}
use Rattle.art_pages.specs.Entries.{AreKeys, IsIndexable, IsOrdered}
use Rattle.art_pages.proofs.FoundLemmas.{get_by-found, get_key_by-found, get_key_by-gap}
use Rattle.art_map.proofs.SwapLemmas.{keys-at, ordered-at, set-cut, swapped-at}
use Rattle.art_map.proofs.put.swap_in.Goals as goal

pub returns-in-Err-clause-absent : goal.returns-in-Err-clause-absent
returns-in-Err-clause-absent g c =
    get_key_by-gap (g.K.Ord.cmp c.args.key) c.args.page.now.entries c.in-Err.field-0 c.in-Err.ensures

pub from_entries-requires-clause-ordered : goal.from_entries-requires-clause-ordered
from_entries-requires-clause-ordered g c =
    let cmp = g.K.Ord.cmp in let key = c.args.key in let place = c.in-Ok.place in let entries = c.args.page.now.entries in
    let items = c.into_entries-entries.result.items in let pair = c.index_mut.result.now in
    let same : items ≡ entries = c.into_entries-entries.ensures ∙ ap (λ (page : PageContents _ _). page.entries) c.replace-held.ensures.value in
    let is : slice_get entries place ≡ Some pair =
    ap (λ l. slice_get l place) (sym same) ∙ slice_get-get_or items place pair (subst (λ l. place < length l) (sym same) c.in-Ok.ensures.0) ∙ ap Some (sym c.index_mut.ensures.value) in
    let now : set items place (c.replace-old.new.dest, pair.1) ≡ take place entries ++ (key, pair.1) ∷ drop (place + 1) entries =
    ap (λ l. set l place (c.replace-old.new.dest, pair.1)) same ∙ ap (λ k. set entries place (k, pair.1)) c.replace-old.ensures.after ∙ set-cut entries place (key, pair.1) c.in-Ok.ensures.0 in
    subst (IsOrdered cmp) (sym now) (ordered-at cmp key pair.1 (IsIndexable g.K.KeyBytes.is_key g.K.KeyBytes.encoded) entries place pair c.in-Ok.ensures is g.met.K.Ord.total c.len-len.ensures.ordered)

pub from_entries-requires-clause-keys : goal.from_entries-requires-clause-keys
from_entries-requires-clause-keys g c =
    let cmp = g.K.Ord.cmp in let key = c.args.key in let place = c.in-Ok.place in let entries = c.args.page.now.entries in
    let items = c.into_entries-entries.result.items in let pair = c.index_mut.result.now in
    let same : items ≡ entries = c.into_entries-entries.ensures ∙ ap (λ (page : PageContents _ _). page.entries) c.replace-held.ensures.value in
    let is : slice_get entries place ≡ Some pair =
    ap (λ l. slice_get l place) (sym same) ∙ slice_get-get_or items place pair (subst (λ l. place < length l) (sym same) c.in-Ok.ensures.0) ∙ ap Some (sym c.index_mut.ensures.value) in
    let now : set items place (c.replace-old.new.dest, pair.1) ≡ take place entries ++ (key, pair.1) ∷ drop (place + 1) entries =
    ap (λ l. set l place (c.replace-old.new.dest, pair.1)) same ∙ ap (λ k. set entries place (k, pair.1)) c.replace-old.ensures.after ∙ set-cut entries place (key, pair.1) c.in-Ok.ensures.0 in
    subst (AreKeys g.K.KeyBytes.is_key g.K.KeyBytes.encoded) (sym now) (keys-at cmp key pair.1 (IsIndexable g.K.KeyBytes.is_key g.K.KeyBytes.encoded) entries place pair c.in-Ok.ensures is c.requires c.len-len.ensures.keys)

pub returns-clause-old : goal.returns-clause-old
returns-clause-old g c =
    let cmp = g.K.Ord.cmp in let key = c.args.key in let place = c.in-Ok.place in let entries = c.args.page.now.entries in
    let items = c.into_entries-entries.result.items in let pair = c.index_mut.result.now in
    let same : items ≡ entries = c.into_entries-entries.ensures ∙ ap (λ (page : PageContents _ _). page.entries) c.replace-held.ensures.value in
    let is : slice_get entries place ≡ Some pair =
    ap (λ l. slice_get l place) (sym same) ∙ slice_get-get_or items place pair (subst (λ l. place < length l) (sym same) c.in-Ok.ensures.0) ∙ ap Some (sym c.index_mut.ensures.value) in
    let now : set items place (c.replace-old.new.dest, pair.1) ≡ take place entries ++ (key, pair.1) ∷ drop (place + 1) entries =
    ap (λ l. set l place (c.replace-old.new.dest, pair.1)) same ∙ ap (λ k. set entries place (k, pair.1)) c.replace-old.ensures.after ∙ set-cut entries place (key, pair.1) c.in-Ok.ensures.0 in
    get_key_by-found (cmp key) entries place pair c.in-Ok.ensures is ∙ ap Some (sym c.replace-old.ensures.value)

pub returns-clause-entries : goal.returns-clause-entries
returns-clause-entries g c =
    let cmp = g.K.Ord.cmp in let key = c.args.key in let place = c.in-Ok.place in let entries = c.args.page.now.entries in
    let items = c.into_entries-entries.result.items in let pair = c.index_mut.result.now in
    let same : items ≡ entries = c.into_entries-entries.ensures ∙ ap (λ (page : PageContents _ _). page.entries) c.replace-held.ensures.value in
    let is : slice_get entries place ≡ Some pair =
    ap (λ l. slice_get l place) (sym same) ∙ slice_get-get_or items place pair (subst (λ l. place < length l) (sym same) c.in-Ok.ensures.0) ∙ ap Some (sym c.index_mut.ensures.value) in
    let now : set items place (c.replace-old.new.dest, pair.1) ≡ take place entries ++ (key, pair.1) ∷ drop (place + 1) entries =
    ap (λ l. set l place (c.replace-old.new.dest, pair.1)) same ∙ ap (λ k. set entries place (k, pair.1)) c.replace-old.ensures.after ∙ set-cut entries place (key, pair.1) c.in-Ok.ensures.0 in (
      pair.1,
      get_by-found (cmp key) entries place pair c.in-Ok.ensures is,
      c.from_entries.ensures.entries ∙ now
          ∙ sym (swapped-at cmp key pair.1 (IsIndexable g.K.KeyBytes.is_key g.K.KeyBytes.encoded) entries place pair c.in-Ok.ensures is),
    )
