use Rattle.std.proofs.Common.{◌≡◌, ◌∙◌, ◌+◌, false, not, cond, length, None, is_some, ap, subst, sym, arith}
use Rattle.std.specs.BTreeMap.{is_at}
use Rattle.std.specs.BTreeSet.{insert_key, replace_key}
use Rattle.std.specs.List.Sorted.{IsStrictlySortedBy}
use Rattle.std.specs.Map.{keys_of}
use Rattle.art_set.specs.KeyLists.{contains_by, find_by}
use Rattle.art_set.proofs.ListLemmas.{gets-key, some-found}
use Rattle.art_set.proofs.ReplacedKeys.{length-replaced, replaced-anew, replaced-there}
use Rattle.art_set.proofs.set.Set.replace.Goals as goal

pub returns-in-Ok-clause-old : goal.returns-in-Ok-clause-old
returns-in-Ok-clause-old g c = sym c.in-Ok.ensures.old ∙ gets-key c.self.inside.entries c.args.self.now c.self.view_is (g.K.Ord.cmp c.args.key)

pub returns-in-Ok-clause-keys : goal.returns-in-Ok-clause-keys
returns-in-Ok-clause-keys g c =
    let cmp = g.K.Ord.cmp in
    ap keys_of c.in-Ok.ensures.entries
    ∙ replaced-there cmp c.args.key g.met.K.Ord.total c.self.inside.entries c.in-Ok.old (subst (IsStrictlySortedBy cmp) (sym c.self.view_is) c.len-len.ensures.ordered) c.in-Ok.ensures.old
    ∙ ap (λ l. replace_key cmp l c.args.key) c.self.view_is

pub returns-in-Ok-clause-len : goal.returns-in-Ok-clause-len
returns-in-Ok-clause-len g c =
    let same = ap length (ap keys_of c.in-Ok.ensures.entries) ∙ length-replaced g.K.Ord.cmp c.args.key c.self.inside.entries ∙ ap length c.self.view_is in
    omega (arith, same)

pub returns-in-Ok-insert-clause-old : goal.returns-in-Ok-insert-clause-old
returns-in-Ok-insert-clause-old g c = sym c.in-Err.ensures.absent ∙ gets-key c.self.inside.entries c.args.self.now c.self.view_is (g.K.Ord.cmp c.args.key)

pub returns-in-Ok-insert-clause-keys : goal.returns-in-Ok-insert-clause-keys
returns-in-Ok-insert-clause-keys g c =
    let cmp = g.K.Ord.cmp in let key = c.args.key in let keys = c.args.self.now in
    let kept : keys_of c.replace_key.new.self ≡ keys = ap keys_of c.in-Err.ensures.err ∙ c.self.view_is in
    let none : None ≡ find_by (cmp key) keys = sym c.in-Err.ensures.absent ∙ gets-key c.self.inside.entries keys c.self.view_is (cmp key) in
    let lacks : contains_by (cmp key) keys ≡ false = sym (some-found (is_at (cmp key)) keys) ∙ ap is_some (sym none) in
    c.in-Ok-insert.ensures.keys ∙ (λ i. insert_key cmp (kept i) (c.in-Err.ensures.returned i)) ∙ replaced-anew cmp key keys lacks

pub returns-in-Ok-insert-clause-len : goal.returns-in-Ok-insert-clause-len
returns-in-Ok-insert-clause-len g c =
    let cmp = g.K.Ord.cmp in let key = c.args.key in let keys = c.args.self.now in
    let kept : keys_of c.replace_key.new.self ≡ keys = ap keys_of c.in-Err.ensures.err ∙ c.self.view_is in
    let none : None ≡ find_by (cmp key) keys = sym c.in-Err.ensures.absent ∙ gets-key c.self.inside.entries keys c.self.view_is (cmp key) in
    let lacks : contains_by (cmp key) keys ≡ false = sym (some-found (is_at (cmp key)) keys) ∙ ap is_some (sym none) in
    let added = c.in-Ok-insert.ensures.added ∙ (λ i. not (contains_by (cmp (c.in-Err.ensures.returned i)) (kept i))) ∙ ap not lacks in
    c.in-Ok-insert.ensures.len ∙ (λ i. length (kept i) + cond (added i) 1 0)
