use Rattle.std.proofs.Common.{Result, Ok, Err, IfErr, subst}
use Rattle.art_steps.specs.Insertion.{IsRefused}
use Rattle.art_tree_tests.proofs.tree.tree_examples.put_apart.Goals as goal

each-error : {A E : Type 0} (P Q : E → Type 0) → ((e : E) → P e → Q e) → (r : Result A E) → IfErr r P → IfErr r Q
each-error P Q implies (Ok a) is = tt
each-error P Q implies (Err e) is = implies e is

pub returns : goal.returns
returns g c =
    let text = g.K.AsBytes.text in
    let arena = c.args.tree.now.arena in
    let free = c.keys_without_prefixes_never_clash.ensures.entries arena c.args.key c.insert.ensures.are_keys c.insert.ensures.is_key in
    each-error (λ fault. IsRefused text arena (text c.args.key) fault.refusal) _ (λ fault due is. free (subst (IsRefused text arena (text c.args.key)) is due).1) c.insert.result c.insert.ensures.refusal_due
