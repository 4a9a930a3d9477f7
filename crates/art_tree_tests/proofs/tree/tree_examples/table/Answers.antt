use Rattle.std.proofs.Common.{◌≡◌, Option, Result, Ok, Err, IfOk, IfSome, sym, subst}
use Rattle.std.specs.Result.{result_ok}
use Rattle.art_tree_tests.proofs.tree.tree_examples.table.Goals as goal

some-of-ok : {T E : Type 0} {P R : T → Type 0} (r : Result T E) (o : Option T) → o ≡ result_ok r → IfOk r P → ((x : T) → P x → R x) → IfSome o R
some-of-ok {R = R} (Ok x) o is p gives = subst (λ s. IfSome s R) (sym is) (gives x p)
some-of-ok {R = R} (Err e) o is p gives = subst (λ s. IfSome s R) (sym is) tt

pub returns-clause-texts : goal.returns-clause-texts
returns-clause-texts g c =
    some-of-ok c.load.result c.ok.result c.ok.ensures.value c.load.ensures.loaded (λ root loaded.
    (loaded.0, loaded.1.is_tree, c.a_loaded_tree_has_the_texts_of_its_entries.ensures c.args.arena.now c.load.new.arena c.args.entries.items root loaded.0 loaded.1))
