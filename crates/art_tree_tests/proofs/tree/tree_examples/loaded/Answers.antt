use Rattle.std.proofs.Common.{◌≡◌, ◌∙◌, ℕ, List, All, Option, Result, Ok, Err, IfOk, IfSome, sym, subst}
use Rattle.std.proofs.lemmas.List.Elements.{All-contains, All-map}
use Rattle.std.specs.Result.{result_ok}
use Rattle.art_arena.specs.Arena.{NodeArena}
use Rattle.art_steps.specs.Dictionary.{HasEntry, IsEntry}
use Rattle.art_steps.specs.Refusals.{texts_of}
use Rattle.art_tree_tests.proofs.tree.tree_examples.loaded.Goals as goal

-- each text of entries has one
have-entries : {K V : Type 0} {P : ℕ} (text : K → List ℕ) (arena : NodeArena K V P) (entries : List (K × V)) → All (IsEntry text arena) entries → All (HasEntry text arena) (texts_of text entries)
have-entries text arena entries are = All-map (HasEntry text arena) (λ entry. text entry.0) entries (λ k d within none. let wrong = sym (are k d within) ∙ none in cc)

-- what two facts of an `Ok` give, where the value alone is kept
some-of-ok : {T E : Type 0} {P Q R : T → Type 0} (r : Result T E) (o : Option T) → o ≡ result_ok r → IfOk r P → IfOk r Q → ((x : T) → P x → Q x → R x) → IfSome o R
some-of-ok {R = R} (Ok x) o is p q gives = subst (λ s. IfSome s R) (sym is) (gives x p q)
some-of-ok {R = R} (Err e) o is p q gives = subst (λ s. IfSome s R) (sym is) tt

pub returns : goal.returns
returns g c = λ same.
    let text = g.K.AsBytes.text in
    let texts = texts_of text c.args.entries.items in
    some-of-ok c.load.result c.ok.result c.ok.ensures.value c.load.ensures.entries c.load.ensures.no_others (λ loaded entries no_others root other_root one other alone also_alone.
    c.the_same_entries_make_the_same_tree.ensures c.args.tree.now.arena loaded.arena root other_root one other alone also_alone (λ x. (
      λ has. All-contains (HasEntry text loaded.arena) texts x (have-entries text loaded.arena c.args.entries.items entries) ((same x).0 has),
      λ has. (same x).1 (no_others x has),
    )))
