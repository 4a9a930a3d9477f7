-- Keys are equal where their order ties, and their order is that of the texts.
use Rattle.std.proofs.Common.{◌≡◌, ℕ, List, Bool, sym, ap, ◌∙◌}
use Rattle.std.specs.Prelude.{nat_eq}
use Rattle.std.specs.declared.cmp.Ordering.{Ordering}
use Rattle.std.specs.Ordering.{is_eq}
use Rattle.std.specs.Cmp.Lexicographic.{pointwise, texts_ties}
use Rattle.art_bytes.specs.Text.{text_order}
use Rattle.art_node_tests.proofs.bytes.have_one_text.Goals as goal

-- texts are tested equal as keys are whose order is theirs
equal_as_ordered : (a b : List ℕ) (order : Ordering) (tested equal : Bool) → tested ≡ pointwise nat_eq a b → order ≡ text_order a b → equal ≡ is_eq order → tested ≡ equal
equal_as_ordered a b order tested equal test ordered ties = test ∙ texts_ties a b ∙ ap is_eq (sym ordered) ∙ sym ties

pub returns : goal.returns
returns g c =
    equal_as_ordered (g.K.AsBytes.text c.args.a.now) (g.K.AsBytes.text c.args.b.now) (g.K.Ord.cmp c.args.a.now c.args.b.now) c.eq.result (g.K.PartialEq.eq c.args.a.now c.args.b.now)
    (rw (← c.as_bytes.ensures.text, ← c.as_bytes-2.ensures.text) c.eq.ensures)
    (g.met.K.OrderedBytes.ordered c.args.a.now c.args.b.now c.as_bytes.ensures.key c.as_bytes-2.ensures.key)
    (g.met.K.Ord.matches_eq c.args.a.now c.args.b.now)
