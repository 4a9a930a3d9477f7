use Rattle.std.proofs.Common.{◌≡◌, List, ℕ, length, ap, sym, subst, ◌∙◌}
use Rattle.std.specs.Prelude.{◌↔◌}
use Rattle.std.specs.Vec.{vec_items}
use Rattle.std.proofs.Math.Logic.{∥∥₁_elim, ∥∥₁_map}
use Rattle.std.proofs.Props.{props}
use Rattle.art_mapped.specs.Mapping.{StandsForSome}
use Rattle.art_mapped.proofs.laws.bytes_of_tuples.Goals as goal

-- a list stands for some tuple exactly where it stands for the values of one in nested pairs
in_pairs_or_flat : {D P : Type 0} (is_in : P → Type 0) (stands : List ℕ → P → Type 0) (in_pairs : D → P) (flat : P → D) → ((value : P) → in_pairs (flat value) ≡ value) → (text : List ℕ)
    → StandsForSome (λ value. is_in (in_pairs value)) (λ text value. stands text (in_pairs value)) text ↔ StandsForSome is_in stands text
in_pairs_or_flat {P = P} is_in stands in_pairs flat pairs_flat text =
    let Stands : P → Type 0 = λ value. is_in value × stands text value in (
      λ some. ∥∥₁_map some (λ of. (in_pairs of.0, of.1, of.2)),
      λ some. ∥∥₁_map some (λ of.
          let both = subst Stands (sym (pairs_flat of.0)) (of.1, of.2) in
          (flat of.0, both.0, both.1)),
    )

pub returns-clause-length : goal.returns-clause-length
returns-clause-length g c = λ bytes some.
    let laws = g.met.J.Joint.laws in
    ∥∥₁_elim some (hlevel props) (λ of.
    let value = g.D.TupleValues.in_pairs of.0 in
    ap length (laws.has_text (vec_items bytes) value of.1 of.2) ∙ laws.long value of.1)

pub returns-clause-parts : goal.returns-clause-parts
returns-clause-parts g c = λ bytes keys are same.
    let joined = g.J.Joint.text_of_keys keys in
    let Stands : List ℕ → Type 0 = StandsForSome g.J.Joint.is_in_domain g.J.Joint.stands_for in
    let nested = in_pairs_or_flat g.J.Joint.is_in_domain g.J.Joint.stands_for g.D.TupleValues.in_pairs g.D.TupleValues.flat g.met.D.TupleValues.pairs_flat (vec_items bytes) in
    let values = g.met.J.Joint.key_laws.values keys are in
    (λ some. values.0 (subst Stands same (nested.0 some)), λ each. nested.1 (subst Stands (sym same) (values.1 each)))
