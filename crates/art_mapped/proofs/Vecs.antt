-- Vectors and the lists of their items.
use Rattle.std.proofs.Common.{◌≡◌, ◌≤◌, ◌*◌, ℕ, List, length, Vec, ap, ◌∙◌}
use Rattle.std.proofs.Math.Logic.{∥∥₁_map}
use Rattle.std.proofs.Math.Nat.{le-mul_of_pos_right}
use Rattle.std.specs.declared.cmp.Ordering.{Ordering}
use Rattle.art_mapped.specs.Elements.{KeepsOrder}
use Rattle.art_mapped.specs.Sequences.{AreJoined, IsVec, vec_text}
use Rattle.art_mapped.specs.SequenceLaws.{length-joined}
use Rattle.std.specs.Vec.{vec_items}
use Rattle.art_mapped.specs.VecLaws.{vec_with}

module _ {E : Type 0} {is_element : E → Type 0} {text : E → List ℕ} {order : E → E → Ordering} {width : ℕ} (laws : KeepsOrder is_element text order width) where
  -- bytes are some elements' joined exactly where they are those of some vector
  pub vec_from_joined : {Z : Type 0} (bytes : Vec ℕ Z) → AreJoined is_element text (vec_items bytes) → ∥ ((v : Vec E Z) × IsVec is_element v × (vec_items bytes ≡ vec_text text v)) ∥₁
  vec_from_joined bytes are =
      ∥∥₁_map are (λ of.
      let size : length (vec_items bytes) ≡ length of.0 * width = ap length of.2 ∙ length-joined laws of.0 of.1 in
      let fits : length of.0 ≤ length (vec_items bytes) = rw size (le-mul_of_pos_right (length of.0) laws.some) in
      let v = vec_with bytes of.0 fits in
      (v.0, rw v.1 of.1, rw v.1 of.2))

  pub joined_from_vec : {Z : Type 0} (bytes : List ℕ) → ∥ ((v : Vec E Z) × IsVec is_element v × (bytes ≡ vec_text text v)) ∥₁ → AreJoined is_element text bytes
  joined_from_vec bytes are = ∥∥₁_map are (λ of. (vec_items of.0, of.1, of.2))
