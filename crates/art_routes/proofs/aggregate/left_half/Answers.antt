use Rattle.std.proofs.Common.{◌≡◌, ◌∙◌, ◌<◌, ◌-◌, ap, arith, subst, sym}
use Rattle.art_routes.specs.Aggregates.{AreHalves}
use Rattle.art_routes.specs.Networks.{Block, IsNetwork, network_around}
use Rattle.art_routes.proofs.HalfLemmas.{left-half}
use Rattle.art_routes.proofs.aggregate.left_half.Goals as goal

-- the networks that are found, and those of the lemma
same-halves : (network left whole : Block) → 0 < network.length → whole ≡ network_around network.address (network.length - 1) → left ≡ network_around whole.address network.length
    → IsNetwork network → (whole.address.bits ≡ network.address.bits → ⊥) → IsNetwork left × AreHalves left network whole
same-halves network left whole some is_whole is_left is differ =
    let both = left-half network is some (λ same. differ (ap (λ (n : Block). n.address.bits) is_whole ∙ same)) in
    let left_is : left ≡ network_around (network_around network.address (network.length - 1)).address network.length = is_left ∙ ap (λ (n : Block). network_around n.address network.length) is_whole in (
      subst IsNetwork (sym left_is) both.0,
      subst (λ w. AreHalves left network w) (sym is_whole) (subst (λ l. AreHalves l network (network_around network.address (network.length - 1))) (sym left_is) both.1),
    )

pub returns-clause-half : goal.returns-clause-half
returns-clause-half c =
    let network = c.args.network.now in
    let some : 0 < network.length = omega (arith, c.parts-length.ensures.length) in
    let is_whole = c.network_at-whole.ensures ∙ (λ i. network_around (c.parts-length.ensures.address i) (c.parts-length.ensures.length i - 1)) in
    let is_left = c.network_at.ensures ∙ (λ i. network_around (c.parts.ensures.address i) (c.parts-length.ensures.length i)) in
    same-halves network c.network_at.result c.network_at-whole.result some is_whole is_left c.parts-length.ensures.network
    (λ same. c.if-first-address.false (ap (λ a. a.bits) c.parts.ensures.address ∙ same ∙ sym (ap (λ a. a.bits) c.parts-length.ensures.address)))
