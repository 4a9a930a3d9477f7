use Rattle.std.proofs.Common.{◌≡◌, ◌⊎◌, inl, inr, ◌^◌, ◌<◌, ℕ, sym, subst}
use Rattle.art_routes.specs.declared.address.Address.{Address}
use Rattle.std.proofs.lemmas.Bool.{eq-eqb, ne_eqb}
use Rattle.art_routes.proofs.ByteLemmas.{number_of_ipv4, number_of_ipv6}
use Rattle.art_routes.proofs.TextLemmas.{ipv4_shown, ipv4_spelled, ipv6_shown, ipv6_spelled}
use Rattle.art_routes.proofs.address.ip_of.Goals as goal

same_address : (a b : Address) → a.width ≡ b.width → a.bits ≡ b.bits → a ≡ b
same_address a b widths bits i = record { width = widths i; bits = bits i }

other_width : (w : ℕ) → (w ≡ 32) ⊎ (w ≡ 128) → (w ≡ 32 → ⊥) → w ≡ 128
other_width w (inl four) differ = absurd (differ four)
other_width w (inr six) differ = six

pub returns-then-address-eq32-clause-number : goal.returns-then-address-eq32-clause-number
returns-then-address-eq32-clause-number c =
    let fits : c.args.address.bits < 2 ^ 32 = subst (λ w. c.args.address.bits < 2 ^ w) c.if-address-eq32.true c.requires.fits in
    same_address _ c.args.address (sym c.if-address-eq32.true) (number_of_ipv4 c.from_bits.result c.args.address.bits fits c.from_bits.ensures)

pub returns-then-address-eq32-clause-text : goal.returns-then-address-eq32-clause-text
returns-then-address-eq32-clause-text c = rw (eq-eqb c.args.address.width 32 c.if-address-eq32.true) (ipv4_shown c.from_bits.result c.args.address.bits c.from_bits.ensures)

pub returns-then-address-eq32-clause-spelled : goal.returns-then-address-eq32-clause-spelled
returns-then-address-eq32-clause-spelled c = rw (eq-eqb c.args.address.width 32 c.if-address-eq32.true) (ipv4_spelled c.from_bits.result c.args.address.bits c.from_bits.ensures)

pub returns-else-address-eq32-clause-number : goal.returns-else-address-eq32-clause-number
returns-else-address-eq32-clause-number c =
    let six = other_width c.args.address.width c.requires.family c.if-address-eq32.false in
    let fits : c.args.address.bits < 2 ^ 128 = subst (λ w. c.args.address.bits < 2 ^ w) six c.requires.fits in
    same_address _ c.args.address (sym six) (number_of_ipv6 c.from_bits-else-address-eq32.result c.args.address.bits fits c.from_bits-else-address-eq32.ensures)

pub returns-else-address-eq32-clause-text : goal.returns-else-address-eq32-clause-text
returns-else-address-eq32-clause-text c = rw (ne_eqb c.args.address.width 32 c.if-address-eq32.false) (ipv6_shown c.from_bits-else-address-eq32.result c.args.address.bits c.from_bits-else-address-eq32.ensures)

pub returns-else-address-eq32-clause-spelled : goal.returns-else-address-eq32-clause-spelled
returns-else-address-eq32-clause-spelled c = rw (ne_eqb c.args.address.width 32 c.if-address-eq32.false) (ipv6_spelled c.from_bits-else-address-eq32.result c.args.address.bits c.from_bits-else-address-eq32.ensures)
