use Rattle.std.proofs.Common.{◌≡◌, ◌∙◌, length, arith}
use Rattle.std.proofs.lemmas.Bool.Decides.{nat_tests}
use Rattle.art_mapped.proofs.Parts.{size_of_array, joined_from_array, array_from_joined}
use Rattle.art_mapped.proofs.array.SeveralBytesMappingArray.is_value.Goals as goal

pub returns-then-len-WIDTH : goal.returns-then-len-WIDTH
returns-then-len-WIDTH g c =
    let laws = g.met.E.Element.keeps in
    let items = c.args.bytes.now.items in
    let len : c.len.result ≡ length items = c.len.ensures ∙ c.args.bytes.now.ok.0 in
    let size = rw (len, c.WIDTH.ensures) at c.if-len-WIDTH.true in (
      λ holds. array_from_joined laws g.row.N items size (rw c.deref.ensures.value at (c.are_elements.ensures.0 holds)),
      λ are. c.are_elements.ensures.1 (rw c.deref.ensures.value (joined_from_array laws g.row.N items are)),
    )

pub returns-else-len-WIDTH : goal.returns-else-len-WIDTH
returns-else-len-WIDTH g c =
    let items = c.args.bytes.now.items in
    let len : c.len.result ≡ length items = c.len.ensures ∙ c.args.bytes.now.ok.0 in
    (λ holds. absurd (grind (arith, nat_tests)), λ are. absurd (c.if-len-WIDTH.false (rw (len, c.WIDTH.ensures) (size_of_array g.met.E.Element.keeps g.row.N items are))))
