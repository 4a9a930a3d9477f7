use Rattle.std.proofs.Common.{sym, ap, ◌∙◌, subst}
use Rattle.std.specs.Ordering.{ordering_reverse}
use Rattle.std.specs.declared.cmp.Ordering.{Ordering}
use Rattle.std.proofs.lemmas.Cmp.{nat_list_cmp_total}
use Rattle.art_keys.specs.Encoding.{Agrees}
use Rattle.art_keys.specs.HeadLaws.{text_by_head}
use Rattle.art_keys.proofs.laws.heads_of_queries_sort.Goals as goal

pub returns-clause-less : goal.returns-clause-less
returns-clause-less g c = λ q x skip q_is x_is short same less.
    let a = g.Q.RadixQuery.encoded q in
    let b = g.K.KeyBytes.encoded x in
    let Is : Ordering → Type 0 = λ o. Agrees o (g.Q.RadixQuery.compare q x) in
    subst Is (text_by_head skip a b (g.met.Q.RadixQuery.are_bytes q q_is) (g.met.K.RadixKey.are_bytes x x_is) same less) (g.met.Q.RadixQuery.agrees q x q_is x_is short)

pub returns-clause-greater : goal.returns-clause-greater
returns-clause-greater g c = λ q x skip q_is x_is short same less.
    let a = g.Q.RadixQuery.encoded q in
    let b = g.K.KeyBytes.encoded x in
    let Is : Ordering → Type 0 = λ o. Agrees o (g.Q.RadixQuery.compare q x) in
    let turned = text_by_head skip b a (g.met.K.RadixKey.are_bytes x x_is) (g.met.Q.RadixQuery.are_bytes q q_is) (sym same) less in
    subst Is (nat_list_cmp_total.antisymm a b ∙ ap ordering_reverse turned) (g.met.Q.RadixQuery.agrees q x q_is x_is short)
