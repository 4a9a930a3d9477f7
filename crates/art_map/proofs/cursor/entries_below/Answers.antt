use Rattle.std.proofs.Common.{◌≡◌, ◌∙◌, ◌-◌, ◌∷◌, ◌++◌, length, take, ap, sym}
use Rattle.art_map.proofs.CursorLemmas.{below-first}
use Rattle.art_map.proofs.cursor.entries_below.Goals as goal

pub returns : goal.returns
returns g c =
    let rest = c.next.new.self in let one : g.row.K.Denot × g.row.V.Denot = (c.in-Some.first.now, c.in-Some.field-0-1.now) in
    let before = take (length c.args.map.now - length c.args.after) c.args.map.now in
    let whole : before ++ one ∷ rest ≡ c.args.map.now = ap (λ l. before ++ l) (sym c.in-Some.ensures.steps) ∙ c.requires in
    ap (λ l. l ++ c.args.after)
    (c.range.ensures.between tt ∙ below-first g.K.Ord.cmp g.met.K.Ord.total c.args.map.now c.range.ensures.ordered one before rest whole) ∙ c.requires
