use Rattle.std.proofs.Common.{◌≡◌, ◌∙◌, [], ◌∷◌, ◌++◌, length, drop, ap, sym}
use Rattle.art_map.proofs.CursorLemmas.{above-last}
use Rattle.art_map.proofs.cursor.entries_above.Goals as goal

pub returns : goal.returns
returns g c =
    let rest = c.next_back.new.self in let one : g.row.K.Denot × g.row.V.Denot = (c.in-Some.last.now, c.in-Some.field-0-1.now) in
    let after = drop (length c.args.before) c.args.map.now in
    let whole : (rest ++ one ∷ []) ++ after ≡ c.args.map.now = ap (λ l. l ++ after) (sym c.in-Some.ensures.steps) ∙ c.requires in
    ap (λ l. c.args.before ++ l)
    (c.range.ensures.between tt ∙ above-last g.K.Ord.cmp g.met.K.Ord.total c.args.map.now c.range.ensures.ordered one rest after whole) ∙ c.requires
