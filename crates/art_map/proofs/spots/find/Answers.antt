use Rattle.std.proofs.Common.{◌≡◌}
use Rattle.std.proofs.lemmas.List.Elements.{All-nil}
use Rattle.std.specs.declared.cmp.Ordering.TheVariants.{Less, Greater}
use Rattle.art_bytes.specs.Text.{text_order}
use Rattle.art_map.proofs.spots.find.Goals as goal

pub returns-in-None : goal.returns-in-None
returns-in-None g c =
    let compare = g.Q.RadixQuery.compare c.args.query in let x = g.Q.RadixQuery.encoded c.args.query in
    rw c.in-None.is (record {
      at = c.search.ensures;
      behind = All-nil (λ entry. compare entry.0 ≡ Less);
      above = All-nil (λ page. text_order page.0 x ≡ Greater);
    })
