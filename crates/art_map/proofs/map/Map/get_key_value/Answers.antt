use Rattle.std.proofs.Common.{subst}
use Rattle.art_pages.specs.Entries.{IsPlaceOf}
use Rattle.art_map.specs.Pages.{IsPageOf}
use Rattle.art_map.proofs.SeatLemmas.{value-found, key-found, value-missing, key-missing}
use Rattle.art_map.proofs.map.Map.get_key_value.Goals as goal

pub returns-in-Ok-clause-key : goal.returns-in-Ok-clause-key
returns-in-Ok-clause-key g c =
    let compare = g.Q.RadixQuery.compare c.args.key in
    let page = c.seat_in-found.result.0.now.entries in
    key-found compare page c.args.self.now (subst (IsPageOf compare page) c.self.view_is c.seat_in-found.ensures.page)
    c.in-Ok.place (c.entry_at.result.0.now, c.entry_at.result.1.now) (subst (IsPlaceOf compare page) c.in-Ok.is c.seat_in-found.ensures.place) c.entry_at.ensures

pub returns-in-Ok-clause-value : goal.returns-in-Ok-clause-value
returns-in-Ok-clause-value g c =
    let compare = g.Q.RadixQuery.compare c.args.key in
    let page = c.seat_in-found.result.0.now.entries in
    value-found compare page c.args.self.now (subst (IsPageOf compare page) c.self.view_is c.seat_in-found.ensures.page)
    c.in-Ok.place (c.entry_at.result.0.now, c.entry_at.result.1.now) (subst (IsPlaceOf compare page) c.in-Ok.is c.seat_in-found.ensures.place) c.entry_at.ensures

pub returns-in-Err-clause-key : goal.returns-in-Err-clause-key
returns-in-Err-clause-key g c =
    let compare = g.Q.RadixQuery.compare c.args.key in
    let page = c.seat_in-found.result.0.now.entries in
    key-missing compare page c.args.self.now (subst (IsPageOf compare page) c.self.view_is c.seat_in-found.ensures.page) c.in-Err.field-0 (subst (IsPlaceOf compare page) c.in-Err.is c.seat_in-found.ensures.place)

pub returns-in-Err-clause-value : goal.returns-in-Err-clause-value
returns-in-Err-clause-value g c =
    let compare = g.Q.RadixQuery.compare c.args.key in
    let page = c.seat_in-found.result.0.now.entries in
    value-missing compare page c.args.self.now (subst (IsPageOf compare page) c.self.view_is c.seat_in-found.ensures.page) c.in-Err.field-0 (subst (IsPlaceOf compare page) c.in-Err.is c.seat_in-found.ensures.place)
