use Rattle.std.proofs.Common.{refl}
use Rattle.art_routes.proofs.route_entry.RouteEntry+V.or_insert_with.Goals as goal

pub returns-in-Occupied : goal.returns-in-Occupied
returns-in-Occupied g c =
    let call = c.get_or_insert_with in
    rw c.in-Occupied.is (
      (refl, call.follows.holds, call.follows.holds-at-none),
      record {
        writes_back = tt;
        value = call.ensures.value;
        route_back = call.ensures.route_back;
        no_route = call.ensures.no_route;
      },
    )

pub returns-in-Vacant : goal.returns-in-Vacant
returns-in-Vacant g c =
    let call = c.get_or_insert_with-in-Vacant in
    rw c.in-Vacant.is (
      (refl, call.follows.holds, call.follows.holds-at-none),
      record {
        writes_back = tt;
        value = call.ensures.value;
        route_back = call.ensures.route_back;
        no_route = call.ensures.no_route;
      },
    )
