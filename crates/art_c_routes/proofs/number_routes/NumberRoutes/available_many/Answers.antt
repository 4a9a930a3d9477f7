use Rattle.std.proofs.Common.{length, ap}
use Rattle.art_c_routes.proofs.AvailableLemmas.{available-wide}
use Rattle.art_c_routes.proofs.number_routes.NumberRoutes.available_many.Goals as goal

pub write_addresses-requires-clause-widths : goal.write_addresses-requires-clause-widths
write_addresses-requires-clause-widths c =
    available-wide c.args.self.now c.in_ok-network.network c.args.part_length c.args.after.now (length c.args.address.now) c.in_ok-free.free
    (ap (λ n. n.address.width) c.in_ok-network.ensures.some) c.in_ok-free.ensures.available
