use Rattle.std.proofs.Common.{◌≡◌, ◌∙◌, false, true, ap, is_ok, refl, subst, sym}
use Rattle.std.specs.Option.{UnwrapsOrElse, option_map}
use Rattle.art_tree.proofs.EntryLaws.{list-same}
use Rattle.art_tree.specs.Entries.{entries_of}
use Rattle.art_routes.specs.Keys.{key_text}
use Rattle.art_routes.specs.Tables.{AreInOrder}
use Rattle.art_routes.proofs.EnteredLemmas.{err-there, set-at, set-networks}
use Rattle.art_routes.proofs.HeldLemmas.{order-held, refused-absent, value-held}
use Rattle.art_routes.proofs.LentLemmas.{entries-set}
use Rattle.art_routes.proofs.RouteLemmas.{AreNetworks}
use Rattle.art_routes.proofs.route_entry.RouteTable+V.get_or_insert_with.Goals as goal

pub invariant_of-self-lent : goal.invariant_of-self-lent
invariant_of-self-lent g c = λ w.
    let arena = c.self.inside.tree.arena in
    let key = c.key_of.result in
    let has = c.get_or_insert_with.follows.holds w (ap is_ok c.in-Ok.is) in
    let set = entries-set key_text arena (c.get_or_insert_with.follows.lender w).arena key w has.entry has.others in
    subst (λ es. AreNetworks es) (sym set) (set-networks (entries_of key_text arena) c.args.self.now c.self.view_is c.self.invariant key c.args.network c.key_of.ensures.network c.key_of.ensures.key w)

pub invariant_of-self : goal.invariant_of-self
invariant_of-self g c =
    let same = err-there c.get_or_insert_with.result c.in-Err.fault _ c.in-Err.is c.get_or_insert_with.follows.holds-at-none in
    subst (λ es. AreNetworks es) (sym (list-same key_text c.self.inside.tree.arena c.get_or_insert_with.follows.lender-at-none.arena same.entries)) c.self.invariant

pub returns-in-Ok : goal.returns-in-Ok
returns-in-Ok g c =
    let arena = c.self.inside.tree.arena in
    let routes = c.args.self.now in
    let key = c.key_of.result in
    let network = c.args.network in
    let written = c.key_of.ensures in
    let ordered = subst (λ rs. AreInOrder rs) c.self.view_is (order-held arena c.self.invariant) in
    let networks = subst (λ rs. AreNetworks rs) c.self.view_is c.self.invariant in (
      (
        refl,
        λ w ok.
            let has = c.get_or_insert_with.follows.holds w (ap is_ok c.in-Ok.is) in
            entries-set key_text arena (c.get_or_insert_with.follows.lender w).arena key w has.entry has.others
            ∙ set-at (entries_of key_text arena) routes c.self.view_is c.self.invariant key network written.network written.key ordered networks w,
        tt,
      ),
      record {
        writes_back = tt;
        value = subst (λ o. UnwrapsOrElse o (g.F.FnOnce.post c.args.make tt) c.in-Ok.value.now) (value-held arena routes c.self.view_is c.self.invariant network written.network (key_text key) (ap key_text written.key)) c.in-Ok.ensures.value;
        route_back = tt;
        no_route = tt;
      },
    )

pub returns-in-Err : goal.returns-in-Err
returns-in-Err g c =
    let arena = c.self.inside.tree.arena in
    let routes = c.args.self.now in
    let key = c.key_of.result in
    let network = c.args.network in
    let written = c.key_of.ensures in
    let keys = c.arena-arena.ensures.keys in
    let absent = refused-absent arena keys key c.get_or_insert_with.ensures.is_key c.in-Err.fault.refusal c.in-Err.ensures.refusal_due in
    let same = err-there c.get_or_insert_with.result c.in-Err.fault _ c.in-Err.is c.get_or_insert_with.follows.holds-at-none in (
      (
        refl,
        λ w ok. let wrong : false ≡ true = ok in absurd (cc),
        list-same key_text arena c.get_or_insert_with.follows.lender-at-none.arena same.entries ∙ c.self.view_is,
      ),
      record {
        writes_back = tt;
        value = tt;
        route_back = (refl, c.in-Err.ensures.entry_back.1);
        no_route = sym (value-held arena routes c.self.view_is c.self.invariant network written.network (key_text key) (ap key_text written.key)) ∙ ap (option_map (λ entry. entry.1)) absent;
      },
    )
