use Rattle.std.proofs.Common.{◌∙◌, OnSome, ap, refl, subst, sym}
use Rattle.std.specs.Option.{option_copied_mut}
use Rattle.art_tree.specs.Entries.{entries_of}
use Rattle.art_tree.specs.TreeLending.{HasValueNow}
use Rattle.art_routes.specs.Keys.{key_text}
use Rattle.art_routes.proofs.HeldLemmas.{now-held, value-held, with-held}
use Rattle.art_routes.proofs.RouteLemmas.{AreNetworks, with-networks}
use Rattle.art_routes.proofs.table.RouteTable+V.get_mut.Goals as goal

pub invariant_of-self-lent : goal.invariant_of-self-lent
invariant_of-self-lent g c = λ w.
    let arena = c.self.inside.tree.arena in
    let written = c.as_bytes.ensures.text ∙ ap key_text c.key_of-key.ensures.key in
    let has : HasValueNow key_text c.self.inside.tree (c.get_mut.follows.lender w) c.as_bytes.result.now w = subst (λ found. OnSome found (HasValueNow key_text c.self.inside.tree (c.get_mut.follows.lender w) c.as_bytes.result.now w)) c.in-Some.is (c.get_mut.follows.holds w) in
    let now = now-held arena c.args.self.now c.self.view_is c.self.invariant c.args.network.now c.key_of-key.ensures.network c.as_bytes.result.now written (c.get_mut.follows.lender w).arena has.others w has.entry in
    subst (λ es. AreNetworks es) (sym now) (with-networks (entries_of key_text arena) c.as_bytes.result.now w c.self.invariant)

pub invariant_of-self : goal.invariant_of-self
invariant_of-self g c = subst (λ tree. AreNetworks (entries_of key_text tree.arena)) (sym c.get_mut.follows.holds-at-none) c.self.invariant

pub returns-in-Some : goal.returns-in-Some
returns-in-Some g c =
    let arena = c.self.inside.tree.arena in
    let routes = c.args.self.now in
    let network = c.args.network.now in
    let bytes = c.as_bytes.result.now in
    let written = c.as_bytes.ensures.text ∙ ap key_text c.key_of-key.ensures.key in (
      (
        refl,
        λ w.
            let has : HasValueNow key_text c.self.inside.tree (c.get_mut.follows.lender w) bytes w = subst (λ found. OnSome found (HasValueNow key_text c.self.inside.tree (c.get_mut.follows.lender w) bytes w)) c.in-Some.is (c.get_mut.follows.holds w) in
            with-held arena routes c.self.view_is c.self.invariant network c.key_of-key.ensures.network bytes written (c.get_mut.follows.lender w).arena has.others w has.entry,
        refl,
      ),
      record {
        writes_back = tt;
        value = ap option_copied_mut (sym c.in-Some.is) ∙ c.get_mut.ensures.value ∙ value-held arena routes c.self.view_is c.self.invariant network c.key_of-key.ensures.network bytes written;
      },
    )

pub returns-in-None : goal.returns-in-None
returns-in-None g c =
    let arena = c.self.inside.tree.arena in
    let routes = c.args.self.now in
    let network = c.args.network.now in
    let bytes = c.as_bytes.result.now in
    let written = c.as_bytes.ensures.text ∙ ap key_text c.key_of-key.ensures.key in (
      (refl, λ w. tt, ap (λ tree. entries_of key_text tree.arena) c.get_mut.follows.holds-at-none ∙ c.self.view_is),
      record {
        writes_back = tt;
        value = ap option_copied_mut (sym c.in-None.is) ∙ c.get_mut.ensures.value ∙ value-held arena routes c.self.view_is c.self.invariant network c.key_of-key.ensures.network bytes written;
      },
    )
