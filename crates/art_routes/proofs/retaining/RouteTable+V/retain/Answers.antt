use Rattle.std.proofs.Common.{map, rules, subst, sym}
use Rattle.std.specs.Map.Calls.{CallableOnEachPair, CalledAtPair, RetainsPairs, TakesPair}
use Rattle.art_nodes.specs.declared.pointers.OpaqueNodePtr.{OpaqueNodePtr}
use Rattle.art_tree.specs.Entries.{entries_of}
use Rattle.art_routes.specs.Keys.{key_text}
use Rattle.art_routes.specs.Networks.{Block}
use Rattle.art_routes.specs.Retaining.{StopsRetaining}
use Rattle.art_routes.specs.Shrinking.{NeedsNode}
use Rattle.art_routes.proofs.HeldLemmas.{networks-held}
use Rattle.art_routes.proofs.ResultLemmas.{on-err, on-ok}
use Rattle.art_routes.proofs.ThroughLemmas.{callable-through, retains-through, stops-through}
use Rattle.art_routes.proofs.retaining.RouteTable+V.retain.Goals as goal

pub retain_each-result-requires : goal.retain_each-result-requires
retain_each-result-requires g c = (
  search rules,
  (
    search rules,
    (
      search rules,
      (
        search rules,
        (
          search rules,
          callable-through _ g.F.FnMut (λ s. s.0.now) (λ s p q b left s' call. call.met.1) (λ s p q takes. takes) _ _
              (subst (CallableOnEachPair (CalledAtPair g.F.FnMut) (TakesPair g.F.FnMut) c.args.f) (sym c.self.view_is) c.requires),
        ),
      ),
    ),
  ),
)

pub invariant_of-self : goal.invariant_of-self
invariant_of-self g c = networks-held c.retain_each-result.new.tree.arena c.arena-arena.ensures.keys

pub returns-clause-retained : goal.returns-clause-retained
returns-clause-retained g c =
    on-ok c.retain_each-result.result _ _
    (λ turn. subst (λ old. RetainsPairs (CalledAtPair g.F.FnMut) c.args.f old (entries_of key_text c.retain_each-result.new.tree.arena)) c.self.view_is
    (retains-through _ g.F.FnMut (λ s. s.0.now) (λ s p q b left s' call. call.met.1) _ _ _ turn)) c.retain_each-result.ensures.retained

pub returns-clause-stopped : goal.returns-clause-stopped
returns-clause-stopped g c =
    let needs = λ (network : Block). NeedsNode (OpaqueNodePtr Block g.row.V.Denot 20) (map (λ route. key_text route.0) (entries_of key_text c.retain_each-result.new.tree.arena)) (key_text network) in
    on-err c.retain_each-result.result _ _
    (λ turn. subst (λ old. StopsRetaining (CalledAtPair g.F.FnMut) needs c.args.f old (entries_of key_text c.retain_each-result.new.tree.arena)) c.self.view_is
    (stops-through _ g.F.FnMut (λ s. s.0.now) (λ s p q b left s' call. call.met.1) needs _ _ _ turn)) c.retain_each-result.ensures.stopped
