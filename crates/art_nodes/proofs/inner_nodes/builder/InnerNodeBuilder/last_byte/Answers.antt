use Rattle.std.proofs.Common.{◌<◌, All, sym, ap, subst}
use Rattle.std.specs.Prelude.{option_map}
use Rattle.art_nodes.specs.ChildMap.{key_bytes}
use Rattle.art_nodes.proofs.ChildMapLaws.{all_below_greater}
use Rattle.art_nodes.proofs.inner_nodes.builder.InnerNodeBuilder.last_byte.Goals as goal

pub returns-clause-above : goal.returns-clause-above
returns-clause-above g c = λ byte less.
    let below = all_below_greater (g.N.InnerNodeRead.inner c.self.inside.node).children c.max-byte.result byte c.max-byte.ensures.sound.ascending c.max-byte.ensures.pair less in
    subst (λ node. All (λ other. other < byte) (key_bytes (g.N.InnerNodeRead.inner node).children)) c.self.view_is below

pub returns-clause-last : goal.returns-clause-last
returns-clause-last g c = rw (← c.self.view_is) (sym (ap (option_map (λ pair. pair.0)) c.max-byte.ensures.pair))
