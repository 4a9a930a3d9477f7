use Rattle.std.proofs.Common.{◌∙◌, sym, ap, arith}
use Rattle.std.specs.Option.{is_some}
use Rattle.art_nodes.proofs.TableLemmas.{child_at-table}
use Rattle.art_nodes.proofs.inner_nodes.representations.inner_node_direct.InnerNodeDirect.filled_words.Goals as goal

pub returns : goal.returns
returns g c =
    λ byte fits.
    rw (← c.self.view_is) (c.filled_words.ensures byte fits ∙ ap is_some (sym (child_at-table 0 c.self.inside.child_pointers byte byte (omega arith) (omega (arith, c.self.invariant.all_bytes)))))
