use Rattle.std.proofs.Common.{length, arith}
use Rattle.art_steps.proofs.SharedLemmas.NodeKinds.{kind-4, kind-16, kind-48, kind-256}
use Rattle.art_links.proofs.PlacedNodes.{placed-kind}
use Rattle.art_steps.proofs.raising.allocate_node.Goals as goal

pub returns-in-0-to-4 : goal.returns-in-0-to-4
returns-in-0-to-4 g c = placed-kind _ _ (kind-4 (length c.args.children.now) (omega arith)) c.allocate_node_as.ensures

pub returns-in-5-to-16 : goal.returns-in-5-to-16
returns-in-5-to-16 g c = placed-kind _ _ (kind-16 (length c.args.children.now) (omega arith) (omega arith)) c.allocate_node_as-in-5-to-16.ensures

pub returns-in-17-to-48 : goal.returns-in-17-to-48
returns-in-17-to-48 g c = placed-kind _ _ (kind-48 (length c.args.children.now) (omega arith) (omega arith)) c.allocate_node_as-in-17-to-48.ensures

pub returns-in_default : goal.returns-in_default
returns-in_default g c = placed-kind _ _ (kind-256 (length c.args.children.now) (omega arith)) c.allocate_node_as-in_default.ensures
