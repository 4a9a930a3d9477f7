use Rattle.art_tree.proofs.Names.{◌≢◌, ◌∙◌, ◌≤◌, subst, NodeType, room, needed, LeafKind}
use Rattle.art_tree.proofs.loading.prepare.Goals as goal

pub returns-clause-room : goal.returns-clause-room
returns-clause-room g c = subst (λ steps. (kind : NodeType) → kind ≢ LeafKind → needed kind steps ≤ room c.reserve_nodes.new.arena kind) c.deref.ensures.value c.in_ok-reserve_nodes.ensures.room

pub returns-clause-nodes_kept : goal.returns-clause-nodes_kept
returns-clause-nodes_kept g c = λ pointer. c.reserve_nodes.ensures.nodes_kept pointer ∙ c.reserve.ensures.nodes_kept pointer
