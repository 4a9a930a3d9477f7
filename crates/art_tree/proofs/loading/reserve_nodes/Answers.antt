use Rattle.art_tree.proofs.Names.{◌∙◌, lit<, arith, on_ok_weaker, Node4, Node16, Node48, LeafKind, room, needed}
use Rattle.art_steps.proofs.InsertLemmas.NodeLemmas.{kinds-apart}
use Rattle.art_steps.proofs.LoadLemmas.PlacedTrees.{each-kind}
use Rattle.art_tree.proofs.loading.reserve_nodes.Goals as goal

pub returns-in_err-reserve-clause-leaf_room : goal.returns-in_err-reserve-clause-leaf_room
returns-in_err-reserve-clause-leaf_room g c = c.reserve.ensures.other_room LeafKind (kinds-apart (lit< tt))

pub returns-in_err-reserve-2-clause-leaf_room : goal.returns-in_err-reserve-2-clause-leaf_room
returns-in_err-reserve-2-clause-leaf_room g c = c.reserve-2.ensures.other_room LeafKind (kinds-apart (lit< tt)) ∙ c.reserve.ensures.other_room LeafKind (kinds-apart (lit< tt))

pub returns-in_err-reserve-3-clause-leaf_room : goal.returns-in_err-reserve-3-clause-leaf_room
returns-in_err-reserve-3-clause-leaf_room g c = c.reserve-3.ensures.other_room LeafKind (kinds-apart (lit< tt)) ∙ c.reserve-2.ensures.other_room LeafKind (kinds-apart (lit< tt)) ∙ c.reserve.ensures.other_room LeafKind (kinds-apart (lit< tt))

pub returns-clause-leaf_room : goal.returns-clause-leaf_room
returns-clause-leaf_room g c = c.reserve-4.ensures.other_room LeafKind (kinds-apart (lit< tt)) ∙ c.reserve-3.ensures.other_room LeafKind (kinds-apart (lit< tt)) ∙ c.reserve-2.ensures.other_room LeafKind (kinds-apart (lit< tt)) ∙ c.reserve.ensures.other_room LeafKind (kinds-apart (lit< tt))

pub returns-in_err-reserve-2-clause-nodes_kept : goal.returns-in_err-reserve-2-clause-nodes_kept
returns-in_err-reserve-2-clause-nodes_kept g c = λ pointer. c.reserve-2.ensures.nodes_kept pointer ∙ c.reserve.ensures.nodes_kept pointer

pub returns-in_err-reserve-3-clause-nodes_kept : goal.returns-in_err-reserve-3-clause-nodes_kept
returns-in_err-reserve-3-clause-nodes_kept g c = λ pointer. c.reserve-3.ensures.nodes_kept pointer ∙ c.reserve-2.ensures.nodes_kept pointer ∙ c.reserve.ensures.nodes_kept pointer

pub returns-clause-nodes_kept : goal.returns-clause-nodes_kept
returns-clause-nodes_kept g c = λ pointer. c.reserve-4.ensures.nodes_kept pointer ∙ c.reserve-3.ensures.nodes_kept pointer ∙ c.reserve-2.ensures.nodes_kept pointer ∙ c.reserve.ensures.nodes_kept pointer

pub returns-clause-room : goal.returns-clause-room
returns-clause-room g c = on_ok_weaker c.reserve-4.result (λ last. each-kind (λ kind. needed kind c.args.steps.now) (room c.reserve-4.new.self)
    (omega (arith, c.in_ok-reserve.ensures.room, c.count_nodes.ensures, c.reserve-2.ensures.other_room Node4 (kinds-apart (lit< tt)), c.reserve-3.ensures.other_room Node4 (kinds-apart (lit< tt)), c.reserve-4.ensures.other_room Node4 (kinds-apart (lit< tt))))
    (omega (arith, c.in_ok-reserve-2.ensures.room, c.count_nodes-2.ensures, c.reserve-3.ensures.other_room Node16 (kinds-apart (lit< tt)), c.reserve-4.ensures.other_room Node16 (kinds-apart (lit< tt))))
    (omega (arith, c.in_ok-reserve-3.ensures.room, c.count_nodes-3.ensures, c.reserve-4.ensures.other_room Node48 (kinds-apart (lit< tt))))
    (omega (arith, last, c.count_nodes-4.ensures))) c.reserve-4.ensures.room
