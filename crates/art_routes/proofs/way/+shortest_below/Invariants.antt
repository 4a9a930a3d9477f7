use Rattle.art_routes.proofs.way.+shortest_below.Given as goal

abbrev pub decreases-shortest_below : goal.decreases-shortest_below
decreases-shortest_below g l = l.reader.now.budget
