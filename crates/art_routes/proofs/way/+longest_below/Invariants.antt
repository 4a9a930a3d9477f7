use Rattle.art_routes.proofs.way.+longest_below.Given as goal

abbrev pub decreases-longest_below : goal.decreases-longest_below
decreases-longest_below g l = l.reader.now.budget
