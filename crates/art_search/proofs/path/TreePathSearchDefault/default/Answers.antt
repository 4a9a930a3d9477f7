use Rattle.art_search.proofs.path.TreePathSearchDefault.default.Goals as goal

pub returns : goal.returns
returns g c = search
