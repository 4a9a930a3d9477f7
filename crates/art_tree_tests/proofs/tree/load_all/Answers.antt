use Rattle.art_tree_tests.proofs.tree.load_all.Goals as goal

pub returns-in-Ok-clause-loaded : goal.returns-in-Ok-clause-loaded
returns-in-Ok-clause-loaded g c = let loaded = c.in-Ok.ensures.loaded in (loaded.0, loaded.1.is_tree)

pub returns-in-Ok-clause-kept : goal.returns-in-Ok-clause-kept
returns-in-Ok-clause-kept g c =
    let loaded = c.in-Ok.ensures.loaded in
    λ root found. (
      found.0,
      record {
        at_root = found.1.at_root;
        stands = c.trees_stand_where_all_is_kept.ensures c.args.arena.now c.load.new.arena found.0 loaded.1.adds.kept found.1.stands;
        sound = found.1.sound;
      },
    )
