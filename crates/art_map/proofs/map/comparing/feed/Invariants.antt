use Rattle.std.proofs.Common.{◌≡◌, ◌++◌, length}
use Rattle.std.specs.List.{flat_map, fold}
use Rattle.art_map.proofs.map.comparing.feed.Given as goal

-- what is left is fed as the whole
abbrev pub invariant-each : goal.invariant-each
invariant-each g l =
    let fed = flat_map (λ (p : g.row.K.Denot × g.row.V.Denot). g.K.Hash.hash_input p.0 ++ g.V.Hash.hash_input p.1) in
    fold g.H.Hasher.write l.state (fed l.entries) ≡ fold g.H.Hasher.write l.initial.state (fed l.initial.entries)

abbrev pub decreases-each : goal.decreases-each
decreases-each g l = length l.entries
