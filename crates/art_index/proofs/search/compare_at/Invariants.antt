use Rattle.std.proofs.Common.{◌≡◌, ◌+◌, ◌++◌, take}
use Rattle.art_bytes.specs.Text.{IsPrefixOf}
use Rattle.art_index.specs.Descent.{OnWay}
use Rattle.art_index.proofs.search.compare_at.Given as goal

-- the query has the bytes up to this one
abbrev pub invariant-loop-byte : goal.invariant-loop-byte
invariant-loop-byte g l =
    let x = g.Q.RadixQuery.encoded l.query in
    record {
      at : l.index ≡ l.depth + l.byte-index;
      shared : OnWay x l.depth (λ path. IsPrefixOf (path ++ take l.byte-index l.bytes) x);
    }
