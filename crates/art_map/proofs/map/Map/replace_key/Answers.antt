use Rattle.std.proofs.Common.{◌∙◌, length, ap, sym, arith}
use Rattle.std.specs.BTreeMap.{is_at}
use Rattle.std.specs.Map.{set_key}
use Rattle.art_pages.proofs.OrderLemmas.{ordered-same}
use Rattle.art_map.proofs.EntryLemmas.{too-long-absent}
use Rattle.art_map.proofs.PutLemmas.{by-result, ok-then}
use Rattle.art_map.proofs.SwapLemmas.{length-set_key, no-key, swapped-is}
use Rattle.art_map.proofs.map.Map.replace_key.Goals as goal

pub returns-then-encoded_len-ge-TOO_LONG-clause-absent : goal.returns-then-encoded_len-ge-TOO_LONG-clause-absent
returns-then-encoded_len-ge-TOO_LONG-clause-absent g c =
    no-key (is_at (g.K.Ord.cmp c.args.key)) c.args.self.now
    (too-long-absent g.K.Ord.cmp g.K.KeyBytes.is_key g.K.KeyBytes.encoded c.args.key g.met.K.RadixKey.sorted c.encoded_len.ensures.key (omega arith) c.args.self.now c.show_keys.ensures.keys)

pub returns-clause-entries : goal.returns-clause-entries
returns-clause-entries g c =
    let cmp = g.K.Ord.cmp in
    let ordered = ordered-same g.K.KeyBytes.order cmp _ g.met.K.RadixKey.ordered c.self.invariant.0.ordered in
    ok-then c.swap.result c.swap.ensures.entries
    (λ swapped. swapped.2 ∙ swapped-is cmp g.met.K.Ord.total c.args.key swapped.0 _ ordered swapped.1 ∙ ap (λ l. set_key (is_at (cmp c.args.key)) l c.args.key) c.self.view_is)

pub invariant_of-self : goal.invariant_of-self
invariant_of-self g c =
    let cmp = g.K.Ord.cmp in
    let ordered = ordered-same g.K.KeyBytes.order cmp _ g.met.K.RadixKey.ordered c.self.invariant.0.ordered in (
      c.swap.ensures.map,
      c.self.invariant.1 ∙ by-result _ c.swap.result c.swap.ensures.entries c.swap.ensures.same
          (λ swapped. sym (length-set_key (is_at (cmp c.args.key)) c.args.key _) ∙ ap length (sym (swapped.2 ∙ swapped-is cmp g.met.K.Ord.total c.args.key swapped.0 _ ordered swapped.1)))
          (λ so. ap length (sym so)),
    )
