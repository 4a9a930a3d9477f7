use Rattle.art_steps.proofs.Names.{◌∙◌, length, lit<, rules, arith, sym, ap, subst, option_copied, StandsFor, header_of, node_with_prefix_of, slab_key, held, HeldInner, Changes, leaf_at, one-inner}
use Rattle.art_steps.proofs.SharedLemmas.ParentLemmas.{inner-kind}
use Rattle.art_steps.proofs.InsertLemmas.NodeLemmas.{header-held}
use Rattle.art_links.proofs.HeldNodes.{text-of-key}
use Rattle.art_steps.proofs.added_child.trim.Goals as goal

pub ltrim_by_with_leaf-requires : goal.ltrim_by_with_leaf-requires
ltrim_by_with_leaf-requires g c =
    let arena = c.args.arena.now in
    let there = header-held (held arena c.args.pointer) c.in-Some.header.now (sym (ap option_copied c.in-Some.is) ∙ c.header.ensures.header) in
    let copy = rw c.unwrap-header.ensures at c.clone.ensures.cases in
    let len = ap (λ h. h.prefix_len) (copy ∙ there.2) in
    let text = ap length (text-of-key g.K.AsBytes.text (leaf_at arena (slab_key c.args.leaf)) c.as_key_ref.result.now c.as_key_ref.ensures) in
    let bytes = ap length c.as_bytes.ensures.text in
    let within = c.requires.within there.0 there.1 in
    let long = c.requires.text there.0 there.1 in
    (search rules, (omega (arith, len, within), omega (arith, len, within, long, text, bytes)))

pub set_prefix-requires : goal.set_prefix-requires
set_prefix-requires g c = (
  search,
  (
    search,
    (
      search,
      (
        search,
        (
          search,
          (
            lit< tt,
            (
              search rules,
              (
                c.requires.held,
                let there = header-held (held c.args.arena.now c.args.pointer) c.in-Some.header.now (sym (ap option_copied c.in-Some.is) ∙ c.header.ensures.header) in
                    inner-kind c.args.arena.now c.args.pointer there.0 there.1,
              ),
            ),
          ),
        ),
      ),
    ),
  ),
)

pub returns-clause-trimmed : goal.returns-clause-trimmed
returns-clause-trimmed g c = λ node path prefix rest is deep text stands.
    let arena = c.args.arena.now in
    let there = header-held (held arena c.args.pointer) c.in-Some.header.now (sym (ap option_copied c.in-Some.is) ∙ c.header.ensures.header) in
    let copy = rw c.unwrap-header.ensures at c.clone.ensures.cases in
    let same = one-inner (held arena c.args.pointer) there.0 node there.1 is in
    let header = copy ∙ there.2 ∙ ap header_of same in
    let bytes = c.as_bytes.ensures.text ∙ sym (text-of-key g.K.AsBytes.text (leaf_at arena (slab_key c.args.leaf)) c.as_key_ref.result.now c.as_key_ref.ensures) ∙ text in
    let now = c.ltrim_by_with_leaf.ensures.stands path prefix rest deep bytes (subst (λ h. StandsFor g.row.PREFIX_LEN h prefix) (sym header) stands) in
    subst (λ n. Changes arena c.set_prefix.new.self c.args.pointer (HeldInner n)) (ap (node_with_prefix_of node) now) (c.set_prefix.ensures.prefix node is)

pub returns-clause-leaf : goal.returns-clause-leaf
returns-clause-leaf g c = λ leaf.
    let arena = c.args.arena.now in
    let there = header-held (held arena c.args.pointer) c.in-Some.header.now (sym (ap option_copied c.in-Some.is) ∙ c.header.ensures.header) in
    absurd (inner-kind arena c.args.pointer there.0 there.1 leaf)
