use Rattle.art_steps.proofs.Names.{◌∙◌, ◌∷◌, [], lit<, rules, arith, sym, ap, subst, option_copied, with_more, header_of, node_with_prefix_of, held, HeldInner, Changes, one-inner}
use Rattle.art_steps.proofs.RemoveLemmas.ShrunkNode.{joined-stands}
use Rattle.art_steps.proofs.SharedLemmas.ParentLemmas.{inner-kind}
use Rattle.art_steps.proofs.InsertLemmas.NodeLemmas.{header-held}
use Rattle.art_steps.proofs.removed_child.join_prefix.Goals as goal

pub push_prefix-requires : goal.push_prefix-requires
push_prefix-requires g c =
    let arena = c.args.arena.now in
    let upper = header-held (held arena c.args.pointer) c.unwrap.result.now (sym (ap option_copied c.unwrap.ensures) ∙ c.header-2.ensures.header) in
    let lower = header-held (held arena c.args.child) c.in-Some.lower.now (sym (ap option_copied c.in-Some.is) ∙ c.header.ensures.header) in
    let copy = rw c.unwrap-joined.ensures at c.clone.ensures.cases in
    let len = ap (λ h. h.prefix_len) (copy ∙ upper.2) in
    let short = c.requires.short upper.0 lower.0 upper.1 lower.1 in
    (search rules, (omega arith, omega (arith, len, short)))

pub push_prefix-requires-2 : goal.push_prefix-requires-2
push_prefix-requires-2 g c =
    let arena = c.args.arena.now in
    let upper = header-held (held arena c.args.pointer) c.unwrap.result.now (sym (ap option_copied c.unwrap.ensures) ∙ c.header-2.ensures.header) in
    let lower = header-held (held arena c.args.child) c.in-Some.lower.now (sym (ap option_copied c.in-Some.is) ∙ c.header.ensures.header) in
    let copy = rw c.unwrap-joined.ensures at c.clone.ensures.cases in
    let len = ap (λ h. h.prefix_len) (copy ∙ upper.2) in
    let more = ap (λ h. h.prefix_len) c.push_prefix.ensures in
    let low = ap (λ h. h.prefix_len) lower.2 in
    let short = c.requires.short upper.0 lower.0 upper.1 lower.1 in
    (search rules, (omega (arith, c.prefix_len.ensures.value, c.read_prefix.ensures.capped), omega (arith, len, more, low, short, c.prefix_len.ensures.value)))

pub set_prefix-requires : goal.set_prefix-requires
set_prefix-requires g c =
    let arena = c.args.arena.now in
    let lower = header-held (held arena c.args.child) c.in-Some.lower.now (sym (ap option_copied c.in-Some.is) ∙ c.header.ensures.header) in (
      search rules,
      (
        search rules,
        (
          search rules,
          (
            search rules,
            (
              search rules,
              (
                lit< tt,
                (
                  search rules,
                  (
                    c.requires.child_held,
                    inner-kind arena c.args.child lower.0 lower.1,
                  ),
                ),
              ),
            ),
          ),
        ),
      ),
    )

pub returns-clause-joined : goal.returns-clause-joined
returns-clause-joined g c = λ upper lower front back up low above below.
    let arena = c.args.arena.now in
    let size = g.row.PREFIX_LEN in
    let there = header-held (held arena c.args.pointer) c.unwrap.result.now (sym (ap option_copied c.unwrap.ensures) ∙ c.header-2.ensures.header) in
    let under = header-held (held arena c.args.child) c.in-Some.lower.now (sym (ap option_copied c.in-Some.is) ∙ c.header.ensures.header) in
    let copy = rw c.unwrap-joined.ensures at c.clone.ensures.cases in
    let upper_is = copy ∙ there.2 ∙ ap header_of (one-inner (held arena c.args.pointer) there.0 upper there.1 up) in
    let lower_is = under.2 ∙ ap header_of (one-inner (held arena c.args.child) under.0 lower under.1 low) in
    let stored = c.read_prefix.ensures.stored ∙ ap (λ h. h.stored) lower_is in
    let len = c.prefix_len.ensures.value ∙ ap (λ h. h.prefix_len) lower_is in
    let first = c.push_prefix.ensures ∙ ap (λ h. with_more size h (c.args.byte ∷ []) 1) upper_is in
    let both = c.push_prefix-2.ensures ∙ (λ i. with_more size (first i) (stored i) (len i)) in
    let now = both ∙ joined-stands size (header_of upper) (header_of lower) front back c.args.byte above below in
    subst (λ n. Changes arena c.set_prefix.new.self c.args.child (HeldInner n)) (ap (node_with_prefix_of lower) now) (c.set_prefix.ensures.prefix lower low)

pub returns-clause-leaf : goal.returns-clause-leaf
returns-clause-leaf g c = λ leaf.
    let arena = c.args.arena.now in
    let lower = header-held (held arena c.args.child) c.in-Some.lower.now (sym (ap option_copied c.in-Some.is) ∙ c.header.ensures.header) in
    absurd (inner-kind arena c.args.child lower.0 lower.1 leaf)
