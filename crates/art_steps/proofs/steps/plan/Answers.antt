use Rattle.art_steps.proofs.Names.{◌≡◌, ◌∙◌, ◌<◌, ℕ, ◌+◌, ◌^◌, length, map, List, [], ◌∷◌, ◌++◌, get_or, sym, ap, subst, arith, refl, option_to_list, length-map, Forks, byte_before, text_of_entry, Open}
use Rattle.art_steps.specs.declared.steps.Step.TheVariants as step
use Rattle.art_steps.proofs.LoadLemmas.OpenNodes.{IsPlanned, IsClosing, Parts, entry-text, bytes-at, planned-path, parts-between, parts-last, closing-leaf, closing-some, closing-below, closing-node-called, closing-count, branch-new, branch-last, closed}
use Rattle.art_steps.proofs.steps.plan.Goals as goal
use Rattle.art_steps.proofs.steps.plan.Goals.{then-i-entries, else-i-entries, then-top-shared+in_ok-push-3, else-top-shared}

pub fork_index-requires : goal.fork_index-requires
fork_index-requires g c =
    let text_of = λ (e : g.row.E.Denot). g.E.KeyIn.text_in c.args.context.now e in
    let entries = c.args.entries.now in
    let first = c.key_in-text.ensures.text ∙ sym (entry-text text_of entries c.loop-i.i c.index-entries-i.result c.loop-i-test.true c.index-entries-i.is) in
    let second = c.key_in.ensures.text ∙ sym (entry-text text_of entries (c.loop-i.i + 1) c.index-entries-i-then-i-entries.result c.if-i-entries.true c.index-entries-i-then-i-entries.is) in
    let forks = c.requires.loadable.fork c.loop-i.i (omega (arith, c.if-i-entries.true, length-map entries text_of)) in
    subst (λ t. Forks t c.key_in.result.now) (sym first) (subst (λ t. Forks (text_of_entry (map (g.E.KeyIn.text_in c.args.context.now) entries) c.loop-i.i) t) (sym second) forks)

pub byte_to-leaf_byte-requires : goal.byte_to-leaf_byte-requires
byte_to-leaf_byte-requires g c =
    let text_of = λ (e : g.row.E.Denot). g.E.KeyIn.text_in c.args.context.now e in
    let entries = c.args.entries.now in
    let first = c.key_in-text.ensures.text ∙ sym (entry-text text_of entries c.loop-i.i c.index-entries-i.result c.loop-i-test.true c.index-entries-i.is) in
    let path = planned-path (map (g.E.KeyIn.text_in c.args.context.now) entries) c.loop-i.i c.loop-i.top c.loop-i.open.items c.loop-i.steps.items (c.loop-i.invariant.before_next c.loop-i-test.true) in
    let long = ap length first in
    elim c.if-i-entries.branch [
      | then-i-entries w ↦ omega (arith, path, long, c.max.ensures, w.shared-is, w.fork_index.ensures.in_first)
      | else-i-entries w ↦ omega (arith, path, long, c.max.ensures, w.shared-is)
    ]

pub closing-init : goal.closing-init
closing-init g c =
    let text_of = λ (e : g.row.E.Denot). g.E.KeyIn.text_in c.args.context.now e in
    let entries = c.args.entries.now in
    let texts = map (g.E.KeyIn.text_in c.args.context.now) entries in
    let text = c.key_in-text.result.now in
    let is_text : text ≡ text_of_entry texts c.loop-i.i = c.key_in-text.ensures.text ∙ sym (entry-text text_of entries c.loop-i.i c.index-entries-i.result c.loop-i-test.true c.index-entries-i.is) in
    let count = length-map entries text_of in
    let within : c.loop-i.i < length texts = omega (arith, count, c.loop-i-test.true) in
    let short : length text < 2 ^ 64 = omega (arith, ap length is_text, c.requires.loadable.short c.loop-i.i within) in
    record {
      is_text = is_text;
      parts = elim c.if-i-entries.branch [
        | then-i-entries w ↦
            let is_next : w.key_in.result.now ≡ text_of_entry texts (c.loop-i.i + 1) = w.key_in.ensures.text ∙ sym (entry-text text_of entries (c.loop-i.i + 1) w.index-entries-i-then-i-entries.result w.if-i-entries.true w.index-entries-i-then-i-entries.is) in
            subst (Parts texts c.loop-i.i text) (sym w.shared-is) (parts-between texts c.loop-i.i text w.key_in.result.now w.fork_index.result (omega (arith, count, w.if-i-entries.true)) is_next w.fork_index.ensures)
        | else-i-entries w ↦ subst (Parts texts c.loop-i.i text) (sym w.shared-is) (parts-last texts c.loop-i.i text (omega (arith, count, w.if-i-entries.false)))
      ];
      finished = subst (IsClosing texts c.loop-i.i text c.if-i-entries.shared c.loop-i.top c.loop-i.open.items) (sym (c.in_ok-push.ensures.items ∙ ap (λ b. c.loop-i.steps.items ++ step.Leaf b ∷ []) (c.byte_to-leaf_byte.ensures ∙ ap (byte_before text) c.max.ensures)))
          (closing-leaf texts c.loop-i.i text is_text c.if-i-entries.shared c.loop-i.top c.loop-i.open.items c.loop-i.steps.items within short (c.loop-i.invariant.before_next c.loop-i-test.true));
    }

pub unwrap-below-requires : goal.unwrap-below-requires
unwrap-below-requires g c =
    let texts = map (g.E.KeyIn.text_in c.args.context.now) c.args.entries.now in
    let some = closing-some texts c.loop-i.i c.key_in-text.result.now c.closing.invariant.is_text c.if-i-entries.shared c.closing.top c.closing.open.items c.closing.steps.items c.closing-test.true c.closing.invariant.finished in
    c.pop.ensures.variant.1 (omega (arith, some, c.closing.open.ok.0))

pub byte_to-byte-requires : goal.byte_to-byte-requires
byte_to-byte-requires g c =
    let texts = map (g.E.KeyIn.text_in c.args.context.now) c.args.entries.now in
    let popped = c.pop.ensures.items ∙ ap (λ o. c.pop.new.self.items ++ option_to_list o) c.unwrap-below.ensures in
    let below = closing-below texts c.loop-i.i c.key_in-text.result.now c.closing.invariant.is_text c.if-i-entries.shared c.closing.top c.unwrap-below.result c.closing.open.items c.pop.new.self.items c.closing.steps.items popped c.closing-test.true c.closing.invariant.finished in
    omega (arith, below, c.max-start.ensures, c.closing.invariant.parts.within)

pub overflow_add-top : goal.overflow_add-top
overflow_add-top g c =
    let texts = map (g.E.KeyIn.text_in c.args.context.now) c.args.entries.now in
    let bytes = bytes-at c.key_in-text.result.now (subst (λ t. (k d : ℕ) → k < length t → get_or t k d < 256) (sym c.key_in-text.ensures.text) c.key_in-text.ensures.bytes) in
    let count = closing-count texts c.loop-i.i c.key_in-text.result.now c.closing.invariant.is_text bytes c.if-i-entries.shared c.closing.top c.closing.open.items c.closing.steps.items c.closing.invariant.finished in
    omega (arith, count)

pub closing-preserved : goal.closing-preserved
closing-preserved g c =
    let texts = map (g.E.KeyIn.text_in c.args.context.now) c.args.entries.now in
    let text = c.key_in-text.result.now in
    let bytes = bytes-at text (subst (λ t. (k d : ℕ) → k < length t → get_or t k d < 256) (sym c.key_in-text.ensures.text) c.key_in-text.ensures.bytes) in
    let popped = c.pop.ensures.items ∙ ap (λ o. c.pop.new.self.items ++ option_to_list o) c.unwrap-below.ensures in
    record {
      is_text = c.closing.invariant.is_text;
      parts = c.closing.invariant.parts;
      finished = closing-node-called texts c.loop-i.i text c.closing.invariant.is_text bytes c.if-i-entries.shared c.closing.top c.unwrap-below.result c.closing.open.items c.pop.new.self.items c.closing.steps.items c.push-in-closing.new.self.items c.byte_to-byte.result c.max-start.result popped c.closing-test.true c.max-start.ensures c.byte_to-byte.ensures c.in_ok-push-2.ensures.items c.closing.invariant.finished;
    }

pub overflow_add-top-in-loop-i : goal.overflow_add-top-in-loop-i
overflow_add-top-in-loop-i g c =
    let texts = map (g.E.KeyIn.text_in c.args.context.now) c.args.entries.now in
    let bytes = bytes-at c.key_in-text.result.now (subst (λ t. (k d : ℕ) → k < length t → get_or t k d < 256) (sym c.key_in-text.ensures.text) c.key_in-text.ensures.bytes) in
    let count = closing-count texts c.loop-i.i c.key_in-text.result.now c.closing.invariant.is_text bytes c.if-i-entries.shared c.closing.top c.closing.open.items c.closing.steps.items c.closing.invariant.finished in
    elim c.if-top-shared.branch [
      | then-top-shared+in_ok-push-3 w ↦ let none = ap (λ o. o.children) w.top-is in omega (arith, none)
      | else-top-shared w ↦ let same = ap (λ o. o.children) w.top-is in omega (arith, same, count)
    ]

pub loop-i-preserved : goal.loop-i-preserved
loop-i-preserved g c =
    let text_of = λ (e : g.row.E.Denot). g.E.KeyIn.text_in c.args.context.now e in
    let entries = c.args.entries.now in
    let texts = map (g.E.KeyIn.text_in c.args.context.now) entries in
    let text = c.key_in-text.result.now in
    let count = length-map entries text_of in
    let parts = c.closing.invariant.parts in
    let is_text = c.closing.invariant.is_text in
    let bytes = bytes-at text (subst (λ t. (k d : ℕ) → k < length t → get_or t k d < 256) (sym c.key_in-text.ensures.text) c.key_in-text.ensures.bytes) in
    let Then : Open → List Open → Type 0 = λ top items. IsPlanned texts (c.loop-i.i + 1) (record { path = top.path; children = top.children + 1 }) items c.closing.steps.items in
    record {
      before_next = λ lt.
          let between = parts.between (omega (arith, count, lt)) in
          elim c.if-top-shared.branch [
            | then-top-shared+in_ok-push-3 w ↦
                subst (λ top. Then top c.if-top-shared.open.items) (sym w.top-is) (subst (λ items. IsPlanned texts (c.loop-i.i + 1) (record { path = c.if-i-entries.shared; children = 1 }) items c.closing.steps.items) (sym (ap (λ v. v.items) w.open-is ∙ w.in_ok-push-3.ensures.items))
                (branch-new texts c.loop-i.i text is_text bytes (text_of_entry texts (c.loop-i.i + 1)) refl between.0 between.2 c.if-i-entries.shared c.closing.top c.closing.open.items c.closing.steps.items between.1 w.if-top-shared.true c.closing.invariant.finished))
            | else-top-shared w ↦
                subst (λ top. Then top c.if-top-shared.open.items) (sym w.top-is) (subst (λ items. Then c.closing.top items) (sym (ap (λ v. v.items) w.open-is))
                (branch-last texts c.loop-i.i text is_text bytes (text_of_entry texts (c.loop-i.i + 1)) refl between.0 between.2 c.if-i-entries.shared c.closing.top c.closing.open.items c.closing.steps.items between.1 (omega (arith, w.if-top-shared.false, c.closing-test.false)) c.closing.invariant.finished))
          ];
      after_last = λ all. closed texts c.loop-i.i text is_text c.if-i-entries.shared c.closing.top c.closing.open.items c.closing.steps.items (parts.last (omega (arith, count, all))) (omega (arith, c.closing-test.false)) (omega (arith, count, all)) c.closing.invariant.finished;
    }
