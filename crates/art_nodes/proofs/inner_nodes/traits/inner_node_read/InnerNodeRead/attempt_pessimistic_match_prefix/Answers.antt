use Rattle.std.proofs.Common.{◌≡◌, ◌≤◌, nat_eq, length, ap, sym, ◌∙◌, arith}
use Rattle.std.specs.List.{common_prefix_len}
use Rattle.std.proofs.lemmas.Bool.Decides.{nat_tests}
use Rattle.std.proofs.lemmas.List.Sums.{common_prefix_len-le}
use Rattle.art_nodes.proofs.PrefixLemmas.{common-whole, whole_match}
use Rattle.art_nodes.proofs.inner_nodes.traits.inner_node_read.InnerNodeRead.attempt_pessimistic_match_prefix.Goals as goal

pub returns-then-prefix_len-clause-matched : goal.returns-then-prefix_len-clause-matched
returns-then-prefix_len-clause-matched g c =
    let found = c.in_ok-matched_bytes.ensures in
    grind (arith, nat_tests, found.whole, found.within, c.prefix_len.ensures.value)

pub returns-then-matched_bytes-prefix-clause-passes_every_prefix : goal.returns-then-matched_bytes-prefix-clause-passes_every_prefix
returns-then-matched_bytes-prefix-clause-passes_every_prefix g c = λ prefix shown begins.
    let stored = (g.Self.InnerNodeRead.inner c.args.self.now).stored in
    let read = c.stored_prefix-prefix.ensures in
    let stored_len : length stored ≡ (g.Self.InnerNodeRead.inner c.args.self.now).prefix_len = omega (arith, read.capped, ap length read.stored, c.prefix_len.ensures.value) in
    let whole = common-whole stored prefix c.args.truncated_key.now (shown.0 ∙ sym stored_len) shown.1 begins in
    let found = c.common_prefix_len-matched_bytes.ensures ∙ ap (λ bytes. common_prefix_len nat_eq bytes c.args.truncated_key.now) read.stored in
    absurd (omega (arith, whole, found, ap length read.stored))

pub returns-else-matched_bytes-prefix-clause-matched : goal.returns-else-matched_bytes-prefix-clause-matched
returns-else-matched_bytes-prefix-clause-matched g c =
    let read = c.stored_prefix-prefix.ensures in
    let found = c.common_prefix_len-matched_bytes.ensures ∙ ap (λ bytes. common_prefix_len nat_eq bytes c.args.truncated_key.now) read.stored in
    let stored_whole : (g.Self.InnerNodeRead.inner c.args.self.now).prefix_len ≤ g.row.PREFIX_LEN = omega (arith, c.prefix_len.ensures.value) in
    sym (whole_match g.row.PREFIX_LEN (g.Self.InnerNodeRead.inner c.args.self.now).prefix_len (g.Self.InnerNodeRead.inner c.args.self.now).stored c.args.truncated_key.now _ stored_whole found (omega (arith, ap length read.stored)))

pub returns-else-matched_bytes-prefix-clause-whole : goal.returns-else-matched_bytes-prefix-clause-whole
returns-else-matched_bytes-prefix-clause-whole g c =
    let within = common_prefix_len-le nat_eq c.stored_prefix-prefix.result.now c.args.truncated_key.now in
    omega (arith, within.0, c.common_prefix_len-matched_bytes.ensures, c.stored_prefix-prefix.ensures.capped, c.prefix_len.ensures.value)

pub returns-else-matched_bytes-prefix-clause-within : goal.returns-else-matched_bytes-prefix-clause-within
returns-else-matched_bytes-prefix-clause-within g c =
    let within = common_prefix_len-le nat_eq c.stored_prefix-prefix.result.now c.args.truncated_key.now in
    omega (arith, within.1, c.common_prefix_len-matched_bytes.ensures)

pub returns-else-matched_bytes-prefix-clause-passes_every_prefix : goal.returns-else-matched_bytes-prefix-clause-passes_every_prefix
returns-else-matched_bytes-prefix-clause-passes_every_prefix g c = λ prefix shown begins.
    let stored = (g.Self.InnerNodeRead.inner c.args.self.now).stored in
    let read = c.stored_prefix-prefix.ensures in
    let stored_len : length stored ≡ (g.Self.InnerNodeRead.inner c.args.self.now).prefix_len = omega (arith, read.capped, ap length read.stored, c.prefix_len.ensures.value) in
    let whole = common-whole stored prefix c.args.truncated_key.now (shown.0 ∙ sym stored_len) shown.1 begins in
    let found = c.common_prefix_len-matched_bytes.ensures ∙ ap (λ bytes. common_prefix_len nat_eq bytes c.args.truncated_key.now) read.stored in
    found ∙ whole ∙ stored_len ∙ sym shown.0
