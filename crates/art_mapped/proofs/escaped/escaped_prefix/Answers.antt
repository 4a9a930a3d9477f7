use Rattle.std.proofs.Common.{◌≡◌, ◌∙◌, ◌++◌, ap}
use Rattle.art_mapped.specs.Escaped.{escaped}
use Rattle.art_mapped.specs.EscapedLaws.{escaped_prefix_exactly}
use Rattle.art_mapped.proofs.escaped.escaped_prefix.Goals as goal

pub returns-clause-keys : goal.returns-clause-keys
returns-clause-keys c =
    let prefix : c.push_escaped.new.text.items ≡ escaped c.args.bytes.now = c.in_ok-push_escaped.ensures.text ∙ ap (λ before. before ++ escaped c.args.bytes.now) c.in_ok-prefix.ensures.items in
    λ key. rw prefix (escaped_prefix_exactly c.args.bytes.now key)
