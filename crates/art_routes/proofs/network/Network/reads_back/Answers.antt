use Rattle.std.proofs.Common.{◌∙◌, subst}
use Rattle.std.specs.Net.Grammar.{IsIpText}
use Rattle.art_routes.specs.Texts.{address_text}
use Rattle.art_routes.proofs.TextLemmas.{printed, read_again}
use Rattle.art_routes.proofs.network.Network.reads_back.Goals as goal

pub returns-clause-printed : goal.returns-clause-printed
returns-clause-printed c =
    let is = c.parts-length.ensures in
    let made = c.ip_of-address.ensures in
    printed c.args.self.now is.network c.ip_of-address.result (made.number ∙ is.address) (subst (λ address. IsIpText (address_text address) c.ip_of-address.result) is.address made.spelled)

pub returns-clause-read : goal.returns-clause-read
returns-clause-read c =
    let is = c.parts-length.ensures in
    let made = c.ip_of-address.ensures in
    read_again c.args.self.now is.network c.ip_of-address.result (made.number ∙ is.address) (subst (λ address. IsIpText (address_text address) c.ip_of-address.result) is.address made.spelled)
