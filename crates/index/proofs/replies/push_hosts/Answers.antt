use Rattle.std.proofs.Common.{[], ◌∷◌, ◌++◌, append-nil, sym}
use Rattle.index.specs.Replies.{host_line}
use Rattle.index.proofs.EntryLemmas.{values_of}
use Rattle.index.proofs.HostLemmas.{all_hosts, fewer_after, no_hosts, one_host_more, printed_more}
use Rattle.index.proofs.replies.push_hosts.Goals as goal

pub loop-address-init : goal.loop-address-init
loop-address-init c = ([], no_hosts (values_of c.args.index.now), sym (append-nil c.args.output.now.items))

pub loop-address-preserved : goal.loop-address-preserved
loop-address-preserved c =
    let so_far = c.loop-address.invariant in
    let host = c.in-Some.address in (
      so_far.0 ++ host ∷ [],
      one_host_more (values_of c.args.index.now) c.loop-address.last host so_far.0 so_far.1 c.in-Some.ensures,
      printed_more host_line so_far.0 host c.args.output.now.items c.loop-address.output.items c.push_host.new.output.items so_far.2 c.in_ok-push_host.ensures,
    )

pub loop-address-smaller : goal.loop-address-smaller
loop-address-smaller c = fewer_after (values_of c.args.index.now) c.loop-address.last c.in-Some.address c.in-Some.ensures

pub returns : goal.returns
returns c =
    let so_far = c.loop-address.invariant in
    (so_far.0, all_hosts (values_of c.args.index.now) c.loop-address.last so_far.0 so_far.1 c.in_default.ensures, so_far.2)
