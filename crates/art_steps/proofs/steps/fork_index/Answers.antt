use Rattle.art_steps.proofs.Names.{◌∙◌, sym, subst, IsFork}
use Rattle.art_steps.proofs.LoadLemmas.RefusalLemmas.{fork-shared}
use Rattle.art_steps.proofs.steps.fork_index.Goals as goal

pub returns : goal.returns
returns c =
    let (at, fork) = c.requires in
    subst (IsFork c.args.text.now c.args.next.now) (sym (c.common_prefix_len.ensures ∙ fork-shared c.args.text.now c.args.next.now at fork)) fork
