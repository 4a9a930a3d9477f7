use Rattle.std.proofs.Common.{◌∙◌, sym, ap, IsTrue, rules}
use Rattle.std.specs.Option.{option_map}
use Rattle.art_nodes.specs.Pointers.{slab_key}
use Rattle.art_arena.specs.Links.{previous_at, next_at}
use Rattle.art_arena.proofs.LeafLemmas.{named_back-some, named_back-none}
use Rattle.art_links.proofs.leaf_links.next_is_knit.Goals as goal

pub returns-in-Some : goal.returns-in-Some
returns-in-Some g c =
    named_back-some (IsTrue c.is_named.result) (next_at c.args.arena.now) (previous_at c.args.arena.now) (slab_key c.args.this) (slab_key c.in-Some.after) (sym c.next_of.ensures ∙ ap (option_map slab_key) c.in-Some.is)
    (λ named. sym c.previous_of.ensures ∙ c.is_named.ensures.0 named, λ back. c.is_named.ensures.1 (c.previous_of.ensures ∙ back))

pub returns-in-None : goal.returns-in-None
returns-in-None g c =
    (λ _. named_back-none (next_at c.args.arena.now) (previous_at c.args.arena.now) (slab_key c.args.this) (sym c.next_of.ensures ∙ ap (option_map slab_key) c.in-None.is), λ _. search rules)
