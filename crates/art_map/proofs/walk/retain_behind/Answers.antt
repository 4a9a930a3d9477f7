use Rattle.std.proofs.Common.{refl, subst, sym}
use Rattle.art_pages.specs.Retaining.{RetainsTo}
use Rattle.art_map.specs.Pages.{entries_in}
use Rattle.art_map.specs.Trees.{pages_in, pages_of}
use Rattle.art_map.proofs.walk.retain_behind.Goals as goal

pub returns-in-None-clause-retained : goal.returns-in-None-clause-retained
returns-in-None-clause-retained g c =
    subst (λ tree. let entries = entries_in (pages_in (λ tree. pages_of tree.value.arena) tree) in RetainsTo g.F.Keeps.step c.args.test.now entries entries c.args.test.now)
    (sym c.in-None.is) (refl, refl)
