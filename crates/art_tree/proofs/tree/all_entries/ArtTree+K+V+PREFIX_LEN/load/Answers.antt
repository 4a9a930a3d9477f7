use Rattle.art_tree.proofs.Names.{[], texts_of, texts-apart}
use Rattle.art_steps.proofs.SharedLemmas.DictionaryLemmas.{alone-loaded, loaded-entry, loaded-text}
use Rattle.art_tree.proofs.SharedLemmas.KeyLemmas.{keys-loaded}
use Rattle.art_steps.proofs.LoadLemmas.RefusalLemmas.{each-short}
use Rattle.art_tree.proofs.tree.all_entries.ArtTree+K+V+PREFIX_LEN.load.Goals as goal

pub invariant_of-result : goal.invariant_of-result
invariant_of-result g c =
    let text = g.K.AsBytes.text in
    let new = c.load.new.arena in
    let entries = c.args.entries.items in
    let loaded = c.in-Ok.ensures.loaded in
    let short = each-short (texts_of text entries) c.in-Ok.ensures.no_fault in
    let alone = alone-loaded text new c.new-arena.result c.new-arena.ensures.empty entries c.in-Ok.root loaded.0 loaded.1 short in
    let held = loaded-entry text new c.new-arena.result c.new-arena.ensures.empty entries c.in-Ok.root loaded.0 loaded.1 short (texts-apart [] loaded.0 loaded.1.is_tree.sound) in
    let no_others = loaded-text text new c.new-arena.result c.new-arena.ensures.empty entries c.in-Ok.root loaded.0 loaded.1 short in
    ((loaded.0, alone), keys-loaded text g.K.AsBytes.is_key new entries c.in-Ok.ensures.keys held no_others)

pub returns-in-Ok-clause-entries : goal.returns-in-Ok-clause-entries
returns-in-Ok-clause-entries g c =
    let loaded = c.in-Ok.ensures.loaded in
    let short = each-short (texts_of g.K.AsBytes.text c.args.entries.items) c.in-Ok.ensures.no_fault in
    loaded-entry g.K.AsBytes.text c.load.new.arena c.new-arena.result c.new-arena.ensures.empty c.args.entries.items c.in-Ok.root loaded.0 loaded.1 short (texts-apart [] loaded.0 loaded.1.is_tree.sound)

pub returns-in-Ok-clause-no_others : goal.returns-in-Ok-clause-no_others
returns-in-Ok-clause-no_others g c =
    let loaded = c.in-Ok.ensures.loaded in
    let short = each-short (texts_of g.K.AsBytes.text c.args.entries.items) c.in-Ok.ensures.no_fault in
    loaded-text g.K.AsBytes.text c.load.new.arena c.new-arena.result c.new-arena.ensures.empty c.args.entries.items c.in-Ok.root loaded.0 loaded.1 short

pub returns-in-Ok-clause-no_fault : goal.returns-in-Ok-clause-no_fault
returns-in-Ok-clause-no_fault g c = c.in-Ok.ensures.no_fault

pub returns-in-Err-clause-no_fault : goal.returns-in-Err-clause-no_fault
returns-in-Err-clause-no_fault g c = tt

pub returns-in-Err-clause-refusal_due : goal.returns-in-Err-clause-refusal_due
returns-in-Err-clause-refusal_due g c = c.in-Err.ensures.refusal_due

pub returns-in-Err-clause-entries_back : goal.returns-in-Err-clause-entries_back
returns-in-Err-clause-entries_back g c = c.in-Err.ensures.entries_back
