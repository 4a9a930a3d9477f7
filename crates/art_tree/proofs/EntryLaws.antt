-- What the functions of `laws` say of the entries of a tree, as lemmas for the proofs of crates above.
pub use Rattle.art_tree.proofs.SharedLemmas.ClashLemmas.{never-clash-in}
pub use Rattle.art_steps.proofs.SharedLemmas.DictionaryLemmas.{empty-entry, entry-of-member, entry-some, leaf-held-in, leaf-in, text-of-entry}
pub use Rattle.art_tree.proofs.SharedLemmas.EntryCounts.{HasEach, art-counted, distinct-fit, entry-texts}
pub use Rattle.art_tree.proofs.SharedLemmas.EntryLists.{are-entries, entry-listed, has-entry, list-put, list-same, list-without, no-list, one-list, put-cases, put-long, without-cases}
pub use Rattle.art_tree.proofs.SharedLemmas.TreeLaws.{apart-there, ascend-there}
