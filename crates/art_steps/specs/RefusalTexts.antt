-- The printed texts of refusals.
use Rattle.std.specs.Prelude.{ℕ, List, ◌++◌, codes}
use Rattle.std.specs.Fmt.{decimal}
use Rattle.art_steps.specs.declared.faults.InsertRefusal.{InsertRefusal}
use Rattle.art_steps.specs.declared.faults.InsertRefusal.TheVariants as Insert
use Rattle.art_steps.specs.declared.check.LoadRefusal.{LoadRefusal}
use Rattle.art_steps.specs.declared.check.LoadRefusal.TheVariants.{Empty, KeyTooLong, NotAscending, Prefix, OutOfMemory}

-- why an entry is not inserted
abbrev pub insert_refusal_text : InsertRefusal → List ℕ
insert_refusal_text Insert.KeyTooLong = codes "key too long"
insert_refusal_text Insert.Prefix = codes "one key is a prefix of the other"
insert_refusal_text Insert.OutOfMemory = codes "out of memory"

-- why entries are not loaded
abbrev pub load_refusal_text : LoadRefusal → List ℕ
load_refusal_text Empty = codes "no entries"
load_refusal_text (KeyTooLong i) = codes "entry " ++ decimal i ++ codes ": key too long"
load_refusal_text (NotAscending i) = codes "entry " ++ decimal i ++ codes ": key is not below the next one"
load_refusal_text (Prefix i) = codes "entry " ++ decimal i ++ codes ": key is a prefix of the next one"
load_refusal_text OutOfMemory = codes "out of memory"
