-- What calls that lend entries write.
use base.Fml.{Lft}
use Rattle.std.specs.Prelude.{◌≡◌, ℕ, List, [], length, take, drop}
use Rattle.std.specs.List.{AllZip}
use Rattle.art_c_maps.specs.declared.lent.BytesEntry.{BytesEntry}
use Rattle.art_c_maps.specs.declared.lent.NumberRun.{NumberRun}

-- a run of so many entries: the first of these, some where there are any, lent for this lifetime
pub record LendsRun (life : Lft) (entries : List (ℕ × ℕ)) (run : NumberRun) (count : ℕ) : Type 0 where
  pub counts : count ≡ length run.entries
  pub first : run.entries ≡ take count entries
  pub some : count ≡ 0 → entries ≡ []
  pub lent : run.life ≡ life

-- the bytes of an entry's key, lent for this lifetime, and its value
pub record IsLent (life : Lft) (entry : List ℕ × ℕ) (lent : BytesEntry) : Type 0 where
  pub text : lent.text ≡ entry.0
  pub len : lent.key_len ≡ length entry.0
  pub value : lent.value ≡ entry.1
  pub for_life : lent.life ≡ life

-- so many of the first places hold these entries, lent for this lifetime, and the others are as they were
pub record LendsNext (life : Lft) (entries : List (List ℕ × ℕ)) (old new : List BytesEntry) (count : ℕ) : Type 0 where
  pub counts : count ≡ length entries
  pub lent : AllZip (IsLent life) entries (take count new)
  pub others : drop count new ≡ drop count old
