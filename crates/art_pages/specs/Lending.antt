-- What a page ends as, where a value of it is borrowed.
use Rattle.std.specs.Prelude.{ℕ}
use Rattle.std.specs.Borrow.{RattleType, Lends, Fml, MutBor}
use Rattle.art_keys.specs.declared.key.KeyBytes.{Ghosts}
use Rattle.art_pages.specs.Contents.{PageContents, page_with_value}
use Rattle.art_pages.specs.contracts.page.Page.{the_row}

-- a page ends with the value that was left behind the reference at this index
abbrev pub LendsPageValue : (K V : RattleType) → Ghosts K.Denot → MutBor (PageContents K.Denot V.Denot) → ℕ → MutBor V.Denot → Fml
LendsPageValue K V members page place result = Lends (the_row K V members) V page result (page_with_value page.now place)
