-- The bytes of an anchor, in place or on the heap. No public clause cites this.
use Rattle.std.specs.Prelude.{ℕ, List, take}
use Rattle.art_index.specs.declared.anchor.Form.{Form}
use Rattle.art_index.specs.declared.anchor.Form.TheVariants.{Short, Long}

abbrev pub form_bytes : Form → List ℕ
form_bytes (Short short) = take short.len short.bytes
form_bytes (Long bytes) = bytes.items
