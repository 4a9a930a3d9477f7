-- The bytes of a byte string, in place or on the heap.
use Rattle.std.specs.Prelude.{ℕ, List, take}
use Rattle.art_c_maps.specs.declared.byte_string.ByteString.{ByteString}
use Rattle.art_c_maps.specs.declared.byte_string.Form.{Form}
use Rattle.art_c_maps.specs.declared.byte_string.Form.TheVariants.{Short, UpTo40, UpTo56, UpTo72, UpTo104, UpTo152, UpTo264, Long}

abbrev pub string_form_bytes : Form → List ℕ
string_form_bytes (Short short) = take short.len short.bytes
string_form_bytes (UpTo40 boxed) = take boxed.len boxed.bytes.value
string_form_bytes (UpTo56 boxed) = take boxed.len boxed.bytes.value
string_form_bytes (UpTo72 boxed) = take boxed.len boxed.bytes.value
string_form_bytes (UpTo104 boxed) = take boxed.len boxed.bytes.value
string_form_bytes (UpTo152 boxed) = take boxed.len boxed.bytes.value
string_form_bytes (UpTo264 boxed) = take boxed.len boxed.bytes.value
string_form_bytes (Long bytes) = bytes.value.items

-- the bytes of a byte string
abbrev pub bytes_of_string : ByteString → List ℕ
bytes_of_string string = string_form_bytes string.form
