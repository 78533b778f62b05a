-- What is held of a file's bytes.
use Rattle.std.specs.Prelude.{ℕ, List}
use Rattle.docs_vfs.specs.declared.shared_bytes.Held.{Held}
use Rattle.docs_vfs.specs.declared.shared_bytes.Held.TheVariants.{Bytes, Text}

abbrev pub held_bytes : Held → List ℕ
held_bytes (Bytes bytes) = bytes
held_bytes (Text text) = text
