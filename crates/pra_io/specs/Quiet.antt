-- What the quiet objects hold.
use Rattle.std.specs.Prelude.{ℕ, List, drop, unwrap_or}
use Rattle.pra_io.specs.Entries.{held_at}
use Rattle.pra_io.specs.declared.quiet.QuietFolder.{QuietFolder}
use Rattle.pra_io.specs.declared.quiet.QuietSource.{QuietSource}
use Rattle.pra_io.specs.declared.quiet.QuietSink.{QuietSink}

-- what was last written to a name, or else the given file
abbrev pub quiet_file : QuietFolder → List ℕ → List ℕ
quiet_file folder name = unwrap_or (held_at name folder.written.items) folder.given.items

abbrev pub quiet_left : QuietSource → List ℕ
quiet_left source = drop source.at source.bytes.items

-- how many bytes were put
abbrev pub quiet_count : QuietSink → ℕ
quiet_count sink = sink.count
