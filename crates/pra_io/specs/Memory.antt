-- What the objects in memory hold, which calls they fail, and the bounds that they were made with.
use Rattle.std.specs.Prelude.{ℕ, List, drop}
use Rattle.std.specs.declared.option.Option.{Option}
use Rattle.pra_io.specs.Entries.{held_at}
use Rattle.pra_io.specs.declared.calls.Calls.{Calls}
use Rattle.pra_io.specs.declared.memory.MemFolder.{MemFolder}
use Rattle.pra_io.specs.declared.memory.MemSource.{MemSource}
use Rattle.pra_io.specs.declared.memory.MemSink.{MemSink}

-- ---- a folder

-- what a name holds, or None where it is absent
abbrev pub folder_file : MemFolder → List ℕ → Option (List ℕ)
folder_file folder name = held_at name folder.files.items

abbrev pub folder_calls : MemFolder → Calls
folder_calls folder = folder.calls

-- one count for all names, for reading and for writing
abbrev pub folder_faults : MemFolder → List ℕ → ℕ
folder_faults folder name = folder.calls.faults

-- ---- a source

abbrev pub source_left : MemSource → List ℕ
source_left source = drop source.at source.bytes.items

-- the most that one call gives
abbrev pub source_piece : MemSource → ℕ
source_piece source = source.piece

abbrev pub source_calls : MemSource → Calls
source_calls source = source.calls

-- ---- a sink

abbrev pub sink_bytes : MemSink → List ℕ
sink_bytes sink = sink.bytes.items

-- the most that one call takes
abbrev pub sink_piece : MemSink → ℕ
sink_piece sink = sink.piece

-- the most that all calls together take
abbrev pub sink_capacity : MemSink → ℕ
sink_capacity sink = sink.capacity

abbrev pub sink_calls : MemSink → Calls
sink_calls sink = sink.calls
