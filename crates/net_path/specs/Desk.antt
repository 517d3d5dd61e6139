-- What is seen of the room to work in.
use Rattle.std.specs.Prelude.{ℕ, ◌≡◌, ◌≤◌, ◌<◌, List, length, take, slice_index_or, []}
use Rattle.pra_base.specs.declared.ids.Place.{Place}
use Rattle.net_form.specs.declared.net.Net.{Net}
use Rattle.net_form.specs.declared.routes.Routes.{Routes}
use Rattle.net_form.specs.Admitted.{strand_at}
use Rattle.net_form.specs.InUse.{StandsFor}
use Rattle.net_form.specs.Rooms.{IsRoomOf, layer_total}
use Rattle.net_path.specs.declared.work.Work.{Work}
use Rattle.net_path.specs.Passing.{AreNotes}

-- the path that was found last
abbrev pub path_of : Work → List Place
path_of work = take work.count work.path.items

-- a family has a place for each layer of each strand
pub record HasSizes (net : Net) (family : Routes) : Type 0 where
  pub many : length family.places ≡ length net.strands
  pub each : (s : ℕ) → s < length net.strands →
      length (slice_index_or family.places s []) ≡ length (strand_at net s).masks

-- there is room for the rows of each strand, a family of paths, counts of those at each layer, a
-- room with nothing in use, and a note of each strand
pub record IsReservedFor (net : Net) (work : Work) : Type 0 where
  pub rows : (s : ℕ) → s < length net.strands →
      length (strand_at net s).masks ≤ length work.rows.items
  pub family : HasSizes net work.family
  pub loads : length work.loads.items ≡ layer_total net.blocks
  pub room : IsRoomOf net work.free
  pub free : StandsFor net work.free []
  pub notes : AreNotes net work.notes.items
