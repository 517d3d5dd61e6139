-- The order of extras: by strand, then layer, then place; and where those of a layer begin.
use Rattle.std.specs.Prelude.{◌≡◌, ℕ, ◌<◌, ◌≤◌, Bool, ◌&&◌, ◌||◌, nat_eq, nat_lt, if◌then◌else◌}
use Rattle.std.specs.Prelude.{All}
use Rattle.std.specs.Prelude.{length, count_by, Option, Some, None}
use Rattle.std.specs.List.{AllPairs}
use Rattle.pra_base.specs.Places.{number}
use Rattle.net_form.specs.declared.net.Extra.{Extra}
use Rattle.net_form.specs.declared.net.Net.{Net}
use Rattle.net_form.specs.Admitted.{strand_at}

pub data ExtraBefore (x y : Extra) : Type 0 where
  strand : x.strand < y.strand → ExtraBefore x y
  layer : x.strand ≡ y.strand → x.layer < y.layer → ExtraBefore x y
  place : x.strand ≡ y.strand → x.layer ≡ y.layer → number x.place < number y.place →
      ExtraBefore x y

-- an extra of one of the strands, at one of its layers
pub record IsExtraOf (net : Net) (x : Extra) : Type 0 where
  pub strand : x.strand < length net.strands
  pub after : (strand_at net x.strand).first ≤ x.layer
  pub before : x.layer ≤ (strand_at net x.strand).last

-- the extras stand in order, each of a strand that is there
pub record AreExtras (net : Net) : Type 0 where
  pub order : AllPairs ExtraBefore net.extras
  pub there : All (IsExtraOf net) net.extras

-- an extra of an earlier strand, or of the strand at an earlier layer
abbrev pub is_earlier : ℕ → ℕ → Extra → Bool
is_earlier s l x = nat_lt x.strand s || (nat_eq x.strand s && nat_lt x.layer l)

-- the number of the first extra of strand s at layer l or a later one
abbrev pub first_extra : Net → ℕ → ℕ → ℕ
first_extra net s l = count_by (is_earlier s l) net.extras

-- the extra, if it is of strand s at layer l
abbrev pub extra_there : ℕ → ℕ → Option Extra → Option Extra
extra_there s l None = None
extra_there s l (Some x) = if nat_eq x.strand s && nat_eq x.layer l then Some x else None
