-- How the lists of a network are ordered, so that what belongs to one strand lies together and
-- follows its layers.
use Rattle.std.specs.Prelude.{◌≡◌, ◌<◌, All, length}
use Rattle.std.specs.List.{AllPairs}
use Rattle.net_form.specs.declared.net.Tie.{Tie}
use Rattle.net_form.specs.declared.net.Net.{Net}
use Rattle.net_form.specs.Ordered.{ExtraBefore, IsExtraOf}

-- by the strand that they go from, then the one that they go to
pub data TieBefore (s t : Tie) : Type 0 where
  from : s.from < t.from → TieBefore s t
  to : s.from ≡ t.from → s.to < t.to → TieBefore s t

pub record IsInOrder (net : Net) : Type 0 where
  pub extras : AllPairs ExtraBefore net.extras
  pub there : All (IsExtraOf net) net.extras
  pub ties : AllPairs TieBefore net.ties
  pub targets : All (λ t. t.to < length net.strands) net.ties
