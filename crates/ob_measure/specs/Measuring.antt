-- What measuring a module promises.
use Rattle.std.specs.Prelude.{◌≡◌, ◌≢◌, ℕ, List, [], Option, Some, None, Result, MatchResult}
use Rattle.ob_syntax.specs.declared.token.Token.{Token}
use Rattle.ob_syntax.specs.declared.tree.Module.{Module}
use Rattle.ob_syntax.specs.declared.checked.Checked.{Checked}
use Rattle.ob_syntax.specs.declared.checked.Shape.{Shape}
use Rattle.ob_syntax.specs.Declarations.{Reading}
use Rattle.ob_syntax.specs.Names.{Place}
use Rattle.ob_syntax.specs.WellFormed.{Excess, first_excess, resolved}
use Rattle.ob_measure.specs.declared.draft.DraftModule.{DraftModule}
use Rattle.ob_measure.specs.declared.fault.MeasureFault.{MeasureFault}
use Rattle.ob_measure.specs.declared.fault.MeasureFault.TheVariants.{Limit, OutOfMemory}

-- a place of a source, with these types
abbrev pub place_of : List ℕ → List Token → List Shape → Place
place_of bytes tokens types = record {
  bytes = bytes;
  tokens = tokens;
  here = 0;
  scope = [];
  outer = [];
  types = types;
  fields = [];
  lengths = [];
  nodes = [];
  headings = [];
}

-- the reading that these parts are of; what no limit and no storage looks at is empty
abbrev pub reading_of : List ℕ → List Token → DraftModule → Reading
reading_of bytes tokens d = record {
  place = record (place_of bytes tokens d.types) { lengths = d.lengths; nodes = d.nodes };
  vars = d.vars;
  procs = d.procs;
}

-- what a refusal tells
abbrev pub told : MeasureFault → Option Excess
told (Limit kind n) = Some (kind, n)
told OutOfMemory = None

-- Nothing is above its maximum, and the answer is such a one; or the refusal tells the first
-- excess, unless memory is wanting.
abbrev pub Tests : {A : Type 0} → Option Excess → Result A MeasureFault → (A → Type 0) → Type 0
Tests excess answer IsRight =
    MatchResult answer (λ x. (excess ≡ None) × IsRight x)
    (λ fault. fault ≢ OutOfMemory → excess ≡ told fault)

-- this number, unless memory is wanting
abbrev pub Counts : ℕ → Result ℕ MeasureFault → Type 0
Counts n answer = MatchResult answer (λ count. count ≡ n) (λ fault. fault ≡ OutOfMemory)

-- the checked module that a reading within the limits stands for, or its first excess
abbrev pub Measures : Module → Reading → Result Checked MeasureFault → Type 0
Measures m r answer = Tests (first_excess r) answer (λ checked. checked ≡ resolved m r)
