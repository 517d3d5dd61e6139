-- A module of one variable, `VAR x: INTEGER`, and its body before any statement of it is selected:
-- one open block without instructions, where a run of it begins.
use Rattle.std.specs.Prelude.{◌≡◌, List, [], ◌∷◌, length, replicate, Some, None}
use Rattle.pra_base.specs.declared.code.VProc.{VProc}
use Rattle.ob_syntax.specs.Storage.{all_words}
use Rattle.ob_syntax.specs.declared.checked.Checked.{Checked}
use Rattle.ob_syntax.specs.declared.checked.Shape.TheVariants.{Integer, Boolean}
use Rattle.ob_mean.specs.declared.store.LiveCall.{LiveCall}
use Rattle.vc_code.specs.declared.value.Value.TheVariants.{Num}
use Rattle.vc_code.specs.Machine.{State}
use Rattle.vc_code.specs.Selected.{Vars}
use Rattle.vc_build.specs.Grow.{open_block}
use Rattle.vc_build.specs.Runs.{Codes}
use Rattle.vc_relation.specs.Sample.{procedure, var}
use Rattle.vc_select.specs.declared.target.Setting.{Setting}

abbrev pub sample : Checked
sample = record {
  name = [];
  types = Integer ∷ Boolean ∷ [];
  vars = var 0 0 ∷ [];
  procs = procedure 0 [] [] 0 ∷ [];
  data_words = 1;
}

-- selection for its body
pub record IsForSample (g : Setting) : Type 0 where
  pub program : g.program.now ≡ sample
  pub words : g.words.now ≡ all_words sample.types
  pub id : g.id.0 ≡ 0

abbrev pub begun : VProc
begun = record {
  id = record { 0 = 0 };
  args = 0;
  aggregates = 0;
  vars = [];
  blocks = open_block 0 ∷ [];
}

-- the body alone runs
abbrev pub alone : VProc → Codes
alone code = record { procs = code ∷ []; frames = 20 ∷ [] }

abbrev pub one_call : List LiveCall
one_call = record { proc = record { 0 = 0 }; lent = [] } ∷ []

-- its variables have no values, and x is 0
abbrev pub at_begin : VProc → State Vars
at_begin code = record {
  top = record {
    proc = 0;
    aggregates = [];
    args = [];
    home = record { block = 0; index = 0; held = replicate (length code.vars) None };
  };
  below = [];
  pushed = [];
  globals = Some (Num 0) ∷ [];
  compared = None;
  input = [];
  events = [];
  taken = 0;
  over = None;
}
