-- A module with each kind of variable and parameter, and a call in it:
--
--     VAR x: INTEGER; q: ARRAY 3 OF RECORD a, b: INTEGER END;
--     PROCEDURE P(VAR p: INTEGER; n, m: INTEGER);
--     VAR t: INTEGER; r: RECORD a, b: INTEGER END; u: INTEGER;
--     BEGIN R(m); R(u) END P;                              (* R has a VAR parameter *)
--     BEGIN P(q[1].b, 5, 6) END M.
use Rattle.std.specs.Prelude.{ℕ, Bool, true, false, List, [], ◌∷◌, Some, None}
use Rattle.ob_syntax.specs.declared.checked.Checked.{Checked}
use Rattle.ob_syntax.specs.declared.checked.CheckedProc.{CheckedProc}
use Rattle.ob_syntax.specs.declared.checked.Local.{Local}
use Rattle.ob_syntax.specs.declared.checked.ModuleVar.{ModuleVar}
use Rattle.ob_syntax.specs.declared.checked.Param.{Param}
use Rattle.ob_syntax.specs.declared.checked.Shape.TheVariants.{Integer, Boolean, Array, Record}
use Rattle.ob_mean.specs.declared.store.LiveCall.{LiveCall}
use Rattle.ob_mean.specs.declared.store.Location.{Location}
use Rattle.ob_mean.specs.declared.store.Object.{Object}
use Rattle.ob_mean.specs.declared.store.Object.TheVariants.{Module}

abbrev pub procedure : ℕ → List Param → List Local → ℕ → CheckedProc
procedure id params locals aggregate_words = record {
  id = record { 0 = id };
  name = [];
  params = params;
  locals = locals;
  aggregate_words = aggregate_words;
  nodes = 0;
  body = [];
}

abbrev pub param : (by_var addressed : Bool) → Param
param by_var addressed = record { by_var = by_var; type_id = 0; addressed = addressed }

abbrev pub local : ℕ → Bool → ℕ → Local
local type_id addressed word = record { type_id = type_id; addressed = addressed; word = word }

abbrev pub var : ℕ → ℕ → ModuleVar
var type_id word = record { type_id = type_id; word = word }

-- P
abbrev pub called : CheckedProc
called =
    procedure 1 (param true false ∷ param false false ∷ param false true ∷ [])
    (local 0 false 0 ∷ local 2 false 0 ∷ local 0 true 2 ∷ []) 3

abbrev pub sample : Checked
sample = record {
  name = [];
  types = Integer ∷ Boolean ∷ Record (0 ∷ 0 ∷ []) ∷ Array 3 2 ∷ [];
  vars = var 0 0 ∷ var 3 1 ∷ [];
  procs = procedure 0 [] [] 0 ∷ called ∷ [];
  data_words = 7;
}

abbrev pub at : Object → List ℕ → Location
at object path = record { object = object; path = path }

-- the body has called P, and lent it q[1].b
abbrev pub in_call : List LiveCall
in_call =
    record { proc = record { 0 = 1 }; lent = Some (at (Module 1) (1 ∷ 1 ∷ [])) ∷ None ∷ None ∷ [] }
    ∷ record { proc = record { 0 = 0 }; lent = [] }
    ∷ []

-- the bytes of the frames of the body and of P
abbrev pub sample_frames : List ℕ
sample_frames = 20 ∷ 48 ∷ []
