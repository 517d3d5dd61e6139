-- The report on the procedures of a module: what each takes on the stack, how cost and bound went
-- from round to round, and what the rounds came to.
use Rattle.std.specs.Prelude.{ℕ, ◌+◌, ◌-◌, ◌^◌, ◌<◌, ◌≤◌, List, [], ◌∷◌, ◌++◌, length, slice_get}
use Rattle.std.specs.Prelude.{codes, All}
use Rattle.std.specs.declared.option.Option.{Option}
use Rattle.std.specs.Option.{option_map_or}
use Rattle.std.specs.Fmt.{decimal}
use Rattle.std.specs.List.{sum_by}
use Rattle.net_form.specs.declared.prices.Line.{Line}
use Rattle.pra_report.specs.declared.report.ProcOut.{ProcOut}
use Rattle.pra_report.specs.Texts.{procedure_line}

-- ---- a procedure

-- a round: the cost of the best routes until then, and the greatest bound
abbrev pub round_line : Line → List ℕ
round_line l =
    codes "round " ++ decimal l.round ++ codes " cost " ++ decimal l.cost
    ++ codes " bound " ++ decimal l.bound ++ codes "\n"

abbrev pub round_lines : List Line → List ℕ
round_lines [] = []
round_lines (l ∷ ls) = round_line l ++ round_lines ls

-- the lines on procedures, the first of which has this number, without rounds
abbrev pub procedure_lines : ℕ → List ProcOut → List ℕ
procedure_lines number [] = []
procedure_lines number (p ∷ ps) =
    procedure_line number p.name p.frame ++ procedure_lines (number + 1) ps

-- and with them
abbrev pub procedures_text : ℕ → List ProcOut → List ℕ
procedures_text number [] = []
procedures_text number (p ∷ ps) =
    procedure_line number p.name p.frame ++ round_lines p.lines ++ procedures_text (number + 1) ps

-- ---- what the rounds came to

abbrev pub last_line : List Line → Option Line
last_line lines = slice_get lines (length lines - 1)

-- of no lines there is no cost and no bound
abbrev pub last_cost : List Line → ℕ
last_cost lines = option_map_or (λ (l : Line). l.cost) (last_line lines) 0

abbrev pub last_bound : List Line → ℕ
last_bound lines = option_map_or (λ (l : Line). l.bound) (last_line lines) 0

abbrev pub total_cost : List ProcOut → ℕ
total_cost procs = sum_by (λ (p : ProcOut). last_cost p.lines) procs

abbrev pub total_bound : List ProcOut → ℕ
total_bound procs = sum_by (λ (p : ProcOut). last_bound p.lines) procs

-- the sums over the procedures, and how many bytes of code there are
abbrev pub total_line : List ProcOut → ℕ → List ℕ
total_line procs code =
    codes "total cost " ++ decimal (total_cost procs) ++ codes " bound "
    ++ decimal (total_bound procs) ++ codes " code " ++ decimal code ++ codes "\n"

-- of a procedure at least the line of round 0 is told
abbrev pub IsTold : ProcOut → Type 0
IsTold p = 1 ≤ length p.lines

-- each procedure is told of, and the sums have 128 bits
pub record HaveTotals (procs : List ProcOut) : Type 0 where
  pub told : All IsTold procs
  pub costs : total_cost procs < 2 ^ 128
  pub bounds : total_bound procs < 2 ^ 128

-- a module has no more procedures than its source has tokens
abbrev pub most_procs : ℕ
most_procs = 65536

-- it is told of, and the sums of so many as this one have 128 bits
pub record IsOfMany (p : ProcOut) : Type 0 where
  pub told : IsTold p
  pub cost : last_cost p.lines < 2 ^ 112
  pub bound : last_bound p.lines < 2 ^ 112

-- ---- the whole

abbrev pub report_text : List ProcOut → ℕ → List ℕ
report_text procs code = procedures_text 0 procs ++ total_line procs code

-- ---- generated modules

-- the seed and the size by which a module was made, and how many bytes its text has
abbrev pub generated_line : ℕ → ℕ → ℕ → List ℕ
generated_line seed size bytes =
    codes "generated seed " ++ decimal seed ++ codes " size " ++ decimal size
    ++ codes " bytes " ++ decimal bytes ++ codes "\n"

-- how many bytes a program wrote
abbrev pub output_line : ℕ → List ℕ
output_line bytes = codes "output bytes " ++ decimal bytes ++ codes "\n"
