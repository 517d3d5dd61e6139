-- The homes of parameters and locals (Wirth, Compiler Construction, chapter 12). Arrays, records
-- and scalar locals that are lent lie among the aggregates of the call. A value parameter that is
-- lent stays in the cell of its argument. All others are variables of the selected code: the first
-- ones, the parameters in order and then the locals. That of a VAR parameter has an address.
use Rattle.std.specs.Prelude.{ℕ, ◌+◌, Bool, not, ◌||◌, if◌then◌else◌, take, count_by}
use Rattle.ob_syntax.specs.declared.checked.CheckedProc.{CheckedProc}
use Rattle.ob_syntax.specs.declared.checked.Local.{Local}
use Rattle.ob_syntax.specs.declared.checked.Param.{Param}
use Rattle.vc_relation.specs.declared.home.Home.{Home}
use Rattle.vc_relation.specs.declared.home.Home.TheVariants.{Var, Cell, Frame}
use Rattle.vc_relation.specs.Layout.{is_aggregate}

abbrev pub in_variable : Param → Bool
in_variable p = p.by_var || not p.addressed

abbrev pub local_in_variable : Local → Bool
local_in_variable l = not (is_aggregate l)

-- the number of a parameter's or a local's variable: so many are variables before it
abbrev pub param_variable : CheckedProc → ℕ → ℕ
param_variable proc k = count_by in_variable (take k proc.params)

abbrev pub local_variable : CheckedProc → ℕ → ℕ
local_variable proc k =
    count_by in_variable proc.params + count_by local_in_variable (take k proc.locals)

-- how many variables are homes
abbrev pub home_count : CheckedProc → ℕ
home_count proc = count_by in_variable proc.params + count_by local_in_variable proc.locals

abbrev pub variable : ℕ → Home
variable v = Var (record { 0 = v })

-- the home of a procedure's parameter, and that of its local, by their numbers
abbrev pub param_home : CheckedProc → ℕ → Param → Home
param_home proc k param = if in_variable param then variable (param_variable proc k) else Cell k

abbrev pub local_home : CheckedProc → ℕ → Local → Home
local_home proc k local =
    if is_aggregate local then Frame local.word else variable (local_variable proc k)
