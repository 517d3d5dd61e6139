-- The machine of selected code: a live call has its variables, and stands before an instruction of
-- its block.
use Rattle.std.specs.Prelude.{ℕ, suc, ℤ, nat_lt, if◌then◌else◌, List, [], ◌∷◌, length, map}
use Rattle.std.specs.Prelude.{replicate, slice_get, slice_set, slice_index_or, Option, Some, None}
use Rattle.std.specs.Prelude.{◌≢◌}
use Rattle.pra_base.specs.Agreement.{Progress}
use Rattle.pra_base.specs.RunEnd.{RunEnd, Wrong}
use Rattle.pra_base.specs.Code.{kind_of, instr_at, end_of}
use Rattle.pra_base.specs.Operands.{read_by, written_by}
use Rattle.pra_base.specs.Words.{word}
use Rattle.pra_base.specs.declared.event.OutEvent.{OutEvent}
use Rattle.pra_base.specs.declared.code.VarKind.{VarKind}
use Rattle.pra_base.specs.declared.code.VarKind.TheVariants.{Param, Constant}
use Rattle.pra_base.specs.declared.code.VInstr.{VInstr}
use Rattle.pra_base.specs.declared.code.Block.{Block}
use Rattle.pra_base.specs.declared.code.VProc.{VProc}
use Rattle.pra_base.specs.declared.code.VModule.{VModule}
use Rattle.vc_code.specs.declared.value.Value.{Value}
use Rattle.vc_code.specs.declared.value.Value.TheVariants.{Num}
use Rattle.vc_code.specs.Value.{Held, Words}
use Rattle.vc_code.specs.Machine.{Shape, Activation, State, Next, Instr, Ends, Machine, last_get}
use Rattle.vc_code.specs.Machine.{joined, found, with_top, first, progress}

-- what a call has beside aggregates and arguments: where it stands, and what each variable holds
pub record Vars : Type 0 where
  pub block : ℕ
  pub index : ℕ
  pub held : Words

-- ---- a variable's value

-- a Constant always holds its number
abbrev pub valued : VarKind → Held → Held
valued (Constant n) x = Some (Num (word n))
valued _ x = x

abbrev pub read : (ℕ → VarKind) → Words → ℕ → Held
read kind held v = valued (kind v) (slice_index_or held v None)

abbrev pub put : Words → ℕ → Held → Option Words
put held v x = if nat_lt v (length held) then Some (slice_set held v x) else None

-- the values go into the variables one after the other
abbrev pub put_all : Option Words → List ℕ → List Value → Option Words
put_all None vs xs = None
put_all (Some held) [] xs = Some held
put_all (Some held) (v ∷ vs) [] = None
put_all (Some held) (v ∷ vs) (x ∷ xs) = put_all (put held v (Some x)) vs xs

-- ---- the machine

abbrev pub at_point : Activation Vars → ℕ → ℕ → Words → Activation Vars
at_point c block index held =
    record c { home = record { block = block; index = index; held = held } }

-- the call behind an instruction
abbrev pub behind : Activation Vars → Option Words → Option (Activation Vars)
behind c None = None
behind c (Some held) = Some (at_point c c.home.block (suc c.home.index) held)

-- the same, with values in variables
abbrev pub written : Activation Vars → List ℕ → List Value → Option (Activation Vars)
written c vs xs = behind c (put_all (Some c.home.held) vs xs)

-- what variables of a call hold
abbrev pub held_by : VProc → Activation Vars → List ℕ → List Held
held_by code c vs = map (read (kind_of code) c.home.held) vs

abbrev pub next_of : VProc → Activation Vars → Option VInstr → Next Vars
next_of code c (Some i) = Instr i (held_by code c (read_by i)) (λ xs. written c (written_by i) xs)
next_of code c None = Ends (end_of code c.home.block)

-- a parameter's variable begins with its argument
abbrev pub argument : Words → VarKind → Held
argument args (Param i) = joined (last_get args i)
argument args _ = None

abbrev pub begun : ℕ → VProc → Words → Activation Vars
begun p code args = record {
  proc = p;
  aggregates = replicate code.aggregates None;
  args = args;
  home = record { block = 0; index = 0; held = map (argument args) code.vars };
}

-- a call begins in block 0
abbrev pub begin : ℕ → Option VProc → Words → Option (Activation Vars)
begin p None args = None
begin p (Some code) args = if nat_lt 0 (length code.blocks) then Some (begun p code args) else None

abbrev pub at_block : Activation Vars → ℕ → Option Block → Option (Activation Vars)
at_block c b None = None
at_block c b (Some block) = Some (at_point c b 0 c.home.held)

-- on at the begin of a block of this code
abbrev pub jumps : VProc → ℕ → State Vars → State Vars
jumps code b s = found s (at_block s.top b (slice_get code.blocks b)) (λ c. with_top s c)

-- what stands for a procedure past the end
abbrev pub no_proc : VProc
no_proc = record { id = record { 0 = 0 }; args = 0; aggregates = 0; vars = []; blocks = [] }

abbrev pub code_of : List VProc → ℕ → VProc
code_of procs p = slice_index_or procs p no_proc

-- a procedure's frame is given
abbrev pub shape : List VProc → List ℕ → ℕ → Shape
shape procs frames p =
    record { kinds = (code_of procs p).vars; frame_size = slice_index_or frames p 0 }

abbrev pub selected : List VProc → List ℕ → Machine Vars
selected procs frames = record {
  shape = shape procs frames;
  next = λ c.
      let code = code_of procs c.proc in next_of code c (instr_at code c.home.block c.home.index);
  begin = λ p args. begin p (slice_get procs p) args;
  jump = λ b c. at_block c b (slice_get (code_of procs c.proc).blocks b);
}

-- ---- the run of a module

-- the body is live, all data holds 0, and no call is tested
abbrev pub start : VModule → List ℤ → State Vars
start module_ input =
    first (begun 0 (code_of module_.procs 0) []) (replicate module_.data_words (Some (Num 0))) input

-- VRun: what so many steps have come to
abbrev pub vrun : VModule → List ℕ → List ℤ → ℕ → Progress OutEvent RunEnd
vrun module_ frames input m = progress (selected module_.procs frames) (start module_ input) m

-- no run of the module is ever stuck
abbrev pub RunsWell : VModule → List ℕ → List ℤ → Type 0
RunsWell module_ frames input = (k : ℕ) → (vrun module_ frames input k).ending ≢ Some Wrong
