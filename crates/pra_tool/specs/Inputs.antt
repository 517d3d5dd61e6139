-- What an input is to a program: at most 1,048,576 bytes, which are the words of numbers.
use Rattle.std.specs.Prelude.{◌≡◌, ℕ, ◌<◌, ◌≤◌, ℤ, true, List, [], length}
use Rattle.std.specs.Prelude.{Ok, Err, codes}
use Rattle.pra_base.specs.declared.limit.LimitKind.TheVariants as limit
use Rattle.pra_base.specs.Limits.{limit_maximum}
use Rattle.pra_report.specs.Input.{input_words}
use Rattle.pra_tool.specs.declared.input.WrongInput.{WrongInput}
use Rattle.pra_tool.specs.declared.input.WrongInput.TheVariants.{TooLong, NoWord}
use Rattle.pra_tool.specs.declared.input.InputFault.{InputFault}
use Rattle.pra_tool.specs.declared.input.InputFault.TheVariants.{Wrong, NotRead, OutOfMemory}
use Rattle.pra_tool.specs.declared.status.Status.{Status}
use Rattle.pra_tool.specs.declared.status.Status.TheVariants.{OverLimit, Fault, BadInput, NoMemory}
use Rattle.pra_tool.specs.Texts.{input_line}
use Rattle.pra_tool.specs.Modes.{Kind, IsInput, IsLeft}
use Rattle.pra_tool.specs.Outside.{StreamSeen}
use Rattle.pra_io.specs.Causes.{Rose}

-- the most bytes of an input
abbrev pub most_input : ℕ
most_input = limit_maximum limit.Input

-- the input is that of these numbers
abbrev pub HasNumbers : List ℕ → List ℤ → Type 0
HasNumbers bytes numbers = (length bytes ≤ most_input) × (input_words bytes ≡ Ok numbers)

-- the input is too long, or the run of bytes that begins there is no word
abbrev pub IsWrongInput : List ℕ → WrongInput → Type 0
IsWrongInput bytes TooLong = most_input < length bytes
IsWrongInput bytes (NoWord at) = (length bytes ≤ most_input) × (input_words bytes ≡ Err at)

-- The input was read to its end, and these are its numbers.
pub record HasGiven (old new : StreamSeen) (numbers : List ℤ) : Type 0 where
  pub bytes : List ℕ
  pub taken : IsInput true old bytes
  pub left : IsLeft true old new
  pub has : HasNumbers bytes numbers

abbrev pub input_status : WrongInput → Status
input_status TooLong = OverLimit
input_status (NoWord at) = BadInput

-- the inputs: the words of numbers
abbrev pub inputs : Kind
inputs = record {
  Wrong = WrongInput;
  IsWrong = IsWrongInput;
  line = input_line;
  status = input_status;
  IsRight = λ input. (numbers : List ℤ) × HasNumbers input numbers;
}

-- ---- an input that is none of its kind, or fails

-- something is wrong with what the input had
pub record HasGivenWrong (kind : Kind) (old : StreamSeen) (f : kind.Wrong) : Type 0 where
  pub bytes : List ℕ
  pub taken : IsInput true old bytes
  pub wrong : kind.IsWrong bytes f

-- why nothing was read
abbrev pub IsInputCause : (kind : Kind) → InputFault kind.Wrong → StreamSeen → StreamSeen → Type 0
IsInputCause kind (Wrong f) old new = HasGivenWrong kind old f
IsInputCause kind NotRead old new = Rose old.faults new.faults
IsInputCause kind OutOfMemory old new = Unit {0}

abbrev pub input_fault_status : (kind : Kind) → InputFault kind.Wrong → Status
input_fault_status kind (Wrong f) = kind.status f
input_fault_status kind NotRead = Fault
input_fault_status kind OutOfMemory = NoMemory

abbrev pub input_fault_line : (kind : Kind) → InputFault kind.Wrong → List ℕ
input_fault_line kind (Wrong f) = kind.line f
input_fault_line kind NotRead = codes "fault read input\n"
input_fault_line kind OutOfMemory = []
