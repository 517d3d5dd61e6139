-- What code of procedures is compiled to, and what a module is.
use Rattle.std.specs.Prelude.{◌≡◌, ℕ, ◌<◌, ◌≤◌, ℤ, true, List, length, map, Some}
use Rattle.std.specs.Prelude.{slice_get, take}
use Rattle.pra_base.specs.declared.code.VModule.{VModule}
use Rattle.pra_base.specs.declared.code.VProc.{VProc}
use Rattle.pra_base.specs.Valid.{TakesArgs, counts_of}
use Rattle.ob_syntax.specs.declared.checked.Checked.{Checked}
use Rattle.al_round.specs.Allocations.{IsAllocation}
use Rattle.al_round.specs.Watches.{WasObeyed}
use Rattle.cert_form.specs.declared.codes.CodeFile.{CodeFile}
use Rattle.cert_form.specs.declared.codes.NamedCode.{NamedCode}
use Rattle.ia_asm.specs.Assembly.{IsImageOf}
use Rattle.ia_code.specs.Image.{IsImage, max_data_words, max_code_bytes}
use Rattle.ia_emit.specs.Carries.{Carries}
use Rattle.ia_emit.specs.Code.{code_size}
use Rattle.net_cost.specs.declared.weights.Weights.{Weights}
use Rattle.net_form.specs.declared.net.Net.{Net}
use Rattle.net_form.specs.declared.prices.Line.{Line}
use Rattle.net_form.specs.declared.prices.Prices.{Prices}
use Rattle.net_form.specs.declared.routes.Routes.{Routes}
use Rattle.pl_place.specs.declared.placed.LProc.{LProc}
use Rattle.pl_place.specs.Behind.{flow_frame}
use Rattle.pl_place.specs.Placed.{frame_size}
use Rattle.pra_compile.specs.declared.output.Compiled.{Compiled}
use Rattle.pra_compile.specs.Leaving.{Leaving}
use Rattle.pra_compile.specs.Tidied.{IsCodeOfModule}
use Rattle.pra_follow.specs.Codes.{Carriage, AreCarriages, behind, FollowsUntilStuck}
use Rattle.pra_follow.specs.Follows.{DoesAsMeant}
use Rattle.pra_report.specs.declared.report.ProcOut.{ProcOut}
use Rattle.pra_report.specs.Report.{most_procs}
use Rattle.vc_stmt.specs.Completes.{are_words}
use Rattle.vc_valid.specs.Listed.{HasCode}

-- ---- what is compiled

abbrev pub codes_named : List NamedCode → List VProc
codes_named procs = map (λ (named : NamedCode). named.code) procs

abbrev pub codes_in : CodeFile → List VProc
codes_in file = codes_named file.procs

-- the code that runs
abbrev pub module_of : CodeFile → VModule
module_of file = record { procs = codes_in file; data_words = file.data_words }

-- Code that can be compiled: each procedure is valid and sized, has its number as its id, and calls
-- those of the list as they are to be called; the one where a run begins takes no arguments.
pub record IsRunnable (file : CodeFile) : Type 0 where
  pub each : (p : ℕ) (code : VProc) → slice_get (codes_in file) p ≡ Some code →
      HasCode (counts_of (codes_in file)) p code
  pub body : TakesArgs (counts_of (codes_in file)) 0 0
  pub few : length file.procs ≤ most_procs
  pub few_data : file.data_words ≤ max_data_words

-- ---- what is wanted of registers

-- What is wanted of each procedure's registers: the weights that costs are counted in, how many
-- rounds are made at most, and the gap between cost and bound at which they stop.
pub record Wanted : Type 0 where
  pub weights : Weights
  pub rounds : ℕ
  pub gap : ℕ

abbrev pub wanted_of : Weights → ℕ → ℕ → Wanted
wanted_of weights rounds gap = record { weights = weights; rounds = rounds; gap = gap }

-- These are the routes, the prices and the lines that rounds leave of the network. After the line
-- of round 0 there are as many as were wanted, or the rounds stopped at the gap and no later.
pub record IsGranted (wanted : Wanted) (net : Net) (routes : Routes) (prices : Prices)
    (lines : List Line) : Type 0 where
  pub allocation : IsAllocation net wanted.weights lines routes prices
  pub obeyed : WasObeyed wanted.gap wanted.rounds (take 1 lines) lines

-- what rounds leave of each procedure
abbrev pub granted : Wanted → Leaving
granted wanted p net routes prices lines = IsGranted wanted net routes prices lines

-- ---- what is made of one procedure

-- What is kept of procedure p, and what carries its code into the image: its name and its code as
-- they stand, the routes, and the frame that both give, by the flow and in the placed code. Routes,
-- prices and lines are what the allocator leaves of the procedure.
pub record IsProcBy (leaves : Leaving) (p : ℕ) (named : NamedCode) (out : ProcOut) (c : Carriage)
    : Type 0 where
  pub name : out.name ≡ named.name
  pub code : out.code ≡ named.code
  pub carried : c.code ≡ out.code
  pub routes : c.routes ≡ out.routes
  pub allocated : leaves p c.net out.routes out.prices out.lines
  pub frame : out.frame ≡ flow_frame (behind c)
  pub placed_frame : out.frame ≡ frame_size c.placed

-- The routes are what rounds leave, with their lines and the prices of the last bound.
abbrev pub IsProcOut : Wanted → ℕ → NamedCode → ProcOut → Carriage → Type 0
IsProcOut wanted p named out c = IsProcBy (granted wanted) p named out c

-- ---- what is made of all

abbrev pub codes_of : List ProcOut → List VProc
codes_of procs = map (λ (out : ProcOut). out.code) procs

abbrev pub frames_of : List ProcOut → List ℕ
frames_of procs = map (λ (out : ProcOut). out.frame) procs

abbrev pub placed_of : List Carriage → List LProc
placed_of carriages = map (λ (c : Carriage). c.placed) carriages

-- Of each procedure in order something is kept, with what the allocator leaves of it, and its code
-- was placed by its routes, which its network admits.
pub record ArePlacedBy (file : CodeFile) (leaves : Leaving) (procs : List ProcOut) : Type 0 where
  pub carriages : List Carriage
  pub are : AreCarriages carriages
  pub codes : codes_of procs ≡ codes_in file
  pub count : length procs ≡ length file.procs
  pub carriage_count : length carriages ≡ length procs
  pub each : (p : ℕ) (named : NamedCode) (out : ProcOut) (c : Carriage) →
      slice_get file.procs p ≡ Some named → slice_get procs p ≡ Some out →
      slice_get carriages p ≡ Some c → IsProcBy leaves p named out c

-- The code can run. The image is valid, has the data of the code, and follows the code on each
-- input of words until that gets stuck, with the frames that are kept. It carries the codes with
-- the flows of the routes, and is assembled of the placed code.
pub record IsBuiltBy (file : CodeFile) (leaves : Leaving) (compiled : Compiled) : Type 0 where
  pub valid : IsImage compiled.image
  pub data_words : compiled.image.data_words ≡ file.data_words
  pub does : (input : List ℤ) → are_words input ≡ true →
      FollowsUntilStuck (module_of file) (frames_of compiled.procs) compiled.image input
  pub runnable : IsRunnable file
  pub placement : ArePlacedBy file leaves compiled.procs
  pub carries : Carries compiled.image (map behind placement.carriages)
  pub assembled : IsImageOf (placed_of placement.carriages) file.data_words compiled.image

-- with rounds as they are wanted
abbrev pub IsBuilt : CodeFile → Wanted → Compiled → Type 0
IsBuilt file wanted compiled = IsBuiltBy file (granted wanted) compiled

-- An image has no room for the placed code of all procedures, which has so many bytes.
pub record IsTooLong (file : CodeFile) (leaves : Leaving) (count : ℕ) : Type 0 where
  pub procs : List ProcOut
  pub placement : ArePlacedBy file leaves procs
  pub size : count ≡ code_size (placed_of placement.carriages)
  pub many : max_code_bytes < count

-- ---- what is made of a module

-- What is built of the module's code. On each input of words the image does what the module means,
-- both ways and never at a fault, with the frames that are kept.
pub record IsCompiledBy (program : Checked) (leaves : Leaving) (compiled : Compiled)
    : Type 0 where
  pub file : CodeFile
  pub of_module : IsCodeOfModule program file
  pub built : IsBuiltBy file leaves compiled
  pub does : (input : List ℤ) → are_words input ≡ true →
      DoesAsMeant program (frames_of compiled.procs) compiled.image input

-- with rounds as they are wanted
abbrev pub IsCompiled : Checked → Wanted → Compiled → Type 0
IsCompiled program wanted compiled = IsCompiledBy program (granted wanted) compiled
