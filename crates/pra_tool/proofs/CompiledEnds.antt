-- The ends of a call that has compiled a source.
use Rattle.std.proofs.Common.{◌≡◌, ◌≢◌, ◌⊎◌, ⊎_elim, refl, sym, ap, ap₂, ◌∙◌, subst, ℕ, ℤ, List, []}
use Rattle.std.proofs.Common.{Bool, true, false}
use Rattle.pra_base.specs.declared.code.VModule.{VModule}
use Rattle.pra_base.specs.declared.code.VProc.{VProc}
use Rattle.pra_compile.specs.declared.output.Compiled.{Compiled}
use Rattle.pra_compile.specs.Compiled.{module_of}
use Rattle.pra_gen.specs.Module.{module_text}
use Rattle.pra_words.specs.declared.words.FileKind.{FileKind}
use Rattle.pra_words.specs.declared.words.FileKind.TheVariants as a_file
use Rattle.pra_words.specs.Words.{Asked}
use Rattle.pra_tool.specs.declared.compiler.Made.{Made}
use Rattle.pra_tool.specs.declared.input.InputFault.{InputFault}
use Rattle.pra_tool.specs.declared.input.InputFault.TheVariants.{Wrong, NotRead, OutOfMemory}
use Rattle.pra_tool.specs.declared.source.Meaning.{Meaning}
use Rattle.pra_tool.specs.declared.source.Meaning.TheVariants as meaning
use Rattle.pra_tool.specs.declared.status.Status.{Status}
use Rattle.pra_tool.specs.declared.status.Status.TheVariants.{Ended, OverLimit, NoMemory}
use Rattle.pra_tool.specs.declared.tool.Then.{Then}
use Rattle.pra_tool.specs.declared.tool.Then.TheVariants.{Run, Write, Interpret}
use Rattle.pra_tool.specs.Status.{status_of_machine, status_of_code}
use Rattle.pra_tool.specs.Outside.{Seen, Refused, Untouched}
use Rattle.pra_tool.specs.Writes.{Writes, Wrote}
use Rattle.pra_tool.specs.Inputs.{HasNumbers, HasGiven, IsInputCause, inputs, input_fault_status}
use Rattle.pra_tool.specs.Inputs.{input_fault_line}
use Rattle.pra_tool.specs.Ends.{Ends}
use Rattle.pra_tool.specs.Ends as ends
use Rattle.pra_tool.specs.Interpreted.{interp_makes, meant_writes, meant_status, code_kept}
use Rattle.pra_tool.specs.Interpreted.{code_writes, run_of_code}
use Rattle.pra_tool.specs.Modes.{Mode, IsInput, IsLeft}
use Rattle.pra_tool.specs.Clause.{run_of, run_writes, compile_writes, gen_writes}
use Rattle.pra_tool.specs.Clause.{compiling, generating, refuses, takes_input, IsOver}
use Rattle.pra_tool.specs.Compiling.{MadeOf}
use Rattle.pra_tool.specs.Texts.{image_over_line}
use Rattle.pra_tool.proofs.CompilingModes.{run_status, not_read}
use Rattle.pra_tool.proofs.InputWords.{numbers_are_words}
use Rattle.pra_tool.proofs.ModeAnswers.{is_memory}

-- what `run` made was written, as far as writing went
pub run_ends : (asked : Asked) (made : Made) (numbers : List ℤ) (w : Writes) (s : Status)
    (old new : Seen) (result : Status) → HasGiven old.input new.input numbers →
    w ≡ run_writes asked made.compiled numbers →
    s ≡ status_of_machine (run_of made.compiled.image numbers asked.steps).ending →
    Wrote w s old new result → (source : List ℕ) → MadeOf asked.from asked source made →
    Ends (compiling Run asked) source old new result
run_ends asked made numbers w s old new result given is ended wrote source made_of =
    ends.wrote given.bytes given.taken given.left w s
    (record {
      made = made;
      made_of = made_of;
      numbers = numbers;
      has = given.has;
      writes = is;
      ended = run_status asked.from asked source made numbers asked.steps s made_of
          (numbers_are_words given.bytes numbers given.has.1) ended;
    }) wrote

-- and so was what `compile` made
pub compile_ends : (asked : Asked) (made : Made) (w : Writes) (s : Status) (old new : Seen)
    (result : Status) → new.input ≡ old.input → w ≡ compile_writes asked made.compiled →
    s ≡ Ended → Wrote w s old new result → (source : List ℕ) →
    MadeOf asked.from asked source made → Ends (compiling Write asked) source old new result
compile_ends asked made w s old new result alone is done wrote source made_of =
    ends.wrote [] refl alone w s
    (record { made = made; made_of = made_of; no_input = refl; writes = is; done = done }) wrote

abbrev module_with : List VProc → ℕ → VModule
module_with codes words = record { procs = codes; data_words = words }

-- the code that was kept is that of the file
kept_code : (asked : Asked) (source : List ℕ) (made : Made)
    (is : MadeOf a_file.Code asked source made) →
    code_kept made.compiled ≡ module_of is.sourced.file
kept_code asked source made is =
    ap₂ module_with is.built.placement.codes is.built.data_words

-- and what `interp` made
interp_made : (kind : FileKind) (asked : Asked) (made : Made) (numbers : List ℤ)
    (input : List ℕ) (w : Writes) (s : Status) → HasNumbers input numbers →
    w ≡ meant_writes made.meaning asked made.compiled numbers →
    s ≡ meant_status made.meaning asked made.compiled numbers →
    (source : List ℕ) → MadeOf kind asked source made → interp_makes kind asked source input w s
interp_made a_file.Module asked made numbers input w s has is ended source made_of =
    let meant : made.meaning ≡ meaning.Module made_of.is.text.checked =
    made_of.meaning ∙ made_of.is.meaning in
    record {
      made = made;
      made_of = made_of;
      numbers = numbers;
      has = has;
      writes = is ∙ ap (λ (m : Meaning). meant_writes m asked made.compiled numbers) meant;
      ended = ended ∙ ap (λ (m : Meaning). meant_status m asked made.compiled numbers) meant;
    }
interp_made a_file.Code asked made numbers input w s has is ended source made_of =
    let meant : made.meaning ≡ meaning.Code = made_of.meaning ∙ made_of.is.meaning in
    let kept = kept_code asked source made made_of in
    record {
      made = made;
      made_of = made_of;
      numbers = numbers;
      has = has;
      writes = is ∙ ap (λ (m : Meaning). meant_writes m asked made.compiled numbers) meant
          ∙ ap (λ (m : VModule). code_writes made.compiled
          (run_of_code m made.compiled numbers asked.steps)) kept;
      ended = ended ∙ ap (λ (m : Meaning). meant_status m asked made.compiled numbers) meant
          ∙ ap (λ (m : VModule). status_of_code
          (run_of_code m made.compiled numbers asked.steps).ending) kept;
    }

-- which writes no file
pub no_files : (meant : Meaning) (asked : Asked) (compiled : Compiled) (numbers : List ℤ) →
    (meant_writes meant asked compiled numbers).files ≡ []
no_files (meaning.Module program) asked compiled numbers = refl
no_files meaning.Code asked compiled numbers = refl

pub interp_ends : (asked : Asked) (made : Made) (numbers : List ℤ) (w : Writes) (s : Status)
    (old new : Seen) (result : Status) → HasGiven old.input new.input numbers →
    w ≡ meant_writes made.meaning asked made.compiled numbers →
    s ≡ meant_status made.meaning asked made.compiled numbers →
    Wrote w s old new result → (source : List ℕ) → MadeOf asked.from asked source made →
    Ends (compiling Interpret asked) source old new result
interp_ends asked made numbers w s old new result given is ended wrote source made_of =
    ends.wrote given.bytes given.taken given.left w s
    (interp_made asked.from asked made numbers given.bytes w s given.has is ended source made_of)
    wrote

-- and what `gen` made
pub gen_ends : (asked : Asked) (source : List ℕ) (made : Made) (w : Writes) (s : Status)
    (old new : Seen) (result : Status) → new.input ≡ old.input →
    source ≡ module_text asked.seed asked.size → MadeOf a_file.Module asked source made →
    w ≡ gen_writes asked source made.compiled →
    s ≡ status_of_machine (run_of made.compiled.image [] asked.steps).ending →
    Wrote w s old new result → Ends (generating asked) source old new result
gen_ends asked source made w s old new result alone text made_of is ended wrote =
    ends.wrote [] refl alone w s
    (record {
      text = text;
      made = made;
      made_of = made_of;
      no_input = refl;
      writes = is;
      ended = run_status a_file.Module asked source made [] asked.steps s made_of refl ended;
    }) wrote

-- the input of a mode that takes it was not read, or is refused
pub input_ends : (m : Mode) → m.reads_input ≡ true → (fault : InputFault m.input.Wrong)
    (old new : Seen) (s : Status) → IsInputCause m.input fault old.input new.input →
    (s ≡ input_fault_status m.input fault) ⊎ (s ≡ NoMemory) →
    (s ≢ NoMemory → Refused (input_fault_line m.input fault) old new) →
    (s ≡ NoMemory → Untouched old new) → (source : List ℕ) → Ends m source old new s
input_ends m reads fault old new s cause known told memory source = ⊎_elim
    (λ wanting. ends.wanting wanting (memory wanting))
    (λ other. by_fault fault other cause (⊎_elim (λ e. e) (λ e. absurd (other e)) known)
    (told other))
    (is_memory s)
  where
    by_fault : (f : InputFault m.input.Wrong) → s ≢ NoMemory →
        IsInputCause m.input f old.input new.input → s ≡ input_fault_status m.input f →
        Refused (input_fault_line m.input f) old new → Ends m source old new s
    by_fault (Wrong f) other c is left = ends.refused c.bytes
        (subst (λ (b : Bool). IsInput b old.input c.bytes) (sym reads) c.taken)
        (record { fault = f; wrong = c.wrong; status_is = is; left = left })
    by_fault NotRead other c is left = ends.unread reads is c left
    by_fault OutOfMemory other c is left = absurd (other is)

-- what is done then is this
pub ends_by : (next then : Then) (asked : Asked) (source : List ℕ) (old new : Seen) (s : Status) →
    then ≡ next → Ends (compiling next asked) source old new s →
    Ends (compiling then asked) source old new s
ends_by next then asked source old new s is e =
    subst (λ (t : Then). Ends (compiling t asked) source old new s) (sym is) e

-- ---- an image has no room for the code

module _ (next : Then) (asked : Asked) (source : List ℕ) (count : ℕ) (old new : Seen)
    (s : Status) (over : IsOver next asked source count) (known : (s ≡ OverLimit) ⊎ (s ≡ NoMemory))
    (told : s ≢ NoMemory → Refused (image_over_line count) old new)
    (memory : s ≡ NoMemory → Untouched old new) where
  over_ends : (input : List ℕ) → IsInput (takes_input next) old.input input →
      IsLeft (takes_input next) old.input new.input → inputs.IsRight input →
      Ends (compiling next asked) source old new s
  over_ends input taken left right = ⊎_elim
      (λ wanting. ends.wanting wanting (memory wanting))
      (λ other. ends.over input taken left (image_over_line count)
      (subst (λ (t : Status). refuses asked.from next asked source input (image_over_line count) t)
      (sym (⊎_elim (λ e. e) (λ e. absurd (other e)) known)) (over input right)) (told other))
      (is_memory s)

  -- the input was read before that
  pub over_behind : (numbers : List ℤ) → takes_input next ≡ true →
      HasGiven old.input new.input numbers → Ends (compiling next asked) source old new s
  over_behind numbers takes given = over_ends given.bytes
      (subst (λ (b : Bool). IsInput b old.input given.bytes) (sym takes) given.taken)
      (subst (λ (b : Bool). IsLeft b old.input new.input) (sym takes) given.left)
      (numbers, given.has)

  -- or it was left alone
  pub over_alone : takes_input next ≡ false → new.input ≡ old.input →
      Ends (compiling next asked) source old new s
  over_alone takes alone = over_ends []
      (subst (λ (b : Bool). IsInput b old.input []) (sym takes) refl)
      (subst (λ (b : Bool). IsLeft b old.input new.input) (sym takes) alone)
      (not_read [] refl)
