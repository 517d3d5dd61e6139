-- The modes that compile FILE are modes.
use Rattle.std.proofs.Common.{◌≡◌, ◌≢◌, ◌⊎◌, ◌<◌, ◌+◌, inl, inr, refl, sym, ap, ◌∙◌, subst, ℕ, ℤ}
use Rattle.std.proofs.Common.{true, List, [], ◌∷◌, length, take, Some, None, arith, rules, ⊎_elim}
use Rattle.std.proofs.lemmas.List.{length-map, length-append}
use Rattle.std.specs.declared.option.Option.{Option}
use Rattle.std.specs.Io.KnownBytes.{Keeps}
use Rattle.pra_base.specs.RunEnd as end
use Rattle.pra_io.specs.Contents.{IsAllOf, Takes}
use Rattle.ia_code.specs.declared.image.Image.{Image}
use Rattle.ia_step.specs.declared.out.Ending.{Ending}
use Rattle.ia_step.specs.declared.out.Ending.TheVariants as ending
use Rattle.ia_step.specs.Run.{run_end}
use Rattle.ob_interp.specs.declared.interpret.UnitEnding.{UnitEnding}
use Rattle.ob_interp.specs.declared.interpret.UnitEnding.TheVariants as unit
use Rattle.pra_compile.specs.Compiled.{IsTooLong, granted}
use Rattle.pra_words.specs.declared.words.FileKind.{FileKind}
use Rattle.pra_words.specs.declared.words.FileKind.TheVariants as a_file
use Rattle.pra_words.specs.Words.{Asked}
use Rattle.vc_run.specs.declared.out.CodeEnding.{CodeEnding}
use Rattle.vc_run.specs.declared.out.CodeEnding.TheVariants as code
use Rattle.vc_stmt.specs.Completes.{are_words}
use Rattle.pra_tool.specs.declared.compiler.Made.{Made}
use Rattle.pra_tool.specs.declared.source.Sourced.{Sourced}
use Rattle.pra_tool.specs.declared.tool.Then.{Then}
use Rattle.pra_tool.specs.declared.tool.Then.TheVariants.{Run, Write, Interpret, Certify}
use Rattle.pra_tool.specs.declared.input.WrongInput.{WrongInput}
use Rattle.pra_tool.specs.declared.input.WrongInput.TheVariants.{TooLong, NoWord}
use Rattle.pra_tool.specs.declared.status.Status.{Status}
use Rattle.pra_tool.specs.declared.status.Status.TheVariants.{Ended, Trapped, Going, OverLimit}
use Rattle.pra_tool.specs.declared.status.Status.TheVariants.{NoMemory}
use Rattle.pra_tool.specs.Certified.{CertOver}
use Rattle.pra_tool.specs.Compiling.{MadeOf, ImageOver, wanted_by}
use Rattle.pra_tool.specs.Inputs.{HasNumbers, IsWrongInput, input_status, inputs}
use Rattle.pra_tool.specs.Interpreted.{interp_makes}
use Rattle.pra_tool.specs.Sources.{IsSource, IsSourced}
use Rattle.pra_tool.specs.Status.{IsDone, IsRefusal, IsStatusOf, IsRunStatus, status_of_machine}
use Rattle.pra_tool.specs.Status.{status_of_units, status_of_code}
use Rattle.pra_tool.specs.Texts.{image_over_line}
use Rattle.pra_tool.specs.Outside.{Seen, Untouched}
use Rattle.pra_tool.specs.Writes.{FileText, Writes, IsOther, NamesDiffer, names, LeftOff}
use Rattle.pra_tool.specs.Writes.{image_file}
use Rattle.pra_tool.specs.Modes.{IsKind, IsMode}
use Rattle.pra_tool.specs.Clause.{run_of, makes, refuses, files_of, compiling}
use Rattle.pra_tool.proofs.Files.{one_file}
use Rattle.pra_tool.proofs.Sources.{compiled_of, never_over, right_of}
use Rattle.pra_tool.proofs.SourceKinds.{sources_are_a_kind, some_longer}

-- ---- statuses of runs

-- the status of a run that comes to no fault
ending_along : (e : Ending) → (run_end e ≢ Some end.Wrong) → IsStatusOf e (status_of_machine e)
ending_along (ending.Fault k) h = absurd (h refl)
ending_along x h = tt

-- the image of a module never comes to one
pub run_status : (kind : FileKind) (asked : Asked) (source : List ℕ) (made : Made)
    (input : List ℤ) (steps : ℕ) (s : Status) → MadeOf kind asked source made →
    are_words input ≡ true → s ≡ status_of_machine (run_of made.compiled.image input steps).ending →
    IsRunStatus kind (run_of made.compiled.image input steps).ending s
run_status a_file.Module asked source made input steps s is words e =
    subst (IsStatusOf (run_of made.compiled.image input steps).ending) (sym e)
    (ending_along _ (((compiled_of asked source made is).does input words).never_wrong steps))
run_status a_file.Code asked source made input steps s is words e = e

pub done_of : (e : Ending) (s : Status) → IsStatusOf e s → IsDone s
done_of e Ended is = tt
done_of e Trapped is = tt
done_of e Going is = tt
done_of ending.Ended _ is = absurd is
done_of (ending.Trap k) _ is = absurd is
done_of ending.Going _ is = absurd is
done_of (ending.Fault k) _ is = absurd is

machine_done : (e : Ending) → IsDone (status_of_machine e)
machine_done ending.Ended = tt
machine_done x = tt

run_done : (kind : FileKind) (e : Ending) (s : Status) → IsRunStatus kind e s → IsDone s
run_done a_file.Module e s is = done_of e s is
run_done a_file.Code e s is = subst IsDone (sym is) (machine_done e)

code_done : (e : CodeEnding) → IsDone (status_of_code e)
code_done code.Ended = tt
code_done x = tt

units_done : (e : UnitEnding) → IsDone (status_of_units e)
units_done unit.Ended = tt
units_done x = tt

-- where no file is written, none stands where memory was wanting
pub none_left : (w : Writes) (old new : Seen) → names w.files ≡ [] → LeftOff w old new →
    Untouched old new
none_left w old new is l =
    let count : length w.files ≡ 0 = sym (length-map w.files (λ f. f.name)) ∙ ap length is in
    let none : l.files.before ≡ 0 = let le = l.files.some_left in omega (arith, count, le) in
    record {
      files = λ n. l.files.stored.others n
          (subst (λ (k : ℕ). IsOther n (take k w.files)) (sym none) tt);
      out = l.out;
      notes = l.notes;
    }

-- nor is one file alone
pub nothing_left : (w : Writes) (name : List ℕ) (old new : Seen) → names w.files ≡ name ∷ [] →
    LeftOff w old new → Untouched old new
nothing_left w name old new one l =
    let count : length w.files ≡ 1 = sym (length-map w.files (λ f. f.name)) ∙ ap length one in
    let none : l.files.before ≡ 0 = let le = l.files.some_left in omega (arith, count, le) in
    record {
      files = λ n. l.files.stored.others n
          (subst (λ (k : ℕ). IsOther n (take k w.files)) (sym none) tt);
      out = l.out;
      notes = l.notes;
    }

-- ---- inputs

one_wrong_input : (text : List ℕ) (f g : WrongInput) → IsWrongInput text f → IsWrongInput text g →
    f ≡ g
one_wrong_input text TooLong TooLong h k = refl
one_wrong_input text TooLong (NoWord at) h k = absurd (let le = k.0 in omega (arith, h, le))
one_wrong_input text (NoWord at) TooLong h k = absurd (let le = h.0 in omega (arith, k, le))
one_wrong_input text (NoWord at) (NoWord other) h k = let e = sym h.1 ∙ k.1 in cc

input_never_both : (text : List ℕ) (f : WrongInput) → (numbers : List ℤ) × HasNumbers text numbers →
    IsWrongInput text f → ⊥
input_never_both text TooLong right h = let le = right.1.0 in omega (arith, h, le)
input_never_both text (NoWord at) right h = let e = sym right.1.1 ∙ h.1 in cc

input_refusal : (text : List ℕ) (f : WrongInput) → IsWrongInput text f → IsRefusal (input_status f)
input_refusal text TooLong h = tt
input_refusal text (NoWord at) h = tt

pub inputs_are_a_kind : IsKind inputs
inputs_are_a_kind = record {
  one_wrong = one_wrong_input;
  never_both = input_never_both;
  refuses = input_refusal;
}

-- ---- the modes

no_numbers : HasNumbers [] []
no_numbers = (omega arith, refl)

-- an input that is not read has no numbers
pub not_read : (input : List ℕ) → input ≡ [] → inputs.IsRight input
not_read input is = ([], subst (λ (text : List ℕ). HasNumbers text []) (sym is) no_numbers)

-- what is made of a source has its kind
pub source_made : (kind : FileKind) (asked : Asked) (source : List ℕ) (made : Made) →
    MadeOf kind asked source made → IsSource kind source
source_made kind asked source made is = right_of kind source is.sourced is.is

interp_right : (kind : FileKind) (asked : Asked) (source input : List ℕ) (w : Writes)
    (s : Status) → interp_makes kind asked source input w s →
    IsSource kind source × inputs.IsRight input
interp_right a_file.Module asked source input w s made =
    (source_made a_file.Module asked source made.made made.made_of, (made.numbers, made.has))
interp_right a_file.Code asked source input w s made =
    (source_made a_file.Code asked source made.made made.made_of, (made.numbers, made.has))

modes_right : (next : Then) (kind : FileKind) (asked : Asked) (source input : List ℕ)
    (w : Writes) (s : Status) → makes next kind asked source input w s →
    IsSource kind source × inputs.IsRight input
modes_right Run kind asked source input w s made =
    (source_made kind asked source made.made made.made_of, (made.numbers, made.has))
modes_right Write kind asked source input w s made =
    (source_made kind asked source made.made made.made_of, not_read input made.no_input)
modes_right Interpret kind asked source input w s made =
    interp_right kind asked source input w s made
modes_right Certify kind asked source input w s made = (
  source_made kind asked source made.certified.made made.certified.made_of,
  not_read input made.no_input,
)

-- ---- what is refused

cert_right : (kind : FileKind) (asked : Asked) (source input line : List ℕ) (s : Status) →
    CertOver kind asked source input line s → IsSource kind source × inputs.IsRight input
cert_right kind asked source input line s r = (
  source_made kind asked source r.certified.made r.certified.made_of,
  not_read input r.no_input,
)

image_right : (kind : FileKind) (asked : Asked) (source input line : List ℕ) (s : Status) →
    ImageOver kind asked source input line s → IsSource kind source × inputs.IsRight input
image_right kind asked source input line s r =
    (right_of kind source r.sourced r.is, (r.numbers, r.has))

modes_right_then : (kind : FileKind) (next : Then) (asked : Asked) (source input line : List ℕ)
    (s : Status) → refuses kind next asked source input line s →
    IsSource kind source × inputs.IsRight input
modes_right_then a_file.Module Run asked source input line s r = absurd r
modes_right_then a_file.Module Write asked source input line s r = absurd r
modes_right_then a_file.Module Interpret asked source input line s r = absurd r
modes_right_then a_file.Module Certify asked source input line s r =
    cert_right a_file.Module asked source input line s r
modes_right_then a_file.Code Run asked source input line s r =
    image_right a_file.Code asked source input line s r
modes_right_then a_file.Code Write asked source input line s r =
    image_right a_file.Code asked source input line s r
modes_right_then a_file.Code Interpret asked source input line s r =
    image_right a_file.Code asked source input line s r
modes_right_then a_file.Code Certify asked source input line s (inl r) =
    cert_right a_file.Code asked source input line s r
modes_right_then a_file.Code Certify asked source input line s (inr r) =
    image_right a_file.Code asked source input line s r

modes_refuse : (kind : FileKind) (next : Then) (asked : Asked) (source input line : List ℕ)
    (s : Status) → refuses kind next asked source input line s → IsRefusal s
modes_refuse a_file.Module Run asked source input line s r = absurd r
modes_refuse a_file.Module Write asked source input line s r = absurd r
modes_refuse a_file.Module Interpret asked source input line s r = absurd r
modes_refuse a_file.Module Certify asked source input line s r =
    subst IsRefusal (sym r.status_is) tt
modes_refuse a_file.Code Run asked source input line s r = subst IsRefusal (sym r.status_is) tt
modes_refuse a_file.Code Write asked source input line s r = subst IsRefusal (sym r.status_is) tt
modes_refuse a_file.Code Interpret asked source input line s r =
    subst IsRefusal (sym r.status_is) tt
modes_refuse a_file.Code Certify asked source input line s (inl r) =
    subst IsRefusal (sym r.status_is) tt
modes_refuse a_file.Code Certify asked source input line s (inr r) =
    subst IsRefusal (sym r.status_is) tt

image_over : (kind : FileKind) (asked : Asked) (source input : List ℕ) (sourced : Sourced)
    (count : ℕ) → IsSourced kind source sourced →
    IsTooLong sourced.file (granted (wanted_by asked)) count → inputs.IsRight input →
    ImageOver kind asked source input (image_over_line count) OverLimit
image_over kind asked source input sourced count is long right = record {
  sourced = sourced;
  is = is;
  numbers = right.0;
  has = right.1;
  count = count;
  long = long;
  line_is = refl;
  status_is = refl;
}

-- an image has no room for the code of a source, which then is that of no module
pub no_room : (kind : FileKind) (next : Then) (asked : Asked) (source input : List ℕ)
    (sourced : Sourced) (count : ℕ) → IsSourced kind source sourced →
    IsTooLong sourced.file (granted (wanted_by asked)) count → inputs.IsRight input →
    refuses kind next asked source input (image_over_line count) OverLimit
no_room a_file.Module next asked source input sourced count is long right =
    absurd (never_over source sourced is (granted (wanted_by asked)) count long)
no_room a_file.Code Run asked source input sourced count is long right =
    image_over a_file.Code asked source input sourced count is long right
no_room a_file.Code Write asked source input sourced count is long right =
    image_over a_file.Code asked source input sourced count is long right
no_room a_file.Code Interpret asked source input sourced count is long right =
    image_over a_file.Code asked source input sourced count is long right
no_room a_file.Code Certify asked source input sourced count is long right =
    inr (image_over a_file.Code asked source input sourced count is long right)

-- ---- what is done

interp_done : (kind : FileKind) (asked : Asked) (source input : List ℕ) (w : Writes)
    (s : Status) → interp_makes kind asked source input w s → IsDone s
interp_done a_file.Module asked source input w s made =
    subst IsDone (sym made.ended) (units_done _)
interp_done a_file.Code asked source input w s made =
    subst IsDone (sym made.ended) (code_done _)

modes_done : (next : Then) (kind : FileKind) (asked : Asked) (source input : List ℕ)
    (w : Writes) (s : Status) → makes next kind asked source input w s → IsDone s
modes_done Run kind asked source input w s made = run_done kind _ s made.ended
modes_done Write kind asked source input w s made = subst IsDone (sym made.done) tt
modes_done Interpret kind asked source input w s made =
    interp_done kind asked source input w s made
modes_done Certify kind asked source input w s made = subst IsDone (sym made.done) tt

interp_write : (kind : FileKind) (asked : Asked) (source input : List ℕ) (w : Writes)
    (s : Status) → interp_makes kind asked source input w s → names w.files ≡ []
interp_write a_file.Module asked source input w s made =
    ap (λ (x : Writes). names x.files) made.writes
interp_write a_file.Code asked source input w s made =
    ap (λ (x : Writes). names x.files) made.writes

pub modes_write : (next : Then) (kind : FileKind) (asked : Asked) (source input : List ℕ)
    (w : Writes) (s : Status) → makes next kind asked source input w s →
    names w.files ≡ files_of next asked
modes_write Interpret kind asked source input w s made =
    interp_write kind asked source input w s made
modes_write y kind asked source input w s made = ap (λ (x : Writes). names x.files) made.writes

-- where memory was wanting, nothing was written
pub modes_leave : (next : Then) (kind : FileKind) (asked : Asked) (source input : List ℕ)
    (w : Writes) (s : Status) (old new : Seen) → makes next kind asked source input w s →
    LeftOff w old new → Untouched old new
modes_leave Run kind asked source input w s old new made =
    nothing_left w asked.image old new (modes_write Run kind asked source input w s made)
modes_leave Write kind asked source input w s old new made =
    nothing_left w asked.image old new (modes_write Write kind asked source input w s made)
modes_leave Interpret kind asked source input w s old new made =
    none_left w old new (modes_write Interpret kind asked source input w s made)
modes_leave Certify kind asked source input w s old new made =
    none_left w old new (modes_write Certify kind asked source input w s made)

pub compiling_is_a_mode : (next : Then) (asked : Asked) → IsMode (compiling next asked)
compiling_is_a_mode next asked = record {
  source = sources_are_a_kind asked.from;
  input = inputs_are_a_kind;
  right = modes_right next asked.from asked;
  done = modes_done next asked.from asked;
  right_then = modes_right_then asked.from next asked;
  refuses = modes_refuse asked.from next asked;
  writes = modes_write next asked.from asked;
}

-- the one file that is written differs from all others
pub different : (name : List ℕ) (image : Image) (files : List FileText) →
    files ≡ image_file name image →
    NamesDiffer files
different name image files is = subst NamesDiffer (sym is) (one_file _)

pub keeps_same : (o : Option (List ℕ)) → Keeps o o
keeps_same o = search rules

-- what is wrong with a source that is refused with its own status
pub told_wrong : {F P : Type 0} (status : F → Status) (wanting : F) → status wanting ≡ NoMemory →
    (f : F) (result : Status) → (result ≡ status f) ⊎ (result ≡ NoMemory) →
    (f ≢ wanting → P) → result ≢ NoMemory → P
told_wrong status wanting is f result known h other =
    h (λ memory. other (⊎_elim (λ e. e ∙ ap status memory ∙ is) (λ e. e) known))

-- ---- an input that is too long

-- there is an input of which so many bytes were taken
pub longer_input : (n : ℕ) (old new : Option (List ℕ)) → Takes old new (n + 1) →
    (bytes : List ℕ) × IsAllOf old bytes × (n < length bytes)
longer_input n None new h = let x = some_longer n in (x.0, tt, x.1)
longer_input n (Some held) None h = absurd h.2
longer_input n (Some held) (Some kept) h =
    let all : length held ≡ length h.0 + length kept = ap length h.2 ∙ length-append h.0 kept in
    let count = h.1 in (held, refl, omega (arith, all, count))
