-- An image that was written runs as it ran where it was made.
use Rattle.std.proofs.Common.{◌≡◌, ◌≢◌, ℕ, ℤ, List, [], ◌++◌, length, None, refl}
use Rattle.std.proofs.Common.{sym, ap, ◌∙◌, subst, ◌-◌}
use Rattle.pra_base.specs.Agreement.{Progress}
use Rattle.pra_base.specs.RunEnd as end
use Rattle.pra_base.specs.declared.event.OutEvent.{OutEvent}
use Rattle.pra_base.specs.RunEnd.{RunEnd}
use Rattle.pra_list.proofs.Options.{none_some, some_same}
use Rattle.ia_asm.specs.Rules.{IsFileOf}
use Rattle.ia_code.specs.declared.image.Image.{Image}
use Rattle.ia_code.specs.Image.{IsImage, image_bytes_of}
use Rattle.ia_step.specs.declared.out.Ending.{Ending}
use Rattle.ia_step.specs.declared.out.Ending.TheVariants as ending
use Rattle.ia_step.specs.declared.out.RunOut.{RunOut}
use Rattle.ia_step.specs.Run.{run_end, machine_run, progress}
use Rattle.ob_syntax.specs.declared.checked.Checked.{Checked}
use Rattle.ob_read.specs.Source.{ReadText}
use Rattle.ob_read.proofs.Reading.{one_reading}
use Rattle.pra_compile.specs.Compiled.{IsCompiled}
use Rattle.pra_follow.specs.Follows.{DoesAsMeant}
use Rattle.pra_report.specs.Report.{report_text, procedure_lines}
use Rattle.pra_report.specs.Texts.{output_text}
use Rattle.pra_words.specs.declared.words.FileKind.{FileKind}
use Rattle.pra_words.specs.declared.words.FileKind.TheVariants as a_file
use Rattle.pra_words.specs.Words.{Asked}
use Rattle.pra_tool.specs.declared.status.Status.{Status}
use Rattle.pra_tool.specs.declared.status.Status.TheVariants as status
use Rattle.pra_tool.specs.Clause.{run_of, RunMakes, CompileMakes}
use Rattle.pra_tool.specs.Compiling.{wanted_by}
use Rattle.pra_tool.specs.Executed.{ExecMakes}
use Rattle.pra_compile.specs.Compiled.{frames_of}
use Rattle.pra_tool.specs.Status.{IsStatusOf, IsRunStatus, status_of_machine}
use Rattle.pra_tool.specs.Texts.{ending_line}
use Rattle.pra_tool.specs.Writes.{FileText, Writes, one_file, image_file}
use Rattle.pra_tool.proofs.InputWords.{numbers_are_words}
use Rattle.pra_tool.proofs.InterpAgrees.{run_over, ends_once, one_numbers}
use Rattle.pra_tool.proofs.ListingModes.{same_image}
use Rattle.pra_tool.proofs.RoundTrip.{same_bytes}
use Rattle.pra_tool.proofs.SameFrames.{same_frames}
use Rattle.pra_tool.proofs.Sources.{compiled_of}

-- the image that runs is the one that was written
written_image : (name file : List ℕ) (files : List FileText) (image run : Image) →
    files ≡ image_file name image → files ≡ one_file name file → IsImage image →
    IsFileOf file run → image ≡ run
written_image name file files image run made is valid held =
    same_image file image run
    (valid, same_bytes name name file (image_bytes_of image) (sym is ∙ made)) held

-- ---- what `run` wrote, by as many steps

-- a status of a run that is no fault is the one of any run
status_is : (e : Ending) (s : Status) → IsStatusOf e s → s ≡ status_of_machine e
status_is ending.Ended status.Ended is = refl
status_is (ending.Trap k) status.Trapped is = refl
status_is ending.Going status.Going is = refl
status_is (ending.Fault k) s is = absurd is
status_is ending.Ended _ is = absurd is
status_is (ending.Trap k) _ is = absurd is
status_is ending.Going _ is = absurd is

-- and so is that of whatever was compiled
run_status_is : (kind : FileKind) (e : Ending) (s : Status) → IsRunStatus kind e s →
    s ≡ status_of_machine e
run_status_is a_file.Module e s is = status_is e s is
run_status_is a_file.Code e s is = is

pub exec_repeats_run : (kind : FileKind) (asked other : Asked) (source file input : List ℕ)
    (v w : Writes) (s t : Status) (run : RunMakes kind asked source input v s) →
    v.files ≡ one_file asked.image file →
    ExecMakes other file input w t → asked.steps ≡ other.steps →
    (s ≡ t) × (v.out ≡ w.out) ×
    (v.notes ≡ report_text run.made.compiled.procs (length run.made.compiled.image.code) ++ w.notes)
exec_repeats_run kind asked other source file input v w s t run files exec steps =
    let made = run.made.compiled in
    let image = written_image asked.image file v.files made.image exec.image
    (ap (λ (x : Writes). x.files) run.writes) files run.made_of.built.valid exec.held in
    let numbers = one_numbers input run.numbers exec.numbers run.has exec.has in
    let same : machine_run made.image run.numbers asked.steps
    ≡ machine_run exec.image exec.numbers other.steps =
    ap (λ (i : Image). machine_run i run.numbers asked.steps) image
    ∙ ap (λ (ns : List ℤ). machine_run exec.image ns asked.steps) numbers
    ∙ ap (λ m. machine_run exec.image exec.numbers m) steps in (
      run_status_is kind _ s run.ended ∙ ap (λ (r : RunOut). status_of_machine r.ending) same
          ∙ sym exec.ended,
      ap (λ (x : Writes). x.out) run.writes ∙ ap (λ (r : RunOut). output_text r.events) same
          ∙ sym (ap (λ (x : Writes). x.out) exec.writes),
      ap (λ (x : Writes). x.notes) run.writes
          ∙ ap (λ (r : RunOut). report_text made.procs (length made.image.code) ++ ending_line r)
          same
          ∙ ap (λ (x : Writes). report_text made.procs (length made.image.code) ++ x.notes)
          (sym exec.writes),
    )

-- ---- an image of one source with the same frames

machine_over : (e : Ending) → status_of_machine e ≢ status.Going → run_end e ≢ None
machine_over ending.Going other = absurd (other refl)
machine_over x other = λ e. absurd (none_some (sym e))

same_status : (e f : Ending) (s : Status) → IsStatusOf e s → run_end e ≡ run_end f →
    s ≡ status_of_machine f
same_status ending.Ended ending.Ended s is h = status_is ending.Ended s is
same_status ending.Ended (ending.Trap k) s is h =
    let same : end.Ended ≡ end.Trapped k = some_same _ _ h in cc
same_status ending.Ended ending.Going s is h = absurd (none_some (sym h))
same_status ending.Ended (ending.Fault k) s is h =
    let same : end.Ended ≡ end.Wrong = some_same _ _ h in cc
same_status (ending.Trap j) ending.Ended s is h =
    let same : end.Trapped j ≡ end.Ended = some_same _ _ h in cc
same_status (ending.Trap j) (ending.Trap k) s is h = status_is (ending.Trap j) s is
same_status (ending.Trap j) ending.Going s is h = absurd (none_some (sym h))
same_status (ending.Trap j) (ending.Fault k) s is h =
    let same : end.Trapped j ≡ end.Wrong = some_same _ _ h in cc
same_status ending.Going ending.Ended s is h = absurd (none_some h)
same_status ending.Going (ending.Trap k) s is h = absurd (none_some h)
same_status ending.Going ending.Going s is h = status_is ending.Going s is
same_status ending.Going (ending.Fault k) s is h = absurd (none_some h)
same_status (ending.Fault j) f s is h = absurd is

-- the runs of two images that do as is meant and have come to an end are the same
both_over : (program : Checked) (frames : List ℕ) (a b : Image) (input : List ℤ) (m n : ℕ) →
    DoesAsMeant program frames a input → DoesAsMeant program frames b input →
    (progress a input m).ending ≢ None → (progress b input n).ending ≢ None →
    progress a input m ≡ progress b input n
both_over program frames a b input m n does too over more =
    let first = does.agrees.back.ends m over in
    let second = too.agrees.back.ends n more in
    sym first.1 ∙ ends_once program frames input first.0 second.0
    (subst (λ (p : Progress OutEvent RunEnd). p.ending ≢ None) (sym first.1) over)
    (subst (λ (p : Progress OutEvent RunEnd). p.ending ≢ None) (sym second.1) more) ∙ second.1

taken_as_read : (a b : Image) (input : List ℤ) (m n : ℕ) →
    progress a input m ≡ progress b input n →
    (machine_run a input m).reads ≡ (machine_run b input n).reads
taken_as_read a b input m n same = ap (λ (p : Progress OutEvent RunEnd). p.taken - 0) same

pub exec_does_as_run : (asked other another : Asked) (source file input : List ℕ)
    (u v w : Writes) (r s t : Status) (run : RunMakes a_file.Module asked source input v s)
    (compiled : CompileMakes a_file.Module other source [] u r)
    (exec : ExecMakes another file input w t) →
    u.files ≡ one_file other.image file →
    procedure_lines 0 run.made.compiled.procs ≡ procedure_lines 0 compiled.made.compiled.procs →
    s ≢ status.Going → t ≢ status.Going →
    (s ≡ t) × (v.out ≡ w.out) ×
    ((run_of run.made.compiled.image run.numbers asked.steps).reads
    ≡ (run_of exec.image exec.numbers another.steps).reads)
exec_does_as_run asked other another source file input u v w r s t run compiled exec files lines
    not_going not_either =
    let a = run.made.compiled in
    let b = compiled.made.compiled in
    let one = run.made_of.is in
    let two = compiled.made_of.is in
    let program = two.text.checked in
    let frames = frames_of b.procs in
    let module_same : one.text.checked ≡ program = ap (λ (x : ReadText). x.checked)
    (one_reading.one_way source one.text two.text one.read two.read) in
    let a_is : IsCompiled program (wanted_by asked) a =
    subst (λ (p : Checked). IsCompiled p (wanted_by asked) a) module_same
    (compiled_of asked source run.made run.made_of) in
    let b_is = compiled_of other source compiled.made compiled.made_of in
    let same : frames_of a.procs ≡ frames =
    same_frames program (wanted_by asked) (wanted_by other) a b a_is b_is lines in
    let image = written_image other.image file u.files b.image exec.image
    (ap (λ (x : Writes). x.files) compiled.writes) files compiled.made_of.built.valid exec.held in
    let numbers = one_numbers input exec.numbers run.numbers exec.has run.has in
    let words = numbers_are_words input run.numbers run.has.1 in
    let does : DoesAsMeant program frames a.image run.numbers =
    subst (λ (fs : List ℕ). DoesAsMeant program fs a.image run.numbers) same
    (a_is.does run.numbers words) in
    let too : DoesAsMeant program frames exec.image run.numbers =
    subst (λ (i : Image). DoesAsMeant program frames i run.numbers) image
    (b_is.does run.numbers words) in
    let again : machine_run exec.image exec.numbers another.steps
    ≡ machine_run exec.image run.numbers another.steps =
    ap (λ (ns : List ℤ). machine_run exec.image ns another.steps) numbers in
    let ended : t ≡ status_of_machine (machine_run exec.image run.numbers another.steps).ending =
    exec.ended ∙ ap (λ (x : RunOut). status_of_machine x.ending) again in
    let alike = both_over program frames a.image exec.image run.numbers asked.steps another.steps
    does too (run_over _ s run.ended not_going)
    (machine_over _ (subst (λ (x : Status). x ≢ status.Going) ended not_either)) in (
      same_status _ _ s run.ended (ap (λ (p : Progress OutEvent RunEnd). p.ending) alike)
          ∙ sym ended,
      ap (λ (x : Writes). x.out) run.writes
          ∙ ap (λ (p : Progress OutEvent RunEnd). output_text p.events) alike
          ∙ sym (ap (λ (x : RunOut). output_text x.events) again)
          ∙ sym (ap (λ (x : Writes). x.out) exec.writes),
      taken_as_read a.image exec.image run.numbers asked.steps another.steps alike
          ∙ sym (ap (λ (x : RunOut). x.reads) again),
    )
