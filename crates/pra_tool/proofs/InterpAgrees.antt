-- What `run` and `interp` make of one source and one input is the same, where both come to an end.
use Rattle.std.proofs.Common.{◌≡◌, ◌≢◌, ◌+◌, ◌-◌, ℕ, ℤ, List, Option, Some, None, refl, sym, ap}
use Rattle.std.proofs.Common.{◌∙◌, subst, arith}
use Rattle.pra_base.specs.Agreement.{Progress}
use Rattle.pra_base.specs.RunEnd as end
use Rattle.pra_base.specs.declared.event.OutEvent.{OutEvent}
use Rattle.pra_base.specs.RunEnd.{RunEnd}
use Rattle.pra_list.proofs.Options.{none_some, some_same}
use Rattle.pra_report.specs.Texts.{output_text}
use Rattle.ia_step.specs.declared.out.Ending.{Ending}
use Rattle.ia_step.specs.declared.out.Ending.TheVariants as ending
use Rattle.ia_step.specs.Run.{run_end, machine_run, progress}
use Rattle.ob_interp.specs.declared.interpret.UnitEnding.{UnitEnding}
use Rattle.ob_interp.specs.declared.interpret.UnitEnding.TheVariants as unit
use Rattle.ob_interp.specs.declared.interpret.UnitOut.{UnitOut}
use Rattle.ob_interp.specs.Told.{told}
use Rattle.ob_interp.specs.Units.{Halt, Done, Failed, Stopped, units_run, progress_in}
use Rattle.ob_interp.proofs.Follows.{units_end_as_meant}
use Rattle.ob_mean.specs.Program.{mean}
use Rattle.ob_mean.proofs.Budgets.{mean_keeps}
use Rattle.ob_syntax.specs.declared.checked.Checked.{Checked}
use Rattle.pra_follow.specs.Follows.{DoesAsMeant}
use Rattle.ia_code.specs.declared.image.Image.{Image}
use Rattle.pra_tool.specs.declared.status.Status.{Status}
use Rattle.pra_tool.specs.declared.status.Status.TheVariants as status
use Rattle.ob_read.specs.Source.{ReadText}
use Rattle.ob_read.proofs.Reading.{one_reading}
use Rattle.pra_words.specs.declared.words.FileKind.TheVariants as a_file
use Rattle.pra_words.specs.Words.{Asked}
use Rattle.pra_tool.specs.Clause.{run_of, RunMakes}
use Rattle.pra_tool.specs.Inputs.{HasNumbers}
use Rattle.pra_tool.specs.Interpreted.{units_of, InterpMakes}
use Rattle.pra_compile.specs.Compiled.{frames_of}
use Rattle.pra_tool.specs.Status.{IsStatusOf, status_of_units}
use Rattle.pra_tool.specs.Writes.{Writes}
use Rattle.pra_tool.specs.Compiling.{wanted_by}
use Rattle.pra_compile.specs.Compiled.{IsCompiled}
use Rattle.pra_report.specs.Report.{procedure_lines}
use Rattle.pra_tool.proofs.SameFrames.{same_frames}
use Rattle.pra_tool.proofs.Sources.{compiled_of}
use Rattle.pra_tool.proofs.InputWords.{numbers_are_words}

-- ---- both came to an end of the meaning

-- how a run by the meaning ended
abbrev unit_end : UnitEnding → Option RunEnd
unit_end unit.Going = None
unit_end unit.Ended = Some end.Ended
unit_end (unit.Trap k) = Some (end.Trapped k)

-- it is told as it came
told_end : (h : Halt) → unit_end (told h).ending ≡ (progress_in h).ending
told_end (Done c) = refl
told_end x = refl

told_events : (h : Halt) → (told h).events ≡ (progress_in h).events
told_events (Done c) = refl
told_events x = refl

told_reads : (h : Halt) → (told h).reads ≡ (progress_in h).taken
told_reads (Done c) = refl
told_reads x = refl

-- the meaning at two budgets, by each of which it ends
pub ends_once : (program : Checked) (frames : List ℕ) (input : List ℤ) (m n : ℕ) →
    (mean program frames input m).ending ≢ None → (mean program frames input n).ending ≢ None →
    mean program frames input m ≡ mean program frames input n
ends_once program frames input m n over more =
    let keeps = mean_keeps program frames input in
    sym (keeps.stays m (m + n) (omega arith) over) ∙ keeps.stays n (m + n) (omega arith) more

-- the image's run and the run by the meaning have come to the same
pub come_to_the_same : (program : Checked) (frames : List ℕ) (image : Image) (input : List ℤ)
    (steps units : ℕ) → DoesAsMeant program frames image input →
    (progress image input steps).ending ≢ None →
    (progress_in (units_run program frames input units)).ending ≢ None →
    progress image input steps ≡ progress_in (units_run program frames input units)
come_to_the_same program frames image input steps units does over more =
    let meant = does.agrees.back.ends steps over in
    let at = units_end_as_meant program frames input units more in
    let first : (mean program frames input meant.0).ending ≢ None =
    subst (λ (p : Progress OutEvent RunEnd). p.ending ≢ None) (sym meant.1) over in
    let second : (mean program frames input units).ending ≢ None =
    subst (λ (p : Progress OutEvent RunEnd). p.ending ≢ None) at more in
    sym meant.1 ∙ ends_once program frames input meant.0 units first second ∙ sym at

-- ---- by their statuses

pub run_over : (e : Ending) (s : Status) → IsStatusOf e s → s ≢ status.Going → run_end e ≢ None
run_over ending.Ended status.Ended is other = λ e. absurd (none_some (sym e))
run_over (ending.Trap k) status.Trapped is other = λ e. absurd (none_some (sym e))
run_over ending.Going status.Going is other = absurd (other refl)
run_over (ending.Fault k) s is other = absurd is
run_over ending.Ended _ is other = absurd is
run_over (ending.Trap k) _ is other = absurd is
run_over ending.Going _ is other = absurd is

units_over : (u : UnitEnding) → status_of_units u ≢ status.Going → unit_end u ≢ None
units_over unit.Ended other = λ e. absurd (none_some (sym e))
units_over (unit.Trap k) other = λ e. absurd (none_some (sym e))
units_over unit.Going other = absurd (other refl)

same_status : (e : Ending) (s : Status) (u : UnitEnding) → IsStatusOf e s →
    run_end e ≡ unit_end u → s ≡ status_of_units u
same_status ending.Ended status.Ended unit.Ended is h = refl
same_status ending.Ended status.Ended (unit.Trap k) is h =
    let same : end.Ended ≡ end.Trapped k = some_same _ _ h in cc
same_status ending.Ended status.Ended unit.Going is h = absurd (none_some (sym h))
same_status (ending.Trap j) status.Trapped unit.Ended is h =
    let same : end.Trapped j ≡ end.Ended = some_same _ _ h in cc
same_status (ending.Trap j) status.Trapped (unit.Trap k) is h = refl
same_status (ending.Trap j) status.Trapped unit.Going is h = absurd (none_some (sym h))
same_status ending.Going status.Going unit.Ended is h = absurd (none_some h)
same_status ending.Going status.Going (unit.Trap k) is h = absurd (none_some h)
same_status ending.Going status.Going unit.Going is h = refl
same_status (ending.Fault k) s u is h = absurd is
same_status ending.Ended _ u is h = absurd is
same_status (ending.Trap k) _ u is h = absurd is
same_status ending.Going _ u is h = absurd is

minus_none : (n : ℕ) → n - 0 ≡ n
minus_none n = omega arith

-- an image's run and a run by the meaning that both come to an end do the same
pub end_alike : (program : Checked) (frames : List ℕ) (image : Image) (input : List ℤ)
    (steps units : ℕ) (s t : Status) → DoesAsMeant program frames image input →
    IsStatusOf (machine_run image input steps).ending s →
    t ≡ status_of_units (told (units_run program frames input units)).ending →
    s ≢ status.Going → t ≢ status.Going →
    (s ≡ t) ×
    ((machine_run image input steps).events ≡ (told (units_run program frames input units)).events)
    ×
    ((machine_run image input steps).reads ≡ (told (units_run program frames input units)).reads)
end_alike program frames image input steps units s t does is was other another =
    let run = machine_run image input steps in
    let halt = units_run program frames input units in
    let over : (progress image input steps).ending ≢ None = run_over run.ending s is other in
    let more : (progress_in halt).ending ≢ None =
    subst (λ (e : Option RunEnd). e ≢ None) (told_end halt)
    (units_over (told halt).ending (subst (λ (x : Status). x ≢ status.Going) was another)) in
    let same = come_to_the_same program frames image input steps units does over more in (
      same_status run.ending s (told halt).ending is
          (ap (λ (p : Progress OutEvent RunEnd). p.ending) same ∙ sym (told_end halt)) ∙ sym was,
      ap (λ (p : Progress OutEvent RunEnd). p.events) same ∙ sym (told_events halt),
      minus_none _ ∙ ap (λ (p : Progress OutEvent RunEnd). p.taken) same ∙ sym (told_reads halt),
    )

-- ---- what is made of one source and one input

-- one input has one list of numbers
pub one_numbers : (input : List ℕ) (a b : List ℤ) → HasNumbers input a → HasNumbers input b → a ≡ b
one_numbers input a b p q = let e = sym p.1 ∙ q.1 in cc

pub interp_does_as_run : (asked other : Asked) (source input : List ℕ) (v w : Writes) (s t : Status)
    (run : RunMakes a_file.Module asked source input v s)
    (interp : InterpMakes other source input w t) →
    procedure_lines 0 run.made.compiled.procs ≡ procedure_lines 0 interp.made.compiled.procs →
    s ≢ status.Going → t ≢ status.Going →
    (s ≡ t) × (v.out ≡ w.out) ×
    ((run_of run.made.compiled.image run.numbers asked.steps).reads
    ≡ (units_of interp.made_of.is.text.checked interp.made.compiled interp.numbers
    other.steps).reads)
interp_does_as_run asked other source input v w s t run interp lines not_going not_either =
    let image = run.made.compiled.image in
    let frames = frames_of interp.made.compiled.procs in
    let one = run.made_of.is in
    let two = interp.made_of.is in
    let program = two.text.checked in
    let module_same : one.text.checked ≡ program = ap (λ (x : ReadText). x.checked)
    (one_reading.one_way source one.text two.text one.read two.read) in
    let to : IsCompiled program (wanted_by asked) run.made.compiled =
    subst (λ (p : Checked). IsCompiled p (wanted_by asked) run.made.compiled) module_same
    (compiled_of asked source run.made run.made_of) in
    let same : frames_of run.made.compiled.procs ≡ frames =
    same_frames program (wanted_by asked) (wanted_by other) run.made.compiled
    interp.made.compiled to (compiled_of other source interp.made interp.made_of) lines in
    let numbers = one_numbers input interp.numbers run.numbers interp.has run.has in
    let does : DoesAsMeant program frames image run.numbers =
    subst (λ (fs : List ℕ). DoesAsMeant program fs image run.numbers) same
    (to.does run.numbers (numbers_are_words input run.numbers run.has.1)) in
    let units : t ≡ status_of_units
    (told (units_run program frames run.numbers other.steps)).ending =
    subst (λ (ns : List ℤ). t ≡ status_of_units
    (told (units_run program frames ns other.steps)).ending) numbers interp.ended in
    let all = end_alike program frames image run.numbers asked.steps other.steps s t does
    run.ended units not_going not_either in
    let again : told (units_run program frames run.numbers other.steps)
    ≡ told (units_run program frames interp.numbers other.steps) =
    ap (λ (ns : List ℤ). told (units_run program frames ns other.steps)) (sym numbers) in (
      all.0,
      ap (λ (x : Writes). x.out) run.writes
          ∙ ap output_text (all.1 ∙ ap (λ (u : UnitOut). u.events) again)
          ∙ sym (ap (λ (x : Writes). x.out) interp.writes),
      all.2 ∙ ap (λ (u : UnitOut). u.reads) again,
    )
