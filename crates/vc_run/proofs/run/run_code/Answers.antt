use Rattle.std.proofs.Common.{◌≡◌, ◌∙◌, ◌+◌, ◌-◌, ◌<◌, ap, ap₂, refl, arith}
use Rattle.pra_base.specs.System.{run}
use Rattle.pra_base.specs.declared.code.VModule.{VModule}
use Rattle.vc_code.specs.Machine.{State, Machine, step}
use Rattle.vc_code.specs.Selected.{Vars, selected, start}
use Rattle.vc_run.specs.Procs.{procs_of}
use Rattle.vc_run.specs.Run.{Ran, advance, told}
use Rattle.vc_run.specs.Stands.{Whole, state_of, whole_of}
use Rattle.vc_run.proofs.RanSteps.{one_more, if_ok, halted}
use Rattle.vc_run.proofs.run.run_code.Goals as goal

pub loop-made-init : goal.loop-made-init
loop-made-init c =
    let m : Machine Vars = selected (procs_of c.args.codes.now) c.args.frames.now in
    let all : c.args.steps - 0 ≡ c.args.steps = omega arith in
    let began = ap (λ (w : Whole). w.state) c.in_ok-run.ensures
    ∙ ap (λ codes. start (record { procs = procs_of codes; data_words = c.args.data_words })
    c.args.input.now) c.new-program.ensures in (
      ap (λ (w : Whole). w.frames) c.in_ok-run.ensures,
      omega arith,
      ap₂ (λ n (s : State Vars). run (advance m) n (record { state = s; steps = 0 })) all began,
    )

pub loop-made-preserved : goal.loop-made-preserved
loop-made-preserved c =
    let m : Machine Vars = selected (procs_of c.args.codes.now) c.args.frames.now in
    let code : VModule = record {
      procs = procs_of c.args.codes.now;
      data_words = c.args.data_words;
    } in
    let s = state_of c.loop-made.run in
    let made = c.loop-made.made in
    let i = c.loop-made.invariant in
    let same = ap₂ (λ codes frames. selected (procs_of codes) frames) c.new-program.ensures i.0 in
    let room : made < c.args.steps = omega (arith, c.loop-made-test.true) in
    let stepped = ap (λ (w : Whole). w.state) c.in-Ok.ensures ∙ ap (λ n. step n s) same in (
      ap (λ (w : Whole). w.frames) c.in-Ok.ensures ∙ i.0,
      omega (arith, room),
      ap (λ (t : State Vars). run (advance m) (c.args.steps - (made + 1))
          (record { state = t; steps = made + 1 })) stepped
          ∙ one_more m s (start code c.args.input.now) made c.args.steps refl room i.2,
    )

pub returns-in-Err : goal.returns-in-Err
returns-in-Err c =
    let m : Machine Vars = selected (procs_of c.args.codes.now) c.args.frames.now in
    let code : VModule = record {
      procs = procs_of c.args.codes.now;
      data_words = c.args.data_words;
    } in
    let i = c.loop-made.invariant in
    let codes = c.new-program.result.codes.now in
    let same = ap₂ (λ codes frames. selected (procs_of codes) frames) c.new-program.ensures i.0 in
    let room : c.loop-made.made < c.args.steps = omega (arith, c.loop-made-test.true) in
    halted m (state_of c.loop-made.run) (start code c.args.input.now) c.loop-made.made c.args.steps
    refl room i.2 (Unit {0}) (λ frames. selected (procs_of codes) frames) (whole_of c.loop-made.run)
    (whole_of c.step.new.self) same refl c.ended.result c.in-Err.halt c.in-Err.ensures
    c.ended.ensures

pub returns : goal.returns
returns c =
    let m : Machine Vars = selected (procs_of c.args.codes.now) c.args.frames.now in
    let i = c.loop-made.invariant in
    let here : Ran = record { state = state_of c.loop-made.run; steps = c.loop-made.made } in
    let done : 0 ≡ c.args.steps - c.loop-made.made = omega (arith, i.1, c.loop-made-test.false) in
    if_ok c.told.result _ _ (ap (told m) (ap (λ n. run (advance m) n here) done ∙ i.2))
    c.told.ensures
