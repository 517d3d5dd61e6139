-- What is told of a run that is over by a halt.
use Rattle.std.specs.Prelude.{◌≡◌, ℕ, Result, IfOk}
use Rattle.pra_base.specs.RunEnd.{RunEnd, Ended, Trapped, Wrong}
use Rattle.pra_base.specs.declared.event.OutOfMemory.{OutOfMemory}
use Rattle.vc_code.specs.Machine.{State, Machine, ended}
use Rattle.vc_code.specs.Selected.{Vars}
use Rattle.vc_run.specs.declared.halt.Halt.{Halt}
use Rattle.vc_run.specs.declared.halt.Halt.TheVariants as halt
use Rattle.vc_run.specs.declared.out.CodeOut.{CodeOut}
use Rattle.vc_run.specs.Run.{told}

-- so many steps, of which the last one came to this end, of a machine that stands so
abbrev pub told_at : Machine Vars → State Vars → RunEnd → ℕ → CodeOut
told_at m s e n = told m (record { state = ended s e; steps = n })

-- the answer where a step did not go on: for want of memory there is none
abbrev pub Tells :
    Machine Vars → State Vars → Halt → ℕ → Result CodeOut OutOfMemory → Type 0
Tells m s halt.Ended n r = IfOk r (λ out. out ≡ told_at m s Ended n)
Tells m s (halt.Trap k) n r = IfOk r (λ out. out ≡ told_at m s (Trapped k) n)
Tells m s halt.Stuck n r = IfOk r (λ out. out ≡ told_at m s Wrong n)
Tells m s halt.OutOfMemory n r = IfOk r (λ out. ⊥)
