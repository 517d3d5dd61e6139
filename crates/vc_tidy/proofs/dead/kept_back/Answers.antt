use Rattle.std.proofs.Common.{◌-◌, ◌∙◌, refl, get_or, length, arith}
use Rattle.std.proofs.lemmas.Option.{slice_get-get_or}
use Rattle.vc_tidy.specs.Thinned.{exit_of}
use Rattle.vc_tidy.proofs.Marking.{in_here, no_instr}
use Rattle.vc_tidy.proofs.Thin.{back_begins, back_keeps, back_drops}
use Rattle.vc_tidy.proofs.dead.kept_back.Goals as goal

pub loop-left-init : goal.loop-left-init
loop-left-init c =
    let b = back_begins (exit_of c.args.liveness.now c.args.id.0 c.args.code.now) c.args.code.now
    (length c.args.code.now) c.mark_exit.new.marks.items c.in_ok-kept.kept.items
    c.in_ok-kept.ensures.items refl c.mark_exit.ensures.marks in
    record { within = omega arith; count = c.mark_exit.ensures.count; thins = b.0; marks = b.1 }

pub is_needed-requires : goal.is_needed-requires
is_needed-requires c = rw (c.as_slice.ensures.value, c.loop-left.invariant.count)
    (λ v named. c.requires.names v
    (in_here c.args.code.now (c.loop-left.left - 1) v _
    (slice_get-get_or c.args.code.now (c.loop-left.left - 1) no_instr
    (omega (arith, c.loop-left.invariant.within))) named))

pub step_back-requires : goal.step_back-requires
step_back-requires c = rw c.loop-left.invariant.count
    (λ v named. c.requires.names v
    (in_here c.args.code.now (c.loop-left.left - 1) v _
    (slice_get-get_or c.args.code.now (c.loop-left.left - 1) no_instr
    (omega (arith, c.loop-left.invariant.within))) named))

pub loop-left-preserved-in-Continue-branch-2 : goal.loop-left-preserved-in-Continue-branch-2
loop-left-preserved-in-Continue-branch-2 c =
    let i = get_or c.args.code.now (c.loop-left.left - 1) no_instr in
    let needed = rw c.as_slice.ensures.value at c.if-is_needed.ensures.needed refl in
    let b = back_keeps (exit_of c.args.liveness.now c.args.id.0 c.args.code.now) c.args.code.now
    (c.loop-left.left - 1) c.loop-left.left i no_instr c.loop-left.marks.items
    c.loop-left.kept.items
    (omega arith) (omega (arith, c.loop-left.invariant.within)) refl c.loop-left.invariant.thins
    c.loop-left.invariant.marks c.step_back.new.marks.items needed c.step_back.ensures.marks in
    record {
      within = omega (arith, c.loop-left.invariant.within);
      count = c.step_back.ensures.count ∙ c.loop-left.invariant.count;
      thins = rw c.in_ok-push.ensures.items b.0;
      marks = rw c.in_ok-push.ensures.items b.1;
    }

pub loop-left-preserved : goal.loop-left-preserved
loop-left-preserved c =
    let i = get_or c.args.code.now (c.loop-left.left - 1) no_instr in
    let dead = rw c.as_slice.ensures.value at c.if-is_needed.ensures.dead refl in
    record {
      within = omega (arith, c.loop-left.invariant.within);
      count = c.loop-left.invariant.count;
      thins = back_drops (exit_of c.args.liveness.now c.args.id.0 c.args.code.now) c.args.code.now
          (c.loop-left.left - 1) c.loop-left.left i no_instr c.loop-left.marks.items
          c.loop-left.kept.items
          (omega arith) (omega (arith, c.loop-left.invariant.within)) refl
          c.loop-left.invariant.thins c.loop-left.invariant.marks dead.0 dead.1;
      marks = c.loop-left.invariant.marks;
    }
