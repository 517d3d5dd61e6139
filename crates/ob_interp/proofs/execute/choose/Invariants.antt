use Rattle.std.proofs.Common.{◌≡◌, drop, map}
use Rattle.ob_interp.specs.Units.{first_true, counted, counted_arm}
use Rattle.ob_interp.specs.Running.{around, counted_of}
use Rattle.ob_interp.proofs.execute.choose.Given as goal

abbrev pub invariant-loop-arm : goal.invariant-loop-arm
invariant-loop-arm l =
    let p = l.setting.program.now in
    let a = around l.setting l.running in
    let c = counted_of l.setting.input.now l.running in
    record {
      goes : first_true (map (counted_arm p) (drop l.arm-index l.arms)) (map (counted p) l.other)
          a c ≡ first_true (map (counted_arm p) l.arms) (map (counted p) l.other) a c;
      tasks : l.tasks.items ≡ l.fn.tasks.items;
    }
