use Rattle.std.proofs.Common.{◌≡◌, ◌+◌, ◌-◌, ◌++◌, [], ◌∷◌, ap, ◌∙◌}
use Rattle.std.specs.Prelude.{pos}
use Rattle.pra_base.specs.declared.code.VInstr.TheVariants.{Set}
use Rattle.vc_proc.specs.Opening.{zeros}
use Rattle.vc_proc.proofs.Zeroing.{zeros_more}
use Rattle.vc_proc.proofs.opening.opening.Goals as goal

pub loop-v-preserved : goal.loop-v-preserved
loop-v-preserved c =
    let pushed : c.push-in-loop-v.new.self.items ≡ c.loop-v.code.items
    ++ Set (record { 0 = c.loop-v.v }) (pos 0) ∷ [] = c.in_ok-push-2.ensures.items in
    ap (λ is. is ++ zeros (c.loop-v.v + 1) (c.args.end - (c.loop-v.v + 1))) pushed
    ∙ zeros_more c.loop-v.code.items _ c.loop-v.v c.args.end c.loop-v-test.true c.loop-v.invariant
