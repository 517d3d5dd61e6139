use Rattle.std.proofs.Common.{refl, ◌∙◌}
use Rattle.ob_interp.proofs.Kept.{layer-added}
use Rattle.ob_interp.proofs.memory.Memory.reach.Goals as goal

pub loop-alloc-preserved : goal.loop-alloc-preserved
loop-alloc-preserved c =
    layer-added c.loop-alloc.self (record {
      «module» = c.loop-alloc.self.«module»;
      layers =
          c.push.new.self;
    }) c.empty_layer.result c.empty_layer.ensures.params
    c.empty_layer.ensures.locals refl c.in_ok-push.ensures.items
    ∙ c.loop-alloc.invariant
