use Rattle.std.proofs.Common.{refl, ap, ◌∙◌, Vec}
use Rattle.std.specs.declared.alloc.Global.{Global}
use Rattle.std.specs.Vec.{with_item}
use Rattle.ob_mean.specs.Store.{begun}
use Rattle.ob_interp.specs.declared.memory.Layer.{Layer}
use Rattle.ob_interp.proofs.Kept.{layer-begun}
use Rattle.ob_interp.proofs.memory.Memory.begin.Goals as goal

pub returns : goal.returns
returns c =
    let written : Vec Layer Global = with_item c.reach.new.self.layers c.args.depth
    c.empty_layer.result in
    layer-begun c.reach.new.self written c.args.depth c.empty_layer.result
    c.in_ok-reach.ensures.there refl c.empty_layer.ensures.params c.empty_layer.ensures.locals
    ∙ ap (λ s. begun s c.args.depth) c.reach.ensures.same
