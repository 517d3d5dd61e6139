use Rattle.std.proofs.Common.{refl, false, true}
use Rattle.ob_interp.specs.declared.memory.Layer.{Layer}
use Rattle.ob_interp.proofs.Kept.{layer-written, put_there}
use Rattle.ob_interp.proofs.memory.Memory.assign.Goals as goal

pub returns-in-Module : goal.returns-in-Module
returns-in-Module c =
    put_there c.args.self.now c.put.new.parts c.put.result c.in-Module.n c.part.result c.args.at
    c.args.value c.in-Module.is c.part.ensures.number c.part.ensures.path c.put.ensures

pub returns-in_ok-put-in-Param : goal.returns-in_ok-put-in-Param
returns-in_ok-put-in-Param c =
    let taken = c.replace-layer in
    let layer : Layer = record { params = c.put-in-Param.new.parts; locals = taken.result.locals }
    in
    layer-written c.args.self.now c.reach.new.self false c.in-Param.depth c.in-Param.n c.args.at
    c.args.value c.part-in-Param.result taken.result c.index_mut.result.now taken.new.dest layer
    c.reach.ensures.same c.in-Param.is c.part-in-Param.ensures.number
    c.part-in-Param.ensures.path c.in_ok-reach-in-Param.ensures.there c.index_mut.ensures.value
    taken.ensures.value c.in_ok-put-in-Param.ensures refl

pub returns-in_ok-put-in-Local : goal.returns-in_ok-put-in-Local
returns-in_ok-put-in-Local c =
    let taken = c.replace-layer-in-Local in
    let layer : Layer = record { params = taken.result.params; locals = c.put-in-Local.new.parts }
    in
    layer-written c.args.self.now c.reach-in-Local.new.self true c.in-Local.depth c.in-Local.n
    c.args.at c.args.value c.part-in-Local.result taken.result c.index_mut-in-Local.result.now
    taken.new.dest layer c.reach-in-Local.ensures.same c.in-Local.is
    c.part-in-Local.ensures.number c.part-in-Local.ensures.path
    c.in_ok-reach-in-Local.ensures.there c.index_mut-in-Local.ensures.value taken.ensures.value
    c.in_ok-put-in-Local.ensures refl
