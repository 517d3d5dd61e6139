use Rattle.std.proofs.Common.{◌≡◌, length, sym, ap, ◌∙◌}
use Rattle.std.proofs.lemmas.List.{take_at}
use Rattle.ia_step.proofs.StepsKeep.{done_keeps_code}
use Rattle.ia_step.proofs.machine.Machine.execute.Goals as goal

pub invariant_of-self : goal.invariant_of-self
invariant_of-self c =
    let code : c.execute.new.self.code ≡ c.self.inside.processor.code =
    done_keeps_code _ _ c.execute.result c.execute.ensures in
    let as_many : length c.look_up-index.new.entries ≡ c.self.inside.entries.len =
    c.look_up-index.ensures.kept.count ∙ sym c.self.invariant.count
    ∙ sym (ap length c.deref_mut.ensures.value) ∙ c.deref_mut.ensures.len in
    rw (code, take_at c.look_up-index.new.entries _ _ as_many) c.look_up-index.ensures.kept
