use Rattle.std.proofs.Common.{sym, ap, ◌∙◌}
use Rattle.std.specs.Prelude.{unwrap_or}
use Rattle.ob_interp.proofs.Kept.{read-kept}
use Rattle.ob_interp.proofs.memory.Memory.content.Goals as goal

pub returns-in-Some : goal.returns-in-Some
returns-in-Some c = sym (read-kept c.args.self.now c.args.start c.args.at
    ∙ ap (λ x. unwrap_or x c.args.start) (sym c.kept.ensures ∙ c.in-Some.is))

pub returns-in-None : goal.returns-in-None
returns-in-None c = sym (read-kept c.args.self.now c.args.start c.args.at
    ∙ ap (λ x. unwrap_or x c.args.start) (sym c.kept.ensures ∙ c.in-None.is))
