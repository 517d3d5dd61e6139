use Rattle.std.proofs.Common.{string_bytes, ap, ◌++◌, ◌∙◌}
use Rattle.pra_gen.specs.Module.{heading, before_assignments, assignments, behind_assignments}
use Rattle.pra_gen.specs.Module.{ending}
use Rattle.pra_gen.proofs.Rows.{five_pieces}
use Rattle.pra_gen.proofs.module.push_procedure.Goals as goal

pub returns-clause-text : goal.returns-clause-text
returns-clause-text c =
    five_pieces (string_bytes c.args.text.now) (string_bytes c.write.new.self)
    (string_bytes c.push_str.new.self)
    (string_bytes c.push_assignments.new.text) (string_bytes c.push_str-2.new.self)
    (string_bytes c.write-2.new.self)
    (heading c.args.number) before_assignments (assignments c.args.draws.now.state)
    behind_assignments
    (ending c.args.number)
    c.in_ok-write.ensures.bytes
    (c.in_ok-push_str.ensures.bytes ∙ ap (λ t. string_bytes c.write.new.self ++ t)
    c.before_assignments.ensures)
    c.in_ok-push_assignments.ensures.text
    (c.in_ok-push_str-2.ensures.bytes ∙ ap (λ t. string_bytes c.push_assignments.new.text ++ t)
    c.behind_assignments.ensures)
    c.in_ok-write-2.ensures.bytes
