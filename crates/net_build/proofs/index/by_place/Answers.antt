use Rattle.std.proofs.Common.{ℕ, ◌∙◌, List, map, ap}
use Rattle.net_form.specs.declared.net.Strand.{Strand}
use Rattle.net_form.specs.Index.{var_count}
use Rattle.net_build.specs.Owners.{by_owner}
use Rattle.net_build.proofs.Indexing.{vars_are}
use Rattle.net_build.proofs.index.by_place.Goals as goal

pub returns-clause-of_vars : goal.returns-clause-of_vars
returns-clause-of_vars c =
    c.in_ok-of_vars.ensures
    ∙ ap (λ (l : List ℕ). by_owner l c.in-Some.count) c.in_ok-owners-2.ensures
    ∙ ap (by_owner (map (λ (t : Strand). t.var.0) c.args.strands.now)) c.in-Some.ensures
    ∙ vars_are c.args.strands.now (var_count c.args.strands.now)
