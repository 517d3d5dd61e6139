use Rattle.std.proofs.Common.{not, refl}
use Rattle.std.proofs.lemmas.List.Sorted.{IsPermutation-filter_both}
use Rattle.net_form.specs.Flow.{Edge, flow}
use Rattle.al_laws.proofs.Put.{parts_apart}
use Rattle.al_laws.proofs.laws.flows_have_two_parts.Goals as goal

pub returns-clause-whole : goal.returns-clause-whole
returns-clause-whole c = λ net mine routes.
    IsPermutation-filter_both (λ (e : Edge). mine e.strand) (λ (e : Edge). not (mine e.strand))
    (λ e. refl) (flow net routes)

pub returns-clause-apart : goal.returns-clause-apart
returns-clause-apart c = parts_apart
