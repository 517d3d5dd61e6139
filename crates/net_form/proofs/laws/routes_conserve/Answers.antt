use Rattle.net_form.proofs.RoutesConserve.{flow_conserves}
use Rattle.net_form.proofs.laws.routes_conserve.Goals as goal

pub returns : goal.returns
returns c = λ net routes formed has. flow_conserves net.strands routes.places
    (λ k d lt. (formed.strands k d lt).order) has
