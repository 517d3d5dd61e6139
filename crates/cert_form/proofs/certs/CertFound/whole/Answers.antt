use Rattle.std.proofs.Common.{◌≡◌, None, arith, rules}
use Rattle.cert_form.proofs.Held.{no_vars, no_ties, cert_found}
use Rattle.cert_form.proofs.certs.CertFound.whole.Goals as goal

pub returns-in_err-vars : goal.returns-in_err-vars
returns-in_err-vars c = λ os h.
    let none : c.from_residual-in_err-vars.result ≡ None = search rules in
    rw none (no_vars c.args.self os h c.args.number c.in_err-vars.was)

pub returns-in_err-ties : goal.returns-in_err-ties
returns-in_err-ties c = λ os h.
    let none : c.from_residual-in_err-ties.result ≡ None = search rules in
    rw none (no_ties c.args.self os h c.args.number c.in_err-ties.was)

pub returns : goal.returns
returns c = λ os h.
    cert_found c.args.self os h c.args.number (omega arith) c.in_ok-aggregates.field-0
    c.in_ok-args.field-0 c.in_ok-bound.field-0 c.in_ok-total.field-0 c.in_ok-blocks.field-0
    c.in_ok-caps.field-0 c.in_ok-mems.field-0 c.in_ok-routes.field-0 c.in_ok-ties.field-0
    c.in_ok-vars.field-0 c.in_ok-aggregates.was c.in_ok-args.was c.in_ok-blocks.was
    c.in_ok-bound.was c.in_ok-caps.was c.in_ok-mems.was c.in_ok-routes.was c.in_ok-ties.was
    c.in_ok-total.was c.in_ok-vars.was
