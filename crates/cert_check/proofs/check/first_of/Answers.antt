use Rattle.std.proofs.Common.{ℕ, List, length, refl, subst}
use Rattle.std.proofs.lemmas.Option.{slice_get_read}
use Rattle.net_cost.specs.Models.{weights_of}
use Rattle.net_cost.specs.declared.weights.Weights.{Weights}
use Rattle.net_form.specs.Network.{IsNet}
use Rattle.net_laws.proofs.Built.{built}
use Rattle.cert_check.specs.declared.code.Found.TheVariants.{Fails}
use Rattle.vc_valid.specs.Listed.{HasCode}
use Rattle.cert_check.specs.Reasons.{IsFound, IsFirstIn, IsFirstOf}
use Rattle.cert_check.proofs.Claims.{fails_found, first_of, if_ok}
use Rattle.cert_check.proofs.check.first_of.Goals as goal

pub returns-in-Fails : goal.returns-in-Fails
returns-in-Fails g c =
    let certificate = c.args.c.now in
    let p = c.args.number in
    let cert = c.index-cert.result.now in
    let reason = c.in-Fails.reason in
    let found : IsFound c.args.counts.now p cert (Fails reason)
    = subst (IsFound c.args.counts.now p cert) c.in-Fails.is c.in_ok-reason.ensures in
    fails_found certificate p cert reason
    (slice_get_read certificate.procs (length certificate.procs) p cert refl
    c.requires.number c.index-cert.ensures)
    (subst (λ (counts : List ℕ). IsFound counts p cert (Fails reason)) c.requires.counts found)

pub first_in-requires-clause-net : goal.first_in-requires-clause-net
first_in-requires-clause-net g c =
    let cert = c.index-cert.result.now in
    let net = c.in-Made.net in
    let found : HasCode c.args.counts.now c.args.number cert.code × IsNet net cert.code
    = subst (IsFound c.args.counts.now c.args.number cert) c.in-Made.is
    c.in_ok-reason.ensures in
    built cert.code net found.1 found.0.valid found.0.sized

pub returns-in-Made : goal.returns-in-Made
returns-in-Made g c =
    let certificate = c.args.c.now in
    let p = c.args.number in
    let cert = c.index-cert.result.now in
    let net = c.in-Made.net in
    let w = weights_of c.args.model.now in
    let found : HasCode c.args.counts.now p cert.code × IsNet net cert.code
    = subst (IsFound c.args.counts.now p cert) c.in-Made.is c.in_ok-reason.ensures in
    let code = subst (λ (counts : List ℕ). HasCode counts p cert.code) c.requires.counts found.0 in
    let at = slice_get_read certificate.procs (length certificate.procs) p cert refl
    c.requires.number c.index-cert.ensures in
    if_ok (IsFirstIn w net cert) (IsFirstOf certificate p) c.first_in.result
    (λ found_reason is. first_of certificate p cert net found.1 code at found_reason
    (subst (λ (w : Weights). IsFirstIn w net cert found_reason) c.requires.weights is))
    c.first_in.ensures
