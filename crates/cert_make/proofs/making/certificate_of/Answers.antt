use Rattle.std.proofs.Common.{refl, sym, subst, arith}
use Rattle.cert_make.proofs.Certified.{AreCertified, one_more, all_certified}
use Rattle.cert_make.proofs.making.certificate_of.Goals as goal

pub loop-out-preserved : goal.loop-out-preserved
loop-out-preserved c =
    let procs = c.args.procs in
    let certs = c.loop-out.certs.items in
    let out = c.in-Some.out in
    let left = c.next.new.self.rest.items in
    let cert = c.in_ok-cert_of.field-0 in
    subst (λ certs. AreCertified procs certs left) (sym c.in_ok-push.ensures.items)
    (one_more procs certs out left cert
    (subst (AreCertified procs certs) c.in-Some.ensures.steps.0 c.loop-out.invariant)
    c.in_ok-cert_of.ensures)

pub returns : goal.returns
returns c =
    let none = c.in-None.ensures.steps.0 in
    let long = c.loop-out.out-iterator.rest.ok.0 in
    all_certified c.args.cost c.args.procs c.loop-out.out-iterator.rest.items
    c.loop-out.certs.items _ refl c.from_vec.ensures (omega (arith, none, long))
    c.loop-out.invariant
