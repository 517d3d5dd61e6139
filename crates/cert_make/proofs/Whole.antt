-- Certificates of compiled code are whole.
use Rattle.std.proofs.Common.{◌≡◌, ℕ, zero, suc, ◌+◌, ◌<◌, ◌≤◌, List, [], ◌∷◌, length, Some}
use Rattle.std.proofs.Common.{refl, ap, ◌∙◌, arith}
use Rattle.std.specs.Prelude.{slice_get, option_map}
use Rattle.std.proofs.lemmas.List.{length-map}
use Rattle.std.proofs.lemmas.Option.{slice_get_within, slice_get-map}
use Rattle.pra_base.specs.declared.code.VProc.{VProc}
use Rattle.pra_base.specs.Valid.{counts_of}
use Rattle.cert_form.specs.declared.codes.CodeFile.{CodeFile}
use Rattle.cert_form.specs.declared.codes.NamedCode.{NamedCode}
use Rattle.pra_compile.specs.declared.output.Compiled.{Compiled}
use Rattle.pra_compile.specs.Compiled.{Wanted, IsBuilt, codes_in}
use Rattle.pra_compile.proofs.Done.{there_is}
use Rattle.cert_form.specs.declared.certificate.Cert.{Cert}
use Rattle.cert_form.specs.declared.certificate.Certificate.{Certificate}
use Rattle.cert_form.specs.Whole.{AreNumbered}
use Rattle.cert_make.specs.Made.{IsCertificateOf}

are_numbered : (n : ℕ) (certs : List Cert) → n + length certs ≤ 65536
    → ((k : ℕ) (cert : Cert) → slice_get certs k ≡ Some cert → cert.code.id.0 ≡ k + n)
    → AreNumbered n certs
are_numbered n [] few each = tt
are_numbered n (cert ∷ certs) few each =
    let first = each zero cert refl in (
      omega (arith, first),
      omega (arith, few),
      are_numbered (suc n) certs (omega (arith, few)) (λ k other there.
          let next = each (suc k) other there in
          omega (arith, next)),
    )

module _ (file : CodeFile) (wanted : Wanted) (compiled : Compiled) (c : Certificate)
    (is : IsBuilt file wanted compiled) (certified : IsCertificateOf c.cost compiled.procs c)
  where
    pub has_one : 0 < length c.procs
    has_one =
        let inside = slice_get_within (counts_of (codes_in file)) 0 0 is.runnable.body in
        let counts = length-map (codes_in file) (λ (code : VProc). code.args) in
        let all = length-map file.procs (λ (named : NamedCode). named.code) in
        let outs = is.placement.count in
        let count = certified.count in
        omega (arith, inside, counts, all, outs, count)

    id_is : (p : ℕ) (cert : Cert) → slice_get c.procs p ≡ Some cert → cert.code.id.0 ≡ p
    id_is p cert there =
        let lt = slice_get_within c.procs p cert there in
        let certs = certified.count in
        let outs = is.placement.count in
        let carriages = is.placement.carriage_count in
        let named = there_is file.procs p (omega (arith, lt, certs, outs)) in
        let out = there_is compiled.procs p (omega (arith, lt, certs)) in
        let carriage = there_is is.placement.carriages p (omega (arith, lt, certs, carriages)) in
        let code = is.runnable.each p named.0.code
        (slice_get-map (λ (n : NamedCode). n.code) file.procs p
        ∙ ap (option_map (λ (n : NamedCode). n.code)) named.1) in
        ap (λ (code : VProc). code.id.0) ((certified.each p out.0 cert out.1 there).code
        ∙ (is.placement.each p named.0 out.0 carriage.0 named.1 out.1 carriage.1).code)
        ∙ code.id

    pub numbered : AreNumbered 0 c.procs
    numbered =
        let few = is.runnable.few in
        let certs = certified.count in
        let outs = is.placement.count in
        are_numbered 0 c.procs (omega (arith, few, certs, outs)) (λ p cert there.
        let id = id_is p cert there in
        omega (arith, id))
