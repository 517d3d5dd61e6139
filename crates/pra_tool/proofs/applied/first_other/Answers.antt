use Rattle.std.proofs.Common.{refl, length, Some, ap, sym, ◌∙◌, arith}
use Rattle.std.proofs.lemmas.Option.{slice_get_read}
use Rattle.cert_form.specs.declared.codes.NamedCode.{NamedCode}
use Rattle.pra_compile.specs.Compiled.{codes_named}
use Rattle.pra_tool.specs.Applied.{codes_by}
use Rattle.pra_tool.proofs.AppliedCerts.{same_up_to, code_at}
use Rattle.pra_tool.proofs.CodeReads.{named_at}
use Rattle.pra_tool.proofs.applied.first_other.Goals as goal

pub returns-then-not-is_same : goal.returns-then-not-is_same
returns-then-not-is_same c =
    let n = c.loop-number.number in
    let certs = c.args.certs.now in
    let procs = c.args.procs.now in
    let cert = c.index-certs-number.result in
    let named = c.index-procs-number.result in
    let lt = c.loop-number-test.true in
    let same = c.requires.same in
    record {
      before = c.loop-number.invariant;
      code = cert.code;
      is_given = code_at certs n cert
          (slice_get_read certs (length certs) n cert refl lt c.index-certs-number.is);
      other = named.code;
      is_own = named_at procs n named
          (slice_get_read procs (length procs) n named refl (omega (arith, lt, same))
          c.index-procs-number.is);
      differ = λ same_code. c.if-not-is_same.ensures
          (same_code ∙ ap (λ (x : NamedCode). x.code) c.index-procs-number.is);
    }

pub loop-number-preserved : goal.loop-number-preserved
loop-number-preserved c =
    let n = c.loop-number.number in
    let certs = c.args.certs.now in
    let procs = c.args.procs.now in
    let cert = c.index-certs-number.result in
    let named = c.index-procs-number.result in
    let lt = c.loop-number-test.true in
    let same = c.requires.same in
    same_up_to (codes_by certs) (codes_named procs) n named.code c.loop-number.invariant
    (code_at certs n cert
    (slice_get_read certs (length certs) n cert refl lt c.index-certs-number.is)
    ∙ ap Some (c.if-not-is_same.ensures
    ∙ sym (ap (λ (x : NamedCode). x.code) c.index-procs-number.is)))
    (named_at procs n named
    (slice_get_read procs (length procs) n named refl (omega (arith, lt, same))
    c.index-procs-number.is))
