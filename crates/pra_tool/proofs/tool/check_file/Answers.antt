use Rattle.std.proofs.Common.{rules, ◌≢◌, refl, subst, sym, List, ℕ}
use Rattle.std.specs.Io.KnownBytes.{Keeps}
use Rattle.pra_tool.specs.declared.certified.Uncertified.TheVariants.{TooLong, OutOfMemory}
use Rattle.pra_tool.specs.Certified.{IsHeld, IsUncertified, uncertified_status}
use Rattle.pra_tool.specs.Clause.{checking}
use Rattle.pra_tool.proofs.ModeAnswers.{wrong_source, right_source}
use Rattle.pra_tool.proofs.CompilingModes.{told_wrong, none_left, keeps_same}
use Rattle.pra_tool.proofs.CertModes.{checking_is_a_mode}
use Rattle.pra_tool.proofs.CertEnds.{check_names, too_long_cert}
use Rattle.pra_tool.proofs.tool.check_file.Goals as goal

pub returns-in-Ok-held_by : goal.returns-in-Ok-held_by
returns-in-Ok-held_by g c = λ input.
    let file = c.in-Ok.file.items in
    let certificate = c.in-Ok-held_by.certificate in
    let held : IsHeld file certificate =
    subst (λ (f : List ℕ). IsHeld f certificate) c.deref.ensures.value
    c.in-Ok-held_by.ensures.held in
    right_source checking checking_is_a_mode c.args.request.now.file.now _ _ _
    (record {
      same = c.in-Ok.ensures.same;
      input = refl;
      out = refl;
      notes = refl;
      later = c.in-Ok.ensures.cause.other_later;
    })
    file c.in-Ok.ensures.bytes (certificate, held) _
    (λ none w s makes. none_left w _ _ (check_names file none w s makes))
    (λ untouched. untouched)
    (c.tell_held.ensures file input held)

pub returns : goal.returns
returns g c = λ input.
    let f = c.in-Err.fault in
    wrong_source checking checking_is_a_mode c.args.request.now.file.now _ _
    c.in-Ok.file.items f _ c.in-Ok.ensures.bytes
    (told_wrong uncertified_status OutOfMemory refl f _ c.refuse_cert-in-Err.ensures.known
    (subst (λ (b : List ℕ). f ≢ OutOfMemory → IsUncertified b f) c.deref.ensures.value
    c.in-Err.ensures.cause))
    c.refuse_cert-in-Err.ensures.known
    (λ other. record {
      files = c.in-Ok.ensures.same;
      out = keeps_same (g.O.Sink.bytes c.args.out.now);
      notes = c.refuse_cert-in-Err.ensures.told other;
    })
    (λ memory. record {
      files = c.in-Ok.ensures.same;
      out = keeps_same (g.O.Sink.bytes c.args.out.now);
      notes = subst (λ n. Keeps (g.N.Sink.bytes c.args.notes.now) (g.N.Sink.bytes n))
          (sym (c.refuse_cert-in-Err.ensures.memory memory)) (keeps_same _);
    })
    refl

pub returns-in-Err-TooLong : goal.returns-in-Err-TooLong
returns-in-Err-TooLong g c = λ input.
    let x = too_long_cert _ (c.in-Err-TooLong.ensures.too_long (search rules)) in
    wrong_source checking checking_is_a_mode c.args.request.now.file.now _ _ x.0 TooLong _ x.1
    (λ other. x.2)
    c.refuse_cert.ensures.known
    (λ other. record {
      files = c.in-Err-TooLong.ensures.same;
      out = keeps_same (g.O.Sink.bytes c.args.out.now);
      notes = c.refuse_cert.ensures.told other;
    })
    (λ memory. record {
      files = c.in-Err-TooLong.ensures.same;
      out = keeps_same (g.O.Sink.bytes c.args.out.now);
      notes = subst (λ n. Keeps (g.N.Sink.bytes c.args.notes.now) (g.N.Sink.bytes n))
          (sym (c.refuse_cert.ensures.memory memory)) (keeps_same _);
    })
    refl
