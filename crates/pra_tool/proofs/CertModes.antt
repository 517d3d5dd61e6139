-- Testing a certificate is a mode.
use Rattle.std.proofs.Common.{◌≡◌, ◌<◌, ◌⊎◌, inl, inr, ⊎_elim, refl, sym, ap, ap₂, ◌∙◌, subst}
use Rattle.std.proofs.Common.{ℕ, zero, suc, List, Some, Ok, Err, arith}
use Rattle.std.specs.Prelude.{Option, slice_get}
use Rattle.cert_check.specs.declared.check.CertAnswer.{CertAnswer}
use Rattle.cert_check.specs.declared.check.CertAnswer.TheVariants.{Yes, No}
use Rattle.cert_check.specs.declared.check.Reason.{Reason}
use Rattle.cert_check.specs.declared.check.Reason.TheVariants.{Code, Routes, Prices, Total, Bound}
use Rattle.cert_check.specs.Reasons.{IsAnswerOf, AreBounded, FailsProc, FailsBy, HoldUpTo, MeetsAll}
use Rattle.cert_check.specs.Reasons.{rank}
use Rattle.cert_form.specs.declared.certificate.Cert.{Cert}
use Rattle.cert_form.specs.declared.certificate.Certificate.{Certificate}
use Rattle.cert_form.specs.declared.text.CertFault.TheVariants as fault
use Rattle.cert_form.specs.Whole.{Reads}
use Rattle.cert_form.proofs.Answered.{only_one}
use Rattle.pra_tool.specs.declared.certified.Uncertified.{Uncertified}
use Rattle.pra_tool.specs.declared.certified.Uncertified.TheVariants as uncertified
use Rattle.pra_tool.specs.Status.{IsDone, IsRefusal}
use Rattle.pra_tool.specs.Writes.{Writes, names}
use Rattle.pra_tool.specs.Modes.{IsKind, IsMode}
use Rattle.pra_tool.specs.Certified.{IsTextOfCert, FileFails, IsUncertified}
use Rattle.pra_tool.specs.Certified.{uncertified_status, IsHeld, certificates}
use Rattle.pra_tool.specs.Applied.{IsCertText, IsNoCertText, certificate_texts}
use Rattle.pra_tool.specs.Clause.{checking}
use Rattle.pra_tool.proofs.CompilingModes.{inputs_are_a_kind, not_read}
use Rattle.pra_tool.proofs.SourceKinds.{same_or_less}

-- ---- one answer

-- the reason of this rank
reason_at : ℕ → Reason
reason_at zero = Code
reason_at (suc zero) = Routes
reason_at (suc (suc zero)) = Prices
reason_at (suc (suc (suc zero))) = Total
reason_at (suc (suc (suc (suc n)))) = Bound

reason_back : (r : Reason) → reason_at (rank r) ≡ r
unfolding reason_at
reason_back Code = refl
reason_back x = refl

one_rank : (r t : Reason) → rank r ≡ rank t → r ≡ t
one_rank r t e = sym (reason_back r) ∙ ap reason_at e ∙ reason_back t

-- whoever fails by a reason fails by no later one
first_reason : (c : Certificate) (p : ℕ) (cert : Cert) (r t : Reason) → FailsBy c p cert r →
    FailsBy c p cert t → rank r < rank t → ⊥
first_reason c p cert r t h k lt = h.holds (k.first r lt)

one_reason : (c : Certificate) (p : ℕ) (cert : Cert) (r t : Reason) → FailsBy c p cert r →
    FailsBy c p cert t → r ≡ t
one_reason c p cert r t h k = ⊎_elim (λ e. one_rank r t e)
    (λ other. ⊎_elim (λ lt. absurd (first_reason c p cert r t h k lt))
    (λ lt. absurd (first_reason c p cert t r k h lt)) other)
    (same_or_less (rank r) (rank t))

-- whoever fails does not hold
fails_not_holds : (c : Certificate) (p : ℕ) (r : Reason) → FailsProc c p r →
    ((cert : Cert) → slice_get c.procs p ≡ Some cert → MeetsAll c p cert) → ⊥
fails_not_holds c p r h all = h.fails.holds (all h.cert h.is r)

same_cert : (c : Certificate) (p : ℕ) (a b : Cert) → slice_get c.procs p ≡ Some a →
    slice_get c.procs p ≡ Some b → b ≡ a
same_cert c p a b h k = let e = sym k ∙ h in cc

same_place : (c : Certificate) (p : ℕ) (r t : Reason) → FailsProc c p r → FailsProc c p t → r ≡ t
same_place c p r t h k = one_reason c p h.cert r t h.fails
    (subst (λ (cert : Cert). FailsBy c p cert t) (same_cert c p h.cert k.cert h.is k.is) k.fails)

yes_or_no : (c : Certificate) (p : ℕ) (r : Reason) → IsAnswerOf c Yes → IsAnswerOf c (No p r) → ⊥
yes_or_no c p r holds fails = fails_not_holds c p r fails.1 (λ cert is. holds p cert is)

one_answer : (c : Certificate) (p q : ℕ) (r t : Reason) → IsAnswerOf c (No p r) →
    IsAnswerOf c (No q t) → uncertified.Fails p r ≡ uncertified.Fails q t
one_answer c p q r t h k = ⊎_elim
    (λ e. ap₂ (λ n x. uncertified.Fails n x) e
    (same_place c q r t (subst (λ (n : ℕ). FailsProc c n r) e h.1) k.1))
    (λ other. ⊎_elim
    (λ lt. absurd (fails_not_holds c p r h.1 (λ cert is. k.0 p cert lt is)))
    (λ lt. absurd (fails_not_holds c q t k.1 (λ cert is. h.0 q cert lt is))) other)
    (same_or_less p q)

-- ---- one certificate

same_some : {A : Type 0} (o : Option A) (a b : A) → o ≡ Some a → o ≡ Some b → a ≡ b
same_some o a b h k = let same = sym h ∙ k in cc

same_certificate : (file : List ℕ) (a b : Certificate) → IsTextOfCert file a →
    IsTextOfCert file b → a ≡ b
same_certificate file a b h k = only_one a b h.1 k.1 (same_some _ _ _ h.0.1 k.0.1)

of_none : (file : List ℕ) (c : Certificate) → Reads file (Err fault.NotCertificate) →
    IsTextOfCert file c → ⊥
of_none file c none h = none.2 c h.1 (same_some _ _ _ none.1.1 h.0.1)

one_failing : (file : List ℕ) (p q : ℕ) (r t : Reason) → FileFails file p r → FileFails file q t →
    uncertified.Fails p r ≡ uncertified.Fails q t
one_failing file p q r t h k = one_answer h.certificate p q r t h.fails
    (subst (λ (c : Certificate). IsAnswerOf c (No q t))
    (same_certificate file k.certificate h.certificate k.read h.read) k.fails)

held_not_failing : (file : List ℕ) (c : Certificate) (p : ℕ) (r : Reason) → IsHeld file c →
    FileFails file p r → ⊥
held_not_failing file c p r h k = yes_or_no c p r h.holds
    (subst (λ (x : Certificate). IsAnswerOf x (No p r))
    (same_certificate file k.certificate c k.read h.read) k.fails)

-- what was read and answered Yes is held
pub held : (file : List ℕ) (c : Certificate) → IsCertText file c → IsAnswerOf c Yes →
    (Yes ≡ Yes → AreBounded c) → IsHeld file c
held file c is holds bounded =
    record { few = is.few; read = is.read; holds = holds; bounded = bounded refl }

-- ---- certificates

-- what is no text of a certificate is none of one that holds
pub none_fits : (text : List ℕ) (f : Uncertified) → IsNoCertText text f →
    IsUncertified text f
none_fits text (uncertified.Fails p r) h = absurd h
none_fits text uncertified.OutOfMemory h = absurd h
none_fits text x h = h

one_uncertified : (file : List ℕ) (f g : Uncertified) → IsUncertified file f →
    IsUncertified file g → f ≡ g
one_uncertified file uncertified.TooLong uncertified.TooLong h k = refl
one_uncertified file uncertified.TooLong uncertified.NotJson h k =
    absurd (let le = k.0 in omega (arith, h, le))
one_uncertified file uncertified.TooLong uncertified.NotCertificate h k =
    absurd (let le = k.0 in omega (arith, h, le))
one_uncertified file uncertified.TooLong (uncertified.Fails p r) h k =
    absurd (let le = k.0 in omega (arith, h, le))
one_uncertified file uncertified.TooLong uncertified.OutOfMemory h k = absurd k
one_uncertified file uncertified.NotJson uncertified.TooLong h k =
    absurd (let le = h.0 in omega (arith, k, le))
one_uncertified file uncertified.NotJson uncertified.NotJson h k = refl
one_uncertified file uncertified.NotJson uncertified.NotCertificate h k =
    absurd (h.1 k.1.0 k.1.1)
one_uncertified file uncertified.NotJson (uncertified.Fails p r) h k =
    absurd (h.1 _ k.1.read.0)
one_uncertified file uncertified.NotJson uncertified.OutOfMemory h k = absurd k
one_uncertified file uncertified.NotCertificate uncertified.TooLong h k =
    absurd (let le = h.0 in omega (arith, k, le))
one_uncertified file uncertified.NotCertificate uncertified.NotJson h k =
    absurd (k.1 h.1.0 h.1.1)
one_uncertified file uncertified.NotCertificate uncertified.NotCertificate h k = refl
one_uncertified file uncertified.NotCertificate (uncertified.Fails p r) h k =
    absurd (of_none file k.1.certificate h.1 k.1.read)
one_uncertified file uncertified.NotCertificate uncertified.OutOfMemory h k = absurd k
one_uncertified file (uncertified.Fails p r) uncertified.TooLong h k =
    absurd (let le = h.0 in omega (arith, k, le))
one_uncertified file (uncertified.Fails p r) uncertified.NotJson h k =
    absurd (k.1 _ h.1.read.0)
one_uncertified file (uncertified.Fails p r) uncertified.NotCertificate h k =
    absurd (of_none file h.1.certificate k.1 h.1.read)
one_uncertified file (uncertified.Fails p r) (uncertified.Fails q t) h k =
    one_failing file p q r t h.1 k.1
one_uncertified file (uncertified.Fails p r) uncertified.OutOfMemory h k = absurd k
one_uncertified file uncertified.OutOfMemory g h k = absurd h

never_uncertified : (file : List ℕ) (f : Uncertified) → certificates.IsRight file →
    IsUncertified file f → ⊥
never_uncertified file uncertified.TooLong right h =
    let le = right.1.few in omega (arith, h, le)
never_uncertified file uncertified.NotJson right h = h.1 _ right.1.read.0
never_uncertified file uncertified.NotCertificate right h =
    of_none file right.0 h.1 right.1.read
never_uncertified file (uncertified.Fails p r) right h =
    held_not_failing file right.0 p r right.1 h.1
never_uncertified file uncertified.OutOfMemory right h = h

uncertified_refusal : (file : List ℕ) (f : Uncertified) → IsUncertified file f →
    IsRefusal (uncertified_status f)
uncertified_refusal file uncertified.OutOfMemory h = absurd h
uncertified_refusal file x h = tt

certificates_are_a_kind : IsKind certificates
certificates_are_a_kind = record {
  one_wrong = one_uncertified;
  never_both = never_uncertified;
  refuses = uncertified_refusal;
}

-- ---- texts of certificates, whatever these claim

never_none : (text : List ℕ) (f : Uncertified) → certificate_texts.IsRight text →
    IsNoCertText text f → ⊥
never_none text uncertified.TooLong right h = let le = right.1.few in omega (arith, h, le)
never_none text uncertified.NotJson right h = h.1 _ right.1.read.0
never_none text uncertified.NotCertificate right h = of_none text right.0 h.1 right.1.read
never_none text (uncertified.Fails p r) right h = h
never_none text uncertified.OutOfMemory right h = h

pub cert_texts_are_a_kind : IsKind certificate_texts
cert_texts_are_a_kind = record {
  one_wrong = λ text f g h k. one_uncertified text f g (none_fits text f h)
      (none_fits text g k);
  never_both = never_none;
  refuses = λ text f h. uncertified_refusal text f (none_fits text f h);
}

-- ---- the mode that tests

pub checking_is_a_mode : IsMode checking
checking_is_a_mode = record {
  source = certificates_are_a_kind;
  input = inputs_are_a_kind;
  right = λ file input w s made.
      ((made.certificate, made.held), not_read input made.no_input);
  done = λ file input w s made. subst IsDone (sym made.done) tt;
  right_then = λ file input line s r. absurd r;
  refuses = λ file input line s r. absurd r;
  writes = λ file input w s made. ap (λ (x : Writes). names x.files) made.writes;
}
