-- Bytes of a certificate have one answer.
use Rattle.std.proofs.Common.{◌≡◌, ◌<◌, ℕ, List, Some, Ok, Err, inl, inr, refl, ap, subst, length}
use Rattle.pra_list.specs.Each.{Each}
use Rattle.cert_form.specs.declared.certificate.Certificate.{Certificate}
use Rattle.cert_form.specs.declared.text.CertFault.TheVariants.{NotJson, NotCertificate}
use Rattle.cert_form.specs.declared.text.CertFault.TheVariants.{OutOfMemory}
use Rattle.cert_form.specs.Form.{certificate_data}
use Rattle.cert_form.specs.Reading.{certificate_of}
use Rattle.cert_form.specs.Streams.{IsPartRead}
use Rattle.cert_form.specs.Whole.{CertFits, AreNumbered, IsWhole, IsReadAs, Reads, IsReadAgain}
use Rattle.cert_form.proofs.CertsRead.{certificate_back}
use Rattle.cert_form.proofs.Forms.{one_reading, one}

-- what is read is the answer

pub found_is : (bytes : List ℕ) (c : Certificate) →
    IsPartRead certificate_data IsWhole bytes (Ok (Some c)) → Reads bytes (Ok c)
found_is bytes c h = (subst (λ x. IsReadAs bytes x) h.2.0 h.1, h.2.1)

pub only_one : (a b : Certificate) → IsWhole a → IsWhole b →
    certificate_data a ≡ certificate_data b → a ≡ b
only_one = one IsWhole certificate_data certificate_of certificate_back

pub is_read : (c : Certificate) (bytes : List ℕ) → IsWhole c →
    IsReadAs bytes (certificate_data c) → IsReadAgain c bytes
is_read c bytes h r (Ok o) k =
    inl (ap (λ x. Ok x) (only_one o c k.1 h
    (one_reading bytes (certificate_data o) (certificate_data c) k.0 r)))
is_read c bytes h r (Err NotJson) k = absurd (k (certificate_data c) r)
is_read c bytes h r (Err NotCertificate) k =
    absurd (k.2 c h (one_reading bytes k.0 (certificate_data c) k.1 r))
is_read c bytes h r (Err OutOfMemory) k = inr refl

pub is_read_again : (c : Certificate) (bytes : List ℕ) → Each CertFits c.procs →
    IsReadAs bytes (certificate_data c) → 0 < length c.procs → AreNumbered 0 c.procs →
    IsReadAgain c bytes
is_read_again c bytes fits r some numbered =
    is_read c bytes (record { some = some; numbered = numbered; fits = fits }) r
