-- What the modes make and refuse that certify what FILE is compiled to and test a certificate.
use Rattle.std.specs.Prelude.{◌≡◌, ◌<◌, ◌≤◌, ℕ, List, [], length, codes, Ok, Err}
use Rattle.cert_check.specs.declared.check.CertAnswer.TheVariants.{Yes, No}
use Rattle.cert_check.specs.declared.check.Reason.{Reason}
use Rattle.cert_check.specs.Reasons.{IsAnswerOf, AreBounded}
use Rattle.cert_form.specs.declared.certificate.Certificate.{Certificate}
use Rattle.cert_form.specs.declared.certificate.CostWord.{CostWord}
use Rattle.cert_form.specs.declared.certificate.CostWord.TheVariants.{Size, Speed}
use Rattle.cert_form.specs.declared.text.CertFault.TheVariants as fault
use Rattle.cert_form.specs.Form.{certificate_text}
use Rattle.cert_form.specs.Whole.{AreNumbered, IsReadAgain, Reads}
use Rattle.cert_make.specs.Made.{IsCertificateOf}
use Rattle.pra_words.specs.declared.words.CostWord.{CostWord as Word}
use Rattle.pra_words.specs.declared.words.CostWord.TheVariants as word
use Rattle.pra_words.specs.declared.words.FileKind.{FileKind}
use Rattle.pra_words.specs.Words.{Asked}
use Rattle.pra_tool.specs.declared.certified.Uncertified.{Uncertified}
use Rattle.pra_tool.specs.declared.certified.Uncertified.TheVariants as uncertified
use Rattle.pra_tool.specs.declared.compiler.Made.{Made}
use Rattle.pra_tool.specs.declared.status.Status.{Status}
use Rattle.pra_tool.specs.declared.status.Status.TheVariants.{Ended, BadSource, OverLimit, NoMemory}
use Rattle.pra_tool.specs.Compiling.{MadeOf}
use Rattle.pra_tool.specs.Texts.{over_line, uncertified_line, held_text}
use Rattle.pra_tool.specs.Writes.{Writes, text_alone}
use Rattle.pra_tool.specs.Modes.{Kind}

-- the most bytes of a certificate's text
abbrev pub most_certificate : ℕ
most_certificate = 16777216

-- ---- certificates that are made

-- the cost word of a certificate
abbrev pub cost_by : Word → CostWord
cost_by word.Size = Size
cost_by word.Speed = Speed

-- The text is that of the certificate of what was compiled, by these costs, and is read again where
-- that has a procedure and the id of each code is its number.
pub record CertifiesMade (cost : Word) (made : Made) (text : List ℕ) : Type 0 where
  pub certificate : Certificate
  pub certifies : IsCertificateOf (cost_by cost) made.compiled.procs certificate
  pub text_is : text ≡ certificate_text certificate
  pub again : 0 < length certificate.procs → AreNumbered 0 certificate.procs →
      IsReadAgain certificate text

-- The text is that of the certificate of what the source is compiled to, to which no reason
-- applies, and reading it answers that certificate. So the image that the source is compiled to
-- carries the certificate's codes and flows, with lines that end with its totals and bounds; and no
-- flow costs less than these bounds.
pub record IsCertified (kind : FileKind) (asked : Asked) (source text : List ℕ) : Type 0 where
  pub made : Made
  pub made_of : MadeOf kind asked source made
  pub certificate : Certificate
  pub certifies : IsCertificateOf (cost_by asked.cost) made.compiled.procs certificate
  pub holds : IsAnswerOf certificate Yes
  pub bounded : AreBounded certificate
  pub text_is : text ≡ certificate_text certificate
  pub read_again : IsReadAgain certificate text

-- What `cert` makes of a source; the input, which it does not read, counts as empty.
pub record CertMakes (kind : FileKind) (asked : Asked) (source input : List ℕ) (w : Writes)
    (s : Status) : Type 0 where
  pub text : List ℕ
  pub certified : IsCertified kind asked source text
  pub few : length text ≤ most_certificate
  pub no_input : input ≡ []
  pub writes : w ≡ text_alone text
  pub done : s ≡ Ended

-- The certificate that `cert` makes of a source is refused: its text is too long.
pub record CertOver (kind : FileKind) (asked : Asked) (source input line : List ℕ) (s : Status)
    : Type 0 where
  pub text : List ℕ
  pub certified : IsCertified kind asked source text
  pub many : most_certificate < length text
  pub no_input : input ≡ []
  pub line_is : line ≡ over_line (codes "certificate") (length text) most_certificate
  pub status_is : s ≡ OverLimit

-- ---- certificates that are tested

-- The file is the text of this certificate, in any order of keys and with any blanks.
abbrev pub IsTextOfCert : List ℕ → Certificate → Type 0
IsTextOfCert file c = Reads file (Ok c)

-- The file is the text of a certificate, of which this is the first procedure that fails, by this
-- reason.
pub record FileFails (file : List ℕ) (p : ℕ) (r : Reason) : Type 0 where
  pub certificate : Certificate
  pub read : IsTextOfCert file certificate
  pub fails : IsAnswerOf certificate (No p r)

-- what is wrong with a file that is to be tested
abbrev pub IsUncertified : List ℕ → Uncertified → Type 0
IsUncertified file uncertified.TooLong = most_certificate < length file
IsUncertified file uncertified.NotJson =
    (length file ≤ most_certificate) × Reads file (Err fault.NotJson)
IsUncertified file uncertified.NotCertificate =
    (length file ≤ most_certificate) × Reads file (Err fault.NotCertificate)
IsUncertified file (uncertified.Fails p r) =
    (length file ≤ most_certificate) × FileFails file p r
IsUncertified file uncertified.OutOfMemory = ⊥

abbrev pub uncertified_status : Uncertified → Status
uncertified_status uncertified.TooLong = OverLimit
uncertified_status uncertified.NotJson = BadSource
uncertified_status uncertified.NotCertificate = BadSource
uncertified_status (uncertified.Fails p r) = BadSource
uncertified_status uncertified.OutOfMemory = NoMemory

-- The file is the text of a certificate to which no reason applies: the routes of each procedure
-- are admitted in the network of its code and cost its total, and no admitted flow costs less than
-- its bound.
pub record IsHeld (file : List ℕ) (c : Certificate) : Type 0 where
  pub few : length file ≤ most_certificate
  pub read : IsTextOfCert file c
  pub holds : IsAnswerOf c Yes
  pub bounded : AreBounded c

-- the certificates: texts of those that hold
abbrev pub certificates : Kind
certificates = record {
  Wrong = Uncertified;
  IsWrong = IsUncertified;
  line = uncertified_line;
  status = uncertified_status;
  IsRight = λ file. (c : Certificate) × IsHeld file c;
}

-- What `check` makes of a certificate's file; the input, which it does not read, counts as empty.
pub record CheckMakes (file input : List ℕ) (w : Writes) (s : Status) : Type 0 where
  pub certificate : Certificate
  pub held : IsHeld file certificate
  pub no_input : input ≡ []
  pub writes : w ≡ text_alone (held_text certificate)
  pub done : s ≡ Ended
