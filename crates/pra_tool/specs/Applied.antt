-- What is made of code and a certificate of it, and why a certificate is refused.
use Rattle.std.specs.Prelude.{◌≡◌, ◌≢◌, ◌≤◌, ℕ, true, List, [], length, map, slice_get, take}
use Rattle.std.specs.Prelude.{Some}
use Rattle.cert_check.specs.declared.check.CertAnswer.TheVariants.{Yes, No}
use Rattle.cert_check.specs.Reasons.{IsAnswerOf, AreBounded}
use Rattle.cert_form.specs.declared.certificate.Cert.{Cert}
use Rattle.cert_form.specs.declared.certificate.Certificate.{Certificate}
use Rattle.cert_form.specs.declared.codes.CodeFile.{CodeFile}
use Rattle.net_cost.specs.declared.weights.Weights.{Weights}
use Rattle.net_form.specs.Admitted.{IsAdmitted}
use Rattle.net_form.specs.Cost.{cost_of}
use Rattle.net_form.specs.Flow.{Edge}
use Rattle.pra_base.specs.declared.code.VProc.{VProc}
use Rattle.pra_compile.specs.declared.given.GivenRoutes.{GivenRoutes}
use Rattle.pra_compile.specs.declared.output.Compiled.{Compiled}
use Rattle.pra_compile.specs.Compiled.{IsBuiltBy, IsTooLong, codes_named}
use Rattle.pra_compile.specs.Given.{given_by}
use Rattle.pl_place.specs.Behind.{Routed}
use Rattle.pra_report.specs.declared.report.ProcOut.{ProcOut}
use Rattle.pra_report.specs.Report.{last_cost, last_bound}
use Rattle.pra_words.specs.declared.words.FileKind.{FileKind}
use Rattle.pra_words.specs.Words.{Asked}
use Rattle.pra_tool.specs.declared.applied.Misapplied.{Misapplied}
use Rattle.pra_tool.specs.declared.applied.Misapplied.TheVariants as misapplied
use Rattle.pra_tool.specs.declared.certified.Uncertified.{Uncertified}
use Rattle.pra_tool.specs.declared.certified.Uncertified.TheVariants as uncertified
use Rattle.pra_tool.specs.declared.source.Sourced.{Sourced}
use Rattle.pra_tool.specs.declared.status.Status.{Status}
use Rattle.pra_tool.specs.declared.status.Status.TheVariants.{Ended, BadSource, OverLimit, NoMemory}
use Rattle.pra_tool.specs.Certified.{most_certificate, IsTextOfCert, IsUncertified}
use Rattle.pra_tool.specs.Certified.{uncertified_status}
use Rattle.pra_tool.specs.Texts.{uncertified_line, misapplied_line, applied_text}
use Rattle.pra_tool.specs.Sources.{IsSourced}
use Rattle.pra_tool.specs.Writes.{Writes, image_file}
use Rattle.pra_tool.specs.Modes.{Kind, IsInput, IsLeft}
use Rattle.pra_tool.specs.Outside.{StreamSeen}

-- ---- the certificate that is given

-- The text is that of this certificate, whatever that claims.
pub record IsCertText (text : List ℕ) (c : Certificate) : Type 0 where
  pub few : length text ≤ most_certificate
  pub read : IsTextOfCert text c

-- what is wrong with a text that is none
abbrev pub IsNoCertText : List ℕ → Uncertified → Type 0
IsNoCertText text uncertified.TooLong = IsUncertified text uncertified.TooLong
IsNoCertText text uncertified.NotJson = IsUncertified text uncertified.NotJson
IsNoCertText text uncertified.NotCertificate = IsUncertified text uncertified.NotCertificate
IsNoCertText text fault = ⊥

-- the texts of certificates
abbrev pub certificate_texts : Kind
certificate_texts = record {
  Wrong = Uncertified;
  IsWrong = IsNoCertText;
  line = uncertified_line;
  status = uncertified_status;
  IsRight = λ text. (c : Certificate) × IsCertText text c;
}

-- The input was read to its end, and is the text of this certificate.
pub record HasGivenCert (old new : StreamSeen) (c : Certificate) : Type 0 where
  pub bytes : List ℕ
  pub taken : IsInput true old bytes
  pub left : IsLeft true old new
  pub is : IsCertText bytes c

-- ---- the certificate beside the code

abbrev pub codes_by : List Cert → List VProc
codes_by certs = map (λ (cert : Cert). cert.code) certs

abbrev pub codes_in : Certificate → List VProc
codes_in c = codes_by c.procs

-- routes with what is claimed of them
abbrev pub routes_of : Cert → GivenRoutes
routes_of cert = record { routes = cert.routes; cost = cert.total; bound = cert.bound }

abbrev pub routes_in : Certificate → List GivenRoutes
routes_in c = map routes_of c.procs

-- ---- what is made

-- The certificate has the code's procedures, and what the code is compiled to has the certificate's
-- routes, and as the line of each procedure its total and its bound. No reason against the
-- certificate holds: so the routes cost the totals by its own cost word, and no admitted flow costs
-- less than the bounds.
pub record IsApplied (file : CodeFile) (c : Certificate) (compiled : Compiled) : Type 0 where
  pub built : IsBuiltBy file (given_by (routes_in c)) compiled
  pub codes : codes_in c ≡ codes_named file.procs
  pub holds : IsAnswerOf c Yes
  pub bounded : AreBounded c

-- Of a procedure of a certificate this is kept, and an image carries this code with this flow: the
-- certificate's code and routes, which cost its total by these weights, and no flow that the
-- code's network admits costs less than its bound. Both are told.
pub record CarriesCert (w : Weights) (cert : Cert) (out : ProcOut) (r : Routed) : Type 0 where
  pub code : out.code ≡ cert.code
  pub routes : out.routes ≡ cert.routes
  pub cost : cost_of r.net w r.flow ≡ cert.total
  pub least : (f : List Edge) → IsAdmitted r.net f → cert.bound ≤ cost_of r.net w f
  pub told_cost : last_cost out.lines ≡ cert.total
  pub told_bound : last_bound out.lines ≡ cert.bound

-- The same is kept of a procedure, but for the rounds and the prices: name, frame, code and routes,
-- and the last cost and bound.
pub record AreSameButRounds (out other : ProcOut) : Type 0 where
  pub name : other.name ≡ out.name
  pub frame : other.frame ≡ out.frame
  pub code : other.code ≡ out.code
  pub routes : other.routes ≡ out.routes
  pub cost : last_cost other.lines ≡ last_cost out.lines
  pub bound : last_bound other.lines ≡ last_bound out.lines

-- what `apply` writes: the image, and as output frames, costs and bounds
abbrev pub apply_writes : Asked → Compiled → Writes
apply_writes asked compiled = record {
  files = image_file asked.image compiled.image;
  out = applied_text compiled.procs (length compiled.image.code);
  notes = [];
}

-- What `apply` makes of a source and a certificate.
pub record ApplyMakes (kind : FileKind) (asked : Asked) (source input : List ℕ) (w : Writes)
    (s : Status) : Type 0 where
  pub sourced : Sourced
  pub is : IsSourced kind source sourced
  pub certificate : Certificate
  pub given : IsCertText input certificate
  pub compiled : Compiled
  pub applied : IsApplied sourced.file certificate compiled
  pub writes : w ≡ apply_writes asked compiled
  pub done : s ≡ Ended

-- ---- what is refused

-- Of two lists the codes at this number are different, and all before them are the same.
pub record DifferFirst (given own : List VProc) (p : ℕ) : Type 0 where
  pub before : take p given ≡ take p own
  pub code : VProc
  pub is_given : slice_get given p ≡ Some code
  pub other : VProc
  pub is_own : slice_get own p ≡ Some other
  pub differ : code ≢ other

-- The certificate has as many procedures as the code; that of this one is other code, and those of
-- all before it are the same.
pub record IsOfOther (file : CodeFile) (c : Certificate) (p : ℕ) : Type 0 where
  pub count : length c.procs ≡ length file.procs
  pub first : DifferFirst (codes_in c) (codes_named file.procs) p

-- The certificate has the code's procedures and holds, and an image has no room for them with its
-- routes: so many bytes.
pub record IsTooLongWith (file : CodeFile) (c : Certificate) (count : ℕ) : Type 0 where
  pub codes : codes_in c ≡ codes_named file.procs
  pub holds : IsAnswerOf c Yes
  pub long : IsTooLong file (given_by (routes_in c)) count

-- why a certificate is not applied to code
abbrev pub IsMisapplied : CodeFile → Certificate → Misapplied → Type 0
IsMisapplied file c misapplied.Count = length c.procs ≢ length file.procs
IsMisapplied file c (misapplied.Module p) = IsOfOther file c p
IsMisapplied file c (misapplied.Fails p r) =
    (codes_in c ≡ codes_named file.procs) × IsAnswerOf c (No p r)
IsMisapplied file c (misapplied.TooLong count) = IsTooLongWith file c count
IsMisapplied file c misapplied.OutOfMemory = ⊥

abbrev pub misapplied_status : Misapplied → Status
misapplied_status misapplied.Count = BadSource
misapplied_status (misapplied.Module p) = BadSource
misapplied_status (misapplied.Fails p r) = BadSource
misapplied_status (misapplied.TooLong count) = OverLimit
misapplied_status misapplied.OutOfMemory = NoMemory

-- A certificate is refused that is none of this code, or that does not hold; or one with whose
-- routes the code is too long, which that of a module never is.
pub record ApplyRefuses (kind : FileKind) (source input line : List ℕ) (s : Status)
    : Type 0 where
  pub sourced : Sourced
  pub is : IsSourced kind source sourced
  pub certificate : Certificate
  pub given : IsCertText input certificate
  pub fault : Misapplied
  pub misapplied : IsMisapplied sourced.file certificate fault
  pub line_is : line ≡ misapplied_line fault
  pub status_is : s ≡ misapplied_status fault
