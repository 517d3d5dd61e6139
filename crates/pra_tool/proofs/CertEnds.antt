-- The ends of a call that has made a certificate or tested one.
use Rattle.std.proofs.Common.{◌≡◌, ◌≢◌, ◌⊎◌, inl, ⊎_elim, ◌<◌, ◌≤◌, ◌∙◌, refl, sym, ap, subst, ℕ, List}
use Rattle.std.proofs.Common.{[], length, codes}
use Rattle.std.specs.declared.option.Option.{Option}
use Rattle.cert_check.specs.declared.check.CertAnswer.TheVariants.{Yes}
use Rattle.cert_check.specs.Reasons.{IsAnswerOf, AreBounded, weights_by as cert_weights}
use Rattle.cert_form.specs.declared.certificate.Certificate.{Certificate}
use Rattle.cert_form.specs.declared.certificate.CostWord.{CostWord}
use Rattle.cert_check.proofs.Claims.{yes_bounds}
use Rattle.cert_make.specs.Made.{IsCertificateOf}
use Rattle.cert_make.proofs.Holds.{all_hold}
use Rattle.cert_make.proofs.Whole.{has_one, numbered}
use Rattle.pra_words.specs.declared.words.CostWord.{CostWord as Word}
use Rattle.pra_words.specs.declared.words.CostWord.TheVariants as word
use Rattle.pra_words.specs.declared.words.FileKind.{FileKind}
use Rattle.pra_words.specs.declared.words.FileKind.TheVariants as a_file
use Rattle.pra_words.specs.Words.{Asked}
use Rattle.pra_io.specs.Contents.{Holds, IsLonger}
use Rattle.pra_tool.specs.declared.certified.Uncertified.TheVariants as uncertified
use Rattle.pra_tool.specs.declared.compiler.Made.{Made}
use Rattle.pra_tool.specs.declared.status.Status.{Status}
use Rattle.pra_tool.specs.declared.status.Status.TheVariants.{Ended, OverLimit, NoMemory}
use Rattle.pra_tool.specs.declared.tool.Then.TheVariants.{Certify}
use Rattle.pra_tool.specs.Outside.{Seen, Refused, Untouched}
use Rattle.pra_tool.specs.Writes.{Writes, names, text_alone, Wrote}
use Rattle.pra_tool.specs.Ends.{Ends}
use Rattle.pra_tool.specs.Ends as ends
use Rattle.pra_tool.specs.Compiling.{MadeOf, weights_by}
use Rattle.pra_tool.specs.Texts.{over_line, held_text}
use Rattle.pra_tool.specs.Certified.{most_certificate, cost_by, CertifiesMade, IsCertified, IsHeld}
use Rattle.pra_tool.specs.Certified.{IsUncertified, CheckMakes}
use Rattle.pra_tool.specs.Clause.{compiling, checking, refuses}
use Rattle.pra_tool.proofs.SourceKinds.{longer}
use Rattle.pra_tool.proofs.ModeAnswers.{is_memory}

-- the weights of a certificate are those by which the rounds were made
same_weights : (cost : Word) → weights_by cost ≡ cert_weights (cost_by cost)
same_weights word.Size = refl
same_weights word.Speed = refl

-- what was compiled is certified, and the certificate holds
certified : (kind : FileKind) (asked : Asked) (source text : List ℕ) (made : Made) →
    MadeOf kind asked source made → CertifiesMade asked.cost made text →
    IsCertified kind asked source text
certified kind asked source text made made_of is =
    let same = subst (λ (w : CostWord). IsCertificateOf w made.compiled.procs is.certificate)
    (sym is.certifies.cost) is.certifies in
    let built = made_of.built in
    let holds = all_hold _ _ made.compiled is.certificate
    (same_weights asked.cost ∙ ap cert_weights (sym is.certifies.cost)) built same in
    record {
      made = made;
      made_of = made_of;
      certificate = is.certificate;
      certifies = is.certifies;
      holds = holds;
      bounded = yes_bounds is.certificate holds;
      text_is = is.text_is;
      read_again = is.again (has_one _ _ made.compiled is.certificate built same)
          (numbered _ _ made.compiled is.certificate built same);
    }

-- what `cert` made was written, as far as writing went
pub cert_ends : (asked : Asked) (made : Made) (text : List ℕ) (w : Writes) (s : Status)
    (old new : Seen) (result : Status) → new.input ≡ old.input →
    CertifiesMade asked.cost made text → length text ≤ most_certificate → w ≡ text_alone text →
    s ≡ Ended → Wrote w s old new result → (source : List ℕ) →
    MadeOf asked.from asked source made → Ends (compiling Certify asked) source old new result
cert_ends asked made text w s old new result alone certifies few is done wrote source made_of =
    ends.wrote [] refl alone w s
    (record {
      text = text;
      certified = certified asked.from asked source text made made_of certifies;
      few = few;
      no_input = refl;
      writes = is;
      done = done;
    }) wrote

-- its text was too long
refused_cert : (kind : FileKind) (asked : Asked) (source text : List ℕ) (s : Status) →
    IsCertified kind asked source text → most_certificate < length text → s ≡ OverLimit →
    refuses kind Certify asked source []
    (over_line (codes "certificate") (length text) most_certificate) s
refused_cert a_file.Module asked source text s certified many is = record {
  text = text;
  certified = certified;
  many = many;
  no_input = refl;
  line_is = refl;
  status_is = is;
}
refused_cert a_file.Code asked source text s certified many is = inl (record {
  text = text;
  certified = certified;
  many = many;
  no_input = refl;
  line_is = refl;
  status_is = is;
})

over_ends : (asked : Asked) (made : Made) (text : List ℕ) (old new : Seen) (result : Status) →
    new.input ≡ old.input → CertifiesMade asked.cost made text →
    most_certificate < length text → result ≡ OverLimit →
    Refused (over_line (codes "certificate") (length text) most_certificate) old new →
    (source : List ℕ) → MadeOf asked.from asked source made →
    Ends (compiling Certify asked) source old new result
over_ends asked made text old new result alone certifies many is told source made_of =
    ends.over [] refl alone (over_line (codes "certificate") (length text) most_certificate)
    (refused_cert asked.from asked source text result
    (certified asked.from asked source text made made_of certifies) many is) told

-- and is refused for that, unless memory was wanting for the line
pub over_or_wanting : (asked : Asked) (made : Made) (text : List ℕ) (old new : Seen)
    (result : Status) → new.input ≡ old.input → CertifiesMade asked.cost made text →
    most_certificate < length text → (result ≡ OverLimit) ⊎ (result ≡ NoMemory) →
    (result ≢ NoMemory →
    Refused (over_line (codes "certificate") (length text) most_certificate) old new) →
    (result ≡ NoMemory → Untouched old new) → (source : List ℕ) →
    MadeOf asked.from asked source made → Ends (compiling Certify asked) source old new result
over_or_wanting asked made text old new result alone certifies many known told memory source
    made_of = ⊎_elim (λ wanting. ends.wanting wanting (memory wanting))
    (λ other. over_ends asked made text old new result alone certifies many
    (⊎_elim (λ e. e) (λ e. absurd (other e)) known) (told other) source made_of)
    (is_memory result)

-- what `check` tells was written
pub check_ends : (file : List ℕ) (c : Certificate) (w : Writes) (s : Status) (old new : Seen)
    (result : Status) → new.input ≡ old.input → IsHeld file c → w ≡ text_alone (held_text c) →
    s ≡ Ended → Wrote w s old new result → Ends checking file old new result
check_ends file c w s old new result alone held is done wrote =
    ends.wrote [] refl alone w s
    (record { certificate = c; held = held; no_input = refl; writes = is; done = done }) wrote

pub check_names : (file input : List ℕ) (w : Writes) (s : Status) → CheckMakes file input w s →
    names w.files ≡ []
check_names file input w s made = ap (λ (x : Writes). names x.files) made.writes

-- a file that is too long is refused for that
pub too_long_cert : (file : Option (Option (List ℕ))) → IsLonger file most_certificate →
    (held : List ℕ) × Holds file held × IsUncertified held uncertified.TooLong
too_long_cert file h = longer most_certificate file h
