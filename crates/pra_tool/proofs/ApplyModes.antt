-- Applying a certificate is a mode, and the ends of such a call.
use Rattle.std.proofs.Common.{◌≡◌, ◌≢◌, ◌⊎◌, ⊎_elim, refl, sym, ap, subst, ℕ, List, [], ◌∷◌}
use Rattle.cert_form.specs.declared.certificate.Certificate.{Certificate}
use Rattle.cert_form.specs.declared.codes.CodeFile.{CodeFile}
use Rattle.pra_compile.specs.declared.output.Compiled.{Compiled}
use Rattle.pra_words.specs.declared.words.FileKind.{FileKind}
use Rattle.pra_words.specs.Words.{Asked}
use Rattle.pra_tool.specs.declared.applied.Misapplied.{Misapplied}
use Rattle.pra_tool.specs.declared.applied.Misapplied.TheVariants as misapplied
use Rattle.pra_tool.specs.declared.source.Sourced.{Sourced}
use Rattle.pra_tool.specs.declared.status.Status.{Status}
use Rattle.pra_tool.specs.declared.status.Status.TheVariants.{Ended, NoMemory}
use Rattle.pra_tool.specs.Applied.{HasGivenCert, IsApplied, ApplyMakes, apply_writes}
use Rattle.pra_tool.specs.Applied.{IsMisapplied, misapplied_status}
use Rattle.pra_tool.specs.Clause.{applying}
use Rattle.pra_tool.specs.Ends.{Ends}
use Rattle.pra_tool.specs.Ends as ends
use Rattle.pra_tool.specs.Modes.{IsMode}
use Rattle.pra_tool.specs.Outside.{Seen, Refused, Untouched}
use Rattle.pra_tool.specs.Sources.{IsSourced}
use Rattle.pra_tool.specs.Status.{IsDone, IsRefusal}
use Rattle.pra_tool.specs.Texts.{misapplied_line}
use Rattle.pra_tool.specs.Writes.{Writes, names, Wrote}
use Rattle.pra_tool.proofs.CertModes.{cert_texts_are_a_kind}
use Rattle.pra_tool.proofs.CompilingModes.{told_wrong}
use Rattle.pra_tool.proofs.ModeAnswers.{is_memory}
use Rattle.pra_tool.proofs.Sources.{right_of}
use Rattle.pra_tool.proofs.SourceKinds.{sources_are_a_kind}

pub apply_names : (kind : FileKind) (asked : Asked) (source input : List ℕ) (w : Writes)
    (s : Status) → ApplyMakes kind asked source input w s → names w.files ≡ asked.image ∷ []
apply_names kind asked source input w s made = ap (λ (x : Writes). names x.files) made.writes

misapplied_refusal : (file : CodeFile) (c : Certificate) (f : Misapplied) →
    IsMisapplied file c f → IsRefusal (misapplied_status f)
misapplied_refusal file c misapplied.OutOfMemory h = absurd h
misapplied_refusal file c x h = tt

pub applying_is_a_mode : (asked : Asked) → IsMode (applying asked)
applying_is_a_mode asked = record {
  source = sources_are_a_kind asked.from;
  input = cert_texts_are_a_kind;
  right = λ source input w s made. (
    right_of asked.from source made.sourced made.is,
    (made.certificate, made.given),
  );
  done = λ source input w s made. subst IsDone (sym made.done) tt;
  right_then = λ source input line s r. (
    right_of asked.from source r.sourced r.is,
    (r.certificate, r.given),
  );
  refuses = λ source input line s r. subst IsRefusal (sym r.status_is)
      (misapplied_refusal r.sourced.file r.certificate r.fault r.misapplied);
  writes = apply_names asked.from asked;
}

module _ (asked : Asked) (sourced : Sourced) (c : Certificate) (old new : Seen) (result : Status)
    (given : HasGivenCert old.input new.input c) where
  -- what `apply` made was written, as far as writing went
  pub apply_ends : (compiled : Compiled) (w : Writes) (s : Status) →
      IsApplied sourced.file c compiled → w ≡ apply_writes asked compiled → s ≡ Ended →
      Wrote w s old new result → (source : List ℕ) → IsSourced asked.from source sourced →
      Ends (applying asked) source old new result
  apply_ends compiled w s applied is done wrote source of =
      ends.wrote given.bytes given.taken given.left w s
      (record {
        sourced = sourced;
        is = of;
        certificate = c;
        given = given.is;
        compiled = compiled;
        applied = applied;
        writes = is;
        done = done;
      }) wrote

  -- the certificate is refused, unless memory was wanting
  pub misapplied_ends : (f : Misapplied) →
      (f ≢ misapplied.OutOfMemory → IsMisapplied sourced.file c f) →
      (result ≡ misapplied_status f) ⊎ (result ≡ NoMemory) →
      (result ≢ NoMemory → Refused (misapplied_line f) old new) →
      (result ≡ NoMemory → Untouched old new) → (source : List ℕ) →
      IsSourced asked.from source sourced → Ends (applying asked) source old new result
  misapplied_ends f wrong known told memory source of = ⊎_elim
      (λ wanting. ends.wanting wanting (memory wanting))
      (λ other. ends.over given.bytes given.taken given.left (misapplied_line f)
      (record {
        sourced = sourced;
        is = of;
        certificate = c;
        given = given.is;
        fault = f;
        misapplied =
            told_wrong misapplied_status misapplied.OutOfMemory refl f result known wrong other;
        line_is = refl;
        status_is = ⊎_elim (λ e. e) (λ e. absurd (other e)) known;
      }) (told other))
      (is_memory result)
