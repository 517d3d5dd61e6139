-- The ends of writing a report.
use Rattle.std.proofs.Common.{◌≡◌, inl, inr, refl, sym, subst, List, codes}
use Rattle.std.specs.Io.KnownBytes.{Keeps}
use Rattle.pra_io.specs.declared.files.FileFault.{FileFault}
use Rattle.pra_io.specs.declared.files.FileFault.TheVariants.{Failed, TooLong, OutOfMemory}
use Rattle.pra_tool.specs.declared.status.Status.{Status}
use Rattle.pra_tool.specs.declared.status.Status.TheVariants.{Fault, NoMemory}
use Rattle.pra_tool.specs.Status.{IsDone}
use Rattle.pra_tool.specs.Outside.{FolderSeen, Seen, NoneFell, Told}
use Rattle.pra_tool.specs.Writes.{FileText, Writes, Stored, FilesStopped, stop_status, WroteAll}
use Rattle.pra_tool.specs.Writes.{Stopped, LeftOff, Wrote}

module _ (w : Writes) (s : Status) (done : IsDone s) (old new : Seen)
    (counts : NoneFell old.folder new.folder) where
  pub left_end : LeftOff w old new → Wrote w s old new NoMemory
  left_end l = record {
    known = inr (inr refl);
    written = λ e. absurd (subst IsDone (sym e) done);
    stopped = λ e. absurd cc;
    left_off = λ e. l;
    counts = counts;
  }

  pub stopped_end : (result : Status) → result ≡ Fault → Stopped w old new →
      Wrote w s old new result
  stopped_end result is x = subst (Wrote w s old new) (sym is) (record {
    known = inr (inl refl);
    written = λ e. absurd (subst IsDone (sym e) done);
    stopped = λ e. x;
    left_off = λ e. absurd cc;
    counts = counts;
  })

  pub all_end : WroteAll w old new → Wrote w s old new s
  all_end a = record {
    known = inl refl;
    written = λ e. a;
    stopped = λ e. absurd (subst IsDone e done);
    left_off = λ e. absurd (subst IsDone e done);
    counts = counts;
  }

  -- writing stopped at a file
  pub file_end : (fault : FileFault) (result : Status) →
      FilesStopped w.files fault old.folder new.folder →
      Keeps old.out.bytes new.out.bytes → result ≡ stop_status fault →
      (result ≡ Fault → Told (codes "fault write file\n") old.notes new.notes) →
      (result ≡ NoMemory → Keeps old.notes.bytes new.notes.bytes) → Wrote w s old new result
  file_end Failed result x out is told memory =
      stopped_end result is (inl (record { files = x; out = out; notes = told is }))
  file_end TooLong result x out is told memory = absurd x
  file_end OutOfMemory result x out is told memory = subst (Wrote w s old new) (sym is)
      (left_end (record { files = x; out = out; notes = memory is }))

-- what writing the files left, told of an equal list
pub stopped_same : (files other : List FileText) (fault : FileFault) (a c : FolderSeen) →
    files ≡ other → FilesStopped files fault a c → FilesStopped other fault a c
stopped_same files other fault a c same x =
    subst (λ (l : List FileText). FilesStopped l fault a c) same x

pub stored_same : (files other : List FileText) (a c : FolderSeen) → files ≡ other →
    Stored files a c → Stored other a c
stored_same files other a c same x = subst (λ (l : List FileText). Stored l a c) same x
