-- The answers of any mode, at each end of a call.
use Rattle.std.proofs.Common.{◌≡◌, ◌≢◌, ◌⊎◌, ◌≤◌, inl, inr, ⊎_elim, refl, sym, ap, ◌∙◌, subst, ℕ}
use Rattle.std.proofs.Common.{Bool, true, false, List, [], ◌∷◌, ◌++◌, Some, take, codes}
use Rattle.std.proofs.lemmas.List.{map-append}
use Rattle.std.specs.declared.option.Option.{Option}
use Rattle.pra_io.specs.Causes.{Rose}
use Rattle.pra_io.specs.Contents.{Holds, Becomes, IsAllOf}
use Rattle.pra_tool.specs.declared.status.Status.{Status}
use Rattle.pra_tool.specs.declared.status.Status.TheVariants.{Ended, Trapped, Going, BadSource}
use Rattle.pra_tool.specs.declared.status.Status.TheVariants.{OverLimit, Fault, BadWords, BadInput}
use Rattle.pra_tool.specs.declared.status.Status.TheVariants.{NoMemory}
use Rattle.pra_tool.specs.Status.{IsDone, IsRefusal}
use Rattle.pra_tool.specs.Outside.{StreamSeen, Seen, SameFiles, Refused, Untouched}
use Rattle.pra_tool.specs.Writes.{FileText, Writes, names, OthersStay, Hold, Stored, FileFailed}
use Rattle.pra_tool.specs.Writes.{WroteAll, Stopped, LeftOff, Wrote, NoWriteFault}
use Rattle.pra_tool.specs.Modes.{Mode, IsMode, IsInput, TellsInput, IsLeft, NoInputFault}
use Rattle.pra_tool.specs.Modes.{source_told, IsDoneBy, SourceRight, MadeRefused, FileNotRead}
use Rattle.pra_tool.specs.Modes.{Answers}
use Rattle.pra_tool.specs.Ends.{Ends}
use Rattle.pra_tool.proofs.Files.{rose_after}
use Rattle.pra_tool.specs.Ends as ends

-- ---- statuses

refusal_is_not_done : (s : Status) → IsRefusal s → IsDone s → ⊥
refusal_is_not_done BadSource r d = d
refusal_is_not_done OverLimit r d = d
refusal_is_not_done BadInput r d = d
refusal_is_not_done x r d = r

done_is_no_end : (s t : Status) → IsDone s → s ≡ t → IsDone t
done_is_no_end s t d e = subst IsDone e d

refusal_along : (s t : Status) → IsRefusal s → s ≡ t → IsRefusal t
refusal_along s t d e = subst IsRefusal e d

-- what holds of what is told
held_same : (file : Option (Option (List ℕ))) (bytes source : List ℕ) → file ≡ Some (Some bytes) →
    Holds file source → bytes ≡ source
held_same file bytes source e held = subst (λ f. Holds f source) e held

-- the bytes of an input are those that it tells
input_same : (reads : Bool) (stream : StreamSeen) (told bytes : List ℕ) →
    TellsInput reads stream told → IsInput reads stream bytes → told ≡ bytes
input_same true stream told bytes tells taken =
    sym (subst (λ (o : Option (List ℕ)). IsAllOf o bytes) tells taken)
input_same false stream told bytes tells taken = tells ∙ sym taken

pub is_memory : (t : Status) → (t ≡ NoMemory) ⊎ (t ≢ NoMemory)
is_memory NoMemory = inl refl
is_memory x = inr (λ e. cc)

-- ---- a source that is refused, or FILE that is not read

module _ (m : Mode) (mode : IsMode m) (file : List ℕ) (old new : Seen) where
  -- FILE was not read
  pub not_read : (s : Status) → s ≡ Fault → FileNotRead m file old new → Answers m file old new s
  not_read s is left = subst (Answers m file old new) (sym is) (record {
    known = λ e. cc;
    performed = λ d. absurd d;
    refused = λ r. absurd r;
    fault = λ e. inl left;
    memory = λ e. absurd cc;
    refused_exactly = λ source f told wrong. inr left.cause;
    input_exactly = λ source input f told right tells wrong. inr (inl left.cause);
    complete = λ source input told right tells good unread well written.
        absurd (unread left.cause);
  })

  -- memory was wanting before anything was written
  pub no_memory : (s : Status) → s ≡ NoMemory → m.Leaves old new → Answers m file old new s
  no_memory s is leaves = subst (Answers m file old new) (sym is) (record {
    known = λ e. cc;
    performed = λ d. absurd d;
    refused = λ r. absurd r;
    fault = λ e. absurd cc;
    memory = λ e. leaves;
    refused_exactly = λ source f told wrong. inl (inr refl);
    input_exactly = λ source input f told right tells wrong. inl (inr refl);
    complete = λ source input told right tells good unread well written. inr (inl refl);
  })

  module _ (source : List ℕ) (f : m.source.Wrong) (read : Holds (source_told m.own file old) source)
      (wrong : m.source.IsWrong source f) (left : Refused (m.source.line f) old new)
      (alone : new.input ≡ old.input) where
    exactly : (other : List ℕ) (g : m.source.Wrong) → source_told m.own file old ≡
        Some (Some other) →
        m.source.IsWrong other g →
        (m.source.status f ≡ m.source.status g) × Refused (m.source.line g) old new
    exactly other g told h =
        let same : other ≡ source = held_same (source_told m.own file old) other source told read in
        let one : f ≡ g = mode.source.one_wrong source f g wrong
        (subst (λ s. m.source.IsWrong s g) same h) in
        (ap m.source.status one, subst (λ x. Refused (m.source.line x) old new) one left)

    no_right : (other : List ℕ) → source_told m.own file old ≡ Some (Some other) →
        m.source.IsRight other → ⊥
    no_right other told right =
        let same : other ≡ source = held_same (source_told m.own file old) other source told read in
        mode.source.never_both source f (subst m.source.IsRight same right) wrong

    refusal : IsRefusal (m.source.status f)
    refusal = mode.source.refuses source f wrong

    refused_source : Answers m file old new (m.source.status f)
    refused_source = record {
      known = λ e. refusal_along (m.source.status f) BadWords refusal e;
      performed = λ d. absurd (refusal_is_not_done (m.source.status f) refusal d);
      refused = λ r. inl (record {
        source = source;
        read = read;
        refused = record { fault = f; wrong = wrong; status_is = refl; left = left };
        alone = alone;
      });
      fault = λ e. absurd (refusal_along (m.source.status f) Fault refusal e);
      memory = λ e. absurd (refusal_along (m.source.status f) NoMemory refusal e);
      refused_exactly = λ other g told h. inl (inl (exactly other g told h));
      input_exactly = λ other input g told right tells h. absurd (no_right other told right);
      complete = λ other input told right tells good unread well written.
          absurd (no_right other told right);
    }

  -- a source that is refused, unless memory is wanting for its line
  pub wrong_source : (source : List ℕ) (f : m.source.Wrong) (s : Status) →
      Holds (source_told m.own file old) source →
      (s ≢ NoMemory → m.source.IsWrong source f) → (s ≡ m.source.status f) ⊎ (s ≡ NoMemory) →
      (s ≢ NoMemory → Refused (m.source.line f) old new) → (s ≡ NoMemory → m.Leaves old new) →
      new.input ≡ old.input → Answers m file old new s
  wrong_source source f s read wrong known left leaves alone = ⊎_elim
      (λ memory. no_memory s memory (leaves memory))
      (λ other. let is : s ≡ m.source.status f = ⊎_elim (λ e. e) (λ e. absurd (other e)) known in
      subst (Answers m file old new) (sym is)
      (refused_source source f read (wrong other) (left other) alone))
      (is_memory s)

  -- ---- a source with which nothing is wrong

  module _ (source : List ℕ) (read : Holds (source_told m.own file old) source)
      (right : m.source.IsRight source) where
    of_source : SourceRight m file old
    of_source = record { source = source; read = read; right = right }

    not_wrong : (other : List ℕ) (f : m.source.Wrong) → source_told m.own file old ≡
        Some (Some other) →
        m.source.IsWrong other f → ⊥
    not_wrong other f told h =
        let same : other ≡ source = held_same (source_told m.own file old) other source told read in
        mode.source.never_both source f right (subst (λ b. m.source.IsWrong b f) same h)

    -- the input was not read
    input_unread : (s : Status) → m.reads_input ≡ true → s ≡ Fault →
        Rose old.input.faults new.input.faults → Refused (codes "fault read input\n") old new →
        Answers m file old new s
    input_unread s reads is cause left = subst (Answers m file old new) (sym is) (record {
      known = λ e. cc;
      performed = λ d. absurd d;
      refused = λ r. absurd r;
      fault = λ e. inr (inl (record {
        source = of_source;
        reads = reads;
        cause = cause;
        left =
            left;
      }));
      memory = λ e. absurd cc;
      refused_exactly = λ other f told h. absurd (not_wrong other f told h);
      input_exactly = λ other input f told r tells h. inr (inr cause);
      complete = λ other input told r tells good unread well written.
          absurd (subst (λ (b : Bool). NoInputFault b old.input new.input) reads well cause);
    })

    module _ (input : List ℕ) (taken : IsInput m.reads_input old.input input)
        (f : m.input.Wrong) (wrong : m.input.IsWrong input f)
        (left : Refused (m.input.line f) old new) where
      input_exact : (told : List ℕ) (g : m.input.Wrong) → TellsInput m.reads_input old.input told →
          m.input.IsWrong told g →
          (m.input.status f ≡ m.input.status g) × Refused (m.input.line g) old new
      input_exact told g tells h =
          let same : told ≡ input = input_same m.reads_input old.input told input tells taken in
          let one : f ≡ g = mode.input.one_wrong input f g wrong
          (subst (λ s. m.input.IsWrong s g) same h) in
          (ap m.input.status one, subst (λ x. Refused (m.input.line x) old new) one left)

      not_good : (told : List ℕ) → TellsInput m.reads_input old.input told → m.input.IsRight told →
          ⊥
      not_good told tells good =
          let same : told ≡ input = input_same m.reads_input old.input told input tells taken in
          mode.input.never_both input f (subst m.input.IsRight same good) wrong

      input_refusal : IsRefusal (m.input.status f)
      input_refusal = mode.input.refuses input f wrong

      -- the input is refused
      input_refused : Answers m file old new (m.input.status f)
      input_refused = record {
        known = λ e. refusal_along (m.input.status f) BadWords input_refusal e;
        performed = λ d. absurd (refusal_is_not_done (m.input.status f) input_refusal d);
        refused = λ r. inr (inl (record {
          source = of_source;
          input = input;
          taken = taken;
          refused = record { fault = f; wrong = wrong; status_is = refl; left = left };
        }));
        fault = λ e. absurd (refusal_along (m.input.status f) Fault input_refusal e);
        memory = λ e. absurd (refusal_along (m.input.status f) NoMemory input_refusal e);
        refused_exactly = λ other g told h. absurd (not_wrong other g told h);
        input_exactly = λ other text g told r tells h. inl (inl (input_exact text g tells h));
        complete = λ other text told r tells good unread well written.
            absurd (not_good text tells good);
      }

    module _ (input : List ℕ) (taken : IsInput m.reads_input old.input input)
        (end : IsLeft m.reads_input old.input new.input) (line : List ℕ) (s : Status)
        (is : m.Refuses source input line s) (told : Refused line old new) where
      over : MadeRefused m file old new s
      over = record {
        source = source;
        read = read;
        input = input;
        taken = taken;
        left = end;
        line = line;
        refused = is;
        told = told;
      }

      refusal_then : IsRefusal s
      refusal_then = mode.refuses source input line s is

      never_bad : (other : List ℕ) (f : m.input.Wrong) →
          TellsInput m.reads_input old.input other → m.input.IsWrong other f → ⊥
      never_bad other f tells h =
          let same : other ≡ input = input_same m.reads_input old.input other input tells taken in
          mode.input.never_both input f (mode.right_then source input line s is).1
          (subst (λ b. m.input.IsWrong b f) same h)

      -- what was made of a source and an input is refused
      made_refused : Answers m file old new s
      made_refused = record {
        known = λ e. refusal_along s BadWords refusal_then e;
        performed = λ d. absurd (refusal_is_not_done s refusal_then d);
        refused = λ r. inr (inr over);
        fault = λ e. absurd (refusal_along s Fault refusal_then e);
        memory = λ e. absurd (refusal_along s NoMemory refusal_then e);
        refused_exactly = λ other f told h. absurd (not_wrong other f told h);
        input_exactly = λ other text f told r tells h. absurd (never_bad text f tells h);
        complete = λ other text told r tells good unread well written. inr (inr over);
      }

-- ---- what was written after FILE was read

-- Between two moments no file changed, input, out and notes are as they were, and no count of
-- writing fell.
pub record OnlyRead (old mid : Seen) : Type 0 where
  pub same : SameFiles old.folder mid.folder
  pub input : mid.input ≡ old.input
  pub out : mid.out ≡ old.out
  pub notes : mid.notes ≡ old.notes
  pub later : (name : List ℕ) → old.folder.write_faults name ≤ mid.folder.write_faults name

module _ (old mid new : Seen) (only : OnlyRead old mid) where
  hold_since : (files : List FileText) → Hold files mid.folder new.folder →
      Hold files old.folder new.folder
  hold_since [] h = tt
  hold_since (f ∷ fs) h = (
    subst (λ held. Becomes held (new.folder.file f.name) f.bytes) (only.same f.name) h.0,
    hold_since fs h.1,
  )

  others_since : (files : List FileText) → OthersStay files mid.folder new.folder →
      OthersStay files old.folder new.folder
  others_since files stay name other = stay name other ∙ only.same name

  stored_since : (files : List FileText) → Stored files mid.folder new.folder →
      Stored files old.folder new.folder
  stored_since files s =
      record { hold = hold_since files s.hold; others = others_since files s.others }

  all_since : (w : Writes) → WroteAll w mid new → WroteAll w old new
  all_since w a = record {
    files = stored_since w.files a.files;
    out = rw (sym only.out) a.out;
    notes = rw (sym only.notes) a.notes;
  }

  failed_since : (files : List FileText) → FileFailed files mid.folder new.folder →
      FileFailed files old.folder new.folder
  failed_since files f = record {
    before = f.before;
    at = f.at;
    after = f.after;
    order = f.order;
    cause = rose_after _ _ _ (only.later f.at.name) f.cause;
    hold = hold_since f.before f.hold;
    others = others_since (f.before ++ f.at ∷ []) f.others;
  }

  stopped_since : (w : Writes) → Stopped w mid new → Stopped w old new
  stopped_since w (inl f) = inl (record {
    files = failed_since w.files f.files;
    out = rw (sym only.out) f.out;
    notes = rw (sym only.notes) f.notes;
  })
  stopped_since w (inr (inl o)) = inr (inl (record {
    some = o.some;
    cause = rw (sym only.out) o.cause;
    files = stored_since w.files o.files;
    out = rw (sym only.out) o.out;
    notes = rw (sym only.notes) o.notes;
  }))
  stopped_since w (inr (inr n)) = inr (inr (record {
    some = n.some;
    cause = rw (sym only.notes) n.cause;
    files = stored_since w.files n.files;
    out = rw (sym only.out) n.out;
    notes = rw (sym only.notes) n.notes;
  }))

  left_since : (w : Writes) → LeftOff w mid new → LeftOff w old new
  left_since w l = record {
    files = record {
      before = l.files.before;
      some_left = l.files.some_left;
      stored = stored_since (take l.files.before w.files) l.files.stored;
    };
    out = rw (sym only.out) l.out;
    notes = rw (sym only.notes) l.notes;
  }

  refused_since : (lines : List ℕ) → Refused lines mid new → Refused lines old new
  refused_since lines r = record {
    files = λ name. r.files name ∙ only.same name;
    out = rw (sym only.out) r.out;
    notes = rw (sym only.notes) r.notes;
  }

  untouched_since : Untouched mid new → Untouched old new
  untouched_since u = record {
    files = λ name. u.files name ∙ only.same name;
    out = rw (sym only.out) u.out;
    notes = rw (sym only.notes) u.notes;
  }

-- where writing stopped, a count rose
some_rose : (w : Writes) (files : List (List ℕ)) (old new : Seen) → names w.files ≡ files →
    Stopped w old new → NoWriteFault files old new → ⊥
some_rose w files old new same (inl f) well =
    let at = f.files in
    let order : files ≡ names at.before ++ at.at.name ∷ names at.after =
    sym same ∙ ap names at.order ∙ map-append (λ (x : FileText). x.name) at.before
    (at.at ∷ at.after) in
    well.files at.at.name (record {
      before = names at.before;
      after = names at.after;
      order =
          order;
    })
    at.cause
some_rose w files old new same (inr (inl o)) well = well.out o.cause
some_rose w files old new same (inr (inr n)) well = well.notes n.cause

module _ (m : Mode) (mode : IsMode m) (file : List ℕ) (old mid new : Seen) (only : OnlyRead old mid)
    (source : List ℕ) (read : Holds (source_told m.own file old) source)
    (right : m.source.IsRight source) where
  module _ (input : List ℕ) (taken : IsInput m.reads_input old.input input)
      (left : IsLeft m.reads_input old.input new.input) (w : Writes) (s : Status)
      (makes : m.Makes source input w s) where
    made : IsDoneBy m file old new w s
    made = record {
      source = source;
      read = read;
      input = input;
      taken = taken;
      left = left;
      made =
          makes;
    }

    done : IsDone s
    done = mode.done source input w s makes

    no_fault_in : (other : List ℕ) (f : m.source.Wrong) → source_told m.own file old ≡
        Some (Some other) →
        m.source.IsWrong other f → ⊥
    no_fault_in = not_wrong m mode file old new source read right

    not_bad : (told : List ℕ) (f : m.input.Wrong) → TellsInput m.reads_input old.input told →
        m.input.IsWrong told f → ⊥
    not_bad told f tells h =
        let same : told ≡ input = input_same m.reads_input old.input told input tells taken in
        mode.input.never_both input f (mode.right source input w s makes).1
        (subst (λ b. m.input.IsWrong b f) same h)

    all_done : WroteAll w mid new → Answers m file old new s
    all_done a = record {
      known = λ e. done_is_no_end s BadWords done e;
      performed = λ d. record { writes = w; made = made; written = all_since old mid new only w a };
      refused = λ r. absurd (refusal_is_not_done s r done);
      fault = λ e. absurd (done_is_no_end s Fault done e);
      memory = λ e. absurd (done_is_no_end s NoMemory done e);
      refused_exactly = λ other f told h. absurd (no_fault_in other f told h);
      input_exactly = λ other text f told r tells h. absurd (not_bad text f tells h);
      complete = λ other text told r tells good unread well written. inl done;
    }

    not_all : Stopped w mid new → Answers m file old new Fault
    not_all x =
        let since : Stopped w old new = stopped_since old mid new only w x in
        record {
          known = λ e. cc;
          performed = λ d. absurd d;
          refused = λ r. absurd r;
          fault = λ e. inr (inr (record { writes = w; status = s; made = made; stopped = since }));
          memory = λ e. absurd cc;
          refused_exactly = λ other f told h. absurd (no_fault_in other f told h);
          input_exactly = λ other text f told r tells h. absurd (not_bad text f tells h);
          complete = λ other text told r tells good unread well written.
              absurd (some_rose w m.files old new (mode.writes source input w s makes) since
              written);
        }

    by_result : (result : Status) → (LeftOff w old new → m.Leaves old new) →
        Wrote w s mid new result → (result ≡ s) ⊎ (result ≡ Fault) ⊎ (result ≡ NoMemory) →
        Answers m file old new result
    by_result result leaves wrote (inl e) = subst (Answers m file old new) (sym e)
        (all_done (wrote.written e))
    by_result result leaves wrote (inr (inl e)) =
        subst (Answers m file old new) (sym e) (not_all (wrote.stopped e))
    by_result result leaves wrote (inr (inr e)) =
        no_memory m mode file old new result e
        (leaves (left_since old mid new only w (wrote.left_off e)))

  -- what a call ends with that has compiled FILE
  pub right_source : (s : Status) →
      ((input : List ℕ) (w : Writes) (s : Status) → m.Makes source input w s → LeftOff w old new →
      m.Leaves old new) →
      (Untouched old new → m.Leaves old new) → Ends m source mid new s → Answers m file old new s
  right_source s left wanting (ends.refused input taken t) =
      subst (Answers m file old new) (sym t.status_is)
      (input_refused m mode file old new source read right input
      (rw (sym only.input) taken) t.fault t.wrong
      (refused_since old mid new only (m.input.line t.fault) t.left))
  right_source s left wanting (ends.unread reads is cause told) =
      input_unread m mode file old new source read right s reads is (rw (sym only.input) cause)
      (refused_since old mid new only (codes "fault read input\n") told)
  right_source s left wanting (ends.wanting is untouched) =
      no_memory m mode file old new s is (wanting (untouched_since old mid new only untouched))
  right_source s left wanting (ends.over input taken end line is told) =
      made_refused m mode file old new source read right input (rw (sym only.input) taken)
      (rw (sym only.input) end) line s is (refused_since old mid new only line told)
  right_source s left wanting (ends.wrote input taken end w done makes wrote) =
      by_result input (rw (sym only.input) taken) (rw (sym only.input) end) w done makes s
      (left input w done makes) wrote wrote.known
