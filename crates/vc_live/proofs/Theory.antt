-- From paths to equations and back.
use Rattle.std.proofs.Common.{◌≡◌, ℕ, suc, ◌<◌, inl, inr, Bool, true, false, not, ◌&&◌, ◌||◌, List}
use Rattle.std.proofs.Common.{[], ◌∷◌, length, drop, slice_get, Option, Some, None, refl, sym, ap}
use Rattle.std.proofs.Common.{◌∙◌, arith}
use Rattle.pra_list.proofs.Elements.{nothing_left, left_begins, none_left, some_left}
use Rattle.pra_base.specs.declared.code.VInstr.{VInstr}
use Rattle.pra_base.specs.declared.code.VProc.{VProc}
use Rattle.pra_base.specs.declared.code.End.{End}
use Rattle.pra_base.specs.declared.code.End.TheVariants.{Jump, Branch, Return}
use Rattle.pra_base.specs.Code.{code_of, end_of, IsTarget}
use Rattle.pra_base.specs.Operands.{reads, writes}
use Rattle.pra_base.specs.Live.{Point, Path, ReadBeforeWritten, reads_at, passes, instr}
use Rattle.pra_base.specs.Live.Goes.{over, leaves}
use Rattle.pra_base.specs.Live.Path.{stays, then}
use Rattle.vc_live.specs.Sets.{contains}
use Rattle.vc_live.specs.Equations.{before, through, at_exit, at_targets, entry, live_in, IsSound}
use Rattle.vc_live.specs.Equations.{IsClosed}

-- ---- what is left of a list begins with the element there

-- ---- an end

-- what is live at the targets is live at one of them
pub target_of : (entries : List (List ℕ)) (end : End) (v : ℕ) → at_targets entries end v ≡ true →
    (t : ℕ) × IsTarget end t × (contains (entry entries t) v ≡ true)
target_of entries (Jump b) v e = (b.0, refl, e)
target_of entries (Branch c one other) v e = chosen (contains (entry entries one.0) v) refl e
  where
    chosen : (first : Bool) → contains (entry entries one.0) v ≡ first →
        (first || contains (entry entries other.0) v) ≡ true → (t : ℕ) ×
        IsTarget (Branch c one other) t × (contains (entry entries t) v ≡ true)
    chosen true is e = (one.0, inl refl, is)
    chosen false is e = (other.0, inr refl, e)
target_of entries Return v e = cc

pub to_target : (entries : List (List ℕ)) (end : End) (t v : ℕ) → IsTarget end t →
    contains (entry entries t) v ≡ true → at_targets entries end v ≡ true
to_target entries (Jump b) t v at has = rw at has
to_target entries (Branch c one other) t v (inl at) has = rw (at, has) refl
to_target entries (Branch c one other) t v (inr at) has = rw (at, has) (or_true _)
  where
    or_true : (b : Bool) → (b || true) ≡ true
    or_true true = refl
    or_true false = refl
to_target entries Return t v at has = absurd at

both : (a b : Bool) → (a && not b) ≡ true → a ≡ true
both true b e = refl
both false b e = e

-- ---- one step of a path

step_over : (code : VProc) (v b k : ℕ) (i : VInstr) → instr code (record { block = b; index = k }) ≡
    Some i → writes i v ≡ false → ReadBeforeWritten code v (record { block = b; index = suc k }) →
    ReadBeforeWritten code v (record { block = b; index = k })
step_over code v b k i here free rest =
    record {
      to = rest.to;
      path = then (ap (passes (λ j. writes j v)) here ∙ free)
          (over here) rest.path;
      read = rest.read;
    }

leave_for : (code : VProc) (v b k t : ℕ) → instr code (record { block = b; index = k }) ≡ None →
    IsTarget (end_of code b) t → ReadBeforeWritten code v (record { block = t; index = 0 }) →
    ReadBeforeWritten code v (record { block = b; index = k })
leave_for code v b k t over_ target rest =
    record {
      to = rest.to;
      path = then (ap (passes (λ j. writes j v)) over_) (leaves over_ target)
          rest.path;
      read = rest.read;
    }

-- ---- from the equations to paths

passed : (r a c w : Bool) → r ≡ false → c ≡ false → (r || (a && (c || not w))) ≡ true → (a ≡ true) ×
    (w ≡ false)
passed true a c w e f live = (cc, cc)
passed false true c true e f live = (refl, cc)
passed false true c false e f live = (refl, refl)
passed false false c w e f live = (live, cc)

pub sound_from : (code : VProc) (constants : ℕ → Bool) (entries : List (List ℕ)) (b v : ℕ) →
    IsSound code constants entries → constants v ≡ false → (rest : List VInstr) (k : ℕ) →
    drop k (code_of code b) ≡ rest →
    through constants rest (at_exit constants entries (end_of code b)) v ≡ true →
    ReadBeforeWritten code v (record { block = b; index = k })
unfolding through at_exit before
sound_from code constants entries b v sound free [] k left live =
    let found = target_of entries (end_of code b) v (both _ _ live) in
    leave_for code v b k found.0 (nothing_left (code_of code b) k left) found.1
    (sound found.0 v free found.2)
sound_from code constants entries b v sound free (i ∷ rest) k left live =
    let here = left_begins (code_of code b) rest k i left in
    by_read (reads i v) refl here.0
    (λ after write. step_over code v b k i here.0 write
    (sound_from code constants entries b v sound free rest (suc k) here.1 after)) live
  where
    by_read : (r : Bool) → reads i v ≡ r → slice_get (code_of code b) k ≡ Some i →
        (through constants rest (at_exit constants entries (end_of code b)) v ≡ true → writes i v ≡
        false → ReadBeforeWritten code v (record { block = b; index = k })) →
        before constants i (through constants rest (at_exit constants entries (end_of code b))) v ≡
        true → ReadBeforeWritten code v (record { block = b; index = k })
    by_read true is here go live =
        record {
          to = record { block = b; index = k };
          path = stays;
          read =
              ap (passes (λ j. reads j v)) here ∙ is;
        }
    by_read false is here go live =
        let facts = passed (reads i v)
        (through constants rest (at_exit constants entries (end_of code b)) v) (constants v)
        (writes i v) is free live in
        go facts.0 facts.1

-- ---- from paths to the equations

reads_here : (code : VProc) (v : ℕ) (p : Point) → reads_at code v p ≡ true → (i : VInstr) ×
    (instr code p ≡ Some i) × (reads i v ≡ true)
reads_here code v p read = go (instr code p) refl read
  where
    go : (o : Option VInstr) → instr code p ≡ o → passes (λ j. reads j v) o ≡ true → (i : VInstr) ×
        (instr code p ≡ Some i) × (reads i v ≡ true)
    go None is read = cc
    go (Some i) is read = (i, is, read)

pub complete_from : (code : VProc) (constants : ℕ → Bool) (entries : List (List ℕ)) (v : ℕ) →
    constants v ≡ false → IsClosed code constants entries →
    ((b t : ℕ) → b < length code.blocks → IsTarget (end_of code b) t → t < length code.blocks) →
    {p q : Point} → Path code v p q → reads_at code v q ≡ true → p.block < length code.blocks →
    live_in code constants entries p.block p.index v ≡ true
unfolding live_in through before at_exit
complete_from code constants entries v free closed within {p} {q} stays read inside =
    let here = reads_here code v p read in
    rw (some_left (code_of code p.block) p.index here.0 here.1, here.2) refl
complete_from code constants entries v free closed within {p} {q}
    (then write (over {i = i} here) path) read inside =
    let after = complete_from code constants entries v free closed within path read inside in
    let kept : writes i v ≡ false = sym (ap (passes (λ j. writes j v)) here) ∙ write in
    rw (some_left (code_of code p.block) p.index i here, after, kept)
    (through_it (reads i v) (constants v))
  where
    through_it : (r c : Bool) → (r || (true && (c || not false))) ≡ true
    through_it r c = grind arith
complete_from code constants entries v free closed within {p} {q}
    (then write (leaves {b = b} here target) path) read inside =
    let there = within p.block b inside target in
    let after = complete_from code constants entries v free closed within path read there in
    rw (
      none_left (code_of code p.block) p.index here,
      to_target entries (end_of code p.block) b v
          target (closed b there v after),
      free,
    ) refl
