-- A step of code is a step of the code without checks that cannot fail, or none where its
-- instruction is such a check.
use Rattle.std.proofs.Common.{◌≡◌, ◌≢◌, ℕ, suc, ◌<◌, ◌⊎◌, inl, inr, ⊎_elim, Bool, true, false}
use Rattle.std.proofs.Common.{nat_lt, if◌then◌else◌, ℤ, List, [], ◌∷◌, drop, length, map, slice_get}
use Rattle.std.proofs.Common.{slice_index_or, Option, Some, None, refl, sym, ap, ap₂, subst, ◌∙◌}
use Rattle.std.proofs.Common.{bit_and, arith}
use Rattle.std.proofs.lemmas.Option.{get_or_from_slice_get, slice_get-get_or, slice_get_within}
use Rattle.pra_list.proofs.Elements.{nothing_left, left_begins}
use Rattle.pra_list.proofs.Truths.{true_false, truth, if_true, if_false}
use Rattle.pra_list.specs.Options.{◌>>=◌}
use Rattle.pra_list.proofs.Options.{some_same, not_both}
use Rattle.pra_base.proofs.Roles.{among_writes}
use Rattle.pra_base.specs.System.{run}
use Rattle.pra_base.specs.RunEnd.{Ended, Trapped, Wrong}
use Rattle.pra_base.specs.Words.{word, compares, is_positive, sum32, diff32}
use Rattle.pra_base.specs.declared.event.TrapKind.{TrapKind}
use Rattle.pra_base.specs.declared.event.TrapKind.TheVariants as trap
use Rattle.pra_base.specs.declared.ids.BlockId.{BlockId}
use Rattle.pra_base.specs.declared.ids.Cond.{Cond}
use Rattle.pra_base.specs.declared.ids.VarId.{VarId}
use Rattle.pra_base.specs.declared.code.VarKind.TheVariants.{Plain}
use Rattle.pra_base.specs.declared.code.VInstr.{VInstr}
use Rattle.pra_base.specs.declared.code.VInstr.TheVariants as instr
use Rattle.pra_base.specs.declared.code.End.{End}
use Rattle.pra_base.specs.declared.code.End.TheVariants.{Jump, Branch, Return}
use Rattle.pra_base.specs.declared.code.Block.{Block}
use Rattle.pra_base.specs.declared.code.VProc.{VProc}
use Rattle.pra_base.specs.Code.{kind_of, code_of, instr_at, end_of, IsTarget, no_block}
use Rattle.pra_base.specs.Operands.{writes, read_by, written_by}
use Rattle.vc_code.specs.declared.value.Value.{Value}
use Rattle.vc_code.specs.declared.value.Value.TheVariants.{Num, At}
use Rattle.vc_code.specs.declared.action.Action.{Action}
use Rattle.vc_code.specs.declared.action.Action.TheVariants as action
use Rattle.vc_code.specs.Value.{Held, Words, is_index}
use Rattle.vc_code.specs.Operation.{number, computes}
use Rattle.vc_code.specs.Machine.{Activation, State, Machine, found, with_top, apply, act, act_on}
use Rattle.vc_code.specs.Machine.{step, returned, goes_to, branched, leave}
use Rattle.vc_code.specs.Selected.{Vars, read, valued, at_point, at_block, behind, written, held_by}
use Rattle.vc_code.specs.Selected.{next_of, put_all, begun, selected}
use Rattle.vc_code.specs.Selected as selection
use Rattle.vc_coupling.specs.Coupled.{AllBeside, Same, Leads}
use Rattle.vc_coupling.proofs.Applied.{found_same, with_top_same, ended_same, performed}
use Rattle.vc_same.proofs.Put.{put_rest, put_one}
use Rattle.vc_checks.specs.declared.fact.Fact.{Fact}
use Rattle.vc_checks.specs.Facts.{Kinds, AllHold, Computes, Passes, Tells, Follow, CannotFail, Goes}
use Rattle.vc_checks.specs.Facts.{EntailAt}
use Rattle.vc_checks.specs.Facts.CannotFail.{index, positive}
use Rattle.vc_checks.specs.LeftOut.{Begins, Part, IsWithout}
use Rattle.vc_checks.specs.LeftOut.Part.{ends, stays, left_out}
use Rattle.vc_checks.proofs.Tracked.{before, Tracks, couples, begun_tracks, HasCompared, behind_is}

there_too : {A : Type 0} (xs ys : List A) (b : ℕ) (x d : A) → length ys ≡ length xs →
    slice_get xs b ≡ Some x → slice_get ys b ≡ Some (slice_index_or ys b d)
there_too xs ys b x d long e = let lt : b < length xs = slice_get_within xs b x e in
    slice_get-get_or ys b d (omega (arith, lt, long))

jumped : (c x : Activation Vars) (b : ℕ) (o : Option Block) → at_block c b o ≡ Some x →
    (block : Block) × (o ≡ Some block) × (x ≡ at_point c b 0 c.home.held)
jumped c x b None e = absurd (not_both None x refl e)
jumped c x b (Some block) e = (block, refl, sym (some_same _ _ e))

-- ---- where control goes

jump_goes : (kind : Kinds) (last : Option VInstr) (held : Words) (to : BlockId) →
    Goes kind last (Jump to) held to.0
jump_goes kind (Some (instr.Cmp x y)) held to = refl
jump_goes kind _ held to = refl

-- behind a comparison control goes by the numbers that its operands hold
branch_goes : (kind : Kinds) (last : Option VInstr) (held : Words) (condition : Cond)
    (one other : BlockId) (a b : ℕ) →
    ((x y : VarId) → last ≡ Some (instr.Cmp x y) →
    (read kind held x.0 ≡ Some (Num a)) × (read kind held y.0 ≡ Some (Num b))) →
    Goes kind last (Branch condition one other) held
    (if compares condition a b then one.0 else other.0)
branch_goes kind (Some (instr.Cmp x y)) held condition one other a b told =
    let both = told x y refl in (a, b, both.0, both.1, refl)
branch_goes kind _ held condition one other a b told = target (compares condition a b)
  where
    target : (way : Bool) → IsTarget (Branch condition one other) (if way then one.0 else other.0)
    target true = inl refl
    target false = inr refl

module _ (olds news : List VProc) (begins : ℕ → Begins) (frames : List ℕ)
    (all : (p : ℕ) → IsWithout (begins p) (selection.code_of olds p) (selection.code_of news p))
    (long : length news ≡ length olds) where
  abbrev pub R : Activation Vars → Activation Vars → Type 0
  R = Tracks olds news begins

  abbrev m : Machine Vars
  m = selected olds frames

  abbrev n : Machine Vars
  n = selected news frames

  abbrev old : ℕ → VProc
  old p = selection.code_of olds p

  abbrev new : ℕ → VProc
  new p = selection.code_of news p

  -- how much is left of the running call's block
  abbrev pub measure : State Vars → ℕ
  measure s = length (drop s.top.home.index (code_of (old s.top.proc) s.top.home.block))

  -- ---- calls

  called : (t : Bool) (c x : Activation Vars) → (if t then Some c else None) ≡ Some x → x ≡ c
  called true c x e = sym (some_same c x e)
  called false c x e = absurd (not_both None x refl e)

  begun_is : (p : ℕ) (args : Words) (o : Option VProc) (x : Activation Vars) →
      selection.begin p o args ≡ Some x → (code : VProc) × (o ≡ Some code) ×
      (nat_lt 0 (length code.blocks) ≡ true) × (x ≡ begun p code args)
  begun_is p args None x e = absurd (not_both None x refl e)
  begun_is p args (Some code) x e =
      ⊎_elim
      (λ (is : nat_lt 0 (length code.blocks) ≡ true).
      (code, refl, is, called (nat_lt 0 (length code.blocks)) (begun p code args) x e))
      (λ (is : nat_lt 0 (length code.blocks) ≡ false).
      absurd (not_both _ x (if_false (nat_lt 0 (length code.blocks)) (Some (begun p code args))
      None is) e))
      (truth (nat_lt 0 (length code.blocks)))

  call_begins : (p : ℕ) (args : Words) → Leads R (m.begin p args) (n.begin p args)
  call_begins p args x e =
      let c = begun_is p args (slice_get olds p) x e in
      let same : old p ≡ c.0 = get_or_from_slice_get olds p c.0 selection.no_proc c.1 in
      let there = there_too olds news p c.0 selection.no_proc long c.1 in
      let some_block : nat_lt 0 (length (new p).blocks) ≡ true =
      ap (λ k. nat_lt 0 k) ((all p).count ∙ ap (λ (code : VProc). length code.blocks) same)
      ∙ c.2 in (
        begun p (new p) args,
        ap (λ o. selection.begin p o args) there ∙ if_true (nat_lt 0 (length (new p).blocks))
            (Some (begun p (new p) args)) None some_block,
        subst (λ z. R z (begun p (new p) args)) (ap (λ code. begun p code args) same ∙ sym c.3)
            (begun_tracks olds news begins frames all p args),
      )

  -- ---- an instruction

  first_step : (s : State Vars) → s.over ≡ None → (o : Option VInstr) →
      instr_at (old s.top.proc) s.top.home.block s.top.home.index ≡ o → step m s ≡
      act m (next_of (old s.top.proc) s.top o) s
  first_step s going o is = ap (λ e. act_on m e s) going
      ∙ ap (λ q. act m (next_of (old s.top.proc) s.top q) s) is

  module _ (s t : State Vars) (r : Same R s t) where
    abbrev p : ℕ
    p = s.top.proc

    abbrev b : ℕ
    b = s.top.home.block

    abbrev k : ℕ
    k = s.top.home.index

    abbrev l : ℕ
    l = t.top.home.index

    abbrev held : Words
    held = s.top.home.held

    other_step : s.over ≡ None → (o : Option VInstr) → instr_at (new p) b l ≡ o → step n t ≡
        act n (next_of (new p) t.top o) t
    other_step going o is =
        let place : instr_at (new t.top.proc) t.top.home.block l ≡ o =
        ap₂ (λ q c. instr_at (new q) c l) r.top.proc r.top.block ∙ is in
        ap (λ e. act_on n e t) (r.over ∙ going) ∙ ap₂ (λ q i. act n (next_of (new q) t.top i) t)
        r.top.proc place

    -- once the instruction is passed, the calls behind it are related
    abbrev On : VInstr → Type 0
    On i = (after : Words) → Passes (kind_of (old p)) i held after →
        R (at_point s.top b (suc k) after) (at_point t.top t.top.home.block (suc l) after)

    -- what these results tell
    abbrev Told : VInstr → List Value → Type 0
    Told i xs = (after : Words) → put_all (Some held) (written_by i) xs ≡ Some after →
        Tells (kind_of (old p)) i held after

    kept : (i : VInstr) (xs : List Value) (after : Words) →
        put_all (Some held) (written_by i) xs ≡ Some after → (v : ℕ) → writes i v ≡ false →
        read (kind_of (old p)) after v ≡ read (kind_of (old p)) held v
    kept i xs after e v free = ap (λ h. valued (kind_of (old p) v) h)
        ((put_rest (written_by i) xs held after e).1 v
        (λ among. true_false (writes i v) (among_writes i v among) free))

    leads : (i : VInstr) → On i → (xs : List Value) → Told i xs →
        Leads R (written s.top (written_by i) xs) (written t.top (written_by i) xs)
    leads i on xs told x e =
        let w = behind_is s.top x (put_all (Some held) (written_by i) xs) e in (
          at_point t.top t.top.home.block (suc l) w.0,
          ap (λ o. behind t.top o) (ap (λ h. put_all (Some h) (written_by i) xs) r.top.held ∙ w.1),
          subst (λ z. R z (at_point t.top t.top.home.block (suc l) w.0)) (sym w.2)
              (on w.0 (record { kept = kept i xs w.0 w.1; tells = told w.0 w.1 })),
        )

    gives : (i : VInstr) → On i → (xs : List Value) → Told i xs →
        (found s (written s.top (written_by i) xs) (λ c. with_top s c)).over ≢ Some Wrong →
        Same R (found s (written s.top (written_by i) xs) (λ c. with_top s c))
        (found t (written t.top (written_by i) xs) (λ d. with_top t d))
    gives i on xs told ok = found_same m n R (couples olds news begins frames all) R s t
        (written s.top (written_by i) xs) (written t.top (written_by i) xs) _ _ (leads i on xs told)
        (λ x y _ q _. with_top_same m n R (couples olds news begins frames all) s t r x y q) ok

    same_reads : (vs : List ℕ) → held_by (new p) t.top vs ≡ held_by (old p) s.top vs
    same_reads vs = ap₂ (λ kinds (ws : Words). map (read (λ v. slice_index_or kinds v Plain) ws) vs)
        (all p).vars r.top.held

    same_read : (v : ℕ) → read (kind_of (new p)) t.top.home.held v ≡ read (kind_of (old p)) held v
    same_read v = ap₂ (λ kinds (ws : Words). read (λ u. slice_index_or kinds u Plain) ws v)
        (all p).vars r.top.held

    abbrev Up : VInstr → State Vars
    Up i = act m (next_of (old p) s.top (Some i)) s

    abbrev Down : VInstr → State Vars
    Down i = act n (next_of (new p) t.top (Some i)) t

    -- an instruction that tells nothing
    plain : (i : VInstr) → On i → ((after : Words) → Tells (kind_of (old p)) i held after) →
        (Up i).over ≢ Some Wrong → Same R (Up i) (Down i)
    plain i on told ok =
        performed m n R (couples olds news begins frames all) s t r
        (λ xs. written s.top (written_by i) xs) (λ xs. written t.top (written_by i) xs)
        (λ xs. leads i on xs (λ after _. told after)) i (held_by (old p) s.top (read_by i))
        (held_by (new p) t.top (read_by i)) (same_reads (read_by i))
        (λ q _. call_begins q.0 s.pushed) ok

    -- what a copy does of what its source holds
    abbrev given : Held → Option Action
    given h = h >>= (λ x. Some (action.Give x))

    copies : (v w : VarId) → On (instr.Copy v w) → (Up (instr.Copy v w)).over ≢ Some Wrong →
        Same R (Up (instr.Copy v w)) (Down (instr.Copy v w))
    copies v w on ok =
        subst (λ z. Same R (Up (instr.Copy v w))
        (apply n (λ xs. written t.top (v.0 ∷ []) xs) (given z) t)) (sym (same_read w.0))
        (by (read (kind_of (old p)) held w.0) refl ok)
      where
        by : (h : Held) → read (kind_of (old p)) held w.0 ≡ h →
            (apply m (λ xs. written s.top (v.0 ∷ []) xs) (given h) s).over ≢ Some Wrong →
            Same R (apply m (λ xs. written s.top (v.0 ∷ []) xs) (given h) s)
            (apply n (λ xs. written t.top (v.0 ∷ []) xs) (given h) t)
        by None e ok = absurd (ok refl)
        by (Some x) e ok = gives (instr.Copy v w) on (x ∷ [])
            (λ after f. ap (λ h. valued (kind_of (old p) v.0) h)
            (put_one held after v.0 x f ∙ sym e))
            ok

    -- what an instruction tells that computes of what two variables hold
    computed_tells : (f : ℕ → ℕ → ℕ) (v w a b : ℕ) → read (kind_of (old p)) held v ≡ Some (Num a) →
        read (kind_of (old p)) held w ≡ Some (Num b) → (after : Words) →
        put_all (Some held) (v ∷ []) (Num (f a b) ∷ []) ≡ Some after →
        Computes f (kind_of (old p)) v w held after
    computed_tells f v w a b x y after e = (
      a,
      b,
      x,
      y,
      ap (λ h. valued (kind_of (old p) v) h) (put_one held after v (Num (f a b)) e),
    )

    computed : (i : VInstr) (f : ℕ → ℕ → ℕ) → On i → (x y : Held) →
        ((a b : ℕ) → x ≡ Some (Num a) → y ≡ Some (Num b) → Told i (Num (f a b) ∷ [])) →
        (apply m (λ xs. written s.top (written_by i) xs) (computes f (x ∷ y ∷ [])) s).over ≢ Some
        Wrong →
        Same R (apply m (λ xs. written s.top (written_by i) xs) (computes f (x ∷ y ∷ [])) s)
        (apply n (λ xs. written t.top (written_by i) xs) (computes f (x ∷ y ∷ [])) t)
    computed i f on (Some (Num a)) (Some (Num b)) told ok =
        gives i on (Num (f a b) ∷ []) (told a b refl refl) ok
    computed i f on _ _ told ok = absurd (ok refl)

    computing : (i : VInstr) (f : ℕ → ℕ → ℕ) (v w : ℕ) → On i →
        ((a b : ℕ) → read (kind_of (old p)) held v ≡ Some (Num a) →
        read (kind_of (old p)) held w ≡ Some (Num b) → Told i (Num (f a b) ∷ [])) →
        (apply m (λ xs. written s.top (written_by i) xs)
        (computes f (held_by (old p) s.top (v ∷ w ∷ []))) s).over ≢ Some Wrong →
        Same R (apply m (λ xs. written s.top (written_by i) xs)
        (computes f (held_by (old p) s.top (v ∷ w ∷ []))) s)
        (apply n (λ xs. written t.top (written_by i) xs)
        (computes f (held_by (new p) t.top (v ∷ w ∷ []))) t)
    computing i f v w on told ok =
        subst (λ hs. Same R (apply m (λ xs. written s.top (written_by i) xs)
        (computes f (held_by (old p) s.top (v ∷ w ∷ []))) s)
        (apply n (λ xs. written t.top (written_by i) xs) (computes f hs) t))
        (sym (same_reads (v ∷ w ∷ [])))
        (computed i f on (read (kind_of (old p)) held v) (read (kind_of (old p)) held w) told ok)

    -- what a check does of what its variable holds
    abbrev checked : (ℕ → Bool) → TrapKind → Held → Option Action
    checked test kind h =
        number h >>= (λ a. if test a then Some action.Nothing else Some (action.Trap kind))

    checks : (i : VInstr) (test : ℕ → Bool) (kind : TrapKind) → On i → written_by i ≡ [] →
        (h : Held) →
        ((a : ℕ) → h ≡ Some (Num a) → test a ≡ true → (after : Words) →
        Tells (kind_of (old p)) i held after) →
        (apply m (λ xs. written s.top (written_by i) xs) (checked test kind h) s).over ≢ Some
        Wrong →
        Same R (apply m (λ xs. written s.top (written_by i) xs) (checked test kind h) s)
        (apply n (λ xs. written t.top (written_by i) xs) (checked test kind h) t)
    checks i test kind on none None told ok = absurd (ok refl)
    checks i test kind on none (Some (At x o)) told ok = absurd (ok refl)
    checks i test kind on none (Some (Num a)) told ok = by (test a) refl ok
      where
        by : (way : Bool) → test a ≡ way →
            (apply m (λ xs. written s.top (written_by i) xs)
            (if way then Some action.Nothing else Some (action.Trap kind)) s).over ≢ Some Wrong →
            Same R
            (apply m (λ xs. written s.top (written_by i) xs)
            (if way then Some action.Nothing else Some (action.Trap kind)) s)
            (apply n (λ xs. written t.top (written_by i) xs)
            (if way then Some action.Nothing else Some (action.Trap kind)) t)
        by true e ok = gives i on [] (λ after _. told a refl e after) ok
        by false e ok =
            ended_same m n R (couples olds news begins frames all) s t (Trapped kind) r

    checks_index : (v : VarId) (limit : ℤ) → On (instr.Check v limit) →
        (Up (instr.Check v limit)).over ≢ Some Wrong →
        Same R (Up (instr.Check v limit)) (Down (instr.Check v limit))
    checks_index v limit on ok =
        subst (λ z. Same R (Up (instr.Check v limit))
        (apply n (λ xs. written t.top [] xs) (checked (λ a. is_index a limit) trap.Index z) t))
        (sym (same_read v.0))
        (checks (instr.Check v limit) (λ a. is_index a limit) trap.Index on refl
        (read (kind_of (old p)) held v.0) (λ a is test _. (a, is, test)) ok)

    checks_positive : (v : VarId) → On (instr.CheckPos v) →
        (Up (instr.CheckPos v)).over ≢ Some Wrong →
        Same R (Up (instr.CheckPos v)) (Down (instr.CheckPos v))
    checks_positive v on ok =
        subst (λ z. Same R (Up (instr.CheckPos v))
        (apply n (λ xs. written t.top [] xs) (checked (λ a. is_positive a) trap.Divide z) t))
        (sym (same_read v.0))
        (checks (instr.CheckPos v) (λ a. is_positive a) trap.Divide on refl
        (read (kind_of (old p)) held v.0) (λ a is test _. (a, is, test)) ok)

    performs : (i : VInstr) → On i → (Up i).over ≢ Some Wrong → Same R (Up i) (Down i)
    performs (instr.Set v c) on ok = gives (instr.Set v c) on (Num (word c) ∷ [])
        (λ after e. ap (λ h. valued (kind_of (old p) v.0) h)
        (put_one held after v.0 (Num (word c)) e)) ok
    performs (instr.Copy v w) on ok = copies v w on ok
    performs (instr.Check v c) on ok = checks_index v c on ok
    performs (instr.CheckPos v) on ok = checks_positive v on ok
    performs (instr.Add v w) on ok = computing (instr.Add v w) sum32 v.0 w.0 on
        (computed_tells sum32 v.0 w.0) ok
    performs (instr.Sub v w) on ok = computing (instr.Sub v w) diff32 v.0 w.0 on
        (computed_tells diff32 v.0 w.0) ok
    performs (instr.And v w) on ok = computing (instr.And v w) bit_and v.0 w.0 on
        (computed_tells bit_and v.0 w.0) ok
    performs (instr.Or v w) on ok = plain (instr.Or v w) on (λ _. tt) ok
    performs (instr.Xor v w) on ok = plain (instr.Xor v w) on (λ _. tt) ok
    performs (instr.Mul v w) on ok = plain (instr.Mul v w) on (λ _. tt) ok
    performs (instr.Neg v) on ok = plain (instr.Neg v) on (λ _. tt) ok
    performs (instr.Shift op v n) on ok = plain (instr.Shift op v n) on (λ _. tt) ok
    performs (instr.Cmp v w) on ok = plain (instr.Cmp v w) on (λ _. tt) ok
    performs (instr.CmpSet c v w u) on ok = plain (instr.CmpSet c v w u) on (λ _. tt) ok
    performs (instr.DivMod q z a d) on ok = plain (instr.DivMod q z a d) on (λ _. tt) ok
    performs (instr.Load v a) on ok = plain (instr.Load v a) on (λ _. tt) ok
    performs (instr.Store a v) on ok = plain (instr.Store a v) on (λ _. tt) ok
    performs (instr.Addr v a) on ok = plain (instr.Addr v a) on (λ _. tt) ok
    performs (instr.Push v) on ok = plain (instr.Push v) on (λ _. tt) ok
    performs (instr.Call q) on ok = plain (instr.Call q) on (λ _. tt) ok
    performs (instr.Read v) on ok = plain (instr.Read v) on (λ _. tt) ok
    performs (instr.Write v) on ok = plain (instr.Write v) on (λ _. tt) ok
    performs instr.Line on ok = plain instr.Line on (λ _. tt) ok
    performs instr.Clear on ok = plain instr.Clear on (λ _. tt) ok

    -- ---- an instruction that stays, and one that is left out

    abbrev Rest : Option VInstr → List Fact → List VInstr → List VInstr → Type 0
    Rest last known xs ys = Part (kind_of (old p)) (begins p) (end_of (old p) b) last known xs ys

    stays_step : (known behind : List Fact) (i : VInstr) (xs ys : List VInstr) →
        drop k (code_of (old p) b) ≡ i ∷ xs → drop l (code_of (new p) b) ≡ i ∷ ys →
        AllHold (kind_of (old p)) held known → Follow (kind_of (old p)) i known behind →
        Rest (Some i) behind xs ys → s.over ≡ None → (step m s).over ≢ Some Wrong →
        Same R (step m s) (step n t)
    stays_step known behind i xs ys left right hold follow rest going ok =
        let here = left_begins (code_of (old p) b) xs k i left in
        let there = left_begins (code_of (new p) b) ys l i right in
        let up : step m s ≡ Up i = first_step s going (Some i) here.0 in
        let down : step n t ≡ Down i = other_step going (Some i) there.0 in
        let on : On i = λ after passes. record {
          proc = r.top.proc;
          args = r.top.args;
          aggregates = r.top.aggregates;
          block = r.top.block;
          held = refl;
          known = behind;
          part = subst (λ o. Rest o behind (drop (suc k) (code_of (old p) b))
              (drop (suc l) (code_of (new p) b))) (sym here.0)
              (subst (λ z. Rest (Some i) behind z (drop (suc l) (code_of (new p) b))) (sym here.1)
              (subst (λ z. Rest (Some i) behind xs z) (sym there.1) rest));
          hold = follow held after hold passes;
        } in
        let done : Same R (Up i) (Down i) = performs i on (λ e. ok (ap (λ z. z.over) up ∙ e)) in
        subst (λ z. Same R z (step n t)) (sym up) (subst (λ z. Same R (Up i) z) (sym down) done)

    -- the state behind a check that cannot fail
    abbrev passed : State Vars
    passed = with_top s (at_point s.top b (suc k) held)

    fails_not : (known : List Fact) (i : VInstr) → AllHold (kind_of (old p)) held known →
        CannotFail (kind_of (old p)) known i → Up i ≡ passed
    fails_not known _ hold (index {v = v} {n = limit} knows) =
        let is = knows held hold in
        ap (λ h. apply m (λ xs. written s.top [] xs)
        (checked (λ a. is_index a limit) trap.Index h) s) is.1
        ∙ ap (λ (way : Bool). apply m (λ xs. written s.top [] xs)
        (if way then Some action.Nothing else Some (action.Trap trap.Index)) s) is.2
    fails_not known _ hold (positive {v = v} knows) =
        let is = knows held hold in
        ap (λ h. apply m (λ xs. written s.top [] xs)
        (checked (λ a. is_positive a) trap.Divide h) s) is.1
        ∙ ap (λ (way : Bool). apply m (λ xs. written s.top [] xs)
        (if way then Some action.Nothing else Some (action.Trap trap.Divide)) s) is.2

    left_out_step : (known : List Fact) (i : VInstr) (xs : List VInstr) →
        drop k (code_of (old p) b) ≡ i ∷ xs → AllHold (kind_of (old p)) held known →
        CannotFail (kind_of (old p)) known i →
        Rest (Some i) known xs (drop l (code_of (new p) b)) → s.over ≡ None →
        Same R (step m s) t × (measure (step m s) ≡ length (drop (suc k) (code_of (old p) b)))
    left_out_step known i xs left hold out rest going =
        let here = left_begins (code_of (old p) b) xs k i left in
        let up : step m s ≡ passed = first_step s going (Some i) here.0
        ∙ fails_not known i hold out in
        subst (λ z. Same R z t × (measure z ≡ length (drop (suc k) (code_of (old p) b)))) (sym up) (
          record {
            top = record {
              proc = r.top.proc;
              args = r.top.args;
              aggregates = r.top.aggregates;
              block = r.top.block;
              held = r.top.held;
              known = known;
              part = subst (λ o. Rest o known (drop (suc k) (code_of (old p) b))
                  (drop l (code_of (new p) b))) (sym here.0)
                  (subst (λ z. Rest (Some i) known z (drop l (code_of (new p) b))) (sym here.1)
                  rest);
              hold = hold;
            };
            below = r.below;
            pushed = r.pushed;
            globals = r.globals;
            compared = λ ab e. cc;
            input = r.input;
            events = r.events;
            taken = r.taken;
            over = r.over;
          },
          refl,
        )

    -- ---- the end of a block

    returns : (cs ds : List (Activation Vars)) → AllBeside R cs ds →
        Same R (returned s cs) (returned t ds)
    returns [] [] q = ended_same m n R (couples olds news begins frames all) s t Ended r
    returns [] (d ∷ ds) q = elim q [ ]
    returns (c ∷ cs) [] q = elim q [ ]
    returns (c ∷ cs) (d ∷ ds) q =
        record {
          top = q.0;
          below = q.1;
          pushed = r.pushed;
          globals = r.globals;
          compared = λ ab e. cc;
          input = r.input;
          events = r.events;
          taken = r.taken;
          over = r.over;
        }

    jumps : (c : ℕ) → AllHold (kind_of (old p)) held (begins p c) →
        Leads R (m.jump c s.top) (n.jump c t.top)
    jumps c hold x e =
        let a = jumped s.top x c (slice_get (old p).blocks c) e in
        let there = there_too (old p).blocks (new p).blocks c a.0 no_block (all p).count a.1 in (
          at_point t.top c 0 t.top.home.held,
          ap (λ q. at_block t.top c (slice_get (new q).blocks c)) r.top.proc
              ∙ ap (λ o. at_block t.top c o) there,
          subst (λ z. R z (at_point t.top c 0 t.top.home.held)) (sym a.2) (record {
            proc = r.top.proc;
            args = r.top.args;
            aggregates = r.top.aggregates;
            block = refl;
            held = r.top.held;
            known = begins p c;
            part = (all p).code c;
            hold = hold;
          }),
        )

    goes : (c : ℕ) → Leads R (m.jump c s.top) (n.jump c t.top) → (goes_to m s c).over ≢ Some Wrong →
        Same R (goes_to m s c) (goes_to n t c)
    goes c f ok = found_same m n R (couples olds news begins frames all) R s t (m.jump c s.top)
        (n.jump c t.top) _ _ f (λ x y _ q _. with_top_same m n R
        (couples olds news begins frames all) s t r x y q) ok

    -- where control goes, the calls are related
    abbrev Arrives : End → Type 0
    Arrives e = (c : ℕ) → Goes (kind_of (old p)) (before k (code_of (old p) b)) e held c →
        Leads R (m.jump c s.top) (n.jump c t.top)

    leaves : HasCompared olds s → (e : End) → Arrives e → (o : Option (ℕ × ℕ)) →
        s.compared ≡ o → (leave m e s).over ≢ Some Wrong → Same R (leave m e s) (leave n e t)
    leaves told (Jump c) f o e ok =
        goes c.0 (f c.0 (jump_goes (kind_of (old p)) (before k (code_of (old p) b)) held c)) ok
    leaves told Return f o e ok = returns s.below t.below r.below
    leaves told (Branch c one other) f None e ok =
        absurd (ok (ap (λ o. (branched m c one.0 other.0 o s).over) e))
    leaves told (Branch c one other) f (Some (x, y)) e ok =
        let up : branched m c one.0 other.0 s.compared s ≡
        goes_to m s (if compares c x y then one.0 else other.0) =
        ap (λ o. branched m c one.0 other.0 o s) e in
        let down : branched n c one.0 other.0 t.compared t ≡
        goes_to n t (if compares c x y then one.0 else other.0) =
        ap (λ o. branched n c one.0 other.0 o t) (r.compared (x, y) e) in
        let arm = branch_goes (kind_of (old p)) (before k (code_of (old p) b)) held c one other x y
        (told x y e) in
        rw (up, down) (goes (if compares c x y then one.0 else other.0) (f _ arm)
        (λ w. ok (ap (λ z. z.over) up ∙ w)))

    end_step : (known : List Fact) → drop k (code_of (old p) b) ≡ [] →
        drop l (code_of (new p) b) ≡ [] → AllHold (kind_of (old p)) held known →
        ((c : ℕ) → EntailAt (kind_of (old p)) (before k (code_of (old p) b)) (end_of (old p) b) c
        known (begins p c)) →
        HasCompared olds s → s.over ≡ None → (step m s).over ≢ Some Wrong →
        Same R (step m s) (step n t)
    end_step known left right hold entail told going ok =
        let up : step m s ≡ leave m (end_of (old p) b) s =
        first_step s going None (nothing_left (code_of (old p) b) k left) in
        let down : step n t ≡ leave n (end_of (old p) b) t =
        other_step going None (nothing_left (code_of (new p) b) l right)
        ∙ ap (λ c. leave n (end_of (new p) c) t) r.top.block
        ∙ ap (λ e. leave n e t) ((all p).ends b) in
        rw (up, down) (leaves told (end_of (old p) b)
        (λ c arrives. jumps c (entail c held hold arrives)) s.compared refl
        (λ e. ok (ap (λ z. z.over) up ∙ e)))

    -- ---- a step

    pub moves : HasCompared olds s → s.over ≡ None → (step m s).over ≢ Some Wrong →
        (c : ℕ) × ((0 < c) ⊎ (measure (step m s) < measure s)) ×
        Same R (step m s) (run (step n) c t)
    moves told going ok = by (before k (code_of (old p) b)) refl r.top.known r.top.hold _ _ refl
        refl r.top.part
      where
        shorter : (i : VInstr) (xs : List VInstr) → drop k (code_of (old p) b) ≡ i ∷ xs →
            drop (suc k) (code_of (old p) b) ≡ xs →
            measure (step m s) ≡ length (drop (suc k) (code_of (old p) b)) →
            measure (step m s) < measure s
        shorter i xs e f g =
            let now : measure s ≡ suc (length xs) = ap length e in
            let next : length (drop (suc k) (code_of (old p) b)) ≡ length xs = ap length f in
            omega (arith, now, next, g)

        by : (last : Option VInstr) → before k (code_of (old p) b) ≡ last → (known : List Fact) →
            AllHold (kind_of (old p)) held known → (xs ys : List VInstr) →
            drop k (code_of (old p) b) ≡ xs → drop l (code_of (new p) b) ≡ ys →
            Rest last known xs ys → (c : ℕ) × ((0 < c) ⊎ (measure (step m s) < measure s)) ×
            Same R (step m s) (run (step n) c t)
        by last is known hold _ _ e f (ends entail) = (
          1,
          inl (omega arith),
          end_step known e f hold
              (subst (λ o. (c : ℕ) → EntailAt (kind_of (old p)) o (end_of (old p) b) c known
              (begins p c)) (sym is) entail) told going ok,
        )
        by last is known hold _ _ e f
            (stays {behind = behind} {x = i} {xs = xs} {ys = ys} follow rest) = (
              1,
              inl (omega arith),
              stays_step known behind i xs ys e f hold follow rest going ok,
            )
        by last is known hold _ ys e f (left_out {x = i} {xs = xs} out rest) =
            let done = left_out_step known i xs e hold out
            (subst (λ z. Rest (Some i) known xs z) (sym f) rest) going in (
              0,
              inr (shorter i xs e (left_begins (code_of (old p) b) xs k i e).1 done.1),
              done.0,
            )
