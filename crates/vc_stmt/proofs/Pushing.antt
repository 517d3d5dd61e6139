-- The pushes of a call, and the Call.
use Rattle.std.proofs.Common.{◌≡◌, ℕ, zero, suc, ◌+◌, ◌-◌, ◌<◌, List, [], ◌∷◌, map, length, Some}
use Rattle.std.proofs.Common.{None, refl, sym, ap, ◌∙◌, subst, arith, length-append}
use Rattle.std.specs.Prelude.{slice_get, if◌then◌else◌}
use Rattle.std.proofs.lemmas.Bool.{lt-ltb}
use Rattle.std.proofs.lemmas.List.{length-map}
use Rattle.pra_base.specs.Code as code
use Rattle.pra_base.specs.Code.{kind_of}
use Rattle.pra_base.specs.declared.ids.VarId.{VarId}
use Rattle.pra_base.specs.declared.code.VInstr.TheVariants.{Push}
use Rattle.pra_base.specs.declared.code.VProc.{VProc}
use Rattle.ob_syntax.specs.declared.checked.Checked.{Checked}
use Rattle.ob_syntax.specs.declared.checked.Param.{Param}
use Rattle.ob_mean.specs.declared.store.Argument.{Argument}
use Rattle.ob_mean.specs.declared.store.Argument.TheVariants.{Passed, Lent}
use Rattle.ob_mean.specs.declared.store.LiveCall.{LiveCall}
use Rattle.vc_code.specs.declared.value.Value.{Value}
use Rattle.vc_code.specs.Value.{Held, Words}
use Rattle.vc_code.specs.Machine.{Activation, State, here, apply, joined, last_get}
use Rattle.vc_code.specs.Operation.{operate}
use Rattle.vc_code.specs.Selected.{Vars, read, shape, selected, code_of, at_point, written}
use Rattle.vc_build.specs.Grow.{IsOpen, with_instr, Grows, GrowsAt}
use Rattle.vc_build.specs.Runs.{Codes, runs}
use Rattle.vc_build.proofs.Growth.{grows_on, grows_at_again, grows_at_same, put_code, put_open}
use Rattle.vc_build.proofs.Growth.{put_grows}
use Rattle.vc_build.proofs.Steps.{performs}
use Rattle.vc_expr.proofs.Starts.{reads_are}
use Rattle.vc_select.specs.declared.target.Setting.{Setting}
use Rattle.vc_select.specs.Selects.{selected_module}
use Rattle.vc_call.specs.Begins.{IsPushed, ArePushed}
use Rattle.vc_stmt.specs.Passes.{HaveArguments, with_pushes}

-- ---- code

pub pushes_grow : (at : ℕ) (vs : List VarId) (code : VProc) → IsOpen code at →
    GrowsAt at code (with_pushes at vs code)
pushes_grow at [] old o = grows_at_same old at
pushes_grow at (v ∷ vs) old o = grows_at_again old (with_instr at (Push v) old)
    (with_pushes at vs (with_instr at (Push v) old)) at (put_grows at (Push v) old o)
    (pushes_grow at vs (with_instr at (Push v) old) (put_open at (Push v) old o))

pub pushes_open : (at : ℕ) (vs : List VarId) (code : VProc) → IsOpen code at →
    IsOpen (with_pushes at vs code) at
pushes_open at [] old o = o
pushes_open at (v ∷ vs) old o = pushes_open at vs (with_instr at (Push v) old)
    (put_open at (Push v) old o)

pub pushes_code : (at : ℕ) (vs : List VarId) (old : VProc) → IsOpen old at →
    length (code.code_of (with_pushes at vs old) at) ≡ length (code.code_of old at) + length vs
pushes_code at [] old o = omega arith
pushes_code at (v ∷ vs) old o =
    omega (
      arith,
      pushes_code at vs (with_instr at (Push v) old) (put_open at (Push v) old o),
      ap (λ z. length z) (put_code at (Push v) old o),
      length-append (code.code_of old at)
          (Push v ∷ []),
    )

-- ---- words that are pushed one after the other

-- the last one is on top
abbrev pub pushed_onto : Words → Words → Words
pushed_onto [] below = below
pushed_onto (h ∷ hs) below = pushed_onto hs (h ∷ below)

pub pushed_length : (hs below : Words) → length (pushed_onto hs below) ≡ length hs + length below
pushed_length [] below = omega arith
pushed_length (h ∷ hs) below = omega (arith, pushed_length hs (h ∷ below))

last_on : (h : Held) (below : Words) → last_get (h ∷ below) (length below) ≡ Some h
last_on h below =
    let first : suc (length below) - 1 - length below ≡ 0 = omega arith in
    ap (λ b. if b then slice_get (h ∷ below) (suc (length below) - 1 - length below) else None)
    (lt-ltb (length below) (suc (length below)) (omega arith))
    ∙ ap (slice_get (h ∷ below)) first

last_below : (h : Held) (below : Words) (k : ℕ) → k < length below → last_get (h ∷ below) k ≡
    last_get below k
last_below h below k lt =
    let next : suc (length below) - 1 - k ≡ suc (length below - 1 - k) = omega (arith, lt) in
    ap (λ b. if b then slice_get (h ∷ below) (suc (length below) - 1 - k) else None)
    (lt-ltb k (suc (length below)) (omega (arith, lt)))
    ∙ ap (slice_get (h ∷ below)) next
    ∙ sym (ap (λ b. if b then slice_get below (length below - 1 - k) else None)
    (lt-ltb k (length below) lt))

last_kept : (hs below : Words) (k : ℕ) → k < length below → last_get (pushed_onto hs below) k ≡
    last_get below k
last_kept [] below k lt = refl
last_kept (h ∷ hs) below k lt = last_kept hs (h ∷ below) k (omega (arith, lt))
    ∙ last_below h below k lt

-- ---- what is pushed is what the arguments need

module _ (program : Checked) (w : Codes) (id : ℕ) (calls : List LiveCall) (c : Activation Vars)
  where
    abbrev pub helds : List VarId → Words
    helds vs = map (λ v. read (kind_of (code_of w.procs id)) c.home.held v.0) vs

    pub arguments_alike : (params : List Param) (xs : List Argument) (vs : List VarId) →
        HaveArguments program w id calls params xs vs c → (length xs ≡ length params) ×
        (length vs ≡ length params)
    arguments_alike [] [] [] has = (refl, refl)
    arguments_alike [] [] (v ∷ vs) has = absurd has
    arguments_alike [] (x ∷ xs) vs has = absurd has
    arguments_alike (p ∷ ps) [] vs has = absurd has
    arguments_alike (p ∷ ps) (x ∷ xs) [] has = absurd has
    arguments_alike (p ∷ ps) (x ∷ xs) (v ∷ vs) has = let rest = arguments_alike ps xs vs has.1 in
        (ap suc rest.0, ap suc rest.1)

    each_pushed : (params : List Param) (xs : List Argument) (vs : List VarId) (below : Words) →
        HaveArguments program w id calls params xs vs c → (k : ℕ) (param : Param) (x : Argument) →
        slice_get params k ≡ Some param → slice_get xs k ≡ Some x →
        IsPushed (selected_module program w) calls param x
        (joined (last_get (pushed_onto (helds vs) below) (length below + k)))
    each_pushed [] xs vs below has k param x p q = cc
    each_pushed (p ∷ ps) [] vs below has k param x e f = absurd has
    each_pushed (p ∷ ps) (y ∷ ys) [] below has k param x e f = absurd has
    each_pushed (p ∷ ps) (y ∷ ys) (v ∷ vs) below has zero param x e f =
        let h = read (kind_of (code_of w.procs id)) c.home.held v.0 in
        let there : last_get (pushed_onto (helds vs) (h ∷ below)) (length below + 0) ≡ Some h =
        ap (last_get (pushed_onto (helds vs) (h ∷ below))) (plus_zero (length below))
        ∙ last_kept (helds vs) (h ∷ below) (length below) (omega arith) ∙ last_on h below in
        let one : p ≡ param = cc in
        let two : y ≡ x = cc in
        subst (λ z. IsPushed (selected_module program w) calls param x (joined z)) (sym there)
        (subst (λ z. IsPushed (selected_module program w) calls param z h) two
        (subst (λ z. IsPushed (selected_module program w) calls z y h) one has.0))
      where
        plus_zero : (n : ℕ) → n + 0 ≡ n
        plus_zero n = omega arith
    each_pushed (p ∷ ps) (y ∷ ys) (v ∷ vs) below has (suc k) param x e f =
        let h = read (kind_of (code_of w.procs id)) c.home.held v.0 in
        subst (λ n. IsPushed (selected_module program w) calls param x
        (joined (last_get (pushed_onto (helds vs) (h ∷ below)) n))) (moved (length below) k)
        (each_pushed ps ys vs (h ∷ below) has.1 k param x e f)
      where
        moved : (n k : ℕ) → suc n + k ≡ n + suc k
        moved n k = omega arith

    pub are_pushed : (params : List Param) (xs : List Argument) (vs : List VarId) →
        HaveArguments program w id calls params xs vs c →
        ArePushed (selected_module program w) calls
        params xs (pushed_onto (helds vs) [])
    are_pushed params xs vs has =
        let alike = arguments_alike params xs vs has in
        record {
          as_many = alike.0;
          count = omega (
            arith,
            pushed_length (helds vs) [],
            length-map vs (λ v. read (kind_of (code_of w.procs id)) c.home.held v.0),
            alike.1,
          );
          each = λ k param x p q. subst (λ n. IsPushed (selected_module program w) calls param x
              (joined (last_get (pushed_onto (helds vs) []) n))) (zero_plus k)
              (each_pushed params xs vs [] has k param x p q);
        }
      where
        zero_plus : (n : ℕ) → 0 + n ≡ n
        zero_plus n = omega arith

    -- each of them holds something
    held_something : (param : Param) (x : Argument) (h : Held) →
        IsPushed (selected_module program w) calls param x h → (y : Value) × (h ≡ Some y)
    held_something param (Passed v) h has = (_, has.1.word)
    held_something param (Lent l) h has = (_, has.1.address)

-- ---- the run

module _ (g : Setting) (w : Codes) (calls : List LiveCall) (at : ℕ) (s : State Vars)
    (proc_is : s.top.proc ≡ g.id.0) (block_is : s.top.home.block ≡ at) (going : s.over ≡ None)
    (room : length s.top.home.held ≡ length (code_of w.procs g.id.0).vars) where
  -- the same state before another instruction, with other pushes
  abbrev pub stood : ℕ → Words → State Vars
  stood n pushed = record s {
    top = at_point s.top s.top.home.block n s.top.home.held;
    compared =
        None;
    pushed = pushed;
  }

  abbrev held_at : ℕ → Held
  held_at v = read (kind_of (code_of w.procs g.id.0)) s.top.home.held v

  pushes_one : (v : VarId) (old : VProc) (n : ℕ) (pushed : Words) (y : Value) → IsOpen old at →
      n ≡ length (code.code_of old at) → Grows (with_instr at (Push v) old)
      (code_of w.procs g.id.0) → held_at v.0 ≡ Some y →
      runs w 1 (stood n pushed) ≡ stood (suc n) (held_at v.0 ∷ pushed)
  pushes_one v old n pushed y o is holds e =
      performs w g.id.0 at old (stood n pushed) o (record { block = block_is; index = is }) (Push v)
      (record { proc = proc_is; holds = holds; going = going; compared = refl; room = room })
      ∙ ap (λ z. apply (selected w.procs w.frames) (λ xs. written (stood n pushed).top [] xs) z
      (stood n pushed))
      (ap (λ held. operate (here (shape w.procs w.frames) (stood n pushed)) (Push v) held)
      (reads_are w g.id.0 (stood n pushed) proc_is (v.0 ∷ []) ∙ ap (λ h. h ∷ []) e))
      ∙ ap (λ h. stood (suc n) (h ∷ pushed)) (sym e)

  pub pushes_run : (params : List Param) (xs : List Argument) (vs : List VarId) (old : VProc)
      (n : ℕ) (pushed : Words) → HaveArguments g.program.now w g.id.0 calls params xs vs s.top →
      IsOpen old at → n ≡ length (code.code_of old at) →
      Grows (with_pushes at vs old) (code_of w.procs g.id.0) → runs w (length vs) (stood n pushed) ≡
      stood (n + length vs) (pushed_onto (helds g.program.now w g.id.0 calls s.top vs) pushed)
  pushes_run [] [] [] old n pushed has o is holds = ap (λ k. stood k pushed) (none_more n)
    where
      none_more : (k : ℕ) → k ≡ k + 0
      none_more k = omega arith
  pushes_run [] [] (v ∷ vs) old n pushed has o is holds = absurd has
  pushes_run [] (x ∷ xs) vs old n pushed has o is holds = absurd has
  pushes_run (p ∷ ps) [] vs old n pushed has o is holds = absurd has
  pushes_run (p ∷ ps) (x ∷ xs) [] old n pushed has o is holds = absurd has
  pushes_run (p ∷ ps) (x ∷ xs) (v ∷ vs) old n pushed has o is holds =
      let next = with_instr at (Push v) old in
      let next_open = put_open at (Push v) old o in
      let some = held_something g.program.now w g.id.0 calls s.top p x (held_at v.0) has.0 in
      ap (runs w (length vs)) (pushes_one v old n pushed some.0 o is
      (grows_on next (with_pushes at vs next) (code_of w.procs g.id.0)
      (pushes_grow at vs next next_open).grows holds) some.1)
      ∙ pushes_run ps xs vs next (suc n) (held_at v.0 ∷ pushed) has.1 next_open
      (omega (
        arith,
        is,
        ap (λ z. length z) (put_code at (Push v) old o),
        length-append (code.code_of old at) (Push v ∷ []),
      )) holds
      ∙ ap (λ k. stood k (pushed_onto (helds g.program.now w g.id.0 calls s.top vs)
      (held_at v.0 ∷ pushed))) (one_more n (length vs))
    where
      one_more : (k l : ℕ) → suc k + l ≡ k + suc l
      one_more k l = omega arith
