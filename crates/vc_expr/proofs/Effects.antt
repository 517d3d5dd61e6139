-- Instructions that test, and instructions that give two values, over all later code.
use Rattle.std.proofs.Common.{◌≡◌, ◌≢◌, ℕ, suc, ◌<◌, ◌≤◌, [], ◌∷◌, length, Some, None, refl, ap}
use Rattle.std.proofs.Common.{◌∙◌, arith, length-append}
use Rattle.std.specs.Prelude.{slice_set, slice_index_or, if◌then◌else◌}
use Rattle.std.proofs.lemmas.Bool.{lt-ltb}
use Rattle.std.proofs.lemmas.List.{get_or-set_same, get_or-set_other, length-set}
use Rattle.pra_base.specs.Code.{kind_of, code_of}
use Rattle.pra_base.specs.Operands.{written_by}
use Rattle.pra_base.specs.RunEnd.{Trapped}
use Rattle.pra_base.specs.declared.event.TrapKind.{TrapKind}
use Rattle.pra_base.specs.declared.code.VarKind.TheVariants.{Plain}
use Rattle.pra_base.specs.declared.code.VInstr.{VInstr}
use Rattle.pra_base.specs.declared.code.VProc.{VProc}
use Rattle.vc_code.specs.declared.action.Action.TheVariants.{Nothing, GiveBoth, Trap}
use Rattle.vc_code.specs.declared.value.Value.{Value}
use Rattle.vc_code.specs.Value.{Words}
use Rattle.vc_code.specs.Machine.{Activation, State, apply, found, ended, with_top}
use Rattle.vc_code.specs.Selected.{Vars, read, selected, valued, put_all, at_point, behind, written}
use Rattle.vc_code.specs.Selected as selected_code
use Rattle.vc_build.specs.Grow.{IsOpen, with_instr}
use Rattle.vc_build.specs.Runs.{Codes, runs, Stands, RunsIn, acted, Reaches, Traps}
use Rattle.vc_build.proofs.Growth.{put_code}
use Rattle.vc_build.proofs.Steps.{performs}
use Rattle.vc_expr.specs.Division.{Stays}

module _ (w : Codes) (id at : ℕ) (old : VProc) (s : State Vars) (o : IsOpen old at)
    (stands : Stands old at s.top) (i : VInstr) (r : RunsIn w id (with_instr at i old) s) where
  abbrev new : VProc
  new = with_instr at i old

  abbrev moved : Words → Activation Vars
  moved held = at_point s.top s.top.home.block (suc s.top.home.index) held

  stands_behind : (held : Words) → Stands new at (moved held)
  stands_behind held = record {
    block = stands.block;
    index = omega (
      arith,
      stands.index,
      ap (λ l. length l) (put_code at i old o),
      length-append (code_of old at) (i ∷ []),
    );
  }

  -- a test that holds
  module _ (writes : written_by i ≡ []) (acts : acted w i s ≡ Some Nothing) where
    passes_it : runs w 1 s ≡ with_top s (moved s.top.home.held)
    passes_it =
        performs w id at old s o stands i r
        ∙ ap (λ a. apply (selected w.procs w.frames) (λ xs. written s.top (written_by i) xs) a s)
        acts
        ∙ ap (λ vs. found s (written s.top vs []) (with_top s)) writes

    pub passes : (n : ℕ) → Reaches w s (Stays new at n s.top)
    passes n = record {
      steps = 1;
      call = moved s.top.home.held;
      there = passes_it;
      good = record {
        stands = stands_behind s.top.home.held;
        same = record {
          proc = refl;
          aggregates = refl;
          args = refl;
          room = refl;
          held =
              λ v lt. refl;
        };
      };
    }

  -- a test that fails
  pub traps : (k : TrapKind) → acted w i s ≡ Some (Trap k) → Traps w s k
  traps k acts = record {
    steps = 1;
    call = s.top;
    there =
        performs w id at old s o stands i r
        ∙ ap (λ a. apply (selected w.procs w.frames) (λ xs. written s.top (written_by i) xs) a s)
        acts
        ∙ ap (λ compared. ended (record s { compared = compared }) (Trapped k)) r.compared;
  }

  -- two values
  module _ (u v : ℕ) (x y : Value) (writes : written_by i ≡ u ∷ v ∷ [])
      (acts : acted w i s ≡ Some (GiveBoth x y)) (apart : u ≢ v)
      (u_declared : u < length (selected_code.code_of w.procs id).vars)
      (v_declared : v < length (selected_code.code_of w.procs id).vars)
      (u_plain : kind_of (selected_code.code_of w.procs id) u ≡ Plain)
      (v_plain : kind_of (selected_code.code_of w.procs id) v ≡ Plain) where
    abbrev held : Words
    held = s.top.home.held

    abbrev one : Words
    one = slice_set held u (Some x)

    abbrev two : Words
    two = slice_set one v (Some y)

    u_there : u < length held
    u_there = omega (arith, u_declared, r.room)

    v_there : v < length one
    v_there = omega (arith, v_declared, r.room, length-set held u (Some x))

    writes_them : written s.top (written_by i) (x ∷ y ∷ []) ≡ Some (moved two)
    writes_them =
        ap (λ vs. written s.top vs (x ∷ y ∷ [])) writes
        ∙ ap (λ b. behind s.top (put_all (if b then Some one else None) (v ∷ []) (y ∷ [])))
        (lt-ltb u (length held) u_there)
        ∙ ap (λ b. behind s.top (put_all (if b then Some two else None) [] []))
        (lt-ltb v (length one) v_there)

    gives_them : runs w 1 s ≡ with_top s (moved two)
    gives_them =
        performs w id at old s o stands i r
        ∙ ap (λ a. apply (selected w.procs w.frames) (λ xs. written s.top (written_by i) xs) a s)
        acts
        ∙ ap (λ c. found s c (with_top s)) writes_them

    u_holds : read (kind_of (selected_code.code_of w.procs id)) two u ≡ Some x
    u_holds =
        ap (λ k. valued k (slice_index_or two u None)) u_plain
        ∙ get_or-set_other one v u (Some y) None apart
        ∙ get_or-set_same held u (Some x) None u_there

    v_holds : read (kind_of (selected_code.code_of w.procs id)) two v ≡ Some y
    v_holds = ap (λ k. valued k (slice_index_or two v None)) v_plain ∙ get_or-set_same one v
        (Some y) None v_there

    pub gives_two : (n : ℕ) (Q : Activation Vars → Type 0) → n ≤ u → n ≤ v →
        ((c : Activation Vars) → Stays new at n s.top c →
        read (kind_of (selected_code.code_of w.procs id)) c.home.held u ≡ Some x →
        read (kind_of (selected_code.code_of w.procs id)) c.home.held v ≡ Some y → Q c) →
        Reaches w s Q
    gives_two n Q below_u below_v good = record {
      steps = 1;
      call = moved two;
      there = gives_them;
      good =
          good (moved two)
          (record {
            stands = stands_behind two;
            same = record {
              proc = refl;
              aggregates = refl;
              args = refl;
              room = length-set one v (Some y) ∙ length-set held u (Some x);
              held = λ k lt.
                  get_or-set_other one v k (Some y) None (λ e. omega (arith, e, lt, below_v))
                  ∙ get_or-set_other held u k (Some x) None (λ e. omega (arith, e, lt, below_u));
            };
          })
          u_holds v_holds;
    }
