-- The start of an operation.
use Rattle.std.proofs.Common.{◌≡◌, ℕ, ◌<◌, ◌≤◌, true, List, [], ◌∷◌, length, Some, None, refl, sym}
use Rattle.std.proofs.Common.{ap, ◌∙◌, arith}
use Rattle.std.specs.Prelude.{slice_index_or, ℤ}
use Rattle.std.proofs.lemmas.Bool.{leb-true}
use Rattle.pra_list.proofs.Options.{some_same}
use Rattle.pra_base.specs.Code.{kind_of}
use Rattle.pra_base.specs.Operands.{written_by}
use Rattle.pra_base.specs.Words.{word}
use Rattle.pra_base.specs.declared.ids.VarId.{VarId}
use Rattle.pra_base.specs.declared.code.VarKind.{VarKind}
use Rattle.pra_base.specs.declared.code.VarKind.TheVariants.{Param, Plain, Constant}
use Rattle.pra_base.specs.declared.code.VInstr.{VInstr}
use Rattle.pra_base.specs.declared.code.VInstr.TheVariants.{Set, Copy}
use Rattle.pra_base.specs.declared.code.VProc.{VProc}
use Rattle.vc_code.specs.declared.action.Action.TheVariants.{Give}
use Rattle.vc_code.specs.declared.value.Value.{Value}
use Rattle.vc_code.specs.declared.value.Value.TheVariants.{Num}
use Rattle.vc_code.specs.Machine.{State, here}
use Rattle.vc_code.specs.Operation.{operate}
use Rattle.vc_code.specs.Selected.{Vars, read, valued, held_by, shape, code_of}
use Rattle.vc_build.specs.Grow.{IsOpen, with_instr, with_variable, Grows, GrowsAt}
use Rattle.vc_build.specs.Runs.{Codes, RunsIn, acted, Holds}
use Rattle.vc_build.proofs.Growth.{grows_at_same, grows_at_again, grows_on, put_open, put_grows}
use Rattle.vc_build.proofs.Growth.{declared_kind, declared_count, declared_grows}
use Rattle.vc_build.proofs.Steps.{same_self, rests, gives}
use Rattle.vc_expr.specs.Operators.{is_temporary, first_of, Begins}

-- a temporary is its own start
temporary : (kind : VarKind) (first v : ℕ) → is_temporary kind first v ≡ true → (kind ≡ Plain) ×
    (first ≤ v)
temporary Plain first v e = (refl, leb-true first v e)
temporary (Param k) first v e = cc
temporary (Constant n) first v e = cc

pub begins_itself : (first at : ℕ) (old : VProc) (v : ℕ) → IsOpen old at → v < length old.vars →
    is_temporary (kind_of old v) first v ≡ true → Begins first at old old v v
begins_itself first at old v o named e =
    let t = temporary (kind_of old v) first v e in
    record {
      adds = record {
        grows = grows_at_same old at;
        is_open = o;
        named = named;
        above = t.1;
        plain =
            t.0;
      };
      itself = λ lt. refl;
      means = λ w id s x r stands is. rests w s (Holds w id old at v (length old.vars) s.top x)
          r.compared (record {
            stands = stands;
            same = same_self (length old.vars) s.top;
            value =
                is;
          });
    }

-- what the reading of a variable of the final code gives
module _ (w : Codes) (id : ℕ) (s : State Vars) (proc : s.top.proc ≡ id) where
  pub reads_are : (vs : List ℕ) → held_by (code_of w.procs s.top.proc) s.top vs ≡
      held_by (code_of w.procs id) s.top vs
  reads_are vs = ap (λ p. held_by (code_of w.procs p) s.top vs) proc

module _ (first at : ℕ) (old : VProc) (v target : VarId) (o : IsOpen old at)
    (named : v.0 < length old.vars) (low : first ≤ length old.vars)
    (number : target.0 ≡ length old.vars) where
  abbrev mid : VProc
  mid = with_variable Plain old

  mid_open : IsOpen mid at
  mid_open = o

  module _ (i : VInstr) (writes : written_by i ≡ target.0 ∷ []) where
    abbrev new : VProc
    new = with_instr at i mid

    mid_new : GrowsAt at mid new
    mid_new = put_grows at i mid mid_open

    declared : target.0 < length mid.vars
    declared = omega (arith, number, declared_count Plain old)

    plain : kind_of new target.0 ≡ Plain
    plain = ap (kind_of mid) number ∙ declared_kind Plain old

    begins_by : ((w : Codes) (id : ℕ) (s : State Vars) (x : Value) → RunsIn w id new s →
        read (kind_of (code_of w.procs id)) s.top.home.held v.0 ≡ Some x → acted w i s ≡
        Some (Give x)) → Begins first at old new v.0 target.0
    begins_by acts = record {
      adds = record {
        grows = grows_at_again old mid new at (declared_grows Plain old at) mid_new;
        is_open = put_open at i mid mid_open;
        named = declared;
        above = omega (arith, number, low);
        plain = plain;
      };
      itself = λ lt. absurd (omega (arith, lt, number));
      means = λ w id s x r stands is.
          gives w id at mid s mid_open (record { block = stands.block; index = stands.index }) i r
          target.0 (length old.vars) x writes (acts w id s x r is) (omega (arith, number))
          (r.holds.kinds target.0 declared ∙ plain) (omega (arith, declared, r.holds.vars));
    }

  begins_copy : Begins first at old (with_instr at (Copy target v) mid) v.0 target.0
  begins_copy = begins_by (Copy target v) refl (λ w id s x r is.
      ap (λ held. operate (here (shape w.procs w.frames) s) (Copy target v) held)
      (reads_are w id s r.proc (v.0 ∷ []) ∙ ap (λ h. h ∷ []) is))

  begins_set : (n : ℤ) → kind_of old v.0 ≡ Constant n →
      Begins first at old (with_instr at (Set target n) mid) v.0 target.0
  begins_set n kind = begins_by (Set target n) refl (λ w id s x r is.
      let whole : Grows old (code_of w.procs id) = grows_on old mid (code_of w.procs id)
      (declared_grows Plain old at).grows
      (grows_on mid (with_instr at (Set target n) mid) (code_of w.procs id)
      (put_grows at (Set target n) mid mid_open).grows r.holds) in
      let final : kind_of (code_of w.procs id) v.0 ≡ Constant n = whole.kinds v.0 named ∙ kind in
      let same : Num (word n) ≡ x =
      some_same (Num (word n)) x
      (ap (λ k. valued k (slice_index_or s.top.home.held v.0 None)) (sym final) ∙ is) in
      ap (λ y. Some (Give y)) same)

  pub begins_new : (kind : VarKind) → kind_of old v.0 ≡ kind →
      Begins first at old (with_instr at (first_of kind target v) mid) v.0 target.0
  begins_new (Constant n) e = begins_set n e
  begins_new Plain e = begins_copy
  begins_new (Param k) e = begins_copy
