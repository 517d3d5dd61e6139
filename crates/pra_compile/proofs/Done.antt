-- Elements of lists, and tidy code of one procedure more.
use Rattle.std.proofs.Common.{◌≡◌, ℕ, zero, suc, ◌+◌, ◌<◌, List, [], ◌∷◌, ◌++◌, length, Some, refl}
use Rattle.std.proofs.Common.{subst, arith}
use Rattle.std.specs.Prelude.{◌≤◌, Bool, slice_get, count_by}
use Rattle.std.proofs.lemmas.List.{length_push}
use Rattle.cert_form.specs.declared.codes.NamedCode.{NamedCode}
use Rattle.ob_syntax.specs.declared.checked.Checked.{Checked}
use Rattle.ob_syntax.specs.declared.checked.CheckedProc.{CheckedProc}
use Rattle.pra_base.specs.declared.code.VarKind.{VarKind}
use Rattle.pra_base.specs.declared.code.VProc.{VProc}
use Rattle.vc_proc.specs.Selected.{IsSelected}
use Rattle.vc_checks.specs.LeftOut.{LeavesOut}
use Rattle.vc_same.specs.SameRuns.{Preserves}
use Rattle.vc_same.proofs.Valid.{preserves_on}
use Rattle.vc_tidy.specs.KindCounts.{KeepsKinds}
use Rattle.vc_tidy.specs.Tidy.{IsTidy}
use Rattle.vc_typed.proofs.Lists.{got}
use Rattle.pra_follow.specs.Tidied.{IsTidied}
use Rattle.pra_compile.specs.Tidied.{IsNamedOf, IsCodeUpTo}

pub there_is : {A : Type 0} (xs : List A) (k : ℕ) → k < length xs → (x : A) ×
    (slice_get xs k ≡ Some x)
there_is [] k lt = absurd (omega (arith, lt))
there_is (x ∷ xs) zero lt = (x, refl)
there_is (x ∷ xs) (suc k) lt = there_is xs k (omega (arith, lt))

pub tidied : (program : Checked) (p : ℕ) (selected lean code : VProc) →
    p < length program.procs → ((proc : CheckedProc) → slice_get program.procs p ≡ Some proc →
    IsSelected program p proc selected) → LeavesOut selected lean → Preserves selected lean →
    Preserves lean code → KeepsKinds lean code → IsTidy code → IsTidied program p code
tidied program p selected lean code lt is without kept_lean kept kinds tidy =
    let own = there_is program.procs p lt in
    record {
      proc = own.0;
      there = own.1;
      selected = selected;
      is_selected = is own.0 own.1;
      preserves = preserves_on selected lean code kept_lean kept;
      kinds = record {
        counts = subst (λ (vars : List VarKind). (kind : VarKind → Bool) →
            count_by kind code.vars ≤ count_by kind vars) without.1.vars kinds.counts;
      };
      tidy = tidy;
    }

pub none_named : (program : Checked) → IsCodeUpTo program 0 []
none_named program = record { count = refl; each = λ p named e. cc }

pub one_named : (program : Checked) (n : ℕ) (procs : List NamedCode) (named : NamedCode) →
    IsCodeUpTo program n procs → IsNamedOf program n named →
    IsCodeUpTo program (n + 1) (procs ++ named ∷ [])
one_named program n procs named are is =
    let long = length_push procs named in
    let count = are.count in
    record {
      count = omega (arith, long, count);
      each = λ p x e.
          got procs named x p e (λ lt there. are.each p x there)
          (λ at same. subst (λ k. IsNamedOf program k x) (omega (arith, at, count))
          (subst (λ y. IsNamedOf program n y) same is));
    }
