-- Counts of kinds, from code to code.
use Rattle.std.proofs.Common.{◌≡◌, ◌≤◌, List, ap, arith}
use Rattle.std.specs.Prelude.{count_by}
use Rattle.pra_base.specs.declared.code.VarKind.{VarKind}
use Rattle.pra_base.specs.declared.code.VProc.{VProc}
use Rattle.vc_tidy.specs.KindCounts.{KeepsKinds}

pub same_kinds : (old new : VProc) → new.vars ≡ old.vars → KeepsKinds old new
same_kinds old new same =
    record {
      counts = λ kind. let e = ap (λ (ks : List VarKind). count_by kind ks) same in
          omega (arith, e);
    }

pub kinds_on : (old mid new : VProc) → KeepsKinds old mid → KeepsKinds mid new → KeepsKinds old new
kinds_on old mid new one two = record {
  counts = λ kind.
      let a : count_by kind mid.vars ≤ count_by kind old.vars = one.counts kind in
      let b : count_by kind new.vars ≤ count_by kind mid.vars = two.counts kind in
      omega (arith, a, b);
}
