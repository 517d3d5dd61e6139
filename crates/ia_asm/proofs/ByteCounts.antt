-- The bytes of procedures, one more after the other.
use Rattle.std.proofs.Common.{◌≡◌, ℕ, zero, suc, ◌+◌, ◌≤◌, List, [], ◌∷◌, ◌++◌, Some, subst, arith}
use Rattle.std.specs.Prelude.{slice_get}
use Rattle.std.proofs.lemmas.List.Sums.{sum_by_push}
use Rattle.pra_list.proofs.Options.{some_same}
use Rattle.ia_code.specs.Image.{max_code_bytes}
use Rattle.ia_emit.specs.Code.{size, code_size}
use Rattle.ia_emit.specs.Counts.{AreFew}
use Rattle.ia_emit.specs.Emission.{emit_proc}
use Rattle.ia_emit.proofs.FewBytes.{few_bytes}
use Rattle.pl_place.specs.declared.placed.LProc.{LProc}
use Rattle.pl_place.specs.Valid.{IsPlaced}

-- the code of one sized procedure has room in an image
pub one_fits : (p : LProc) → IsPlaced p → AreFew (p ∷ []) → size (emit_proc p) ≤ max_code_bytes
one_fits p placed few =
    let all = few_bytes (p ∷ []) few only in
    omega (arith, all)
  where
    only : (k : ℕ) (q : LProc) → slice_get (p ∷ []) k ≡ Some q → IsPlaced q
    only zero q e = subst IsPlaced (some_same p q e) placed
    only (suc k) q e = cc

pub size_more : (procs : List LProc) (p : LProc) →
    code_size (procs ++ p ∷ []) ≡ code_size procs + size (emit_proc p)
size_more procs p =
    let all = sum_by_push (λ (p : LProc). size (emit_proc p)) procs p in
    omega (arith, all)
