-- Statements one after the other.
use Rattle.std.proofs.Common.{◌≡◌, ℕ, Bool, true, sym, subst}
use Rattle.pra_base.specs.declared.code.VProc.{VProc}
use Rattle.ob_mean.specs.Statements as mean
use Rattle.ob_mean.specs.Statements.{Around, Execution, Normal, then_do}
use Rattle.vc_code.specs.Selected.{code_of}
use Rattle.vc_build.specs.Grow.{IsOpen}
use Rattle.vc_build.proofs.Growth.{grows_on, grows_at_same}
use Rattle.vc_select.specs.declared.target.Setting.{Setting}
use Rattle.vc_select.proofs.Keeping.{extends_on, extends_at}
use Rattle.vc_stmt.specs.Completes.{Completes}
use Rattle.vc_stmt.specs.Does.{Matches, Does}
use Rattle.vc_stmt.proofs.Completing.{comes_here, completes_then}

-- what is said of a meaning is said of the same one
pub does_as : (g : Setting) (old new : VProc) (from to : ℕ) (one other : Bool) (f h : Execution) →
    (other ≡ true → one ≡ true) → ((a : Around) (m : mean.State) → h a m ≡ f a m) →
    Does g old new from to one f → Does g old new from to other h
does_as g old new from to one other f h goods same p = record {
  extends = p.extends;
  means = λ w least a waiting m s final matches good le follow.
      subst (Completes w s least (Matches g w new to a.calls waiting)) (sym (same a m))
      (p.means w least a waiting m s final matches (goods good) le follow);
}

pub does_nothing : (g : Setting) (old : VProc) (at : ℕ) → IsOpen old at →
    Does g old old at at true (λ a m. Normal m)
does_nothing g old at o = record {
  extends = extends_at at old old (grows_at_same old at) o;
  means = λ w least a waiting m s final matches good le follow. comes_here w s
      (Matches g w old at a.calls waiting m) matches;
}

pub does_then : (g : Setting) (old mid new : VProc) (from between to : ℕ) (one two both : Bool)
    (f h : Execution) → (both ≡ true → (one ≡ true) × (two ≡ true)) →
    Does g old mid from between one f → Does g mid new between to two h →
    Does g old new from to both (λ a m. then_do (f a m) (h a))
does_then g old mid new from between to one two both f h goods p q = record {
  extends = extends_on from between to old mid new p.extends q.extends;
  means = λ w least a waiting m s final matches good le follow.
      completes_then w s least (Matches g w mid between a.calls waiting)
      (Matches g w new to a.calls waiting) (f a m) (h a)
      (p.means w least a waiting m s
      (grows_on mid new (code_of w.procs g.id.0) q.extends.grows.grows final) matches
      (goods good).0 le follow)
      (λ n t there. q.means w least a waiting n t final there (goods good).1 le follow);
}
