-- Procedures are replaced one after the other.
use Rattle.std.proofs.Common.{◌≡◌, ℕ, ℤ, suc, List, [], ◌∷◌, ◌++◌, length, slice_get, slice_set}
use Rattle.std.proofs.Common.{Some, refl, ap, subst, arith}
use Rattle.std.proofs.lemmas.List.{append_assoc}
use Rattle.pra_base.specs.Agreement.{Carried}
use Rattle.pra_base.proofs.Carried.{carried_on}
use Rattle.pra_base.specs.declared.code.VModule.{VModule}
use Rattle.pra_base.specs.declared.code.VProc.{VProc}
use Rattle.vc_code.specs.Selected.{vrun, RunsWell}
use Rattle.vc_same.specs.SameRuns.{SameRuns}

-- the first of those that are left, behind those that are done
at_end : {A : Type 0} (done : List A) (x : A) (rest : List A) → slice_get (done ++ x ∷ rest)
    (length done) ≡ Some x
at_end [] x rest = refl
at_end (y ∷ done) x rest = at_end done x rest

set_end : {A : Type 0} (done : List A) (x y : A) (rest : List A) → slice_set (done ++ x ∷ rest)
    (length done) y ≡ (done ++ y ∷ []) ++ rest
set_end [] x y rest = refl
set_end (z ∷ done) x y rest = ap (λ l. z ∷ l) (set_end done x y rest)

module _ (data_words : ℕ) (frames : List ℕ) (input : List ℤ) where
  abbrev with_all : List VProc → VModule
  with_all procs = record { procs = procs; data_words = data_words }

  -- what is carried, and that it is never stuck
  abbrev Goes : List VProc → List VProc → Type 0
  Goes olds news = RunsWell (with_all olds) frames input →
      Carried (vrun (with_all olds) frames input) (vrun (with_all news) frames input) ×
      RunsWell (with_all news) frames input

  abbrev AreSame : List VProc → List VProc → Type 0
  AreSame olds news = (p : ℕ) (old new : VProc) → slice_get olds p ≡ Some old → slice_get news p ≡
      Some new → SameRuns old new

  replaced : (done olds news : List VProc) → length news ≡ length olds → AreSame olds news →
      Goes (done ++ olds) (done ++ news)
  replaced done [] [] long same well = (carried_itself, well)
    where
      carried_itself : Carried (vrun (with_all (done ++ [])) frames input)
          (vrun (with_all (done ++ [])) frames input)
      carried_itself = record {
        ends = λ n over. (n, refl);
        goes = λ least. (least, λ n le going. (n, le, refl));
      }
  replaced done [] (new ∷ news) long same well = absurd (omega (arith, long))
  replaced done (old ∷ olds) [] long same well = absurd (omega (arith, long))
  replaced done (old ∷ olds) (new ∷ news) long same well =
      let one = same 0 old new refl refl in
      let place = at_end done old olds in
      let put = set_end done old new olds in
      let carried = subst (λ procs. Carried (vrun (with_all (done ++ old ∷ olds)) frames input)
      (vrun (with_all procs) frames input)) put
      (one.carried (with_all (done ++ old ∷ olds)) (length done) frames input place well) in
      let fine = subst (λ procs. RunsWell (with_all procs) frames input) put
      (one.runs_well (with_all (done ++ old ∷ olds)) (length done) frames input place well) in
      let rest = replaced (done ++ new ∷ []) olds news (omega (arith, long))
      (λ p a b e f. same (suc p) a b e f) fine in
      let last : (done ++ new ∷ []) ++ news ≡ done ++ new ∷ news =
      append_assoc done (new ∷ []) news in (
        subst (λ procs. Carried (vrun (with_all (done ++ old ∷ olds)) frames input)
            (vrun (with_all procs) frames input)) last (carried_on _ _ _ carried rest.0),
        subst (λ procs. RunsWell (with_all procs) frames input) last rest.1,
      )

pub all_replaced : (module_ : VModule) (news : List VProc) (frames : List ℕ) (input : List ℤ) →
    length news ≡ length module_.procs → AreSame module_.data_words frames input module_.procs
    news → Goes module_.data_words frames input module_.procs news
all_replaced module_ news frames input long same = replaced module_.data_words frames input
    [] module_.procs news long same
