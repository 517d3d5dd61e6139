-- The bytes of frames below each call that waits, where one more comes, and where a word of one is
-- written.
use Rattle.std.proofs.Common.{◌≡◌, ℕ, ◌+◌, ◌<◌, Bool, true, false, nat_eq, if◌then◌else◌, List, []}
use Rattle.std.proofs.Common.{◌∷◌, ◌++◌, length, map, reverse, take, Option, Some, None, refl, sym}
use Rattle.std.proofs.Common.{ap, ◌∙◌, arith, slice_get, slice_set, slice_index_or}
use Rattle.std.specs.Option.{option_map}
use Rattle.std.proofs.lemmas.List.{take-append-le, take_all, take-map}
use Rattle.std.proofs.lemmas.List.{map-set}
use Rattle.std.proofs.lemmas.Option.{slice_get-map, slice_get_within, get_or_from_slice_get}
use Rattle.std.proofs.Math.Seq.{map-set_same}
use Rattle.std.proofs.lemmas.Bool.Decides.{nat_tests}
use Rattle.pra_base.specs.declared.code.VProc.{VProc}
use Rattle.vc_code.specs.Machine.{Shape, Activation, depth}
use Rattle.vc_code.specs.Numbered.{changed_at}
use Rattle.vc_code.specs.Selected.{Vars, shape}
use Rattle.vc_code.proofs.NumberedCalls.{get-push}
use Rattle.vc_run.specs.declared.live.LiveCall.{LiveCall}
use Rattle.vc_run.specs.Calls.{call_of, calls_of, AreSummed}
use Rattle.vc_run.proofs.CallLists.{calls_of-push, map-reverse, map-map}

-- ---- one more waits

abbrev under_of : Option LiveCall → ℕ
under_of None = 0
under_of (Some c) = c.under

module _ (frames : List ℕ) (calls : List LiveCall) (bytes : ℕ) (s : AreSummed frames calls bytes)
    (c : LiveCall) (own : c.under ≡ bytes) where
  each_push : (procs : List VProc) (n : ℕ) (d : LiveCall) (b : Bool) →
      nat_eq n (length calls) ≡ b → (if b then Some c else slice_get calls n) ≡ Some d →
      d.under ≡ depth (shape procs frames) (calls_of (take n (calls ++ c ∷ [])))
  each_push procs n d true e there =
      let last : n ≡ length calls = grind (arith, nat_tests) in
      let same : take n (calls ++ c ∷ []) ≡ calls =
      take-append-le n calls (c ∷ []) (omega (arith, last)) ∙ take_all n calls (omega (arith, last))
      in
      sym (ap under_of there) ∙ own ∙ s.all procs
      ∙ ap (λ l. depth (shape procs frames) (calls_of l)) (sym same)
  each_push procs n d false e there =
      let within : n < length calls = slice_get_within calls n d there in
      s.each procs n d there ∙ ap (λ l. depth (shape procs frames) (calls_of l))
      (sym (take-append-le n calls (c ∷ []) (omega (arith, within))))

  pub summed-push : (more : ℕ) → more ≡ slice_index_or frames c.proc.0 0 + bytes →
      AreSummed frames (calls ++ c ∷ []) more
  summed-push more is = record {
    all = λ procs.
        is ∙ ap (λ b. slice_index_or frames c.proc.0 0 + b) (s.all procs)
        ∙ ap (depth (shape procs frames)) (sym (calls_of-push calls c));
    each = λ procs n d there.
        each_push procs n d (nat_eq n (length calls)) refl (sym (get-push calls c n) ∙ there);
  }

-- ---- a word of one is written

abbrev depth_in : (ℕ → Shape) → List ℕ → ℕ
depth_in sizes [] = 0
depth_in sizes (p ∷ procs) = (sizes p).frame_size + depth_in sizes procs

depth_is : (sizes : ℕ → Shape) (calls : List (Activation Vars)) →
    depth sizes calls ≡ depth_in sizes (map (λ c. c.proc) calls)
depth_is sizes [] = refl
depth_is sizes (c ∷ calls) = ap (λ b. (sizes c.proc).frame_size + b) (depth_is sizes calls)

calls_depth : (sizes : ℕ → Shape) (calls : List LiveCall) →
    depth sizes (calls_of calls) ≡ depth_in sizes (reverse (map (λ c. c.proc.0) calls))
calls_depth sizes calls =
    depth_is sizes (calls_of calls)
    ∙ ap (depth_in sizes) (map-reverse (λ a. a.proc) (map call_of calls)
    ∙ ap reverse (map-map call_of (λ a. a.proc) calls))

depth_same : (sizes : ℕ → Shape) (xs ys : List LiveCall) →
    map (λ c. c.proc.0) xs ≡ map (λ c. c.proc.0) ys →
    depth sizes (calls_of xs) ≡ depth sizes (calls_of ys)
depth_same sizes xs ys same =
    calls_depth sizes xs ∙ ap (λ l. depth_in sizes (reverse l)) same ∙ sym (calls_depth sizes ys)

set_same : {B : Type 0} (f : LiveCall → B) (calls : List LiveCall) (n : ℕ) (old new : LiveCall) →
    slice_get calls n ≡ Some old → f new ≡ f old → map f (slice_set calls n new) ≡ map f calls
set_same f calls n old new there same = map-set_same f calls n new old
    (same ∙ ap f (sym (get_or_from_slice_get calls n old old there)))

module _ (frames : List ℕ) (calls : List LiveCall) (bytes : ℕ) (s : AreSummed frames calls bytes)
    (n : ℕ) (old new : LiveCall) (there : slice_get calls n ≡ Some old)
    (proc : (call_of new).proc ≡ (call_of old).proc) (own : new.under ≡ old.under) where
  procs_same : map (λ c. c.proc.0) (slice_set calls n new) ≡ map (λ c. c.proc.0) calls
  procs_same = set_same (λ c. c.proc.0) calls n old new there proc

  taken_same : (k : ℕ) → map (λ c. c.proc.0) (take k (slice_set calls n new)) ≡
      map (λ c. c.proc.0) (take k calls)
  taken_same k =
      sym (take-map (λ c. c.proc.0) k (slice_set calls n new)) ∙ ap (take k) procs_same
      ∙ take-map (λ c. c.proc.0) k calls

  each_of : (procs : List VProc) (k : ℕ) (d : LiveCall) (o : Option LiveCall) →
      slice_get calls k ≡ o → option_map (λ c. c.under) o ≡ Some d.under →
      d.under ≡ depth (shape procs frames) (calls_of (take k (slice_set calls n new)))
  each_of procs k d None at same = cc
  each_of procs k d (Some e) at same =
      sym (ap (λ o. number_of o) same) ∙ s.each procs k e at
      ∙ sym (depth_same (shape procs frames) (take k (slice_set calls n new)) (take k calls)
      (taken_same k))
    where
      number_of : Option ℕ → ℕ
      number_of None = 0
      number_of (Some b) = b

  pub summed-set : AreSummed frames (slice_set calls n new) bytes
  summed-set = record {
    all = λ procs.
        s.all procs
        ∙ sym (depth_same (shape procs frames) (slice_set calls n new) calls procs_same);
    each = λ procs k d at. each_of procs k d (slice_get calls k) refl
        (sym (slice_get-map (λ c. c.under) calls k)
        ∙ ap (λ l. slice_get l k) (sym (set_same (λ c. c.under) calls n old new there own))
        ∙ slice_get-map (λ c. c.under) (slice_set calls n new) k
        ∙ ap (option_map (λ c. c.under)) at);
  }

pub put_at : (calls : List LiveCall) (F : Activation Vars → Activation Vars) (n : ℕ)
    (old new : LiveCall) → slice_get calls n ≡ Some old → call_of new ≡ F (call_of old) →
    map call_of (slice_set calls n new) ≡ changed_at (map call_of calls) n F
put_at calls F n old new there is =
    let got : slice_get (map call_of calls) n ≡ Some (call_of old) =
    slice_get-map call_of calls n ∙ ap (option_map call_of) there in
    rw got (map-set call_of calls n new ∙ ap (slice_set (map call_of calls) n) is)
