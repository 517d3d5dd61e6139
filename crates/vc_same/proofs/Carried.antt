-- Reduced code carries the steps of the code that was reduced.
use Rattle.std.proofs.Common.{◌≡◌, ◌≢◌, ℕ, ℤ, zero, suc, ◌+◌, ◌-◌, ◌<◌, ◌≤◌, ◌⊎◌, inl, inr, ⊎_elim}
use Rattle.std.proofs.Common.{true, false, nat_eq, if◌then◌else◌, List, [], ◌∷◌, drop, length}
use Rattle.std.proofs.Common.{slice_get, slice_set, replicate, Some, None, refl, sym, ap, subst}
use Rattle.std.proofs.Common.{◌∙◌, arith}
use Rattle.std.specs.Prelude.{sum_by}
use Rattle.std.proofs.lemmas.List.Sums.{sum_by-cons}
use Rattle.std.proofs.lemmas.Bool.{cases_eq, cases_lt}
use Rattle.std.proofs.lemmas.Bool.Decides.{nat_tests}
use Rattle.std.proofs.lemmas.List.{get_or_past, length-drop, length-set}
use Rattle.std.proofs.lemmas.Option.{slice_get-get_or}
use Rattle.pra_list.proofs.Truths.{if_true, if_false}
use Rattle.pra_base.specs.Agreement.{Progress, Carried}
use Rattle.pra_base.specs.System.{Simulates}
use Rattle.pra_base.specs.RunEnd.{RunEnd, Wrong}
use Rattle.pra_base.proofs.Simulation.{carried}
use Rattle.pra_base.proofs.Carried.{agree, carried_on}
use Rattle.pra_list.proofs.Options.{some_same}
use Rattle.pra_base.specs.declared.code.VInstr.{VInstr}
use Rattle.pra_base.specs.declared.event.OutEvent.{OutEvent}
use Rattle.pra_base.specs.declared.code.Block.{Block}
use Rattle.pra_base.specs.declared.code.VProc.{VProc}
use Rattle.pra_base.specs.declared.code.VModule.{VModule}
use Rattle.pra_base.specs.Code.{code_of, block_in, instr_at}
use Rattle.pra_base.specs.Valid.{instruction_count}
use Rattle.vc_code.specs.Value.{Words}
use Rattle.vc_code.specs.declared.value.Value.TheVariants.{Num}
use Rattle.vc_code.specs.Machine.{State, first, step, view}
use Rattle.vc_code.specs.Selected.{Vars, begun, selected, vrun, no_proc, RunsWell}
use Rattle.vc_code.specs.Selected as selection
use Rattle.vc_code.proofs.LongerRuns.{is_machine, longer_runs_keep}
use Rattle.vc_same.specs.Renaming.{Names}
use Rattle.vc_same.specs.Reduction.{Reduced, AllReduced, Part}
use Rattle.vc_same.specs.Reduction.Part.{ends, stays}
use Rattle.vc_same.specs.SameRuns.{SameRuns, with_proc}
use Rattle.vc_same.proofs.Renamed.{same_names}
use Rattle.vc_coupling.specs.Coupled.{Same}
use Rattle.vc_same.proofs.Tracked.{Tracks, begun_tracks}
use Rattle.vc_same.proofs.Stepped.{measure, moves}

-- ---- how long a block can be

in_block : (blocks : List Block) (b : ℕ) → length (block_in blocks b).code ≤
    instruction_count blocks
in_block [] b = omega arith
in_block (x ∷ xs) zero = let sum : instruction_count (x ∷ xs) ≡ length x.code + instruction_count
    xs = sum_by-cons (λ (c : Block). length c.code) x xs in omega (arith, sum)
in_block (x ∷ xs) (suc b) = let more : length (block_in xs b).code ≤ instruction_count xs =
    in_block xs b in let sum : instruction_count (x ∷ xs) ≡ length x.code + instruction_count xs =
    sum_by-cons (λ (c : Block). length c.code) x xs in omega (arith, more, sum)

abbrev most : List VProc → ℕ
most procs = sum_by (λ (p : VProc). instruction_count p.blocks) procs

in_proc : (procs : List VProc) (p b : ℕ) → length (code_of (selection.code_of procs p) b) ≤
    most procs
in_proc [] p b = omega arith
in_proc (x ∷ xs) zero b = let one : length (block_in x.blocks b).code ≤ instruction_count x.blocks =
    in_block x.blocks b in let sum : most (x ∷ xs) ≡ instruction_count x.blocks + most xs =
    sum_by-cons (λ (c : VProc). instruction_count c.blocks) x xs in omega (arith, one, sum)
in_proc (x ∷ xs) (suc p) b = let more : length (code_of (selection.code_of xs p) b) ≤ most xs =
    in_proc xs p b in let sum : most (x ∷ xs) ≡ instruction_count x.blocks + most xs =
    sum_by-cons (λ (c : VProc). instruction_count c.blocks) x xs in omega (arith, more, sum)

set_there : {A : Type 0} (xs : List A) (p : ℕ) (x y : A) → slice_get xs p ≡ Some x →
    slice_get (slice_set xs p y) p ≡ Some y
set_there [] p x y e = cc
set_there (z ∷ xs) zero x y e = refl
set_there (z ∷ xs) (suc p) x y e = set_there xs p x y e

set_elsewhere : {A : Type 0} (xs : List A) (p q : ℕ) (y : A) → q ≢ p →
    slice_get (slice_set xs p y) q ≡ slice_get xs q
set_elsewhere [] p q y n = refl
set_elsewhere (z ∷ xs) zero zero y n = absurd (n refl)
set_elsewhere (z ∷ xs) zero (suc q) y n = refl
set_elsewhere (z ∷ xs) (suc p) zero y n = refl
set_elsewhere (z ∷ xs) (suc p) (suc q) y n = set_elsewhere xs p q y (λ e. n (ap suc e))

-- what is past the last procedure is reduced too
nothing_reduced : (to : Names) → Reduced to no_proc no_proc
nothing_reduced to = record {
  id = refl;
  args = refl;
  aggregates = refl;
  homes = λ i. refl;
  fewer =
      omega arith;
  constants = λ v w n e named. absurd (nowhere named.0 named.1 named.2 named.3);
  entry = λ v needed. refl;
  count = refl;
  depths = λ b. refl;
  ends = λ b. refl;
  code = λ b. ends;
}
  where
    nowhere : (b k : ℕ) (i : VInstr) → instr_at no_proc b k ≡ Some i → ⊥
    nowhere b k i e = cc

module _ (olds news : List VProc) (to : ℕ → Names) (is : AllReduced to olds news) where
  all : (p : ℕ) → Reduced (to p) (selection.code_of olds p) (selection.code_of news p)
  all p =
      ⊎_elim
      (λ (lt : p < length olds).
      let many : length news ≡ length olds = is.count in
      is.each p (selection.code_of olds p) (selection.code_of news p)
      (slice_get-get_or olds p no_proc lt)
      (slice_get-get_or news p no_proc (omega (arith, many, lt))))
      (λ (le : length olds ≤ p).
      let many : length news ≡ length olds = is.count in
      subst (λ c. Reduced (to p) c (selection.code_of news p)) (sym (get_or_past olds p no_proc le))
      (subst (λ c. Reduced (to p) no_proc c)
      (sym (get_or_past news p no_proc (omega (arith, many, le)))) (nothing_reduced (to p))))
      (cases_lt p (length olds))

  abbrev B : State Vars → State Vars → Type 0
  B = Same (Tracks olds news to)

  module _ (frames : List ℕ) where
    short : (s : State Vars) → measure olds news to frames all s ≤ most olds
    short s =
        let code = code_of (selection.code_of olds s.top.proc) s.top.home.block in
        let cut : length (drop s.top.home.index code) ≡ length code - s.top.home.index =
        length-drop s.top.home.index code in
        let all_of_it : length code ≤ most olds = in_proc olds s.top.proc s.top.home.block in
        omega (arith, cut, all_of_it)

    simulates : Simulates (step (selected olds frames)) view (step (selected news frames)) view
        Wrong (most olds) (measure olds news to frames all) B
    simulates = record {
      same = λ s t b. let over : t.over ≡ s.over = b.over in let events : t.events ≡ s.events =
          b.events in let taken : t.taken ≡ s.taken = b.taken in rw (over, events, taken) refl;
      bounded = short;
      moves = λ s t b going ok. moves olds news to frames all is.count s t b going ok;
    }

    begin_same : (globals : Words) (input : List ℤ) →
        B (first (begun 0 (selection.code_of olds 0) []) globals input)
        (first (begun 0 (selection.code_of news 0) []) globals input)
    begin_same globals input =
        record {
          top = begun_tracks olds news to frames all 0 [];
          below = tt;
          pushed = refl;
          globals = refl;
          compared = λ ab e. e;
          input = refl;
          events = refl;
          taken = refl;
          over =
              refl;
        }

-- ---- the laws

abbrev zeros : ℕ → Words
zeros n = replicate n (Some (Num 0))

pub reduced_carries : (module_ : VModule) (news : List VProc) (to : ℕ → Names) (frames : List ℕ)
    (input : List ℤ) → AllReduced to module_.procs news → RunsWell module_ frames input →
    Carried (vrun module_ frames input) (vrun (record module_ { procs = news }) frames input)
reduced_carries module_ news to frames input is well =
    let olds = module_.procs in
    carried (step (selected olds frames)) view (step (selected news frames)) view Wrong (most olds)
    (measure olds news to frames (all olds news to is)) (B olds news to is)
    (is_machine (selected olds frames)) (simulates olds news to is frames)
    (first (begun 0 (selection.code_of olds 0) []) (zeros module_.data_words) input)
    (first (begun 0 (selection.code_of news 0) []) (zeros module_.data_words) input)
    (begin_same olds news to is frames (zeros module_.data_words) input) well

-- what carries runs that are never stuck is never stuck
pub carried_well : (one other : VModule) (frames : List ℕ) (input : List ℤ) →
    Carried (vrun one frames input) (vrun other frames input) → RunsWell one frames input →
    RunsWell other frames input
carried_well one other frames input is well k e =
    let a = vrun one frames input in
    let b = vrun other frames input in
    let both = agree a b is (longer_runs_keep (selected one.procs frames)
    (selection.start one input))
    (longer_runs_keep (selected other.procs frames) (selection.start other input)) in
    let x = both.back.ends k (λ none. none_wrong (sym none ∙ e)) in
    well x.0 (ap (λ (r : Progress OutEvent RunEnd). r.ending) x.1 ∙ e)
  where
    none_wrong : None ≡ Some Wrong → ⊥
    none_wrong e = cc

-- ---- one procedure in the place of another

-- names that change nothing reduce any code to itself
pub itself : (code : VProc) → Reduced (λ v. v) code code
itself code = record {
  id = refl;
  args = refl;
  aggregates = refl;
  homes = λ i. refl;
  fewer =
      omega arith;
  constants = λ v w n e one other same. same;
  entry = λ v needed. refl;
  count = refl;
  depths = λ b. refl;
  ends = λ b. refl;
  code = λ b. all_stay b 0 (code_of code b);
}
  where
    all_stay : (b k : ℕ) (xs : List VInstr) → Part (λ v. v) code code b k k xs xs
    all_stay b k [] = ends
    all_stay b k (i ∷ xs) = stays
        (record {
          is = sym (same_names i);
          kinds = λ v named. inl refl;
          in_range = λ v named lt. lt;
          one_each = λ v w one other same. same;
          apart = λ v w over needed same. same;
        }) (all_stay b (suc k) xs)

-- the names of one procedure, and none of the others
abbrev only_at : ℕ → Names → ℕ → Names
only_at p to q = if nat_eq q p then to else (λ v. v)

module _ (olds : List VProc) (p : ℕ) (old new : VProc) (to : Names)
    (at : slice_get olds p ≡ Some old) (is : Reduced to old new) where
  replaced : AllReduced (only_at p to) olds (slice_set olds p new)
  replaced = record {
    count = length-set olds p new;
    each =
        λ q x y e f. by q x y e f (cases_eq q p);
  }
    where
      by : (q : ℕ) (x y : VProc) → slice_get olds q ≡ Some x → slice_get (slice_set olds p new) q ≡
          Some y → (q ≡ p) ⊎ (q ≢ p) → Reduced (only_at p to q) x y
      by q x y e f (inl same) =
          let test : nat_eq q p ≡ true = grind (arith, nat_tests) in
          let x_is : old ≡ x = some_same old x (sym at ∙ ap (λ r. slice_get olds r) (sym same) ∙ e)
          in
          let y_is : new ≡ y = some_same new y
          (sym (set_there olds p old new at) ∙ ap (λ r. slice_get (slice_set olds p new) r)
          (sym same) ∙ f) in
          subst (λ n. Reduced n x y) (sym (if_true (nat_eq q p) to (λ v. v) test))
          (subst (λ c. Reduced to c y) x_is (subst (λ c. Reduced to old c) y_is is))
      by q x y e f (inr other) =
          let test : nat_eq q p ≡ false = grind (arith, nat_tests) in
          let same : x ≡ y = some_same x y (sym e ∙ sym (set_elsewhere olds p q new other) ∙ f) in
          subst (λ n. Reduced n x y) (sym (if_false (nat_eq q p) to (λ v. v) test))
          (subst (λ c. Reduced (λ v. v) x c) same (itself x))

pub same_runs : (old new : VProc) (to : Names) → Reduced to old new → SameRuns old new
same_runs old new to is =
    record {
      carried = carries;
      runs_well = λ module_ p frames input at well. carried_well module_
          (with_proc module_ p new) frames input (carries module_ p frames input at well) well;
    }
  where
    carries : (module_ : VModule) (p : ℕ) (frames : List ℕ) (input : List ℤ) →
        slice_get module_.procs p ≡ Some old → RunsWell module_ frames input →
        Carried (vrun module_ frames input) (vrun (with_proc module_ p new) frames input)
    carries module_ p frames input at well = reduced_carries module_ (slice_set module_.procs p new)
        (only_at p to) frames input (replaced module_.procs p old new to at is) well

-- ---- one after the other

set_again : {A : Type 0} (xs : List A) (p : ℕ) (x y : A) → slice_set (slice_set xs p x) p y ≡
    slice_set xs p y
set_again [] p x y = refl
set_again (z ∷ xs) zero x y = refl
set_again (z ∷ xs) (suc p) x y = ap (λ l. z ∷ l) (set_again xs p x y)

set_same : {A : Type 0} (xs : List A) (p : ℕ) (x : A) → slice_get xs p ≡ Some x → slice_set xs p x ≡
    xs
set_same [] p x e = refl
set_same (z ∷ xs) zero x e = ap (λ y. y ∷ xs) (sym (some_same z x e))
set_same (z ∷ xs) (suc p) x e = ap (λ l. z ∷ l) (set_same xs p x e)

pub runs_on : (a b c : VProc) → SameRuns a b → SameRuns b c → SameRuns a c
runs_on a b c one two = record {
  carried = λ module_ p frames input at well.
      let first = one.carried module_ p frames input at well in
      let then_ = two.carried (with_proc module_ p b) p frames input
      (set_there module_.procs p a b at) (one.runs_well module_ p frames input at well) in
      subst (λ procs. Carried (vrun module_ frames input)
      (vrun (record module_ { procs = procs }) frames input)) (set_again module_.procs p b c)
      (carried_on _ _ _ first then_);
  runs_well = λ module_ p frames input at well.
      subst (λ procs. RunsWell (record module_ { procs = procs }) frames input)
      (set_again module_.procs p b c)
      (two.runs_well (with_proc module_ p b) p frames input (set_there module_.procs p a b at)
      (one.runs_well module_ p frames input at well));
}

pub runs_itself : (a : VProc) → SameRuns a a
runs_itself a = same_runs a a (λ v. v) (itself a)
