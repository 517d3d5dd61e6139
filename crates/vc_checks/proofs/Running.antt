-- Code without checks that cannot fail carries every run of the old code that is never stuck.
use Rattle.std.proofs.Common.{◌≡◌, ◌≢◌, ℕ, ℤ, zero, suc, ◌+◌, ◌-◌, ◌≤◌, ◌⊎◌, inl, inr, true, false}
use Rattle.std.proofs.Common.{nat_eq, if◌then◌else◌, List, [], ◌∷◌, drop, length, slice_get}
use Rattle.std.proofs.Common.{slice_set, replicate, Option, Some, None, refl, sym, ap, subst, ◌∙◌}
use Rattle.std.proofs.Common.{arith}
use Rattle.std.specs.Prelude.{sum_by}
use Rattle.std.proofs.lemmas.List.Sums.{sum_by-cons}
use Rattle.std.proofs.lemmas.Bool.{cases_eq}
use Rattle.std.proofs.lemmas.Bool.Decides.{nat_tests}
use Rattle.std.proofs.lemmas.List.{length-drop, length-set, get_or-set_same, get_or-set_other}
use Rattle.std.proofs.lemmas.Option.{get_or_from_slice_get, slice_get_within}
use Rattle.pra_list.proofs.Options.{none_some}
use Rattle.pra_base.specs.Agreement.{Carried}
use Rattle.pra_base.specs.System.{Simulates}
use Rattle.pra_base.specs.RunEnd.{Wrong}
use Rattle.pra_base.proofs.Simulation.{carried}
use Rattle.pra_base.specs.declared.code.VInstr.{VInstr}
use Rattle.pra_base.specs.declared.code.Block.{Block}
use Rattle.pra_base.specs.declared.code.End.{End}
use Rattle.pra_base.specs.declared.code.VProc.{VProc}
use Rattle.pra_base.specs.declared.code.VModule.{VModule}
use Rattle.pra_base.specs.Code.{kind_of, code_of, end_of, block_in}
use Rattle.pra_base.specs.Valid.{instruction_count}
use Rattle.vc_code.specs.Value.{Words}
use Rattle.vc_code.specs.declared.value.Value.TheVariants.{Num}
use Rattle.vc_code.specs.Machine.{State, first, step, view}
use Rattle.vc_code.specs.Selected.{Vars, begun, selected, vrun, no_proc, RunsWell}
use Rattle.vc_code.specs.Selected as selection
use Rattle.vc_code.proofs.LongerRuns.{is_machine}
use Rattle.vc_coupling.specs.Coupled.{Same}
use Rattle.vc_same.specs.SameRuns.{SameRuns, with_proc}
use Rattle.vc_same.proofs.Carried.{carried_well}
use Rattle.vc_checks.specs.LeftOut.{Begins, Part, IsWithout}
use Rattle.vc_checks.specs.LeftOut.Part.{ends, stays}
use Rattle.vc_checks.proofs.Tracked.{Tracks, begun_tracks, HasCompared, step_compared}
use Rattle.vc_checks.proofs.Stepping.{measure, moves}

-- ---- how long a block can be

in_block : (blocks : List Block) (b : ℕ) → length (block_in blocks b).code ≤
    instruction_count blocks
in_block [] b = omega arith
in_block (x ∷ xs) zero = let sum : instruction_count (x ∷ xs) ≡ length x.code + instruction_count
    xs = sum_by-cons (λ (c : Block). length c.code) x xs in omega (arith, sum)
in_block (x ∷ xs) (suc b) = let more : length (block_in xs b).code ≤ instruction_count xs =
    in_block xs b in let sum : instruction_count (x ∷ xs) ≡ length x.code + instruction_count xs =
    sum_by-cons (λ (c : Block). length c.code) x xs in omega (arith, more, sum)

abbrev most : List VProc → ℕ
most procs = sum_by (λ (p : VProc). instruction_count p.blocks) procs

in_proc : (procs : List VProc) (p b : ℕ) → length (code_of (selection.code_of procs p) b) ≤
    most procs
in_proc [] p b = omega arith
in_proc (x ∷ xs) zero b = let one : length (block_in x.blocks b).code ≤ instruction_count x.blocks =
    in_block x.blocks b in let sum : most (x ∷ xs) ≡ instruction_count x.blocks + most xs =
    sum_by-cons (λ (c : VProc). instruction_count c.blocks) x xs in omega (arith, one, sum)
in_proc (x ∷ xs) (suc p) b = let more : length (code_of (selection.code_of xs p) b) ≤ most xs =
    in_proc xs p b in let sum : most (x ∷ xs) ≡ instruction_count x.blocks + most xs =
    sum_by-cons (λ (c : VProc). instruction_count c.blocks) x xs in omega (arith, more, sum)

-- ---- whole runs

module _ (olds news : List VProc) (begins : ℕ → Begins) (frames : List ℕ)
    (all : (p : ℕ) → IsWithout (begins p) (selection.code_of olds p) (selection.code_of news p))
    (long : length news ≡ length olds) where
  abbrev B : State Vars → State Vars → Type 0
  B s t = Same (Tracks olds news begins) s t × HasCompared olds s

  short : (s : State Vars) → measure olds news begins frames all long s ≤ most olds
  short s =
      let code = code_of (selection.code_of olds s.top.proc) s.top.home.block in
      let cut : length (drop s.top.home.index code) ≡ length code - s.top.home.index =
      length-drop s.top.home.index code in
      let all_of_it : length code ≤ most olds = in_proc olds s.top.proc s.top.home.block in
      omega (arith, cut, all_of_it)

  simulates : Simulates (step (selected olds frames)) view (step (selected news frames)) view Wrong
      (most olds) (measure olds news begins frames all long) B
  simulates = record {
    same = λ s t b. let over : t.over ≡ s.over = b.0.over in let events : t.events ≡ s.events =
        b.0.events in let taken : t.taken ≡ s.taken = b.0.taken in rw (over, events, taken) refl;
    bounded = short;
    moves = λ s t b going ok. let next = moves olds news begins frames all long s t b.0 b.1 going ok
        in (next.0, next.1, (next.2, step_compared olds frames s b.1 going));
  }

  begin_same : (globals : Words) (input : List ℤ) →
      B (first (begun 0 (selection.code_of olds 0) []) globals input)
      (first (begun 0 (selection.code_of news 0) []) globals input)
  begin_same globals input = (
    record {
      top = begun_tracks olds news begins frames all 0 [];
      below = tt;
      pushed = refl;
      globals = refl;
      compared = λ ab e. e;
      input = refl;
      events = refl;
      taken = refl;
      over = refl;
    },
    λ a b e. absurd (none_some e),
  )

abbrev zeros : ℕ → Words
zeros n = replicate n (Some (Num 0))

all_carry : (module_ : VModule) (news : List VProc) (begins : ℕ → Begins) (frames : List ℕ)
    (input : List ℤ) → length news ≡ length module_.procs →
    ((p : ℕ) → IsWithout (begins p) (selection.code_of module_.procs p)
    (selection.code_of news p)) →
    RunsWell module_ frames input → Carried (vrun module_ frames input)
    (vrun (record module_ { procs = news }) frames input)
all_carry module_ news begins frames input long all well =
    let olds = module_.procs in
    carried (step (selected olds frames)) view (step (selected news frames)) view Wrong (most olds)
    (measure olds news begins frames all long) (B olds news begins frames all long)
    (is_machine (selected olds frames)) (simulates olds news begins frames all long)
    (first (begun 0 (selection.code_of olds 0) []) (zeros module_.data_words) input)
    (first (begun 0 (selection.code_of news 0) []) (zeros module_.data_words) input)
    (begin_same olds news begins frames all long (zeros module_.data_words) input) well

-- ---- one procedure in the place of another

-- nothing need be known of code from which nothing is left out
pub itself : (code : VProc) → IsWithout (λ b. []) code code
itself code = record {
  id = refl;
  args = refl;
  aggregates = refl;
  vars = refl;
  count = refl;
  depths = λ b. refl;
  ends = λ b. refl;
  entry = refl;
  code = λ b. all_stay (end_of code b) None (code_of code b);
}
  where
    all_stay : (e : End) (last : Option VInstr) (xs : List VInstr) →
        Part (kind_of code) (λ b. []) e last [] xs xs
    all_stay e last [] = ends (λ t held hold goes f none. absurd none)
    all_stay e last (x ∷ xs) = stays (λ held new hold passes f none. absurd none)
        (all_stay e (Some x) xs)

-- the facts of one procedure, and none of the others
abbrev only_at : ℕ → Begins → ℕ → Begins
only_at p begins q = if nat_eq q p then begins else (λ b. [])

pub same_runs : (begins : Begins) (old new : VProc) → IsWithout begins old new → SameRuns old new
same_runs begins old new is =
    record {
      carried = carries;
      runs_well = λ module_ p frames input at well. carried_well module_
          (with_proc module_ p new) frames input (carries module_ p frames input at well) well;
    }
  where
    each : (olds : List VProc) (p : ℕ) → slice_get olds p ≡ Some old → (q : ℕ) →
        IsWithout (only_at p begins q) (selection.code_of olds q)
        (selection.code_of (slice_set olds p new) q)
    each olds p at q = by (cases_eq q p)
      where
        by : (q ≡ p) ⊎ (q ≢ p) → IsWithout (only_at p begins q) (selection.code_of olds q)
            (selection.code_of (slice_set olds p new) q)
        by (inl same) =
            let test : nat_eq q p ≡ true = grind (arith, nat_tests) in
            let one : selection.code_of olds q ≡ old = ap (selection.code_of olds) same
            ∙ get_or_from_slice_get olds p old no_proc at in
            let two : selection.code_of (slice_set olds p new) q ≡ new =
            ap (selection.code_of (slice_set olds p new)) same
            ∙ get_or-set_same olds p new no_proc (slice_get_within olds p old at) in
            subst (λ b. IsWithout (if b then begins else (λ k. [])) (selection.code_of olds q)
            (selection.code_of (slice_set olds p new) q)) (sym test)
            (subst (λ z. IsWithout begins z (selection.code_of (slice_set olds p new) q)) (sym one)
            (subst (λ z. IsWithout begins old z) (sym two) is))
        by (inr apart) =
            let test : nat_eq q p ≡ false = grind (arith, nat_tests) in
            let same : selection.code_of (slice_set olds p new) q ≡ selection.code_of olds q =
            get_or-set_other olds p q new no_proc apart in
            subst (λ b. IsWithout (if b then begins else (λ k. [])) (selection.code_of olds q)
            (selection.code_of (slice_set olds p new) q)) (sym test)
            (subst (λ z. IsWithout (λ k. []) (selection.code_of olds q) z) (sym same)
            (itself (selection.code_of olds q)))

    carries : (module_ : VModule) (p : ℕ) (frames : List ℕ) (input : List ℤ) →
        slice_get module_.procs p ≡ Some old → RunsWell module_ frames input →
        Carried (vrun module_ frames input) (vrun (with_proc module_ p new) frames input)
    carries module_ p frames input at well = all_carry module_ (slice_set module_.procs p new)
        (only_at p begins) frames input (length-set module_.procs p new)
        (each module_.procs p at) well
