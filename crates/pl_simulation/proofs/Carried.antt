-- Placed code carries the steps of the selected code that it corresponds to.
use Rattle.std.proofs.Common.{◌≡◌, ◌≢◌, ℕ, ℤ, ◌<◌, ◌≤◌, inl, ⊎_elim, List, [], length, map}
use Rattle.std.proofs.Common.{slice_get, slice_index_or, replicate, nat_lt, Option, Some, None}
use Rattle.std.proofs.Common.{refl, sym, ap, subst, ◌∙◌, arith}
use Rattle.std.specs.Prelude.{option_map}
use Rattle.std.proofs.lemmas.Bool.{cases_lt}
use Rattle.std.proofs.lemmas.Bool.Decides.{nat_tests}
use Rattle.std.proofs.lemmas.List.{get_or_past, length-map}
use Rattle.std.proofs.lemmas.Option.{slice_get-map, slice_get-get_or, slice_get_within}
use Rattle.std.proofs.lemmas.Option.{get_or_from_slice_get}
use Rattle.pra_list.proofs.Truths.{if_true}
use Rattle.pra_list.proofs.Options.{some_same}
use Rattle.pra_base.specs.Agreement.{Progress, Carried, ReachesUntil}
use Rattle.pra_base.specs.System.{Simulates}
use Rattle.pra_base.specs.RunEnd.{RunEnd, Wrong}
use Rattle.pra_base.proofs.Simulation.{carried, reaches_until}
use Rattle.pra_base.proofs.Carried.{agree}
use Rattle.pra_base.specs.declared.event.OutEvent.{OutEvent}
use Rattle.pra_base.specs.declared.code.VInstr.{VInstr}
use Rattle.pra_base.specs.declared.code.VProc.{VProc}
use Rattle.pra_base.specs.declared.code.VModule.{VModule}
use Rattle.pra_base.specs.Code.{instr_at, code_of}
use Rattle.pra_base.specs.Valid.{PushesLead, TakesArgs, counts_of}
use Rattle.vc_code.specs.Value.{Words}
use Rattle.vc_code.specs.declared.value.Value.TheVariants.{Num}
use Rattle.vc_code.specs.Machine.{Activation, State, first, step, view}
use Rattle.vc_code.specs.Selected.{Vars, selected, vrun}
use Rattle.vc_code.specs.Selected as high
use Rattle.vc_code.proofs.LongerRuns.{is_machine, longer_runs_keep}
use Rattle.pl_place.specs.declared.placed.LProc.{LProc}
use Rattle.pl_place.specs.Machine.{Cells, proc_of, placed_machine, lrun}
use Rattle.pl_place.specs.Machine as low
use Rattle.pl_place.specs.Placed.{frame_size}
use Rattle.pl_simulation.specs.Correspondence.{Corresponds, AllCorrespond}
use Rattle.vc_coupling.specs.Coupled.{Same}
use Rattle.pl_simulation.proofs.Simulated.{Steps, TakesCall, instr_step, end_step, begins}
use Rattle.pl_simulation.proofs.Pushed.{Pending, step_led, call_takes}
use Rattle.pl_simulation.proofs.Tracked.{Tracks}

-- what is past the last procedure corresponds too
nothing_corresponds : Corresponds high.no_proc low.no_proc
nothing_corresponds = record {
  before = λ b k v. None;
  exit = λ b v. None;
  rest = λ b k. [];
  vars = refl;
  aggregates = refl;
  args = refl;
  params_apart = λ v w i e f. cc;
  instrs = λ b k i e. cc;
  ends = λ b lt. absurd (omega arith);
  entry = λ v q e. cc;
  targets = λ b t lt. absurd (omega arith);
  blocks = λ t lt. absurd (omega arith);
  ties = λ b t lt. absurd (omega arith);
}

module _ (codes : List VProc) (procs : List LProc) (is : AllCorrespond codes procs) where
  abbrev code : ℕ → VProc
  code n = high.code_of codes n

  abbrev proc : ℕ → LProc
  proc n = proc_of procs n

  code_there : (n : ℕ) → n < length codes → slice_get codes n ≡ Some (code n)
  code_there n lt = slice_get-get_or codes n high.no_proc lt

  proc_there : (n : ℕ) → n < length codes → slice_get procs n ≡ Some (proc n)
  proc_there n lt = let many : length procs ≡ length codes = is.count in
      slice_get-get_or procs n low.no_proc (omega (arith, many, lt))

  all : (n : ℕ) → Corresponds (code n) (proc n)
  all n =
      ⊎_elim
      (λ (lt : n < length codes). is.each n (code n) (proc n) (code_there n lt) (proc_there n lt))
      (λ (le : length codes ≤ n).
      let many : length procs ≡ length codes = is.count in
      subst (λ c. Corresponds c (proc n)) (sym (get_or_past codes n high.no_proc le))
      (subst (Corresponds high.no_proc)
      (sym (get_or_past procs n low.no_proc (omega (arith, many, le)))) nothing_corresponds))
      (cases_lt n (length codes))

  abbrev frames : List ℕ
  frames = map frame_size procs

  sizes : (n : ℕ) → n < length codes → frame_size (proc n) ≡ slice_index_or frames n 0
  sizes n lt =
      let there : slice_get frames n ≡ Some (frame_size (proc n)) = slice_get-map frame_size procs n
      ∙ ap (option_map frame_size) (proc_there n lt) in
      sym (get_or_from_slice_get frames n (frame_size (proc n)) 0 there)

  -- ---- calls

  abbrev T : ℕ → ℕ → Type 0
  T = TakesArgs (counts_of codes)

  starts : (n b : ℕ) → PushesLead T 0 (code_of (code n) b)
  starts n =
      ⊎_elim
      (λ (lt : n < length codes). is.pushes n (code n) (code_there n lt))
      (λ (le : length codes ≤ n). λ b. subst (λ c. PushesLead T 0 (code_of c b))
      (sym (get_or_past codes n high.no_proc le)) (nothing_pushed b))
      (cases_lt n (length codes))
    where
      nothing_pushed : (b : ℕ) → PushesLead T 0 (code_of high.no_proc b)
      nothing_pushed b = refl

  counted : (n many : ℕ) → T n many → (n < length codes) × ((code n).args ≡ many)
  counted n many t =
      let lt : n < length (counts_of codes) = slice_get_within (counts_of codes) n many t in
      let same : length (counts_of codes) ≡ length codes =
      length-map codes (λ (c : VProc). c.args) in
      let inside : n < length codes = omega (arith, lt, same) in
      let got : slice_get (counts_of codes) n ≡ Some (code n).args =
      slice_get-map (λ (c : VProc). c.args) codes n ∙ ap (option_map (λ (c : VProc). c.args))
      (code_there n inside) in
      (inside, some_same (code n).args many (sym got ∙ t))

  takes_call : (n : ℕ) (args : Words) → T n (length args) →
      TakesCall codes procs (length codes) n args
  takes_call n args t =
      let c = counted n (length args) t in
      record {
        inside = c.0;
        code = code_there n c.0;
        proc = proc_there n c.0;
        entry =
            is.entry_blocks n (code n) (code_there n c.0);
        many = sym c.1 ∙ sym (all n).args;
      }

  -- ---- runs

  abbrev R : Activation Vars → Activation Cells → Type 0
  R = Tracks code proc (length codes) all

  abbrev led : State Vars → Type 0
  led = Pending T codes frames starts

  abbrev B : State Vars → State Cells → Type 0
  B s t = Same R s t × led s

  any_step : (s : State Vars) (t : State Cells) → B s t → s.over ≡ None →
      (step (selected codes frames) s).over ≢ Some Wrong → (o : Option VInstr) →
      instr_at (code s.top.proc) s.top.home.block s.top.home.index ≡ o →
      Steps codes frames procs (length codes) all sizes (step (selected codes frames) s) t
  any_step s t b going ok None e = end_step codes frames procs (length codes) all sizes s t b.0
      going e ok
  any_step s t b going ok (Some i) e =
      instr_step codes frames procs (length codes) all sizes s t b.0 going i e
      (λ p call. begins codes frames procs (length codes) all sizes p.0 s.pushed
      (takes_call p.0 s.pushed (call_takes T codes frames starts s b.1 i _ p e call)))
      ok

  simulates : Simulates (step (selected codes frames)) view (step (placed_machine procs)) view Wrong
      0 (λ s. 0) B
  simulates = record {
    same = λ s t b. let over : t.over ≡ s.over = b.0.over in let events : t.events ≡ s.events =
        b.0.events in let taken : t.taken ≡ s.taken = b.0.taken in rw (over, events, taken) refl;
    bounded = λ s. omega arith;
    moves = λ s t b going ok.
        let x = any_step s t b going ok
        (instr_at (code s.top.proc) s.top.home.block s.top.home.index) refl in
        (x.0, inl x.1, (x.2, step_led T codes frames starts s b.1));
  }

  -- where a run starts
  abbrev body : Activation Vars
  body = high.begun 0 (code 0) []

  abbrev low_body : Activation Cells
  low_body = low.begun 0 (proc 0) [] (slice_index_or (proc 0).blocks 0 low.no_block)

  started : R body low_body
  started =
      let enters = takes_call 0 [] is.body in
      let lt : 0 < length (code 0).blocks = enters.entry in
      let block = (all 0).blocks 0 lt in
      let up : high.begin 0 (slice_get codes 0) [] ≡ Some body =
      ap (λ o. high.begin 0 o []) enters.code ∙ if_true (nat_lt 0 (length (code 0).blocks))
      (Some body) None (grind (arith, nat_tests)) in
      let x = begins codes frames procs (length codes) all sizes 0 [] enters body up in
      let first_block : slice_index_or (proc 0).blocks 0 low.no_block ≡ block.0 =
      get_or_from_slice_get (proc 0).blocks 0 block.0 low.no_block block.1 in
      let down : Some low_body ≡ Some x.0 =
      ap (λ b. Some (low.begun 0 (proc 0) [] b)) first_block
      ∙ sym (ap (λ o. low.started 0 (proc 0) [] o) block.1)
      ∙ sym (ap (λ o. low.begin 0 o []) enters.proc) ∙ x.1 in
      subst (R body) (sym (some_same low_body x.0 down)) x.2

  begin_same : (globals : Words) (input : List ℤ) → B (first body globals input)
      (first low_body globals input)
  begin_same globals input = (
    record {
      top = started;
      below = tt;
      pushed = refl;
      globals = refl;
      compared = λ ab e. e;
      input =
          refl;
      events = refl;
      taken = refl;
      over = refl;
    },
    (starts 0 0, tt),
  )

-- ---- the laws

abbrev zeros : ℕ → Words
zeros n = replicate n (Some (Num 0))

pub placed_carries : (module_ : VModule) (procs : List LProc) (input : List ℤ) →
    AllCorrespond module_.procs procs →
    ((k : ℕ) → (vrun module_ (map frame_size procs) input k).ending ≢ Some Wrong) →
    Carried (vrun module_ (map frame_size procs) input) (lrun procs module_.data_words input)
placed_carries module_ procs input is never =
    let codes = module_.procs in
    let frames = map frame_size procs in
    carried (step (selected codes frames)) view (step (placed_machine procs)) view Wrong 0 (λ s. 0)
    (B codes procs is) (is_machine (selected codes frames)) (simulates codes procs is)
    (first (body codes procs is) (zeros module_.data_words) input)
    (first (low_body codes procs is) (zeros module_.data_words) input)
    (begin_same codes procs is (zeros module_.data_words) input) never

pub placed_until : (module_ : VModule) (procs : List LProc) (input : List ℤ) →
    AllCorrespond module_.procs procs →
    ReachesUntil Wrong (vrun module_ (map frame_size procs) input)
    (lrun procs module_.data_words input)
placed_until module_ procs input is =
    let codes = module_.procs in
    let frames = map frame_size procs in
    reaches_until (step (selected codes frames)) view (step (placed_machine procs)) view Wrong 0
    (λ s. 0) (B codes procs is) (is_machine (selected codes frames)) (simulates codes procs is)
    (first (body codes procs is) (zeros module_.data_words) input)
    (first (low_body codes procs is) (zeros module_.data_words) input)
    (begin_same codes procs is (zeros module_.data_words) input)

pub never_stuck : (module_ : VModule) (procs : List LProc) (input : List ℤ) →
    AllCorrespond module_.procs procs →
    ((k : ℕ) → (vrun module_ (map frame_size procs) input k).ending ≢ Some Wrong) → (k : ℕ) →
    (lrun procs module_.data_words input k).ending ≢ Some Wrong
never_stuck module_ procs input is never k e =
    let a = vrun module_ (map frame_size procs) input in
    let b = lrun procs module_.data_words input in
    let both = agree a b (placed_carries module_ procs input is never)
    (longer_runs_keep (selected module_.procs (map frame_size procs))
    (high.start module_ input))
    (longer_runs_keep (placed_machine procs) (low.start procs module_.data_words input)) in
    let x = both.back.ends k (λ none. none_wrong (sym none ∙ e)) in
    never x.0 (ap (λ (r : Progress OutEvent RunEnd). r.ending) x.1 ∙ e)
  where
    none_wrong : None ≡ Some Wrong → ⊥
    none_wrong e = cc
