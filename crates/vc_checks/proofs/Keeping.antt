-- Code without checks that cannot fail may stand in the place of the old code.
use Rattle.std.proofs.Common.{◌≡◌, ℕ, ℤ, zero, suc, ◌+◌, ◌*◌, ◌/◌, ◌-◌, ◌<◌, ◌≤◌, inl, inr}
use Rattle.std.proofs.Common.{true, List, [], ◌∷◌, drop, length, slice_get, slice_index_or, Some}
use Rattle.std.proofs.Common.{None, refl, sym, ap, subst, ◌∙◌, arith}
use Rattle.std.proofs.lemmas.Option.{slice_get_within}
use Rattle.pra_base.proofs.Roles.{among_reads}
use Rattle.pra_base.specs.declared.ids.VarId.{VarId}
use Rattle.pra_base.specs.declared.code.VarKind.{VarKind}
use Rattle.pra_base.specs.declared.code.VarKind.TheVariants.{Param, Plain, Constant}
use Rattle.pra_base.specs.declared.code.VInstr.{VInstr}
use Rattle.pra_base.specs.declared.code.VInstr.TheVariants as instr
use Rattle.pra_base.specs.declared.code.VProc.{VProc}
use Rattle.pra_base.specs.Code.{kind_of, block_of, code_of, end_of, instr_at, IsTarget}
use Rattle.pra_base.specs.Operands.{reads}
use Rattle.pra_base.specs.Live.{Live, LiveAs, ReadBeforeWritten, passes}
use Rattle.pra_base.specs.Valid as valid
use Rattle.pra_base.specs.Valid.{EndsWithCmp, PushesLead, PushesBeforeCalls, TakesAny, TakesArgs}
use Rattle.pra_base.specs.Valid.{IsValid, IsSized, instruction_count}
use Rattle.vc_same.specs.Reduction.{Needed}
use Rattle.vc_same.specs.SameRuns.{Preserves}
use Rattle.vc_same.proofs.Forms.{lead_renamed}
use Rattle.vc_same.proofs.Kept.{reads_here}
use Rattle.vc_same.proofs.Renamed.{same_names}
use Rattle.vc_same.proofs.Valid.{fewer_in}
use Rattle.vc_checks.specs.LeftOut.{Begins, IsWithout}
use Rattle.vc_checks.proofs.Origins.{IsCheck, Thins, thins, shorter, Origin, origin, stays_there}
use Rattle.vc_checks.proofs.Origins.{needed_from}
use Rattle.vc_checks.proofs.Origins.Thins.{none, keeps, drops}
use Rattle.vc_checks.proofs.Running.{same_runs}

-- ---- lists of instructions

no_cmp : (a b : VarId) → IsCheck (instr.Cmp a b) → ⊥
no_cmp a b (inl c) = by c.0 c.1 c.2
  where
    by : (v : VarId) (n : ℤ) → instr.Cmp a b ≡ instr.Check v n → ⊥
    by v n e = cc
no_cmp a b (inr c) = by c.0 c.1
  where
    by : (v : VarId) → instr.Cmp a b ≡ instr.CheckPos v → ⊥
    by v e = cc

no_clear : IsCheck instr.Clear → ⊥
no_clear (inl c) = by c.0 c.1 c.2
  where
    by : (v : VarId) (n : ℤ) → instr.Clear ≡ instr.Check v n → ⊥
    by v n e = cc
no_clear (inr c) = by c.0 c.1
  where
    by : (v : VarId) → instr.Clear ≡ instr.CheckPos v → ⊥
    by v e = cc

cmp_last : (xs ys : List VInstr) → Thins xs ys → EndsWithCmp xs → EndsWithCmp ys
cmp_last xs ys part last =
    let s = stays_there xs ys (length xs - 1) (instr.Cmp last.0 last.1) part last.2
    (no_cmp last.0 last.1) in
    let there : s.at < length ys = slice_get_within ys s.at (instr.Cmp last.0 last.1) s.is in
    let here : length xs - 1 < length xs =
    slice_get_within xs (length xs - 1) (instr.Cmp last.0 last.1) last.2 in
    let behind : length ys + (length xs - 1) ≤ length xs + s.at = s.behind in
    let place : s.at ≡ length ys - 1 = omega (arith, there, here, behind) in
    (last.0, last.1, subst (λ k. slice_get ys k ≡ Some (instr.Cmp last.0 last.1)) place s.is)

leads : (T : ℕ → ℕ → Type 0) (n : ℕ) (xs ys : List VInstr) → Thins xs ys → PushesLead T n xs →
    PushesLead T n ys
leads T n _ _ none lead = lead
leads T n _ _ (keeps {x = x} {xs = xs} {ys = ys} rest) lead =
    subst (λ z. PushesLead T n (z ∷ ys)) (same_names x)
    (lead_renamed (λ v. v) T n x xs ys (λ k. leads T k xs ys rest) lead)
leads T n _ ys (drops {x = x} {xs = xs} (inl c) rest) lead =
    let p : (n ≡ 0) × PushesLead T 0 xs = subst (λ z. PushesLead T n (z ∷ xs)) c.2 lead in
    leads T n xs ys rest (subst (λ k. PushesLead T k xs) (sym p.0) p.1)
leads T n _ ys (drops {x = x} {xs = xs} (inr c) rest) lead =
    let p : (n ≡ 0) × PushesLead T 0 xs = subst (λ z. PushesLead T n (z ∷ xs)) c.1 lead in
    leads T n xs ys rest (subst (λ k. PushesLead T k xs) (sym p.0) p.1)

get_drop : (n k : ℕ) (xs : List VInstr) → slice_get (drop n xs) k ≡ slice_get xs (n + k)
get_drop zero k xs = let e : k ≡ zero + k = omega arith in ap (λ l. slice_get xs l) e
get_drop (suc n) k [] = refl
get_drop (suc n) k (x ∷ xs) = get_drop n k xs
    ∙ (let e : suc (n + k) ≡ suc n + k = omega arith in ap (λ l. slice_get (x ∷ xs) l) e)

-- ---- code

module _ (begins : Begins) (old new : VProc) (is : IsWithout begins old new) where
  all_thin : (b : ℕ) → Thins (code_of old b) (code_of new b)
  all_thin b = thins (kind_of old) begins (end_of old b) None (begins b) (code_of old b)
      (code_of new b) (is.code b)

  from : (b j : ℕ) (y : VInstr) → instr_at new b j ≡ Some y →
      Origin (code_of old b) (code_of new b) j y
  from b j y e = origin (code_of old b) (code_of new b) j y (all_thin b) e

  same_kind : (v : ℕ) → kind_of new v ≡ kind_of old v
  same_kind v = ap (λ (vars : List VarKind). slice_index_or vars v Plain) is.vars

  in_old : (b : ℕ) → b < length new.blocks → b < length old.blocks
  in_old b lt = let many : length new.blocks ≡ length old.blocks = is.count in
      omega (arith, lt, many)

  -- ---- liveness

  needed : (b k j v : ℕ) → Thins (drop k (code_of old b)) (drop j (code_of new b)) →
      Needed new b j v → Needed old b k v
  needed b k j v rest l = needed_from old new all_thin is.ends b k j v rest l

  live_behind : (b j k v : ℕ) (x : VInstr) → instr_at old b k ≡ Some x → reads x v ≡ true →
      Thins (drop (suc k) (code_of old b)) (drop (suc j) (code_of new b)) →
      Live new v b (2 * j + 2) → Live old v b (2 * k + 2)
  live_behind b j k v x at reads_it rest l =
      by (kind_of old v) (subst (λ z. LiveAs z new v b (2 * j + 2)) (same_kind v) l)
    where
      half : (n : ℕ) → (2 * n + 2) / 2 ≡ suc n
      half n = omega arith

      needed_too : ReadBeforeWritten new v (record { block = b; index = (2 * j + 2) / 2 }) →
          ReadBeforeWritten old v (record { block = b; index = (2 * k + 2) / 2 })
      needed_too l = subst (λ n. Needed old b n v) (sym (half k))
          (needed b (suc k) (suc j) v rest (subst (λ n. Needed new b n v) (half j) l))

      by : (z : VarKind) → LiveAs z new v b (2 * j + 2) → LiveAs z old v b (2 * k + 2)
      by (Param i) l = needed_too l
      by Plain l = needed_too l
      by (Constant n) l =
          let last_behind : 2 * j + 2 ≤ 2 * l.last + 1 = l.to in
          let gap : suc j + (l.last - suc j) ≡ l.last = omega (arith, last_behind) in
          let z = reads_here new v (record { block = b; index = l.last }) l.reads_last in
          let there : slice_get (drop (suc j) (code_of new b)) (l.last - suc j) ≡ Some z.0 =
          get_drop (suc j) (l.last - suc j) (code_of new b) ∙ ap (λ n. instr_at new b n) gap
          ∙ z.1 in
          let o = origin (drop (suc k) (code_of old b)) (drop (suc j) (code_of new b))
          (l.last - suc j) z.0 rest there in
          let here : instr_at old b (suc k + o.at) ≡ Some z.0 =
          sym (get_drop (suc k) o.at (code_of old b)) ∙ o.is in
          record {
            first = k;
            last = suc k + o.at;
            reads_first = ap (passes (λ i. reads i v)) at ∙ reads_it;
            reads_last = ap (passes (λ i. reads i v)) here ∙ z.2;
            from = omega arith;
            to = omega arith;
          }

  new_live_at_entry : valid.LiveAtEntry old → valid.LiveAtEntry new
  new_live_at_entry at_entry v l =
      let p = at_entry v (by (kind_of old v) (subst (λ z. LiveAs z new v 0 0) (same_kind v) l)) in
      (p.0, same_kind v ∙ p.1)
    where
      by : (z : VarKind) → LiveAs z new v 0 0 → LiveAs z old v 0 0
      by (Param i) l = needed 0 0 0 v (all_thin 0) l
      by Plain l = needed 0 0 0 v (all_thin 0) l
      by (Constant n) l = absurd (omega (arith, l.from))

  -- ---- rules

  pushes_lead : (T : ℕ → ℕ → Type 0) → PushesBeforeCalls T old.blocks →
      PushesBeforeCalls T new.blocks
  pushes_lead T pushes b = leads T 0 (code_of old b) (code_of new b) (all_thin b) (pushes b)

  new_division_apart : valid.DivisionApart old → valid.DivisionApart new
  new_division_apart apart b j q r a d e =
      let o = from b j (instr.DivMod q r a d) e in
      let was = apart b o.at q r a d o.is in
      record {
        q_r = was.q_r;
        q_a = was.q_a;
        q_d = was.q_d;
        r_a = was.r_a;
        r_d = was.r_d;
        a_d = was.a_d;
        dead = λ l. was.dead (live_behind b j o.at a.0 (instr.DivMod q r a d) o.is
            (among_reads (instr.DivMod q r a d) a.0 (inl refl)) o.rest l);
      }

  new_block_rules : valid.KeepsBlockRules old.aggregates old.blocks →
      valid.KeepsBlockRules new.aggregates new.blocks
  new_block_rules rules = record {
    last_return = record {
      there = let lt : 0 < length old.blocks = rules.last_return.there in
          let many : length new.blocks ≡ length old.blocks = is.count in omega (arith, lt, many);
      exactly = λ b lt. let was = rules.last_return.exactly b (in_old b lt) in (
        λ e. was.0 (sym (is.ends b) ∙ e) ∙ sym is.count,
        λ e. is.ends b ∙ was.1 (e ∙ is.count),
      );
    };
    cmp_before_branch = λ b c one other e. cmp_last (code_of old b) (code_of new b) (all_thin b)
        (rules.cmp_before_branch b c one other (sym (is.ends b) ∙ e));
    pushes_before_calls = pushes_lead TakesAny rules.pushes_before_calls;
    clear_first = λ b k. (
      λ e.
          let o = from b k instr.Clear e in
          let was = (rules.clear_first b o.at).0 o.is in
          let later : k ≤ o.at = o.later in
          let at_begin : o.at ≡ 0 = was.2 in
          (λ none. was.0 (sym is.aggregates ∙ none), was.1, omega (arith, later, at_begin)),
      λ e.
          let first : instr_at old 0 0 ≡ Some instr.Clear =
          (rules.clear_first 0 0).1 (λ none. e.0 (is.aggregates ∙ none), refl, refl) in
          let s = stays_there (code_of old 0) (code_of new 0) 0 instr.Clear (all_thin 0) first
          no_clear in
          let sooner : s.at ≤ 0 = s.sooner in
          let place : 0 ≡ s.at = omega (arith, sooner) in
          ap (λ c. instr_at new c k) e.1 ∙ ap (λ c. instr_at new 0 c) (e.2 ∙ place) ∙ s.is,
    );
    check_range = λ b j y e. let o = from b j y e in rules.check_range b o.at y o.is;
    shift_range = λ b j y e. let o = from b j y e in rules.shift_range b o.at y o.is;
  }

  pub is_valid : IsValid old → IsValid new
  is_valid was = record {
    entry_block = record {
      there = let lt : 0 < length old.blocks = was.entry_block.there in
          let many : length new.blocks ≡ length old.blocks = is.count in omega (arith, lt, many);
      no_target = λ b lt target. was.entry_block.no_target b (in_old b lt)
          (subst (λ e. IsTarget e 0) (is.ends b) target);
    };
    block_rules = new_block_rules was.block_rules;
    roles_apart = λ b j y e. let o = from b j y e in was.roles_apart b o.at y o.is;
    division_apart = new_division_apart was.division_apart;
    constants_kept = λ v n kind b j y e. let o = from b j y e in
        was.constants_kept v n (sym (same_kind v) ∙ kind) b o.at y o.is;
    live_at_entry = new_live_at_entry was.live_at_entry;
    arguments_apart = record {
      params = subst (λ (vars : List VarKind). (v w i : ℕ) → slice_get vars v ≡ Some (Param i) →
          slice_get vars w ≡ Some (Param i) → v ≡ w) (sym is.vars) was.arguments_apart.params;
      cells = λ b j y e v i names param. let o = from b j y e in
          was.arguments_apart.cells b o.at y o.is v i names
          (ap (λ (vars : List VarKind). slice_get vars v) (sym is.vars) ∙ param);
    };
  }

  fewer_instructions : instruction_count new.blocks ≤ instruction_count old.blocks
  fewer_instructions = fewer_in old.blocks new.blocks is.count
      (λ b. shorter (code_of old b) (code_of new b) (all_thin b))

  pub is_sized : IsSized old → IsSized new
  is_sized was =
      let many : length new.blocks ≡ length old.blocks = is.count in
      let args : new.args ≡ old.args = is.args in
      let aggregates : new.aggregates ≡ old.aggregates = is.aggregates in
      let vars : length new.vars ≡ length old.vars =
      ap (λ (vs : List VarKind). length vs) is.vars in
      let code : instruction_count new.blocks ≤ instruction_count old.blocks = fewer_instructions in
      record {
        variables_in_range = λ b j y e v names.
            let o = from b j y e in
            let lt : v < length old.vars = was.variables_in_range b o.at y o.is v names in
            omega (arith, lt, vars);
        targets_in_range = λ b t lt target. let old_lt : t < length old.blocks =
            was.targets_in_range b t (in_old b lt) (subst (λ e. IsTarget e t) (is.ends b) target) in
            omega (arith, old_lt, many);
        cells_in_range = λ b j y e i names.
            let o = from b j y e in
            let lt : i < old.args = was.cells_in_range b o.at y o.is i names in
            omega (arith, lt, args);
        params_in_range = λ v i param.
            let lt : i < old.args = was.params_in_range v i
            (ap (λ (vs : List VarKind). slice_get vs v) (sym is.vars) ∙ param) in
            omega (arith, lt, args);
        depths = λ b. let depth : (block_of new b).depth ≡ (block_of old b).depth = is.depths b in
            let most : (block_of old b).depth ≤ valid.most_loops = was.depths b in
            omega (arith, depth, most);
        instructions = let most : instruction_count old.blocks ≤ valid.most_instructions =
            was.instructions in omega (arith, code, most);
        blocks = let most : length old.blocks ≤ valid.most_blocks = was.blocks in
            omega (arith, many, most);
        variables = let most : length old.vars ≤ valid.most_variables = was.variables in
            omega (arith, vars, most);
        args = let most : old.args ≤ valid.most_arguments = was.args in omega (arith, args, most);
        aggregates = let most : old.aggregates ≤ valid.most_aggregates = was.aggregates in
            omega (arith, aggregates, most);
      }

  pub preserves : IsValid old → IsSized old → Preserves old new
  preserves was sized = record {
    runs = same_runs begins old new is;
    is_valid = is_valid was;
    is_sized = is_sized sized;
    id = is.id;
    args = is.args;
    aggregates = is.aggregates;
    count = is.count;
    depths = is.depths;
    pushes = λ counts pushes. pushes_lead (TakesArgs counts) pushes;
    instructions = fewer_instructions;
    variables = let vars : length new.vars ≡ length old.vars =
        ap (λ (vs : List VarKind). length vs) is.vars in omega (arith, vars);
  }
