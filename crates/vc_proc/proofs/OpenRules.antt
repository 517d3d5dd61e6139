-- The code at whose end statements are selected keeps the rules of valid code, and is ready for
-- more.
use Rattle.std.proofs.Common.{◌≡◌, ◌≢◌, ℕ, zero, suc, ◌+◌, ◌<◌, ◌≤◌, Bool, true, false, not, inl}
use Rattle.std.proofs.Common.{⊎_elim, ◌⊎◌, List, [], ◌∷◌, ◌++◌, length, Some, refl, sym, ap, ◌∙◌}
use Rattle.std.proofs.Common.{subst, arith}
use Rattle.std.specs.Prelude.{pos, slice_get, nat_eq, nat_lt, count_by, ◌&&◌, ◌||◌, if◌then◌else◌}
use Rattle.std.proofs.lemmas.Bool.{lt-ltb, ltb-true, eqb-true, cases_eq, cases_lt}
use Rattle.std.proofs.lemmas.Bool.{false_from_ne_true}
use Rattle.std.proofs.lemmas.Bool.Decides.{nat_tests}
use Rattle.std.proofs.lemmas.Option.{slice_get-get_or, slice_get_within}
use Rattle.pra_list.proofs.Counts.{count-cons}
use Rattle.pra_list.proofs.Options.{none_some, some_same}
use Rattle.pra_base.specs.Code.{kind_of, block_of, end_of, EachInstr}
use Rattle.pra_base.specs.Operands.{reads}
use Rattle.pra_base.specs.Valid.{PushesLead, PushesBeforeCalls, TakesArgs, ClearFirst}
use Rattle.pra_base.specs.declared.ids.VarId.{VarId}
use Rattle.pra_base.specs.declared.code.VInstr.{VInstr}
use Rattle.pra_base.specs.declared.code.VInstr.TheVariants.{Clear}
use Rattle.pra_base.specs.declared.code.VarKind.{VarKind}
use Rattle.pra_base.specs.declared.code.VarKind.TheVariants as kind
use Rattle.pra_base.specs.declared.code.VarKind.TheVariants.{Plain}
use Rattle.pra_base.specs.declared.code.VProc.{VProc}
use Rattle.ob_syntax.specs.declared.checked.CheckedProc.{CheckedProc}
use Rattle.ob_syntax.specs.declared.checked.Local.{Local}
use Rattle.ob_syntax.specs.declared.checked.Param.{Param}
use Rattle.vc_build.specs.Grow.{count, stand_in}
use Rattle.vc_expr.specs.Readable.{is_constant, behind, readable, Entries, usable, Certifies}
use Rattle.vc_expr.specs.Rules.{Obeys, KeepsRules}
use Rattle.vc_expr.proofs.Obeys.{obeys_set}
use Rattle.vc_relation.specs.Homes.{in_variable, local_in_variable, param_variable, local_variable}
use Rattle.vc_relation.specs.Homes.{home_count, param_home, local_home, variable}
use Rattle.vc_relation.specs.Layout.{is_aggregate}
use Rattle.vc_relation.specs.declared.home.Home.{Home}
use Rattle.vc_relation.specs.declared.home.Home.TheVariants as home
use Rattle.vc_select.specs.Certified.{IsHome, IsReady}
use Rattle.vc_select.specs.Targets.{above_home, above_homes, above_setting}
use Rattle.vc_select.specs.declared.target.Setting.{Setting}
use Rattle.vc_proc.specs.Finished.{ParamsApart}
use Rattle.vc_proc.specs.Opening.{param_kind, local_kind, param_kinds, home_kinds, param_homes}
use Rattle.vc_proc.specs.Opening.{local_homes, clearing, zeros, opening, opened}
use Rattle.vc_proc.proofs.Gets.{InBack, got_either, got_some}
use Rattle.vc_proc.proofs.HomeVariables.{param_kind_length, local_kind_length, params_length}
use Rattle.vc_proc.proofs.HomeVariables.{kinds_length, param_homes_length, local_homes_length}
use Rattle.vc_proc.proofs.HomeVariables.{home_of_param, home_of_local, FromParam, FromLocal}
use Rattle.vc_proc.proofs.HomeVariables.{kind_from, param_below, local_below, param_number}
use Rattle.vc_proc.proofs.Zeroing.{zero_at, zeros_only}

-- ---- what may be read behind the opening

or_true : (b : Bool) → (b || true) ≡ true
or_true true = refl
or_true false = refl

zero_writes : (v : ℕ) (b : Bool) → behind (zero_at v) v b ≡ true
zero_writes v b = by (nat_eq v v) b (same v)
  where
    same : (v : ℕ) → nat_eq v v ≡ true
    same v = grind (arith, nat_tests)

    by : (c b : Bool) → c ≡ true → ((false || (c || false)) || (b && true)) ≡ true
    by true b e = refl
    by false b e = absurd (cc)

zero_keeps : (u v : ℕ) → behind (zero_at u) v true ≡ true
zero_keeps u v = or_true (false || (nat_eq u v || false))

zeros_keep : (v first n : ℕ) → readable true (zeros first n) v ≡ true
zeros_keep v first zero = refl
zeros_keep v first (suc n) = ap (λ b. readable b (zeros (first + 1) n) v) (zero_keeps first v)
    ∙ zeros_keep v (first + 1) n

zeros_write : (v first n : ℕ) (b : Bool) → first ≤ v → v < first + n →
    readable b (zeros first n) v ≡ true
zeros_write v first zero b le lt = absurd (omega (arith, le, lt))
zeros_write v first (suc n) b le lt =
    ⊎_elim
    (λ (e : v ≡ first).
    ap (λ c. readable c (zeros (first + 1) n) v)
    (ap (λ u. behind (zero_at u) v b) (sym e) ∙ zero_writes v b) ∙ zeros_keep v (first + 1) n)
    (λ (d : v ≢ first). zeros_write v (first + 1) n (behind (zero_at first) v b)
    (omega (arith, le, d)) (omega (arith, lt)))
    (cases_eq v first)

clearing_keeps : (c b : Bool) (rest : List VInstr) (v : ℕ) →
    readable b ((if c then [] else Clear ∷ []) ++ rest) v ≡ readable b rest v
clearing_keeps true b rest v = refl
clearing_keeps false b rest v = ap (λ x. readable x rest v) (same b)
  where
    same : (b : Bool) → (false || (b && true)) ≡ b
    same true = refl
    same false = refl

-- ---- Clear

one_clear : (c : Bool) (k : ℕ) (i : VInstr) → slice_get (if c then [] else Clear ∷ []) k ≡ Some i →
    (c ≡ false) × (k ≡ 0) × (Clear ≡ i)
one_clear true k i e = absurd (none_some e)
one_clear false zero i e = (refl, refl, some_same Clear i e)
one_clear false (suc k) i e = absurd (none_some e)

clear_obeys : (args : ℕ) (vars : List VarKind) → Obeys args vars Clear
clear_obeys args vars = record {
  named = λ v n. ⊎_elim (λ r. absurd (cc)) (λ w. absurd (cc)) n;
  roles_apart = λ v e. refl;
  division_apart = λ q r a d e. absurd (cc);
  constants_kept = λ v n e. record { unwritten = refl; uncopied = λ x y z. absurd (cc) };
  check_range = λ v n e. absurd (cc);
  shift_range = λ op v n e. absurd (cc);
  cells = λ n e. absurd (cc);
}

clear_is_no_zero : (v : ℕ) → Clear ≡ zero_at v → ⊥
clear_is_no_zero v e = cc

-- ---- the number in a home

abbrev number_in : Home → ℕ
number_in (home.Var u) = u.0
number_in _ = 0

abbrev cell_in : Home → ℕ
cell_in (home.Cell n) = n
cell_in _ = 0

-- ---- Pushes

module _ (Takes : ℕ → ℕ → Type 0) where
  zeros_lead : (first n : ℕ) → PushesLead Takes 0 (zeros first n)
  zeros_lead first zero = refl
  zeros_lead first (suc n) = (refl, zeros_lead (first + 1) n)

  clearing_leads : (c : Bool) (rest : List VInstr) → PushesLead Takes 0 rest →
      PushesLead Takes 0 ((if c then [] else Clear ∷ []) ++ rest)
  clearing_leads true rest h = h
  clearing_leads false rest h = (refl, h)

-- ---- the rules

module _ (id : ℕ) (proc : CheckedProc) where
  abbrev old : VProc
  old = opened id proc

  abbrev of_params : ℕ
  of_params = count_by in_variable proc.params

  abbrev of_locals : ℕ
  of_locals = count_by local_in_variable proc.locals

  -- what holds of Clear, where it stands, and of each instruction that sets a local to 0, holds of
  -- all
  each_opens : (P : VInstr → Type 0) → P Clear →
      ((v : ℕ) → of_params ≤ v → v < home_count proc → P (zero_at v)) → EachInstr old.blocks P
  each_opens P clear sets zero k i e =
      ⊎_elim
      (λ (d : slice_get (clearing proc.aggregate_words) k ≡ Some i). subst P
      (one_clear (nat_eq proc.aggregate_words 0) k i d).2 clear)
      (λ (b : InBack (clearing proc.aggregate_words) (zeros of_params of_locals) k i).
      let z = zeros_only of_params of_locals b.place i b.there in
      subst P (sym z.is) (sets z.variable z.above z.below))
      (got_either (clearing proc.aggregate_words) (zeros of_params of_locals) k i e)
  each_opens P clear sets (suc b) k i e = absurd (none_some e)

  plain_local : (v : ℕ) → of_params ≤ v → v < home_count proc → kind_of old v ≡ Plain
  plain_local v le lt =
      let there = slice_get-get_or (home_kinds proc) v Plain (omega (arith, lt, kinds_length proc))
      in
      ⊎_elim
      (λ (f : FromParam 0 proc.params v (kind_of old v)).
      absurd (omega (arith, le, f.before, param_below proc f.number f.param f.there f.placed)))
      (λ (l : FromLocal proc v (kind_of old v)). l.is)
      (kind_from proc v (kind_of old v) there)

  clears_first : ClearFirst old.aggregates old.blocks
  clears_first zero k = (
    (λ e.
        ⊎_elim
        (λ (d : slice_get (clearing proc.aggregate_words) k ≡ Some Clear).
        let one = one_clear (nat_eq proc.aggregate_words 0) k Clear d in
        ((λ none. has_some none one.0), refl, one.1))
        (λ (b : InBack (clearing proc.aggregate_words) (zeros of_params of_locals) k Clear).
        let z = zeros_only of_params of_locals b.place Clear b.there in
        absurd (clear_is_no_zero z.variable z.is))
        (got_either (clearing proc.aggregate_words) (zeros of_params of_locals) k Clear e)),
    (λ h. ap (slice_get (opening proc)) h.2 ∙ first_is h.0),
  )
    where
      has_some : proc.aggregate_words ≡ 0 → nat_eq proc.aggregate_words 0 ≡ false → ⊥
      has_some none e = let yes' : nat_eq proc.aggregate_words 0 ≡ true =
          ap (λ n. nat_eq n 0) none in absurd (cc)

      first_is : proc.aggregate_words ≢ 0 → slice_get (opening proc) 0 ≡ Some Clear
      first_is some =
          let no' : nat_eq proc.aggregate_words 0 ≡ false =
          false_from_ne_true (nat_eq proc.aggregate_words 0)
          (λ e. some (eqb-true proc.aggregate_words 0 e)) in
          ap (λ c. slice_get ((if c then [] else Clear ∷ []) ++ zeros of_params of_locals) 0) no'
  clears_first (suc b) k = ((λ e. absurd (none_some e)), (λ h. absurd (omega (arith, h.1))))

  pub open_rules : (counts : List ℕ) → KeepsRules counts old
  open_rules counts = record {
    obeys = each_opens (Obeys old.args old.vars) (clear_obeys old.args old.vars)
        (λ v le lt. obeys_set old.args old.vars (record { 0 = v }) (pos 0) (plain_local v le lt)
        (omega (arith, lt, kinds_length proc)));
    pushes_before_calls = leads;
    clear_first = clears_first;
    ends = ends;
  }
    where
      leads : PushesBeforeCalls (TakesArgs counts) old.blocks
      leads zero = clearing_leads (TakesArgs counts) (nat_eq proc.aggregate_words 0)
          (zeros of_params of_locals) (zeros_lead (TakesArgs counts) of_params of_locals)
      leads (suc b) = refl

      ends : (b : ℕ) → b < count old → ((block_of old b).end ≡ stand_in) ⊎
          Rattle.vc_expr.specs.Rules.ClosesWell (count old) (block_of old b)
      ends zero lt = inl refl
      ends (suc b) lt = absurd (omega (arith, lt))

  -- ---- the certificate: at the entry the variables of parameters may be read

  abbrev pub at_entry : Entries
  at_entry b v = nat_lt v of_params

  pub open_certifies : Certifies at_entry old
  open_certifies = record {
    reads_known = λ b k v i e r.
        absurd (unread (reads i v)
        (each_opens (λ j. (u : ℕ) → reads j u ≡ false) (λ u. refl) (λ u le lt t. refl) b k i e v)
        r);
    flows = λ b t v lt open_ target is. absurd (open_ (stands b lt));
  }
    where
      unread : (b : Bool) → b ≡ false → b ≡ true → ⊥
      unread b f t = cc

      stands : (b : ℕ) → b < count old → end_of old b ≡ stand_in
      stands zero lt = refl
      stands (suc b) lt = absurd (omega (arith, lt))

  -- which are those
  pub known_param : (b v : ℕ) → at_entry b v ≡ true → (i : ℕ) ×
      (slice_get (home_kinds proc) v ≡ Some (kind.Param i))
  known_param b v e =
      let low : v < of_params = ltb-true v of_params e in
      let there = slice_get-get_or (home_kinds proc) v Plain (omega (arith, low, kinds_length proc))
      in
      ⊎_elim
      (λ (f : FromParam 0 proc.params v (kind_of old v)). (0 + f.number, there ∙ ap Some f.is))
      (λ (l : FromLocal proc v (kind_of old v)). absurd (omega (arith, low, l.behind)))
      (kind_from proc v (kind_of old v) there)

  pub params_apart : ParamsApart old.vars
  params_apart v w i d e = (param_number proc v i d).3 ∙ sym (param_number proc w i e).3

  -- ---- the homes of a setting

  module _ (g : Setting) (params : g.params.now ≡ param_homes 0 0 proc.params)
      (locals : g.locals.now ≡ local_homes (length (param_kinds 0 proc.params)) proc.locals) where
    -- of a home that a parameter or a local has
    of_param : (k : ℕ) (h : Home) → slice_get (param_homes 0 0 proc.params) k ≡ Some h →
        (param : Param) × (slice_get proc.params k ≡ Some param) × (param_home proc k param ≡ h)
    of_param k h e =
        let some = got_some proc.params k
        (omega (
          arith,
          slice_get_within (param_homes 0 0 proc.params) k h e,
          param_homes_length 0 0 proc.params,
        )) in (
          some.0,
          some.1,
          some_same (param_home proc k some.0) h
              (sym (home_of_param proc k some.0 some.1) ∙ e),
        )

    of_local : (k : ℕ) (h : Home) →
        slice_get (local_homes (length (param_kinds 0 proc.params)) proc.locals) k ≡ Some h →
        (local : Local) × (slice_get proc.locals k ≡ Some local) × (local_home proc k local ≡ h)
    of_local k h e =
        let some = got_some proc.locals k
        (omega (
          arith,
          slice_get_within
              (local_homes (length (param_kinds 0 proc.params)) proc.locals) k h e,
          local_homes_length (length (param_kinds 0 proc.params)) proc.locals,
        )) in (
          some.0,
          some.1,
          some_same (local_home proc k some.0) h
              (sym (home_of_local proc k some.0 some.1) ∙ e),
        )

    home_variable : (v : VarId) → IsHome g (home.Var v) → v.0 < home_count proc
    home_variable v h =
        ⊎_elim
        (λ (e : slice_get g.params.now h.0 ≡ Some (home.Var v)).
        let of = of_param h.0 (home.Var v) (ap (λ (hs : List Home). slice_get hs h.0) (sym params)
        ∙ e) in
        param_case h.0 of.0 of.1 v (in_variable of.0) refl of.2)
        (λ (e : slice_get g.locals.now h.0 ≡ Some (home.Var v)).
        let of = of_local h.0 (home.Var v) (ap (λ (hs : List Home). slice_get hs h.0) (sym locals)
        ∙ e) in
        local_case h.0 of.0 of.1 v (is_aggregate of.0) refl of.2)
        h.1
      where
        param_case : (k : ℕ) (param : Param) → slice_get proc.params k ≡ Some param →
            (v : VarId) (b : Bool) → in_variable param ≡ b →
            (if b then variable (param_variable proc k) else home.Cell k) ≡ home.Var v →
            v.0 < home_count proc
        param_case k param at v true inside e = let same : param_variable proc k ≡ v.0 =
            ap number_in e in omega (arith, same, param_below proc k param at inside)
        param_case k param at v false inside e = cc

        local_case : (k : ℕ) (local : Local) → slice_get proc.locals k ≡ Some local →
            (v : VarId) (b : Bool) → is_aggregate local ≡ b →
            (if b then home.Frame local.word else variable (local_variable proc k)) ≡ home.Var v →
            v.0 < home_count proc
        local_case k local at v true inside e = cc
        local_case k local at v false inside e = let same : local_variable proc k ≡ v.0 =
            ap number_in e in omega (arith, same, local_below proc k local at (ap not inside))

    home_cell : (k : ℕ) → IsHome g (home.Cell k) → (param : Param) ×
        (slice_get proc.params k ≡ Some param) × (in_variable param ≡ false)
    home_cell k h =
        ⊎_elim
        (λ (e : slice_get g.params.now h.0 ≡ Some (home.Cell k)).
        let of = of_param h.0 (home.Cell k) (ap (λ (hs : List Home). slice_get hs h.0) (sym params)
        ∙ e) in
        param_case h.0 of.0 of.1 (in_variable of.0) refl of.2)
        (λ (e : slice_get g.locals.now h.0 ≡ Some (home.Cell k)).
        let of = of_local h.0 (home.Cell k) (ap (λ (hs : List Home). slice_get hs h.0) (sym locals)
        ∙ e) in
        absurd (local_case h.0 of.0 (is_aggregate of.0) of.2))
        h.1
      where
        param_case : (j : ℕ) (param : Param) → slice_get proc.params j ≡ Some param → (b : Bool) →
            in_variable param ≡ b → (if b then variable (param_variable proc j) else home.Cell j) ≡
            home.Cell k → (param : Param) × (slice_get proc.params k ≡ Some param) ×
            (in_variable param ≡ false)
        param_case j param at true inside e = cc
        param_case j param at false inside e = let same : j ≡ k = ap cell_in e in
            (param, ap (slice_get proc.params) (sym same) ∙ at, inside)

        local_case : (j : ℕ) (local : Local) (b : Bool) →
            (if b then home.Frame local.word else variable (local_variable proc j)) ≡ home.Cell k →
            ⊥
        local_case j local true e = cc
        local_case j local false e = cc

    usable_home : (v : ℕ) → v < home_count proc → usable at_entry old 0 v ≡ true
    usable_home v lt =
        let inside : readable (nat_lt v of_params) (zeros of_params of_locals) v ≡ true =
        ⊎_elim
        (λ (l : v < of_params). ap (λ b. readable b (zeros of_params of_locals) v)
        (lt-ltb v of_params l) ∙ zeros_keep v of_params of_locals)
        (λ (le : of_params ≤ v). zeros_write v of_params of_locals (nat_lt v of_params) le lt)
        (cases_lt v of_params) in
        ap (λ b. is_constant (kind_of old v) || b)
        (clearing_keeps (nat_eq proc.aggregate_words 0) (nat_lt v of_params)
        (zeros of_params of_locals) v ∙ inside)
        ∙ or_true (is_constant (kind_of old v))

    pub open_ready : (counts : List ℕ) → IsReady g counts at_entry old 0
    open_ready counts = record {
      rules = open_rules counts;
      certifies = open_certifies;
      homes = λ v h. usable_home v.0 (home_variable v h);
      cells = λ k h.
          let of = home_cell k h in (
            slice_get_within proc.params k of.0 of.1,
            (λ v e.
                let n = param_number proc v k e in
                let same : of.0 ≡ n.0 = some_same of.0 n.0 (sym of.1 ∙ n.1) in
                both (in_variable of.0) of.2 (ap in_variable same ∙ n.2)),
          );
    }
      where
        both : (b : Bool) → b ≡ false → b ≡ true → ⊥
        both b f t = cc

    -- ---- the variables that the setting names are there

    params_above : (k v : ℕ) (ps : List Param) → above_homes (param_homes k v ps) ≤
        v + count_by in_variable ps
    params_above k v [] = omega arith
    params_above k v (p ∷ ps) =
        let rest = params_above (k + 1) (v + length (param_kind k p)) ps in
        let first = one_above (in_variable p) k v in
        omega (arith, rest, first, param_kind_length k p, count-cons in_variable p ps)
      where
        one_above : (b : Bool) (k v : ℕ) → above_home (if b then variable v else home.Cell k) ≤
            v + (if b then 1 else 0)
        one_above true k v = omega arith
        one_above false k v = omega arith

    locals_above : (v : ℕ) (ls : List Local) → above_homes (local_homes v ls) ≤
        v + count_by local_in_variable ls
    locals_above v [] = omega arith
    locals_above v (l ∷ ls) =
        let rest = locals_above (v + length (local_kind l)) ls in
        let first = one_above (is_aggregate l) l.word v in
        omega (arith, rest, first, local_kind_length l, count-cons local_in_variable l ls)
      where
        one_above : (b : Bool) (word v : ℕ) →
            above_home (if b then home.Frame word else variable v) ≤ v + (if not b then 1 else 0)
        one_above true word v = omega arith
        one_above false word v = omega arith

    pub open_above : above_setting g ≤ length old.vars
    open_above =
        let one : above_homes g.params.now ≡ above_homes (param_homes 0 0 proc.params) =
        ap above_homes params in
        let two : above_homes g.locals.now ≡
        above_homes (local_homes (length (param_kinds 0 proc.params)) proc.locals) =
        ap above_homes locals in
        omega (
          arith,
          one,
          two,
          params_above 0 0 proc.params,
          locals_above (length (param_kinds 0 proc.params)) proc.locals,
          params_length 0 proc.params,
          kinds_length proc,
        )
