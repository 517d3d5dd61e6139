-- A strand begins at a block's entry, or where its variable has a role.
use Rattle.std.proofs.Common.{ℕ, suc, ◌≡◌, ◌+◌, ◌-◌, ◌*◌, ◌/◌, ◌%◌, ◌<◌, ◌≤◌, ◌⊎◌, inl, inr, Bool}
use Rattle.std.proofs.Common.{true, false, not, cond, ◌&&◌, ◌||◌, eqb, List, [], ◌∷◌, map, length}
use Rattle.std.proofs.Common.{Some, None, Option, refl, sym, ap, ◌∙◌, subst, arith, true≢false}
use Rattle.std.specs.Prelude.{nat_lt}
use Rattle.std.specs.List.{list_any}
use Rattle.std.proofs.lemmas.Bool.{cases_eq, cases_Bool, eqb-true, eqb-false, ne_eqb, eq-eqb}
use Rattle.std.proofs.lemmas.Bool.{lt-ltb, and_parts}
use Rattle.std.proofs.lemmas.List.Folds.{list_any-append}
use Rattle.std.proofs.lemmas.Option.{slice_get-get_or}
use Rattle.pra_list.proofs.Mapped.{list_any-map}
use Rattle.pra_base.specs.declared.code.VInstr.{VInstr}
use Rattle.pra_base.specs.declared.code.VInstr.TheVariants as instr
use Rattle.pra_base.specs.declared.code.VarKind.{VarKind}
use Rattle.pra_base.specs.declared.code.VarKind.TheVariants.{Param, Plain, Constant}
use Rattle.pra_base.specs.declared.code.VProc.{VProc}
use Rattle.pra_base.specs.Code.{kind_of, code_of, instr_at}
use Rattle.pra_base.specs.Live.{Live, LiveAs, ReadBeforeWritten, Path, then, over, passes}
use Rattle.pra_base.specs.Operands.{Line, is_role_of, reads, writes, operands, settled, rewritten}
use Rattle.pra_base.specs.Operands.{table}
use Rattle.net_form.specs.Strands.{Lives, IsLive, is_within, layer_count, is_before, beside}
use Rattle.net_form.specs.Strands.{roles_beside, roles_at, is_present, begins, strand, begun_strand}
use Rattle.net_form.specs.Tables.{all_tables}

-- ---- the roles of a row name what is read and written

swapped : (a b : ℕ) → eqb a b ≡ eqb b a
swapped a b = elim (cases_eq a b) as (λ _. eqb a b ≡ eqb b a) [
  | inl same ↦ eq-eqb a b same ∙ sym (eq-eqb b a (sym same))
  | inr other ↦ ne_eqb a b other ∙ sym (ne_eqb b a (λ e. other (sym e)))
]

any-rewritten : (line : Line) (vars : List ℕ) (v : ℕ) →
    list_any (is_role_of v) (map (rewritten line) vars) ≡ list_any (eqb v) vars
any-rewritten line [] v = refl
any-rewritten line (x ∷ xs) v = ap (λ b. b || list_any (is_role_of v) (map (rewritten line) xs))
    (swapped x v) ∙ ap (λ b. eqb v x || b) (any-rewritten line xs v)

pub read_roles : (v : ℕ) (o : Option VInstr) →
    list_any (is_role_of v) (roles_beside true operands o) ≡ passes (λ i. reads i v) o
read_roles v None = refl
read_roles v (Some i) = list_any-map (is_role_of v) (settled (table i)) (table i).reads

pub written_roles : (v : ℕ) (o : Option VInstr) →
    list_any (is_role_of v) (roles_beside false operands o) ≡ passes (λ i. writes i v) o
written_roles v None = refl
written_roles v (Some i) =
    let line = table i in
    list_any-append (is_role_of v) (map (rewritten line) line.in_place)
    (map (settled line) line.writes)
    ∙ ap (λ b. b || list_any (is_role_of v) (map (settled line) line.writes))
    (any-rewritten line line.in_place v)
    ∙ ap (λ b. list_any (eqb v) line.in_place || b)
    (list_any-map (is_role_of v) (settled line) line.writes)

module _ (code : VProc) (live : Lives) (is_live : IsLive code live) (v b l : ℕ) (some : 0 < l)
    (within : l < layer_count code b)
    (none : list_any (is_role_of v) (roles_at all_tables code b l) ≡ false) where
  here : beside code b l ≡ instr_at code b ((l - 1) / 2)
  here = ap (λ t. cond t None (instr_at code b ((l - 1) / 2)))
      (ne_eqb l 0 (λ e. omega (arith, e, some)))

  at : (before : Bool) → is_before l ≡ before →
      list_any (is_role_of v) (roles_beside before operands (instr_at code b ((l - 1) / 2))) ≡ false
  at before is = sym (ap (λ o. list_any (is_role_of v) (roles_beside before operands o)) here)
      ∙ sym (ap (λ t. list_any (is_role_of v) (roles_beside t operands (beside code b l))) is)
      ∙ none

  -- before an instruction that does not read it
  odd : is_before l ≡ true → (k : VarKind) → LiveAs k code v b l → LiveAs k code v b (l - 1)
  odd before Plain lives = subst (λ n. ReadBeforeWritten code v (record { block = b; index = n }))
      (let o = eqb-true (l % 2) 1 before in let e : l / 2 ≡ (l - 1) / 2 = omega (arith, o, some) in
      e) lives
  odd before (Param i) lives =
      subst (λ n. ReadBeforeWritten code v (record { block = b; index = n }))
      (let o = eqb-true (l % 2) 1 before in let e : l / 2 ≡ (l - 1) / 2 = omega (arith, o, some) in
      e) lives
  odd before (Constant n) lives = record {
    first = lives.first;
    last = lives.last;
    reads_first = lives.reads_first;
    reads_last = lives.reads_last;
    from =
        let other : lives.first ≡ (l - 1) / 2 → ⊥ = λ same.
        true≢false (sym lives.reads_first ∙ ap (λ n. passes (λ i. reads i v) (instr_at code b n))
        same
        ∙ sym (read_roles v (instr_at code b ((l - 1) / 2))) ∙ at true before) in
        let o = eqb-true (l % 2) 1 before in
        let le = lives.from in
        first_sooner lives.first (cases_eq lives.first ((l - 1) / 2)) other o le;
    to = let le = lives.to in omega (arith, le);
  }
    where
      first_sooner : (f : ℕ) → (f ≡ (l - 1) / 2) ⊎ (f ≡ (l - 1) / 2 → ⊥) → (f ≡ (l - 1) / 2 → ⊥) →
          l % 2 ≡ 1 → 2 * f + 1 ≤ l → 2 * f + 1 ≤ l - 1
      first_sooner f (inl same) other o le = absurd (other same)
      first_sooner f (inr apart) other o le = omega (arith, apart, o, le)

  -- after an instruction that does not write it
  over_it : is_before l ≡ false → ReadBeforeWritten code v (record { block = b; index = l / 2 }) →
      ReadBeforeWritten code v (record { block = b; index = (l - 1) / 2 })
  over_it after lives =
      let e : l % 2 ≡ 0 = even (l % 2) (omega arith) (eqb-false (l % 2) 1 after) in
      let next : suc ((l - 1) / 2) ≡ l / 2 = omega (arith, e, some) in
      let lt : (l - 1) / 2 < length (code_of code b) = omega (arith, within, e, some) in
      record {
        to = lives.to;
        path = then (sym (written_roles v (instr_at code b ((l - 1) / 2))) ∙ at false after)
            (over (slice_get-get_or (code_of code b) ((l - 1) / 2) instr.Line lt))
            (subst (λ n. Path code v (record { block = b; index = n }) lives.to)
            (sym next) lives.path);
        read = lives.read;
      }
    where
      even : (r : ℕ) → r < 2 → (r ≡ 1 → ⊥) → r ≡ 0
      even r lt other = omega (arith, lt, other)

  even : is_before l ≡ false → (k : VarKind) → LiveAs k code v b l → LiveAs k code v b (l - 1)
  even after Plain lives = over_it after lives
  even after (Param i) lives = over_it after lives
  even after (Constant n) lives = record {
    first = lives.first;
    last = lives.last;
    reads_first = lives.reads_first;
    reads_last = lives.reads_last;
    from = let other = eqb-false (l % 2) 1 after in let le = lives.from in omega (arith, other, le);
    to = let le = lives.to in omega (arith, le);
  }

  stays_live : live v b l ≡ true → live v b (l - 1) ≡ true
  stays_live is =
      let all = (is_live v b l).0 is in
      (is_live v b (l - 1)).1 (
        sooner all.0,
        elim (cases_Bool (is_before l)) as (λ _. Live code v b (l - 1)) [
          | inl before ↦ odd before (kind_of code v) all.1
          | inr after ↦ even after (kind_of code v) all.1
        ],
      )
    where
      sooner : is_within code v b l ≡ true → is_within code v b (l - 1) ≡ true
      sooner in_ =
          let parts = and_parts (nat_lt v (length code.vars) && nat_lt b (length code.blocks))
          (nat_lt l (layer_count code b)) in_ in
          ap (λ t. t && nat_lt (l - 1) (layer_count code b)) parts.0
          ∙ lt-ltb (l - 1) (layer_count code b) (omega (arith, within))

  pub not_begun : begins all_tables code live v b l ≡ false
  not_begun = elim (cases_Bool (live v b l)) as (λ _. begins all_tables code live v b l ≡ false) [
    | inl is ↦
        let was = stays_live is in
        ap (λ t. is_present all_tables code live v b l && not
        (nat_lt 0 l && (t || (not (is_before (l - 1)) && list_any (is_role_of v)
        (roles_at all_tables code b (l - 1)))))) was
        ∙ ap (λ t. is_present all_tables code live v b l && not (t && true)) (lt-ltb 0 l some)
        ∙ and_false (is_present all_tables code live v b l)
    | inr no_ ↦ ap (λ t. (t ||
        (not (is_before l) && list_any (is_role_of v) (roles_at all_tables code b l))) && not
        (nat_lt 0 l && is_present all_tables code live v b (l - 1))) no_
        ∙ ap (λ t. (not (is_before l) && t) && not
        (nat_lt 0 l && is_present all_tables code live v b (l - 1))) none
        ∙ nothing (not (is_before l))
        (not (nat_lt 0 l && is_present all_tables code live v b (l - 1)))
  ]
    where
      and_false : (x : Bool) → (x && false) ≡ false
      and_false true = refl
      and_false false = refl

      nothing : (x y : Bool) → ((x && false) && y) ≡ false
      nothing true y = refl
      nothing false y = refl

  pub none_begun : begun_strand all_tables code live b l v ≡ None
  none_begun = ap (λ t. cond t (Some (strand all_tables code live v b l)) None) not_begun

-- at a block's entry, where no instruction is beside, nothing begins that is not live
pub none_at_entry : (code : VProc) (live : Lives) (v b : ℕ) → live v b 0 ≡ false →
    begun_strand all_tables code live b 0 v ≡ None
none_at_entry code live v b none = rw none refl
