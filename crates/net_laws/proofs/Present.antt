-- Where the variables of an instruction are present in valid code.
use Rattle.std.proofs.Common.{ℕ, ◌≡◌, ◌+◌, ◌*◌, ◌/◌, ◌<◌, Bool, true, false, not, ◌&&◌, ◌||◌, eqb}
use Rattle.std.proofs.Common.{length, refl, sym, ap, ◌∙◌, arith, inl, inr, Some}
use Rattle.std.specs.Prelude.{nat_lt}
use Rattle.std.specs.List.{list_any}
use Rattle.std.proofs.lemmas.Bool.{cases_lt, and_from, or_right, or_from, lt-ltb, both_ways}
use Rattle.std.proofs.lemmas.Bool.{false_from_ne_true}
use Rattle.std.proofs.lemmas.Option.{slice_get_past}
use Rattle.pra_list.proofs.Options.{none_some}
use Rattle.pra_base.specs.declared.code.VarKind.{VarKind}
use Rattle.pra_base.specs.declared.code.VarKind.TheVariants.{Param, Plain, Constant}
use Rattle.pra_base.specs.declared.code.VInstr.{VInstr}
use Rattle.pra_base.specs.declared.code.VProc.{VProc}
use Rattle.pra_base.specs.Code.{kind_of, instr_at, code_of}
use Rattle.pra_base.specs.Live.{LiveAs, Point, Path, stays, then, reads_at, writes_at, passes}
use Rattle.pra_base.specs.Live.{ReadBeforeWritten}
use Rattle.pra_base.specs.Operands.{reads, writes, only_writes, is_role_of, operands, table}
use Rattle.pra_base.specs.Valid.{IsValid}
use Rattle.net_form.specs.Tables.{all_tables}
use Rattle.net_form.specs.Strands.{Lives, IsLive, is_within, is_before, layer_count, roles_at}
use Rattle.net_form.specs.Strands.{roles_beside, beside, is_present}
use Rattle.net_laws.proofs.Sides.{side, side_before, side_point, beside_side}
use Rattle.net_laws.proofs.Rows.{written_roles}

pub instr_within : (code : VProc) (c k : ℕ) (i : VInstr) → instr_at code c k ≡ Some i →
    k < length (code_of code c)
instr_within code c k i is =
    elim (cases_lt k (length (code_of code c))) as (λ _. k < length (code_of code c)) [
      | inl lt ↦ lt
      | inr le ↦ absurd (none_some (sym (slice_get_past (code_of code c) k le) ∙ is))
    ]

-- a path from where the variable is written and not read does not begin with a read of it
no_path : (code : VProc) (v : ℕ) (p z : Point) → Path code v p z → writes_at code v p ≡ true →
    reads_at code v p ≡ false → reads_at code v z ≡ true → ⊥
no_path code v p z stays written unread read = both_ways (reads_at code v p) unread read
no_path code v p z (then unwritten goes more) written unread read =
    both_ways (writes_at code v p) unwritten written

module _ (code : VProc) (live : Lives) (is_live : IsLive code live) (valid : IsValid code)
    (v c k : ℕ) (i : VInstr)
    (is : instr_at code c k ≡ Some i) where
  abbrev pub present : ℕ → Bool
  present l = is_present all_tables code live v c l

  pub side_within : v < length code.vars → c < length code.blocks → (b : Bool) →
      is_within code v c (side k b) ≡ true
  side_within in_vars in_code b =
      and_from (nat_lt v (length code.vars) && nat_lt c (length code.blocks))
      (nat_lt (side k b) (layer_count code c))
      (and_from (nat_lt v (length code.vars)) (nat_lt c (length code.blocks))
      (lt-ltb v (length code.vars) in_vars) (lt-ltb c (length code.blocks) in_code))
      (lt-ltb (side k b) (layer_count code c) (small b))
    where
      small : (b : Bool) → side k b < 2 * length (code_of code c) + 2
      small true = let lt = instr_within code c k i is in omega (arith, lt)
      small false = let lt = instr_within code c k i is in omega (arith, lt)

  -- what is read is present before
  pub read_present : v < length code.vars → c < length code.blocks → reads i v ≡ true →
      present (side k true) ≡ true
  read_present in_vars in_code read =
      ap (λ t. t || (not (is_before (side k true)) && list_any (is_role_of v)
      (roles_at all_tables code c (side k true))))
      ((is_live v c (side k true)).1 (side_within in_vars in_code true, lives (kind_of code v)))
    where
      at : reads_at code v (record { block = c; index = k }) ≡ true
      at = ap (passes (λ j. reads j v)) is ∙ read

      there : reads_at code v (record { block = c; index = side k true / 2 }) ≡ true
      there = ap (λ n. passes (λ j. reads j v) (instr_at code c n)) (side_point k) ∙ at

      lives : (kind : VarKind) → LiveAs kind code v c (side k true)
      lives (Constant n) = record {
        first = k;
        last = k;
        reads_first = at;
        reads_last = at;
        from =
            omega arith;
        to = omega arith;
      }
      lives Plain = record {
        to = record { block = c; index = side k true / 2 };
        path = stays;
        read = there;
      }
      lives (Param n) = record {
        to = record { block = c; index = side k true / 2 };
        path = stays;
        read = there;
      }

  roles_written : list_any (is_role_of v) (roles_at all_tables code c (side k false)) ≡ writes i v
  roles_written =
      ap (λ t. list_any (is_role_of v) (roles_beside t operands (beside code c (side k false))))
      (side_before k false)
      ∙ ap (λ o. list_any (is_role_of v) (roles_beside false operands o))
      (beside_side code c k false ∙ is)
      ∙ written_roles v i

  -- what is written is present after it
  pub written_present : writes i v ≡ true → present (side k false) ≡ true
  written_present written = or_right (live v c (side k false))
      (not (is_before (side k false)) && list_any (is_role_of v)
      (roles_at all_tables code c (side k false)))
      (ap (λ t. not t && list_any (is_role_of v) (roles_at all_tables code c (side k false)))
      (side_before k false) ∙ roles_written ∙ written)

  -- what is neither live after it nor written is not present there
  pub absent_after : live v c (side k false) ≡ false → writes i v ≡ false → present (side k false) ≡
      false
  absent_after dead unwritten = or_from (live v c (side k false))
      (not (is_before (side k false)) && list_any (is_role_of v)
      (roles_at all_tables code c (side k false))) dead
      (ap (λ t. not t && list_any (is_role_of v) (roles_at all_tables code c (side k false)))
      (side_before k false) ∙ roles_written ∙ unwritten)

  -- what is only written is not present before
  pub absent_before : only_writes i v ≡ true → present (side k true) ≡ false
  absent_before only = or_from (live v c (side k true))
      (not (is_before (side k true)) && list_any (is_role_of v)
      (roles_at all_tables code c (side k true)))
      (false_from_ne_true (live v c (side k true))
      (λ lives. dead (kind_of code v) refl ((is_live v c (side k true)).0 lives).1))
      (ap (λ t. not t && list_any (is_role_of v) (roles_at all_tables code c (side k true)))
      (side_before k true))
    where
      written : writes i v ≡ true
      written = or_right (list_any (eqb v) (table i).in_place) (only_writes i v) only

      dead_path : ReadBeforeWritten code v (record { block = c; index = side k true / 2 }) → ⊥
      dead_path lives = no_path code v (record { block = c; index = side k true / 2 }) lives.to
          lives.path
          (ap (λ n. passes (λ j. writes j v) (instr_at code c n)) (side_point k)
          ∙ ap (passes (λ j. writes j v)) is ∙ written)
          (ap (λ n. passes (λ j. reads j v) (instr_at code c n)) (side_point k)
          ∙ ap (passes (λ j. reads j v)) is ∙ valid.roles_apart c k i is v only)
          lives.read

      dead : (kind : VarKind) → kind_of code v ≡ kind → LiveAs kind code v c (side k true) → ⊥
      dead (Constant n) same lives =
          both_ways (writes i v) (valid.constants_kept v n same c k i is).unwritten written
      dead Plain same lives = dead_path lives
      dead (Param n) same lives = dead_path lives
