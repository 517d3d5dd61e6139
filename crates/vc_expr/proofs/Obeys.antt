-- The instructions of the templates keep the rules.
use Rattle.std.proofs.Common.{◌≡◌, ◌≢◌, ℕ, ◌<◌, Bool, true, false, List, length, refl, sym, ap, ◌∙◌}
use Rattle.std.proofs.Common.{⊎_elim, ◌⊎◌, ◌≤◌, subst, arith}
use Rattle.std.specs.Prelude.{ℤ, ◌||◌, nat_eq, slice_index_or}
use Rattle.std.proofs.lemmas.Bool.Decides.{nat_tests}
use Rattle.pra_list.proofs.Truths.{false_from}
use Rattle.pra_base.specs.Operands.{reads, writes}
use Rattle.pra_base.specs.declared.ids.ShiftOp.{ShiftOp}
use Rattle.pra_base.specs.declared.ids.VarId.{VarId}
use Rattle.pra_base.specs.declared.ids.Cond.{Cond}
use Rattle.pra_base.specs.declared.code.VarKind.{VarKind}
use Rattle.pra_base.specs.declared.code.VarKind.TheVariants.{Plain, Constant}
use Rattle.pra_base.specs.declared.code.VInstr.{VInstr}
use Rattle.pra_base.specs.declared.code.VInstr.TheVariants.{Set, Copy, Add, Sub, And, Or, Xor, Mul}
use Rattle.pra_base.specs.declared.code.VInstr.TheVariants.{Neg, Shift, Cmp, CmpSet, DivMod}
use Rattle.pra_base.specs.declared.code.VInstr.TheVariants.{CheckPos}
use Rattle.vc_expr.specs.Rules.{DividesWell, Obeys}

-- a variable that is one of these
pub is_first : (a v : ℕ) → (nat_eq a v || false) ≡ true → v ≡ a
is_first a v e = grind (arith, nat_tests)

pub is_either : (a b v : ℕ) → (nat_eq a v || (nat_eq b v || false)) ≡ true → (v ≡ a) ⊎ (v ≡ b)
is_either a b v e = grind (arith, nat_tests)

is_written : (a v : ℕ) → ((nat_eq v a || false) || false) ≡ true → v ≡ a
is_written a v e = grind (arith, nat_tests)

-- a constant is no local variable
pub plain_constant : (n : ℤ) → Plain ≡ Constant n → ⊥
plain_constant n e = cc

other_than : (b : Bool) → b ≡ false → b ≡ true → ⊥
other_than b f t = cc

module _ (args : ℕ) (vars : List VarKind) where
  abbrev kind : ℕ → VarKind
  kind v = slice_index_or vars v Plain

  -- what is written is no constant
  unwritten_by : (i : VInstr) (t : ℕ) → kind t ≡ Plain → ((v : ℕ) → writes i v ≡ true → v ≡ t) →
      (v : ℕ) (n : ℤ) → kind v ≡ Constant n → writes i v ≡ false
  unwritten_by i t plain only v n e =
      false_from (writes i v) (λ w. plain_constant n (sym plain ∙ ap kind (sym (only v w)) ∙ e))

  named_two : (t s v : ℕ) → t < length vars → s < length vars →
      (((nat_eq t v || (nat_eq s v || false)) ≡ true) ⊎ (((nat_eq v t || false) || false) ≡ true)) →
      v < length vars
  named_two t s v one other n = ⊎_elim
      (λ r. ⊎_elim (λ (e : v ≡ t). omega (arith, e, one)) (λ (e : v ≡ s). omega (arith, e, other))
      (is_either t s v r))
      (λ w. omega (arith, is_written t v w, one))
      n

  pub obeys_add : (t s : VarId) → kind t.0 ≡ Plain → t.0 < length vars → s.0 < length vars →
      Obeys args vars (Add t s)
  obeys_add t s plain there right = record {
    named = λ v n. named_two t.0 s.0 v there right n;
    roles_apart = λ v e. absurd (cc);
    division_apart = λ q r a d e. absurd (cc);
    constants_kept = λ v n e. record {
      unwritten = unwritten_by (Add t s) t.0 plain (is_written t.0) v n e;
      uncopied =
          λ x y z. absurd (cc);
    };
    check_range = λ v n e. absurd (cc);
    shift_range = λ op v n e. absurd (cc);
    cells = λ n e. absurd (cc);
  }

  pub obeys_sub : (t s : VarId) → kind t.0 ≡ Plain → t.0 < length vars → s.0 < length vars →
      Obeys args vars (Sub t s)
  obeys_sub t s plain there right = record {
    named = λ v n. named_two t.0 s.0 v there right n;
    roles_apart = λ v e. absurd (cc);
    division_apart = λ q r a d e. absurd (cc);
    constants_kept = λ v n e. record {
      unwritten = unwritten_by (Sub t s) t.0 plain (is_written t.0) v n e;
      uncopied =
          λ x y z. absurd (cc);
    };
    check_range = λ v n e. absurd (cc);
    shift_range = λ op v n e. absurd (cc);
    cells = λ n e. absurd (cc);
  }

  pub obeys_and : (t s : VarId) → kind t.0 ≡ Plain → t.0 < length vars → s.0 < length vars →
      Obeys args vars (And t s)
  obeys_and t s plain there right = record {
    named = λ v n. named_two t.0 s.0 v there right n;
    roles_apart = λ v e. absurd (cc);
    division_apart = λ q r a d e. absurd (cc);
    constants_kept = λ v n e. record {
      unwritten = unwritten_by (And t s) t.0 plain (is_written t.0) v n e;
      uncopied =
          λ x y z. absurd (cc);
    };
    check_range = λ v n e. absurd (cc);
    shift_range = λ op v n e. absurd (cc);
    cells = λ n e. absurd (cc);
  }

  pub obeys_or : (t s : VarId) → kind t.0 ≡ Plain → t.0 < length vars → s.0 < length vars →
      Obeys args vars (Or t s)
  obeys_or t s plain there right = record {
    named = λ v n. named_two t.0 s.0 v there right n;
    roles_apart = λ v e. absurd (cc);
    division_apart = λ q r a d e. absurd (cc);
    constants_kept = λ v n e. record {
      unwritten = unwritten_by (Or t s) t.0 plain (is_written t.0) v n e;
      uncopied =
          λ x y z. absurd (cc);
    };
    check_range = λ v n e. absurd (cc);
    shift_range = λ op v n e. absurd (cc);
    cells = λ n e. absurd (cc);
  }

  pub obeys_xor : (t s : VarId) → kind t.0 ≡ Plain → t.0 < length vars → s.0 < length vars →
      Obeys args vars (Xor t s)
  obeys_xor t s plain there right = record {
    named = λ v n. named_two t.0 s.0 v there right n;
    roles_apart = λ v e. absurd (cc);
    division_apart = λ q r a d e. absurd (cc);
    constants_kept = λ v n e. record {
      unwritten = unwritten_by (Xor t s) t.0 plain (is_written t.0) v n e;
      uncopied =
          λ x y z. absurd (cc);
    };
    check_range = λ v n e. absurd (cc);
    shift_range = λ op v n e. absurd (cc);
    cells = λ n e. absurd (cc);
  }

  pub obeys_mul : (t s : VarId) → kind t.0 ≡ Plain → t.0 < length vars → s.0 < length vars →
      Obeys args vars (Mul t s)
  obeys_mul t s plain there right = record {
    named = λ v n. named_two t.0 s.0 v there right n;
    roles_apart = λ v e. absurd (cc);
    division_apart = λ q r a d e. absurd (cc);
    constants_kept = λ v n e. record {
      unwritten = unwritten_by (Mul t s) t.0 plain (is_written t.0) v n e;
      uncopied =
          λ x y z. absurd (cc);
    };
    check_range = λ v n e. absurd (cc);
    shift_range = λ op v n e. absurd (cc);
    cells = λ n e. absurd (cc);
  }

  pub obeys_neg : (t : VarId) → kind t.0 ≡ Plain → t.0 < length vars → Obeys args vars (Neg t)
  obeys_neg t plain there = record {
    named = λ v n. ⊎_elim (λ r. omega (arith, is_first t.0 v r, there))
        (λ w. omega (arith, is_written t.0 v w, there)) n;
    roles_apart = λ v e. absurd (cc);
    division_apart = λ q r a d e. absurd (cc);
    constants_kept = λ v n e. record {
      unwritten = unwritten_by (Neg t) t.0 plain (is_written t.0) v n e;
      uncopied =
          λ x y z. absurd (cc);
    };
    check_range = λ v n e. absurd (cc);
    shift_range = λ op v n e. absurd (cc);
    cells = λ n e. absurd (cc);
  }

  pub obeys_shift : (op : ShiftOp) (t : VarId) (k : ℕ) → 1 ≤ k → k ≤ 31 → kind t.0 ≡ Plain →
      t.0 < length vars → Obeys args vars (Shift op t k)
  obeys_shift op t k low high plain there = record {
    named = λ v n. ⊎_elim (λ r. omega (arith, is_first t.0 v r, there))
        (λ w. omega (arith, is_written t.0 v w, there)) n;
    roles_apart = λ v e. absurd (cc);
    division_apart = λ q r a d e. absurd (cc);
    constants_kept = λ v n e. record {
      unwritten = unwritten_by (Shift op t k) t.0 plain (is_written t.0) v n e;
      uncopied =
          λ x y z. absurd (cc);
    };
    check_range = λ v n e. absurd (cc);
    shift_range = λ o v n e. subst (λ z. (1 ≤ z) × (z ≤ 31)) (bound o v n e) (low, high);
    cells = λ n e. absurd (cc);
  }
    where
      bound : (o : ShiftOp) (v : VarId) (n : ℕ) → Shift op t k ≡ Shift o v n → k ≡ n
      bound o v n e = cc

  pub obeys_set : (t : VarId) (m : ℤ) → kind t.0 ≡ Plain → t.0 < length vars →
      Obeys args vars (Set t m)
  obeys_set t m plain there = record {
    named = λ v n. ⊎_elim (λ r. absurd (cc)) (λ w. omega (arith, is_first t.0 v w, there)) n;
    roles_apart = λ v e. refl;
    division_apart = λ q r a d e. absurd (cc);
    constants_kept = λ v n e. record {
      unwritten = unwritten_by (Set t m) t.0 plain (is_first t.0) v n e;
      uncopied =
          λ x y z. absurd (cc);
    };
    check_range = λ v n e. absurd (cc);
    shift_range = λ op v n e. absurd (cc);
    cells = λ n e. absurd (cc);
  }

  pub obeys_copy : (t s : VarId) → kind t.0 ≡ Plain → t.0 < length vars → s.0 < length vars →
      t.0 ≢ s.0 → ((n : ℤ) → kind s.0 ≢ Constant n) → Obeys args vars (Copy t s)
  obeys_copy t s plain there right apart variable = record {
    named = λ v n. ⊎_elim (λ r. omega (arith, is_first s.0 v r, right))
        (λ w. omega (arith, is_first t.0 v w, there)) n;
    roles_apart = λ v e. false_from (reads (Copy t s) v)
        (λ r. apart (sym (is_first t.0 v e) ∙ is_first s.0 v r));
    division_apart = λ q r a d e. absurd (cc);
    constants_kept = λ v n e. record {
      unwritten = unwritten_by (Copy t s) t.0 plain (is_first t.0) v n e;
      uncopied = λ x y z same. variable n (ap kind (source t s x y z ∙ same) ∙ e);
    };
    check_range = λ v n e. absurd (cc);
    shift_range = λ op v n e. absurd (cc);
    cells = λ n e. absurd (cc);
  }
    where
      source : (t s x y : VarId) → Copy t s ≡ Copy x y → s.0 ≡ y.0
      source t s x y e = cc

  pub obeys_cmp : (a b : VarId) → a.0 < length vars → b.0 < length vars → Obeys args vars (Cmp a b)
  obeys_cmp a b left right = record {
    named = λ v n. ⊎_elim (λ r. ⊎_elim (λ (e : v ≡ a.0). omega (arith, e, left))
        (λ (e : v ≡ b.0). omega (arith, e, right)) (is_either a.0 b.0 v r)) (λ w. absurd (cc)) n;
    roles_apart = λ v e. absurd (cc);
    division_apart = λ q r a d e. absurd (cc);
    constants_kept = λ v n e. record { unwritten = refl; uncopied = λ x y z. absurd (cc) };
    check_range = λ v n e. absurd (cc);
    shift_range = λ op v n e. absurd (cc);
    cells = λ n e. absurd (cc);
  }

  pub obeys_cmp_set : (k : Cond) (t a b : VarId) → kind t.0 ≡ Plain → t.0 < length vars →
      a.0 < length vars → b.0 < length vars → t.0 ≢ a.0 → t.0 ≢ b.0 →
      Obeys args vars (CmpSet k t a b)
  obeys_cmp_set k t a b plain there left right t_a t_b = record {
    named = λ v n. ⊎_elim (λ r. ⊎_elim (λ (e : v ≡ a.0). omega (arith, e, left))
        (λ (e : v ≡ b.0). omega (arith, e, right)) (is_either a.0 b.0 v r))
        (λ w. omega (arith, is_first t.0 v w, there)) n;
    roles_apart = λ v e. false_from (reads (CmpSet k t a b) v)
        (λ r. ⊎_elim (λ (s : v ≡ a.0). t_a (sym (is_first t.0 v e) ∙ s))
        (λ (s : v ≡ b.0). t_b (sym (is_first t.0 v e) ∙ s)) (is_either a.0 b.0 v r));
    division_apart = λ q r a d e. absurd (cc);
    constants_kept = λ v n e. record {
      unwritten = unwritten_by (CmpSet k t a b) t.0 plain (is_first t.0) v n e;
      uncopied =
          λ x y z. absurd (cc);
    };
    check_range = λ v n e. absurd (cc);
    shift_range = λ op v n e. absurd (cc);
    cells = λ n e. absurd (cc);
  }

  pub obeys_check_pos : (d : VarId) → d.0 < length vars → Obeys args vars (CheckPos d)
  obeys_check_pos d there = record {
    named = λ v n. ⊎_elim (λ r. omega (arith, is_first d.0 v r, there)) (λ w. absurd (cc)) n;
    roles_apart = λ v e. absurd (cc);
    division_apart = λ q r a d e. absurd (cc);
    constants_kept = λ v n e. record { unwritten = refl; uncopied = λ x y z. absurd (cc) };
    check_range = λ v n e. absurd (cc);
    shift_range = λ op v n e. absurd (cc);
    cells = λ n e. absurd (cc);
  }

  pub obeys_divide : (q r a d : VarId) → kind q.0 ≡ Plain → kind r.0 ≡ Plain → kind a.0 ≡ Plain →
      q.0 < length vars → r.0 < length vars → a.0 < q.0 → d.0 < q.0 → q.0 < r.0 → a.0 ≢ d.0 →
      Obeys args vars (DivMod q r a d)
  obeys_divide q r a d q_plain r_plain a_plain q_there r_there a_low d_low low apart = record {
    named = λ v n. ⊎_elim
        (λ x. ⊎_elim (λ (e : v ≡ a.0). omega (arith, e, a_low, q_there))
        (λ (e : v ≡ d.0). omega (arith, e, d_low, q_there)) (is_either a.0 d.0 v x))
        (λ x. ⊎_elim (λ (e : v ≡ q.0). omega (arith, e, q_there))
        (λ (e : v ≡ r.0). omega (arith, e, r_there)) (is_either q.0 r.0 v x))
        n;
    roles_apart = λ v e. false_from (reads (DivMod q r a d) v) (λ x. ⊎_elim
        (λ (s : v ≡ a.0). ⊎_elim (λ (z : v ≡ q.0). omega (arith, s, z, a_low))
        (λ (z : v ≡ r.0). omega (arith, s, z, a_low, low)) (is_either q.0 r.0 v e))
        (λ (s : v ≡ d.0). ⊎_elim (λ (z : v ≡ q.0). omega (arith, s, z, d_low))
        (λ (z : v ≡ r.0). omega (arith, s, z, d_low, low)) (is_either q.0 r.0 v e))
        (is_either a.0 d.0 v x));
    division_apart = λ x y z u e. four q r a d x y z u e a_low d_low low apart a_plain
        (omega (arith, a_low, q_there));
    constants_kept = λ v n e. record {
      unwritten = false_from (writes (DivMod q r a d) v) (λ w. ⊎_elim
          (λ (s : v ≡ q.0). plain_constant n (sym q_plain ∙ ap kind (sym s) ∙ e))
          (λ (s : v ≡ r.0). plain_constant n (sym r_plain ∙ ap kind (sym s) ∙ e))
          (is_either q.0 r.0 v w));
      uncopied = λ x y z. absurd (cc);
    };
    check_range = λ v n e. absurd (cc);
    shift_range = λ op v n e. absurd (cc);
    cells = λ n e. absurd (cc);
  }
    where
      same_q : (q r a d x y z u : VarId) → DivMod q r a d ≡ DivMod x y z u → q ≡ x
      same_q q r a d x y z u e = cc

      same_r : (q r a d x y z u : VarId) → DivMod q r a d ≡ DivMod x y z u → r ≡ y
      same_r q r a d x y z u e = cc

      same_a : (q r a d x y z u : VarId) → DivMod q r a d ≡ DivMod x y z u → a ≡ z
      same_a q r a d x y z u e = cc

      same_d : (q r a d x y z u : VarId) → DivMod q r a d ≡ DivMod x y z u → d ≡ u
      same_d q r a d x y z u e = cc

      four : (q r a d x y z u : VarId) → DivMod q r a d ≡ DivMod x y z u → a.0 < q.0 → d.0 < q.0 →
          q.0 < r.0 → a.0 ≢ d.0 → kind a.0 ≡ Plain → a.0 < length vars → DividesWell vars x y z u
      four q r a d x y z u e a_low d_low low apart plain there =
          let eq : x.0 ≡ q.0 = ap (λ v. v.0) (sym (same_q q r a d x y z u e)) in
          let er : y.0 ≡ r.0 = ap (λ v. v.0) (sym (same_r q r a d x y z u e)) in
          let ea : z.0 ≡ a.0 = ap (λ v. v.0) (sym (same_a q r a d x y z u e)) in
          let ed : u.0 ≡ d.0 = ap (λ v. v.0) (sym (same_d q r a d x y z u e)) in
          record {
            q_r = λ s. let n : x.0 ≡ y.0 = ap (λ v. v.0) s in omega (arith, n, eq, er, low);
            q_a = λ s. let n : x.0 ≡ z.0 = ap (λ v. v.0) s in omega (arith, n, eq, ea, a_low);
            q_d = λ s. let n : x.0 ≡ u.0 = ap (λ v. v.0) s in omega (arith, n, eq, ed, d_low);
            r_a = λ s. let n : y.0 ≡ z.0 = ap (λ v. v.0) s in omega (arith, n, er, ea, a_low, low);
            r_d = λ s. let n : y.0 ≡ u.0 = ap (λ v. v.0) s in omega (arith, n, er, ed, d_low, low);
            a_d = λ s. let n : z.0 ≡ u.0 = ap (λ v. v.0) s in apart (sym ea ∙ n ∙ ed);
            plain = ap kind ea ∙ plain;
            there = omega (arith, ea, there);
          }
