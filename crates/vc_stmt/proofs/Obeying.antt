-- The instructions of statements keep the rules of an instruction.
use Rattle.std.proofs.Common.{◌≡◌, ◌≢◌, ℕ, ◌<◌, true, false, List, length, Option, Some, None, inl}
use Rattle.std.proofs.Common.{inr, ⊎_elim, ◌⊎◌, refl, sym, ap, ◌∙◌, arith}
use Rattle.std.specs.Prelude.{ℤ, ◌++◌, slice_get, slice_index_or}
use Rattle.std.specs.List.{list_any}
use Rattle.std.proofs.lemmas.List.Folds.{list_any-append}
use Rattle.vc_select.proofs.ReadyTargets.{cell_named}
use Rattle.pra_list.proofs.Truths.{or_cases, false_from}
use Rattle.pra_base.specs.Operands.{Role, reads, writes, via, index, is_role_of, addressed}
use Rattle.pra_base.specs.declared.ids.ProcId.{ProcId}
use Rattle.pra_base.specs.declared.ids.VarId.{VarId}
use Rattle.pra_base.specs.declared.code.Addr.{Addr}
use Rattle.pra_base.specs.declared.code.Base.{Base}
use Rattle.pra_base.specs.declared.code.Base.TheVariants as base
use Rattle.pra_base.specs.declared.code.VarKind.{VarKind}
use Rattle.pra_base.specs.declared.code.VarKind.TheVariants.{Param, Plain, Constant}
use Rattle.pra_base.specs.declared.code.VInstr.{VInstr}
use Rattle.pra_base.specs.declared.code.VInstr.TheVariants.{Set, Copy, Store, Push, Call, Read}
use Rattle.pra_base.specs.declared.code.VInstr.TheVariants.{Write, Line}
use Rattle.pra_base.specs.declared.code.VInstr.TheVariants as instr
use Rattle.vc_expr.specs.Operators.{first_of}
use Rattle.vc_expr.specs.Rules.{Obeys}
use Rattle.vc_expr.proofs.Obeys.{is_first}
use Rattle.vc_select.specs.declared.target.Target.TheVariants.{Memory}
use Rattle.vc_select.specs.Certified.{InBase, InIndex, InTarget, CellOfBase}

-- ---- the variables of an address

in_via : (u : ℕ) (b : Base) → list_any (is_role_of u) (via b) ≡ true → InBase b u
in_via u (base.Via v) e = is_first v.0 u e
in_via u (base.Global n) e = cc
in_via u (base.Frame n) e = cc
in_via u (base.Cell n) e = cc

in_index : (u : ℕ) (i : Option VarId) → list_any (is_role_of u) (index i) ≡ true → InIndex i u
in_index u (Some v) e = is_first v.0 u e
in_index u None e = cc

in_either : (u : ℕ) (xs ys : List Role) → list_any (is_role_of u) (xs ++ ys) ≡ true →
    (list_any (is_role_of u) xs ≡ true) ⊎ (list_any (is_role_of u) ys ≡ true)
in_either u xs ys e = or_cases (list_any (is_role_of u) xs) (list_any (is_role_of u) ys)
    (sym (list_any-append (is_role_of u) xs ys) ∙ e)

pub in_address : (u : ℕ) (a : Addr) → list_any (is_role_of u) (addressed a) ≡ true →
    InTarget (Memory a) u
in_address u a e = ⊎_elim
    (λ (b : list_any (is_role_of u) (via a.base) ≡ true). inl (in_via u a.base b))
    (λ (i : list_any (is_role_of u) (index a.index) ≡ true). inr (in_index u a.index i))
    (in_either u (via a.base) (index a.index) e)

-- what a Store reads: the variables of its address, and the value
pub store_reads : (a : Addr) (s : VarId) (u : ℕ) → reads (Store a s) u ≡ true →
    InTarget (Memory a) u ⊎ (u ≡ s.0)
store_reads a s u e = ⊎_elim
    (λ (x : list_any (is_role_of u) (addressed a) ≡ true). inl (in_address u a x))
    (λ x. inr (is_first s.0 u x))
    (in_either u (addressed a) _ e)

pub push_reads : (s : VarId) (u : ℕ) → reads (Push s) u ≡ true → u ≡ s.0
push_reads s u e = is_first s.0 u e

pub write_reads : (s : VarId) (u : ℕ) → reads (Write s) u ≡ true → u ≡ s.0
write_reads s u e = is_first s.0 u e

-- ---- the rules

module _ (args : ℕ) (vars : List VarKind) where
  abbrev kind : ℕ → VarKind
  kind v = slice_index_or vars v Plain

  abbrev HasCell : ℕ → Type 0
  HasCell k = (k < args) × ((v : ℕ) → slice_get vars v ≢ Some (Param k))

  pub obeys_store : (a : Addr) (s : VarId) → s.0 < length vars →
      ((v : ℕ) → InTarget (Memory a) v → v < length vars) →
      ((k : ℕ) → CellOfBase a.base k → HasCell k) → Obeys args vars (Store a s)
  obeys_store a s there below cells = record {
    named = λ v n. ⊎_elim
        (λ r. ⊎_elim (λ (x : InTarget (Memory a) v). below v x)
        (λ (x : v ≡ s.0). omega (arith, x, there)) (store_reads a s v r))
        (λ w. absurd (cc))
        n;
    roles_apart = λ v e. absurd (cc);
    division_apart = λ q r x d e. absurd (cc);
    constants_kept = λ v n e. record { unwritten = refl; uncopied = λ x y z. absurd (cc) };
    check_range = λ v n e. absurd (cc);
    shift_range = λ op v n e. absurd (cc);
    cells = λ k e. cells k (cell_named a.base k e);
  }

  pub obeys_address : (t : VarId) (a : Addr) → kind t.0 ≡ Plain → t.0 < length vars →
      ((v : ℕ) → InTarget (Memory a) v → v < t.0) → ((k : ℕ) → CellOfBase a.base k → HasCell k) →
      Obeys args vars (instr.Addr t a)
  obeys_address t a plain there below cells = record {
    named = λ v n. ⊎_elim (λ r. omega (arith, below v (in_address v a r), there))
        (λ w. omega (arith, is_first t.0 v w, there)) n;
    roles_apart = λ v e. false_from (reads (instr.Addr t a) v)
        (λ r. omega (arith, is_first t.0 v e, below v (in_address v a r)));
    division_apart = λ q r x d e. absurd (cc);
    constants_kept = λ v n e. record {
      unwritten = false_from (writes (instr.Addr t a) v)
          (λ w. plain_constant n (sym plain ∙ ap kind (sym (is_first t.0 v w)) ∙ e));
      uncopied = λ x y z. absurd (cc);
    };
    check_range = λ v n e. absurd (cc);
    shift_range = λ op v n e. absurd (cc);
    cells = λ k e. cells k (cell_named a.base k e);
  }
    where
      plain_constant : (n : ℤ) → Plain ≡ Constant n → ⊥
      plain_constant n e = cc

  pub obeys_write : (s : VarId) → s.0 < length vars → Obeys args vars (Write s)
  obeys_write s there = record {
    named = λ v n. ⊎_elim (λ r. omega (arith, is_first s.0 v r, there)) (λ w. absurd (cc)) n;
    roles_apart = λ v e. absurd (cc);
    division_apart = λ q r a d e. absurd (cc);
    constants_kept = λ v n e. record { unwritten = refl; uncopied = λ x y z. absurd (cc) };
    check_range = λ v n e. absurd (cc);
    shift_range = λ op v n e. absurd (cc);
    cells = λ k e. absurd (cc);
  }

  pub obeys_push : (s : VarId) → s.0 < length vars → Obeys args vars (Push s)
  obeys_push s there = record {
    named = λ v n. ⊎_elim (λ r. omega (arith, is_first s.0 v r, there)) (λ w. absurd (cc)) n;
    roles_apart = λ v e. absurd (cc);
    division_apart = λ q r a d e. absurd (cc);
    constants_kept = λ v n e. record { unwritten = refl; uncopied = λ x y z. absurd (cc) };
    check_range = λ v n e. absurd (cc);
    shift_range = λ op v n e. absurd (cc);
    cells = λ k e. absurd (cc);
  }

  pub obeys_call : (p : ProcId) → Obeys args vars (Call p)
  obeys_call p = record {
    named = λ v n. ⊎_elim (λ r. absurd (cc)) (λ w. absurd (cc)) n;
    roles_apart = λ v e. absurd (cc);
    division_apart = λ q r a d e. absurd (cc);
    constants_kept = λ v n e. record { unwritten = refl; uncopied = λ x y z. absurd (cc) };
    check_range = λ v n e. absurd (cc);
    shift_range = λ op v n e. absurd (cc);
    cells = λ k e. absurd (cc);
  }

  pub obeys_line : Obeys args vars Line
  obeys_line = record {
    named = λ v n. ⊎_elim (λ r. absurd (cc)) (λ w. absurd (cc)) n;
    roles_apart = λ v e. absurd (cc);
    division_apart = λ q r a d e. absurd (cc);
    constants_kept = λ v n e. record { unwritten = refl; uncopied = λ x y z. absurd (cc) };
    check_range = λ v n e. absurd (cc);
    shift_range = λ op v n e. absurd (cc);
    cells = λ k e. absurd (cc);
  }

  -- ---- what gives a variable that is no constant a word

  unwritten_by : (i : VInstr) (t : ℕ) → ((n : ℤ) → kind t ≢ Constant n) →
      ((v : ℕ) → writes i v ≡ true → v ≡ t) → (v : ℕ) (n : ℤ) → kind v ≡ Constant n → writes i v ≡
      false
  unwritten_by i t varies only v n e =
      false_from (writes i v) (λ w. varies n (ap kind (sym (only v w)) ∙ e))

  pub obeys_read : (t : VarId) → t.0 < length vars → ((n : ℤ) → kind t.0 ≢ Constant n) →
      Obeys args vars (Read t)
  obeys_read t there varies = record {
    named = λ v n. ⊎_elim (λ r. absurd (cc)) (λ w. omega (arith, is_first t.0 v w, there)) n;
    roles_apart = λ v e. refl;
    division_apart = λ q r a d e. absurd (cc);
    constants_kept = λ v n e. record {
      unwritten = unwritten_by (Read t) t.0 varies (is_first t.0) v n e;
      uncopied =
          λ x y z. absurd (cc);
    };
    check_range = λ v n e. absurd (cc);
    shift_range = λ op v n e. absurd (cc);
    cells = λ k e. absurd (cc);
  }

  obeys_set : (t : VarId) (m : ℤ) → t.0 < length vars → ((n : ℤ) → kind t.0 ≢ Constant n) →
      Obeys args vars (Set t m)
  obeys_set t m there varies = record {
    named = λ v n. ⊎_elim (λ r. absurd (cc)) (λ w. omega (arith, is_first t.0 v w, there)) n;
    roles_apart = λ v e. refl;
    division_apart = λ q r a d e. absurd (cc);
    constants_kept = λ v n e. record {
      unwritten = unwritten_by (Set t m) t.0 varies (is_first t.0) v n e;
      uncopied =
          λ x y z. absurd (cc);
    };
    check_range = λ v n e. absurd (cc);
    shift_range = λ op v n e. absurd (cc);
    cells = λ k e. absurd (cc);
  }

  obeys_copy : (t s : VarId) → t.0 < length vars → s.0 < length vars → t.0 ≢ s.0 →
      ((n : ℤ) → kind t.0 ≢ Constant n) → ((n : ℤ) → kind s.0 ≢ Constant n) →
      Obeys args vars (Copy t s)
  obeys_copy t s there right apart varies variable = record {
    named = λ v n. ⊎_elim (λ r. omega (arith, is_first s.0 v r, right))
        (λ w. omega (arith, is_first t.0 v w, there)) n;
    roles_apart = λ v e. false_from (reads (Copy t s) v)
        (λ r. apart (sym (is_first t.0 v e) ∙ is_first s.0 v r));
    division_apart = λ q r a d e. absurd (cc);
    constants_kept = λ v n e. record {
      unwritten = unwritten_by (Copy t s) t.0 varies (is_first t.0) v n e;
      uncopied = λ x y z same. variable n (ap kind (source t s x y z ∙ same) ∙ e);
    };
    check_range = λ v n e. absurd (cc);
    shift_range = λ op v n e. absurd (cc);
    cells = λ n e. absurd (cc);
  }
    where
      source : (t s x y : VarId) → Copy t s ≡ Copy x y → s.0 ≡ y.0
      source t s x y e = cc

  pub obeys_first : (k : VarKind) (t s : VarId) → kind s.0 ≡ k → t.0 < length vars →
      s.0 < length vars → t.0 ≢ s.0 → ((n : ℤ) → kind t.0 ≢ Constant n) →
      Obeys args vars (first_of k t s)
  obeys_first (Constant n) t s is there right apart varies = obeys_set t n there varies
  obeys_first Plain t s is there right apart varies = obeys_copy t s there right apart varies
      (λ n e. no_plain n (sym is ∙ e))
    where
      no_plain : (n : ℤ) → Plain ≡ Constant n → ⊥
      no_plain n e = cc
  obeys_first (Param k) t s is there right apart varies = obeys_copy t s there right apart varies
      (λ n e. no_param n k (sym is ∙ e))
    where
      no_param : (n : ℤ) (k : ℕ) → Param k ≡ Constant n → ⊥
      no_param n k e = cc
