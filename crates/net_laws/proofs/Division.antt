-- The operands of a division: each has registers of its own, or is on its own side.
use Rattle.std.proofs.Common.{ℕ, zero, suc, ◌≡◌, ◌≢◌, ◌+◌, ◌-◌, ◌<◌, Bool, true, false, ◌&&◌, ◌||◌}
use Rattle.std.proofs.Common.{cond, eqb, leb, [], ◌∷◌, length, All, refl, sym, ap, ◌∙◌, subst}
use Rattle.std.proofs.Common.{arith, inl, inr, Some}
use Rattle.std.specs.Prelude.{nat_lt}
use Rattle.std.specs.List.{list_any, range_with_len}
use Rattle.std.proofs.lemmas.Bool.{and_parts, and_from, eqb-true, eq-eqb, ne_eqb, leb-true, le-leb}
use Rattle.std.proofs.lemmas.Bool.{lt-ltb, or_cases, or_from, false≢true, true≢false, both_ways}
use Rattle.std.proofs.lemmas.Bool.{false_from_ne_true, agree_below_at}
use Rattle.std.proofs.lemmas.List.Elements.{All-head, All-tail}
use Rattle.pra_list.specs.Each.{Each}
use Rattle.pra_list.proofs.Each.{all_of_each}
use Rattle.pra_base.specs.declared.ids.VarId.{VarId}
use Rattle.pra_base.specs.declared.code.VInstr.{VInstr}
use Rattle.pra_base.specs.declared.code.VInstr.TheVariants.{DivMod}
use Rattle.pra_base.specs.declared.code.VProc.{VProc}
use Rattle.pra_base.specs.Code.{kind_of, instr_at}
use Rattle.pra_base.specs.Live.{Live}
use Rattle.pra_base.specs.Operands.{Role, is_role_of, line_writes, reads, writes, operands, table}
use Rattle.pra_base.specs.Operands.{mask_of, widened, own_places, every, but_memory}
use Rattle.pra_base.specs.Places.{allows, with_both}
use Rattle.pra_base.specs.Valid.{IsValid, IsSized, DividesApart}
use Rattle.net_form.specs.declared.net.Strand.{Strand}
use Rattle.net_form.specs.Tables.{all_tables}
use Rattle.net_form.specs.Strands.{Lives, IsLive, is_present, across, roles_beside, mask_at}
use Rattle.net_laws.specs.Homes.{is_there, passes, allowed, choices, rivals}
use Rattle.net_laws.proofs.Runs.{IsRun}
use Rattle.net_laws.proofs.Sides.{side, side_across, mask_was}
use Rattle.net_laws.proofs.Rows.{line_has, line_had, roles_have, wide_at}
use Rattle.net_laws.proofs.Present.{read_present, absent_after, absent_before}
use Rattle.net_laws.proofs.Homes.{allowed_was}
use Rattle.net_laws.proofs.Needs.{net, at, run_of, apart, IsRivalAt, rival}
use Rattle.net_laws.proofs.Choices.{may_be, lone_room, own_wide}

number_apart : (x y : VarId) → x ≢ y → x.0 ≢ y.0
number_apart x y other e = let f : ℕ → VarId = λ n. record { 0 = n } in other (ap f e)

-- which operand the variable is
data Which (q r a d : VarId) (v : ℕ) : Type 0 where
  dividend : v ≡ a.0 → Which q r a d v
  divisor : v ≡ d.0 → Which q r a d v
  quotient : v ≡ q.0 → Which q r a d v
  remainder : v ≡ r.0 → Which q r a d v

which : (q r a d : VarId) (v : ℕ) → (reads (DivMod q r a d) v || writes (DivMod q r a d) v) ≡ true →
    Which q r a d v
which q r a d v named = elim (or_cases (reads (DivMod q r a d) v) (writes (DivMod q r a d) v) named)
    as (λ _. Which q r a d v) [
      | inl read ↦ elim (or_cases (eqb a.0 v) (eqb d.0 v || false) read) as (λ _. Which q r a d v) [
        | inl is ↦ dividend (sym (eqb-true a.0 v is))
        | inr more ↦ elim (or_cases (eqb d.0 v) false more) as (λ _. Which q r a d v)
            [ inl is ↦ divisor (sym (eqb-true d.0 v is)) | inr none ↦ absurd (false≢true none) ]
      ]
      | inr written ↦ elim (or_cases (eqb q.0 v) (eqb r.0 v || false) written)
          as (λ _. Which q r a d v) [
            | inl is ↦ quotient (sym (eqb-true q.0 v is))
            | inr more ↦ elim (or_cases (eqb r.0 v) false more) as (λ _. Which q r a d v) [
              | inl is ↦ remainder (sym (eqb-true r.0 v is))
              | inr none ↦
                  absurd (false≢true none)
            ]
          ]
    ]

-- on which side it is, and in which registers
abbrev OnSide : (q r a d : VarId) (v : ℕ) → Which q r a d v → Bool → Type 0
OnSide q r a d v (dividend e) c = c ≡ true
OnSide q r a d v (divisor e) c = Unit {0}
OnSide q r a d v (quotient e) c = c ≡ false
OnSide q r a d v (remainder e) c = c ≡ false

abbrev InRegister : (q r a d : VarId) (v : ℕ) → Which q r a d v → ℕ → Type 0
InRegister q r a d v (dividend e) p = p ≡ 0
InRegister q r a d v (divisor e) p = (p ≢ 0) × (p ≢ 2)
InRegister q r a d v (quotient e) p = p ≡ 0
InRegister q r a d v (remainder e) p = p ≡ 2

eax_only : (p : ℕ) → p < 6 → allows 1 p ≡ true → p ≡ 0
eax_only p lt h = eqb-true p 0 (sym (agree_below_at (allows 1) (λ p. eqb p 0) 6 p refl lt) ∙ h)

edx_only : (p : ℕ) → p < 6 → allows 4 p ≡ true → p ≡ 2
edx_only p lt h = eqb-true p 2 (sym (agree_below_at (allows 4) (λ p. eqb p 2) 6 p refl lt) ∙ h)

eax_wide : (b : Bool) (p : ℕ) → p < 6 → allows (cond b 1 (with_both 1)) p ≡ true → p ≡ 0
eax_wide true p lt h = eax_only p lt h
eax_wide false p lt h = eqb-true p 0
    (sym (agree_below_at (allows (with_both 1)) (λ p. eqb p 0) 6 p refl lt) ∙ h)

-- a register or memory, but not EAX and EDX
abbrev divisor_mask : ℕ
divisor_mask = 122

neither : (b : Bool) (p : ℕ) → p < 6 → allows (cond b divisor_mask (with_both divisor_mask)) p ≡
    true → (p ≢ 0) × (p ≢ 2)
neither true p lt h = (
  λ e. both_ways (allows divisor_mask p) (ap (allows divisor_mask) e) h,
  λ e. both_ways (allows divisor_mask p) (ap (allows divisor_mask) e) h,
)
neither false p lt h = (
  λ e. both_ways (allows (with_both divisor_mask) p)
      (ap (allows (with_both divisor_mask)) e) h,
  λ e. both_ways (allows (with_both divisor_mask) p)
      (ap (allows (with_both divisor_mask)) e) h,
)

any_in : (f : ℕ → Bool) (a n : ℕ) → list_any f (range_with_len a n) ≡ true → (i : ℕ) × (i < a + n) ×
    (f i ≡ true)
any_in f a zero any = absurd (false≢true any)
any_in f a (suc n) any = elim (or_cases (f a) (list_any f (range_with_len (a + 1) n)) any)
    as (λ _. (i : ℕ) × (i < a + suc n) × (f i ≡ true)) [
      | inl is ↦ (a, omega arith, is)
      | inr more ↦ let x = any_in f (a + 1) n more in let lt = x.1 in (x.0, omega (arith, lt), x.2)
    ]

module _ (code : VProc) (live : Lives) (is_live : IsLive code live) (valid : IsValid code)
    (sized : IsSized code) (least : ℕ → ℕ) (q r a d : VarId) where
  abbrev i : VInstr
  i = DivMod q r a d

  abbrev strand_of : ℕ → Strand
  strand_of x = at code live is_live valid sized least x

  abbrev count : ℕ
  count = length (net code live is_live valid sized least).strands

  -- one strand of an operand
  module _ (x : ℕ) (x_lt : x < count) (k : ℕ) (is : instr_at code (strand_of x).block.0 k ≡ Some i)
    where
      abbrev t : Strand
      t = strand_of x

      abbrev v : ℕ
      v = t.var.0

      run : IsRun code live t
      run = run_of code live is_live valid sized least x x_lt

      names : DividesApart code t.block.0 k q r a d
      names = valid.division_apart t.block.0 k q r a d is

      present_there : (c : Bool) → is_there t (side k c) ≡ true →
          is_present all_tables code live v t.block.0 (side k c) ≡ true
      present_there c there = let p = and_parts (leb t.first (side k c)) (leb (side k c) t.last)
          there in run.present (side k c) (leb-true t.first (side k c) p.0)
          (leb-true (side k c) t.last p.1)

      a_absent : v ≡ a.0 → is_present all_tables code live v t.block.0 (side k false) ≡ false
      a_absent e = absent_after code live is_live valid v t.block.0 k i is
          (false_from_ne_true (live v t.block.0 (side k false))
          (λ lives. names.dead (subst (λ v. Live code v t.block.0 (side k false)) e
          ((is_live v t.block.0 (side k false)).0 lives).1)))
          (or_from (eqb q.0 v) (eqb r.0 v || false)
          (ne_eqb q.0 v (λ f. number_apart q a names.q_a (f ∙ e)))
          (or_from (eqb r.0 v) false (ne_eqb r.0 v (λ f. number_apart r a names.r_a (f ∙ e))) refl))

      q_absent : v ≡ q.0 → is_present all_tables code live v t.block.0 (side k true) ≡ false
      q_absent e = absent_before code live is_live valid v t.block.0 k i is
          (ap (λ b. b || (eqb r.0 v || false)) (eq-eqb q.0 v (sym e)))

      r_absent : v ≡ r.0 → is_present all_tables code live v t.block.0 (side k true) ≡ false
      r_absent e = absent_before code live is_live valid v t.block.0 k i is
          (ap (λ b. eqb q.0 v || (b || false)) (eq-eqb r.0 v (sym e)) ∙ or_true (eqb q.0 v))
        where
          or_true : (b : Bool) → (b || true) ≡ true
          or_true true = refl
          or_true false = refl

      on_side : (w : Which q r a d v) (c : Bool) → is_there t (side k c) ≡ true →
          OnSide q r a d v w c
      on_side (dividend e) true there = refl
      on_side (dividend e) false there =
          absurd (both_ways _ (a_absent e) (present_there false there))
      on_side (divisor e) c there = tt
      on_side (quotient e) true there = absurd (both_ways _ (q_absent e) (present_there true there))
      on_side (quotient e) false there = refl
      on_side (remainder e) true there =
          absurd (both_ways _ (r_absent e) (present_there true there))
      on_side (remainder e) false there = refl

      -- what the operand's mask has, in the roles of its side
      Roles : Bool → ℕ → Type 0
      Roles c p = All (λ r. is_role_of v r ≡ true → allows r.mask p ≡ true)
          (roles_beside c operands (Some i))

      roles_at : (c : Bool) (p : ℕ) → allows (mask_at all_tables code live v t.block.0 (side k c))
          p ≡
          true → All (λ r. is_role_of v r ≡ true → allows r.mask p ≡ true)
          (roles_beside c operands (Some i))
      roles_at c p h = subst (λ o. All (λ r. is_role_of v r ≡ true → allows r.mask p ≡ true)
          (roles_beside c operands o)) is (mask_was code live v t.block.0 k c p h)

      d_passes : v ≡ d.0 → is_there t (side k false) ≡ true → passes t (side k false) ≡ true
      d_passes e there =
          let p = and_parts (leb t.first (side k false)) (leb (side k false) t.last) there in
          let first = leb-true t.first (side k false) p.0 in
          let last = leb-true (side k false) t.last p.1 in
          let present : is_present all_tables code live v t.block.0 (side k true) ≡ true =
          read_present code live is_live valid v t.block.0 k i is run.var run.block
          (ap (λ b. eqb a.0 v || (b || false)) (eq-eqb d.0 v (sym e)) ∙ or_true (eqb a.0 v)) in
          let sooner : t.first ≡ side k false → ⊥ =
          λ f. both_ways (is_present all_tables code live v t.block.0 (t.first - 1))
          (run.before (omega (arith, f)))
          (ap (is_present all_tables code live v t.block.0)
          (let g : t.first - 1 ≡ side k true = omega (arith, f) in g) ∙ present) in
          and_from (nat_lt 0 (side k false)) (is_there t (across (side k false)))
          (lt-ltb 0 (side k false) (omega arith))
          (ap (is_there t) (side_across k false) ∙ and_from (leb t.first (side k true))
          (leb (side k true) t.last) (le-leb t.first (side k true) (omega (arith, first, sooner)))
          (le-leb (side k true) t.last (omega (arith, last))))
        where
          or_true : (b : Bool) → (b || true) ≡ true
          or_true true = refl
          or_true false = refl

      d_mask : v ≡ d.0 → (c : Bool) (p : ℕ) → is_there t (side k c) ≡ true →
          allows (allowed t (side k c)) p ≡ true →
          allows (mask_at all_tables code live v t.block.0 (side k true)) p ≡ true
      d_mask e true p there h = (allowed_was code live t run (side k true) p there h).0
      d_mask e false p there h = ap (λ l. allows (mask_at all_tables code live v t.block.0 l) p)
          (sym (side_across k false)) ∙ (allowed_was code live t run (side k false) p there h).1
          (d_passes e there)

      -- the mask of each operand, by its roles
      abbrev Has : ℕ → ℕ → Role → Type 0
      Has u p o = is_role_of u o ≡ true → allows o.mask p ≡ true

      abbrev role : VarId → ℕ → Role
      role u m = record { var = u.0; mask = m; memory = false }

      abbrev set : VarId → Role
      set u = record { var = u.0; mask = mask_of (table i) u.0; memory = false }

      abbrev wide : VarId → ℕ → Role
      wide u m = widened (table i) (role u m)

      read_first : (p : ℕ) → All (Has v p) (roles_beside true operands (Some i)) → v ≡ a.0 →
          allows (mask_of (table i) a.0) p ≡ true
      read_first p all e = All-head (Has v p) (set a) (set d ∷ []) all (eq-eqb a.0 v (sym e))

      read_second : (p : ℕ) → All (Has v p) (roles_beside true operands (Some i)) → v ≡ d.0 →
          allows (mask_of (table i) d.0) p ≡ true
      read_second p all e = All-head (Has v p) (set d) []
          (All-tail (Has v p) (set a) (set d ∷ []) all) (eq-eqb d.0 v (sym e))

      written_first : (p : ℕ) → All (Has v p) (roles_beside false operands (Some i)) → v ≡ q.0 →
          allows (mask_of (table i) q.0) p ≡ true
      written_first p all e = All-head (Has v p) (set q) (set r ∷ []) all (eq-eqb q.0 v (sym e))

      written_second : (p : ℕ) → All (Has v p) (roles_beside false operands (Some i)) → v ≡ r.0 →
          allows (mask_of (table i) r.0) p ≡ true
      written_second p all e = All-head (Has v p) (set r) []
          (All-tail (Has v p) (set q) (set r ∷ []) all) (eq-eqb r.0 v (sym e))

      a_register : (p : ℕ) → p < 6 → allows (mask_of (table i) a.0) p ≡ true → p ≡ 0
      a_register p lt h = eax_wide (line_writes (table i) a.0) p lt
          (All-head (Has a.0 p) (wide a 1) (wide d divisor_mask ∷ role q 1 ∷ role r 4 ∷ [])
          (line_had i a.0 p h) (eq-eqb a.0 a.0 refl))

      d_register : (p : ℕ) → p < 6 → allows (mask_of (table i) d.0) p ≡ true → (p ≢ 0) × (p ≢ 2)
      d_register p lt h = neither (line_writes (table i) d.0) p lt
          (All-head (Has d.0 p) (wide d divisor_mask) (role q 1 ∷ role r 4 ∷ [])
          (All-tail (Has d.0 p) (wide a 1) (wide d divisor_mask ∷ role q 1 ∷ role r 4 ∷ [])
          (line_had i d.0 p h)) (eq-eqb d.0 d.0 refl))

      q_register : (p : ℕ) → p < 6 → allows (mask_of (table i) q.0) p ≡ true → p ≡ 0
      q_register p lt h = eax_only p lt
          (All-head (Has q.0 p) (role q 1) (role r 4 ∷ [])
          (All-tail (Has q.0 p) (wide d divisor_mask) (role q 1 ∷ role r 4 ∷ [])
          (All-tail (Has q.0 p) (wide a 1) (wide d divisor_mask ∷ role q 1 ∷ role r 4 ∷ [])
          (line_had i q.0 p h))) (eq-eqb q.0 q.0 refl))

      r_register : (p : ℕ) → p < 6 → allows (mask_of (table i) r.0) p ≡ true → p ≡ 2
      r_register p lt h = edx_only p lt
          (All-head (Has r.0 p) (role r 4) []
          (All-tail (Has r.0 p) (role q 1) (role r 4 ∷ [])
          (All-tail (Has r.0 p) (wide d divisor_mask) (role q 1 ∷ role r 4 ∷ [])
          (All-tail (Has r.0 p) (wide a 1) (wide d divisor_mask ∷ role q 1 ∷ role r 4 ∷ [])
          (line_had i r.0 p h)))) (eq-eqb r.0 r.0 refl))

      in_register : (w : Which q r a d v) (c : Bool) (p : ℕ) → p < 6 → is_there t (side k c) ≡
          true →
          allows (allowed t (side k c)) p ≡ true → InRegister q r a d v w p
      in_register (dividend e) true p lt there h =
          a_register p lt (read_first p
          (roles_at true p (allowed_was code live t run (side k true) p there h).0) e)
      in_register (dividend e) false p lt there h =
          absurd (false≢true (on_side (dividend e) false there))
      in_register (divisor e) c p lt there h =
          d_register p lt (read_second p (roles_at true p (d_mask e c p there h)) e)
      in_register (quotient e) true p lt there h =
          absurd (true≢false (on_side (quotient e) true there))
      in_register (quotient e) false p lt there h =
          q_register p lt (written_first p
          (roles_at false p (allowed_was code live t run (side k false) p there h).0) e)
      in_register (remainder e) true p lt there h =
          absurd (true≢false (on_side (remainder e) true there))
      in_register (remainder e) false p lt there h =
          r_register p lt (written_second p
          (roles_at false p (allowed_was code live t run (side k false) p there h).0) e)

  -- two operands
  apart_by : (u v : ℕ) (w : Which q r a d u) (x : Which q r a d v) (c : Bool) (p : ℕ) →
      OnSide q r a d u w c → OnSide q r a d v x c → InRegister q r a d u w p →
      InRegister q r a d v x p → u ≡ v
  apart_by u v (dividend e) (dividend f) c p s z m n = e ∙ sym f
  apart_by u v (dividend e) (divisor f) c p s z m n = absurd (n.0 m)
  apart_by u v (dividend e) (quotient f) c p s z m n = absurd (true≢false (sym s ∙ z))
  apart_by u v (dividend e) (remainder f) c p s z m n = absurd (true≢false (sym s ∙ z))
  apart_by u v (divisor e) (dividend f) c p s z m n = absurd (m.0 n)
  apart_by u v (divisor e) (divisor f) c p s z m n = e ∙ sym f
  apart_by u v (divisor e) (quotient f) c p s z m n = absurd (m.0 n)
  apart_by u v (divisor e) (remainder f) c p s z m n = absurd (m.1 n)
  apart_by u v (quotient e) (dividend f) c p s z m n = absurd (true≢false (sym z ∙ s))
  apart_by u v (quotient e) (divisor f) c p s z m n = absurd (n.0 m)
  apart_by u v (quotient e) (quotient f) c p s z m n = e ∙ sym f
  apart_by u v (quotient e) (remainder f) c p s z m n = absurd (omega (arith, m, n))
  apart_by u v (remainder e) (dividend f) c p s z m n = absurd (true≢false (sym z ∙ s))
  apart_by u v (remainder e) (divisor f) c p s z m n = absurd (n.1 m)
  apart_by u v (remainder e) (quotient f) c p s z m n = absurd (omega (arith, m, n))
  apart_by u v (remainder e) (remainder f) c p s z m n = e ∙ sym f

  -- so a strand has no rivals, and a register
  module _ (s : ℕ) (s_lt : s < count) (l k : ℕ) (before : Bool) (at_l : l ≡ side k before)
      (is : instr_at code (strand_of s).block.0 k ≡ Some i)
      (there : is_there (strand_of s) l ≡ true)
      (mine : (reads i (strand_of s).var.0 || writes i (strand_of s).var.0) ≡ true) where
    abbrev u : ℕ
    u = (strand_of s).var.0

    no_rival : (x : ℕ) → x < count → IsRivalAt code live is_live valid sized least s l k i x → ⊥
    no_rival x x_lt o =
        let c = o.before in
        let w = which q r a d u mine in
        let z = which q r a d (strand_of x).var.0 o.named in
        let also = subst (λ b. instr_at code b k ≡ Some i) (sym o.block) is in
        let here : is_there (strand_of s) (side k c) ≡ true =
        elim o.layer as (λ _. is_there (strand_of s) (side k c) ≡ true) [
          | inl same ↦ ap (is_there (strand_of s)) same ∙ there
          | inr beyond ↦ ap (is_there (strand_of s)) beyond.1
              ∙ (and_parts (nat_lt 0 l) (is_there (strand_of s) (across l)) beyond.0).1
        ] in
        let shared = any_in (λ p. allows (allowed (strand_of s) l) p && allows
        (allowed (strand_of x) (side k c)) p) 0 6 o.shared in
        let p = shared.0 in
        let lt : p < 6 = let z = shared.1 in omega (arith, z) in
        let both = and_parts (allows (allowed (strand_of s) l) p)
        (allows (allowed (strand_of x) (side k c)) p) shared.2 in
        let same = apart_by u (strand_of x).var.0 w z c p (on_side s s_lt k is w c here)
        (on_side x x_lt k also z c o.there)
        (in_register s s_lt k is w before p lt (ap (is_there (strand_of s)) (sym at_l) ∙ there)
        (ap (λ l. allows (allowed (strand_of s) l) p) (sym at_l) ∙ both.0))
        (in_register x x_lt k also z c p lt o.there both.1) in
        apart code live is_live valid sized least x s k c c x_lt s_lt o.other (sym same) o.block
        o.there here

    abbrev Has_for : ℕ → Role → Type 0
    Has_for p o = is_role_of u o ≡ true → allows o.mask p ≡ true

    not_mine : (x y : VarId) (m p : ℕ) → u ≡ x.0 → y ≢ x → eqb y.0 u ≡ true → allows m p ≡ true
    not_mine x y m p e other is_y = absurd (number_apart y x other (eqb-true y.0 u is_y ∙ e))

    some_register : Which q r a d u → (p : ℕ) × (p < 4) × Each (Has_for p) (table i).reads ×
        Each (Has_for p) (table i).writes
    some_register (dividend e) = (
      0,
      omega arith,
      (
        λ _. refl,
        (not_mine a d 122 0 e (λ f. (names s s_lt k is).a_d (sym f)), tt),
      ),
      (λ _. refl, (not_mine a r 4 0 e (names s s_lt k is).r_a, tt)),
    )
    some_register (divisor e) = (
      1,
      omega arith,
      (not_mine d a 1 1 e (names s s_lt k is).a_d, (λ _. refl, tt)),
      (
        not_mine d q 1 1 e (names s s_lt k is).q_d,
        (not_mine d r 4 1 e (names s s_lt k is).r_d, tt),
      ),
    )
    some_register (quotient e) = (
      0,
      omega arith,
      (
        λ _. refl,
        (not_mine q d 122 0 e (λ f. (names s s_lt k is).q_d (sym f)), tt),
      ),
      (λ _. refl, (not_mine q r 4 0 e (λ f. (names s s_lt k is).q_r (sym f)), tt)),
    )
    some_register (remainder e) = (
      2,
      omega arith,
      (
        not_mine r a 1 2 e (λ f. (names s s_lt k is).r_a (sym f)),
        (not_mine r d 122 2 e (λ f. (names s s_lt k is).r_d (sym f)), tt),
      ),
      (not_mine r q 1 2 e (names s s_lt k is).q_r, (λ _. refl, tt)),
    )

    pub division_room : rivals (net code live is_live valid sized least) s l <
        choices (allowed (strand_of s) l)
    division_room =
        let x = some_register (which q r a d u mine) in
        let p = x.0 in
        let lt = x.1 in
        lone_room code live is_live valid sized least s s_lt l k before at_l i
        (λ z z_lt competes. no_rival z z_lt
        (rival code live is_live valid sized least s l k before i at_l is z z_lt competes))
        p (omega (arith, lt))
        (may_be code live is_live valid sized least s s_lt l k before at_l i is there refl p
        (omega (arith, lt)) (wide_at (own_places (kind_of code u)) p (own_wide (kind_of code u))
        lt)
        (λ c. roles_have i u p c
        (line_has i u p (wide_at every p refl lt) (wide_at (but_memory every) p refl lt)
        (all_of_each (Has_for p) (table i).reads x.2)
        (all_of_each (Has_for p) (table i).writes x.3))))
