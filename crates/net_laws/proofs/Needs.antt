-- Who needs a register in the network of valid code, and who competes for it: variables of one
-- instruction.
use Rattle.std.proofs.Common.{ℕ, ◌≡◌, ◌≢◌, ◌<◌, Bool, true, false, not, ◌&&◌, ◌||◌, eqb, List}
use Rattle.std.proofs.Common.{length, get_or, All, refl, sym, ap, ◌∙◌, subst, inl, inr, ◌⊎◌, Some}
use Rattle.std.specs.Prelude.{nat_lt}
use Rattle.std.specs.List.{list_any}
use Rattle.std.proofs.lemmas.Bool.{and_parts, or_cases, eqb-true, eqb-false, ltb-true, not-true}
use Rattle.pra_list.proofs.Options.{some_same}
use Rattle.pra_base.specs.declared.code.VInstr.{VInstr}
use Rattle.pra_base.specs.declared.code.VProc.{VProc}
use Rattle.pra_base.specs.Code.{instr_at}
use Rattle.pra_base.specs.Operands.{reads, writes, is_role_of, operands}
use Rattle.pra_base.specs.Valid.{IsValid, IsSized}
use Rattle.net_form.specs.declared.net.Strand.{Strand}
use Rattle.net_form.specs.declared.net.MemPair.{MemPair}
use Rattle.net_form.specs.declared.net.Tie.{Tie}
use Rattle.net_form.specs.declared.net.Net.{Net}
use Rattle.net_form.specs.Tables.{all_tables}
use Rattle.net_form.specs.Strands.{Lives, IsLive, across, roles_beside, strands}
use Rattle.net_form.specs.Network.{ties, net_of}
use Rattle.net_form.specs.Admitted.{strand_at, no_strand}
use Rattle.net_laws.specs.Homes.{is_there, passes, allowed, has_home, left_stays, is_right}
use Rattle.net_laws.specs.Homes.{yields_at, yields, needs_register, shares, contends, is_rival}
use Rattle.net_laws.proofs.Runs.{IsRun, net_runs, net_one_start, one_strand}
use Rattle.net_laws.proofs.Sides.{side, side_of, side_across, side_near, same_index}
use Rattle.net_laws.proofs.Rows.{read_roles, written_roles}
use Rattle.net_laws.proofs.Found.{first_that}
use Rattle.net_laws.proofs.Pairs.{IsPair, all_pairs}
use Rattle.net_laws.proofs.Homes.{IsBesideOperand, away}

pub no_pair : MemPair
no_pair = record { left = 0; left_layer = 0; right = 0; right_layer = 0 }

pub is_named : (v : ℕ) (i : VInstr) (before : Bool) →
    list_any (is_role_of v) (roles_beside before operands (Some i)) ≡ true →
    (reads i v || writes i v) ≡ true
is_named v i true role = ap (λ t. t || writes i v) (sym (read_roles v i) ∙ role)
is_named v i false role = ap (λ t. reads i v || t) (sym (written_roles v i) ∙ role)
    ∙ or_true (reads i v)
  where
    or_true : (b : Bool) → (b || true) ≡ true
    or_true true = refl
    or_true false = refl

module _ (code : VProc) (live : Lives) (is_live : IsLive code live) (valid : IsValid code)
    (sized : IsSized code) (least : ℕ → ℕ) where
  abbrev pub net : Net
  net = net_of all_tables code live least

  abbrev pub tied : List Tie
  tied = ties code (strands all_tables code live)

  abbrev pub at : ℕ → Strand
  at s = strand_at net s

  pub runs : All (IsRun code live) net.strands
  runs = net_runs code live tied least

  pub run_of : (s : ℕ) → s < length net.strands → IsRun code live (at s)
  run_of s lt = runs s no_strand lt

  -- two strands of one variable are never on the sides of one instruction
  pub apart : (i j k : ℕ) (x y : Bool) → i < length net.strands → j < length net.strands → i ≢ j →
      (at i).var.0 ≡ (at j).var.0 → (at i).block.0 ≡ (at j).block.0
      → is_there (at i) (side k x) ≡ true → is_there (at j) (side k y) ≡ true → ⊥
  apart i j k x y i_lt j_lt other var block at_i at_j =
      one_strand code live net.strands runs (λ v b l. net_one_start code live v b l tied least) i j
      (side k x) (side k y) i_lt j_lt other var block at_i at_j (side_near k x y)
      (side_near k y x)

  -- who gives way is an operand of the instruction
  yields_beside : (s : ℕ) (lt : s < length net.strands) (l : ℕ) → yields_at net s l ≡ true →
      IsBesideOperand code live (at s) (run_of s lt) l
  yields_beside s lt l some =
      let test : MemPair → Bool = λ m. is_right s l m && left_stays net m in
      let f = first_that test net.pairs no_pair some in
      let m = get_or net.pairs _ no_pair in
      by m (all_pairs code live is_live valid sized tied least _ no_pair f.0)
      (and_parts (is_right s l m) (left_stays net m) f.1).0
    where
      by : (m : MemPair) → IsPair code live is_live valid sized tied least m → is_right s l m ≡
          true → IsBesideOperand code live (at s) (run_of s lt) l
      by m pair right =
          let e = and_parts (eqb m.right s) (eqb m.right_layer l) right in
          let same = eqb-true m.right s e.0 in
          let layer = eqb-true m.right_layer l e.1 in
          let block : pair.block ≡ (at s).block.0 = sym pair.right_strand.block
          ∙ ap (λ s. (at s).block.0) same in
          let var : pair.right_var ≡ (at s).var.0 = sym pair.right_strand.var
          ∙ ap (λ s. (at s).var.0) same in record {
            index = pair.index;
            before = pair.right.before;
            instr = pair.instr;
            at = sym layer ∙ pair.right.layer;
            is = subst (λ b. instr_at code b pair.index ≡ Some pair.instr) block pair.is;
            named = subst (λ v. (reads pair.instr v || writes pair.instr v) ≡ true) var
                (is_named pair.right_var pair.instr pair.right.before pair.right.role);
          }

  pub needs : (s : ℕ) (lt : s < length net.strands) (l : ℕ) → is_there (at s) l ≡ true →
      needs_register net s l ≡ true → IsBesideOperand code live (at s) (run_of s lt) l
  needs s lt l there need =
      elim (or_cases (not (has_home (at s) l)) (not (at s).constant && yields net s l) need)
      as (λ _. IsBesideOperand code live (at s) (run_of s lt) l) [
        | inl not_home ↦ away code live (at s) (run_of s lt) l there
            (not-true (has_home (at s) l) not_home)
        | inr both ↦ elim (or_cases (yields_at net s l)
            (passes (at s) l && yields_at net s (across l))
            (and_parts (not (at s).constant) (yields net s l) both).1)
            as (λ _. IsBesideOperand code live (at s) (run_of s lt) l) [
              | inl here ↦ yields_beside s lt l here
              | inr beyond ↦
                  let parts = and_parts (passes (at s) l) (yields_at net s (across l)) beyond in
                  let some = ltb-true 0 l (and_parts (nat_lt 0 l) (is_there (at s) (across l))
                  parts.0).0 in
                  let here = side_of l some in
                  let o = yields_beside s lt (across l) parts.1 in
                  let same : here.index ≡ o.index = same_index here.index o.index (not here.before)
                  o.before
                  (sym (side_across here.index here.before) ∙ sym (ap across here.is) ∙ o.at) in
                  record {
                    index = o.index;
                    before = here.before;
                    instr = o.instr;
                    at = here.is ∙ ap (λ k. side k here.before) same;
                    is = o.is;
                    named = o.named;
                  }
            ]
      ]

  -- ---- rivals

  -- strand r competes with strand s on a side of instruction k, of which both are operands
  pub record IsRivalAt (s l k : ℕ) (i : VInstr) (r : ℕ) : Type 0 where
    pub other : r ≢ s
    pub before : Bool
    pub layer : (side k before ≡ l) ⊎ ((passes (at s) l ≡ true) × (side k before ≡ across l))
    pub block : (at r).block.0 ≡ (at s).block.0
    pub there : is_there (at r) (side k before) ≡ true
    pub named : (reads i (at r).var.0 || writes i (at r).var.0) ≡ true
    pub shared : shares (allowed (at s) l) (allowed (at r) (side k before)) ≡ true

  rival_beside : (s l k : ℕ) (before : Bool) (i : VInstr) → l ≡ side k before →
      instr_at code (at s).block.0 k ≡ Some i → (r : ℕ) → r < length net.strands → r ≢ s → (n : ℕ)
      → (n ≡ l) ⊎ ((passes (at s) l ≡ true) × (n ≡ across l)) → contends net (at s).block.0 n
      (allowed (at s) l) r ≡ true → IsRivalAt s l k i r
  rival_beside s l k before i at_l is r r_lt other n where_ contending =
      let mask = allowed (at s) l in
      let b = (at s).block.0 in
      let one = and_parts (eqb (at r).block.0 b && is_there (at r) n && needs_register net r n)
      (shares mask (allowed (at r) n)) contending in
      let two = and_parts (eqb (at r).block.0 b && is_there (at r) n) (needs_register net r n)
      one.0 in
      let three = and_parts (eqb (at r).block.0 b) (is_there (at r) n) two.0 in
      let block = eqb-true (at r).block.0 b three.0 in
      let o = needs r r_lt n three.1 two.1 in
      let k_same : o.index ≡ k = index_is o.index o.before o.at where_ in
      let layer_is : n ≡ side k o.before = o.at ∙ ap (λ k. side k o.before) k_same in
      let instr_is : o.instr ≡ i =
      some_same o.instr i (sym o.is ∙ ap (λ b. instr_at code b o.index) block
      ∙ ap (instr_at code b) k_same ∙ is) in record {
        other = other;
        before = o.before;
        layer = subst (λ n. (n ≡ l) ⊎ ((passes (at s) l ≡ true) × (n ≡ across l))) layer_is where_;
        block = block;
        there = subst (λ n. is_there (at r) n ≡ true) layer_is three.1;
        named = subst (λ i. (reads i (at r).var.0 || writes i (at r).var.0) ≡ true) instr_is
            o.named;
        shared = subst (λ n. shares mask (allowed (at r) n) ≡ true) layer_is one.1;
      }
    where
      index_is : (j : ℕ) (c : Bool) → n ≡ side j c → (n ≡ l) ⊎
          ((passes (at s) l ≡ true) × (n ≡ across l)) → j ≡ k
      index_is j c at_n (inl same) = same_index j k c before (sym at_n ∙ same ∙ at_l)
      index_is j c at_n (inr beyond) = same_index j k c (not before)
          (sym at_n ∙ beyond.1 ∙ ap across at_l ∙ side_across k before)

  pub rival : (s l k : ℕ) (before : Bool) (i : VInstr) → l ≡ side k before →
      instr_at code (at s).block.0 k ≡ Some i → (r : ℕ) → r < length net.strands →
      is_rival net s l r ≡ true → IsRivalAt s l k i r
  rival s l k before i at_l is r r_lt competes =
      let mask = allowed (at s) l in
      let b = (at s).block.0 in
      let parts = and_parts (not (eqb r s))
      (contends net b l mask r || (passes (at s) l && contends net b (across l) mask r))
      competes in
      let other = eqb-false r s (not-true (eqb r s) parts.0) in
      elim (or_cases (contends net b l mask r) (passes (at s) l && contends net b (across l) mask r)
      parts.1) as (λ _. IsRivalAt s l k i r) [
        | inl here ↦ rival_beside s l k before i at_l is r r_lt other l (inl refl) here
        | inr beyond ↦
            let p = and_parts (passes (at s) l) (contends net b (across l) mask r) beyond in
            rival_beside s l k before i at_l is r r_lt other (across l) (inr (p.0, refl)) p.1
      ]
