-- Who is at an exit, or is tied to it, is no constant, so memory is in its mask at the block's
-- entry and exit.
use Rattle.std.proofs.Common.{ℕ, ◌≡◌, ◌+◌, ◌*◌, ◌%◌, ◌<◌, ◌≤◌, true, false, not, ◌&&◌, ◌||◌, cond}
use Rattle.std.proofs.Common.{leb, length, Option, Some, None, refl, sym, ap, ◌∙◌, subst, arith}
use Rattle.std.proofs.Common.{inl, inr}
use Rattle.std.specs.Prelude.{IsTrue}
use Rattle.std.specs.List.{list_any}
use Rattle.std.proofs.lemmas.Bool.{cases_Bool, and_from, eq-eqb, le-leb, false≢true}
use Rattle.pra_list.proofs.Truths.{or_none}
use Rattle.pra_base.specs.declared.code.VarKind.{VarKind}
use Rattle.pra_base.specs.declared.code.VarKind.TheVariants.{Param, Plain, Constant}
use Rattle.pra_base.specs.declared.code.VInstr.{VInstr}
use Rattle.pra_base.specs.declared.code.VProc.{VProc}
use Rattle.pra_base.specs.declared.ids.Place.TheVariants.{Mem, Const}
use Rattle.pra_base.specs.Code.{kind_of, instr_at, code_of}
use Rattle.pra_base.specs.Live.{LiveAs, BetweenReads, passes}
use Rattle.pra_base.specs.Operands.{reads, is_role_of}
use Rattle.pra_base.specs.Places.{number, allows, meet}
use Rattle.net_form.specs.declared.net.Strand.{Strand}
use Rattle.net_form.specs.declared.net.Net.{Net}
use Rattle.net_form.specs.Admitted.{strand_at, no_strand}
use Rattle.net_form.specs.Groups.{IsLeastEnd}
use Rattle.net_form.specs.Network.{ties, net_of}
use Rattle.net_form.specs.Strands.{Lives, IsLive, across, is_before, is_present, is_constant}
use Rattle.net_form.specs.Strands.{exit_layer, roles_at, strands}
use Rattle.net_form.specs.Tables.{all_tables}
use Rattle.net_laws.specs.Homes.{has_home, is_there, mask_in, allowed, passes as passes_across}
use Rattle.net_laws.proofs.Bits.{met_allows}
use Rattle.net_laws.proofs.Homes.{IsBesideOperand, away}
use Rattle.net_laws.proofs.Present.{instr_within}
use Rattle.net_laws.proofs.Runs.{IsRun, net_runs}
use Rattle.net_laws.proofs.Sides.{side_some, same_index}
use Rattle.net_laws.proofs.GroupsBuilt.{entry_facts, exit_facts, entry_tie}

module _ (code : VProc) (live : Lives) (is_live : IsLive code live) where
  -- a constant is live up to its last read, which is no exit
  ends_sooner : (v b : ℕ) → BetweenReads code v b (exit_layer code b) → ⊥
  ends_sooner v b between = by (instr_at code b between.last) refl
    where
      by : (o : Option VInstr) → instr_at code b between.last ≡ o → ⊥
      by None is = false≢true (sym (ap (passes (λ i. reads i v)) is) ∙ between.reads_last)
      by (Some i) is =
          let lt = instr_within code b between.last i is in
          let to = between.to in
          omega (arith, lt, to)

  unconstant : (v b : ℕ) (kind : VarKind) → LiveAs kind code v b (exit_layer code b)
      → is_constant kind ≡ false
  unconstant v b (Constant n) is = absurd (ends_sooner v b is)
  unconstant v b Plain is = refl
  unconstant v b (Param i) is = refl

  -- at the exit only who is live is present
  present_live : (v b : ℕ) → is_present all_tables code live v b (exit_layer code b) ≡ true
      → live v b (exit_layer code b) ≡ true
  present_live v b here =
      let odd : is_before (exit_layer code b) ≡ true = eq-eqb
      ((2 * length (code_of code b) + 1) % 2) 1 (omega arith) in
      sym (or_none (live v b (exit_layer code b)))
      ∙ ap (λ t. live v b (exit_layer code b) || (not t && list_any (is_role_of v)
      (roles_at all_tables code b (exit_layer code b)))) (sym odd)
      ∙ here

  module _ (least : ℕ → ℕ) (are : (e : ℕ)
      → IsLeastEnd (ties code (strands all_tables code live)) e (least e)) where
    abbrev n : Net
    n = net_of all_tables code live least

    abbrev at : ℕ → Strand
    at s = strand_at n s

    run_of : (s : ℕ) → s < length n.strands → IsRun code live (at s)
    run_of s lt = net_runs code live (ties code (strands all_tables code live)) least s no_strand lt

    at_exit : (s : ℕ) → s < length n.strands → (at s).last ≡ exit_layer code (at s).block.0
        → is_constant (kind_of code (at s).var.0) ≡ false
    at_exit s lt last =
        let run = run_of s lt in
        let here = run.present (at s).last run.order (omega arith) in
        let is = present_live (at s).var.0 (at s).block.0
        (subst (λ l. is_present all_tables code live (at s).var.0 (at s).block.0 l ≡ true) last
        here) in
        unconstant (at s).var.0 (at s).block.0 (kind_of code (at s).var.0)
        ((is_live (at s).var.0 (at s).block.0 (exit_layer code (at s).block.0)).0 is).1

    -- home is memory, and it is in the mask
    home_memory : (s l : ℕ) → (at s).constant ≡ false → has_home (at s) l ≡ true
        → IsTrue (allows (mask_in (at s) l) (number Mem))
    home_memory s l plain home = in_mask
        (sym (ap (λ c. allows (allowed (at s) l) (number (cond c Const Mem))) plain) ∙ home)
      where
        in_mask : allows (allowed (at s) l) 6 ≡ true → allows (mask_in (at s) l) 6 ≡ true
        in_mask h = elim (cases_Bool (passes_across (at s) l))
            as (λ _. allows (mask_in (at s) l) 6 ≡ true) [
              | inl is ↦ (met_allows (mask_in (at s) l) (mask_in (at s) (across l)) 6
                  (sym (ap (λ x. allows (cond x
                  (meet (mask_in (at s) l) (mask_in (at s) (across l))) (mask_in (at s) l)) 6) is)
                  ∙ h)).0
              | inr no_ ↦
                  sym (ap (λ x. allows (cond x (meet (mask_in (at s) l) (mask_in (at s) (across l)))
                  (mask_in (at s) l)) 6) no_) ∙ h
            ]

    there : (s l : ℕ) → (at s).first ≤ l → l ≤ (at s).last → is_there (at s) l ≡ true
    there s l low high = and_from (leb (at s).first l) (leb l (at s).last)
        (le-leb (at s).first l low) (le-leb l (at s).last high)

    home_by : (s l : ℕ) (lt : s < length n.strands) → (at s).first ≤ l → l ≤ (at s).last
        → (IsBesideOperand code live (at s) (run_of s lt) l → ⊥) → has_home (at s) l ≡ true
    home_by s l lt low high none = elim (cases_Bool (has_home (at s) l))
        as (λ _. has_home (at s) l ≡ true) [
          | inl is ↦ is
          | inr no_ ↦ absurd (none (away code live (at s) (run_of s lt) l (there s l low high) no_))
        ]

    pub exit_memory : (s g : ℕ) → s < length n.strands → (at s).exit_group ≡ Some g
        → IsTrue (allows (mask_in (at s) (at s).last) (number Mem))
    exit_memory s g lt is =
        let last = (exit_facts code live least are s g lt is).1 in
        let run = run_of s lt in
        home_memory s (at s).last (run.constant ∙ at_exit s lt last)
        (home_by s (at s).last lt run.order (omega arith) (λ o.
        let in_ = instr_within code (at s).block.0 o.index o.instr o.is in
        let e = same_index o.index (length (code_of code (at s).block.0)) o.before true (sym o.at
        ∙ last) in
        omega (arith, in_, e)))

    pub entry_memory : (s g : ℕ) → s < length n.strands → (at s).entry_group ≡ Some g
        → IsTrue (allows (mask_in (at s) (at s).first) (number Mem))
    entry_memory s g lt is =
        let first = (entry_facts code live least are s g lt is).1 in
        let run = run_of s lt in
        let e = entry_tie code live least are s g lt is in
        let plain = at_exit e.tie.from e.join.from e.join.last in
        home_memory s (at s).first
        (run.constant ∙ ap (λ v. is_constant (kind_of code v))
        (sym (e.join.var ∙ ap (λ k. (at k).var.0) e.to_it)) ∙ plain)
        (home_by s (at s).first lt (omega arith) run.order (λ o.
        let some = side_some o.index o.before in
        let e = o.at in
        omega (arith, some, e, first)))
