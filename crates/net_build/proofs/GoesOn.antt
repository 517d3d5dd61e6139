-- Which strands go on a variable behind a block's end.
use Rattle.std.proofs.Common.{ℕ, ◌≡◌, ◌<◌, ◌⊎◌, inl, inr, Bool, true, false, ◌&&◌, ◌||◌, eqb, cond}
use Rattle.std.proofs.Common.{List, [], ◌∷◌, length, get_or, Some, None, Option, refl, sym, ap, ◌∙◌}
use Rattle.std.proofs.Common.{true≢false}
use Rattle.std.specs.List.{filter_map, cons_option, enumerate_from, range_with_len}
use Rattle.std.proofs.lemmas.Bool.{and_parts, eqb-true, eq-eqb, ne_eqb, cases_Bool}
use Rattle.std.proofs.lemmas.Bool.{false_from_ne_true}
use Rattle.pra_base.specs.declared.code.VProc.{VProc}
use Rattle.pra_base.specs.Code.{end_of}
use Rattle.net_form.specs.Strands.{exit_layer}
use Rattle.pra_base.specs.declared.ids.BlockId.{BlockId}
use Rattle.pra_base.specs.declared.ids.Cond.{Cond}
use Rattle.pra_base.specs.declared.code.End.{End}
use Rattle.pra_base.specs.declared.code.End.TheVariants.{Jump, Branch, Return}
use Rattle.net_form.specs.declared.net.Strand.{Strand}
use Rattle.net_form.specs.declared.net.Tie.{Tie}
use Rattle.net_form.specs.Admitted.{no_strand}
use Rattle.net_form.specs.Network.{leads_to, ties_from}
use Rattle.net_build.proofs.Comprehended.{filter_map-map, by_number}
use Rattle.net_build.specs.Order.{key_of, goes_on, tie_to}

leads_jump : (end : End) (b : BlockId) (x : ℕ) → end ≡ Jump b → leads_to end x ≡ true → x ≡ b.0
leads_jump end b x is leads = sym (eqb-true b.0 x (sym (ap (λ e. leads_to e x) is) ∙ leads))

leads_branch : (end : End) (c : Cond) (a b : BlockId) (x : ℕ) → end ≡ Branch c a b →
    leads_to end x ≡ true → (x ≡ a.0) ⊎ (x ≡ b.0)
leads_branch end c a b x is leads = by (cases_Bool (eqb a.0 x)) (cases_Bool (eqb b.0 x))
    (sym (ap (λ e. leads_to e x) is) ∙ leads)
  where
    by : (eqb a.0 x ≡ true) ⊎ (eqb a.0 x ≡ false) → (eqb b.0 x ≡ true) ⊎ (eqb b.0 x ≡ false) →
        (eqb a.0 x || eqb b.0 x) ≡ true → (x ≡ a.0) ⊎ (x ≡ b.0)
    by (inl one) other any = inl (sym (eqb-true a.0 x one))
    by (inr no_) (inl two) any = inr (sym (eqb-true b.0 x two))
    by (inr no_) (inr none) any =
        absurd (true≢false (sym any ∙ ap (λ t. t || eqb b.0 x) no_ ∙ none))

leads_nowhere : (end : End) (x : ℕ) → end ≡ Return → leads_to end x ≡ true → ⊥
leads_nowhere end x is leads = true≢false (sym leads ∙ ap (λ e. leads_to e x) is)

-- what a strand that goes on the variable is
record GoesOn (end : End) (v : ℕ) (t : Strand) : Type 0 where
  first : t.first ≡ 0
  var : t.var.0 ≡ v
  leads : leads_to end t.block.0 ≡ true

goes : (end : End) (v : ℕ) (t : Strand) → goes_on end v t ≡ true → GoesOn end v t
goes end v t is =
    let one = and_parts (eqb t.first 0 && eqb v t.var.0) (leads_to end t.block.0) is in
    let two = and_parts (eqb t.first 0) (eqb v t.var.0) one.0 in
    record { first = eqb-true t.first 0 two.0; var = sym (eqb-true v t.var.0 two.1); leads = one.1 }

key_is : (t : Strand) (b v : ℕ) → t.block.0 ≡ b → t.first ≡ 0 → t.var.0 ≡ v → key_of t ≡ (b, 0, v)
key_is t b v p q r = λ i. (p i, q i, r i)

module _ (ss : List Strand) (v k : ℕ) (lt : k < length ss) where
  -- where there is one strand at most at the place of the variable at each block's entry
  abbrev Only : ℕ → ℕ → Type 0
  Only b entry = (k : ℕ) (d : Strand) → k < length ss → key_of (get_or ss k d) ≡ (b, 0, v) →
      entry ≡ k

  pub not_jump : (end : End) (b : BlockId) (entry : ℕ) → end ≡ Jump b → Only b.0 entry →
      (entry ≡ k → ⊥) → goes_on end v (get_or ss k no_strand) ≡ false
  not_jump end b entry is only other = false_from_ne_true (goes_on end v (get_or ss k no_strand))
      (λ on.
      let t = get_or ss k no_strand in
      let g = goes end v t on in
      other (only k no_strand lt
      (key_is t b.0 v (leads_jump end b t.block.0 is g.leads) g.first g.var)))

  pub not_branch : (end : End) (c : Cond) (a b : BlockId) (one two : ℕ) → end ≡ Branch c a b →
      Only a.0 one → Only b.0 two → (one ≡ k → ⊥) → (two ≡ k → ⊥)
      → goes_on end v (get_or ss k no_strand) ≡ false
  not_branch end c a b one two is only_one only_two not_one not_two =
      false_from_ne_true (goes_on end v (get_or ss k no_strand)) (λ on.
      let t = get_or ss k no_strand in
      let g = goes end v t on in
      elim (leads_branch end c a b t.block.0 is g.leads) as (λ _. ⊥) [
        | inl p ↦ not_one (only_one k no_strand lt (key_is t a.0 v p g.first g.var))
        | inr q ↦ not_two (only_two k no_strand lt (key_is t b.0 v q g.first g.var))
      ])

  pub not_return : (end : End) → end ≡ Return → goes_on end v (get_or ss k no_strand) ≡ false
  not_return end is = false_from_ne_true (goes_on end v (get_or ss k no_strand)) (λ on.
      let t = get_or ss k no_strand in leads_nowhere end t.block.0 is (goes end v t on).leads)

pub no_tie : (ss : List Strand) (end : End) (v from k : ℕ) → goes_on end v (get_or ss k no_strand) ≡
    false → tie_to ss end v from k ≡ None
no_tie ss end v from k is = ap (λ b. cond b (Some (record { from = from; to = k })) None) is

-- ---- the ties from a strand

filter_map-none : {X Y : Type 0} (h : X → Option Y) → ((x : X) → h x ≡ None) → (xs : List X) →
    filter_map h xs ≡ []
filter_map-none h none [] = refl
filter_map-none h none (x ∷ xs) = ap (λ o. cons_option o (filter_map h xs)) (none x)
    ∙ filter_map-none h none xs

module _ (code : VProc) (ss : List Strand) (n : ℕ) (s : Strand) where
  abbrev tie_if : Bool → ℕ × Strand → Option Tie
  tie_if a t = cond (a && eqb t.1.first 0 && eqb s.var.0 t.1.var.0 && leads_to
      (end_of code s.block.0) t.1.block.0) (Some (record { from = n; to = t.0 })) None

  pub at_exit : s.last ≡ exit_layer code s.block.0 → ties_from code ss (n, s) ≡
      filter_map (tie_to ss (end_of code s.block.0) s.var.0 n) (range_with_len 0 (length ss))
  at_exit is =
      ap (λ a. filter_map (tie_if a) (enumerate_from 0 ss))
      (eq-eqb s.last (exit_layer code s.block.0) is)
      ∙ ap (filter_map (tie_if true)) (by_number no_strand ss)
      ∙ filter_map-map (tie_if true) (λ k. (k, get_or ss k no_strand))
      (range_with_len 0 (length ss))

  pub elsewhere : (s.last ≡ exit_layer code s.block.0 → ⊥) → ties_from code ss (n, s) ≡ []
  elsewhere other =
      ap (λ a. filter_map (tie_if a) (enumerate_from 0 ss))
      (ne_eqb s.last (exit_layer code s.block.0) other)
      ∙ filter_map-none (tie_if false) (λ x. refl) (enumerate_from 0 ss)
