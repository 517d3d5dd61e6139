-- To a strand of a built network lead no more ties than there are blocks.
use Rattle.std.proofs.Common.{ℕ, zero, suc, ◌≡◌, ◌≤◌, Bool, true, false, ◌&&◌, eqb, ltb}
use Rattle.std.proofs.Common.{List, length, get_or, count_by, refl, arith, inl, inr, ◌⊎◌}
use Rattle.std.proofs.lemmas.Bool.{and_parts, and_from, and_right, ltb-true, lt-ltb, le-ltb, eq-eqb}
use Rattle.std.proofs.lemmas.Bool.{cases_eq}
use Rattle.pra_list.proofs.Counts.{count-none}
use Rattle.net_form.specs.declared.net.Tie.{Tie}
use Rattle.net_form.specs.declared.net.Net.{Net}
use Rattle.net_form.specs.Admitted.{strand_at, no_strand}
use Rattle.net_laws.specs.Built.{IsBuilt, most_blocks}
use Rattle.net_laws.proofs.TieCounts.{count_either}

-- as many as there are keys, where each key has one
count_keys : {X : Type 0} (p : X → Bool) (key : X → ℕ) (xs : List X)
    → ((b : ℕ) → count_by (λ x. p x && eqb (key x) b) xs ≤ 1)
    → (n : ℕ) → count_by (λ x. p x && ltb (key x) n) xs ≤ n
count_keys p key xs one zero =
    let none = count-none (λ x. p x && ltb (key x) 0) xs (λ k d lt. and_right (p (get_or xs k d))
    (ltb (key (get_or xs k d)) 0) (le-ltb (key (get_or xs k d)) 0 (omega arith))) in
    omega (arith, none)
count_keys {X = X} p key xs one (suc n) =
    let more = count_keys p key xs one n in
    let here = one n in
    let either = count_either (λ x. p x && ltb (key x) (suc n)) (λ x. p x && ltb (key x) n)
    (λ x. p x && eqb (key x) n) xs (λ k d lt. split (get_or xs k d)) in
    omega (arith, more, here, either)
  where
    split : (x : X) → (p x && ltb (key x) (suc n)) ≡ true
        → ((p x && ltb (key x) n) ≡ true) ⊎ ((p x && eqb (key x) n) ≡ true)
    split x h =
        let parts = and_parts (p x) (ltb (key x) (suc n)) h in
        let lt = ltb-true (key x) (suc n) parts.1 in
        elim (cases_eq (key x) n)
        as (λ _. ((p x && ltb (key x) n) ≡ true) ⊎ ((p x && eqb (key x) n) ≡ true)) [
          | inl same ↦ inr (and_from (p x) (eqb (key x) n) parts.0 (eq-eqb (key x) n same))
          | inr other ↦ inl
              (and_from (p x) (ltb (key x) n) parts.0 (lt-ltb (key x) n (omega (arith, lt, other))))
        ]

-- ties that lead to the strand
abbrev pub leads_to_strand : ℕ → Tie → Bool
leads_to_strand s t = eqb t.to s

pub few_arrivals : (net : Net) → IsBuilt net → (s : ℕ)
    → count_by (leads_to_strand s) net.ties ≤ most_blocks
few_arrivals net built s =
    let few = count_keys (leads_to_strand s) (λ (t : Tie). (strand_at net t.from).block.0) net.ties
    (built.entries s) (length net.blocks) in
    let all = count_either (leads_to_strand s) (λ (t : Tie). leads_to_strand s t && ltb
    (strand_at net t.from).block.0 (length net.blocks)) (λ _. false) net.ties (λ k d lt h.
    let t : Tie = get_or net.ties k d in
    inl (and_from (eqb t.to s) (ltb (strand_at net t.from).block.0 (length net.blocks)) h
    (lt-ltb (strand_at net t.from).block.0 (length net.blocks)
    (built.formed.strands t.from no_strand (built.formed.ties k d lt)).block))) in
    let none = count-none (λ (t : Tie). false) net.ties (λ k d lt. refl) in
    let blocks = built.blocks in
    omega (arith, few, all, none, blocks)
