-- Edges that use nothing which is in use.
use Rattle.std.proofs.Common.{ℕ, ◌≡◌, ◌<◌, Bool, true, false, ◌&&◌, ◌||◌, not, cond, eqb, List}
use Rattle.std.proofs.Common.{length, get_or, All, refl, sym, ap, ◌∙◌, inl, inr, arith, zero-add}
use Rattle.std.specs.List.{enumerate_from}
use Rattle.std.proofs.lemmas.Bool.{cases_Bool, eqb-true, eq-eqb, false≢true, and_left, and_right}
use Rattle.std.proofs.lemmas.Bool.{and_from}
use Rattle.std.proofs.lemmas.List.{get_or_default}
use Rattle.std.proofs.lemmas.List.FromFn.{get_or-enumerate_from, length-enumerate_from}
use Rattle.pra_list.proofs.Counts.{bit, count-none, none-count}
use Rattle.pra_base.specs.Places.{number, has_register, register_of}
use Rattle.net_form.specs.declared.net.MemPair.{MemPair}
use Rattle.net_form.specs.declared.net.Net.{Net}
use Rattle.net_form.specs.declared.taken.Taken.{Taken}
use Rattle.net_form.specs.Admitted.{layer_of, uses_memory}
use Rattle.net_form.specs.Flow.{Edge}
use Rattle.net_form.specs.InUse.{mark, pair_mark, pair_at, no_pair, UsesNothing}
use Rattle.net_path.specs.Grounds.{register_free, pairs_free, pairs_in_use, is_free}

-- ---- registers

free_of : (b : Bool) (m : ℕ) → (b ≡ true → m ≡ 0) → (not b || eqb m 0) ≡ true
free_of true m h = eq-eqb m 0 (h refl)
free_of false m h = refl

of_free : (b : Bool) (m : ℕ) → (not b || eqb m 0) ≡ true → b ≡ true → m ≡ 0
of_free true m h e = eqb-true m 0 h
of_free false m h e = absurd (false≢true e)

-- ---- memory pairs

module _ (net : Net) (taken : Taken) (e : Edge) where
  abbrev in_use : ℕ × MemPair → Bool
  in_use m = uses_memory m.1 e && get_or taken.mems m.0 false

  numbered : (k : ℕ) (d : ℕ × MemPair)
      → k < length net.pairs → in_use (get_or (enumerate_from 0 net.pairs) k d)
      ≡ (uses_memory (pair_at net k) e && get_or taken.mems k false)
  numbered k d lt = ap in_use (get_or-enumerate_from 0 net.pairs k d lt)
      ∙ ap (λ (j : ℕ). uses_memory (get_or net.pairs k d.1) e && get_or taken.mems j false)
      (zero-add k)
      ∙ ap (λ (m : MemPair). uses_memory m e && get_or taken.mems k false)
      (get_or_default net.pairs k d.1 no_pair lt)

  mark_none : (b : Bool) → bit b ≡ 0 → b ≡ false
  mark_none true h = absurd (omega (arith, h))
  mark_none false h = refl

  pub to_pairs_free : ((k : ℕ) → k < length net.pairs → uses_memory (pair_at net k) e ≡ true
      → pair_mark taken.mems k ≡ 0) → pairs_free net taken e ≡ true
  to_pairs_free unused =
      eq-eqb (pairs_in_use net taken e) 0 (count-none in_use (enumerate_from 0 net.pairs) (λ k d lt.
      let inside : k < length net.pairs = omega (arith, lt, length-enumerate_from 0 net.pairs) in
      numbered k d inside ∙ elim (cases_Bool (uses_memory (pair_at net k) e))
      as (λ _. (uses_memory (pair_at net k) e && get_or taken.mems k false) ≡ false) [
        | inl is ↦ and_right (uses_memory (pair_at net k) e) (get_or taken.mems k false)
            (mark_none (get_or taken.mems k false) (unused k inside is))
        | inr is ↦ and_left (uses_memory (pair_at net k) e) (get_or taken.mems k false) is
      ]))

  pub of_pairs_free : pairs_free net taken e ≡ true → (k : ℕ) → k < length net.pairs
      → uses_memory (pair_at net k) e ≡ true → pair_mark taken.mems k ≡ 0
  of_pairs_free free k lt uses =
      let none = none-count in_use (enumerate_from 0 net.pairs) (eqb-true (pairs_in_use net taken e)
      0 free) k (0, no_pair) (omega (arith, lt, length-enumerate_from 0 net.pairs)) in
      let is = sym (numbered k (0, no_pair) lt) ∙ none in
      elim (cases_Bool (get_or taken.mems k false)) as (λ _. pair_mark taken.mems k ≡ 0) [
        | inl used ↦ absurd (false≢true (sym is
            ∙ and_from (uses_memory (pair_at net k) e) (get_or taken.mems k false) uses used))
        | inr unused ↦
            let z : pair_mark taken.mems k ≡ cond false 1 0 = ap (λ (b : Bool). bit b) unused in z
      ]

-- ---- both

pub to_free : (net : Net) (taken : Taken) (f : List Edge) → UsesNothing net taken f
    → All (λ e. is_free net taken e ≡ true) f
to_free net taken f unused = λ k d lt.
    let e : Edge = get_or f k d in
    and_from (register_free net taken e) (pairs_free net taken e)
    (free_of (has_register (number e.to))
    (mark taken.regs (layer_of net e) (register_of (number e.to))) (unused.registers k d lt))
    (to_pairs_free net taken e (λ j in_ uses. unused.pairs j in_ k d lt uses))

left_of : (a b : Bool) → (a && b) ≡ true → a ≡ true
left_of true b h = refl
left_of false b h = h

right_of : (a b : Bool) → (a && b) ≡ true → b ≡ true
right_of true b h = h
right_of false b h = absurd (false≢true h)

pub from_free : (net : Net) (taken : Taken) (f : List Edge)
    → All (λ e. is_free net taken e ≡ true) f → UsesNothing net taken f
from_free net taken f free = record {
  registers = λ k d lt.
      let e : Edge = get_or f k d in
      of_free (has_register (number e.to))
      (mark taken.regs (layer_of net e) (register_of (number e.to)))
      (left_of (register_free net taken e) (pairs_free net taken e) (free k d lt));
  pairs = λ j in_ k d lt uses. let e : Edge = get_or f k d in of_pairs_free net taken e
      (right_of (register_free net taken e) (pairs_free net taken e) (free k d lt)) j in_ uses;
}
