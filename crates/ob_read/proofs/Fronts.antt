-- Where tokens stop is one place, and none where they are a module.
use Rattle.std.proofs.Common.{◌≡◌, ℕ, ◌+◌, ◌<◌, ◌≤◌, List, ◌++◌, length, take, drop, ⊎_elim, sym}
use Rattle.std.proofs.Common.{◌∙◌, subst, arith, append_assoc}
use Rattle.std.proofs.lemmas.List.{take-append-drop, take-append-le, length-take-le}
use Rattle.std.proofs.lemmas.Bool.{cases_order}
use Rattle.std.proofs.Math.Nat.{eq-or-lt_of_le}
use Rattle.ob_syntax.specs.declared.token.Kind.{Kind}
use Rattle.ob_syntax.specs.Whole.{most_nesting, IsModule, IsFront, IsPlace, StopsAt, DeepensAt}

-- a front of a front is one
front_less : (room i j : ℕ) (ks : List Kind) → i ≤ j → j ≤ length ks →
    IsFront room (take j ks) → IsFront room (take i ks)
front_less room i j ks less within (more, whole) =
    let long : i ≤ length (take j ks) = omega (arith, length-take-le j ks within, less) in
    let same : take i ks ≡ take i (take j ks) = (λ k. take i (sym (take-append-drop j ks) k)) ∙
    take-append-le i (take j ks) (drop j ks) long in
    let all : take i ks ++ (drop i (take j ks) ++ more) ≡ take j ks ++ more =
    (λ k. same k ++ (drop i (take j ks) ++ more)) ∙
    sym (append_assoc (take i (take j ks)) (drop i (take j ks)) more) ∙
    (λ k. take-append-drop i (take j ks) k ++ more) in
    (drop i (take j ks) ++ more, subst (IsModule room) (sym all) whole)

front_whole : (room i : ℕ) (ks : List Kind) → IsModule room ks → IsFront room (take i ks)
front_whole room i ks whole =
    (drop i ks, subst (IsModule room) (sym (take-append-drop i ks)) whole)

no_later : (room k l : ℕ) (ks : List Kind) → IsPlace room ks k → IsPlace room ks l → k < l → ⊥
no_later room k l ks p q less =
    p.longest (omega (arith, less, q.within))
    (front_less room (k + 1) l ks (omega (arith, less)) q.within q.front)

pub one_place : (room k l : ℕ) (ks : List Kind) → IsPlace room ks k → IsPlace room ks l → k ≡ l
one_place room k l ks p q =
    ⊎_elim (λ same. same) (λ other. ⊎_elim
    (λ less. absurd (no_later room k l ks p q less))
    (λ less. absurd (no_later room l k ks q p less)) other) (cases_order k l)

pub no_place : (room k : ℕ) (ks : List Kind) → IsModule room ks → IsPlace room ks k → ⊥
no_place room k ks whole p =
    ⊎_elim (λ all. p.no_module all whole)
    (λ less. p.longest less (front_whole room (k + 1) ks whole)) (eq-or-lt_of_le p.within)

-- tokens that stop do not nest too deep
pub stops_or_deepens : (ks : List Kind) (k l : ℕ) → StopsAt ks k → DeepensAt ks l → ⊥
stops_or_deepens ks k l s d =
    let e = subst (DeepensAt ks) (one_place most_nesting l k ks d.place s.place) d in
    s.none e.deeper.0 e.within e.deeper.1
