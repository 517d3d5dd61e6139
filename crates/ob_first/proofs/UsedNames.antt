-- Names that are used.
use Rattle.std.proofs.Common.{◌≡◌, ℕ, ◌+◌, ◌≤◌, ◌⊎◌, inl, inr, Option, Some, None, refl, ap, sym}
use Rattle.std.proofs.Common.{◌∙◌, arith}
use Rattle.std.specs.Prelude.{Ok, Err}
use Rattle.ob_syntax.specs.declared.checked.Meaning.{Meaning}
use Rattle.ob_syntax.specs.declared.checked.Meaning.TheVariants.{Variable}
use Rattle.ob_syntax.specs.Names.{Fault, Judged, Place, meaning, name_at, used, known, reached}
use Rattle.ob_syntax.specs.Names.{is_within_reach}
use Rattle.ob_first.specs.Faults.{NameFails}
use Rattle.ob_first.proofs.Leads.{told, Leads, told_err, err_first}
use Rattle.pra_list.proofs.Choices.{by_test}
use Rattle.pra_list.specs.Results.{◌>>=◌}

abbrev failed : Fault → Judged Meaning
failed f = Err f

-- a name that is used has this meaning
reached_ok : (p : Place) (k : ℕ) (m n : Meaning) → reached p k m ≡ Ok n → m ≡ n
reached_ok p k (Variable owner root type_id) n h = by_test (is_within_reach p owner root) (Ok _)
    (Err (6, k)) (Ok n) (λ t is. cc) (λ t is. cc) h
reached_ok p k m n h = cc

reached_err : (p : Place) (k : ℕ) (m : Meaning) (f : Fault) → reached p k m ≡ Err f → (f.1 ≡ k) ×
    (f.0 ≤ 6)
reached_err p k (Variable owner root type_id) f h =
    by_test (is_within_reach p owner root) (Ok _) (Err (6, k)) (Err f) (λ t is. absurd (cc))
    (λ t is. fault_is f is) h
  where
    fault_is : (f : Fault) → failed (6, k) ≡ Err f → (f.1 ≡ k) × (f.0 ≤ 6)
    fault_is f is = let one : f.1 ≡ k = cc in let rule : f.0 ≡ 6 = cc in (one, omega (arith, rule))
reached_err p k m f h = absurd (cc)

pub used_ok : (p : Place) (k : ℕ) (o : Option Meaning) (m : Meaning) → known p k o ≡ Ok m →
    o ≡ Some m
used_ok p k (Some n) m h = ap Some (reached_ok p k n m h)
used_ok p k None m h = absurd (cc)

pub used_err : (p : Place) (k : ℕ) (o : Option Meaning) (f : Fault) → known p k o ≡ Err f →
    (f.1 ≡ k) × (f.0 ≤ 6)
used_err p k (Some n) f h = reached_err p k n f h
used_err p k None f h = let one : f.1 ≡ k = cc in let rule : f.0 ≡ 5 = cc in
    (one, omega (arith, rule))

-- a name, and the test of what it means
named_by : {A : Type 0} (k : ℕ) (o : Option Meaning) (r : Judged Meaning)
    (kind : Meaning → Judged A) →
    ((m : Meaning) (f : Fault) → kind m ≡ Err f → (f.1 ≡ k) × (6 ≤ f.0))
    → ((m : Meaning) → r ≡ Ok m → o ≡ Some m) → ((f : Fault) → r ≡ Err f → (f.1 ≡ k) × (f.0 ≤ 6))
    → Leads k (k + 1) (told (r >>= kind))
    (λ f. (r ≡ Err f) ⊎ ((m : Meaning) × (o ≡ Some m) × (kind m ≡ Err f)))
named_by k o (Ok m) kind at is no_ = record {
  tells = λ f e. inr (m, is m refl, told_err (kind m) f e);
  first = λ f. elim [
    | inl e ↦ absurd (cc)
    | inr (n, is', fails) ↦ let same : m ≡ n = some_is m n (is m refl) is' in
        err_first (kind m) f (ap kind same ∙ fails)
  ];
  lies = λ f. elim [
    | inl e ↦ absurd (cc)
    | inr (n, is', fails) ↦ let there = at n f fails in
        (omega (arith, there.0), omega (arith, there.0))
  ];
}
  where
    some_is : (m n : Meaning) → o ≡ Some m → o ≡ Some n → m ≡ n
    some_is m n e e' = cc
named_by k o (Err g) kind at is no_ = record {
  tells = λ f e. inl (err_same g f e);
  first = λ f. elim [
    | inl e ↦ err_first (failed g) f e
    | inr (n, is', fails) ↦ let here = no_ g refl in let there = at n f fails in
        inr (here.0 ∙ sym there.0, omega (arith, here.1, there.1))
  ];
  lies = λ f. elim [
    | inl e ↦ let there = no_ f e in (omega (arith, there.0), omega (arith, there.0))
    | inr (n, is', fails) ↦ let there = at n f fails in
        (omega (arith, there.0), omega (arith, there.0))
  ];
}
  where
    err_same : (g f : Fault) → Some g ≡ Some f → failed g ≡ Err f
    err_same g f e = cc

pub named : {A : Type 0} (p : Place) (k : ℕ) (kind : Meaning → Judged A) →
    ((m : Meaning) (f : Fault) → kind m ≡ Err f → (f.1 ≡ k) × (6 ≤ f.0))
    → Leads k (k + 1) (told (used p k >>= kind)) (NameFails p k kind)
named p k kind at =
    named_by k (meaning p (name_at p k)) (used p k) kind at
    (λ m. used_ok p k (meaning p (name_at p k)) m) (λ f. used_err p k (meaning p (name_at p k)) f)
