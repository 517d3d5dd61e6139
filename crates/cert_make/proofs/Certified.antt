-- Procedures that are certified one after the other.
use Rattle.std.proofs.Common.{◌≡◌, ℕ, zero, suc, ◌+◌, List, [], ◌∷◌, ◌++◌, length, drop, Some}
use Rattle.std.proofs.Common.{refl, sym, ap, subst, ◌∙◌, arith}
use Rattle.std.specs.Prelude.{slice_get}
use Rattle.std.proofs.lemmas.List.{length_push}
use Rattle.pra_list.proofs.Options.{some_same, none_some}
use Rattle.pra_list.proofs.Elements.{left_begins}
use Rattle.pra_report.specs.declared.report.ProcOut.{ProcOut}
use Rattle.cert_form.specs.declared.certificate.Cert.{Cert}
use Rattle.cert_form.specs.declared.certificate.Certificate.{Certificate}
use Rattle.cert_form.specs.declared.certificate.CostWord.{CostWord}
use Rattle.cert_make.specs.Made.{IsCertOf, IsCertificateOf}

-- what stands at one number in both lists is related
abbrev Each : {X Y : Type 0} → (X → Y → Type 0) → List X → List Y → Type 0
Each {X} {Y} R xs ys =
    (k : ℕ) (x : X) (y : Y) → slice_get xs k ≡ Some x → slice_get ys k ≡ Some y → R x y

each_pushed : {X Y : Type 0} (R : X → Y → Type 0) (xs : List X) (ys : List Y) (x : X) (y : Y)
    → Each R xs ys → slice_get xs (length ys) ≡ Some x → R x y → Each R xs (ys ++ y ∷ [])
each_pushed R xs [] x y each there is zero a b e d =
    subst (λ a. R a b) (some_same x a (sym there ∙ e)) (subst (R x) (some_same y b d) is)
each_pushed R xs [] x y each there is (suc k) a b e d = cc
each_pushed R xs (z ∷ ys) x y each there is zero a b e d = each zero a b e d
each_pushed R [] (z ∷ ys) x y each there is (suc k) a b e d = cc
each_pushed R (w ∷ xs) (z ∷ ys) x y each there is (suc k) a b e d =
    each_pushed R xs ys x y (λ k a b e d. each (suc k) a b e d) there is k a b e d

-- certificates of the first procedures, and the procedures that are left
pub record AreCertified (procs : List ProcOut) (certs : List Cert) (left : List ProcOut) : Type 0
  where
    pub rest : drop (length certs) procs ≡ left
    pub each : (p : ℕ) (out : ProcOut) (cert : Cert) → slice_get procs p ≡ Some out
        → slice_get certs p ≡ Some cert → IsCertOf out cert
    pub count : length certs + length left ≡ length procs

pub none_certified : (procs : List ProcOut) → AreCertified procs [] procs
none_certified procs = record {
  rest = refl;
  each = λ p out cert e d. absurd (none_some d);
  count = omega arith;
}

pub one_more : (procs : List ProcOut) (certs : List Cert) (out : ProcOut) (left : List ProcOut)
    (cert : Cert) → AreCertified procs certs (out ∷ left) → IsCertOf out cert
    → AreCertified procs (certs ++ cert ∷ []) left
one_more procs certs out left cert are is =
    let long = length_push certs cert in
    let count = are.count in
    let begins = left_begins procs left (length certs) out are.rest in
    let next : suc (length certs) ≡ length (certs ++ cert ∷ []) = omega (arith, long) in
    record {
      rest = subst (λ n. drop n procs ≡ left) next begins.1;
      each = each_pushed IsCertOf procs certs out cert are.each begins.0 is;
      count = omega (arith, long, count);
    }

-- none is left
pub all_certified : (word : CostWord) (procs left : List ProcOut) (certs : List Cert)
    (c : Certificate) → c.cost ≡ word → c.procs ≡ certs → length left ≡ 0
    → AreCertified procs certs left → IsCertificateOf word procs c
all_certified word procs left certs c cost is none are =
    let count = are.count in
    let long = ap length is in
    record {
      cost = cost;
      count = omega (arith, long, none, count);
      each = λ p out cert e d.
          are.each p out cert e (subst (λ certs. slice_get certs p ≡ Some cert) is d);
    }
