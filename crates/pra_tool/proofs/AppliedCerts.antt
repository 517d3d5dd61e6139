-- A certificate beside the code that it is applied to: codes one by one, routes that are given, and
-- what the image then carries.
use Rattle.std.proofs.Common.{◌≡◌, ℕ, zero, suc, List, [], ◌∷◌, length, Some, refl, sym, ap, ◌∙◌}
use Rattle.std.proofs.Common.{subst, arith, ap₂, take, ◌+◌}
use Rattle.std.specs.Prelude.{slice_get}
use Rattle.std.specs.Option.{option_map}
use Rattle.std.proofs.lemmas.Option.{slice_get-map}
use Rattle.pra_list.proofs.Options.{some_same, none_some}
use Rattle.pra_base.specs.declared.code.VProc.{VProc}
use Rattle.net_form.specs.declared.net.Net.{Net}
use Rattle.net_form.specs.declared.routes.Routes.{Routes}
use Rattle.cert_check.specs.declared.check.CertAnswer.TheVariants.{Yes}
use Rattle.cert_check.specs.declared.check.Reason.TheVariants.{Routes as Ways}
use Rattle.cert_check.specs.Reasons.{IsAnswerOf, AreBounded, HasRoutes, OnNet}
use Rattle.cert_form.specs.declared.certificate.Cert.{Cert}
use Rattle.cert_form.specs.declared.certificate.Certificate.{Certificate}
use Rattle.cert_form.specs.declared.codes.CodeFile.{CodeFile}
use Rattle.pra_compile.specs.Compiled.{IsBuiltBy, IsTooLong, codes_named}
use Rattle.pra_compile.specs.declared.given.GivenRoutes.{GivenRoutes}
use Rattle.pra_compile.specs.declared.output.Compiled.{Compiled}
use Rattle.pra_compile.specs.Given.{AdmitsGiven, IsOfGiven, given_by}
use Rattle.pra_compile.proofs.GivenLines.{given_totals}
use Rattle.pra_report.specs.declared.report.ProcOut.{ProcOut}
use Rattle.pra_report.specs.Report.{HaveTotals}
use Rattle.pra_tool.specs.declared.applied.Misapplied.TheVariants as misapplied
use Rattle.pra_tool.specs.Applied.{codes_by, codes_in, routes_of, routes_in, DifferFirst}
use Rattle.pra_tool.specs.Applied.{IsApplied, IsMisapplied}

-- two lists that are the same up to an element, which is the same, are the same up to the next one
same_next : {A : Type 0} (xs ys : List A) (n : ℕ) (x : A) → take n xs ≡ take n ys →
    slice_get xs n ≡ Some x → slice_get ys n ≡ Some x → take (suc n) xs ≡ take (suc n) ys
same_next [] ys n x e h k = absurd (none_some h)
same_next (a ∷ xs) [] n x e h k = absurd (none_some k)
same_next (a ∷ xs) (b ∷ ys) zero x e h k =
    ap (λ y. y ∷ []) (some_same a x h ∙ sym (some_same b x k))
same_next (a ∷ xs) (b ∷ ys) (suc n) x e h k =
    let first : a ≡ b = cc in
    let rest : take n xs ≡ take n ys = cc in
    ap₂ ◌∷◌ first (same_next xs ys n x rest h k)

one_more : (n : ℕ) → suc n ≡ n + 1
one_more n = omega arith

pub same_up_to : {A : Type 0} (xs ys : List A) (n : ℕ) (x : A) → take n xs ≡ take n ys →
    slice_get xs n ≡ Some x → slice_get ys n ≡ Some x → take (n + 1) xs ≡ take (n + 1) ys
same_up_to xs ys n x e h k =
    subst (λ (m : ℕ). take m xs ≡ take m ys) (one_more n) (same_next xs ys n x e h k)

-- the code of an entry
pub code_at : (certs : List Cert) (p : ℕ) (cert : Cert) → slice_get certs p ≡ Some cert →
    slice_get (codes_by certs) p ≡ Some cert.code
code_at certs p cert at =
    slice_get-map (λ (c : Cert). c.code) certs p ∙ ap (option_map (λ (c : Cert). c.code)) at

-- ---- routes that are given

entry_of : (certs : List Cert) (p : ℕ) (code : VProc) → slice_get (codes_by certs) p ≡ Some code →
    (cert : Cert) × (slice_get certs p ≡ Some cert) × (cert.code ≡ code)
entry_of [] p code at = absurd (none_some at)
entry_of (c ∷ certs) zero code at = (c, refl, some_same c.code code at)
entry_of (c ∷ certs) (suc p) code at = entry_of certs p code at

pub routes_at : (c : Certificate) (p : ℕ) (cert : Cert) → slice_get c.procs p ≡ Some cert →
    slice_get (routes_in c) p ≡ Some (routes_of cert)
routes_at c p cert at = slice_get-map routes_of c.procs p ∙ ap (option_map routes_of) at

admits_own : (c : Certificate) (p : ℕ) (cert : Cert) → slice_get c.procs p ≡ Some cert →
    OnNet cert.code (λ net. HasRoutes net cert.routes) → AdmitsGiven (routes_in c) p cert.code
admits_own c p cert at on = record {
  own = routes_of cert;
  there = routes_at c p cert at;
  net = on.net;
  admitted = record {
    is_net = on.is_net;
    are_routes = on.holds.places;
    admitted = on.holds.admitted;
  };
}

-- the network of each code admits the routes that are given for it, where no reason holds
pub all_admit : (c : Certificate) (codes : List VProc) → codes_in c ≡ codes → IsAnswerOf c Yes →
    (p : ℕ) (code : VProc) → slice_get codes p ≡ Some code → AdmitsGiven (routes_in c) p code
all_admit c codes same holds p code at =
    let entry = entry_of c.procs p code (ap (λ (xs : List VProc). slice_get xs p) same ∙ at) in
    subst (AdmitsGiven (routes_in c) p) entry.2
    (admits_own c p entry.0 entry.1 (holds p entry.0 entry.1 Ways))

-- ---- what is answered

pub applied_totals : (file : CodeFile) (c : Certificate) (compiled : Compiled) →
    IsApplied file c compiled → HaveTotals compiled.procs
applied_totals file c compiled is = given_totals file (routes_in c) compiled is.built

-- what was tested and compiled is applied
pub applied : (file : CodeFile) (c : Certificate) (compiled : Compiled) →
    codes_in c ≡ codes_named file.procs → IsAnswerOf c Yes → AreBounded c →
    IsBuiltBy file (given_by (routes_in c)) compiled → IsApplied file c compiled
applied file c compiled same holds bounded built =
    record { built = built; codes = same; holds = holds; bounded = bounded }

pub too_long_with : (file : CodeFile) (c : Certificate) (count : ℕ) →
    codes_in c ≡ codes_named file.procs → IsAnswerOf c Yes →
    IsTooLong file (given_by (routes_in c)) count → IsMisapplied file c (misapplied.TooLong count)
too_long_with file c count same holds long =
    record { codes = same; holds = holds; long = long }

pub other_code : (file : CodeFile) (c : Certificate) (p : ℕ) →
    length c.procs ≡ length file.procs → DifferFirst (codes_in c) (codes_named file.procs) p →
    IsMisapplied file c (misapplied.Module p)
other_code file c p count first = record { count = count; first = first }

-- ---- what the image carries of a procedure

module _ (file : CodeFile) (c : Certificate) (compiled : Compiled)
    (is : IsApplied file c compiled) (p : ℕ) (cert : Cert) (out : ProcOut)
    (at : slice_get c.procs p ≡ Some cert) (there : slice_get compiled.procs p ≡ Some out) where
  pub carried_code : out.code ≡ cert.code
  carried_code =
      let own = slice_get-map (λ (x : ProcOut). x.code) compiled.procs p
      ∙ ap (option_map (λ (x : ProcOut). x.code)) there in
      some_same out.code cert.code (sym own
      ∙ ap (λ (xs : List VProc). slice_get xs p) (is.built.placement.codes ∙ sym is.codes)
      ∙ code_at c.procs p cert at)

  module _ (left : IsOfGiven (routes_in c) p out.routes out.prices out.lines) where
    own_is : left.own ≡ routes_of cert
    own_is = some_same left.own (routes_of cert) (sym left.there ∙ routes_at c p cert at)

    pub carried_routes : out.routes ≡ cert.routes
    carried_routes = left.left.same ∙ ap (λ (g : GivenRoutes). g.routes) own_is
