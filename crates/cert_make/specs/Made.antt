-- The certificate of what a module is compiled to.
use Rattle.std.specs.Prelude.{◌≡◌, ℕ, zero, suc, ℤ, pos, List, [], ◌∷◌, length, slice_get, Some}
use Rattle.pra_report.specs.declared.report.ProcOut.{ProcOut}
use Rattle.pra_report.specs.Report.{last_cost, last_bound}
use Rattle.cert_form.specs.declared.certificate.CapAt.{CapAt}
use Rattle.cert_form.specs.declared.certificate.TieAt.{TieAt}
use Rattle.cert_form.specs.declared.certificate.Cert.{Cert}
use Rattle.cert_form.specs.declared.certificate.Certificate.{Certificate}
use Rattle.cert_form.specs.declared.certificate.CostWord.{CostWord}

-- An entry for each price that is not 0; the first price has this index.
abbrev pub caps_from : ℕ → List ℕ → List CapAt
caps_from at [] = []
caps_from at (zero ∷ prices) = caps_from (suc at) prices
caps_from at (price ∷ prices) = record { at = at; price = price } ∷ caps_from (suc at) prices

-- the same of the numbers of ties
abbrev pub numbers_from : ℕ → List ℤ → List TieAt
numbers_from at [] = []
numbers_from at (pos zero ∷ numbers) = numbers_from (suc at) numbers
numbers_from at (number ∷ numbers) =
    record { at = at; number = number } ∷ numbers_from (suc at) numbers

-- What is certified of a procedure: its code, the routes that the image carries, the prices of the
-- last bound, and the cost and the bound of the last line.
pub record IsCertOf (out : ProcOut) (cert : Cert) : Type 0 where
  pub code : cert.code ≡ out.code
  pub routes : cert.routes ≡ out.routes
  pub caps : cert.caps ≡ caps_from 0 out.prices.caps
  pub mems : cert.mems ≡ caps_from 0 out.prices.mems
  pub ties : cert.ties ≡ numbers_from 0 out.prices.ties
  pub total : cert.total ≡ last_cost out.lines
  pub bound : cert.bound ≡ last_bound out.lines

-- It names the weights by which costs are counted, and certifies each procedure at its number.
pub record IsCertificateOf (word : CostWord) (procs : List ProcOut) (c : Certificate) : Type 0 where
  pub cost : c.cost ≡ word
  pub count : length c.procs ≡ length procs
  pub each : (p : ℕ) (out : ProcOut) (cert : Cert) →
      slice_get procs p ≡ Some out → slice_get c.procs p ≡ Some cert → IsCertOf out cert
