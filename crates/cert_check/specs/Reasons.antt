-- What a certificate claims of each procedure, the reasons why it may fail, and the answer.
use Rattle.std.specs.Prelude.{◌≡◌, ◌⊎◌, ℕ, ◌*◌, ◌<◌, ◌≤◌, ℤ, pos, ◌-ℤ◌, ◌≤ℤ◌, List, map, Some}
use Rattle.std.specs.Prelude.{slice_get, Option, None, ⊤}
use Rattle.pra_base.specs.declared.code.VProc.{VProc}
use Rattle.net_cost.specs.declared.weights.Weights.{Weights}
use Rattle.net_cost.specs.Weights.{size_weights, speed_weights}
use Rattle.net_form.specs.declared.net.Net.{Net}
use Rattle.net_form.specs.declared.routes.Routes.{Routes}
use Rattle.net_form.specs.Admitted.{IsAdmitted}
use Rattle.net_form.specs.Cost.{cost_of, cost_in}
use Rattle.net_form.specs.Flow.{Edge, flow, AreRoutes}
use Rattle.net_form.specs.Network.{IsNet}
use Rattle.net_dual.specs.Value.{IsLagrange}
use Rattle.cert_form.specs.declared.certificate.Cert.{Cert}
use Rattle.cert_form.specs.declared.certificate.Certificate.{Certificate}
use Rattle.cert_form.specs.declared.certificate.CostWord.{CostWord}
use Rattle.cert_form.specs.declared.certificate.CostWord.TheVariants.{Size, Speed}
use Rattle.vc_valid.specs.Listed.{HasCode}
use Rattle.cert_check.specs.declared.check.CertAnswer.{CertAnswer}
use Rattle.cert_check.specs.declared.check.CertAnswer.TheVariants.{Yes, No}
use Rattle.cert_check.specs.declared.check.Reason.{Reason}
use Rattle.cert_check.specs.declared.check.Reason.TheVariants.{Code, Routes as Ways, Prices, Total}
use Rattle.cert_check.specs.declared.check.Reason.TheVariants.{Bound}
use Rattle.cert_check.specs.declared.code.Found.{Found}
use Rattle.cert_check.specs.declared.code.Found.TheVariants.{Fails, Made}
use Rattle.cert_check.specs.Listed.{HasPrices, prices_of}

abbrev pub weights_by : CostWord → Weights
weights_by Size = size_weights
weights_by Speed = speed_weights

-- how many arguments each procedure takes
abbrev pub counts_in : List Cert → List ℕ
counts_in procs = map (λ (cert : Cert). cert.code.args) procs

-- ---- what is claimed of one procedure

-- one place for each strand and layer, and admitted
pub record HasRoutes (net : Net) (routes : Routes) : Type 0 where
  pub places : AreRoutes net routes
  pub admitted : IsAdmitted net (flow net routes)

abbrev pub HasTotal : Weights → Net → Cert → Type 0
HasTotal w net cert = cost_in net w cert.routes ≡ cert.total

-- The bound is in whole units, the value z in units of 1/1024: rounded up, z is at least the bound.
pub record IsBelowValue (w : Weights) (net : Net) (cert : Cert) : Type 0 where
  pub z : ℤ
  pub value : IsLagrange net w (prices_of net cert) z
  pub below : (pos (1024 * cert.bound) -ℤ pos 1023) ≤ℤ z

abbrev pub HasBound : Weights → Net → Cert → Type 0
HasBound w net cert = (cert.bound ≡ 0) ⊎ IsBelowValue w net cert

-- a fact of the network of a code
pub record OnNet (code : VProc) (P : Net → Type 0) : Type 0 where
  pub net : Net
  pub is_net : IsNet net code
  pub holds : P net

-- what is claimed on the network
abbrev pub MeetsIn : Weights → Net → Cert → Reason → Type 0
MeetsIn w net cert Code = ⊤
MeetsIn w net cert Ways = HasRoutes net cert.routes
MeetsIn w net cert Prices = HasPrices net cert
MeetsIn w net cert Total = HasTotal w net cert
MeetsIn w net cert Bound = HasBound w net cert

-- ---- the answer

-- the reason does not hold of the procedure of this number
abbrev pub Meets : Certificate → ℕ → Cert → Reason → Type 0
Meets c p cert Code = HasCode (counts_in c.procs) p cert.code
Meets c p cert Ways = OnNet cert.code (λ net. MeetsIn (weights_by c.cost) net cert Ways)
Meets c p cert Prices = OnNet cert.code (λ net. MeetsIn (weights_by c.cost) net cert Prices)
Meets c p cert Total = OnNet cert.code (λ net. MeetsIn (weights_by c.cost) net cert Total)
Meets c p cert Bound = OnNet cert.code (λ net. MeetsIn (weights_by c.cost) net cert Bound)

abbrev pub MeetsAll : Certificate → ℕ → Cert → Type 0
MeetsAll c p cert = (r : Reason) → Meets c p cert r

-- the order of reasons
abbrev pub rank : Reason → ℕ
rank Code = 0
rank Ways = 1
rank Prices = 2
rank Total = 3
rank Bound = 4

-- the reason holds, and none before it
pub record FailsBy (c : Certificate) (p : ℕ) (cert : Cert) (r : Reason) : Type 0 where
  pub holds : Meets c p cert r → ⊥
  pub first : (q : Reason) → rank q < rank r → Meets c p cert q

-- the first n procedures hold
abbrev pub HoldUpTo : Certificate → ℕ → Type 0
HoldUpTo c n =
    (p : ℕ) (cert : Cert) → p < n → slice_get c.procs p ≡ Some cert → MeetsAll c p cert

-- procedure p is there, and fails by the reason
pub record FailsProc (c : Certificate) (p : ℕ) (r : Reason) : Type 0 where
  pub cert : Cert
  pub is : slice_get c.procs p ≡ Some cert
  pub fails : FailsBy c p cert r

-- all procedures hold, or this is the first that does not
abbrev pub IsAnswerOf : Certificate → CertAnswer → Type 0
IsAnswerOf c Yes = (p : ℕ) (cert : Cert) → slice_get c.procs p ≡ Some cert → MeetsAll c p cert
IsAnswerOf c (No p r) = HoldUpTo c p × FailsProc c p r

-- ---- what is found on the way to the answer

-- the code or the routes fail whatever the network is, or this is the network
abbrev pub IsFound : List ℕ → ℕ → Cert → Found → Type 0
IsFound counts p cert (Fails Code) = HasCode counts p cert.code → ⊥
IsFound counts p cert (Fails Ways) =
    HasCode counts p cert.code ×
    ((net : Net) → IsNet net cert.code → HasRoutes net cert.routes → ⊥)
IsFound counts p cert (Fails r) = ⊥
IsFound counts p cert (Made net) = HasCode counts p cert.code × IsNet net cert.code

-- the first reason that holds on the network, or that none does
pub record FailsIn (w : Weights) (net : Net) (cert : Cert) (r : Reason) : Type 0 where
  pub holds : MeetsIn w net cert r → ⊥
  pub first : (q : Reason) → rank q < rank r → MeetsIn w net cert q

abbrev pub IsFirstIn : Weights → Net → Cert → Option Reason → Type 0
IsFirstIn w net cert None = (r : Reason) → MeetsIn w net cert r
IsFirstIn w net cert (Some r) = FailsIn w net cert r

-- the first reason that holds of procedure p, or that none does
abbrev pub IsFirstOf : Certificate → ℕ → Option Reason → Type 0
IsFirstOf c p None = (cert : Cert) → slice_get c.procs p ≡ Some cert → MeetsAll c p cert
IsFirstOf c p (Some r) = FailsProc c p r

-- ---- what yes says

-- The flow of the routes is admitted in the network of the code and costs the total, and no flow
-- that is admitted there costs less than the bound. A flow is any list of edges.
pub record IsBounded (w : Weights) (cert : Cert) : Type 0 where
  pub net : Net
  pub is_net : IsNet net cert.code
  pub admitted : IsAdmitted net (flow net cert.routes)
  pub cost : cost_in net w cert.routes ≡ cert.total
  pub least : (f : List Edge) → IsAdmitted net f → cert.bound ≤ cost_of net w f

abbrev pub AreBounded : Certificate → Type 0
AreBounded c =
    (p : ℕ) (cert : Cert) → slice_get c.procs p ≡ Some cert →
    IsBounded (weights_by c.cost) cert
