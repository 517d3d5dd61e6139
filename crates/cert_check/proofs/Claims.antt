-- From what holds on the network of a code to the reasons against a certificate.
use Rattle.std.proofs.Common.{◌≡◌, ℕ, ◌+◌, ◌*◌, ◌<◌, ◌≤◌, inl, inr, ℤ, pos, ◌-ℤ◌, ◌≤ℤ◌}
use Rattle.std.proofs.Common.{Option, Some, None, sym, ◌∙◌, subst}
use Rattle.std.proofs.Common.{arith, List, [], ◌∷◌, map}
use Rattle.std.specs.List.{enumerate_from}
use Rattle.std.specs.Prelude.{slice_get, Result, Ok, Err, IfOk}
use Rattle.pra_base.specs.declared.event.OutOfMemory.{OutOfMemory}
use Rattle.cert_check.specs.declared.check.CertAnswer.{CertAnswer}
use Rattle.std.proofs.lemmas.Int.{ints}
use Rattle.std.proofs.lemmas.Bool.{cases_eq}
use Rattle.pra_list.proofs.Options.{some_same}
use Rattle.net_form.specs.declared.net.Net.{Net}
use Rattle.net_form.specs.Cost.{cost_of}
use Rattle.net_form.specs.declared.net.Strand.{Strand}
use Rattle.net_form.specs.declared.net.Tie.{Tie}
use Rattle.net_form.specs.declared.routes.Routes.{Routes}
use Rattle.net_form.specs.Flow.{HasPlaces}
use Rattle.net_form.specs.Network.{IsNet, grouped, ties}
use Rattle.net_form.specs.Strands.{Lives, IsLive, strands}
use Rattle.net_form.specs.Tables.{all_tables}
use Rattle.net_form.proofs.OneNetwork.{one_live, one_network}
use Rattle.net_form.proofs.NetworkFormed.{formed}
use Rattle.net_dual.proofs.Duality.{duality_of_weights}
use Rattle.cert_form.specs.declared.certificate.Cert.{Cert}
use Rattle.cert_form.specs.declared.certificate.Certificate.{Certificate}
use Rattle.cert_check.specs.declared.check.Reason.{Reason}
use Rattle.cert_check.specs.declared.check.Reason.TheVariants.{Code, Routes as Ways, Prices, Total}
use Rattle.cert_check.specs.declared.check.Reason.TheVariants.{Bound}
use Rattle.cert_check.specs.declared.check.CertAnswer.TheVariants.{Yes}
use Rattle.cert_check.specs.Listed.{HasPrices, prices_of}
use Rattle.pra_base.specs.declared.ids.Place.{Place}
use Rattle.pra_base.specs.declared.code.VProc.{VProc}
use Rattle.cert_check.specs.declared.code.Found.TheVariants.{Fails}
use Rattle.vc_valid.specs.Listed.{HasCode}
use Rattle.cert_check.specs.Reasons.{HasRoutes, HasBound, OnNet, MeetsIn, Meets, MeetsAll}
use Rattle.cert_check.specs.Reasons.{rank, HoldUpTo, IsFirstIn, IsFirstOf, IsFound}
use Rattle.cert_check.specs.Reasons.{IsAnswerOf, IsBounded, AreBounded, counts_in, weights_by}
use Rattle.cert_check.proofs.ListedPrices.{in_range}

module _ (c : Certificate) (p : ℕ) (cert : Cert) (net : Net) (is_net : IsNet net cert.code)
    (code : HasCode (counts_in c.procs) p cert.code) where
  meets : (r : Reason) → MeetsIn (weights_by c.cost) net cert r → Meets c p cert r
  meets Code is = code
  meets r is = record { net = net; is_net = is_net; holds = is }

  on_net : (r : Reason) → OnNet cert.code (λ net. MeetsIn (weights_by c.cost) net cert r)
      → MeetsIn (weights_by c.cost) net cert r
  on_net r on =
      subst (λ net. MeetsIn (weights_by c.cost) net cert r)
      (one_network all_tables cert.code on.net net on.is_net is_net) on.holds

  meets_in : (r : Reason) → Meets c p cert r → MeetsIn (weights_by c.cost) net cert r
  meets_in Code is = tt
  meets_in r is = on_net r is

  module _ (at : slice_get c.procs p ≡ Some cert) where
    pub first_of : (found : Option Reason) → IsFirstIn (weights_by c.cost) net cert found
        → IsFirstOf c p found
    first_of None all = λ other is.
        subst (MeetsAll c p) (some_same cert other (sym at ∙ is)) (λ r. meets r (all r))
    first_of (Some r) fails = record {
      cert = cert;
      is = at;
      fails = record {
        holds = λ is. fails.holds (meets_in r is);
        first = λ q before. meets q (fails.first q before);
      };
    }

pub fails_code : (c : Certificate) (p : ℕ) (cert : Cert) → slice_get c.procs p ≡ Some cert
    → (HasCode (counts_in c.procs) p cert.code → ⊥) → IsFirstOf c p (Some Code)
fails_code c p cert at fails = record {
  cert = cert;
  is = at;
  fails = record { holds = fails; first = λ q before. absurd (omega arith) };
}

-- what was found before a network was looked at holds first
pub fails_found : (c : Certificate) (p : ℕ) (cert : Cert) (r : Reason) →
    slice_get c.procs p ≡ Some cert → IsFound (counts_in c.procs) p cert (Fails r) →
    IsFirstOf c p (Some r)
fails_found c p cert Code at found = fails_code c p cert at found
fails_found c p cert Ways at found = record {
  cert = cert;
  is = at;
  fails = record {
    holds = λ is. found.1 is.net is.is_net is.holds;
    first = only_code;
  };
}
  where
    only_code : (q : Reason) → rank q < rank Ways → Meets c p cert q
    only_code Code before = found.0
    only_code q before = absurd (omega arith)
fails_found c p cert r at found = absurd found

-- routes of the network are lists of places for the strands, whatever their groups are
same_places : (ts : List Tie) (least : ℕ → ℕ) (ss : List Strand) (lists : List (List Place))
    (k : ℕ) → HasPlaces (map (grouped ts least) (enumerate_from k ss)) lists → HasPlaces ss lists
same_places ts least [] [] k has = tt
same_places ts least [] (r ∷ rs) k has = absurd has
same_places ts least (s ∷ ss) [] k has = absurd has
same_places ts least (s ∷ ss) (r ∷ rs) k has =
    (has.0, same_places ts least ss rs (k + 1) has.1)

-- where lists of places do not fit the strands, there are no routes in the network
pub no_routes : (code : VProc) (live : Lives) (routes : Routes) → IsLive code live →
    (HasPlaces (strands all_tables code live) routes.places → ⊥) → (net : Net) →
    IsNet net code → HasRoutes net routes → ⊥
no_routes code live routes is_live unfit net is has =
    unfit (subst (λ (l : Lives). HasPlaces (strands all_tables code l) routes.places)
    (one_live code is.live live is.is_live is_live)
    (same_places (ties code (strands all_tables code is.live)) is.least
    (strands all_tables code is.live) routes.places 0
    (subst (λ (n : Net). HasPlaces n.strands routes.places) is.is has.places)))

-- one procedure more
pub holds_more : (c : Certificate) (n : ℕ) → HoldUpTo c n → IsFirstOf c n None → HoldUpTo c (n + 1)
holds_more c n before here p cert lt at = elim (cases_eq p n) as (λ _. MeetsAll c p cert) [
  | inl is ↦ subst (λ k. MeetsAll c k cert) (sym is)
      (here cert (subst (λ k. slice_get c.procs k ≡ Some cert) is at))
  | inr other ↦ before p cert (omega (arith, lt, other)) at
]

-- ---- what yes says

below_cost : (bound cost : ℕ) (z : ℤ) → (pos (1024 * bound) -ℤ pos 1023) ≤ℤ z
    → z ≤ℤ pos (1024 * cost) → bound ≤ cost
below_cost bound cost z low high = omega (arith, ints)

module _ (c : Certificate) (p : ℕ) (cert : Cert) (all : MeetsAll c p cert) where
  pub bounded : IsBounded (weights_by c.cost) cert
  bounded =
      let code : HasCode (counts_in c.procs) p cert.code = all Code in
      let ways : OnNet cert.code (λ net. MeetsIn (weights_by c.cost) net cert Ways) = all Ways in
      let net = ways.net in
      let priced : HasPrices net cert = meets_in c p cert net ways.is_net code Prices
      (all Prices) in
      let total = meets_in c p cert net ways.is_net code Total (all Total) in
      let bound : HasBound (weights_by c.cost) net cert
      = meets_in c p cert net ways.is_net code Bound (all Bound) in
      let is_formed = formed all_tables cert.code net ways.is_net code.sized in
      record {
        net = net;
        is_net = ways.is_net;
        admitted = ways.holds.admitted;
        cost = total;
        least = λ f admitted. elim bound as (λ _. cert.bound ≤ cost_of net (weights_by c.cost) f) [
          | inl none ↦ omega (arith, none)
          | inr carried ↦
              below_cost cert.bound (cost_of net (weights_by c.cost) f) carried.z carried.below
              (duality_of_weights net (weights_by c.cost) (prices_of net cert) carried.z f is_formed
              (in_range net cert priced) carried.value admitted)
        ];
      }

pub if_ok : {A E : Type 0} (P Q : A → Type 0) (r : Result A E) → ((x : A) → P x → Q x) → IfOk r P
    → IfOk r Q
if_ok P Q (Ok x) gives is = gives x is
if_ok P Q (Err fault) gives is = tt

pub yes_bounds : (c : Certificate) → IsAnswerOf c Yes → AreBounded c
yes_bounds c answer p cert at = bounded c p cert (answer p cert at)

pub yes_ok : (c : Certificate) (r : Result CertAnswer OutOfMemory) → IfOk r (IsAnswerOf c)
    → IfOk r (λ answer. answer ≡ Yes → AreBounded c)
yes_ok c r = if_ok (IsAnswerOf c) (λ answer. answer ≡ Yes → AreBounded c) r
    (λ answer is yes. yes_bounds c (rw yes at is))
