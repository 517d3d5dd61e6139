-- One broken rule is told, and it is the first.
use Rattle.std.proofs.Common.{◌≡◌, ℕ, ◌<◌, inl, inr, ◌↔◌, List, length, refl, ap, sym, ◌∙◌, subst}
use Rattle.std.proofs.Common.{arith}
use Rattle.std.specs.Prelude.{Ok, Err}
use Rattle.ob_syntax.specs.declared.token.Kind.{Kind}
use Rattle.ob_syntax.specs.declared.token.Token.{Token}
use Rattle.ob_syntax.specs.declared.tree.Module.{Module as ModuleTree}
use Rattle.ob_syntax.specs.Declarations.{Reading, reading}
use Rattle.ob_syntax.specs.Derives.{text, Derives}
use Rattle.ob_syntax.specs.Forms.{Form, made}
use Rattle.ob_syntax.specs.Grammar.{Module, a_module}
use Rattle.ob_syntax.specs.Names.{Fault, Judged}
use Rattle.ob_syntax.specs.Tree.{tree}
use Rattle.ob_syntax.specs.WellFormed.{IsBroken, IsWellFormed}
use Rattle.ob_syntax.proofs.NumbersInTrees.{numbered}
use Rattle.ob_first.specs.Breaks.{InModule, Breaks, IsFirst}
use Rattle.ob_first.proofs.Leads.{told, Precedes, Leads, First, err_told}
use Rattle.ob_first.proofs.TreesStand.{module_stands}

-- the module tells the first of what is broken in it, at one of its tokens
module_leads : (ks : List Kind) (bytes : List ℕ) (tokens : List Token) (m : ModuleTree) →
    Derives Module ks m → Leads 0 (length ks) (told (reading bytes tokens m))
    (InModule bytes tokens m)
module_leads ks bytes tokens m (f, spelled, is) =
    subst (λ (t : ModuleTree). Leads 0 (length ks) (told (reading bytes tokens t))
    (InModule bytes tokens t)) (sym is) (of_form f spelled)
  where
    of_form : (f : Form Module) → ks ≡ text Module f →
        Leads 0 (length ks) (told (reading bytes tokens (tree Module 0 f)))
        (λ g. InModule bytes tokens (tree Module 0 f) g)
    of_form (made _ a_module ps) spelled =
        let f = made Module a_module ps in
        let h = module_stands f bytes tokens in
        let ends = (numbered ks (tree Module 0 f) (f, spelled, refl)).last in
        record {
          tells = h.tells;
          first = h.first;
          lies = λ g b. let at = h.lies g b in (at.0, omega (arith, at.1, ends));
        }

equal_faults : (f g : Fault) → Precedes f g → Precedes g f → f ≡ g
equal_faults f g (inl a) (inl b) = absurd (omega (arith, a, b))
equal_faults f g (inl a) (inr b) = absurd (omega (arith, a, b.0))
equal_faults f g (inr a) (inl b) = absurd (omega (arith, a.0, b))
equal_faults f g (inr a) (inr b) = pair f g (omega (arith, a.1, b.1)) a.0
  where
    fault : ℕ → ℕ → Fault
    fault k t = (k, t)

    pair : (f g : Fault) → f.0 ≡ g.0 → f.1 ≡ g.1 → f ≡ g
    pair f g rule token = ap (λ k. fault k f.1) rule ∙ ap (fault g.0) token

module _ (bytes : List ℕ) (tokens : List Token) (m : ModuleTree) (size : ℕ)
    (leads : Leads 0 size (told (reading bytes tokens m)) (InModule bytes tokens m)) where
  told_first : (k t : ℕ) → IsBroken bytes tokens m k t → IsFirst bytes tokens m k t
  told_first k t h =
      let is = err_told (reading bytes tokens m) (k, t) h in
      record {
        broken = leads.tells (k, t) is;
        first = λ j u b. subst (λ o. First o (j, u)) is (leads.first (j, u) b);
      }

  first_told : (k t : ℕ) → IsFirst bytes tokens m k t → IsBroken bytes tokens m k t
  first_told k t h = by (reading bytes tokens m) refl
    where
      by : (r : Judged Reading) → reading bytes tokens m ≡ r → IsBroken bytes tokens m k t
      by (Ok x) is = absurd (subst (λ r. First (told r) (k, t)) is (leads.first (k, t) h.broken))
      by (Err g) is =
          let there = subst (λ r. First (told r) (k, t)) is (leads.first (k, t) h.broken) in
          let here = h.first g.0 g.1 (leads.tells g (ap told is)) in
          is ∙ ap (λ (f : Fault). Err f) (equal_faults g (k, t) there here)

  unbroken : (r : Reading) → IsWellFormed bytes tokens m r → (k t : ℕ) → Breaks bytes tokens m k t →
      ⊥
  unbroken r is k t b = subst (λ r. First (told r) (k, t)) is (leads.first (k, t) b)

  well_formed : ((k t : ℕ) → Breaks bytes tokens m k t → ⊥) → (r : Reading) ×
      IsWellFormed bytes tokens m r
  well_formed none = by (reading bytes tokens m) refl
    where
      by : (r : Judged Reading) → reading bytes tokens m ≡ r → (r : Reading) ×
          IsWellFormed bytes tokens m r
      by (Ok x) is = (x, is)
      by (Err g) is = absurd (none g.0 g.1 (leads.tells g (ap told is)))

pub one_told : (bytes : List ℕ) (tokens : List Token) (m : ModuleTree) (ks : List Kind) →
    Derives Module ks m → (k t : ℕ) → IsBroken bytes tokens m k t ↔ IsFirst bytes tokens m k t
one_told bytes tokens m ks derives k t =
    let h = module_leads ks bytes tokens m derives in
    (told_first bytes tokens m (length ks) h k t, first_told bytes tokens m (length ks) h k t)

pub none_broken : (bytes : List ℕ) (tokens : List Token) (m : ModuleTree) (ks : List Kind) →
    Derives Module ks m
    → ((r : Reading) × IsWellFormed bytes tokens m r) ↔ ((k t : ℕ) → Breaks bytes tokens m k t → ⊥)
none_broken bytes tokens m ks derives =
    let h = module_leads ks bytes tokens m derives in (
      λ (r, is). unbroken bytes tokens m (length ks) h r is,
      well_formed bytes tokens m (length ks) h,
    )

pub at_a_token : (bytes : List ℕ) (tokens : List Token) (m : ModuleTree) (ks : List Kind) →
    Derives Module ks m → (k t : ℕ) → Breaks bytes tokens m k t → t < length ks
at_a_token bytes tokens m ks derives k t b =
    ((module_leads ks bytes tokens m derives).lies (k, t) b).1
