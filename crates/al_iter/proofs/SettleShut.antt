-- What a path needs at its tied ends, and what those pay who have no such path.
use Rattle.std.proofs.Common.{ℕ, zero, suc, ◌≡◌, ◌+◌, ◌-◌, ◌<◌, ◌≤◌, Bool, true, false, cond}
use Rattle.std.proofs.Common.{ℤ, pos, ◌≤ℤ◌, List, [], ◌∷◌, length, get_or, take, drop, All}
use Rattle.std.proofs.Common.{Option, None, Some, refl, sym, ap, ◌∙◌, subst, arith, inl, inr}
use Rattle.std.specs.Prelude.{slice_get, is_some, nat_eq, IsTrue}
use Rattle.std.proofs.lemmas.Int.{ints}
use Rattle.std.proofs.lemmas.Bool.{cases_Bool, cases_eq, eq-eqb, ne_eqb}
use Rattle.std.proofs.lemmas.List.{take-append-drop, length-take, get_or-take}
use Rattle.std.proofs.lemmas.List.{get_or_default}
use Rattle.std.proofs.lemmas.List.Elements.{All-tail}
use Rattle.pra_base.specs.declared.ids.Place.{Place}
use Rattle.pra_base.specs.declared.ids.Place.TheVariants.{Mem}
use Rattle.pra_base.specs.Places.{number, has_register, register_of}
use Rattle.pra_list.proofs.Options.{some_same}
use Rattle.net_cost.specs.declared.weights.Weights.{Weights}
use Rattle.net_form.specs.declared.net.Net.{Net}
use Rattle.net_form.specs.declared.routes.Routes.{Routes}
use Rattle.net_form.specs.declared.taken.Taken.{Taken}
use Rattle.net_form.specs.Admitted.{strand_at, in_mask, layer_of}
use Rattle.net_form.specs.InUse.{mark, UsesNothing}
use Rattle.net_form.specs.Flow.{Edge, edges}
use Rattle.net_dual.specs.Paths.{MayGo, path_in}
use Rattle.net_dual.specs.Priced.{total}
use Rattle.net_dual.proofs.Totals.{total-agree, total-append}
use Rattle.al_laws.specs.Settled.{tied_ends}
use Rattle.al_laws.proofs.Ends.{held}
use Rattle.al_iter.specs.SettleState.{among}
use Rattle.al_iter.specs.SettleSums.{MayGoTied, PayAtLeast, IsDraft, IsShut, IsOpenAt, free_price}
use Rattle.al_iter.specs.SettleSums.{sum_of, IsUntied}
use Rattle.al_iter.proofs.SettleSums.{pays_something, is_among, of_each}

-- ---- an edge of a path by its number

pub got : {A : Type 0} (xs : List A) (k : ℕ) (x d : A) → slice_get xs k ≡ Some x
    → (k < length xs) × (get_or xs k d ≡ x)
got [] k x d e = cc
got (y ∷ ys) zero x d e = (omega arith, some_same y x e)
got (y ∷ ys) (suc k) x d e = let more = got ys k x d e in let lt = more.0 in
    (omega (arith, lt), more.1)

at_edge : (P : Edge → Type 0) (s l : ℕ) (o : Option Place) (ps : List Place) (k : ℕ)
    → All P (edges s l o ps) → k < length ps
    → (from : Option Place)
    × P (record { strand = s; layer = l + k; from = from; to = get_or ps k Mem })
at_edge P s l o [] k all lt = absurd (omega (arith, lt))
at_edge P s l o (q ∷ qs) zero all lt = (
  o,
  subst (λ n. P (record { strand = s; layer = n; from = o; to = q }))
      (let e : l ≡ l + 0 = omega arith in e)
      (all 0 (record { strand = s; layer = l; from = o; to = q }) (omega arith)),
)
at_edge P s l o (q ∷ qs) (suc k) all lt =
    let more = at_edge P s (suc l) (Some q) qs k
    (All-tail P (record { strand = s; layer = l; from = o; to = q }) (edges s (suc l) (Some q) qs)
    all) (omega (arith, lt)) in (
      more.0,
      subst (λ n. P (record { strand = s; layer = n; from = more.0; to = get_or qs k Mem }))
          (let e : suc l + k ≡ l + suc k = omega arith in e) more.1,
    )

module _ (net : Net) (taken : Taken) (p : Place) (s : ℕ) (ps : List Place)
    (may : MayGoTied net taken p s ps) where
  open_at : (k l : ℕ) → k < length ps → get_or ps k Mem ≡ p → (strand_at net s).first + k ≡ l
      → IsOpenAt net taken s l p
  open_at k l lt is at =
      let mask = at_edge (λ e. IsTrue (in_mask net e)) s (strand_at net s).first None ps k
      may.path.masks lt in
      let free = at_edge (λ e. has_register (number e.to) ≡ true
      → mark taken.regs (layer_of net e) (register_of (number e.to)) ≡ 0) s
      (strand_at net s).first None ps k may.is_clear.registers lt in
      subst (λ n. IsOpenAt net taken s n p) at
      (subst (λ q. IsOpenAt net taken s ((strand_at net s).first + k) q) is
      (record { mask = mask.1; free = free.1 }))

  pub open_first : is_some (strand_at net s).entry_group ≡ true
      → IsOpenAt net taken s (strand_at net s).first p
  open_first tied =
      let there = got ps 0 p Mem (held (λ q. slice_get ps 0 ≡ Some q) (tied_ends net p s).first p
      may.has_ends.first (ap (λ b. cond b (Some p) None) tied)) in
      open_at 0 (strand_at net s).first there.0 there.1 (omega arith)

  pub open_last : is_some (strand_at net s).exit_group ≡ true
      → IsOpenAt net taken s (strand_at net s).last p
  open_last tied =
      let there = got ps (length ps - 1) p Mem
      (held (λ q. slice_get ps (length ps - 1) ≡ Some q) (tied_ends net p s).last p
      may.has_ends.last (ap (λ b. cond b (Some p) None) tied)) in
      let lt = there.0 in
      let long = may.path.long in
      open_at (length ps - 1) (strand_at net s).last there.0 there.1 (omega (arith, lt, long))

-- ---- sums of what is at least nothing

pub total_positive : {X : Type 0} (f : X → ℤ) (xs : List X) → ((x : X) → pos 0 ≤ℤ f x)
    → pos 0 ≤ℤ total f xs
total_positive f [] h = omega (arith, ints)
total_positive f (x ∷ xs) h =
    let one = h x in
    let more = total_positive f xs h in
    omega (arith, ints, one, more)

total_at : (f : ℕ → ℤ) (xs : List ℕ) (i : ℕ) → i < length xs → ((x : ℕ) → pos 0 ≤ℤ f x)
    → f (get_or xs i 0) ≤ℤ total f xs
total_at f [] i lt h = absurd (omega (arith, lt))
total_at f (x ∷ xs) zero lt h = let more = total_positive f xs h in omega (arith, ints, more)
total_at f (x ∷ xs) (suc i) lt h =
    let one = h x in
    let more = total_at f xs i (omega (arith, lt)) h in
    omega (arith, ints, one, more)

choice_positive : (b : Bool) (z : ℤ) → pos 0 ≤ℤ z → pos 0 ≤ℤ cond b z (pos 0)
choice_positive true z h = h
choice_positive false z h = omega (arith, ints)

module _ (net : Net) (w : Weights) (taken : Taken) (strands : List ℕ) (p : Place) where
  -- where one of them cannot go they pay as much as one likes
  pub shut_pay : (z : ℤ) → pos 0 ≤ℤ z → IsShut net taken strands p
      → PayAtLeast net w taken strands p z
  shut_pay z positive shut =
      let none = get_or strands shut.at 0 in
      let costs : ℕ → ℤ = λ s. cond (nat_eq s none) z (pos 0) in
      record {
        costs = costs;
        least = λ k d lt ps may. of_one (get_or strands k d) ps may;
        in_sum =
            let all = total_at costs strands shut.at shut.within
            (λ s. choice_positive (nat_eq s none) z positive) in
            let here : costs none ≡ z = ap (λ b. cond b z (pos 0)) (eq-eqb none none refl) in
            omega (arith, ints, all, here);
      }
    where
      of_one : (s : ℕ) (ps : List Place) → MayGoTied net taken p s ps
          → cond (nat_eq s (get_or strands shut.at 0)) z (pos 0) ≤ℤ free_price net w s ps
      of_one s ps may = elim (cases_eq s (get_or strands shut.at 0))
          as (λ _. cond (nat_eq s (get_or strands shut.at 0)) z (pos 0) ≤ℤ free_price net w s ps) [
            | inl same ↦ absurd (shut.none ps (subst (λ s. MayGoTied net taken p s ps) same may))
            | inr other ↦
                let zero_ : cond (nat_eq s (get_or strands shut.at 0)) z (pos 0) ≡ pos 0 =
                ap (λ b. cond b z (pos 0)) (ne_eqb s (get_or strands shut.at 0) other) in
                let some = pays_something net w s ps in
                omega (arith, ints, zero_, some)
          ]

  -- the first i of them, each by a least path, pay that much already
  pub pay_partly : (draft : Routes) (i : ℕ) (z : ℤ) → i ≤ length strands
      → ((k : ℕ) → k < i → IsDraft net w taken p draft (get_or strands k 0))
      → z ≤ℤ sum_of net w draft (take i strands) → PayAtLeast net w taken strands p z
  pay_partly draft i z few drafts le =
      let price : ℕ → ℤ = λ s. free_price net w s (path_in draft s) in
      let costs : ℕ → ℤ = λ s. cond (among (take i strands) s) (price s) (pos 0) in
      record {
        costs = costs;
        least = λ k d lt ps may. of_one (get_or strands k d) ps may;
        in_sum =
            let split = ap (total costs) (take-append-drop i strands) in
            let both = total-append costs (take i strands) (drop i strands) in
            let front = total-agree costs price (take i strands)
            (λ k d lt. ap (λ b. cond b (price (get_or (take i strands) k d)) (pos 0))
            (is_among (take i strands) k d lt)) in
            let back = total_positive costs (drop i strands)
            (λ s. choice_positive (among (take i strands) s) (price s)
            (pays_something net w s (path_in draft s))) in
            omega (arith, ints, le, split, both, front, back);
      }
    where
      of_one : (s : ℕ) (ps : List Place) → MayGoTied net taken p s ps
          → cond (among (take i strands) s) (free_price net w s (path_in draft s)) (pos 0)
          ≤ℤ free_price net w s ps
      of_one s ps may = elim (cases_Bool (among (take i strands) s))
          as (λ _. cond (among (take i strands) s) (free_price net w s (path_in draft s)) (pos 0)
          ≤ℤ free_price net w s ps) [
            | inl is ↦
                let same = ap (λ b. cond b (free_price net w s (path_in draft s)) (pos 0)) is in
                let least = (drafted s is).least ps may in
                omega (arith, ints, same, least)
            | inr other ↦
                let none = ap (λ b. cond b (free_price net w s (path_in draft s)) (pos 0)) other in
                let some = pays_something net w s ps in
                omega (arith, ints, none, some)
          ]
        where
          drafted : (s : ℕ) → among (take i strands) s ≡ true → IsDraft net w taken p draft s
          drafted s is = of_each (λ s. IsDraft net w taken p draft s) (take i strands)
              (λ k d lt.
              let long = length-take i strands in
              let in_ : k < i = omega (arith, lt, long) in
              subst (λ s. IsDraft net w taken p draft s)
              (sym (get_or-take i strands k d in_ ∙ get_or_default strands k d 0
              (omega (arith, in_, few)))) (drafts k in_)) s is

  -- who may pay so much at least pays less at least too
  pub pay_less : (y z : ℤ) → y ≤ℤ z → PayAtLeast net w taken strands p z
      → PayAtLeast net w taken strands p y
  pay_less y z le pay = record {
    costs = pay.costs;
    least = pay.least;
    in_sum = let sum = pay.in_sum in omega (arith, ints, le, sum);
  }

  pub pay_nothing : PayAtLeast net w taken strands p (pos 0)
  pay_nothing = record {
    costs = λ s. pos 0;
    least = λ k d lt ps may. pays_something net w (get_or strands k d) ps;
    in_sum = total_positive (λ (s : ℕ). pos 0) strands (λ s. omega (arith, ints));
  }

-- ---- a variable without ties

untied_ends : (net : Net) (p q : Place) (s : ℕ) → IsUntied (strand_at net s)
    → tied_ends net p s ≡ tied_ends net q s
untied_ends net p q s untied = λ i. record {
  first = (ap (λ o. cond (is_some o) (Some p) None) untied.entry
      ∙ sym (ap (λ o. cond (is_some o) (Some q) None) untied.entry)) i;
  last = (ap (λ o. cond (is_some o) (Some p) None) untied.exit
      ∙ sym (ap (λ o. cond (is_some o) (Some q) None) untied.exit)) i;
}

-- what they pay at least for one place they pay at least for any
pub pay_untied : (net : Net) (w : Weights) (taken : Taken) (strands : List ℕ) (p q : Place) (z : ℤ)
    → All (λ s. IsUntied (strand_at net s)) strands → PayAtLeast net w taken strands q z
    → PayAtLeast net w taken strands p z
pay_untied net w taken strands p q z untied pay = record {
  costs = pay.costs;
  least = λ k d lt ps may. pay.least k d lt ps
      (subst (λ ends. MayGo net ends (UsesNothing net taken) (get_or strands k d) ps)
      (untied_ends net p q (get_or strands k d) (untied k d lt)) may);
  in_sum = pay.in_sum;
}
