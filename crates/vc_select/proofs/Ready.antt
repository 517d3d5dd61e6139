-- Code that is added for a tree keeps the rules and a certificate: change by change, and piece by
-- piece.
use Rattle.std.proofs.Common.{◌≡◌, ℕ, zero, suc, ◌<◌, ◌≤◌, true, List, [], ◌∷◌, length, Some, inl}
use Rattle.std.proofs.Common.{inr, ⊎_elim, ◌⊎◌, refl, sym, ap, ◌∙◌, subst, arith}
use Rattle.std.specs.Prelude.{ℤ, slice_get}
use Rattle.pra_list.proofs.Options.{some_same}
use Rattle.pra_base.specs.declared.ids.VarId.{VarId}
use Rattle.pra_base.specs.declared.code.VarKind.TheVariants.{Constant}
use Rattle.pra_base.specs.declared.code.VProc.{VProc}
use Rattle.vc_build.specs.Grow.{count, Grows, with_variable}
use Rattle.vc_build.proofs.Growth.{declared_grows}
use Rattle.vc_expr.specs.Readable.{Entries, usable, Certifies, Publishes, ReadsOperands}
use Rattle.vc_expr.specs.Rules.{KeepsRules, OperandsApart, StaysValid}
use Rattle.vc_expr.proofs.Added.{same_valid, constant_valid}
use Rattle.vc_expr.proofs.Certificates.{declare_certifies, declare_usable}
use Rattle.vc_expr.proofs.Counting.{constant_adds}
use Rattle.vc_expr.proofs.Published.{new_constant}
use Rattle.vc_relation.specs.declared.home.Home.{Home}
use Rattle.vc_relation.specs.declared.home.Home.TheVariants as home
use Rattle.vc_select.specs.declared.target.Setting.{Setting}
use Rattle.vc_select.specs.Targets.{above_home, above_homes, above_setting}
use Rattle.vc_select.specs.Certified.{AddsNoParam, IsHome, IsCell, IsReady, Continues, IsFresh}
use Rattle.vc_select.specs.Certified.{StaysReady, IsAnswer}

home_in_list : (homes : List Home) (k : ℕ) (v : VarId) → slice_get homes k ≡ Some (home.Var v) →
    v.0 < above_homes homes
home_in_list [] k v e = absurd (cc)
home_in_list (h ∷ hs) zero v e =
    let is : h ≡ home.Var v = some_same h (home.Var v) e in
    omega (arith, ap above_home is)
home_in_list (h ∷ hs) (suc k) v e = omega (arith, home_in_list hs k v e)

-- one of two variables
abbrev pub InBoth : (u v : ℕ) → ℕ → Type 0
InBoth u v y = (y ≡ u) ⊎ (y ≡ v)

module _ (g : Setting) where
  pub home_below : (v : VarId) → IsHome g (home.Var v) → v.0 < above_setting g
  home_below v h = ⊎_elim
      (λ (e : slice_get g.params.now h.0 ≡ Some (home.Var v)). omega
      (arith, home_in_list g.params.now h.0 v e))
      (λ (e : slice_get g.locals.now h.0 ≡ Some (home.Var v)). omega
      (arith, home_in_list g.locals.now h.0 v e))
      h.1

  module _ (counts : List ℕ) (known next : Entries) (first : ℕ) (old new : VProc) (from to : ℕ)
      (low : above_setting g ≤ first) (args : new.args ≡ old.args) (params : AddsNoParam old new)
    where
      pub cell_stays : (k : ℕ) → IsCell old k → IsCell new k
      cell_stays k c = (omega (arith, c.0, args), λ v is. c.1 v (params v k is))

      pub ready_on : IsReady g counts known old from → KeepsRules counts new → Certifies next new →
          ((v : ℕ) → v < first → usable known old from v ≡ true → usable next new to v ≡ true) →
          IsReady g counts next new to
      ready_on r rules certifies others = record {
        rules = rules;
        certifies = certifies;
        homes = λ v h. others v.0 (omega (arith, home_below v h, low)) (r.homes v h);
        cells = λ k h. cell_stays k (r.cells k h);
      }

  -- what is added at the end of a block, with no new one
  pub continues_at : (counts : List ℕ) (known : Entries) (first : ℕ) (old new : VProc) (at v : ℕ) →
      above_setting g ≤ first → Grows old new → AddsNoParam old new → StaysValid old new →
      IsReady g counts known old at → Publishes known first at old new v →
      Continues g counts known first old new at at (IsAnswer v)
  continues_at counts known first old new at v low grows params valid r p = record {
    next = known;
    same = λ b u lt. refl;
    ready = ready_on counts known known first old new at at low grows.args params r
        (valid.stays counts r.rules) p.certifies p.others;
    answer = λ u e. subst (λ z. usable known new at z ≡ true) (sym e) p.result;
    others = p.others;
  }

  pub continues_on : (counts : List ℕ) (known : Entries) (first second : ℕ) (old mid new : VProc)
      (from between to : ℕ) (A B : ℕ → Type 0)
      (p : Continues g counts known first old mid from between A) → first ≤ second → count old ≤
      count mid → Continues g counts p.next second mid new between to B →
      Continues g counts known first old new from to B
  continues_on counts known first second old mid new from between to A B p low wide q = record {
    next = q.next;
    same = λ b v lt. q.same b v (omega (arith, lt, wide)) ∙ p.same b v lt;
    ready = q.ready;
    answer = q.answer;
    others = λ v lt is. q.others v (omega (arith, lt, low)) (p.others v lt is);
  }

  -- nothing is added
  pub continues_same : (counts : List ℕ) (known : Entries) (first : ℕ) (old : VProc) (at : ℕ)
      (A : ℕ → Type 0) → IsReady g counts known old at →
      ((v : ℕ) → A v → usable known old at v ≡ true) → Continues g counts known first old old at at
      A
  continues_same counts known first old at A r answer =
      record {
        next = known;
        same = λ b v lt. refl;
        ready = r;
        answer = answer;
        others =
            λ v lt is. is;
      }

  -- ---- expressions

  pub constant_ready : (old : VProc) (at v : ℕ) (n : ℤ) → v ≡ length old.vars → above_setting g ≤
      length old.vars → StaysReady g (length old.vars) old (with_variable (Constant n) old) at at
      (IsAnswer v)
  constant_ready old at v n is_new low = record {
    stays = λ counts known r.
        continues_at counts known (length old.vars) old (with_variable (Constant n) old) at v low
        (declared_grows (Constant n) old at).grows (constant_adds n old).params
        (constant_valid n old old (same_valid old)) r
        (record {
          certifies = declare_certifies known (Constant n) old r.certifies;
          result =
              new_constant known n at v old is_new;
          others = λ u lt is. declare_usable known
              (Constant n) old at u is;
        });
    fresh = λ u e. inr (omega (arith, e, is_new));
  }

  module _ (old mid new : VProc) (from to u v first : ℕ) (first_is : first ≡ length old.vars)
      (low : above_setting g ≤ length old.vars)
      (p : StaysReady g (length old.vars) old mid from to (IsAnswer u))
      (wide : count old ≤ count mid)
      (grows : Grows mid new) (params : AddsNoParam mid new) (valid : StaysValid mid new)
      (above : first ≤ v) (reads : ReadsOperands first to mid new u u v) where
    pub one_ready : StaysReady g (length old.vars) old new from to (IsAnswer v)
    one_ready = record {
      stays = λ counts known r.
          let c = p.stays counts known r in
          let is : usable c.next mid to u ≡ true = c.answer u refl in
          continues_on counts known (length old.vars) first old mid new from to to (IsAnswer u)
          (IsAnswer v) c (omega (arith, first_is)) wide
          (continues_at counts c.next first mid new to v (omega (arith, low, first_is)) grows params
          valid c.ready (reads.reads c.next c.ready.certifies is is));
      fresh = λ x e. inr (omega (arith, e, above, first_is));
    }

  -- two operands are apart, since the right one is a home, or newer than the left one
  pub apart : (first u v : ℕ) (one : VProc) → above_setting g ≤ first → u < length one.vars →
      IsFresh g (length one.vars) v → OperandsApart first u v
  apart first u v one low named fresh e = ⊎_elim
      (λ (h : v < above_setting g). omega (arith, e, h, low))
      (λ (n : length one.vars ≤ v). absurd (omega (arith, e, n, named)))
      fresh

  module _ (old one two : VProc) (from between to u v : ℕ) (named : u < length one.vars)
      (left : StaysReady g (length old.vars) old one from between (IsAnswer u))
      (right : StaysReady g (length one.vars) one two between to (IsAnswer v))
      (one_grows : Grows old one) where
    -- behind both sides both may be read
    pub both_continues : (counts : List ℕ) (known : Entries) → IsReady g counts known old from →
        Continues g counts known (length old.vars) old two from to (InBoth u v)
    both_continues counts known r =
        let p = left.stays counts known r in
        let q = right.stays counts p.next p.ready in
        record {
          next = q.next;
          same = λ b x lt. q.same b x (omega (arith, lt, one_grows.blocks)) ∙ p.same b x lt;
          ready = q.ready;
          answer = λ y in_both. ⊎_elim
              (λ (e : y ≡ u). q.others y (omega (arith, e, named)) (p.answer y e))
              (λ (e : y ≡ v). q.answer y e)
              in_both;
          others = λ x lt is. q.others x (omega (arith, lt, one_grows.vars)) (p.others x lt is);
        }

  module _ (old one two new : VProc) (from between to u v x first : ℕ)
      (first_is : first ≡ length old.vars) (low : above_setting g ≤ length old.vars)
      (named : u < length one.vars)
      (left : StaysReady g (length old.vars) old one from between (IsAnswer u))
      (right : StaysReady g (length one.vars) one two between to (IsAnswer v))
      (one_grows : Grows old one) (two_grows : Grows one two) (grows : Grows two new)
      (params : AddsNoParam two new)
      (valid : OperandsApart first u v → StaysValid two new) (above : first ≤ x)
      (reads : OperandsApart first u v → ReadsOperands first to two new u v x) where
    off : OperandsApart first u v
    off = apart first u v one (omega (arith, low, first_is)) named (right.fresh v refl)

    pub both_ready : StaysReady g (length old.vars) old new from to (IsAnswer x)
    both_ready = record {
      stays = λ counts known r.
          let both = both_continues old one two from between to u v named left right one_grows
          counts known r in
          continues_on counts known (length old.vars) first old two new from to to (InBoth u v)
          (IsAnswer x) both (omega (arith, first_is))
          (omega (arith, one_grows.blocks, two_grows.blocks))
          (continues_at counts both.next first two new to x (omega (arith, low, first_is)) grows
          params (valid off) both.ready
          ((reads off).reads both.next both.ready.certifies (both.answer u (inl refl))
          (both.answer v (inr refl))));
      fresh = λ y e. inr (omega (arith, e, above, first_is));
    }
