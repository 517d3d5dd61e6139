-- What is known on the ways out of a block.
use Rattle.std.proofs.Common.{◌≡◌, ℕ, zero, suc, ◌^◌, ◌<◌, ◌⊎◌, inl, inr, ℤ, pos, ◌≤ℤ◌, Bool}
use Rattle.std.proofs.Common.{true, false}
use Rattle.std.proofs.lemmas.Int.{ints}
use Rattle.std.proofs.Common.{if◌then◌else◌, List, [], ◌∷◌, length, slice_index_or, Option, Some}
use Rattle.std.proofs.Common.{None, refl, sym, ap, subst, ◌∙◌, arith}
use Rattle.std.specs.Prelude.{IfSome}
use Rattle.pra_list.specs.Among.{Among}
use Rattle.pra_base.specs.Code.{IsTarget}
use Rattle.pra_base.specs.Words.{signed, compares}
use Rattle.pra_base.specs.declared.ids.BlockId.{BlockId}
use Rattle.pra_base.specs.declared.ids.Cond.{Cond}
use Rattle.pra_base.specs.declared.code.Block.{Block}
use Rattle.pra_base.specs.declared.code.VInstr.{VInstr}
use Rattle.pra_base.specs.declared.code.VInstr.TheVariants as instr
use Rattle.pra_base.specs.declared.code.End.{End}
use Rattle.pra_base.specs.declared.code.End.TheVariants.{Jump, Branch, Return}
use Rattle.vc_code.specs.declared.value.Value.TheVariants.{Num}
use Rattle.vc_code.specs.Value.{Words}
use Rattle.vc_code.specs.Selected.{read}
use Rattle.vc_checks.specs.declared.fact.Fact.{Fact}
use Rattle.vc_checks.specs.declared.ways.Comparison.{Comparison}
use Rattle.vc_checks.specs.declared.ways.Span.{Span}
use Rattle.vc_checks.specs.declared.ways.Ways.{Ways}
use Rattle.vc_checks.specs.Facts.{Kinds, AllHold, Holds, Entail, EntailAt, Goes}
use Rattle.vc_checks.specs.LeftOut.{Begins, last_of}
use Rattle.vc_checks.specs.Ways.{AreWays, Compares, IsComparison, IsWithin, Leave}
use Rattle.vc_checks.specs.Ways.{first_target, second_target}
use Rattle.vc_checks.proofs.Knowing.{one_more, same_number, unsigned}

-- the last of some instructions
pub last_is : (last : Option VInstr) (xs : List VInstr) (d : VInstr) (k : ℕ) →
    length xs ≡ suc k → last_of last xs ≡ Some (slice_index_or xs k d)
last_is last [] d k e = absurd (omega (arith, e))
last_is last (x ∷ []) d zero e = refl
last_is last (x ∷ []) d (suc k) e = absurd (omega (arith, e))
last_is last (x ∷ y ∷ ys) d zero e = absurd (omega (arith, e))
last_is last (x ∷ y ∷ ys) d (suc k) e = last_is (Some x) (y ∷ ys) d k (omega (arith, e))

-- what a comparison tells of its first variable
pub compared_tells : (kind : Kinds) (known : List Fact) (c : Comparison) (other span : Span)
    (r : Fact) →
    ((held : Words) (b : ℕ) → AllHold kind held known →
    read kind held c.other.0 ≡ Some (Num b) → IsWithin other b) →
    ((a b : ℕ) → compares c.condition a b ≡ true → IsWithin other b → IsWithin span a) →
    Entail kind (record { var = c.one; low = span.low; high = span.high } ∷ known) (r ∷ []) →
    (pos 0 ≤ℤ span.low) ⊎ ((f : Fact) × Among f known × (f.var.0 ≡ c.one.0)) →
    (held : Words) → AllHold kind held known → Compares kind held c true →
    AllHold kind held (r ∷ [])
compared_tells kind known c other span r within limits entail why held all of =
    let lies = limits of.0 of.1 of.4 (within held of.1 all of.3) in
    entail held (one_more kind held (record { var = c.one; low = span.low; high = span.high })
    known (of.0, of.2, lies.0, lies.1, is_word lies.0 why) all)
  where
    number : (x y : ℕ) (v w : ℕ) → v ≡ w → read kind held v ≡ Some (Num x) →
        read kind held w ≡ Some (Num y) → x ≡ y
    number x y v w e p q = same_number x y (sym p ∙ ap (read kind held) e ∙ q)

    is_word : span.low ≤ℤ signed of.0 →
        (pos 0 ≤ℤ span.low) ⊎ ((f : Fact) × Among f known × (f.var.0 ≡ c.one.0)) →
        of.0 < 2 ^ 32
    is_word low (inl zero_on) = unsigned of.0 (not_less zero_on low)
      where
        not_less : {x y z : ℤ} → x ≤ℤ y → y ≤ℤ z → x ≤ℤ z
        not_less p q = omega (arith, ints)
    is_word low (inr there) =
        let h = all there.0 there.1 in
        subst (λ n. n < 2 ^ 32) (number h.0 of.0 there.0.var.0 c.one.0 there.2 h.1 of.2) h.4

-- one fact more holds, if there is one
pub learned_hold : (kind : Kinds) (held : Words) (known new : List Fact) (o : Option Fact) →
    ((f : Fact) → Among f new → Among f known ⊎ (o ≡ Some f)) → AllHold kind held known →
    IfSome o (λ f. AllHold kind held (f ∷ [])) → AllHold kind held new
learned_hold kind held known new o learns all told f among = by (learns f among)
  where
    more : (p : Option Fact) → p ≡ Some f → IfSome p (λ g. AllHold kind held (g ∷ [])) →
        Holds kind held f
    more None e t = cc
    more (Some g) e t = let same : g ≡ f = cc in
        subst (λ x. Holds kind held x) same (t g (inl refl))

    by : Among f known ⊎ (o ≡ Some f) → Holds kind held f
    by (inl there) = all f there
    by (inr e) = more o e told

-- what holds where a comparison does
pub on_some : (o : Option Fact) (P Q : Fact → Type 0) → ((f : Fact) → P f → Q f) → IfSome o P →
    IfSome o Q
on_some None P Q f p = tt
on_some (Some x) P Q f p = f x p

-- ---- the ways out

-- on the way to t, if any, what holds on this arm
abbrev Arms : Kinds → Words → Option Comparison → Option Comparison → End → ℕ → Type 0
Arms kind held holds fails end t =
    ((first_target end ≡ Some t) × IfSome holds (λ c. Compares kind held c true))
    ⊎ ((second_target end ≡ Some t) × IfSome fails (λ c. Compares kind held c true))

no_comparison : (kind : Kinds) (held : Words) (last : Option VInstr) (end : End) (t : ℕ) →
    Goes kind last end held t → Arms kind held None None end t
no_comparison kind held last (Jump b) t goes = inl (ap Some (jumps last goes), tt)
  where
    jumps : (last : Option VInstr) → Goes kind last (Jump b) held t → b.0 ≡ t
    jumps None goes = goes
    jumps (Some (instr.Cmp x y)) goes = goes
    jumps (Some i) goes = goes
no_comparison kind held last Return t goes = absurd (returns last goes)
  where
    returns : (last : Option VInstr) → Goes kind last Return held t → ⊥
    returns None goes = goes
    returns (Some (instr.Cmp x y)) goes = goes
    returns (Some i) goes = goes
no_comparison kind held last (Branch k one other) t goes = branches last goes
  where
    either : IsTarget (Branch k one other) t → Arms kind held None None (Branch k one other) t
    either (inl e) = inl (ap Some e, tt)
    either (inr e) = inr (ap Some e, tt)

    arm : (way : Bool) → (if way then one.0 else other.0) ≡ t →
        Arms kind held None None (Branch k one other) t
    arm true e = inl (ap Some e, tt)
    arm false e = inr (ap Some e, tt)

    branches : (last : Option VInstr) → Goes kind last (Branch k one other) held t →
        Arms kind held None None (Branch k one other) t
    branches None goes = either goes
    branches (Some (instr.Cmp x y)) goes = arm (compares k goes.0 goes.1) goes.4
    branches (Some i) goes = either goes

by_comparison : (kind : Kinds) (held : Words) (c : Comparison) (fails : Option Comparison)
    (one other : BlockId) (t : ℕ) →
    IfSome fails (λ f. Compares kind held c false → Compares kind held f true) →
    Goes kind (Some (instr.Cmp c.one c.other)) (Branch c.condition one other) held t →
    Arms kind held (Some c) fails (Branch c.condition one other) t
by_comparison kind held c fails one other t tells goes = by (compares c.condition goes.0 goes.1)
    refl goes.4
  where
    on : (o : Option Comparison) →
        IfSome o (λ f. Compares kind held c false → Compares kind held f true) →
        Compares kind held c false → IfSome o (λ f. Compares kind held f true)
    on None tells fails_not = tt
    on (Some f) tells fails_not = tells fails_not

    by : (way : Bool) → compares c.condition goes.0 goes.1 ≡ way →
        (if way then one.0 else other.0) ≡ t →
        Arms kind held (Some c) fails (Branch c.condition one other) t
    by true is e = inl (ap Some e, (goes.0, goes.1, goes.2, goes.3, is))
    by false is e = inr (ap Some e, on fails tells (goes.0, goes.1, goes.2, goes.3, is))

pub no_arms : (kind : Kinds) (block : Block) (held : Words) (t : ℕ) →
    Goes kind (last_of None block.code) block.end held t → Arms kind held None None block.end t
no_arms kind block held t goes = no_comparison kind held (last_of None block.code) block.end t goes

pub arms : (kind : Kinds) (block : Block) (c : Comparison) (fails : Option Comparison) →
    IsComparison block c →
    IfSome fails (λ f. (kind : Kinds) (held : Words) → Compares kind held c false →
    Compares kind held f true) → (held : Words) (t : ℕ) →
    Goes kind (last_of None block.code) block.end held t →
    Arms kind held (Some c) fails block.end t
arms kind block c fails is tells held t goes =
    subst (λ e. Arms kind held (Some c) fails e t) (sym is.end)
    (by_comparison kind held c fails is.one is.other t (each fails tells)
    (subst (λ e. Goes kind (Some (instr.Cmp c.one c.other)) e held t) is.end
    (subst (λ l. Goes kind l block.end held t) is.last goes)))
  where
    each : (o : Option Comparison) →
        IfSome o (λ f. (kind : Kinds) (held : Words) → Compares kind held c false →
        Compares kind held f true) →
        IfSome o (λ f. Compares kind held c false → Compares kind held f true)
    each None t = tt
    each (Some f) t = t kind held

-- what holds on the arms holds on the ways
pub out : (kind : Kinds) (held : Words) (holds fails : Option Comparison) (end : End) (t : ℕ)
    (ones others : List Fact) → Arms kind held holds fails end t →
    (IfSome holds (λ c. Compares kind held c true) → AllHold kind held ones) →
    (IfSome fails (λ c. Compares kind held c true) → AllHold kind held others) →
    ((first_target end ≡ Some t) × AllHold kind held ones)
    ⊎ ((second_target end ≡ Some t) × AllHold kind held others)
out kind held holds fails end t ones others (inl a) one other = inl (a.0, one a.1)
out kind held holds fails end t ones others (inr a) one other = inr (a.0, other a.1)

-- what a block begins with holds where control comes
pub entail_at : (kind : Kinds) (begins : Begins) (block : Block) (known : List Fact)
    (ways : Ways) → AreWays kind block known ways → Leave begins block.end ways → (t : ℕ) →
    EntailAt kind (last_of None block.code) block.end t known (begins t)
entail_at kind begins block known ways are leave t held all goes = by (are held t all goes)
  where
    by : ((first_target block.end ≡ Some t) × AllHold kind held ways.one.items)
        ⊎ ((second_target block.end ≡ Some t) × AllHold kind held ways.other.items) →
        AllHold kind held (begins t)
    by (inl w) = (leave kind t).0 w.0 held w.1
    by (inr w) = (leave kind t).1 w.0 held w.1

pub leave_by : (begins : Begins) (end : End) (ways : Ways) (k : Cond) (one other : BlockId) →
    end ≡ Branch k one other → ((kind : Kinds) → Entail kind ways.one.items (begins one.0)) →
    ((kind : Kinds) → Entail kind ways.other.items (begins other.0)) → Leave begins end ways
leave_by begins end ways k one other is first second kind t = (
  λ e. subst (λ n. Entail kind ways.one.items (begins n))
      (number one.0 (sym (ap first_target is) ∙ e)) (first kind),
  λ e. subst (λ n. Entail kind ways.other.items (begins n))
      (number other.0 (sym (ap second_target is) ∙ e)) (second kind),
)
  where
    number : (n : ℕ) → Some n ≡ Some t → n ≡ t
    number n e = cc
