-- Where the instructions of code without checks that cannot fail come from, and what is needed
-- there.
use Rattle.std.proofs.Common.{◌≡◌, ℕ, zero, suc, ◌+◌, ◌≤◌, ◌⊎◌, inl, inr, true, false, List}
use Rattle.std.proofs.Common.{[], ◌∷◌, drop, length, slice_get, Option, Some, None, refl, sym, ap}
use Rattle.std.proofs.Common.{subst, ◌∙◌, ℤ, arith}
use Rattle.pra_list.proofs.Elements.{nothing_left, left_begins}
use Rattle.pra_list.proofs.Options.{some_same, not_both}
use Rattle.pra_base.specs.declared.ids.VarId.{VarId}
use Rattle.pra_base.specs.declared.code.VInstr.{VInstr}
use Rattle.pra_base.specs.declared.code.VInstr.TheVariants.{Check, CheckPos}
use Rattle.pra_base.specs.declared.code.End.{End}
use Rattle.pra_base.specs.declared.code.VProc.{VProc}
use Rattle.pra_base.specs.Code.{code_of, end_of, IsTarget}
use Rattle.pra_base.specs.Operands.{writes}
use Rattle.pra_base.specs.Live.{Point, Path, passes, reads_at}
use Rattle.pra_base.specs.Live.Goes.{over, leaves}
use Rattle.pra_base.specs.Live.Path.{stays as at_once, then as then_on}
use Rattle.vc_same.specs.Reduction.{Needed}
use Rattle.vc_same.proofs.Kept.{reads_here}
use Rattle.vc_same.proofs.Paths.{needed_read, needed_over, needed_leave}
use Rattle.vc_checks.specs.declared.fact.Fact.{Fact}
use Rattle.vc_checks.specs.Facts.{Kinds, CannotFail}
use Rattle.vc_checks.specs.Facts.CannotFail.{index, positive}
use Rattle.vc_checks.specs.LeftOut.{Begins, Part}
use Rattle.vc_checks.specs.LeftOut.Part.{ends, stays, left_out}

-- ---- lists of instructions, whatever is known

abbrev pub IsCheck : VInstr → Type 0
IsCheck i = ((v : VarId) × (n : ℤ) × (i ≡ Check v n)) ⊎ ((v : VarId) × (i ≡ CheckPos v))

-- the second list is the first one without some of its checks
pub data Thins : List VInstr → List VInstr → Type 0 where
  none : Thins [] []
  keeps : {x : VInstr} {xs ys : List VInstr} → Thins xs ys → Thins (x ∷ xs) (x ∷ ys)
  drops : {x : VInstr} {xs ys : List VInstr} → IsCheck x → Thins xs ys → Thins (x ∷ xs) ys

is_check : (kind : Kinds) (facts : List Fact) (x : VInstr) → CannotFail kind facts x → IsCheck x
is_check kind facts _ (index {v = v} {n = n} know) = inl (v, n, refl)
is_check kind facts _ (positive {v = v} know) = inr (v, refl)

pub thins : (kind : Kinds) (begins : Begins) (end : End) (last : Option VInstr)
    (facts : List Fact) (xs ys : List VInstr) → Part kind begins end last facts xs ys → Thins xs ys
thins kind begins end last facts _ _ (ends entail) = none
thins kind begins end last facts _ _
    (stays {behind = behind} {x = x} {xs = xs} {ys = ys} follow rest) =
    keeps (thins kind begins end (Some x) behind xs ys rest)
thins kind begins end last facts _ ys (left_out {x = x} {xs = xs} out rest) =
    drops (is_check kind facts x out) (thins kind begins end (Some x) facts xs ys rest)

pub shorter : (xs ys : List VInstr) → Thins xs ys → length ys ≤ length xs
shorter _ _ none = omega arith
shorter _ _ (keeps {xs = xs} {ys = ys} rest) =
    let l : length ys ≤ length xs = shorter xs ys rest in omega (arith, l)
shorter _ ys (drops {xs = xs} check rest) =
    let l : length ys ≤ length xs = shorter xs ys rest in omega (arith, l)

-- instruction n of the second list is one of the first, and what follows it comes of what follows
-- there
pub record Origin (xs ys : List VInstr) (n : ℕ) (y : VInstr) : Type 0 where
  pub at : ℕ
  pub is : slice_get xs at ≡ Some y
  pub later : n ≤ at
  pub rest : Thins (drop (suc at) xs) (drop (suc n) ys)

pub origin : (xs ys : List VInstr) (n : ℕ) (y : VInstr) → Thins xs ys → slice_get ys n ≡ Some y →
    Origin xs ys n y
origin _ _ n y none e = absurd (not_both None y refl e)
origin _ _ zero y (keeps rest) e = record {
  at = 0;
  is = e;
  later = omega arith;
  rest = rest;
}
origin _ _ (suc n) y (keeps {xs = xs} {ys = ys} rest) e =
    let o = origin xs ys n y rest e in
    let later : n ≤ o.at = o.later in
    record { at = suc o.at; is = o.is; later = omega (arith, later); rest = o.rest }
origin _ ys n y (drops {xs = xs} check rest) e =
    let o = origin xs ys n y rest e in
    let later : n ≤ o.at = o.later in
    record { at = suc o.at; is = o.is; later = omega (arith, later); rest = o.rest }

-- an instruction that is no check stays, at no later place, and no more follows it
pub record Stays (xs ys : List VInstr) (k : ℕ) (x : VInstr) : Type 0 where
  pub at : ℕ
  pub is : slice_get ys at ≡ Some x
  pub sooner : at ≤ k
  pub behind : length ys + k ≤ length xs + at

pub stays_there : (xs ys : List VInstr) (k : ℕ) (x : VInstr) → Thins xs ys →
    slice_get xs k ≡ Some x → (IsCheck x → ⊥) → Stays xs ys k x
stays_there _ _ k x none e other = absurd (not_both None x refl e)
stays_there _ _ zero x (keeps {xs = xs} {ys = ys} rest) e other =
    let l : length ys ≤ length xs = shorter xs ys rest in
    record { at = 0; is = e; sooner = omega arith; behind = omega (arith, l) }
stays_there _ _ (suc k) x (keeps {xs = xs} {ys = ys} rest) e other =
    let s = stays_there xs ys k x rest e other in
    let sooner : s.at ≤ k = s.sooner in
    let behind : length ys + k ≤ length xs + s.at = s.behind in
    record {
      at = suc s.at;
      is = s.is;
      sooner = omega (arith, sooner);
      behind = omega (arith, behind);
    }
stays_there _ ys zero x (drops {x = z} check rest) e other =
    absurd (other (subst IsCheck (some_same z x e) check))
stays_there _ ys (suc k) x (drops {xs = xs} check rest) e other =
    let s = stays_there xs ys k x rest e other in
    let sooner : s.at ≤ k = s.sooner in
    let behind : length ys + k ≤ length xs + s.at = s.behind in
    record { at = s.at; is = s.is; sooner = omega (arith, sooner); behind = omega (arith, behind) }

-- ---- what is needed

writes_nothing : (x : VInstr) (v : ℕ) → IsCheck x → writes x v ≡ false
writes_nothing x v (inl c) = ap (λ i. writes i v) c.2
writes_nothing x v (inr c) = ap (λ i. writes i v) c.1

module _ (old new : VProc) (code : (b : ℕ) → Thins (code_of old b) (code_of new b))
    (same_ends : (b : ℕ) → end_of new b ≡ end_of old b) where
  -- to the next instruction that stays, or to the end
  skip : (b k v : ℕ) (xs ys : List VInstr) → Thins xs ys → drop k (code_of old b) ≡ xs →
      ((l : ℕ) → drop l (code_of old b) ≡ [] → ys ≡ [] → Needed old b l v) →
      ((l : ℕ) (y : VInstr) (us vs : List VInstr) → drop l (code_of old b) ≡ y ∷ us →
      ys ≡ y ∷ vs → Thins us vs → Needed old b l v) →
      Needed old b k v
  skip b k v _ _ none e at_end at_head = at_end k e refl
  skip b k v _ _ (keeps {x = x} {xs = xs} {ys = ys} rest) e at_end at_head =
      at_head k x xs ys e refl rest
  skip b k v _ ys (drops {x = x} {xs = xs} check rest) e at_end at_head =
      let here = left_begins (code_of old b) xs k x e in
      needed_over old b k v x here.0 (writes_nothing x v check)
      (skip b (suc k) v xs ys rest here.1 at_end at_head)

  found : (v : ℕ) (p q : Point) → Path new v p q → reads_at new v q ≡ true →
      (k : ℕ) (xs ys : List VInstr) → Thins xs ys → drop k (code_of old p.block) ≡ xs →
      drop p.index (code_of new p.block) ≡ ys → Needed old p.block k v
  found v p q at_once read k xs ys part e f =
      let here = reads_here new v p read in
      skip p.block k v xs ys part e
      (λ l g none. absurd (not_both _ here.0 (nothing_left (code_of new p.block) p.index (f ∙ none))
      here.1))
      (λ l y us vs g h rest.
      let y_is : y ≡ here.0 = some_same y here.0
      (sym (left_begins (code_of new p.block) vs p.index y (f ∙ h)).0 ∙ here.1) in
      needed_read old p.block l v here.0
      ((left_begins (code_of old p.block) us l y g).0 ∙ ap Some y_is) here.2)
  found v p q (then_on write (over {i = i} here) more) read k xs ys part e f =
      skip p.block k v xs ys part e
      (λ l g none. absurd (not_both _ i (nothing_left (code_of new p.block) p.index (f ∙ none))
      here))
      (λ l y us vs g h rest.
      let begins = left_begins (code_of new p.block) vs p.index y (f ∙ h) in
      let y_is : y ≡ i = some_same y i (sym begins.0 ∙ here) in
      let old_begins = left_begins (code_of old p.block) us l y g in
      needed_over old p.block l v i (old_begins.0 ∙ ap Some y_is)
      (sym (ap (passes (λ j. writes j v)) here) ∙ write)
      (found v (record { block = p.block; index = suc p.index }) q more read (suc l) us vs
      rest old_begins.1 begins.1))
  found v p q (then_on write (leaves {b = t} here target) more) read k xs ys part e f =
      skip p.block k v xs ys part e
      (λ l g none.
      needed_leave old p.block l t v (nothing_left (code_of old p.block) l g)
      (subst (λ z. IsTarget z t) (same_ends p.block) target)
      (found v (record { block = t; index = 0 }) q more read 0 (code_of old t) (code_of new t)
      (code t) refl refl))
      (λ l y us vs g h rest.
      absurd (not_both _ y here (left_begins (code_of new p.block) vs p.index y (f ∙ h)).0))

  -- what is needed in the new code is needed at the same place of the old code
  pub needed_from : (b k j v : ℕ) → Thins (drop k (code_of old b)) (drop j (code_of new b)) →
      Needed new b j v → Needed old b k v
  needed_from b k j v part needed = found v (record { block = b; index = j }) needed.to needed.path
      needed.read k (drop k (code_of old b)) (drop j (code_of new b)) part refl refl
