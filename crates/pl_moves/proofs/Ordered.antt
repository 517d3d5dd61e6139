-- Values that are brought into registers in order are brought there at once.
use Rattle.std.proofs.Common.{◌≡◌, ℕ, zero, suc, ◌≤◌, Bool, true, false, nat_eq, ◌||◌}
use Rattle.std.proofs.Common.{if◌then◌else◌, List, [], ◌∷◌, length, map, refl, sym, ap, ◌∙◌, arith}
use Rattle.std.proofs.lemmas.Bool.{eqb-true}
use Rattle.std.proofs.lemmas.Bool.Decides.{nat_tests}
use Rattle.pra_base.specs.declared.ids.Place.{Place}
use Rattle.pra_base.specs.Places.{number, register_of}
use Rattle.pl_moves.specs.declared.transfer.Move.{Move}
use Rattle.pl_moves.specs.declared.transfer.Move.TheVariants.{Swap}
use Rattle.pl_moves.specs.declared.bring.Origin.{Origin}
use Rattle.pl_moves.specs.declared.bring.Origin.TheVariants as origin
use Rattle.pl_moves.specs.declared.bring.Bring.{Bring}
use Rattle.pl_moves.specs.Meaning.{Cell, Register, Memory, Fixed, same_cell, reg, with_cell}
use Rattle.pl_moves.specs.Sequence.{same_register, comes_from, reads, writes, redirected}
use Rattle.pl_moves.specs.Sequence.{bring_move, swap_move, sequence}
use Rattle.pl_moves.proofs.Shifts.{shifted, all_shifted, all_shifted-append}
use Rattle.pra_list.proofs.Choices.{or_false, either}

abbrev pub cell_of : Origin → Cell
cell_of (origin.Register q) = reg q
cell_of (origin.Memory v) = Memory v.0
cell_of (origin.Number n) = Fixed n

-- all at once
abbrev pub assigned : {A : Type 0} → List Bring → (Cell → A) → Cell → A
assigned [] m x = m x
assigned (b ∷ bs) m x = if same_cell x (reg b.to) then m (cell_of b.from) else assigned bs m x

abbrev pub written : List Bring → Cell → Bool
written [] x = false
written (b ∷ bs) x = same_cell x (reg b.to) || written bs x

-- nothing else comes from the register that it comes from
abbrev pub Unread : Origin → List Bring → Type 0
Unread (origin.Register q) bs = reads bs q ≡ false
Unread _ bs = Unit {0}

-- no two are brought into one register, and no two come from one
abbrev pub AreApart : List Bring → Type 0
AreApart [] = Unit {0}
AreApart (b ∷ bs) = (written bs (reg b.to) ≡ false) × Unread b.from bs × AreApart bs

-- ---- tests

differ : (a b : Bool) → a ≡ true → b ≡ false → a ≡ b → ⊥
differ a b e f g = cc

pub comes_from_is : (o : Origin) (r : Place) → comes_from o r ≡ same_cell (cell_of o) (reg r)
comes_from_is (origin.Register q) r = refl
comes_from_is (origin.Memory v) r = refl
comes_from_is (origin.Number n) r = refl

pub writes_is : (bs : List Bring) (o : Origin) → writes bs o ≡ written bs (cell_of o)
writes_is [] o = refl
writes_is (b ∷ bs) o = ap (λ t. t || writes bs o) (comes_from_is o b.to)
    ∙ ap (λ t. same_cell (cell_of o) (reg b.to) || t) (writes_is bs o)

pub same_is : (x y : Cell) → same_cell x y ≡ true → x ≡ y
same_is (Register a) (Register b) h = ap Register (eqb-true a b h)
same_is (Register a) (Memory b) h = cc
same_is (Register a) (Fixed b) h = cc
same_is (Memory a) (Memory b) h = ap Memory (eqb-true a b h)
same_is (Memory a) (Register b) h = cc
same_is (Memory a) (Fixed b) h = cc
same_is (Fixed a) y h = cc

pub same_self : (r : Place) → same_cell (reg r) (reg r) ≡ true
same_self r = grind (arith, nat_tests)

pub comes_is : (o : Origin) (r : Place) → comes_from o r ≡ true → cell_of o ≡ reg r
comes_is o r h = same_is (cell_of o) (reg r) (sym (comes_from_is o r) ∙ h)

-- ---- what is not written keeps its value

pub kept : {A : Type 0} (bs : List Bring) (m : Cell → A) (x : Cell) → written bs x ≡ false →
    assigned bs m x ≡ m x
kept [] m x h = refl
kept (b ∷ bs) m x h =
    let k = or_false (same_cell x (reg b.to)) (written bs x) h in
    ap (λ t. if t then m (cell_of b.from) else assigned bs m x) k.0 ∙ kept bs m x k.1

joins : {A : Type 0} (b w : Bool) (y z u : A) → (if b then y else (if w then z else u)) ≡
    (if (b || w) then (if b then y else z) else u)
joins true w y z u = refl
joins false w y z u = refl

-- another value in a register that is not read
put_before : {A : Type 0} (bs : List Bring) (m : Cell → A) (t : Place) (v : A) (x : Cell) →
    reads bs t ≡ false →
    assigned bs (with_cell m (reg t) v) x ≡
    (if written bs x then assigned bs m x else with_cell m (reg t) v x)
put_before [] m t v x h = refl
put_before (b ∷ bs) m t v x h =
    let k = or_false (comes_from b.from t) (reads bs t) h in
    let from : with_cell m (reg t) v (cell_of b.from) ≡ m (cell_of b.from) =
    ap (λ c. if c then v else m (cell_of b.from)) (sym (comes_from_is b.from t) ∙ k.0) in
    ap (λ w. if same_cell x (reg b.to) then w else assigned bs (with_cell m (reg t) v) x) from
    ∙ ap (λ w. if same_cell x (reg b.to) then m (cell_of b.from) else w) (put_before bs m t v x k.1)
    ∙ joins (same_cell x (reg b.to)) (written bs x) (m (cell_of b.from)) (assigned bs m x)
    (with_cell m (reg t) v x)

module _ {A : Type 0} (t f : Place) (m : Cell → A) where
  abbrev swapped : Cell → A
  swapped = shifted (Swap t f) m

  swap_before : (bs : List Bring) (x : Cell) → reads bs f ≡ false →
      assigned (map (redirected t (origin.Register f)) bs) swapped x ≡
      (if written bs x then assigned bs m x else swapped x)
  swap_before [] x h = refl
  swap_before (b ∷ bs) x h =
      let k = or_false (comes_from b.from f) (reads bs f) h in
      at_head (comes_from b.from t) refl k.0
      ∙ ap (λ w. if same_cell x (reg b.to) then m (cell_of b.from) else w) (swap_before bs x k.1)
      ∙ joins (same_cell x (reg b.to)) (written bs x) (m (cell_of b.from)) (assigned bs m x)
      (swapped x)
    where
      at_head : (c : Bool) → comes_from b.from t ≡ c → comes_from b.from f ≡ false →
          assigned ((if c then record { to = b.to; from = origin.Register f } else b) ∷ map
          (redirected t (origin.Register f)) bs) swapped x
          ≡ (if same_cell x (reg b.to) then m (cell_of b.from) else assigned
          (map (redirected t (origin.Register f)) bs) swapped x)
      at_head true e g =
          ap (λ w. if same_cell x (reg b.to) then w else assigned
          (map (redirected t (origin.Register f)) bs) swapped x)
          (ap (λ c. if c then m (reg t) else with_cell m (reg t) (m (reg f)) (reg f)) (same_self f)
          ∙ ap m (sym (comes_is b.from t e)))
      at_head false e g =
          ap (λ w. if same_cell x (reg b.to) then w else assigned
          (map (redirected t (origin.Register f)) bs) swapped x)
          (ap (λ c. if c then m (reg t) else with_cell m (reg t) (m (reg f)) (cell_of b.from))
          (sym (comes_from_is b.from f) ∙ g)
          ∙ ap (λ c. if c then m (reg f) else m (cell_of b.from))
          (sym (comes_from_is b.from t) ∙ e))

-- ---- redirected

-- another name of the register
pub reads_same : (bs : List Bring) (q r : Place) → same_register q r ≡ true → reads bs q ≡
    reads bs r
reads_same [] q r e = refl
reads_same (b ∷ bs) q r e =
    ap (λ w. comes_from b.from q || w) (reads_same bs q r e) ∙ ap (λ c. c || reads bs r)
    (same (b.from))
  where
    same : (o : Origin) → comes_from o q ≡ comes_from o r
    same (origin.Register p) = ap (λ n. nat_eq (register_of (number p)) n)
        (eqb-true (register_of (number q)) (register_of (number r)) e)
    same (origin.Memory v) = refl
    same (origin.Number n) = refl

pub flip : (q r : Place) → same_register q r ≡ same_register r q
flip q r = turned (register_of (number q)) (register_of (number r))
  where
    turned : (a b : ℕ) → nat_eq a b ≡ nat_eq b a
    turned a b = grind (arith, nat_tests)

module _ (t f : Place) where
  red : Bring → Bring
  red b = redirected t (origin.Register f) b

  red_to : (c : Bool) (b : Bring) →
      (if c then record { to = b.to; from = origin.Register f } else b).to ≡ b.to
  red_to true b = refl
  red_to false b = refl

  pub written_red : (bs : List Bring) (x : Cell) →
      written (map (redirected t (origin.Register f)) bs) x ≡ written bs x
  written_red [] x = refl
  written_red (b ∷ bs) x =
      ap (λ z. same_cell x (reg z) || written (map (redirected t (origin.Register f)) bs) x)
      (red_to (comes_from b.from t) b)
      ∙ ap (λ w. same_cell x (reg b.to) || w) (written_red bs x)

  reads_red : (bs : List Bring) (y : Place) → reads bs y ≡ false → same_register f y ≡ false →
      reads (map (redirected t (origin.Register f)) bs) y ≡ false
  reads_red [] y h g = refl
  reads_red (b ∷ bs) y h g =
      let k = or_false (comes_from b.from y) (reads bs y) h in
      ap (λ w. comes_from (redirected t (origin.Register f) b).from y || w) (reads_red bs y k.1 g)
      ∙ head (comes_from b.from t) k.0
    where
      head : (c : Bool) → comes_from b.from y ≡ false →
          (comes_from (if c then record { to = b.to; from = origin.Register f } else b).from y ||
          false) ≡ false
      head true e = ap (λ c. c || false) g
      head false e = ap (λ c. c || false) e

  -- where t is not read nothing is redirected
  reads_none : (bs : List Bring) (y : Place) → reads bs t ≡ false → reads bs y ≡ false →
      reads (map (redirected t (origin.Register f)) bs) y ≡ false
  reads_none [] y n h = refl
  reads_none (b ∷ bs) y n h =
      let k = or_false (comes_from b.from y) (reads bs y) h in
      let l = or_false (comes_from b.from t) (reads bs t) n in
      ap (λ c. comes_from (if c then record { to = b.to; from = origin.Register f } else b).from
      y || reads (map (redirected t (origin.Register f)) bs) y) l.0
      ∙ ap (λ w. comes_from b.from y || w) (reads_none bs y l.1 k.1) ∙ ap (λ c. c || false) k.0

  unread_red : (o : Origin) (bs : List Bring) → comes_from o t ≡ false → comes_from o f ≡ false →
      Unread o bs → Unread o (map (redirected t (origin.Register f)) bs)
  unread_red (origin.Register q) bs e g u = reads_red bs q u (flip f q ∙ g)
  unread_red (origin.Memory v) bs e g u = tt
  unread_red (origin.Number n) bs e g u = tt

  unread_then : (o : Origin) (bs : List Bring) → comes_from o t ≡ true → Unread o bs → reads bs t ≡
      false
  unread_then (origin.Register q) bs e u = sym (reads_same bs q t e) ∙ u
  unread_then (origin.Memory v) bs e u = cc
  unread_then (origin.Number n) bs e u = cc

  apart_red : (bs : List Bring) → reads bs f ≡ false → AreApart bs →
      AreApart (map (redirected t (origin.Register f)) bs)
  apart_red [] h a = tt
  apart_red (b ∷ bs) h a =
      let k = or_false (comes_from b.from f) (reads bs f) h in (
        ap (λ z. written (map (redirected t (origin.Register f)) bs) (reg z))
            (red_to (comes_from b.from t) b) ∙ written_red bs (reg b.to) ∙ a.0,
        head (comes_from b.from t) refl k.0 k.1,
        apart_red bs k.1 a.2,
      )
    where
      head : (c : Bool) → comes_from b.from t ≡ c → comes_from b.from f ≡ false → reads bs f ≡
          false →
          Unread (if c then record { to = b.to; from = origin.Register f } else b).from
          (map (redirected t (origin.Register f)) bs)
      head true e g h = reads_none bs f (unread_then b.from bs e a.1) h
      head false e g h = unread_red b.from bs e g a.1

  pub length_red : (bs : List Bring) → length (map (redirected t (origin.Register f)) bs) ≡
      length bs
  length_red [] = refl
  length_red (b ∷ bs) = omega (arith, length_red bs)

-- ---- the ways to begin

abbrev IsDone : (A : Type 0) → List Move → List Bring → Type 0
IsDone A ms bs = (m : Cell → A) (x : Cell) → all_shifted ms m x ≡ assigned bs m x

module _ {A : Type 0} where
  stays : (b : Bring) (bs : List Bring) (m : Cell → A) (x : Cell) → written bs (reg b.to) ≡ false →
      comes_from b.from b.to ≡ true → assigned bs m x ≡ assigned (b ∷ bs) m x
  stays b bs m x w e = head (same_cell x (reg b.to)) refl
    where
      head : (c : Bool) → same_cell x (reg b.to) ≡ c → assigned bs m x ≡
          (if c then m (cell_of b.from) else assigned bs m x)
      head true h = ap (assigned bs m) (same_is x (reg b.to) h) ∙ kept bs m (reg b.to) w
          ∙ ap m (sym (comes_is b.from b.to e))
      head false h = refl

  bring_shifted : (r : Place) (o : Origin) (m : Cell → A) → shifted (bring_move r o) m ≡
      with_cell m (reg r) (m (cell_of o))
  bring_shifted r (origin.Register q) m = refl
  bring_shifted r (origin.Memory v) m = refl
  bring_shifted r (origin.Number n) m = refl

  puts : (b : Bring) (bs : List Bring) (m : Cell → A) (x : Cell) → written bs (reg b.to) ≡ false →
      reads bs b.to ≡ false →
      assigned bs (with_cell m (reg b.to) (m (cell_of b.from))) x ≡ assigned (b ∷ bs) m x
  puts b bs m x w r = put_before bs m b.to (m (cell_of b.from)) x r ∙ head (same_cell x (reg b.to))
      refl (written bs x) refl
    where
      head : (c : Bool) → same_cell x (reg b.to) ≡ c → (d : Bool) → written bs x ≡ d →
          (if d then assigned bs m x else (if c then m (cell_of b.from) else m x)) ≡
          (if c then m (cell_of b.from) else assigned bs m x)
      head true e true g = absurd (differ (written bs x) (written bs (reg b.to)) g w
          (ap (written bs) (same_is x (reg b.to) e)))
      head true e false g = refl
      head false e true g = refl
      head false e false g = sym (kept bs m x g)

  swaps : (t f : Place) (bs : List Bring) (m : Cell → A) (x : Cell) → written bs (reg t) ≡ false →
      reads bs f ≡ false → same_register f t ≡ false → written bs (reg f) ≡ true →
      assigned (map (redirected t (origin.Register f)) bs) (shifted (Swap t f) m) x ≡
      (if same_cell x (reg t) then m (reg f) else assigned bs m x)
  swaps t f bs m x w r d k = swap_before t f m bs x r ∙ head (same_cell x (reg t)) refl
      (written bs x) refl (same_cell x (reg f)) refl
    where
      turned : same_cell (reg t) (reg f) ≡ false
      turned = flip t f ∙ d

      head : (c : Bool) → same_cell x (reg t) ≡ c → (e : Bool) → written bs x ≡ e → (g : Bool) →
          same_cell x (reg f) ≡ g →
          (if e then assigned bs m x else (if g then m (reg t) else (if c then m (reg f) else m x)))
          ≡ (if c then m (reg f) else assigned bs m x)
      head true e true i g h =
          absurd (differ (written bs x) (written bs (reg t)) i w
          (ap (written bs) (same_is x (reg t) e)))
      head true e false i true h =
          absurd (differ (same_cell x (reg f)) (same_cell (reg t) (reg f)) h turned
          (ap (λ y. same_cell y (reg f)) (same_is x (reg t) e)))
      head true e false i false h = refl
      head false e true i g h = refl
      head false e false i true h =
          absurd (differ (written bs (reg f)) (written bs x) k i
          (ap (written bs) (sym (same_is x (reg f) h))))
      head false e false i false h = sym (kept bs m x i)

  -- in a cycle: the first swaps, and the rest is redirected
  cycles : (n : ℕ) (t : Place) (o : Origin) (bs : List Bring) → comes_from o t ≡ false →
      written bs (reg t) ≡ false → Unread o bs → writes bs o ≡ true →
      ((f : Place) → reads bs f ≡ false →
      IsDone A (sequence n (map (redirected t (origin.Register f)) bs))
      (map (redirected t (origin.Register f)) bs)) →
      (m : Cell → A) (x : Cell) → all_shifted (swap_move t o ∷ sequence n (map (redirected t o) bs))
      m x ≡ (if same_cell x (reg t) then m (cell_of o) else assigned bs m x)
  cycles n t (origin.Register f) bs d w u k more m x = more f u (shifted (Swap t f) m) x
      ∙ swaps t f bs m x w u d (sym (writes_is bs (origin.Register f)) ∙ k)
  cycles n t (origin.Memory v) bs d w u k more m x =
      absurd (differ (writes bs (origin.Memory v)) false k refl (none bs))
    where
      none : (bs : List Bring) → writes bs (origin.Memory v) ≡ false
      none [] = refl
      none (b ∷ bs) = none bs
  cycles n t (origin.Number v) bs d w u k more m x =
      absurd (differ (writes bs (origin.Number v)) false k refl (none bs))
    where
      none : (bs : List Bring) → writes bs (origin.Number v) ≡ false
      none [] = refl
      none (b ∷ bs) = none bs

pub ordered_is : {A : Type 0} (n : ℕ) (bs : List Bring) → length bs ≤ n → AreApart bs →
    (m : Cell → A) (x : Cell) → all_shifted (sequence n bs) m x ≡ assigned bs m x
unfolding sequence
ordered_is zero [] l a m x = refl
ordered_is zero (b ∷ bs) l a m x = absurd (omega arith)
ordered_is (suc n) [] l a m x = refl
ordered_is {A = A} (suc n) (b ∷ bs) l a m x =
    let ih : IsDone A (sequence n bs) bs = ordered_is n bs (omega arith) a.2 in
    let Q : List Move → Type 0 = λ ms. all_shifted ms m x ≡ assigned (b ∷ bs) m x in
    either Q (comes_from b.from b.to) _ _
    (λ e. ih m x ∙ stays b bs m x a.0 e)
    (λ d. either Q (reads bs b.to) _ _
    (λ r. either Q (writes bs b.from) _ _
    (λ w. cycles n b.to b.from bs d a.0 a.1 w
    (λ f u. ordered_is n (map (redirected b.to (origin.Register f)) bs)
    (omega (arith, length_red b.to f bs)) (apart_red b.to f bs u a.2)) m x)
    (λ w.
    let free : written bs (cell_of b.from) ≡ false = sym (writes_is bs b.from) ∙ w in
    ap (λ k. k x) (all_shifted-append (sequence n bs) (bring_move b.to b.from ∷ []) m)
    ∙ ap (λ k. k x) (bring_shifted b.to b.from (all_shifted (sequence n bs) m))
    ∙ ap (λ v. if same_cell x (reg b.to) then v else all_shifted (sequence n bs) m x)
    (ih m (cell_of b.from) ∙ kept bs m (cell_of b.from) free)
    ∙ ap (λ v. if same_cell x (reg b.to) then m (cell_of b.from) else v) (ih m x)))
    (λ r.
    ap (λ k. all_shifted (sequence n bs) k x) (bring_shifted b.to b.from m)
    ∙ ih (with_cell m (reg b.to) (m (cell_of b.from))) x ∙ puts b bs m x a.0 r))
