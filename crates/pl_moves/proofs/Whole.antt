-- The moves of pairs are the simultaneous assignment.
use Rattle.std.proofs.Common.{◌≡◌, ◌≢◌, ℕ, ℤ, Bool, true, false, nat_eq, not, ◌&&◌, ◌||◌}
use Rattle.std.proofs.Common.{if◌then◌else◌, List, [], ◌∷◌, length, refl, sym, ap, ◌∙◌, subst}
use Rattle.std.proofs.Common.{arith}
use Rattle.std.specs.List.{filter_map, cons_option}
use Rattle.std.proofs.lemmas.Bool.{eqb-true}
use Rattle.std.proofs.lemmas.Bool.Decides.{nat_tests}
use Rattle.pra_list.proofs.Truths.{if_true, if_false}
use Rattle.pra_base.specs.declared.ids.Place.{Place}
use Rattle.pra_base.specs.Places.{number, has_register, register_of, needs_slot}
use Rattle.pl_moves.specs.declared.transfer.Move.{Move}
use Rattle.pl_moves.specs.declared.transfer.Pair.{Pair}
use Rattle.pl_moves.specs.declared.bring.Bring.{Bring}
use Rattle.pl_moves.specs.Meaning.{Cell, Register, Memory, Fixed, same_cell, reg, with_cell}
use Rattle.pl_moves.specs.Assignment.{into_memory, fills, number_of, origin, source, Assigns}
use Rattle.pl_moves.specs.Sequence.{alone, same_register, store_of, bring_of, reads, ordered}
use Rattle.pl_moves.specs.Sequence.{moves_of}
use Rattle.pl_moves.proofs.Alone.{register_of-alone, reg-alone}
use Rattle.pl_moves.proofs.Shifts.{all_shifted, all_shifted-append, all_moved-everywhere}
use Rattle.pl_moves.proofs.Ordered.{assigned, written, AreApart, kept, reads_same, ordered_is}
use Rattle.pra_list.proofs.Choices.{either}
use Rattle.pl_moves.proofs.Pairs.{VariablesApart, SourcesApart, TargetsApart, Fit, by_store}
use Rattle.pl_moves.proofs.Pairs.{by_bring, has_register-stored}
use Rattle.pra_list.specs.Each.{Each}
use Rattle.pra_list.proofs.Choices.{not_true, and_true}

abbrev pub stores : List Pair → List Move
stores ps = filter_map store_of ps

abbrev pub brings : List Pair → List Bring
brings ps = filter_map bring_of ps

-- ---- tests

pub turned : (a b : ℕ) → nat_eq a b ≡ nat_eq b a
turned a b = grind (arith, nat_tests)

pub unequal : (a b : ℕ) → a ≢ b → nat_eq a b ≡ false
unequal a b h = grind (arith, nat_tests)

last_false : (a b c : Bool) → a ≡ true → b ≡ true → (a && b && c) ≡ false → c ≡ false
last_false true true c e f g = g
last_false true false c e f g = cc
last_false false b c e f g = cc

pub self : (n : ℕ) → nat_eq n n ≡ true
self n = grind (arith, nat_tests)

-- ---- the brings are apart

written_none : (p : Pair) (ps : List Pair) → has_register (number p.to) ≡ true →
    Each (TargetsApart p) ps → written (brings ps) (reg p.to) ≡ false
written_none p [] h a = refl
written_none p (q ∷ qs) h a =
    let ih = written_none p qs h a.1 in
    let some : has_register (number q.to) ≡ true →
    (same_cell (reg p.to) (reg (alone q.to)) || written (brings qs) (reg p.to)) ≡ false =
    λ to. ap (λ c. same_cell (reg p.to) c || written (brings qs) (reg p.to)) (reg-alone q.to)
    ∙ ap (λ b. b || written (brings qs) (reg p.to))
    (last_false (has_register (number p.to)) (has_register (number q.to))
    (same_register p.to q.to) h to a.0)
    ∙ ih in
    by_bring (λ o. written (cons_option o (brings qs)) (reg p.to) ≡ false) q (λ to. ih)
    (λ to from same. ih) (λ to from same. some to) (λ to from slot. some to)
    (λ to from slot. some to)

unread_none : (p : Pair) (ps : List Pair) → has_register (number p.from) ≡ true →
    Each (SourcesApart p) ps → reads (brings ps) p.from ≡ false
unread_none p [] h a = refl
unread_none p (q ∷ qs) h a =
    let ih = unread_none p qs h a.1 in
    by_bring (λ o. reads (cons_option o (brings qs)) p.from ≡ false) q (λ to. ih)
    (λ to from same. ih)
    (λ to from same.
    ap (λ n. nat_eq n (register_of (number p.from)) || reads (brings qs) p.from)
    (register_of-alone q.from)
    ∙ ap (λ b. b || reads (brings qs) p.from)
    (turned (register_of (number q.from)) (register_of (number p.from))
    ∙ last_false (has_register (number p.from)) (has_register (number q.from))
    (same_register p.from q.from) h from a.0)
    ∙ ih)
    (λ to from slot. ih) (λ to from slot. ih)

reads-alone : (bs : List Bring) (q : Place) → reads bs (alone q) ≡ reads bs q
reads-alone bs q = reads_same bs (alone q) q
    (ap (λ n. nat_eq n (register_of (number q))) (register_of-alone q)
    ∙ self (register_of (number q)))

pub apart_brings : (ps : List Pair) → Fit ps → AreApart (brings ps)
apart_brings [] f = tt
apart_brings (p ∷ ps) f =
    let ih = apart_brings ps f.4 in
    let unwritten : has_register (number p.to) ≡ true → written (brings ps) (reg (alone p.to)) ≡
    false =
    λ to. ap (written (brings ps)) (reg-alone p.to) ∙ written_none p ps to f.3 in
    by_bring (λ o. AreApart (cons_option o (brings ps))) p (λ to. ih) (λ to from same. ih)
    (λ to from same. (unwritten to, reads-alone (brings ps) p.from ∙ unread_none p ps from f.2, ih))
    (λ to from slot. (unwritten to, tt, ih))
    (λ to from slot. (unwritten to, tt, ih))

-- ---- the stores

origin_register : (p : Pair) → has_register (number p.from) ≡ true → origin p ≡ reg p.from
origin_register p h = if_true (has_register (number p.from)) _ _ h

source_fixed : (ps : List Pair) (i : ℤ) → source ps (Fixed i) ≡ Fixed i
source_fixed [] i = refl
source_fixed (p ∷ ps) i = source_fixed ps i

module _ {A : Type 0} where
  stores_register : (ps : List Pair) (m : Cell → A) (r : ℕ) →
      all_shifted (stores ps) m (Register r) ≡ m (Register r)
  stores_register [] m r = refl
  stores_register (p ∷ ps) m r =
      by_store (λ o. all_shifted (cons_option o (stores ps)) m (Register r) ≡ m (Register r)) p
      (λ e. stores_register ps (with_cell m (Memory p.var.0) (m (reg (alone p.from)))) r)
      (λ e. stores_register ps m r)

  stores_fixed : (ps : List Pair) (m : Cell → A) (n : ℤ) → all_shifted (stores ps) m (Fixed n) ≡
      m (Fixed n)
  stores_fixed [] m n = refl
  stores_fixed (p ∷ ps) m n =
      by_store (λ o. all_shifted (cons_option o (stores ps)) m (Fixed n) ≡ m (Fixed n)) p
      (λ e. stores_fixed ps (with_cell m (Memory p.var.0) (m (reg (alone p.from)))) n)
      (λ e. stores_fixed ps m n)

  -- the memory of a variable that no pair has
  stores_other : (p : Pair) (ps : List Pair) (m : Cell → A) → Each (VariablesApart p) ps →
      all_shifted (stores ps) m (Memory p.var.0) ≡ m (Memory p.var.0)
  stores_other p [] m a = refl
  stores_other p (q ∷ qs) m a =
      by_store (λ o. all_shifted (cons_option o (stores qs)) m (Memory p.var.0) ≡
      m (Memory p.var.0)) q
      (λ e.
      stores_other p qs (with_cell m (Memory q.var.0) (m (reg (alone q.from)))) a.1
      ∙ if_false (nat_eq p.var.0 q.var.0) _ _ (unequal p.var.0 q.var.0 a.0))
      (λ e. stores_other p qs m a.1)

  -- no memory but its own is a source of a variable's memory
  source_apart : (ps : List Pair) → Fit ps → (m : Cell → A) (u w : ℕ) (x : A) → nat_eq w u ≡ false →
      with_cell m (Memory u) x (source ps (Memory w)) ≡ m (source ps (Memory w))
  source_apart [] f m u w x ne = if_false (nat_eq w u) _ _ ne
  source_apart (p ∷ ps) f m u w x ne =
      either (λ c. with_cell m (Memory u) x c ≡ m c) (fills p (Memory w)) _ _
      (λ e.
      let k = and_true (into_memory p) (nat_eq p.var.0 w) e in
      let o = origin_register p (has_register-stored p f.0 k.0) in
      subst (λ c. with_cell m (Memory u) x c ≡ m c) (sym o) refl)
      (λ e. source_apart ps f.4 m u w x ne)

  stores_memory : (ps : List Pair) → Fit ps → (m : Cell → A) (w : ℕ) →
      all_shifted (stores ps) m (Memory w) ≡ m (source ps (Memory w))
  stores_memory [] f m w = refl
  stores_memory (p ∷ ps) f m w =
      by_store (λ o. all_shifted (cons_option o (stores ps)) m (Memory w) ≡
      m (source (p ∷ ps) (Memory w))) p
      (λ e. head (λ n. stores_memory ps f.4 n w) e (nat_eq p.var.0 w) refl
      ∙ ap (λ b. m (if (b && nat_eq p.var.0 w) then origin p else source ps (Memory w)))
      (sym e))
      (λ e. stores_memory ps f.4 m w
      ∙ ap (λ b. m (if (b && nat_eq p.var.0 w) then origin p else source ps (Memory w)))
      (sym e))
    where
      after_store : Cell → A
      after_store = with_cell m (Memory p.var.0) (m (reg (alone p.from)))

      head : ((n : Cell → A) → all_shifted (stores ps) n (Memory w) ≡ n (source ps (Memory w))) →
          into_memory p ≡ true → (c : Bool) → nat_eq p.var.0 w ≡ c →
          all_shifted (stores ps) after_store (Memory w) ≡
          m (if c then origin p else source ps (Memory w))
      head ih e true h =
          subst (λ v. all_shifted (stores ps) after_store (Memory v) ≡ m (origin p))
          (eqb-true p.var.0 w h)
          (stores_other p ps after_store f.1 ∙ if_true (nat_eq p.var.0 p.var.0) _ _ (self p.var.0)
          ∙ ap m (reg-alone p.from ∙ sym (origin_register p (has_register-stored p f.0 e))))
      head ih e false h = ih after_store ∙ source_apart ps f.4 m p.var.0 w (m (reg (alone p.from)))
          (turned w p.var.0 ∙ h)

  -- a pair that comes from memory finds there what it held
  abbrev Keeps : (Cell → A) → (Cell → A) → Pair → Type 0
  Keeps m n p = needs_slot (number p.from) ≡ true → n (Memory p.var.0) ≡ m (Memory p.var.0)

  kept_also : (p : Pair) (qs : List Pair) (m n : Cell → A) (x : A) → Each (VariablesApart p) qs →
      Each (Keeps (with_cell m (Memory p.var.0) x) n) qs → Each (Keeps m n) qs
  kept_also p [] m n x a k = tt
  kept_also p (q ∷ qs) m n x a k = (
    λ slot. k.0 slot ∙ if_false (nat_eq q.var.0 p.var.0) _ _
        (turned q.var.0 p.var.0 ∙ unequal p.var.0 q.var.0 a.0),
    kept_also p qs m n x a.1 k.1,
  )

  stores_keep : (ps : List Pair) → Fit ps → (m : Cell → A) →
      Each (Keeps m (all_shifted (stores ps) m)) ps
  stores_keep [] f m = tt
  stores_keep (p ∷ ps) f m =
      by_store (λ o. Each (Keeps m (all_shifted (cons_option o (stores ps)) m)) (p ∷ ps)) p
      (λ e.
      let out : needs_slot (number p.from) ≡ false = not_true (needs_slot (number p.from))
      (and_true (needs_slot (number p.to)) (not (needs_slot (number p.from))) e).1 in
      let n : Cell → A = with_cell m (Memory p.var.0) (m (reg (alone p.from))) in (
        λ slot. absurd (clash (needs_slot (number p.from)) slot out),
        kept_also p ps m (all_shifted (stores ps) n) (m (reg (alone p.from))) f.1
            (stores_keep ps f.4 n),
      ))
      (λ e. (λ slot. stores_other p ps m f.1, stores_keep ps f.4 m))
    where
      clash : (b : Bool) → b ≡ true → b ≡ false → ⊥
      clash b h g = cc

  -- ---- the brings, behind the stores

  brought : (ps : List Pair) → Fit ps → (m n : Cell → A) →
      ((r : ℕ) → n (Register r) ≡ m (Register r)) → ((i : ℤ) → n (Fixed i) ≡ m (Fixed i)) →
      Each (Keeps m n) ps →
      (r : ℕ) → assigned (brings ps) n (Register r) ≡ m (source ps (Register r))
  brought [] f m n registers numbers k r = registers r
  brought (p ∷ ps) f m n registers numbers k r =
      let ih = brought ps f.4 m n registers numbers k.1 r in
      by_bring (λ o. assigned (cons_option o (brings ps)) n (Register r) ≡
      m (source (p ∷ ps) (Register r))) p
      (λ to. ih ∙ ap (λ b. m (if (b && nat_eq (register_of (number p.to)) r) then origin p else
      source ps (Register r))) (sym to))
      (λ to from same. there ih to same from (nat_eq (register_of (number p.to)) r) refl
      ∙ filled to)
      (λ to from same.
      some ih (reg (alone p.from))
      (ap n (reg-alone p.from) ∙ registers (register_of (number p.from))
      ∙ ap m (sym (origin_register p from))) ∙ filled to)
      (λ to from slot.
      some ih (Memory p.var.0)
      (k.0 slot ∙ ap m (sym (if_false (has_register (number p.from)) _ _ from
      ∙ if_true (needs_slot (number p.from)) _ _ slot))) ∙ filled to)
      (λ to from slot.
      some ih (Fixed (number_of p.constant))
      (numbers _ ∙ ap m (sym (if_false (has_register (number p.from)) _ _ from
      ∙ if_false (needs_slot (number p.from)) _ _ slot))) ∙ filled to)
    where
      filled : has_register (number p.to) ≡ true →
          m (if nat_eq (register_of (number p.to)) r then origin p else source ps (Register r)) ≡
          m (source (p ∷ ps) (Register r))
      filled to = ap (λ b. m (if (b && nat_eq (register_of (number p.to)) r) then origin p else
          source ps (Register r))) (sym to)

      there : assigned (brings ps) n (Register r) ≡ m (source ps (Register r)) →
          has_register (number p.to) ≡ true → same_register p.to p.from ≡ true →
          has_register (number p.from) ≡ true → (c : Bool) → nat_eq (register_of (number p.to)) r ≡
          c →
          assigned (brings ps) n (Register r) ≡ m (if c then origin p else source ps (Register r))
      there ih to same from true e =
          let here : register_of (number p.to) ≡ r = eqb-true (register_of (number p.to)) r e in
          let home : reg p.from ≡ Register r =
          ap Register (sym (eqb-true (register_of (number p.to)) (register_of (number p.from))
          same) ∙ here) in
          subst (λ s. assigned (brings ps) n (Register s) ≡ n (Register s)) here
          (kept (brings ps) n (reg p.to) (written_none p ps to f.3))
          ∙ registers r ∙ ap m (sym (origin_register p from ∙ home))
      there ih to same from false e = ih

      some : assigned (brings ps) n (Register r) ≡ m (source ps (Register r)) → (c : Cell) →
          n c ≡ m (origin p) →
          (if same_cell (Register r) (reg (alone p.to)) then n c else assigned (brings ps) n
          (Register r)) ≡ m (if nat_eq (register_of (number p.to)) r then origin p else source
          ps (Register r))
      some ih c held =
          ap (λ x. if same_cell (Register r) x then n c else assigned (brings ps) n (Register r))
          (reg-alone p.to)
          ∙ ap (λ b. if b then n c else assigned (brings ps) n (Register r))
          (turned r (register_of (number p.to)))
          ∙ both (nat_eq (register_of (number p.to)) r)
        where
          both : (b : Bool) → (if b then n c else assigned (brings ps) n (Register r)) ≡
              m (if b then origin p else source ps (Register r))
          both true = held
          both false = ih

  brings_memory : (ps : List Pair) (n : Cell → A) (w : ℕ) → assigned (brings ps) n (Memory w) ≡
      n (Memory w)
  brings_memory ps n w = kept (brings ps) n (Memory w) (none (brings ps))
    where
      none : (bs : List Bring) → written bs (Memory w) ≡ false
      none [] = refl
      none (b ∷ bs) = none bs

  brings_fixed : (ps : List Pair) (n : Cell → A) (i : ℤ) → assigned (brings ps) n (Fixed i) ≡
      n (Fixed i)
  brings_fixed ps n i = kept (brings ps) n (Fixed i) (none (brings ps))
    where
      none : (bs : List Bring) → written bs (Fixed i) ≡ false
      none [] = refl
      none (b ∷ bs) = none bs

  at_once : (ps : List Pair) → Fit ps → (m : Cell → A) (x : Cell) →
      assigned (brings ps) (all_shifted (stores ps) m) x ≡ m (source ps x)
  at_once ps f m (Register r) = brought ps f m (all_shifted (stores ps) m)
      (λ s. stores_register ps m s) (λ i. stores_fixed ps m i) (stores_keep ps f m) r
  at_once ps f m (Memory w) = brings_memory ps (all_shifted (stores ps) m) w
      ∙ stores_memory ps f m w
  at_once ps f m (Fixed i) = brings_fixed ps (all_shifted (stores ps) m) i ∙ stores_fixed ps m i
      ∙ ap m (sym (source_fixed ps i))

  pub all_shifted-moves_of : (ps : List Pair) → Fit ps → (m : Cell → A) (x : Cell) →
      all_shifted (moves_of ps) m x ≡ m (source ps x)
  all_shifted-moves_of ps f m x =
      ap (λ k. k x) (all_shifted-append (stores ps) (ordered (brings ps)) m)
      ∙ ordered_is (length (brings ps)) (brings ps) (omega arith) (apart_brings ps f)
      (all_shifted (stores ps) m) x
      ∙ at_once ps f m x

pub assigns : (ps : List Pair) → Fit ps → Assigns (moves_of ps) ps
assigns ps f = record {
  after = all_shifted (moves_of ps) (λ cell. cell);
  runs = all_moved-everywhere (moves_of ps) (λ cell. cell);
  each = λ cell. all_shifted-moves_of ps f (λ c. c) cell;
}
