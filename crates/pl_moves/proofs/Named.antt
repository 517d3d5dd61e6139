-- What the moves of pairs name, and that they are few.
use Rattle.std.proofs.Common.{◌≡◌, ℕ, zero, suc, ◌+◌, ◌≤◌, ◌⊎◌, inl, inr, ⊎_elim, Bool, true, false}
use Rattle.std.proofs.Common.{nat_eq, not, ◌&&◌, if◌then◌else◌, List, [], ◌∷◌, ◌++◌, length, map}
use Rattle.std.proofs.Common.{Option, Some, None, refl, sym, ap, ◌∙◌, subst, arith, sum_by}
use Rattle.std.specs.Prelude.{All, slice_index_or}
use Rattle.std.specs.List.{cons_option}
use Rattle.std.proofs.lemmas.Bool.{eqb-true}
use Rattle.std.proofs.lemmas.List.{get_or_default}
use Rattle.std.proofs.lemmas.List.Sums.{sum_by-cons}
use Rattle.pra_list.proofs.Truths.{if_true, if_false}
use Rattle.pra_base.specs.declared.ids.Place.{Place}
use Rattle.pra_base.specs.declared.ids.Place.TheVariants.{Eax, Ecx, Edx, Ebx, Esi, Edi, Mem, Const}
use Rattle.pra_base.specs.declared.ids.Place.TheVariants.{EaxM, EcxM, EdxM, EbxM, EsiM, EdiM}
use Rattle.pra_base.specs.Places.{number, has_register, is_register, register_of, is_both}
use Rattle.pra_base.specs.Places.{needs_slot}
use Rattle.pl_moves.specs.declared.transfer.Move.{Move}
use Rattle.pl_moves.specs.declared.transfer.Pair.{Pair}
use Rattle.pl_moves.specs.declared.bring.Origin.{Origin}
use Rattle.pl_moves.specs.declared.bring.Origin.TheVariants as origin
use Rattle.pl_moves.specs.declared.bring.Bring.{Bring}
use Rattle.pl_moves.specs.Assignment.{into_memory}
use Rattle.pl_moves.specs.Crossbar.{InRegisters, InMemory, NamesMemory, most_moves}
use Rattle.pl_moves.specs.Sequence.{same_register, store_of, bring_of, comes_from, reads, writes}
use Rattle.pl_moves.specs.Sequence.{redirected, bring_move, swap_move, sequence, ordered, moves_of}
use Rattle.pl_moves.proofs.Alone.{is_register-alone}
use Rattle.pra_list.proofs.Choices.{either}
use Rattle.pl_moves.proofs.Pairs.{Suits, Fit, by_store, by_bring, has_register-stored}
use Rattle.pra_list.specs.Each.{Each}
use Rattle.pra_list.proofs.Each.{each_of_all, all_of_each}
use Rattle.pra_list.proofs.Choices.{not_true, and_true}
use Rattle.pl_moves.proofs.Counts.{Agrees, tally, sequence_at_most}
use Rattle.pl_moves.proofs.Whole.{stores, brings, turned, self}

-- ---- what moves name

each_append : {X : Type 0} (P : X → Type 0) (xs ys : List X) → Each P xs → Each P ys →
    Each P (xs ++ ys)
each_append P [] ys h g = g
each_append P (x ∷ xs) ys h g = (h.0, each_append P xs ys h.1 g)

module _ (pairs : List Pair) where
  abbrev IsGood : Move → Type 0
  IsGood m = InRegisters m × NamesMemory pairs m

  abbrev Comes : Origin → Type 0
  Comes (origin.Register q) = is_register (number q) ≡ true
  Comes (origin.Memory v) = InMemory pairs v
  Comes (origin.Number n) = Unit {0}

  abbrev Brings : Bring → Type 0
  Brings b = (is_register (number b.to) ≡ true) × Comes b.from

  good_bring : (r : Place) (o : Origin) → is_register (number r) ≡ true → Comes o →
      IsGood (bring_move r o)
  good_bring r (origin.Register q) h g = ((h, g), tt)
  good_bring r (origin.Memory v) h g = (h, g)
  good_bring r (origin.Number n) h g = (h, tt)

  good_swap : (r : Place) (o : Origin) → is_register (number r) ≡ true → Comes o →
      IsGood (swap_move r o)
  good_swap r (origin.Register q) h g = ((h, g), tt)
  good_swap r (origin.Memory v) h g = (h, g)
  good_swap r (origin.Number n) h g = (h, tt)

  good_red : (t : Place) (o : Origin) (bs : List Bring) → Comes o → Each Brings bs →
      Each Brings (map (redirected t o) bs)
  good_red t o [] g h = tt
  good_red t o (b ∷ bs) g h =
      (either Brings (comes_from b.from t) _ _ (λ e. (h.0.0, g)) (λ e. h.0), good_red t o bs g h.1)

  length_any : (t : Place) (o : Origin) (bs : List Bring) → length (map (redirected t o) bs) ≡
      length bs
  length_any t o [] = refl
  length_any t o (b ∷ bs) = omega (arith, length_any t o bs)

  good_sequence : (n : ℕ) (bs : List Bring) → length bs ≤ n → Each Brings bs →
      Each IsGood (sequence n bs)
  unfolding sequence
  good_sequence zero bs l h = tt
  good_sequence (suc n) [] l h = tt
  good_sequence (suc n) (b ∷ bs) l h =
      let ih = good_sequence n bs (omega arith) h.1 in
      either (Each IsGood) (comes_from b.from b.to) _ _
      (λ e. ih)
      (λ d. either (Each IsGood) (reads bs b.to) _ _
      (λ r. either (Each IsGood) (writes bs b.from) _ _
      (λ w. (
        good_swap b.to b.from h.0.0 h.0.1,
        good_sequence n (map (redirected b.to b.from) bs) (omega (arith, length_any b.to b.from bs))
            (good_red b.to b.from bs h.0.1 h.1),
      ))
      (λ w. each_append IsGood (sequence n bs) (bring_move b.to b.from ∷ []) ih
      (good_bring b.to b.from h.0.0 h.0.1, tt)))
      (λ r. (good_bring b.to b.from h.0.0 h.0.1, ih)))

  -- a pair with memory is known
  abbrev Known : Pair → Type 0
  Known p = (needs_slot (number p.from) ≡ true) ⊎ (needs_slot (number p.to) ≡ true) →
      InMemory pairs p.var

  good_brings : (ps : List Pair) → Each Known ps → Each Brings (brings ps)
  good_brings [] k = tt
  good_brings (p ∷ ps) k =
      let ih = good_brings ps k.1 in
      by_bring (λ o. Each Brings (cons_option o (brings ps))) p (λ to. ih) (λ to from same. ih)
      (λ to from same. ((is_register-alone p.to to, is_register-alone p.from from), ih))
      (λ to from slot. ((is_register-alone p.to to, k.0 (inl slot)), ih))
      (λ to from slot. ((is_register-alone p.to to, tt), ih))

  good_stores : (ps : List Pair) → Fit ps → Each Known ps → Each IsGood (stores ps)
  good_stores [] f k = tt
  good_stores (p ∷ ps) f k =
      let ih = good_stores ps f.4 k.1 in
      by_store (λ o. Each IsGood (cons_option o (stores ps))) p
      (λ e. (
        (
          is_register-alone p.from (has_register-stored p f.0 e),
          k.0 (inr (and_true (needs_slot (number p.to)) (not (needs_slot (number p.from))) e).0),
        ),
        ih,
      ))
      (λ e. ih)

  good_moves : (ps : List Pair) → Fit ps → Each Known ps → Each IsGood (moves_of ps)
  good_moves ps f k = each_append IsGood (stores ps) (ordered (brings ps)) (good_stores ps f k)
      (good_sequence (length (brings ps)) (brings ps) (omega arith) (good_brings ps k))

-- each pair of a list is known to it
all_known : (pairs : List Pair) → All (Known pairs) pairs
all_known pairs k d lt memory = (
  k,
  slice_index_or pairs k d,
  lt,
  get_or_default pairs k (slice_index_or pairs k d) d lt,
  (refl, memory),
)

pub good : (pairs : List Pair) → Fit pairs → Each (IsGood pairs) (moves_of pairs)
good pairs f = good_moves pairs pairs f (each_of_all (Known pairs) pairs (all_known pairs))

firsts : {X : Type 0} (P Q : X → Type 0) (xs : List X) → Each (λ x. P x × Q x) xs → Each P xs ×
    Each Q xs
firsts P Q [] h = (tt, tt)
firsts P Q (x ∷ xs) h = let k = firsts P Q xs h.1 in ((h.0.0, k.0), (h.0.1, k.1))

pub in_registers : (pairs : List Pair) → Fit pairs → All InRegisters (moves_of pairs)
in_registers pairs f = all_of_each InRegisters (moves_of pairs)
    (firsts InRegisters (NamesMemory pairs) (moves_of pairs) (good pairs f)).0

pub names : (pairs : List Pair) → Fit pairs → All (NamesMemory pairs) (moves_of pairs)
names pairs f = all_of_each (NamesMemory pairs) (moves_of pairs)
    (firsts InRegisters (NamesMemory pairs) (moves_of pairs) (good pairs f)).1

-- ---- how many moves there are

abbrev any_move : Move → Bool
any_move m = true

abbrev any_origin : Origin → Bool
any_origin o = true

tally_all : {X : Type 0} (xs : List X) → tally (λ x. true) xs ≡ length xs
tally_all [] = refl
tally_all (x ∷ xs) = omega (arith, tally_all xs)

all_agree : Agrees any_move any_origin
all_agree = record { bring = λ r o. refl; swap = λ r q. refl; registers = λ q r. refl }

ordered_few : (bs : List Bring) → length (ordered bs) ≤ length bs
ordered_few bs = omega (
  arith,
  sequence_at_most any_move any_origin all_agree (length bs) bs
      (omega arith),
  tally_all (ordered bs),
  tally_all bs,
)

length-append-moves : (xs ys : List Move) → length (xs ++ ys) ≡ length xs + length ys
length-append-moves [] ys = omega arith
length-append-moves (x ∷ xs) ys = omega (arith, length-append-moves xs ys)

is_register-of : (q : Place) → has_register (number q) ≡ true → needs_slot (number q) ≡ false →
    is_register (number q) ≡ true
is_register-of Eax h g = refl
is_register-of Ecx h g = refl
is_register-of Edx h g = refl
is_register-of Ebx h g = refl
is_register-of Esi h g = refl
is_register-of Edi h g = refl
is_register-of Mem h g = cc
is_register-of Const h g = cc
is_register-of EaxM h g = cc
is_register-of EcxM h g = cc
is_register-of EdxM h g = cc
is_register-of EbxM h g = cc
is_register-of EsiM h g = cc
is_register-of EdiM h g = cc

is_both-of : (q : Place) → has_register (number q) ≡ true → needs_slot (number q) ≡ true →
    is_both (number q) ≡ true
is_both-of Eax h g = cc
is_both-of Ecx h g = cc
is_both-of Edx h g = cc
is_both-of Ebx h g = cc
is_both-of Esi h g = cc
is_both-of Edi h g = cc
is_both-of Mem h g = cc
is_both-of Const h g = cc
is_both-of EaxM h g = refl
is_both-of EcxM h g = refl
is_both-of EdxM h g = refl
is_both-of EbxM h g = refl
is_both-of EsiM h g = refl
is_both-of EdiM h g = refl

clash : (b : Bool) → b ≡ true → b ≡ false → ⊥
clash b h g = cc

abbrev crossed : Pair → Bool
crossed p = is_register (number p.from) && is_both (number p.to) && not
    (nat_eq (register_of (number p.from)) (register_of (number p.to)))

one_or_more : (p : Pair) → nat_eq (number p.from) (number p.to) ≡ false → 1 ≤ most_moves p
one_or_more p h = subst (λ n. 1 ≤ n) (sym (if_false (nat_eq (number p.from) (number p.to)) _ _ h))
    (some (crossed p))
  where
    some : (b : Bool) → 1 ≤ (if b then 2 else 1)
    some true = omega arith
    some false = omega arith

two : (p : Pair) → nat_eq (number p.from) (number p.to) ≡ false → crossed p ≡ true →
    2 ≤ most_moves p
two p h c = subst (λ n. 2 ≤ n)
    (sym (if_false (nat_eq (number p.from) (number p.to)) _ _ h ∙ if_true (crossed p) _ _ c))
    (omega arith)

told : (a b : ℕ) → (a ≡ b) ⊎ (nat_eq a b ≡ false)
told a b = by_test (nat_eq a b) refl
  where
    by_test : (c : Bool) → nat_eq a b ≡ c → (a ≡ b) ⊎ (nat_eq a b ≡ false)
    by_test true e = inl (eqb-true a b e)
    by_test false e = inr e

-- a test of places that tells them apart
tell_apart : (P : ℕ → Bool) (a b : ℕ) → P a ≡ true → P b ≡ false → nat_eq a b ≡ false
tell_apart P a b h g = ⊎_elim (λ (e : a ≡ b). absurd (clash (P b) (ap P (sym e) ∙ h) g))
    (λ (e : nat_eq a b ≡ false). e) (told a b)

all_true : (a b c : Bool) → a ≡ true → b ≡ true → c ≡ true → (a && b && c) ≡ true
all_true true true true h g f = refl
all_true false b c h g f = cc
all_true true false c h g f = cc
all_true true true false h g f = cc

not_false : (b : Bool) → b ≡ false → not b ≡ true
not_false true h = cc
not_false false h = refl

-- places in different registers are different
registers_apart : (p : Pair) → same_register p.to p.from ≡ false →
    nat_eq (number p.from) (number p.to) ≡ false
registers_apart p h =
    ⊎_elim
    (λ (e : number p.from ≡ number p.to).
    absurd (clash (same_register p.to p.from)
    (ap (λ n. nat_eq (register_of n) (register_of (number p.from))) (sym e)
    ∙ self (register_of (number p.from))) h))
    (λ (e : nat_eq (number p.from) (number p.to) ≡ false). e)
    (told (number p.from) (number p.to))

abbrev moves_for : Pair → ℕ
moves_for p = length (cons_option (store_of p) []) + length (cons_option (bring_of p) [])

few_for : (p : Pair) → Suits p → moves_for p ≤ most_moves p
few_for p s =
    by_store (λ m. length (cons_option m []) + length (cons_option (bring_of p) []) ≤ most_moves p)
    p
    (λ e. by_bring (λ b. 1 + length (cons_option b []) ≤ most_moves p) p
    (λ to. one_or_more p (stored e))
    (λ to from same. one_or_more p (stored e))
    (λ to from same. two p (stored e) (crosses e to from same))
    (λ to from slot. absurd (clash (needs_slot (number p.from)) slot (outside e)))
    (λ to from slot. absurd (clash (has_register (number p.from)) (has_register-stored p s e)
    from)))
    (λ e. by_bring (λ b. 0 + length (cons_option b []) ≤ most_moves p) p
    (λ to. omega arith)
    (λ to from same. omega arith)
    (λ to from same. one_or_more p (registers_apart p same))
    (λ to from slot. one_or_more p
    (turned (number p.from) (number p.to) ∙ tell_apart has_register (number p.to)
    (number p.from) to from))
    (λ to from slot. one_or_more p
    (turned (number p.from) (number p.to) ∙ tell_apart has_register (number p.to)
    (number p.from) to from)))
  where
    inside : into_memory p ≡ true → needs_slot (number p.to) ≡ true
    inside e = (and_true (needs_slot (number p.to)) (not (needs_slot (number p.from))) e).0

    outside : into_memory p ≡ true → needs_slot (number p.from) ≡ false
    outside e = not_true (needs_slot (number p.from))
        (and_true (needs_slot (number p.to)) (not (needs_slot (number p.from))) e).1

    stored : into_memory p ≡ true → nat_eq (number p.from) (number p.to) ≡ false
    stored e = turned (number p.from) (number p.to) ∙ tell_apart needs_slot (number p.to)
        (number p.from) (inside e) (outside e)

    crosses : into_memory p ≡ true → has_register (number p.to) ≡ true →
        has_register (number p.from) ≡ true → same_register p.to p.from ≡ false → crossed p ≡ true
    crosses e to from same =
        all_true (is_register (number p.from)) (is_both (number p.to))
        (not (nat_eq (register_of (number p.from)) (register_of (number p.to))))
        (is_register-of p.from from (outside e)) (is_both-of p.to to (inside e))
        (not_false (nat_eq (register_of (number p.from)) (register_of (number p.to)))
        (turned (register_of (number p.from)) (register_of (number p.to)) ∙ same))

length-cons_option : {X : Type 0} (o : Option X) (xs : List X) → length (cons_option o xs) ≡
    length (cons_option o []) + length xs
length-cons_option None xs = omega arith
length-cons_option (Some x) xs = omega arith

all_few : (ps : List Pair) → Fit ps → length (stores ps) + length (brings ps) ≤ sum_by most_moves ps
all_few [] f = omega arith
all_few (p ∷ ps) f =
    omega (
      arith,
      few_for p f.0,
      all_few ps f.4,
      sum_by-cons most_moves p ps,
      length-cons_option (store_of p) (stores ps),
      length-cons_option (bring_of p) (brings ps),
    )

pub few : (ps : List Pair) → Fit ps → length (moves_of ps) ≤ sum_by most_moves ps
few ps f = omega (
  arith,
  length-append-moves (stores ps) (ordered (brings ps)),
  ordered_few (brings ps),
  all_few ps f,
)
