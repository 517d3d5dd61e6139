-- How many moves there are, kind by kind, and what they name.
use Rattle.std.proofs.Common.{◌≡◌, ℕ, zero, suc, ◌+◌, ◌≤◌, Bool, true, false, nat_eq, not}
use Rattle.std.proofs.Common.{if◌then◌else◌, cond, List, [], ◌∷◌, ◌++◌, length, map, Option, Some}
use Rattle.std.proofs.Common.{None, refl, sym, ap, ap₂, ◌∙◌, subst, arith, count_by}
use Rattle.std.specs.List.{cons_option}
use Rattle.std.proofs.lemmas.List.Sums.{sum_by-cons}
use Rattle.pra_list.proofs.Truths.{if_true, if_false}
use Rattle.pra_base.specs.declared.ids.Place.{Place}
use Rattle.pra_base.specs.declared.ids.VarId.{VarId}
use Rattle.pra_base.specs.Places.{number, has_register, register_of, needs_slot}
use Rattle.pl_moves.specs.declared.transfer.Move.{Move}
use Rattle.pl_moves.specs.declared.transfer.Move.TheVariants.{Copy, Swap, Load, Store, Set}
use Rattle.pl_moves.specs.declared.transfer.Pair.{Pair}
use Rattle.pl_moves.specs.declared.bring.Origin.{Origin}
use Rattle.pl_moves.specs.declared.bring.Origin.TheVariants as origin
use Rattle.pl_moves.specs.declared.bring.Bring.{Bring}
use Rattle.pl_moves.specs.Assignment.{into_memory}
use Rattle.pl_moves.specs.Crossbar.{register_event, load_event, store_event, constant_event}
use Rattle.pl_moves.specs.Crossbar.{only_if, crossbar, events, is_between, is_load, is_store}
use Rattle.pl_moves.specs.Crossbar.{is_set, Counted}
use Rattle.pl_moves.specs.Crossbar as crossbar
use Rattle.pl_moves.specs.Sequence.{alone, store_of, bring_of, comes_from, reads, writes}
use Rattle.pl_moves.specs.Sequence.{redirected, bring_move, swap_move, sequence, ordered, moves_of}
use Rattle.pl_moves.proofs.Ordered.{length_red}
use Rattle.pra_list.proofs.Choices.{either}
use Rattle.pl_moves.proofs.Pairs.{by_store, by_bring}
use Rattle.pl_moves.proofs.Whole.{stores, brings, turned}

-- ---- how many pass a test

abbrev pub one_if : Bool → ℕ
one_if b = if b then 1 else 0

abbrev pub tally : {X : Type 0} → (X → Bool) → List X → ℕ
tally p [] = 0
tally p (x ∷ xs) = one_if (p x) + tally p xs

pub count_is : {X : Type 0} (p : X → Bool) (xs : List X) → count_by p xs ≡ tally p xs
count_is p [] = refl
count_is p (x ∷ xs) = sum_by-cons (λ y. cond (p y) 1 0) x xs ∙ ap (λ n. one_if (p x) + n)
    (count_is p xs)

pub tally-append : {X : Type 0} (p : X → Bool) (xs ys : List X) → tally p (xs ++ ys) ≡
    tally p xs + tally p ys
tally-append p [] ys = omega arith
tally-append p (x ∷ xs) ys = omega (arith, tally-append p xs ys)

-- ---- brings in order

-- a test of moves that says of what brings a value what the other test says of where it comes from
pub record Agrees (P : Move → Bool) (Q : Origin → Bool) : Type 0 where
  pub bring : (r : Place) (o : Origin) → P (bring_move r o) ≡ Q o
  pub swap : (r q : Place) → P (Swap r q) ≡ Q (origin.Register q)
  pub registers : (q r : Place) → Q (origin.Register q) ≡ Q (origin.Register r)

abbrev pub from_test : (Origin → Bool) → Bring → Bool
from_test Q b = Q b.from

module _ (P : Move → Bool) (Q : Origin → Bool) (agrees : Agrees P Q) where
  swapped : (r : Place) (o : Origin) → P (swap_move r o) ≡ Q o
  swapped r (origin.Register q) = agrees.swap r q
  swapped r (origin.Memory v) = agrees.bring r (origin.Memory v)
  swapped r (origin.Number n) = agrees.bring r (origin.Number n)

  from_register : (o : Origin) (t f : Place) → comes_from o t ≡ true → Q (origin.Register f) ≡ Q o
  from_register (origin.Register q) t f e = agrees.registers f q
  from_register (origin.Memory v) t f e = cc
  from_register (origin.Number n) t f e = cc

  tally_red : (t f : Place) (bs : List Bring) →
      tally (from_test Q) (map (redirected t (origin.Register f)) bs) ≡ tally (from_test Q) bs
  tally_red t f [] = refl
  tally_red t f (b ∷ bs) = ap₂ (λ x y. one_if x + y) (head (comes_from b.from t) refl)
      (tally_red t f bs)
    where
      head : (c : Bool) → comes_from b.from t ≡ c →
          Q (if c then record { to = b.to; from = origin.Register f } else b).from ≡ Q b.from
      head true e = from_register b.from t f e
      head false e = refl

  -- the rest behind a swap
  redirect : (R : List Bring → Type 0) (o : Origin) (t : Place) (bs : List Bring) → writes bs o ≡
      true → ((f : Place) → R (map (redirected t (origin.Register f)) bs)) →
      R (map (redirected t o) bs)
  redirect R (origin.Register f) t bs w more = more f
  redirect R (origin.Memory v) t bs w more =
      absurd (clash (writes bs (origin.Memory v)) w (none bs))
    where
      clash : (b : Bool) → b ≡ true → b ≡ false → ⊥
      clash b h g = cc

      none : (bs : List Bring) → writes bs (origin.Memory v) ≡ false
      none [] = refl
      none (b ∷ bs) = none bs
  redirect R (origin.Number v) t bs w more =
      absurd (clash (writes bs (origin.Number v)) w (none bs))
    where
      clash : (b : Bool) → b ≡ true → b ≡ false → ⊥
      clash b h g = cc

      none : (bs : List Bring) → writes bs (origin.Number v) ≡ false
      none [] = refl
      none (b ∷ bs) = none bs

  pub sequence_at_most : (n : ℕ) (bs : List Bring) → length bs ≤ n → tally P (sequence n bs) ≤
      tally (from_test Q) bs
  unfolding sequence
  sequence_at_most zero bs l = omega arith
  sequence_at_most (suc n) [] l = omega arith
  sequence_at_most (suc n) (b ∷ bs) l =
      let ih = sequence_at_most n bs (omega arith) in
      let M : List Move → Type 0 = λ ms. tally P ms ≤ tally (from_test Q) (b ∷ bs) in
      let one : one_if (P (bring_move b.to b.from)) ≡ one_if (Q b.from) =
      ap one_if (agrees.bring b.to b.from) in
      either M (comes_from b.from b.to) _ _
      (λ e. omega (arith, ih))
      (λ d. either M (reads bs b.to) _ _
      (λ r. either M (writes bs b.from) _ _
      (λ w.
      let two : one_if (P (swap_move b.to b.from)) ≡ one_if (Q b.from) =
      ap one_if (swapped b.to b.from) in
      let more : tally P (sequence n (map (redirected b.to b.from) bs)) ≤ tally (from_test Q) bs =
      redirect (λ cs. tally P (sequence n cs) ≤ tally (from_test Q) bs) b.from b.to bs w
      (λ f. subst (λ k. tally P (sequence n (map (redirected b.to (origin.Register f)) bs)) ≤ k)
      (tally_red b.to f bs)
      (sequence_at_most n (map (redirected b.to (origin.Register f)) bs)
      (omega (arith, length_red b.to f bs)))) in
      omega (arith, two, more))
      (λ w. omega (arith, one, tally-append P (sequence n bs) (bring_move b.to b.from ∷ []), ih)))
      (λ r. omega (arith, one, ih)))

  pub sequence_at_least : ((q : Place) → Q (origin.Register q) ≡ false) →
      (n : ℕ) (bs : List Bring) → length bs ≤ n → tally (from_test Q) bs ≤ tally P (sequence n bs)
  unfolding sequence
  sequence_at_least out zero [] l = omega arith
  sequence_at_least out zero (b ∷ bs) l = absurd (omega arith)
  sequence_at_least out (suc n) [] l = omega arith
  sequence_at_least out (suc n) (b ∷ bs) l =
      let ih = sequence_at_least out n bs (omega arith) in
      let M : List Move → Type 0 = λ ms. tally (from_test Q) (b ∷ bs) ≤ tally P ms in
      let one : one_if (P (bring_move b.to b.from)) ≡ one_if (Q b.from) =
      ap one_if (agrees.bring b.to b.from) in
      either M (comes_from b.from b.to) _ _
      (λ e. let none : one_if (Q b.from) ≡ 0 =
      ap one_if (sym (from_register b.from b.to b.to e) ∙ out b.to) in omega (arith, none, ih))
      (λ d. either M (reads bs b.to) _ _
      (λ r. either M (writes bs b.from) _ _
      (λ w.
      let two : one_if (P (swap_move b.to b.from)) ≡ one_if (Q b.from) =
      ap one_if (swapped b.to b.from) in
      let more : tally (from_test Q) bs ≤ tally P (sequence n (map (redirected b.to b.from) bs)) =
      redirect (λ cs. tally (from_test Q) bs ≤ tally P (sequence n cs)) b.from b.to bs w
      (λ f. subst (λ k. k ≤ tally P (sequence n (map (redirected b.to (origin.Register f)) bs)))
      (tally_red b.to f bs)
      (sequence_at_least out n (map (redirected b.to (origin.Register f)) bs)
      (omega (arith, length_red b.to f bs)))) in
      omega (arith, two, more))
      (λ w. omega (arith, one, tally-append P (sequence n bs) (bring_move b.to b.from ∷ []), ih)))
      (λ r. omega (arith, one, ih)))

-- ---- events

abbrev pub origin_event : Bool → Origin → ℕ
origin_event near (origin.Register q) = register_event
origin_event near (origin.Memory v) = load_event near
origin_event near (origin.Number n) = constant_event

abbrev pub bring_events : Bool → Option Bring → List ℕ
bring_events near None = []
bring_events near (Some b) = origin_event near b.from ∷ []

abbrev pub store_events : Bool → Option Move → List ℕ
store_events near None = []
store_events near (Some m) = store_event near ∷ []

crossbar_is : (near : Bool) (p : Pair) → crossbar near (number p.from) (number p.to) ≡
    bring_events near (bring_of p) ++ store_events near (store_of p)
crossbar_is near p = ap₂ (λ xs ys. xs ++ ys) into_register into
  where
    into : only_if (into_memory p) (store_event near) ≡ store_events near (store_of p)
    into = by_store (λ o. only_if (into_memory p) (store_event near) ≡ store_events near o) p
        (λ e. if_true (into_memory p) _ _ e) (λ e. if_false (into_memory p) _ _ e)

    not_false : (b : Bool) → b ≡ false → not b ≡ true
    not_false true h = cc
    not_false false h = refl

    not_of_true : (b : Bool) → b ≡ true → not b ≡ false
    not_of_true true h = refl
    not_of_true false h = cc

    into_register : (if has_register (number p.to) then crossbar.brings near (number p.from)
        (number p.to) else []) ≡ bring_events near (bring_of p)
    into_register =
        by_bring (λ o. (if has_register (number p.to) then crossbar.brings near (number p.from)
        (number p.to) else []) ≡ bring_events near o) p
        (λ to. if_false (has_register (number p.to)) _ _ to)
        (λ to from same. if_true (has_register (number p.to)) _ _ to
        ∙ if_true (has_register (number p.from)) _ _ from
        ∙ if_false (not (nat_eq (register_of (number p.from)) (register_of (number p.to)))) _ _
        (not_of_true (nat_eq (register_of (number p.from)) (register_of (number p.to)))
        (turned (register_of (number p.from)) (register_of (number p.to)) ∙ same)))
        (λ to from same. if_true (has_register (number p.to)) _ _ to
        ∙ if_true (has_register (number p.from)) _ _ from
        ∙ if_true (not (nat_eq (register_of (number p.from)) (register_of (number p.to)))) _ _
        (not_false (nat_eq (register_of (number p.from)) (register_of (number p.to)))
        (turned (register_of (number p.from)) (register_of (number p.to)) ∙ same)))
        (λ to from slot. if_true (has_register (number p.to)) _ _ to
        ∙ if_false (has_register (number p.from)) _ _ from
        ∙ if_true (needs_slot (number p.from)) _ _ slot)
        (λ to from slot. if_true (has_register (number p.to)) _ _ to
        ∙ if_false (has_register (number p.from)) _ _ from
        ∙ if_false (needs_slot (number p.from)) _ _ slot)

abbrev pub event_test : Bool → ℕ → Origin → Bool
event_test near e o = nat_eq e (origin_event near o)

-- the events of pairs are those of what they bring and store
tally_events : (near : Bool) (e : ℕ) (ps : List Pair) →
    tally (nat_eq e) (events near ps) ≡ tally (from_test (event_test near e)) (brings ps) + tally
    (λ m. nat_eq e (store_event near)) (stores ps)
tally_events near e [] = refl
tally_events near e (p ∷ ps) =
    let ih = tally_events near e ps in
    let here = ap (tally (nat_eq e)) (crossbar_is near p) ∙ tally-append (nat_eq e)
    (bring_events near (bring_of p)) (store_events near (store_of p)) in
    let all = tally-append (nat_eq e) (crossbar near (number p.from) (number p.to))
    (events near ps) in
    omega (arith, ih, here, all, some_bring (bring_of p), some_store (store_of p))
  where
    some_bring : (o : Option Bring) → tally (from_test (event_test near e))
        (cons_option o (brings ps)) ≡ tally (nat_eq e) (bring_events near o) + tally
        (from_test (event_test near e)) (brings ps)
    some_bring None = omega arith
    some_bring (Some b) = omega arith

    some_store : (o : Option Move) → tally (λ m. nat_eq e (store_event near))
        (cons_option o (stores ps)) ≡ tally (nat_eq e) (store_events near o) + tally
        (λ m. nat_eq e (store_event near)) (stores ps)
    some_store None = omega arith
    some_store (Some m) = omega arith

tally_stores : (P : Move → Bool) (c : Bool) (ps : List Pair) →
    ((v : VarId) (r : Place) → P (Store v r) ≡ c) → tally P (stores ps) ≡ tally (λ m. c) (stores ps)
tally_stores P c [] h = refl
tally_stores P c (p ∷ ps) h =
    by_store (λ o. tally P (cons_option o (stores ps)) ≡ tally (λ m. c) (cons_option o (stores ps)))
    p
    (λ e. ap₂ (λ x y. one_if x + y) (h p.var (alone p.from)) (tally_stores P c ps h))
    (λ e. tally_stores P c ps h)

module _ (near : Bool) (e : ℕ) (P : Move → Bool) (agrees : Agrees P (event_test near e))
    (store : (v : VarId) (r : Place) → P (Store v r) ≡ nat_eq e (store_event near)) where
  parts : (ps : List Pair) → tally P (moves_of ps) ≡ tally P (ordered (brings ps)) + tally
      (λ m. nat_eq e (store_event near)) (stores ps)
  parts ps = omega (
    arith,
    tally-append P (stores ps) (ordered (brings ps)),
    tally_stores P (nat_eq e (store_event near)) ps store,
  )

  counts_within : (ps : List Pair) → count_by P (moves_of ps) ≤ count_by (nat_eq e) (events near ps)
  counts_within ps =
      omega (
        arith,
        count_is P (moves_of ps),
        count_is (nat_eq e) (events near ps),
        parts ps,
        tally_events near e ps,
        sequence_at_most P (event_test near e) agrees (length (brings ps)) (brings ps)
            (omega arith),
      )

  counts_same : ((q : Place) → event_test near e (origin.Register q) ≡ false) → (ps : List Pair) →
      count_by P (moves_of ps) ≡ count_by (nat_eq e) (events near ps)
  counts_same out ps =
      omega (
        arith,
        count_is P (moves_of ps),
        count_is (nat_eq e) (events near ps),
        parts ps,
        tally_events near e ps,
        sequence_at_most P (event_test near e) agrees (length (brings ps)) (brings ps)
            (omega arith),
        sequence_at_least P (event_test near e) agrees out (length (brings ps)) (brings ps)
            (omega arith),
      )

by_origin : (P : Move → Bool) (Q : Origin → Bool) →
    ((r q : Place) → P (Copy r q) ≡ Q (origin.Register q)) →
    ((r : Place) (v : VarId) → P (Load r v) ≡ Q (origin.Memory v)) →
    ((r : Place) (n : _) → P (Set r n) ≡ Q (origin.Number n)) →
    ((r q : Place) → P (Swap r q) ≡ Q (origin.Register q)) →
    ((q r : Place) → Q (origin.Register q) ≡ Q (origin.Register r)) → Agrees P Q
by_origin P Q copy load set swap registers =
    record { bring = bring; swap = swap; registers = registers }
  where
    bring : (r : Place) (o : Origin) → P (bring_move r o) ≡ Q o
    bring r (origin.Register q) = copy r q
    bring r (origin.Memory v) = load r v
    bring r (origin.Number n) = set r n

agreeing : (near : Bool) → Agrees is_between (event_test near register_event) ×
    Agrees is_load (event_test near (load_event near)) ×
    Agrees is_store (event_test near (store_event near)) ×
    Agrees is_set (event_test near constant_event)
agreeing true = (
  by_origin is_between (event_test true register_event) (λ r q. refl) (λ r v. refl) (λ r n. refl)
      (λ r q. refl) (λ q r. refl),
  by_origin is_load (event_test true (load_event true)) (λ r q. refl) (λ r v. refl) (λ r n. refl)
      (λ r q. refl) (λ q r. refl),
  by_origin is_store (event_test true (store_event true)) (λ r q. refl) (λ r v. refl) (λ r n. refl)
      (λ r q. refl) (λ q r. refl),
  by_origin is_set (event_test true constant_event) (λ r q. refl) (λ r v. refl) (λ r n. refl)
      (λ r q. refl) (λ q r. refl),
)
agreeing false = (
  by_origin is_between (event_test false register_event) (λ r q. refl) (λ r v. refl) (λ r n. refl)
      (λ r q. refl) (λ q r. refl),
  by_origin is_load (event_test false (load_event false)) (λ r q. refl) (λ r v. refl) (λ r n. refl)
      (λ r q. refl) (λ q r. refl),
  by_origin is_store (event_test false (store_event false)) (λ r q. refl) (λ r v. refl)
      (λ r n. refl) (λ r q. refl) (λ q r. refl),
  by_origin is_set (event_test false constant_event) (λ r q. refl) (λ r v. refl) (λ r n. refl)
      (λ r q. refl) (λ q r. refl),
)

pub counted : (ps : List Pair) (near : Bool) → Counted near (moves_of ps) ps
counted ps true = record {
  between = counts_within true register_event is_between (agreeing true).0 (λ v r. refl) ps;
  loads = counts_same true (load_event true) is_load (agreeing true).1 (λ v r. refl) (λ q. refl) ps;
  stores = counts_same true (store_event true) is_store (agreeing true).2 (λ v r. refl)
      (λ q. refl) ps;
  sets = counts_same true constant_event is_set (agreeing true).3 (λ v r. refl) (λ q. refl) ps;
}
counted ps false = record {
  between = counts_within false register_event is_between (agreeing false).0 (λ v r. refl) ps;
  loads = counts_same false (load_event false) is_load (agreeing false).1 (λ v r. refl)
      (λ q. refl) ps;
  stores = counts_same false (store_event false) is_store (agreeing false).2 (λ v r. refl)
      (λ q. refl) ps;
  sets = counts_same false constant_event is_set (agreeing false).3 (λ v r. refl) (λ q. refl) ps;
}
