-- The bytes of moves are at most what the events weigh that they are counted by.
use Rattle.std.proofs.Common.{◌≡◌, ℕ, zero, suc, ◌+◌, ◌*◌, ◌≤◌, Bool, true, false, nat_eq, List, []}
use Rattle.std.proofs.Common.{◌∷◌, count_by, sum_by, refl, arith, lit≤}
use Rattle.std.proofs.lemmas.Bool.Decides.{nat_tests}
use Rattle.std.proofs.lemmas.List.Sums.{sum_by-cons}
use Rattle.pra_list.proofs.Counts.{bit, count-cons}
use Rattle.net_cost.specs.Weights.{size_weights, weight_at}
use Rattle.net_form.specs.Cost.{events_weight}
use Rattle.pl_moves.specs.declared.transfer.Move.{Move}
use Rattle.pl_moves.specs.declared.transfer.Move.TheVariants.{Copy, Swap, Load, Store, Set}
use Rattle.pl_moves.specs.declared.transfer.Pair.{Pair}
use Rattle.pl_moves.specs.Crossbar.{events, load_event, store_event, is_between, is_load, is_store}
use Rattle.pl_moves.specs.Crossbar.{is_set, Counted}
use Rattle.pl_moves.specs.Lengths.{move_bytes, with_displacement}

-- what so many of each kind come to
abbrev total : Bool → ℕ → ℕ → ℕ → ℕ → ℕ
total near between loads stores sets =
    2 * between + with_displacement near * loads + with_displacement near * stores + 5 * sets

abbrev of_kinds : Bool → List Move → ℕ
of_kinds near ms = total near (count_by is_between ms) (count_by is_load ms) (count_by is_store ms)
    (count_by is_set ms)

one_more : (near : Bool) (m : Move) (a b c d : ℕ) → move_bytes near m + total near a b c d ≡
    total near (bit (is_between m) + a) (bit (is_load m) + b) (bit (is_store m) + c)
    (bit (is_set m) + d)
one_more true (Copy r q) a b c d = omega arith
one_more true (Swap r q) a b c d = omega arith
one_more true (Load r v) a b c d = omega arith
one_more true (Store v r) a b c d = omega arith
one_more true (Set r n) a b c d = omega arith
one_more false (Copy r q) a b c d = omega arith
one_more false (Swap r q) a b c d = omega arith
one_more false (Load r v) a b c d = omega arith
one_more false (Store v r) a b c d = omega arith
one_more false (Set r n) a b c d = omega arith

bytes_by_kind : (near : Bool) (ms : List Move) → sum_by (move_bytes near) ms ≡ of_kinds near ms
bytes_by_kind true [] = refl
bytes_by_kind false [] = refl
bytes_by_kind near (m ∷ ms) =
    let ih = bytes_by_kind near ms in
    let a = count-cons is_between m ms in
    let b = count-cons is_load m ms in
    let c = count-cons is_store m ms in
    let d = count-cons is_set m ms in
    let all = sum_by-cons (move_bytes near) m ms in
    let step = one_more near m (count_by is_between ms) (count_by is_load ms) (count_by is_store ms)
    (count_by is_set ms) in
    rw (all, ih, step, a, b, c, d) refl

-- ---- events

abbrev of_events : Bool → List ℕ → ℕ
of_events near es = total near (count_by (nat_eq 0) es) (count_by (nat_eq (load_event near)) es)
    (count_by (nat_eq (store_event near)) es) (count_by (nat_eq 5) es)

abbrev of_one : Bool → ℕ → ℕ
of_one near n = total near (bit (nat_eq 0 n)) (bit (nat_eq (load_event near) n))
    (bit (nat_eq (store_event near) n)) (bit (nat_eq 5 n))

none_of : (near : Bool) (n : ℕ) → nat_eq 0 n ≡ false → nat_eq (load_event near) n ≡ false →
    nat_eq (store_event near) n ≡ false → nat_eq 5 n ≡ false → of_one near n ≤
    weight_at size_weights n 0
none_of true n a b c d = rw (a, b, c, d) (omega arith)
none_of false n a b c d = rw (a, b, c, d) (omega arith)

none_later : (near : Bool) (n : ℕ) → of_one near (suc (suc (suc (suc (suc (suc n)))))) ≤
    weight_at size_weights (suc (suc (suc (suc (suc (suc n)))))) 0
none_later true n = none_of true (suc (suc (suc (suc (suc (suc n)))))) (grind (arith, nat_tests))
    (grind (arith, nat_tests)) (grind (arith, nat_tests)) (grind (arith, nat_tests))
none_later false n = none_of false (suc (suc (suc (suc (suc (suc n)))))) (grind (arith, nat_tests))
    (grind (arith, nat_tests)) (grind (arith, nat_tests)) (grind (arith, nat_tests))

one_paid : (near : Bool) (n : ℕ) → of_one near n ≤ weight_at size_weights n 0
one_paid true zero = lit≤ tt
one_paid true (suc zero) = lit≤ tt
one_paid true (suc (suc zero)) = lit≤ tt
one_paid true (suc (suc (suc zero))) = lit≤ tt
one_paid true (suc (suc (suc (suc zero)))) = lit≤ tt
one_paid true (suc (suc (suc (suc (suc zero))))) = lit≤ tt
one_paid false zero = lit≤ tt
one_paid false (suc zero) = lit≤ tt
one_paid false (suc (suc zero)) = lit≤ tt
one_paid false (suc (suc (suc zero))) = lit≤ tt
one_paid false (suc (suc (suc (suc zero)))) = lit≤ tt
one_paid false (suc (suc (suc (suc (suc zero))))) = lit≤ tt
one_paid near (suc (suc (suc (suc (suc (suc n)))))) = none_later near n

sum_total : (near : Bool) (a b c d w x y z p q : ℕ) → total near a b c d ≤ p → total near w x y z ≤
    q → total near (a + w) (b + x) (c + y) (d + z) ≤ p + q
sum_total true a b c d w x y z p q f g = omega arith
sum_total false a b c d w x y z p q f g = omega arith

events_paid : (near : Bool) (es : List ℕ) → of_events near es ≤ events_weight size_weights 0 es
events_paid true [] = lit≤ tt
events_paid false [] = lit≤ tt
events_paid near (e ∷ es) =
    let ih = events_paid near es in
    let one = one_paid near e in
    let a = count-cons (nat_eq 0) e es in
    let b = count-cons (nat_eq (load_event near)) e es in
    let c = count-cons (nat_eq (store_event near)) e es in
    let d = count-cons (nat_eq 5) e es in
    let all = sum_by-cons (λ n. weight_at size_weights n 0) e es in
    rw (all, a, b, c, d) (sum_total near _ _ _ _ _ _ _ _ _ _ one ih)

less : (near : Bool) (a b c d w : ℕ) → a ≤ w → total near a b c d ≤ total near w b c d
less true a b c d w le = omega arith
less false a b c d w le = omega arith

pub moves_paid : (near : Bool) (ms : List Move) (pairs : List Pair) → Counted near ms pairs →
    sum_by (move_bytes near) ms ≤ events_weight size_weights 0 (events near pairs)
moves_paid near ms pairs k =
    let es = events near pairs in
    let bytes = bytes_by_kind near ms in
    let few = less near (count_by is_between ms) (count_by is_load ms) (count_by is_store ms)
    (count_by is_set ms) (count_by (nat_eq 0) es) k.between in
    let same : total near (count_by (nat_eq 0) es) (count_by is_load ms) (count_by is_store ms)
    (count_by is_set ms) ≡ of_events near es = rw (k.loads, k.stores, k.sets) refl in
    let paid = events_paid near es in
    omega (arith, bytes, few, same, paid)
