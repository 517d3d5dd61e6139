use Rattle.std.proofs.Common.{ℕ, true, length, set, ap, sym, subst, ◌∙◌, ◌+◌, ◌-◌, arith}
use Rattle.std.proofs.lemmas.List.{get_or_read}
use Rattle.net_form.specs.declared.net.MemPair.{MemPair}
use Rattle.net_form.specs.declared.net.Strand.{Strand}
use Rattle.net_form.specs.Admitted.{no_strand, strand_at}
use Rattle.net_laws.specs.Homes.{IsFreePair, left_stays}
use Rattle.net_laws.proofs.Needs.{no_pair}
use Rattle.al_edge.specs.Yielding.{IsTable, full_row, row_of}
use Rattle.al_edge.proofs.Tables.{kept, added, bounds}
use Rattle.al_edge.proofs.yielding.add_pair.Goals as goal

pub returns-then-not-left_stays : goal.returns-then-not-left_stays
returns-then-not-left_stays c =
    let net = c.args.net.now in
    let read = get_or_read net.pairs c.args.k c.index-pair.result.now c.requires.pair
    c.index-pair.ensures no_pair in
    kept net c.requires.net c.args.k c.args.table.now.items c.requires.table c.requires.pair no_pair
    (sym (ap (left_stays net) read) ∙ sym c.left_stays.ensures ∙ c.if-not-left_stays.true)

pub set_true-requires-clause-row : goal.set_true-requires-clause-row
set_true-requires-clause-row c =
    let net = c.args.net.now in
    let read = get_or_read net.pairs c.args.k c.index-pair.result.now c.requires.pair
    c.index-pair.ensures no_pair in
    let free : IsFreePair net c.index-pair.result.now = subst (IsFreePair net) (sym read)
    (c.requires.room.pairs c.args.k no_pair c.requires.pair) in
    let rows = c.requires.table.rows in
    let lt = free.right_strand in
    omega (arith, rows, lt)

pub set_true-requires-clause-at : goal.set_true-requires-clause-at
set_true-requires-clause-at c =
    let net = c.args.net.now in
    let read = get_or_read net.pairs c.args.k c.index-pair.result.now c.requires.pair
    c.index-pair.ensures no_pair in
    let free : IsFreePair net c.index-pair.result.now = subst (IsFreePair net) (sym read)
    (c.requires.room.pairs c.args.k no_pair c.requires.pair) in
    let s = c.index-pair.result.now.right in
    let t = get_or_read net.strands s c.index-right.result.now free.right_strand
    c.index-right.ensures no_strand in
    let first = ap (λ (u : Strand). u.first) t in
    let b = bounds (strand_at net s) c.index-pair.result.now.right_layer free.right in
    let lo = b.0 in
    let hi = b.1 in
    let n = ap (λ (u : Strand). length (full_row (length u.masks)
    (row_of c.args.table.now.items s))) t
    ∙ c.requires.table.entries s free.right_strand in
    let count = ap (λ k. length (full_row k (row_of c.args.table.now.items s))) c.len.ensures in
    let long = (c.requires.net.strands s no_strand free.right_strand).masks in
    omega (arith, first, lo, hi, n, count, long)

pub returns : goal.returns
returns c =
    let net = c.args.net.now in
    let table = c.args.table.now.items in
    let pair = c.index-pair.result.now in
    let read = get_or_read net.pairs c.args.k pair c.requires.pair c.index-pair.ensures no_pair in
    let free : IsFreePair net pair = subst (IsFreePair net) (sym read)
    (c.requires.room.pairs c.args.k no_pair c.requires.pair) in
    let mine = c.requires.room.pairs c.args.k no_pair c.requires.pair in
    let t = get_or_read net.strands pair.right c.index-right.result.now free.right_strand
    c.index-right.ensures no_strand in
    let entry = λ (n : ℕ) (u : Strand) (m : MemPair). set table m.right
    (set (full_row n (row_of table m.right)) (m.right_layer - u.first) true) in
    subst (IsTable net (c.args.k + 1)) (sym (c.in_ok-set_true.ensures
    ∙ ap (λ (n : ℕ). entry n c.index-right.result.now pair) c.len.ensures
    ∙ ap (λ (u : Strand). entry (length u.masks) u pair) t
    ∙ ap (λ (m : MemPair). entry (length (strand_at net m.right).masks) (strand_at net m.right) m)
    read))
    (added net c.requires.net c.args.k table c.requires.table c.requires.pair no_pair
    (sym (ap (left_stays net) read) ∙ sym c.left_stays.ensures ∙ c.if-not-left_stays.false)
    mine.right_strand mine.right)
