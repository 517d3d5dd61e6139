use Rattle.std.proofs.Common.{◌≡◌, ◌∙◌, ◌+◌, ◌*◌, ◌-◌, ◌<◌, ℕ, pos, get_or, ap, sym, arith}
use Rattle.std.proofs.Common.{to_z, of_z, refl}
use Rattle.std.specs.Int.{w64}
use Rattle.std.proofs.lemmas.Int.{to_z-of_z}
use Rattle.net_kept.proofs.SpreadNumbers.{packed_zeros, packed_push}
use Rattle.net_kept.proofs.prices.pack_tie.Goals as goal
use Rattle.net_kept.proofs.prices.pack_tie.Goals.{then-number-ne0+in_ok-push, else-number-ne0}

pub returns-then-is_zero : goal.returns-then-is_zero
returns-then-is_zero c =
    let first : ℕ = 13 * c.args.tie in
    packed_zeros c.args.ties first (first + 13) c.args.numbers.now c.args.entries.now.items
    c.requires.packed
    (λ k from below.
    let small : k - first < 13 = omega (arith, from, below) in
    let at : first + (k - first) ≡ k = omega (arith, from) in
    ap (λ j. get_or c.args.numbers.now j (pos 0)) (sym at)
    ∙ c.is_zero.ensures c.if-is_zero.true (k - first) small)
    (omega arith)

pub loop-slot-preserved : goal.loop-slot-preserved
loop-slot-preserved c =
    let at : ℕ = 13 * c.args.tie + c.loop-slot.slot in
    let next : ℕ = 13 * c.args.tie + (c.loop-slot.slot + 1) in
    let is = c.number-number.ensures in
    let same = to_z-of_z w64 c.number-number.result
    (record { sfits = c.number-number.type_inv }) in
    elim c.if-number-ne0.branch [
      | then-number-ne0+in_ok-push w ↦
          rw (w.entries-is, w.in_ok-push.ensures.items)
          (packed_push c.args.ties at next c.args.numbers.now c.loop-slot.entries.items
          c.loop-slot.invariant
          (record { index = at; number = to_z w64 (of_z w64 c.number-number.result) }) refl
          (omega arith) (same ∙ is) (omega arith))
      | else-number-ne0 w ↦
          rw w.entries-is
          (packed_zeros c.args.ties at next c.args.numbers.now c.loop-slot.entries.items
          c.loop-slot.invariant
          (λ k from below.
          let here : k ≡ at = omega (arith, from, below) in
          ap (λ j. get_or c.args.numbers.now j (pos 0)) here
          ∙ sym is ∙ sym same ∙ ap (to_z w64) w.if-number-ne0.false)
          (omega arith))
    ]
