use Rattle.std.proofs.Common.{◌≡◌, false, eqb, sym, ◌∙◌, arith}
use Rattle.std.proofs.Common.{slice_index}
use Rattle.std.proofs.lemmas.Bool.{and_left, and_right}
use Rattle.std.proofs.lemmas.Nat.Bits.{bit_at-lt}
use Rattle.pra_list.proofs.Counts.{count-none}
use Rattle.pra_base.specs.Places.{number, has_register, register_of}
use Rattle.net_form.specs.Admitted.{in_register}
use Rattle.al_edge.specs.GroupEnds.{ends_of}
use Rattle.al_edge.specs.OpenPlaces.{comes_there}
use Rattle.al_edge.proofs.planning.take_group.Goals as goal

pub returns-then-not-has_register-clause-marks : goal.returns-then-not-has_register-clause-marks
returns-then-not-has_register-clause-marks c = λ n r.
    let net = c.args.net.now in
    let p = c.args.place in
    let none = sym c.has_register.ensures ∙ c.if-not-has_register.true in
    let nowhere : in_register r p ≡ false = and_left (has_register (number p))
    (eqb (register_of (number p)) r) none in
    let zero_ends = count-none (comes_there net n r p) (ends_of net c.args.group) (λ i e lt.
    and_right _ (in_register r p) nowhere) in
    let small = bit_at-lt (slice_index c.args.used.now.regs n) r in
    omega (arith, zero_ends, small)
