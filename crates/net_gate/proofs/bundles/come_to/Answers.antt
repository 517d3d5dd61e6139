use Rattle.std.proofs.Common.{ℕ, ◌≡◌, ◌≢◌, ◌==◌, ◌+◌, ◌∙◌, subst, sym, ap, arith}
use Rattle.std.specs.Prelude.{option_map}
use Rattle.std.proofs.lemmas.Bool.{eqb-true, eqb-false}
use Rattle.pra_base.specs.Places.{number, register_of}
use Rattle.net_form.specs.InUse.{mark, lands_in}
use Rattle.net_gate.specs.InUse.{numbers, IsEarlier}
use Rattle.net_form.proofs.Marking.{comes_nowhere, comes_here, comes_elsewhere}
use Rattle.net_gate.proofs.Occupied.{stands_same, first_more, marks_again, first_again}
use Rattle.net_gate.proofs.bundles.come_to.Goals as goal

pub returns-then-not-has_register-clause-stands : goal.returns-then-not-has_register-clause-stands
returns-then-not-has_register-clause-stands c = λ uses stands.
    stands_same uses (λ n r. uses n r + lands_in c.args.layer c.args.to n r) c.args.taken.now.regs
    c.args.clash
    (λ n r. let none = comes_nowhere c.args.layer c.args.to
    (sym c.has_register.ensures ∙ c.if-not-has_register.true) n r in omega (arith, none)) stands

pub returns-then-uses_register-clause-stands : goal.returns-then-uses_register-clause-stands
returns-then-uses_register-clause-stands c = λ uses stands.
    let n = c.args.layer in
    let r = register_of (number c.args.to) in
    let here = comes_here n c.args.to (sym c.has_register.ensures ∙ c.if-not-has_register.false) in
    let elsewhere = comes_elsewhere n c.args.to in
    let used : mark c.args.taken.now.regs n r ≡ 1 =
    eqb-true (mark c.args.taken.now.regs n r) 1
    (sym (c.uses_register.ensures ∙ ap (λ (q : ℕ). mark c.args.taken.now.regs n q == 1)
    c.register.ensures.value) ∙ c.if-uses_register.true) in
    let earlier = subst (λ (q : ℕ). IsEarlier (option_map numbers c.args.clash) (n, q)
    (numbers c.earlier.result)) c.alone.ensures c.earlier.ensures in
    let marks = stands.marks n r in
    record {
      marks = marks_again uses (lands_in n c.args.to) n r here elsewhere c.args.taken.now.regs
          stands.marks used;
      first = first_again uses (lands_in n c.args.to) n r here elsewhere
          (option_map numbers c.args.clash) (numbers c.earlier.result) (omega (arith, marks, used))
          earlier stands.first;
    }

pub returns-clause-stands : goal.returns-clause-stands
returns-clause-stands c = λ uses stands.
    let n = c.args.layer in
    let r = register_of (number c.args.to) in
    let here = comes_here n c.args.to (sym c.has_register.ensures ∙ c.if-not-has_register.false) in
    let elsewhere = comes_elsewhere n c.args.to in
    let free : mark c.args.taken.now.regs n r ≢ 1 =
    eqb-false (mark c.args.taken.now.regs n r) 1
    (sym (c.uses_register.ensures ∙ ap (λ (q : ℕ). mark c.args.taken.now.regs n q == 1)
    c.register.ensures.value) ∙ c.if-uses_register.false) in
    let marks = stands.marks n r in
    record {
      marks = λ m q. let old = stands.marks m q in let new = c.take_place.ensures.marks m q in
          omega (arith, old, new);
      first = first_more uses (lands_in n c.args.to) n r here elsewhere
          (option_map numbers c.args.clash) (omega (arith, marks, free)) stands.first;
    }
