use Rattle.std.proofs.Common.{◌≡◌, Bool, ◌+ℤ◌, w64, to_z, of_z, sym, subst, ◌∙◌, inr, arith}
use Rattle.std.proofs.lemmas.Int.{ints}
use Rattle.pra_base.specs.Places.{number}
use Rattle.net_path.specs.Cells.{price_in}
use Rattle.net_path.specs.Rows.{IsCell}
use Rattle.net_path.proofs.cells.cell.Goals as goal

pub returns-then-allows : goal.returns-then-allows
returns-then-allows c =
    let z = to_z w64 (of_z w64 (to_z w64 (of_z w64 c.args.extras)
    +ℤ to_z w64 (of_z w64 c.cap_price.result))) in
    let cap = price_in c.args.caps.now (number c.args.place) in
    let value = c.cap_price.ensures.value in
    let about = c.cap_price.ensures.about in
    let is : z ≡ c.args.extras +ℤ cap = omega (arith, ints, c.requires.extras, about, value) in
    record {
      is = subst (λ (b : Bool). IsCell b (c.args.extras +ℤ cap) z)
          (sym c.if-allows.true ∙ c.allows.ensures) is;
      within = inr (
        omega (arith, ints, is, c.requires.extras, about, value),
        omega (arith, ints, is, c.requires.extras, about, value),
      );
    }
