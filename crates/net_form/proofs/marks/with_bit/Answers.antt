use Rattle.std.proofs.Common.{ℕ, ◌≡◌, ◌<◌, ◌≤◌, ◌∙◌, Bool, cond, sym, ap, arith, inl, inr}
use mir.Syntax.{w8}
use lib.Bits.{bit_and}
use Rattle.std.specs.Int.{bit_at}
use Rattle.std.proofs.lemmas.Bool.{cases_lt}
use Rattle.std.proofs.lemmas.Nat.Bits.{bit_at_set_same, bit_at_set_other, bit_at_clear_same}
use Rattle.std.proofs.lemmas.Nat.Bits.{bit_at_clear_other, bit_at_above, bit_at_and}
use Rattle.net_form.proofs.marks.with_bit.Goals as goal

none_above : (a b q : ℕ) → a < 256 → 8 ≤ q → bit_at (bit_and a b) q ≡ bit_at a q
none_above a b q small ge =
    let none = bit_at_above a 8 q small ge in
    let both = bit_at_and a b q in
    omega (arith, both, none)

pub returns-then-used : goal.returns-then-used
returns-then-used c = record {
  same = bit_at_set_same w8 c.args.byte c.args.bit c.requires
      ∙ sym (ap (λ (b : Bool). cond b 1 0) c.if-used.true);
  other = λ q apart. bit_at_set_other w8 c.args.byte c.args.bit c.requires q apart;
}

pub returns-else-used : goal.returns-else-used
returns-else-used c = record {
  same = bit_at_clear_same w8 c.args.byte c.args.bit c.requires
      ∙ sym (ap (λ (b : Bool). cond b 1 0) c.if-used.false);
  other = λ q apart. elim (cases_lt q 8) [
    | inl lt ↦ bit_at_clear_other w8 c.args.byte c.args.bit c.requires q lt apart
    | inr ge ↦ none_above c.args.byte _ q (let small : c.args.byte < 256 = omega arith in small) ge
  ];
}
