use Rattle.std.proofs.Common.{◌≡◌, refl, ap, sym, subst, ◌∙◌}
use Rattle.std.specs.Prelude.{ℤ, pos, unsigned_abs}
use Rattle.std.specs.Int.{w32, w64, int_wrap, int_rem_euclid, cast_signed}
use Rattle.std.specs.Int.RustNames.{FitsSigned}
use Rattle.std.proofs.lemmas.Int.{to_z-of_z, SFits-int_wrap}
use Rattle.ia_emit.proofs.frame.wrapped.Goals as goal

is_wrapped : (n : ℤ) → cast_signed w32 (unsigned_abs (int_rem_euclid n (pos 4294967296))) ≡
    int_wrap w32 n
unfolding int_wrap
is_wrapped n = refl

pub returns : goal.returns
returns c =
    let same = to_z-of_z w64 c.args.n c.ranges.n in
    let low = c.low_word.ensures ∙ ap (λ z. unsigned_abs (int_rem_euclid z (pos 4294967296)))
    same in
    let is = c.cast_signed.ensures ∙ ap (cast_signed w32) low ∙ is_wrapped c.args.n in
    to_z-of_z w32 c.cast_signed.result
    (subst (FitsSigned w32) (sym is) (SFits-int_wrap w32 c.args.n)) ∙ is
