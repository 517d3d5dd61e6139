use Rattle.std.proofs.Common.{◌≡◌, true, refl, rules}
use Rattle.std.specs.Float.{binary64, float_is_finite}
use Rattle.fast_float.specs.Text.{nearest}
use Rattle.serde_json.specs.Data.{float}
use Rattle.cert_form.proofs.figures.float.Goals as goal

pub returns-then-is_finite : goal.returns-then-is_finite
returns-then-is_finite c =
    let x = nearest binary64 c.args.negative c.args.numeral.now in
    let finite : float_is_finite x ≡ true = search rules in
    (float x, rw finite, refl)
