use Rattle.std.proofs.Common.{◌≡◌, [], ◌∷◌, false, true, ap, ◌∙◌, refl, arith, rules}
use Rattle.json.specs.Reads.{token_of}
use Rattle.serde_json.specs.Data.{null}
use Rattle.cert_form.specs.Streams.{values, is_null}
use Rattle.cert_form.proofs.Begun.{begun, no_null, null_is}
use Rattle.cert_form.proofs.Turns.{values_nothing, values_null}
use Rattle.cert_form.proofs.cells.read_mark.Goals as goal

pub returns-in_default : goal.returns-in_default
returns-in_default c =
    let empty : c.args.reader.now ≡ [] = grind arith in
    ap (values c.args.depth) empty ∙ values_nothing c.args.depth

pub returns-then-is_null : goal.returns-then-is_null
returns-then-is_null c =
    let t = token_of c.in-Some.token in
    let first : c.args.reader.now ≡ t ∷ c.next.new.self = search rules in
    let is : is_null t ≡ true = search rules in (
      null,
      ap (values c.args.depth) (first ∙ ap (λ k. k ∷ c.next.new.self) (null_is t is))
          ∙ values_null c.args.depth c.next.new.self,
      (refl, tt),
    )

pub returns : goal.returns
returns c =
    let t = token_of c.in-Some.token in
    let first : c.args.reader.now ≡ t ∷ c.next.new.self = search rules in
    let other : is_null t ≡ false = search rules in
    let read = c.in_ok-found.ensures in (
      read.0,
      ap (values c.args.depth) first ∙ read.1,
      c.mark_in.ensures read.0 (no_null t read.0 other
          (begun c.args.depth t c.next.new.self c.integer_begun.new.reader read.0 read.1)) read.2,
    )
