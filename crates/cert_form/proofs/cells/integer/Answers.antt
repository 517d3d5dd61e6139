use Rattle.std.proofs.Common.{◌≡◌, [], ◌∷◌, ap, ◌∙◌, arith, rules}
use Rattle.json.specs.Reads.{token_of}
use Rattle.cert_form.specs.Streams.{values}
use Rattle.cert_form.proofs.Turns.{values_nothing}
use Rattle.cert_form.proofs.cells.integer.Goals as goal

pub returns-in_default : goal.returns-in_default
returns-in_default c =
    let empty : c.args.reader.now ≡ [] = grind arith in
    ap (values c.args.depth) empty ∙ values_nothing c.args.depth

pub returns : goal.returns
returns c =
    let t = token_of c.in-Some.token in
    let first : c.args.reader.now ≡ t ∷ c.next.new.self = search rules in
    rw first c.integer_begun.ensures
