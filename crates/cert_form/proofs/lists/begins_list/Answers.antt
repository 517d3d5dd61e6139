use Rattle.std.proofs.Common.{◌≡◌, [], ◌∷◌, true, false, ap, ◌∙◌, arith, rules}
use Rattle.json.specs.Reads.{token_of}
use Rattle.cert_form.specs.Streams.{values, is_bracket}
use Rattle.cert_form.proofs.ItemsTaken.{another_value, bracket_is}
use Rattle.cert_form.proofs.Turns.{values_nothing, values_no_array}
use Rattle.cert_form.proofs.lists.begins_list.Goals as goal

pub returns-in_default : goal.returns-in_default
returns-in_default c =
    let empty : c.args.reader.now ≡ [] = grind arith in
    ap (values c.args.depth) empty ∙ values_nothing c.args.depth

pub returns-then-not-is_bracket : goal.returns-then-not-is_bracket
returns-then-not-is_bracket c =
    let t = token_of c.in-Some.token in
    let first : c.args.reader.now ≡ t ∷ c.next.new.self = search rules in
    let other : is_bracket t ≡ false = search rules in
    let read = c.in_ok-pass_begun.ensures in
    another_value c.args.depth t c.next.new.self c.args.reader.now c.pass_begun.new.reader read.0
    first other read.1

pub returns-then-depth-eq0 : goal.returns-then-depth-eq0
returns-then-depth-eq0 c =
    let t = token_of c.in-Some.token in
    let first : c.args.reader.now ≡ t ∷ c.next.new.self = search rules in
    let is : is_bracket t ≡ true = search rules in
    let none : c.args.depth ≡ 0 = omega arith in
    ap (values c.args.depth) (first ∙ ap (λ k. k ∷ c.next.new.self) (bracket_is t is))
    ∙ values_no_array c.args.depth c.next.new.self none
