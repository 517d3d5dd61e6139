use Rattle.std.proofs.Common.{◌≡◌, [], ◌∷◌, true, false, ap, ◌∙◌, arith, rules}
use Rattle.json.specs.Reads.{token_of}
use Rattle.cert_form.specs.Streams.{values, is_brace}
use Rattle.cert_form.proofs.ItemsTaken.{another_than_object, brace_is}
use Rattle.cert_form.proofs.Turns.{values_nothing, values_no_object}
use Rattle.cert_form.proofs.objects.begins_object.Goals as goal

pub returns-in_default : goal.returns-in_default
returns-in_default c =
    let empty : c.args.reader.now ≡ [] = grind arith in
    ap (values c.args.depth) empty ∙ values_nothing c.args.depth

pub returns-then-not-is_brace : goal.returns-then-not-is_brace
returns-then-not-is_brace c =
    let t = token_of c.in-Some.token in
    let first : c.args.reader.now ≡ t ∷ c.next.new.self = search rules in
    let other : is_brace t ≡ false = search rules in
    let read = c.in_ok-pass_begun.ensures in
    another_than_object c.args.depth t c.next.new.self c.args.reader.now c.pass_begun.new.reader
    read.0 first other read.1

pub returns-then-depth-eq0 : goal.returns-then-depth-eq0
returns-then-depth-eq0 c =
    let t = token_of c.in-Some.token in
    let first : c.args.reader.now ≡ t ∷ c.next.new.self = search rules in
    let is : is_brace t ≡ true = search rules in
    let none : c.args.depth ≡ 0 = omega arith in
    ap (values c.args.depth) (first ∙ ap (λ k. k ∷ c.next.new.self) (brace_is t is))
    ∙ values_no_object c.args.depth c.next.new.self none
