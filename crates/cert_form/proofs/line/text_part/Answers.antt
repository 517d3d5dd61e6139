use Rattle.std.proofs.Common.{◌≡◌, [], ◌∷◌, Some, sym, ap, ◌∙◌, rules}
use Rattle.json.specs.Lex.{tokens}
use Rattle.json.specs.Reads.{token_of}
use Rattle.serde_json.specs.Read.{max_depth}
use Rattle.cert_form.specs.Streams.{values}
use Rattle.cert_form.proofs.WholeTexts.{read_whole, read_more, part_failed}
use Rattle.cert_form.proofs.line.text_part.Goals as goal

pub returns-in_err-found : goal.returns-in_err-found
returns-in_err-found g c =
    part_failed g.T.Part.form (g.T.Part.fits 0) c.args.text.now c.in-Ok.reader c.part.new.reader
    c.in_err-found.field-0.0 c.from_residual.result (search rules) c.in-Ok.ensures.ok
    c.in_err-found.ensures

pub returns-in-Some : goal.returns-in-Some
returns-in-Some g c =
    let text = c.args.text.now in
    let read = c.in_ok-found.ensures in
    let t = token_of c.in-Some.field-0 in
    let more : c.part.new.reader ≡ t ∷ c.next.new.self = search rules in
    let e : values max_depth (tokens text) ≡ Some (read.0, t ∷ c.next.new.self) =
    ap (values max_depth) (sym c.in-Ok.ensures.ok) ∙ read.1 ∙ ap (λ r. Some (read.0, r)) more in
    read_more text read.0 t c.next.new.self e

pub returns : goal.returns
returns g c =
    let text = c.args.text.now in
    let read = c.in_ok-found.ensures in
    let none : c.part.new.reader ≡ [] = search rules in
    let e : values max_depth (tokens text) ≡ Some (read.0, []) =
    ap (values max_depth) (sym c.in-Ok.ensures.ok) ∙ read.1 ∙ ap (λ r. Some (read.0, r)) none in
    (read.0, read_whole text read.0 e, read.2)
