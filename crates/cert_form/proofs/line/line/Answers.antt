use Rattle.serde_json.specs.View.{view}
use Rattle.cert_form.proofs.Texts.{text_written, text_back}
use Rattle.cert_form.proofs.line.line.Goals as goal

pub returns-clause-text : goal.returns-clause-text
returns-clause-text g c =
    λ plain. text_written (g.T.Written.form c.args.part.now) (view c.in_ok-value.value)
    c.in_ok-value.ensures.is plain c.in_ok-text.text.items _ c.in_ok-text.ensures.text
    c.in_ok-push.ensures.items

pub returns-clause-back : goal.returns-clause-back
returns-clause-back g c =
    λ plain. text_back (g.T.Written.form c.args.part.now) (view c.in_ok-value.value)
    c.in_ok-value.ensures.is plain c.in_ok-text.text.items _ c.in_ok-text.ensures.compact
    c.in_ok-text.ensures.utf8 c.in_ok-text.ensures.order c.in_ok-text.ensures.reads_back
    c.in_ok-push.ensures.items
