use Rattle.std.proofs.Common.{◌<◌, ◌≤◌, refl, ap, sym, subst, ℕ, List, length, codes, arith}
use Rattle.std.specs.Io.KnownBytes.{Keeps}
use Rattle.pra_words.specs.Written.{asked_by}
use Rattle.pra_tool.specs.Outside.{Told, stream_seen}
use Rattle.pra_tool.specs.Reports.{writes_of}
use Rattle.pra_tool.specs.Texts.{over_line}
use Rattle.pra_tool.specs.Certified.{most_certificate}
use Rattle.pra_tool.specs.Writes.{Writes}
use Rattle.pra_tool.proofs.CertEnds.{cert_ends, over_or_wanting}
use Rattle.pra_tool.proofs.CompilingModes.{keeps_same}
use Rattle.pra_tool.proofs.ListingEnds.{none_differ}
use Rattle.pra_tool.proofs.tool.certify_made.Goals as goal

pub write_report-requires-clause-different : goal.write_report-requires-clause-different
write_report-requires-clause-different g c =
    none_differ _ (ap (λ (x : Writes). x.files) c.text_report-report.ensures.writes)

pub returns : goal.returns
returns g c = λ source input made.
    let text = c.in-Ok.text.items in
    let report = c.text_report-report.result in
    let few : length text ≤ most_certificate =
    omega (arith, c.if-len-gt-MAX_CERT_BYTES.false, c.in-Ok.text.ok) in
    cert_ends (asked_by c.args.request.now) c.args.made text (writes_of report) report.status _ _ _
    refl c.in-Ok.ensures few c.text_report-report.ensures.writes
    c.text_report-report.ensures.done (c.write_report.ensures input input) source made

pub returns-then-len-gt-MAX_CERT_BYTES : goal.returns-then-len-gt-MAX_CERT_BYTES
returns-then-len-gt-MAX_CERT_BYTES g c = λ source input made.
    let long : most_certificate < length c.in-Ok.text.items =
    omega (arith, c.if-len-gt-MAX_CERT_BYTES.true, c.in-Ok.text.ok) in
    over_or_wanting (asked_by c.args.request.now) c.args.made c.in-Ok.text.items _ _ _ refl
    c.in-Ok.ensures long c.refuse_long.ensures.known
    (λ other. record {
      files = λ name. refl;
      out = keeps_same (g.O.Sink.bytes c.args.out.now);
      notes = subst (λ (t : List ℕ).
          Told (over_line (codes "certificate") (length t) most_certificate)
          (stream_seen g.N.Sink.bytes g.N.Sink.faults c.args.notes.now)
          (stream_seen g.N.Sink.bytes g.N.Sink.faults c.refuse_long.new.notes))
          c.deref.ensures.value (c.refuse_long.ensures.told other);
    })
    (λ memory. record {
      files = λ name. refl;
      out = keeps_same (g.O.Sink.bytes c.args.out.now);
      notes = subst (λ n. Keeps (g.N.Sink.bytes c.args.notes.now) (g.N.Sink.bytes n))
          (sym (c.refuse_long.ensures.memory memory)) (keeps_same _);
    }) source made
