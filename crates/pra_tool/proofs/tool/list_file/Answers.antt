use Rattle.std.proofs.Common.{rules, ◌≢◌, refl, ap, subst, sym, List, ℕ}
use Rattle.std.specs.Io.KnownBytes.{Keeps}
use Rattle.pra_tool.specs.declared.listing.Unlisted.TheVariants.{TooLong, OutOfMemory}
use Rattle.pra_tool.specs.Writes.{Writes}
use Rattle.pra_tool.specs.Reports.{writes_of}
use Rattle.pra_tool.specs.Listings.{IsListed, IsUnlisted, unlisted_status}
use Rattle.pra_tool.specs.Clause.{listing}
use Rattle.pra_tool.proofs.ModeAnswers.{wrong_source, right_source}
use Rattle.pra_tool.proofs.CompilingModes.{told_wrong, none_left, keeps_same}
use Rattle.pra_tool.proofs.ListingModes.{listing_is_a_mode}
use Rattle.pra_tool.proofs.ListingEnds.{list_ends, list_names, none_differ, too_long_image}
use Rattle.pra_tool.proofs.tool.list_file.Goals as goal

pub write_report-requires-clause-different : goal.write_report-requires-clause-different
write_report-requires-clause-different g c =
    none_differ _ (ap (λ (x : Writes). x.files) c.text_report-report.ensures.writes)

pub returns-in-Ok-listing_of : goal.returns-in-Ok-listing_of
returns-in-Ok-listing_of g c = λ input.
    let file = c.in-Ok.file.items in
    let text = c.in-Ok-listing_of.text.items in
    let listed : IsListed file text =
    subst (λ (f : List ℕ). IsListed f text) c.deref.ensures.value
    c.in-Ok-listing_of.ensures.listed in
    let report = c.text_report-report.result in
    right_source listing listing_is_a_mode c.args.request.now.file.now _ _ _
    (record {
      same = c.in-Ok.ensures.same;
      input = refl;
      out = refl;
      notes = refl;
      later = c.in-Ok.ensures.cause.other_later;
    })
    file c.in-Ok.ensures.bytes (text, listed, c.in-Ok-listing_of.ensures.few) _
    (λ none w s makes. none_left w _ _ (list_names file none w s makes))
    (λ untouched. untouched)
    (list_ends file text (writes_of report) report.status _ _ _ refl listed
    c.in-Ok-listing_of.ensures.few c.text_report-report.ensures.writes
    c.text_report-report.ensures.done (c.write_report.ensures input input))

pub returns : goal.returns
returns g c = λ input.
    let f = c.in-Err.fault in
    wrong_source listing listing_is_a_mode c.args.request.now.file.now _ _
    c.in-Ok.file.items f _ c.in-Ok.ensures.bytes
    (told_wrong unlisted_status OutOfMemory refl f _ c.refuse_image-in-Err.ensures.known
    (subst (λ (b : List ℕ). f ≢ OutOfMemory → IsUnlisted b f) c.deref.ensures.value
    c.in-Err.ensures.cause))
    c.refuse_image-in-Err.ensures.known
    (λ other. record {
      files = c.in-Ok.ensures.same;
      out = keeps_same (g.O.Sink.bytes c.args.out.now);
      notes = c.refuse_image-in-Err.ensures.told other;
    })
    (λ memory. record {
      files = c.in-Ok.ensures.same;
      out = keeps_same (g.O.Sink.bytes c.args.out.now);
      notes = subst (λ n. Keeps (g.N.Sink.bytes c.args.notes.now) (g.N.Sink.bytes n))
          (sym (c.refuse_image-in-Err.ensures.memory memory)) (keeps_same _);
    })
    refl

pub returns-in-Err-TooLong : goal.returns-in-Err-TooLong
returns-in-Err-TooLong g c = λ input.
    let x = too_long_image _ (c.in-Err-TooLong.ensures.too_long (search rules)) in
    wrong_source listing listing_is_a_mode c.args.request.now.file.now _ _ x.0 TooLong _ x.1
    (λ other. x.2)
    c.refuse_image.ensures.known
    (λ other. record {
      files = c.in-Err-TooLong.ensures.same;
      out = keeps_same (g.O.Sink.bytes c.args.out.now);
      notes = c.refuse_image.ensures.told other;
    })
    (λ memory. record {
      files = c.in-Err-TooLong.ensures.same;
      out = keeps_same (g.O.Sink.bytes c.args.out.now);
      notes = subst (λ n. Keeps (g.N.Sink.bytes c.args.notes.now) (g.N.Sink.bytes n))
          (sym (c.refuse_image.ensures.memory memory)) (keeps_same _);
    })
    refl
