use Rattle.std.proofs.Common.{rules, ◌≢◌, refl, subst, sym, List, ℕ}
use Rattle.std.specs.Io.KnownBytes.{Keeps}
use Rattle.ia_asm.specs.Rules.{IsFileOf}
use Rattle.pra_words.specs.Written.{asked_by}
use Rattle.pra_tool.specs.declared.listing.Unlisted.TheVariants.{TooLong, OutOfMemory}
use Rattle.pra_tool.specs.Listings.{IsUnloaded, unlisted_status}
use Rattle.pra_tool.specs.Clause.{executing}
use Rattle.pra_tool.proofs.ModeAnswers.{wrong_source, right_source}
use Rattle.pra_tool.proofs.CompilingModes.{told_wrong, none_left, keeps_same}
use Rattle.pra_tool.proofs.ListingEnds.{too_long_to_run}
use Rattle.pra_tool.proofs.ExecModes.{executing_is_a_mode, exec_names}
use Rattle.pra_tool.proofs.tool.exec_file.Goals as goal

pub returns-in-Ok-image_in : goal.returns-in-Ok-image_in
returns-in-Ok-image_in g c =
    let asked = asked_by c.args.request.now in
    let file = c.in-Ok.file.items in
    let image = c.in-Ok-image_in.image in
    let held : IsFileOf file image =
    subst (λ (f : List ℕ). IsFileOf f image) c.deref.ensures.value
    c.in-Ok-image_in.ensures.held in
    right_source (executing asked) (executing_is_a_mode asked) asked.file _ _ _
    (record {
      same = c.in-Ok.ensures.same;
      input = refl;
      out = refl;
      notes = refl;
      later = c.in-Ok.ensures.cause.other_later;
    })
    file c.in-Ok.ensures.bytes (image, held) _
    (λ input w s makes. none_left w _ _ (exec_names asked file input w s makes))
    (λ untouched. untouched)
    (c.exec_image.ensures file held)

pub returns : goal.returns
returns g c =
    let asked = asked_by c.args.request.now in
    let f = c.in-Err.fault in
    wrong_source (executing asked) (executing_is_a_mode asked) asked.file _ _
    c.in-Ok.file.items f _ c.in-Ok.ensures.bytes
    (told_wrong unlisted_status OutOfMemory refl f _ c.refuse_image-in-Err.ensures.known
    (subst (λ (b : List ℕ). f ≢ OutOfMemory → IsUnloaded b f) c.deref.ensures.value
    c.in-Err.ensures.cause))
    c.refuse_image-in-Err.ensures.known
    (λ other. record {
      files = c.in-Ok.ensures.same;
      out = keeps_same (g.O.Sink.bytes c.args.out.now);
      notes = c.refuse_image-in-Err.ensures.told other;
    })
    (λ memory. record {
      files = c.in-Ok.ensures.same;
      out = keeps_same (g.O.Sink.bytes c.args.out.now);
      notes = subst (λ n. Keeps (g.N.Sink.bytes c.args.notes.now) (g.N.Sink.bytes n))
          (sym (c.refuse_image-in-Err.ensures.memory memory)) (keeps_same _);
    })
    refl

pub returns-in-Err-TooLong : goal.returns-in-Err-TooLong
returns-in-Err-TooLong g c =
    let asked = asked_by c.args.request.now in
    let x = too_long_to_run _ (c.in-Err-TooLong.ensures.too_long (search rules)) in
    wrong_source (executing asked) (executing_is_a_mode asked) asked.file _ _ x.0 TooLong _ x.1
    (λ other. x.2)
    c.refuse_image.ensures.known
    (λ other. record {
      files = c.in-Err-TooLong.ensures.same;
      out = keeps_same (g.O.Sink.bytes c.args.out.now);
      notes = c.refuse_image.ensures.told other;
    })
    (λ memory. record {
      files = c.in-Err-TooLong.ensures.same;
      out = keeps_same (g.O.Sink.bytes c.args.out.now);
      notes = subst (λ n. Keeps (g.N.Sink.bytes c.args.notes.now) (g.N.Sink.bytes n))
          (sym (c.refuse_image.ensures.memory memory)) (keeps_same _);
    })
    refl
