use Rattle.std.proofs.Common.{rules, arith, ◌≢◌, refl, subst, sym, List, ℕ}
use Rattle.std.specs.Io.KnownBytes.{Keeps}
use Rattle.pra_tool.specs.declared.listing.Unassembled.TheVariants.{TooLong, OutOfMemory}
use Rattle.pra_words.specs.Written.{asked_by}
use Rattle.ia_list.specs.ListText.{IsListText}
use Rattle.pra_tool.specs.Listings.{IsTextOf, IsUnassembled, unassembled_status}
use Rattle.pra_tool.specs.Clause.{assembling}
use Rattle.pra_tool.proofs.ModeAnswers.{wrong_source, right_source}
use Rattle.pra_tool.proofs.CompilingModes.{told_wrong, nothing_left, keeps_same}
use Rattle.pra_tool.proofs.ListingModes.{assembling_is_a_mode}
use Rattle.pra_tool.proofs.ListingEnds.{asm_names, too_long_text}
use Rattle.pra_tool.proofs.tool.asm_file.Goals as goal

pub returns-in-Ok-image_by : goal.returns-in-Ok-image_by
returns-in-Ok-image_by g c = λ input.
    let asked = asked_by c.args.request.now in
    let text = c.in-Ok.text.items in
    let image = c.in-Ok-image_by.image in
    let listed : IsTextOf text image = (
      omega (arith, c.in-Ok.ensures.size, c.in-Ok.text.ok),
      c.in-Ok-image_by.ensures.valid,
      subst (λ (t : List ℕ). IsListText image t) c.deref.ensures.value
          c.in-Ok-image_by.ensures.listed,
    ) in
    right_source (assembling asked) (assembling_is_a_mode asked) asked.file _ _ _
    (record {
      same = c.in-Ok.ensures.same;
      input = refl;
      out = refl;
      notes = refl;
      later = c.in-Ok.ensures.cause.other_later;
    })
    text c.in-Ok.ensures.bytes (image, listed) _
    (λ none w s makes. nothing_left w asked.image _ _ (asm_names asked text none w s makes))
    (λ untouched. untouched)
    (c.write_image.ensures text input listed)

pub returns : goal.returns
returns g c = λ input.
    let f = c.in-Err.fault in
    let asked = asked_by c.args.request.now in
    wrong_source (assembling asked) (assembling_is_a_mode asked) asked.file _ _
    c.in-Ok.text.items f _ c.in-Ok.ensures.bytes
    (told_wrong unassembled_status OutOfMemory refl f _ c.refuse_text-in-Err.ensures.known
    (subst (λ (b : List ℕ). f ≢ OutOfMemory → IsUnassembled b f) c.deref.ensures.value
    c.in-Err.ensures.cause))
    c.refuse_text-in-Err.ensures.known
    (λ other. record {
      files = c.in-Ok.ensures.same;
      out = keeps_same (g.O.Sink.bytes c.args.out.now);
      notes = c.refuse_text-in-Err.ensures.told other;
    })
    (λ memory. record {
      files = c.in-Ok.ensures.same;
      out = keeps_same (g.O.Sink.bytes c.args.out.now);
      notes = subst (λ n. Keeps (g.N.Sink.bytes c.args.notes.now) (g.N.Sink.bytes n))
          (sym (c.refuse_text-in-Err.ensures.memory memory)) (keeps_same _);
    })
    refl

pub returns-in-Err-TooLong : goal.returns-in-Err-TooLong
returns-in-Err-TooLong g c = λ input.
    let asked = asked_by c.args.request.now in
    let x = too_long_text _ (c.in-Err-TooLong.ensures.too_long (search rules)) in
    wrong_source (assembling asked) (assembling_is_a_mode asked) asked.file _ _ x.0 TooLong _
    x.1 (λ other. x.2)
    c.refuse_text.ensures.known
    (λ other. record {
      files = c.in-Err-TooLong.ensures.same;
      out = keeps_same (g.O.Sink.bytes c.args.out.now);
      notes = c.refuse_text.ensures.told other;
    })
    (λ memory. record {
      files = c.in-Err-TooLong.ensures.same;
      out = keeps_same (g.O.Sink.bytes c.args.out.now);
      notes = subst (λ n. Keeps (g.N.Sink.bytes c.args.notes.now) (g.N.Sink.bytes n))
          (sym (c.refuse_text.ensures.memory memory)) (keeps_same _);
    })
    refl
