use Rattle.std.proofs.Common.{◌≢◌, ◌<◌, inl, refl, subst, sym, List, ℕ, length, arith}
use Rattle.std.specs.Io.KnownBytes.{Keeps}
use Rattle.pra_words.specs.declared.words.FileKind.TheVariants.{Module}
use Rattle.pra_words.specs.Written.{asked_by}
use Rattle.pra_tool.specs.declared.source.SourceFault.TheVariants.{OutOfMemory}
use Rattle.pra_tool.specs.Clause.{generating}
use Rattle.pra_tool.specs.Sources.{IsSourced, IsWrongSource, source_status}
use Rattle.pra_tool.proofs.ModeAnswers.{wrong_source, right_source}
use Rattle.pra_tool.proofs.CompilingModes.{told_wrong, keeps_same}
use Rattle.pra_tool.proofs.Generating.{generating_is_a_mode, gen_leaves}
use Rattle.pra_tool.proofs.Sources.{right_of}
use Rattle.pra_tool.proofs.SourceKinds.{over_is_wrong}
use Rattle.pra_tool.proofs.tool.gen_file.Goals as goal

pub returns-then-len-gt-MAX_SOURCE : goal.returns-then-len-gt-MAX_SOURCE
returns-then-len-gt-MAX_SOURCE g c = λ input.
    let asked = asked_by c.args.request.now in
    let f = c.over_fault.result in
    let long : 1048576 < length c.in-Ok.text.items =
    omega (arith, c.if-len-gt-MAX_SOURCE.true, c.in-Ok.text.ok) in
    wrong_source (generating asked) (generating_is_a_mode asked) asked.file _ _
    c.in-Ok.text.items f _ (sym c.in-Ok.ensures)
    (λ other. over_is_wrong Module c.in-Ok.text.items f c.over_fault.ensures long)
    c.refuse_source.ensures.known
    (λ other. record {
      files = λ name. refl;
      out = keeps_same (g.O.Sink.bytes c.args.out.now);
      notes = c.refuse_source.ensures.told other;
    })
    (λ memory. inl (record {
      files = λ name. refl;
      out = keeps_same (g.O.Sink.bytes c.args.out.now);
      notes = subst (λ n. Keeps (g.N.Sink.bytes c.args.notes.now) (g.N.Sink.bytes n))
          (sym (c.refuse_source.ensures.memory memory)) (keeps_same _);
    }))
    refl

pub write_generated-requires-clause-rounds : goal.write_generated-requires-clause-rounds
write_generated-requires-clause-rounds g c = c.requires.within.rounds

pub write_generated-requires-clause-sourced : goal.write_generated-requires-clause-sourced
write_generated-requires-clause-sourced g c =
    subst (λ (s : List ℕ). IsSourced Module s c.in-Ok-read_source.sourced) c.deref.ensures.value
    c.in-Ok-read_source.ensures.sourced

pub returns-in-Ok-read_source : goal.returns-in-Ok-read_source
returns-in-Ok-read_source g c = λ input.
    let asked = asked_by c.args.request.now in
    let text = c.in-Ok.text.items in
    let sourced = c.in-Ok-read_source.sourced in
    let is : IsSourced Module text sourced =
    subst (λ (s : List ℕ). IsSourced Module s sourced) c.deref.ensures.value
    c.in-Ok-read_source.ensures.sourced in
    right_source (generating asked) (generating_is_a_mode asked) asked.file _ _ _
    (record {
      same = λ name. refl;
      input = refl;
      out = refl;
      notes = refl;
      later = λ name. omega arith;
    })
    text (sym c.in-Ok.ensures) (right_of Module text sourced is) _
    (λ none w s makes. gen_leaves asked text none w s _ _ makes)
    (λ untouched. inl untouched)
    (c.write_generated.ensures input)

pub returns-in-Err-read_source : goal.returns-in-Err-read_source
returns-in-Err-read_source g c = λ input.
    let f = c.in-Err-read_source.fault in
    let asked = asked_by c.args.request.now in
    let cause : f ≢ OutOfMemory → IsWrongSource Module c.in-Ok.text.items f =
    subst (λ (b : List ℕ). f ≢ OutOfMemory → IsWrongSource Module b f) c.deref.ensures.value
    c.in-Err-read_source.ensures.cause in
    wrong_source (generating asked) (generating_is_a_mode asked) asked.file _ _
    c.in-Ok.text.items f _ (sym c.in-Ok.ensures)
    (told_wrong source_status OutOfMemory refl f _
    c.refuse_source-in-Err-read_source.ensures.known cause)
    c.refuse_source-in-Err-read_source.ensures.known
    (λ other. record {
      files = λ name. refl;
      out = keeps_same (g.O.Sink.bytes c.args.out.now);
      notes = c.refuse_source-in-Err-read_source.ensures.told other;
    })
    (λ memory. inl (record {
      files = λ name. refl;
      out = keeps_same (g.O.Sink.bytes c.args.out.now);
      notes = subst (λ n. Keeps (g.N.Sink.bytes c.args.notes.now) (g.N.Sink.bytes n))
          (sym (c.refuse_source-in-Err-read_source.ensures.memory memory)) (keeps_same _);
    }))
    refl
