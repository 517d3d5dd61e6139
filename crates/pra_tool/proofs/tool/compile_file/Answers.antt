use Rattle.std.proofs.Common.{rules, ◌≢◌, refl, subst, sym, List, ℕ}
use Rattle.std.specs.Io.KnownBytes.{Keeps}
use Rattle.pra_words.specs.Written.{asked_by}
use Rattle.pra_tool.specs.declared.source.SourceFault.TheVariants.{OutOfMemory}
use Rattle.pra_tool.specs.Clause.{compiling}
use Rattle.pra_tool.specs.Sources.{IsSourced, IsWrongSource, source_status}
use Rattle.pra_tool.proofs.ModeAnswers.{wrong_source, right_source}
use Rattle.pra_tool.proofs.CompilingModes.{compiling_is_a_mode, modes_leave, told_wrong, keeps_same}
use Rattle.pra_tool.proofs.Sources.{runnable_of, right_of}
use Rattle.pra_tool.proofs.SourceKinds.{too_long}
use Rattle.pra_tool.proofs.tool.compile_file.Goals as goal

pub returns-in-Ok-read_source-clause-answers : goal.returns-in-Ok-read_source-clause-answers
returns-in-Ok-read_source-clause-answers g c =
    let asked = asked_by c.args.request.now in
    let next = c.args.then in
    let source = c.in-Ok.source.items in
    let sourced = c.in-Ok-read_source.sourced in
    let is : IsSourced asked.from source sourced =
    subst (λ (s : List ℕ). IsSourced asked.from s sourced) c.deref.ensures.value
    c.in-Ok-read_source.ensures.sourced in
    right_source (compiling next asked) (compiling_is_a_mode next asked) asked.file _ _ _
    (record {
      same = c.in-Ok.ensures.same;
      input = refl;
      out = refl;
      notes = refl;
      later = c.in-Ok.ensures.cause.other_later;
    })
    source c.in-Ok.ensures.bytes (right_of asked.from source sourced is) _
    (λ input w s makes. modes_leave next asked.from asked source input w s _ _ makes)
    (λ untouched. untouched)
    (c.make.ensures.ends source is)

pub returns-clause-answers : goal.returns-clause-answers
returns-clause-answers g c =
    let f = c.in-Err.fault in
    let asked = asked_by c.args.request.now in
    let cause : f ≢ OutOfMemory → IsWrongSource asked.from c.in-Ok.source.items f =
    subst (λ (b : List ℕ). f ≢ OutOfMemory → IsWrongSource asked.from b f) c.deref.ensures.value
    c.in-Err.ensures.cause in
    wrong_source (compiling c.args.then asked) (compiling_is_a_mode c.args.then asked) asked.file _
    _
    c.in-Ok.source.items f _ c.in-Ok.ensures.bytes
    (told_wrong source_status OutOfMemory refl f _ c.refuse_source-in-Err.ensures.known cause)
    c.refuse_source-in-Err.ensures.known
    (λ other. record {
      files = c.in-Ok.ensures.same;
      out = keeps_same (g.O.Sink.bytes c.args.out.now);
      notes = c.refuse_source-in-Err.ensures.told other;
    })
    (λ memory. record {
      files = c.in-Ok.ensures.same;
      out = keeps_same (g.O.Sink.bytes c.args.out.now);
      notes = subst (λ n. Keeps (g.N.Sink.bytes c.args.notes.now) (g.N.Sink.bytes n))
          (sym (c.refuse_source-in-Err.ensures.memory memory)) (keeps_same _);
    })
    refl

pub returns-in-Err-TooLong-clause-answers : goal.returns-in-Err-TooLong-clause-answers
returns-in-Err-TooLong-clause-answers g c =
    let asked = asked_by c.args.request.now in
    let f = c.over_fault.result in
    let x = too_long asked.from c.max_source.result f c.max_source.ensures c.over_fault.ensures _
    (c.in-Err-TooLong.ensures.too_long (search rules)) in
    wrong_source (compiling c.args.then asked) (compiling_is_a_mode c.args.then asked) asked.file _
    _ x.0 f _ x.1
    (λ other. x.2)
    c.refuse_source.ensures.known
    (λ other. record {
      files = c.in-Err-TooLong.ensures.same;
      out = keeps_same (g.O.Sink.bytes c.args.out.now);
      notes = c.refuse_source.ensures.told other;
    })
    (λ memory. record {
      files = c.in-Err-TooLong.ensures.same;
      out = keeps_same (g.O.Sink.bytes c.args.out.now);
      notes = subst (λ n. Keeps (g.N.Sink.bytes c.args.notes.now) (g.N.Sink.bytes n))
          (sym (c.refuse_source.ensures.memory memory)) (keeps_same _);
    })
    refl

pub make-requires-clause-runnable : goal.make-requires-clause-runnable
make-requires-clause-runnable g c =
    runnable_of c.args.request.now.from _ c.in-Ok-read_source.sourced
    c.in-Ok-read_source.ensures.sourced

pub make-requires-clause-rounds : goal.make-requires-clause-rounds
make-requires-clause-rounds g c = c.requires.rounds
