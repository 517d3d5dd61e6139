use Rattle.std.proofs.Common.{rules, ◌≢◌, refl, subst, sym, List, ℕ}
use Rattle.std.specs.Io.KnownBytes.{Keeps}
use Rattle.pra_words.specs.Written.{asked_by}
use Rattle.pra_tool.specs.declared.source.SourceFault.TheVariants.{OutOfMemory}
use Rattle.pra_tool.specs.Clause.{applying}
use Rattle.pra_tool.specs.Sources.{IsSourced, IsWrongSource, source_status}
use Rattle.pra_tool.proofs.ApplyModes.{applying_is_a_mode, apply_names}
use Rattle.pra_tool.proofs.ModeAnswers.{not_read, wrong_source, right_source}
use Rattle.pra_tool.proofs.CompilingModes.{nothing_left, told_wrong, keeps_same}
use Rattle.pra_tool.proofs.Sources.{runnable_of, right_of}
use Rattle.pra_tool.proofs.SourceKinds.{too_long}
use Rattle.pra_tool.proofs.apply.apply_file.Goals as goal

pub apply_input-requires : goal.apply_input-requires
apply_input-requires g c =
    runnable_of c.args.request.now.from _ c.in-Ok-read_source.sourced
    c.in-Ok-read_source.ensures.sourced

pub returns-in-Ok-read_source : goal.returns-in-Ok-read_source
returns-in-Ok-read_source g c =
    let asked = asked_by c.args.request.now in
    let source = c.in-Ok.source.items in
    let sourced = c.in-Ok-read_source.sourced in
    let is : IsSourced asked.from source sourced =
    subst (λ (s : List ℕ). IsSourced asked.from s sourced) c.deref.ensures.value
    c.in-Ok-read_source.ensures.sourced in
    right_source (applying asked) (applying_is_a_mode asked) asked.file _ _ _
    (record {
      same = c.in-Ok.ensures.same;
      input = refl;
      out = refl;
      notes = refl;
      later = c.in-Ok.ensures.cause.other_later;
    })
    source c.in-Ok.ensures.bytes (right_of asked.from source sourced is) _
    (λ input w s makes. nothing_left w asked.image _ _
    (apply_names asked.from asked source input w s makes))
    (λ untouched. untouched)
    (c.apply_input.ensures source is)

pub returns : goal.returns
returns g c =
    let f = c.in-Err.fault in
    let asked = asked_by c.args.request.now in
    let cause : f ≢ OutOfMemory → IsWrongSource asked.from c.in-Ok.source.items f =
    subst (λ (b : List ℕ). f ≢ OutOfMemory → IsWrongSource asked.from b f) c.deref.ensures.value
    c.in-Err.ensures.cause in
    wrong_source (applying asked) (applying_is_a_mode asked) asked.file _ _
    c.in-Ok.source.items f _ c.in-Ok.ensures.bytes
    (told_wrong source_status OutOfMemory refl f _ c.refuse_source-in-Err.ensures.known cause)
    c.refuse_source-in-Err.ensures.known
    (λ other. record {
      files = c.in-Ok.ensures.same;
      out = keeps_same (g.O.Sink.bytes c.args.out.now);
      notes = c.refuse_source-in-Err.ensures.told other;
    })
    (λ memory. record {
      files = c.in-Ok.ensures.same;
      out = keeps_same (g.O.Sink.bytes c.args.out.now);
      notes = subst (λ n. Keeps (g.N.Sink.bytes c.args.notes.now) (g.N.Sink.bytes n))
          (sym (c.refuse_source-in-Err.ensures.memory memory)) (keeps_same _);
    })
    refl

pub returns-in-Err-TooLong : goal.returns-in-Err-TooLong
returns-in-Err-TooLong g c =
    let asked = asked_by c.args.request.now in
    let f = c.over_fault.result in
    let x = too_long asked.from c.max_source.result f c.max_source.ensures c.over_fault.ensures _
    (c.in-Err-TooLong.ensures.too_long (search rules)) in
    wrong_source (applying asked) (applying_is_a_mode asked) asked.file _ _ x.0 f _ x.1
    (λ other. x.2)
    c.refuse_source.ensures.known
    (λ other. record {
      files = c.in-Err-TooLong.ensures.same;
      out = keeps_same (g.O.Sink.bytes c.args.out.now);
      notes = c.refuse_source.ensures.told other;
    })
    (λ memory. record {
      files = c.in-Err-TooLong.ensures.same;
      out = keeps_same (g.O.Sink.bytes c.args.out.now);
      notes = subst (λ n. Keeps (g.N.Sink.bytes c.args.notes.now) (g.N.Sink.bytes n))
          (sym (c.refuse_source.ensures.memory memory)) (keeps_same _);
    })
    refl

pub returns-in-Err-Failed : goal.returns-in-Err-Failed
returns-in-Err-Failed g c =
    let asked = asked_by c.args.request.now in
    not_read (applying asked) (applying_is_a_mode asked) asked.file _ _ _ c.refuse.ensures.status
    (record {
      cause = c.in-Err-Failed.ensures.cause.failed (search rules);
      left = record {
        files = c.in-Err-Failed.ensures.same;
        out = keeps_same (g.O.Sink.bytes c.args.out.now);
        notes = c.refuse.ensures.lines;
      };
      alone = refl;
    })
