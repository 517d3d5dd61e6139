use Rattle.std.proofs.Common.{refl, sym, subst, ◌∙◌}
use Rattle.std.specs.Io.KnownBytes.{Keeps}
use Rattle.pra_tool.specs.Clause.{compiling}
use Rattle.pra_tool.proofs.CompilingModes.{keeps_same}
use Rattle.pra_tool.proofs.CompiledEnds.{input_ends, over_behind, over_alone}
use Rattle.pra_tool.proofs.tool.refuse_over.Goals as goal

pub returns-then-not-takes_input-clause-ends : goal.returns-then-not-takes_input-clause-ends
returns-then-not-takes_input-clause-ends g c = λ asked source folder out over.
    over_alone c.args.then asked source c.args.count _ _ _ over c.refuse_code_over.ensures.known
    (λ other. record {
      files = λ name. refl;
      out = keeps_same out.bytes;
      notes = c.refuse_code_over.ensures.told other;
    })
    (λ memory. record {
      files = λ name. refl;
      out = keeps_same out.bytes;
      notes = subst (λ n. Keeps (g.N.Sink.bytes c.args.notes.now) (g.N.Sink.bytes n))
          (sym (c.refuse_code_over.ensures.memory memory)) (keeps_same _);
    })
    (sym c.takes_input.ensures ∙ c.if-not-takes_input.true) refl

pub returns-clause-ends : goal.returns-clause-ends
returns-clause-ends g c = λ asked source folder out over.
    over_behind c.args.then asked source c.args.count _ _ _ over c.refuse_code_over-2.ensures.known
    (λ other. record {
      files = λ name. refl;
      out = keeps_same out.bytes;
      notes = c.refuse_code_over-2.ensures.told other;
    })
    (λ memory. record {
      files = λ name. refl;
      out = keeps_same out.bytes;
      notes = subst (λ n. Keeps (g.N.Sink.bytes c.args.notes.now) (g.N.Sink.bytes n))
          (sym (c.refuse_code_over-2.ensures.memory memory)) (keeps_same _);
    })
    _ (sym c.takes_input.ensures ∙ c.if-not-takes_input.false) c.in-Ok.ensures.numbers

pub returns-in-Err-clause-ends : goal.returns-in-Err-clause-ends
returns-in-Err-clause-ends g c = λ asked source folder out over.
    input_ends (compiling c.args.then asked)
    (sym c.takes_input.ensures ∙ c.if-not-takes_input.false) c.in-Err.fault _ _ _
    c.in-Err.ensures.cause
    c.refuse_input.ensures.known
    (λ other. record {
      files = λ name. refl;
      out = keeps_same out.bytes;
      notes = c.refuse_input.ensures.told other;
    })
    (λ memory. record {
      files = λ name. refl;
      out = keeps_same out.bytes;
      notes = subst (λ n. Keeps (g.N.Sink.bytes c.args.notes.now) (g.N.Sink.bytes n))
          (sym (c.refuse_input.ensures.memory memory)) (keeps_same _);
    })
    source
