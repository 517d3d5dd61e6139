use Rattle.std.proofs.Common.{rules, sym, subst}
use Rattle.std.specs.Io.KnownBytes.{Keeps}
use Rattle.pra_words.specs.Words.{asked_of, texts}
use Rattle.pra_words.specs.Written.{asked_by}
use Rattle.pra_tool.proofs.AskedValues.{answerable}
use Rattle.pra_tool.proofs.CompilingModes.{keeps_same}
use Rattle.pra_tool.proofs.WordsEnds.{refused_words}
use Rattle.pra_tool.proofs.tool.answer.Goals as goal

pub returns-in-Err-clause-promise : goal.returns-in-Err-clause-promise
returns-in-Err-clause-promise g c =
    refused_words (asked_of (texts c.args.words.now)) c.in-Err.fault _ _ _
    c.in-Err.ensures
    c.refuse_words.ensures.known
    (λ bad. record {
      files = λ name. search rules;
      out = keeps_same (g.O.Sink.bytes c.args.out.now);
      notes = c.refuse_words.ensures.told bad;
    })
    (λ memory. record {
      files = λ name. search rules;
      out = keeps_same (g.O.Sink.bytes c.args.out.now);
      notes = subst (λ n. Keeps (g.N.Sink.bytes c.args.notes.now) (g.N.Sink.bytes n))
          (sym (c.refuse_words.ensures.memory memory)) (keeps_same _);
    })

pub perform-requires : goal.perform-requires
perform-requires g c =
    answerable (texts c.args.words.now) (asked_by c.in-Ok.request) c.in-Ok.ensures
