use Rattle.std.proofs.Common.{ap}
use Rattle.pra_words.specs.declared.words.Mode.TheVariants.{Run, Compile, Gen, List, Asm, Interp}
use Rattle.pra_words.specs.declared.words.Mode.TheVariants.{Cert, Check, Exec, Apply}
use Rattle.pra_words.specs.Words.{writes_image}
use Rattle.pra_words.specs.Written.{asked_by}
use Rattle.pra_tool.specs.Outside.{stream_seen}
use Rattle.pra_tool.proofs.ListingEnds.{answers_by}
use Rattle.pra_tool.proofs.tool.perform.Goals as goal

pub returns-in-Run-clause-answers : goal.returns-in-Run-clause-answers
returns-in-Run-clause-answers g c =
    answers_by Run (asked_by c.args.request.now) c.args.request.now.file.now _ _ _
    c.in-Run.is c.compile_file.ensures.answers

pub returns-in-Compile-clause-answers : goal.returns-in-Compile-clause-answers
returns-in-Compile-clause-answers g c =
    answers_by Compile (asked_by c.args.request.now) c.args.request.now.file.now _ _ _
    c.in-Compile.is c.compile_file-in-Compile.ensures.answers

pub returns-in-List-clause-answers : goal.returns-in-List-clause-answers
returns-in-List-clause-answers g c =
    answers_by List (asked_by c.args.request.now) c.args.request.now.file.now _ _ _
    c.in-List.is
    (c.list_file.ensures (stream_seen g.I.Source.left g.I.Source.faults c.args.input.now))

pub returns-in-Asm-clause-answers : goal.returns-in-Asm-clause-answers
returns-in-Asm-clause-answers g c =
    answers_by Asm (asked_by c.args.request.now) c.args.request.now.file.now _ _ _
    c.in-Asm.is
    (c.asm_file.ensures (stream_seen g.I.Source.left g.I.Source.faults c.args.input.now))

pub returns-in-Interp-clause-answers : goal.returns-in-Interp-clause-answers
returns-in-Interp-clause-answers g c =
    answers_by Interp (asked_by c.args.request.now) c.args.request.now.file.now _ _ _
    c.in-Interp.is c.compile_file-in-Interp.ensures.answers

pub gen_file-requires-clause-apart : goal.gen_file-requires-clause-apart
gen_file-requires-clause-apart g c =
    c.requires.apart (ap writes_image c.in-Gen.is)

pub returns-in-Gen-clause-answers : goal.returns-in-Gen-clause-answers
returns-in-Gen-clause-answers g c =
    answers_by Gen (asked_by c.args.request.now) c.args.request.now.file.now _ _ _
    c.in-Gen.is
    (c.gen_file.ensures (stream_seen g.I.Source.left g.I.Source.faults c.args.input.now))

pub returns-in-Cert-clause-answers : goal.returns-in-Cert-clause-answers
returns-in-Cert-clause-answers g c =
    answers_by Cert (asked_by c.args.request.now) c.args.request.now.file.now _ _ _
    c.in-Cert.is c.compile_file-in-Cert.ensures.answers

pub returns-in-Check-clause-answers : goal.returns-in-Check-clause-answers
returns-in-Check-clause-answers g c =
    answers_by Check (asked_by c.args.request.now) c.args.request.now.file.now _ _ _
    c.in-Check.is
    (c.check_file.ensures (stream_seen g.I.Source.left g.I.Source.faults c.args.input.now))

pub returns-in-Exec-clause-answers : goal.returns-in-Exec-clause-answers
returns-in-Exec-clause-answers g c =
    answers_by Exec (asked_by c.args.request.now) c.args.request.now.file.now _ _ _
    c.in-Exec.is c.exec_file.ensures

pub returns-in-Apply-clause-answers : goal.returns-in-Apply-clause-answers
returns-in-Apply-clause-answers g c =
    answers_by Apply (asked_by c.args.request.now) c.args.request.now.file.now _ _ _
    c.in-Apply.is c.apply_file.ensures
