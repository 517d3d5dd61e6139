use Rattle.std.proofs.Common.{◌≡◌, ◌≤◌, ◌∷◌, ◌++◌, [], arith}
use Rattle.ia_code.specs.Image.{max_code_bytes}
use Rattle.ia_emit.specs.Code.{code_size}
use Rattle.ia_asm.proofs.Assembling.{length_assembly}
use Rattle.ia_asm.proofs.ByteCounts.{size_more}
use Rattle.ia_asm.proofs.counting.CountedAssembly.add.Goals as goal

pub add-requires-clause-room : goal.add-requires-clause-room
add-requires-clause-room c =
    let procs = c.requires.counted.0 in
    let is = c.requires.counted.2 in
    let own = c.in_ok-own.ensures in
    let all = c.in_ok-bytes.ensures in
    let test = c.if-bytes.false in
    let counted = is.bytes in
    let before : code_size procs ≤ max_code_bytes = omega (arith, all, test, counted) in
    let long = length_assembly procs c.requires.counted.1 c.args.self.now.assembly
    (is.fits before) in
    omega (arith, long, own, all, test, counted)

pub returns-then-bytes : goal.returns-then-bytes
returns-then-bytes c = λ procs words is.
    let own = c.in_ok-own.ensures in
    let all = c.in_ok-bytes.ensures in
    let test = c.if-bytes.true in
    let counted = is.bytes in
    let more = size_more procs c.args.proc.now in
    record {
      bytes = omega (arith, own, all, counted, more);
      fits = λ le. absurd (omega (arith, own, all, counted, more, test, le));
    }

pub returns : goal.returns
returns c = λ procs words is.
    let own = c.in_ok-own.ensures in
    let all = c.in_ok-bytes.ensures in
    let test = c.if-bytes.false in
    let counted = is.bytes in
    let more = size_more procs c.args.proc.now in
    let before : code_size procs ≤ max_code_bytes = omega (arith, all, test, counted) in
    record {
      bytes = omega (arith, own, all, counted, more);
      fits = λ le. c.in_ok-add.ensures.ok procs words (is.fits before);
    }
