use Rattle.std.proofs.Common.{arith}
use Rattle.ia_emit.specs.Code.{target_in}
use Rattle.ia_emit.specs.Emission.{emit_proc}
use Rattle.ia_emit.proofs.Open.{length_open}
use Rattle.ia_asm.proofs.ByteCounts.{one_fits}
use Rattle.ia_asm.proofs.counting.bytes_of.Goals as goal

pub piece_of-requires-clause-room : goal.piece_of-requires-clause-room
piece_of-requires-clause-room c =
    let fits = one_fits c.args.proc.now c.requires.placed c.requires.few in omega (arith, fits)

pub returns : goal.returns
returns c =
    let piece = c.in_ok-piece.piece in
    let long = length_open (target_in c.args.proc.now 0) 0 (emit_proc c.args.proc.now)
    piece.bytes.items piece.calls.items c.in_ok-piece.ensures.open in
    let own = c.len.ensures in
    let all = piece.bytes.ok in
    omega (arith, long, own, all)
