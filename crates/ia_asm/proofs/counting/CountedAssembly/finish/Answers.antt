use Rattle.std.proofs.Common.{◌≤◌, arith}
use Rattle.ia_code.specs.Image.{max_code_bytes}
use Rattle.ia_emit.specs.Code.{code_size}
use Rattle.ia_asm.proofs.counting.CountedAssembly.finish.Goals as goal

pub returns-then-self-clause-image : goal.returns-then-self-clause-image
returns-then-self-clause-image c = λ procs words is.
    let fits : code_size procs ≤ max_code_bytes =
    omega (arith, is.bytes, c.if-self.true) in
    c.finish.ensures.image procs words (is.fits fits)
