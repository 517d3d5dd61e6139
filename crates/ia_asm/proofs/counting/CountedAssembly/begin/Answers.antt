use Rattle.std.proofs.Common.{[], ◌∙◌}
use Rattle.ia_asm.proofs.Assembling.{length_assembly}
use Rattle.ia_asm.proofs.counting.CountedAssembly.begin.Goals as goal

pub returns : goal.returns
returns c =
    let is = c.in_ok-assembly.ensures in
    record {
      bytes = c.bytes-bytes.ensures
          ∙ length_assembly [] c.args.data_words c.in_ok-assembly.assembly is;
      fits = λ _. is;
    }
