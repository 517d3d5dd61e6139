use Rattle.std.proofs.Common.{refl}
use Rattle.ia_asm.proofs.Assembling.{begun}
use Rattle.ia_asm.proofs.assembly.Assembly.begin.Goals as goal

pub returns : goal.returns
returns c =
    let p = c.in_ok-front.front in
    begun c.args.data_words p.bytes.items p.calls.items c.in_ok-front.ensures c.requires _ refl refl
    c.new.ensures.items refl
