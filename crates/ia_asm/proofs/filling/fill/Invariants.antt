-- what is left to fill gives what all calls give
use Rattle.std.proofs.Common.{◌≡◌, length, drop}
use Rattle.ia_emit.specs.Open.{filled}
use Rattle.ia_asm.specs.Assembly.{entry_in}
use Rattle.ia_asm.proofs.filling.fill.Given as goal

abbrev pub invariant-loop-call : goal.invariant-loop-call
invariant-loop-call l = record {
  long : length l.code ≡ length l.fn.code;
  same :
      filled (entry_in l.entries (length l.fn.code)) 0 (drop l.call-index l.calls) l.code
      ≡ filled (entry_in l.entries (length l.fn.code)) 0 l.calls l.fn.code;
}
