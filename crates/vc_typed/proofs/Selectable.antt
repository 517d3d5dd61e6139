-- Code can be selected for what a well-formed module within the limits stands for.
use Rattle.std.proofs.Common.{ℕ, List}
use Rattle.ob_syntax.specs.declared.token.Token.{Token}
use Rattle.ob_syntax.specs.declared.tree.Module.{Module}
use Rattle.ob_syntax.specs.Declarations.{Reading}
use Rattle.ob_syntax.specs.WellFormed.{IsWellFormed, IsWithin, resolved}
use Rattle.vc_typed.specs.TypedModules.{IsSelectable}
use Rattle.vc_typed.proofs.Bodies.{module_typed}
use Rattle.vc_typed.proofs.LaidOut.{laid_out}
use Rattle.vc_typed.proofs.Limited.{module_limited}
use Rattle.vc_typed.proofs.ProcedureTrees.{reading_sound}

pub module_selectable : (bytes : List ℕ) (tokens : List Token) (m : Module) (r : Reading) →
    IsWellFormed bytes tokens m r → IsWithin r → IsSelectable (resolved m r)
module_selectable bytes tokens m r is within =
    let sound = reading_sound bytes tokens m r is in
    record {
      laid = laid_out m r sound within;
      typed = module_typed m r sound;
      limited =
          module_limited m r sound within;
    }
