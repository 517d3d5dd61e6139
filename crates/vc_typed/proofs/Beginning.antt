-- The place where a module begins fits the checked module that the module stands for.
use Rattle.std.proofs.Common.{◌≡◌, ℕ, zero, suc, List, [], ◌∷◌, map, Some, ap, sym, ◌∙◌, subst}
use Rattle.std.specs.Prelude.{slice_get}
use Rattle.pra_list.proofs.Options.{none_some}
use Rattle.ob_syntax.specs.declared.checked.Shape.{Shape}
use Rattle.ob_syntax.specs.declared.checked.Shape.TheVariants.{Integer, Boolean}
use Rattle.ob_syntax.specs.declared.token.Token.{Token}
use Rattle.ob_syntax.specs.declared.tree.Module.{Module}
use Rattle.ob_syntax.specs.Declarations.{Reading, beginning}
use Rattle.ob_syntax.specs.WellFormed.{checked_proc, lent_in_body, marked_params, resolved}
use Rattle.vc_typed.specs.Fitting.{AreAlike, HasProcedure, Fits}
use Rattle.vc_typed.proofs.ProcedureTrees.{ReadingSound, beginning_sound, beginning_shows}
use Rattle.vc_typed.proofs.Scopes.{fitting}

-- the body of the module, which has no parameters
pub body_there : (m : Module) (r : Reading) → ReadingSound r → HasProcedure (resolved m r) 0 []
body_there m r sound = record {
  proc = checked_proc r.place sound.body;
  there = there;
  alike =
      alike;
  scalars = tt;
}
  where
    there : slice_get (map (checked_proc r.place) r.procs) 0 ≡
        Some (checked_proc r.place sound.body)
    there = ap (λ ds. slice_get (map (checked_proc r.place) ds) 0) sound.first

    alike : AreAlike [] (checked_proc r.place sound.body).params
    alike = subst (λ ps. AreAlike [] (marked_params (lent_in_body sound.body) 0 ps))
        (sym sound.no_params) tt

pub begins : (bytes : List ℕ) (tokens : List Token) (m : Module) (r : Reading) → ReadingSound r →
    Fits (resolved m r) (beginning bytes tokens)
begins bytes tokens m r sound =
    fitting (resolved m r) (beginning bytes tokens) (beginning_sound bytes tokens) types
    (beginning_shows (resolved m r) bytes tokens (body_there m r sound))
  where
    types : (k : ℕ) (shape : Shape) → slice_get (Integer ∷ Boolean ∷ []) k ≡ Some shape →
        slice_get r.place.types k ≡ Some shape
    types zero shape at = sound.ordered.first ∙ at
    types (suc zero) shape at = sound.ordered.second ∙ at
    types (suc (suc k)) shape at = absurd (none_some at)
