-- How many blocks are made for a tree. `&` and OR as values have two where the right side may trap:
-- one for that side, and one behind both ways. In a condition each of them has one, for its right
-- side.
use Rattle.std.specs.Prelude.{ℕ, ◌+◌, Bool, true, false, ◌&&◌, ◌||◌, not, if◌then◌else◌}
use Rattle.std.specs.Prelude.{List, [], ◌∷◌, map, replicate}
use Rattle.pra_base.specs.declared.ids.BlockId.{BlockId}
use Rattle.pra_base.specs.declared.code.VProc.{VProc}
use Rattle.ob_syntax.specs.declared.checked.ROp.{ROp}
use Rattle.ob_syntax.specs.declared.checked.RExpr.{RExpr, RExpr-F, fold-RExpr}
use Rattle.ob_syntax.specs.declared.checked.RStep.{RStep, RStep-F, fold-RStep}
use Rattle.ob_syntax.specs.declared.checked.RVar.{RVar, RVar-F, fold-RVar}
use Rattle.vc_build.specs.Text.{depth_at, Enters, GoesOn}
use Rattle.vc_expr.specs.Division.{is_division}
use Rattle.vc_expr.specs.Operators.{is_bitwise}

-- What an expression needs: blocks where its value is wanted, blocks where it is a condition, and
-- whether it never traps, as it has no index, DIV or MOD.
pub record Needs : Type 0 where
  pub value : ℕ
  pub test : ℕ
  pub safe : Bool

-- What selectors need: the blocks of their indexes, and whether there is none.
pub record PathNeeds : Type 0 where
  pub blocks : ℕ
  pub safe : Bool

-- the same blocks as a value and as a condition
abbrev pub alike : ℕ → Bool → Needs
alike n safe = record { value = n; test = n; safe = safe }

-- Both sides of an operator are evaluated, unless it is `&` or OR and the right one may trap.
abbrev pub has_both : ROp → Bool → Bool
has_both op safe = not (is_bitwise op) || safe

abbrev pub binary_needs : ROp → Needs → Needs → Needs
binary_needs op x y = record {
  value = if has_both op y.safe then x.value + y.value else x.test + (1 + (y.value + 1));
  test = if is_bitwise op then x.test + (1 + y.test) else x.value + y.value;
  safe = not (is_division op) && (x.safe && y.safe);
}

abbrev pub expr_needs : RExpr-F Needs PathNeeds PathNeeds → Needs
expr_needs (RExpr-F.Number n) = alike 0 true
expr_needs (RExpr-F.Truth b) = alike 0 true
expr_needs (RExpr-F.Var v) = alike v.blocks v.safe
expr_needs (RExpr-F.Negate x) = alike x.value x.safe
expr_needs (RExpr-F.Not x) = x
expr_needs (RExpr-F.Binary op x y) = binary_needs op x y

abbrev pub step_needs : RStep-F Needs PathNeeds PathNeeds → PathNeeds
step_needs (RStep-F.Field k) = record { blocks = 0; safe = true }
step_needs (RStep-F.Index x) = record { blocks = x.value; safe = false }

abbrev pub all_safe : List PathNeeds → Bool
all_safe [] = true
all_safe (s ∷ ss) = s.safe && all_safe ss

abbrev pub all_blocks : List PathNeeds → ℕ
all_blocks [] = 0
all_blocks (s ∷ ss) = s.blocks + all_blocks ss

abbrev pub var_needs : RVar-F Needs PathNeeds PathNeeds → PathNeeds
var_needs v = record { blocks = all_blocks v.steps; safe = all_safe v.steps }

abbrev pub needs : RExpr → Needs
needs = fold-RExpr Needs PathNeeds PathNeeds expr_needs step_needs var_needs

abbrev pub needs_of_step : RStep → PathNeeds
needs_of_step = fold-RStep Needs PathNeeds PathNeeds expr_needs step_needs var_needs

abbrev pub needs_of_var : RVar → PathNeeds
needs_of_var = fold-RVar Needs PathNeeds PathNeeds expr_needs step_needs var_needs

-- the blocks for selectors one after the other
abbrev pub blocks_of_steps : List RStep → ℕ
blocks_of_steps steps = all_blocks (map needs_of_step steps)

-- ---- added code

-- Code that was added from one open block to another entered so many blocks, each as deep as the
-- first one.
pub record StaysInText (n from to : ℕ) (old new : VProc) (before after : List BlockId)
    : Type 0 where
  pub goes : GoesOn from to old new before after (replicate n (depth_at old from))

-- The same of code that leaves its block.
pub record EndsInText (n from : ℕ) (old new : VProc) (before after : List BlockId) : Type 0 where
  pub enters : Enters old new before after (replicate n (depth_at old from))
