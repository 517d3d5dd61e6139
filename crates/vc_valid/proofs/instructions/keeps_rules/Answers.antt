use Rattle.std.proofs.Common.{subst, sym, refl, List}
use Rattle.pra_base.specs.declared.code.VarKind.{VarKind}
use Rattle.vc_live.proofs.SizedLemmas.{refused_by}
use Rattle.vc_valid.specs.Rules.{KeepsConstants, AvoidsParams}
use Rattle.vc_valid.proofs.instructions.keeps_rules.Goals as goal

pub returns-then-not-keeps_constants : goal.returns-then-not-keeps_constants
returns-then-not-keeps_constants c =
    refused_by c.if-not-keeps_constants.ensures
    (λ keeps. subst (λ (vars : List VarKind). KeepsConstants vars c.args.instr.now)
    (sym c.as_slice-vars.ensures) keeps.constants)

pub returns-then-not-avoids_params : goal.returns-then-not-avoids_params
returns-then-not-avoids_params c =
    refused_by c.if-not-avoids_params.ensures
    (λ keeps. subst (λ (vars : List VarKind). AvoidsParams vars c.args.instr.now)
    (sym c.as_slice-vars.ensures) keeps.cells)

pub returns : goal.returns
returns c = (
  λ yes. record {
    apart = c.if-not-is_apart.ensures.0 refl;
    constants = subst (λ (vars : List VarKind). KeepsConstants vars c.args.instr.now)
        c.as_slice-vars.ensures (c.if-not-keeps_constants.ensures.0 refl);
    cells = subst (λ (vars : List VarKind). AvoidsParams vars c.args.instr.now)
        c.as_slice-vars.ensures (c.if-not-avoids_params.ensures.0 refl);
    division = c.if-not-keeps_division.ensures.0 refl;
    range = c.if-not-keeps_range.ensures.0 refl;
    shift = c.if-not-keeps_shift.ensures.0 refl;
    clear = c.keeps_clear.ensures.0 yes;
  },
  λ keeps. c.keeps_clear.ensures.1 keeps.clear,
)
