use Rattle.std.proofs.Common.{◌≡◌, ◌<◌, refl, arith}
use Rattle.std.specs.Prelude.{true, false, [], ◌∷◌}
use Rattle.pra_list.proofs.Each.{each_at}
use Rattle.pra_list.proofs.Options.{none_some}
use Rattle.ob_syntax.specs.WellFormed.{is_scalar}
use Rattle.vc_relation.specs.Layout.{NamesBelow, IsLaidIn}
use Rattle.vc_relation.specs.Sample.{called, sample}
use Rattle.vc_relation.proofs.laws.locations_of_a_module.Goals as goal

pub returns-clause-laid : goal.returns-clause-laid
returns-clause-laid c = record {
  types = record {
    first = refl;
    second = refl;
    below = each_at NamesBelow sample.types (
      tt,
      (
        tt,
        (
          each_at (λ k field. field < 2) (0 ∷ 0 ∷ []) (omega arith, (omega arith, tt)),
          (omega arith, tt),
        ),
      ),
    );
  };
  var_types = each_at (λ n var. var.type_id < 4) sample.vars (omega arith, (omega arith, tt));
  vars = ((λ e. refl), ((λ e. refl), refl));
  few = omega arith;
  procs = each_at (λ p proc. IsLaidIn sample.types proc) sample.procs (
    record {
      param_types = λ k param e. absurd (none_some e);
      local_types =
          λ k local e. absurd (none_some e);
      locals = refl;
      few = omega arith;
    },
    (
      record {
        param_types = each_at (λ k param. param.by_var ≡ false → is_scalar param.type_id ≡ true)
            called.params ((λ e. refl), ((λ e. refl), ((λ e. refl), tt)));
        local_types = each_at (λ k local. local.type_id < 4) called.locals
            (omega arith, (omega arith, (omega arith, tt)));
        locals = ((λ e. absurd (differ e)), ((λ e. refl), ((λ e. refl), refl)));
        few = omega arith;
      },
      tt,
    ),
  );
}
  where
    differ : false ≡ true → ⊥
    differ e = cc
