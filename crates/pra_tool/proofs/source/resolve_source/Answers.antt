use Rattle.std.proofs.Common.{List, refl, subst}
use Rattle.ob_check.specs.Checking.{IsChecked}
use Rattle.ob_syntax.specs.declared.token.Token.{Token}
use Rattle.pra_tool.proofs.source.resolve_source.Goals as goal

pub returns-clause-module : goal.returns-clause-module
returns-clause-module c =
    let p = c.in_ok-parsed.parsed in
    let checked = c.in_ok-checked.checked in
    record {
      text = record {
        text = record { bytes = c.args.bytes.now; tokens = p.tokens.items; tree = p.tree };
        checked = checked;
      };
      read = (
        refl,
        c.in_ok-parsed.ensures.found,
        subst (λ (ts : List Token). IsChecked c.args.bytes.now ts p.tree checked)
            c.deref.ensures.value c.in_ok-checked.ensures.found,
      );
      is = refl;
    }
