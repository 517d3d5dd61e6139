use Rattle.std.proofs.Common.{◌∙◌, ◌++◌, ◌∷◌, [], Some, None, Bool, cond, sym, ap}
use Rattle.std.proofs.Common.{option_to_list}
use Rattle.net_form.specs.declared.net.Strand.{Strand}
use Rattle.net_form.specs.Strands.{strand}
use Rattle.net_form.specs.Tables.{all_tables}
use Rattle.vc_live.specs.Rows.{live_at}
use Rattle.net_build.proofs.strands.add_strand.Goals as goal

pub returns : goal.returns
returns c =
    let code = c.args.code.now in
    let live = live_at c.args.live.now in
    let made = strand all_tables code live c.args.var c.args.block c.args.layer in
    c.in_ok-push.ensures.ok
    ∙ ap (λ (t : Strand). c.args.out.now ++ t ∷ []) c.in_ok-strand.ensures
    ∙ sym (ap (λ (t : Bool). c.args.out.now ++ option_to_list (cond t (Some made) None))
    c.requires.begins)
