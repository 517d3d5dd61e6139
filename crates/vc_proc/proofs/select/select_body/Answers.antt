use Rattle.std.proofs.Common.{◌≡◌, ◌≤◌, List, [], ◌∷◌, ◌++◌, length, sym, ap, ◌∙◌, subst}
use Rattle.pra_base.specs.declared.ids.BlockId.{BlockId}
use Rattle.pra_base.specs.declared.code.VProc.{VProc}
use Rattle.vc_build.specs.Grow.{count, open_blocks}
use Rattle.vc_build.specs.Text.{IsLast}
use Rattle.vc_order.specs.Order.{IsListing}
use Rattle.vc_proc.specs.Finished.{IsFinished}
use Rattle.vc_proc.proofs.InText.{first, its_goes, its_listing, its_last}
use Rattle.vc_select.specs.Targets.{above_setting}
use Rattle.vc_proc.proofs.Answered.{selected_from}
use Rattle.vc_proc.proofs.OpenRules.{open_above}
use Rattle.vc_proc.proofs.select.select_body.Goals as goal

pub select_statements-requires-clause-homes : goal.select_statements-requires-clause-homes
select_statements-requires-clause-homes c =
    let g = c.args.setting.now in
    subst (λ (z : VProc). above_setting g ≤ length z.vars) (sym c.requires.opened)
    (open_above g.id.0 c.args.proc.now g c.requires.setting.params c.requires.setting.locals)

pub finish-requires-clause-no_other : goal.finish-requires-clause-no_other
finish-requires-clause-no_other c = c.in_ok-select_statements.ensures.hands_on.as_many
    ∙ ap open_blocks c.requires.opened

-- the list begins with the entry
order_begins : (l : List BlockId) → l ≡ [] → l ++ first ∷ [] ≡ first ∷ []
order_begins l e = ap (λ z. z ++ first ∷ []) e

pub finish-requires-clause-listing : goal.finish-requires-clause-listing
finish-requires-clause-listing c =
    subst (IsListing (count c.select_statements.new.ctx.code)) (sym c.as_slice-2.ensures)
    (its_listing c.args.setting.now.id.0 c.args.proc.now c.args.code
    c.select_statements.new.ctx.code _ _ _ _ c.requires.opened
    (c.in_ok-push.ensures.ok ∙ order_begins _ c.new-order.ensures)
    c.in_ok-select_statements.ensures.text)

pub finish-requires-clause-is_last : goal.finish-requires-clause-is_last
finish-requires-clause-is_last c =
    subst (λ l. IsLast l c.select_statements.new.ctx.at.0) (sym c.as_slice-2.ensures)
    (its_last c.args.setting.now.id.0 c.args.proc.now c.args.code c.select_statements.new.ctx.code _
    _ _ _ c.requires.opened (c.in_ok-push.ensures.ok ∙ order_begins _ c.new-order.ensures)
    c.in_ok-select_statements.ensures.text)

pub returns : goal.returns
returns c =
    let does = c.in_ok-select_statements.ensures in
    let goes =
    its_goes c.args.setting.now.id.0 c.args.proc.now c.args.code c.select_statements.new.ctx.code _
    _ _ _ c.requires.opened (c.in_ok-push.ensures.ok ∙ order_begins _ c.new-order.ensures)
    does.text in
    selected_from c.args.setting.now c.args.proc.now c.requires.setting c.requires.selectable
    c.requires.nodes c.args.code c.requires.opened
    c.as_slice.result.now c.as_slice.ensures c.select_statements.new.ctx.code
    c.select_statements.new.ctx.at.0 c.select_statements.new.ctx.order
    (record { does = does.does; adds = does.counts; ready = does.ready; text = goes })
    c.in_ok-code.code (subst
    (λ l. IsFinished c.select_statements.new.ctx.code c.select_statements.new.ctx.at.0 l
    c.in_ok-code.code) c.as_slice-2.ensures c.in_ok-code.ensures)
