use Rattle.std.proofs.Common.{sym, ◌∙◌}
use Rattle.std.proofs.lemmas.List.{get_or_read}
use Rattle.pra_base.specs.declared.code.VarKind.TheVariants.{Plain}
use Rattle.vc_stmt.proofs.Endings.{copy_itself, copy_done}
use Rattle.vc_stmt.proofs.Fixed.{stores_fixed}
use Rattle.vc_stmt.proofs.ReadyStores.{one_put, nothing_put, stores_nothing, stores_first}
use Rattle.vc_stmt.proofs.store.copy.Goals as goal

pub returns-then-target-v-clause-stores : goal.returns-then-target-v-clause-stores
returns-then-target-v-clause-stores c = copy_itself c.args.setting.now _ _ _ _ c.requires.is_open
    c.if-target-v.true

pub returns-then-target-v-clause-counts : goal.returns-then-target-v-clause-counts
returns-then-target-v-clause-counts c = nothing_put 1 0 _

pub returns-then-target-v-clause-ready : goal.returns-then-target-v-clause-ready
returns-then-target-v-clause-ready c = stores_nothing c.args.setting.now _ _ _ _

pub returns-then-is_constant-clause-stores : goal.returns-then-is_constant-clause-stores
returns-then-is_constant-clause-stores c = stores_fixed c.args.setting.now _ _ c.args.target
    (sym c.is_constant.ensures ∙ c.if-is_constant.true) _ c.requires.is_open

pub returns-then-is_constant-clause-counts : goal.returns-then-is_constant-clause-counts
returns-then-is_constant-clause-counts c = nothing_put 1 0 _

pub returns-then-is_constant-clause-ready : goal.returns-then-is_constant-clause-ready
returns-then-is_constant-clause-ready c = stores_nothing c.args.setting.now _ _ _ _

pub returns-clause-stores : goal.returns-clause-stores
returns-clause-stores c =
    copy_done c.args.setting.now _ _ _ _ _ c.index-kind.result.now _ c.requires.is_open
    c.requires.named
    (get_or_read c.args.code.now.vars c.args.v.0 c.index-kind.result.now c.requires.named
    c.index-kind.ensures Plain) c.first_of.ensures c.in_ok-put.ensures

pub returns-clause-counts : goal.returns-clause-counts
returns-clause-counts c = one_put _ _ _ _ c.requires.is_open c.in_ok-put.ensures

pub returns-clause-ready : goal.returns-clause-ready
returns-clause-ready c =
    stores_first c.args.setting.now _ _ _ c.args.target c.args.v c.index-kind.result.now _
    c.requires.is_open c.requires.named c.if-target-v.false
    (sym c.is_constant.ensures ∙ c.if-is_constant.false)
    (sym (get_or_read c.args.code.now.vars c.args.v.0 c.index-kind.result.now c.requires.named
    c.index-kind.ensures Plain)) c.first_of.ensures c.in_ok-put.ensures
