use Rattle.std.proofs.Common.{arith}
use Rattle.vc_select.proofs.Nodes.{loaded_adds}
use Rattle.vc_select.proofs.Opens.{hands_after}
use Rattle.vc_select.proofs.ReadyTargets.{word_ready}
use Rattle.vc_stmt.proofs.Amounting.{some_variable, value_argument, lent_argument}
use Rattle.vc_stmt.proofs.Passing.{passes_value, passes_lent}
use Rattle.vc_select.proofs.InText.{text_as, text_after}
use Rattle.vc_stmt.proofs.Depths.{value_blocks, lent_blocks}
use Rattle.vc_stmt.proofs.call.select_argument.Goals as goal

pub returns-in_ok-v-in-Value-clause-passes : goal.returns-in_ok-v-in-Value-clause-passes
returns-in_ok-v-in-Value-clause-passes c = passes_value c.args.setting.now _ _ _ _ _ _
    c.args.arg.now c.in-Value.is c.in_ok-v-in-Value.ensures.selects

pub returns-in_ok-v-in-Value-clause-counts : goal.returns-in_ok-v-in-Value-clause-counts
returns-in_ok-v-in-Value-clause-counts c =
    value_argument _ _ _ _ c.in-Value.is c.in_ok-v-in-Value.ensures.counts

pub returns-in_ok-v-in-Lent-clause-passes : goal.returns-in_ok-v-in-Lent-clause-passes
returns-in_ok-v-in-Lent-clause-passes c = passes_lent c.args.setting.now _ _ _ _ _ _ _ _
    c.args.arg.now c.in-Lent.is c.in_ok-target-in-Lent.ensures.locates
    c.in_ok-v-in-Lent.ensures.lends

pub returns-in_ok-v-in-Lent-clause-counts : goal.returns-in_ok-v-in-Lent-clause-counts
returns-in_ok-v-in-Lent-clause-counts c = lent_argument _ _ _ _ c.in-Lent.is
    (loaded_adds _ _ _ _ (some_variable c.in-Lent.variable) c.in_ok-target-in-Lent.ensures.counts
    c.in_ok-v-in-Lent.ensures.counts)

pub returns-in_ok-v-in-Lent-clause-ready : goal.returns-in_ok-v-in-Lent-clause-ready
returns-in_ok-v-in-Lent-clause-ready c =
    word_ready c.args.setting.now _ _ _ _ _ _ _ c.requires.homes
    c.in_ok-target-in-Lent.ensures.ready c.in_ok-target-in-Lent.ensures.cells
    c.in_ok-target-in-Lent.ensures.locates.extends.grows.grows
    c.in_ok-v-in-Lent.ensures.lends.grows.grows c.in_ok-v-in-Lent.ensures.counts.params
    c.in_ok-v-in-Lent.ensures.reads

pub returns-in_ok-v-in-Lent-clause-hands_on : goal.returns-in_ok-v-in-Lent-clause-hands_on
returns-in_ok-v-in-Lent-clause-hands_on c =
    hands_after _ _ _ _ _ c.in_ok-target-in-Lent.ensures.hands_on
    c.in_ok-v-in-Lent.ensures.lends.grows
    (omega (arith, c.in_ok-v-in-Lent.ensures.counts.blocks))
    c.in_ok-target-in-Lent.ensures.is_open c.in_ok-v-in-Lent.ensures.is_open

pub returns-in_ok-v-in-Value-clause-text : goal.returns-in_ok-v-in-Value-clause-text
returns-in_ok-v-in-Value-clause-text c =
    text_as _ _ _ _ _ _ _ _ (value_blocks _ c.args.arg.now c.in-Value.is)
    c.in_ok-v-in-Value.ensures.text

pub returns-in_ok-v-in-Lent-clause-text : goal.returns-in_ok-v-in-Lent-clause-text
returns-in_ok-v-in-Lent-clause-text c =
    text_as _ _ _ _ _ _ _ _ (lent_blocks _ c.args.arg.now c.in-Lent.is)
    (text_after _ _ _ _ _ _ _ _ c.in_ok-target-in-Lent.ensures.text
    c.in_ok-v-in-Lent.ensures.lends.grows
    (omega (arith, c.in_ok-v-in-Lent.ensures.counts.blocks))
    c.in_ok-target-in-Lent.ensures.is_open)
