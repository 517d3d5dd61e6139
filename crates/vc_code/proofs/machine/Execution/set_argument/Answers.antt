use Rattle.std.proofs.Common.{◌∙◌}
use Rattle.std.proofs.lemmas.Option.{slice_get_read}
use Rattle.vc_code.specs.Machine.{with_args, last_set}
use Rattle.vc_code.proofs.WrittenCalls.{top_put, below_put}
use Rattle.vc_code.proofs.machine.Execution.set_argument.Goals as goal

pub returns-then-n-len-clause-calls : goal.returns-then-n-len-clause-calls
returns-then-n-len-clause-calls c =
    top_put c.args.self.now.below.items c.args.self.now.top
    (λ a. with_args a (last_set a.args c.args.i c.args.h)) c.args.n c.set_argument.new.self
    (c.if-n-len.true ∙ c.len.ensures ∙ c.args.self.now.below.ok.0) c.set_argument.ensures

pub returns-then-n-len-2-clause-calls : goal.returns-then-n-len-2-clause-calls
returns-then-n-len-2-clause-calls c =
    let below = c.args.self.now.below.items in
    let count = c.len-else-n-len.ensures ∙ c.args.self.now.below.ok.0 in
    let there = slice_get_read below c.len-else-n-len.result c.args.n c.index_mut.result.now count
    c.if-n-len-2.true c.index_mut.ensures.value in
    below_put below c.args.self.now.top (λ a. with_args a (last_set a.args c.args.i c.args.h))
    c.args.n c.index_mut.result.now c.set_argument-then-n-len-2.new.self
    there c.set_argument-then-n-len-2.ensures
