use Rattle.std.proofs.Common.{inl, inr, length, refl, sym, subst}
use Rattle.pra_base.specs.declared.code.End.{End}
use Rattle.pra_base.specs.Code.{IsTarget}
use Rattle.net_build.specs.Order.{tie_to}
use Rattle.net_build.proofs.GoesOn.{no_tie, not_jump, not_branch, not_return}
use Rattle.net_build.proofs.Ranges.{made_of_none}
use Rattle.net_build.proofs.ties.add_exit.Goals as goal

pub entry_of-to-requires-clause-block : goal.entry_of-to-requires-clause-block
entry_of-to-requires-clause-block c =
    c.requires.targets c.in-Jump.target.0
    (subst (λ (e : End). IsTarget e c.in-Jump.target.0) (sym c.in-Jump.is) refl)

pub entry_of-first-requires-clause-block : goal.entry_of-first-requires-clause-block
entry_of-first-requires-clause-block c =
    c.requires.targets c.in-Branch.one.0
    (subst (λ (e : End). IsTarget e c.in-Branch.one.0) (sym c.in-Branch.is) (inl refl))

pub entry_of-second-requires-clause-block : goal.entry_of-second-requires-clause-block
entry_of-second-requires-clause-block c =
    c.requires.targets c.in-Branch.other.0
    (subst (λ (e : End). IsTarget e c.in-Branch.other.0) (sym c.in-Branch.is) (inr refl))

pub add_both-requires : goal.add_both-requires
add_both-requires c = λ k lt one other.
    no_tie c.args.strands.now c.args.end.now c.args.var c.args.number k
    (not_jump c.args.strands.now c.args.var k lt c.args.end.now c.in-Jump.target
    c.entry_of-to.result c.in-Jump.is c.entry_of-to.ensures one)

pub add_both-requires-in-Branch : goal.add_both-requires-in-Branch
add_both-requires-in-Branch c = λ k lt one other.
    no_tie c.args.strands.now c.args.end.now c.args.var c.args.number k
    (not_branch c.args.strands.now c.args.var k lt c.args.end.now c.in-Branch.field-0
    c.in-Branch.one c.in-Branch.other c.entry_of-first.result c.entry_of-second.result
    c.in-Branch.is c.entry_of-first.ensures c.entry_of-second.ensures one other)

pub returns-in-Return : goal.returns-in-Return
returns-in-Return c =
    made_of_none (tie_to c.args.strands.now c.args.end.now c.args.var c.args.number)
    (length c.args.strands.now) c.args.out.now
    (λ k lt. no_tie c.args.strands.now c.args.end.now c.args.var c.args.number k
    (not_return c.args.strands.now c.args.var k lt c.args.end.now c.in-Return.is))
