use Rattle.std.proofs.Common.{get_or}
use Rattle.pra_compile.proofs.Admitting.{read_there, admitted}
use Rattle.pra_compile.proofs.given.GivenAllocator.allocate.Goals as goal

pub returns-clause-routes : goal.returns-clause-routes
returns-clause-routes c =
    admitted c.args.self.now.routes.now c.args.number c.args.code.now c.requires.takes
    c.index-self-number.result c.in_ok-net.net c.in_ok-allocated.allocated.net
    c.in_ok-allocated.allocated.routes c.in_ok-net.ensures c.in_ok-allocated.ensures.net
    c.in_ok-allocated.ensures.left.same

pub returns-clause-left : goal.returns-clause-left
returns-clause-left c = record {
  own = get_or c.args.self.now.routes.now c.args.number c.index-self-number.result;
  there = read_there c.args.self.now.routes.now c.args.number c.args.code.now c.requires.takes
      c.index-self-number.result;
  left = c.in_ok-allocated.ensures.left;
}
