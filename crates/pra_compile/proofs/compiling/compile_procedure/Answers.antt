use Rattle.std.proofs.Common.{refl}
use Rattle.ia_carries.proofs.Few.{is_small}
use Rattle.pl_routed.specs.Routed.{routed}
use Rattle.pra_compile.proofs.Underway.{compiled_so}
use Rattle.pra_compile.proofs.compiling.compile_procedure.Goals as goal

pub frame_bytes-frame-requires-clause-slots : goal.frame_bytes-frame-requires-clause-slots
frame_bytes-frame-requires-clause-slots g c =
    let code = c.args.named.code in
    let r = routed code c.in_ok-net.field-0.net c.in_ok-net.field-0.routes in
    (is_small r c.in_ok-placed.placed c.in_ok-placed.ensures.behind c.requires.sized).slots

pub returns : goal.returns
returns g c =
    compiled_so (g.A.Allocator.leaves c.args.allocator.now) c.args.number c.args.named
    c.in_ok-net.field-0.net c.in_ok-net.field-0.prices _ c.in_ok-prices.ensures
    (record {
      valid = c.requires.valid;
      sized = c.requires.sized;
      routes = c.in_ok-net.ensures.routes;
      placed = c.in_ok-placed.ensures.made;
    })
    c.in_ok-net.ensures.left refl refl c.frame_bytes-frame.ensures c.in_ok-placed.ensures.frame
