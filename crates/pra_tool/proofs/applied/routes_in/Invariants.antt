-- The routes so far, and those that are left, are all.
use Rattle.std.proofs.Common.{◌≡◌, ◌++◌, map}
use Rattle.pra_tool.specs.Applied.{routes_of, routes_in}
use Rattle.pra_tool.proofs.applied.routes_in.Given as goal

abbrev pub invariant-loop-cert : goal.invariant-loop-cert
invariant-loop-cert l =
    l.given.items ++ map routes_of l.cert-iterator.rest.items ≡ routes_in l.fn.certificate
