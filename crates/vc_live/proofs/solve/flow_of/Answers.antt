use Rattle.vc_live.proofs.solve.flow_of.Goals as goal

pub returns-clause-flow : goal.returns-clause-flow
returns-clause-flow c = record {
  range = c.requires.range;
  few = c.requires.few;
  stops = rw c.from_vec.ensures c.in_ok-stops.ensures;
  sources = rw c.from_vec-2.ensures c.in_ok-sources.ensures;
}
