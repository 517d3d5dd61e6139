use Rattle.std.proofs.Common.{pos, refl, rules, w64, to_z, of_z}
use mir.Val.{SFits}
use Rattle.std.proofs.lemmas.Int.{to_z-of_z}
use Rattle.net_path.specs.declared.crossbar.Steps.{Steps}
use Rattle.net_path.proofs.Steps.{forwards_are}
use Rattle.net_path.proofs.directions.forwards.Goals as goal

pub returns-clause-steps : goal.returns-clause-steps
returns-clause-steps c =
    let store = c.args.ways.now.store in
    let fits : SFits w64 store = search rules in
    let steps : Steps = record {
      alone = c.from_alone.result;
      both = c.from_both.result;
      memory = c.from_memory.result;
      constant = c.from_constant.result;
      kept = to_z w64 (of_z w64 store);
      left = pos 0;
    } in
    forwards_are c.args.ways.now steps (record {
      alone = c.from_alone.ensures.is;
      both = c.from_both.ensures.is;
      memory = c.from_memory.ensures.is;
      constant = c.from_constant.ensures.is;
      kept = to_z-of_z w64 store fits;
      left = refl;
    })
