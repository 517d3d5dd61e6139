use Rattle.std.proofs.Common.{pos, refl, rules, w64, to_z, of_z}
use mir.Val.{SFits}
use Rattle.std.proofs.lemmas.Int.{to_z-of_z}
use Rattle.net_path.specs.declared.crossbar.Steps.{Steps}
use Rattle.net_path.proofs.Steps.{backwards_are}
use Rattle.net_path.proofs.directions.backwards.Goals as goal

pub returns-clause-steps : goal.returns-clause-steps
returns-clause-steps c =
    let store = c.args.ways.now.store in
    let fits : SFits w64 store = search rules in
    let steps : Steps = record {
      alone = c.to_alone.result;
      both = c.to_both.result;
      memory = c.to_memory.result;
      constant = c.to_constant.result;
      kept = pos 0;
      left = to_z w64 (of_z w64 store);
    } in
    backwards_are c.args.ways.now steps (record {
      alone = c.to_alone.ensures.is;
      both = c.to_both.ensures.is;
      memory = c.to_memory.ensures.is;
      constant = c.to_constant.ensures.is;
      kept = refl;
      left = to_z-of_z w64 store fits;
    })
