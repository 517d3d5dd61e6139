use Rattle.std.proofs.Common.{◌≡◌, ◌∙◌, ap}
use Rattle.std.specs.BTreeMap.{insert_entry}
use Rattle.ob_interp.specs.Kept.{held, part_cmp}
use Rattle.ob_interp.proofs.Kept.{held-put}
use Rattle.ob_interp.proofs.memory.put.Goals.{in-Ok, in-Err}
use Rattle.ob_interp.proofs.memory.put.Goals as goal

pub returns : goal.returns
returns c = elim c.match-insert.branch [
  | in-Ok w ↦
      let put : c.insert.new.self.entries
      ≡ insert_entry part_cmp c.args.parts.now.entries c.args.key c.args.value =
      w.in-Ok.ensures.entries in
      rw w.result-is (λ n path. ap (λ es. held es n path) put
      ∙ held-put c.args.parts.now.entries c.args.key c.args.value n path)
  | in-Err w ↦ rw w.result-is tt
]
