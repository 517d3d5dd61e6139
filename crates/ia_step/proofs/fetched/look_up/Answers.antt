use Rattle.std.proofs.Common.{◌∙◌, ◌<◌, ◌%◌, length, arith, lit<}
use Rattle.std.proofs.Math.Nat.{mod-lt}
use Rattle.ia_step.specs.declared.fetched.TheConstants.{ENTRIES}
use Rattle.ia_step.proofs.Entries.{made_now, put_holds, put_stands, stood}
use Rattle.ia_step.proofs.fetched.look_up.Goals as goal

pub returns-then-entries-index-clause-kept : goal.returns-then-entries-index-clause-kept
returns-then-entries-index-clause-kept c =
    put_holds c.args.processor.now c.args.entries.now _ _ c.requires
    (made_now _ _ _ c.eip-eip.ensures c.fetch.ensures)

pub returns-then-entries-index-clause-found : goal.returns-then-entries-index-clause-found
returns-then-entries-index-clause-found c =
    let low : c.eip-eip.result % ENTRIES < ENTRIES = mod-lt c.eip-eip.result (lit< tt) in
    let inside : c.eip-eip.result % ENTRIES < length c.args.entries.now =
    omega (arith, low, c.requires.count) in
    put_stands c.args.processor.now c.args.entries.now _ _ c.requires
    (made_now _ _ _ c.eip-eip.ensures c.fetch.ensures) inside

pub returns-else-entries-index-clause-found : goal.returns-else-entries-index-clause-found
returns-else-entries-index-clause-found c =
    let low : c.eip-eip.result % ENTRIES < ENTRIES = mod-lt c.eip-eip.result (lit< tt) in
    let inside : c.eip-eip.result % ENTRIES < length c.args.entries.now =
    omega (arith, low, c.requires.count) in
    stood c.args.processor.now c.args.entries.now _ _ c.requires inside
    (c.if-entries-index.false ∙ c.eip-eip.ensures)
