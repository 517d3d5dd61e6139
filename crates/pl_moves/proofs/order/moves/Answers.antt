use Rattle.std.proofs.Common.{◌≤◌, Bool, List, length, sum_by, sym, subst}
use Rattle.std.specs.Prelude.{All}
use Rattle.pl_moves.specs.declared.transfer.Move.{Move}
use Rattle.pl_moves.specs.Assignment.{Assigns}
use Rattle.pl_moves.specs.Crossbar.{InRegisters, NamesMemory, Counted, most_moves}
use Rattle.pl_moves.proofs.Pairs.{Fit, fit}
use Rattle.pl_moves.proofs.Whole.{assigns}
use Rattle.pl_moves.proofs.Counts.{counted}
use Rattle.pl_moves.proofs.Named.{in_registers, names, few}
use Rattle.pl_moves.proofs.order.moves.Goals as goal

pub returns-clause-at_once : goal.returns-clause-at_once
returns-clause-at_once c =
    let ps = c.args.pairs.now in
    let apart : Fit ps = fit ps c.requires in
    subst (λ (ms : List Move). Assigns ms ps) (sym c.in_ok-in_order.ensures) (assigns ps apart)

pub returns-clause-in_registers : goal.returns-clause-in_registers
returns-clause-in_registers c =
    let ps = c.args.pairs.now in
    let apart : Fit ps = fit ps c.requires in
    subst (λ (ms : List Move). All InRegisters ms) (sym c.in_ok-in_order.ensures)
    (in_registers ps apart)

pub returns-clause-names : goal.returns-clause-names
returns-clause-names c =
    let ps = c.args.pairs.now in
    let apart : Fit ps = fit ps c.requires in
    subst (λ (ms : List Move). All (NamesMemory ps) ms) (sym c.in_ok-in_order.ensures)
    (names ps apart)

pub returns-clause-counted : goal.returns-clause-counted
returns-clause-counted c =
    let ps = c.args.pairs.now in
    subst (λ (ms : List Move). (near : Bool) → Counted near ms ps) (sym c.in_ok-in_order.ensures)
    (counted ps)

pub returns-clause-few : goal.returns-clause-few
returns-clause-few c =
    let ps = c.args.pairs.now in
    let apart : Fit ps = fit ps c.requires in
    subst (λ (ms : List Move). length ms ≤ sum_by most_moves ps) (sym c.in_ok-in_order.ensures)
    (few ps apart)
