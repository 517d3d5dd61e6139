use Rattle.cert_form.proofs.cells.integer_told.Goals as goal

pub returns-in-Some : goal.returns-in-Some
returns-in-Some c =
    let n = c.in-Some.ensures in (n.0, n.1, c.whole.ensures n.0 n.2)
