use Rattle.std.proofs.Common.{◌∷◌, Ok, ◌∙◌, sym, ap, arith}
use Rattle.std.proofs.lemmas.List.{drop_all}
use Rattle.std.proofs.lemmas.Result.{err_from_is_err_and}
use Rattle.ob_syntax.specs.declared.tree.Proc.{out-Proc}
use Rattle.ob_syntax.specs.Declarations.{left, drafted}
use Rattle.ob_check.specs.Judging.{known_at, told}
use Rattle.ob_check.proofs.Procedures.{AreRead, finished, refused, procedure_is, in_its_place}
use Rattle.ob_check.proofs.Procedures.{noted}
use Rattle.ob_check.proofs.procedure.+declarations.Goals as goal

pub declarations-returns-in_err-procedure : goal.declarations-returns-in_err-procedure
declarations-returns-in_err-procedure t c =
    let l = c.loop-proc in
    let returned = c.from_residual-in_err-procedure in
    let p = err_from_is_err_and returned.result returned.ensures.1 in
    let d = c.args.decls.now in
    let start = known_at c.args.place.now in
    let s = known_at c.variables.new.place in
    let procs = c.as_slice-proc-items.result.now in
    let fault = told c.in_err-procedure.field-0.0 in
    let read : AreRead d start s c.in_ok-vars.vars procs = record {
      q = _;
      r = _;
      constants = rw c.as_slice.ensures at c.in_ok-constants.ensures;
      types = rw c.as_slice-2.ensures at c.in_ok-types.ensures;
      variables = rw c.as_slice-3.ensures at c.in_ok-vars.ensures;
      procs_are = c.as_slice-proc-items.ensures;
    } in
    rw (p.1, p.2)
    (λ known. refused d start s (known_at l.place) c.in_ok-vars.vars procs l.invariant.0
    l.proc-index c.proc-item.result fault read (record { same = l.invariant.1 })
    c.loop-proc-test.true c.proc-item.is (c.in_err-procedure.ensures known))

pub declarations-returns : goal.declarations-returns
declarations-returns t c =
    let l = c.loop-proc in
    let d = c.args.decls.now in
    let start = known_at c.args.place.now in
    let s = known_at c.variables.new.place in
    let procs = c.as_slice-proc-items.result.now in
    let read : AreRead d start s c.in_ok-vars.vars procs = record {
      q = _;
      r = _;
      constants = rw c.as_slice.ensures at c.in_ok-constants.ensures;
      types = rw c.as_slice-2.ensures at c.in_ok-types.ensures;
      variables = rw c.as_slice-3.ensures at c.in_ok-vars.ensures;
      procs_are = c.as_slice-proc-items.ensures;
    } in (
      l.invariant.0,
      finished d start s (known_at l.place) c.in_ok-vars.vars procs l.invariant.0 l.proc-index
          read (record { same = l.invariant.1 })
          (drop_all l.proc-index procs c.loop-proc-test.false),
      l.invariant.2,
    )

pub procedure-returns : goal.procedure-returns
procedure-returns t c =
    let p = known_at c.args.place.now in
    let x = c.args.proc.now in
    let d = known_at c.declarations.new.place in
    let params = c.in_ok-params.params in
    let vars = c.in_ok-vars.vars in
    let body = c.in_ok-body.body in
    let n = c.in_ok-nodes.nodes in
    let more = c.in_ok-vars.ensures in
    let own = drafted d.here (out-Proc x).name params vars n body in
    let read = procedure_is x p (known_at c.heading.new.place) d params vars more.0 body n
    (rw c.as_slice.ensures at c.in_ok-params.ensures) more.1
    (rw c.as_slice-2.ensures at c.in_ok-body.ensures) c.in_ok-closed.ensures
    (cc (c.as_slice-3.ensures, c.in_ok-nodes.ensures)) in
    let behind = noted (known_at c.leave.new.self) (left d p.here) c.push-2.new.self.items n
    c.leave.ensures.place c.in_ok-push-2.ensures.items in (
      own ∷ more.0,
      read ∙ ap (λ k. Ok (k, own ∷ more.0)) (sym behind),
      in_its_place c.args.procs.now.items c.push.new.self.items c.declarations.new.procs.items
          more.0 _ own c.len-number.result (omega (arith, c.args.procs.now.ok.0))
          c.in_ok-push.ensures.items more.2,
    )
