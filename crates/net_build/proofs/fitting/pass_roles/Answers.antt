use Rattle.std.proofs.Common.{ℕ, ◌≡◌, ◌<◌, ◌∙◌, List, length, None, sym, ap, arith}
use Rattle.std.specs.List.{list_any}
use Rattle.pra_base.specs.declared.code.VProc.{VProc}
use Rattle.pra_base.specs.Operands.{Role, is_role_of}
use Rattle.vc_code.specs.declared.row.Role.{Role as Named}
use Rattle.vc_code.specs.Rows.{roles_of}
use Rattle.net_form.specs.Strands.{Lives, IsLive, begun_strand, layer_count, roles_at}
use Rattle.net_form.specs.Tables.{all_tables}
use Rattle.vc_live.specs.Rows.{live_at}
use Rattle.std.specs.Prelude.{nat_eq, false}
use Rattle.net_build.proofs.Begun.{none_begun}
use Rattle.net_build.proofs.Fits.{from_all, one_more, one_stops, none_more}
use Rattle.net_build.proofs.Roles.{named_is}
use Rattle.net_build.proofs.fitting.pass_roles.Goals as goal

-- a variable without a role
unnamed : (code : VProc) (live : Lives) → IsLive code live → (b l : ℕ) → 0 < l →
    l < layer_count code b → (roles : List Named) → roles_of roles ≡ roles_at all_tables code b l →
    (x : ℕ) → list_any (λ role. nat_eq role.var.0 x) roles ≡ false →
    begun_strand all_tables code live b l x ≡ None
unnamed code live is b l after within roles are x none =
    none_begun code live is x b l after within
    (sym (ap (λ (r : List Role). list_any (is_role_of x) r) are) ∙ sym (named_is roles x) ∙ none)

pub loop-var-init : goal.loop-var-init
loop-var-init c = record {
  whole = from_all (begun_strand all_tables c.args.code.now (live_at c.args.live.now)
      c.args.block c.args.layer) c.args.lists.now (length c.args.code.now.vars) c.args.number;
  within = omega arith;
  end = c.len-end.ensures;
}

pub returns-in_err-next : goal.returns-in_err-next
returns-in_err-next c =
    let near = c.in-Some.ensures in
    let last = c.len-end.ensures in
    c.from_residual.ensures ∙ one_stops (begun_strand all_tables c.args.code.now
    (live_at c.args.live.now) c.args.block
    c.args.layer) c.args.lists.now (length c.args.code.now.vars) c.loop-var.from c.in-Some.var
    c.loop-var.next _ near.0.0 (omega (arith, near.0.1, last))
    (λ x le lt. unnamed c.args.code.now (live_at c.args.live.now) c.requires.live c.args.block
    c.args.layer c.requires.after c.requires.layer c.args.roles.now c.requires.roles x
    (near.1 x le (omega (arith, lt, near.0.1)) lt)) c.in_err-next.ensures
    c.loop-var.invariant.whole

pub loop-var-preserved : goal.loop-var-preserved
loop-var-preserved c =
    let near = c.in-Some.ensures in
    let last = c.len-end.ensures in
    record {
      whole = one_more (begun_strand all_tables c.args.code.now (live_at c.args.live.now)
          c.args.block c.args.layer) c.args.lists.now (length c.args.code.now.vars)
          c.loop-var.from c.in-Some.var c.loop-var.next c.in_ok-next.next _ near.0.0
          (omega (arith, near.0.1, last))
          (λ x le lt. unnamed c.args.code.now (live_at c.args.live.now) c.requires.live
          c.args.block c.args.layer c.requires.after c.requires.layer c.args.roles.now
          c.requires.roles x (near.1 x le (omega (arith, lt, near.0.1)) lt))
          c.in_ok-next.ensures c.loop-var.invariant.whole;
      within = omega (arith, near.0.1, last);
      end = last;
    }

pub returns : goal.returns
returns c =
    let far = c.in_default.ensures in
    let last = c.len-end.ensures in
    none_more (begun_strand all_tables c.args.code.now (live_at c.args.live.now) c.args.block
    c.args.layer) c.args.lists.now (length c.args.code.now.vars) c.loop-var.from c.loop-var.next _
    c.loop-var.invariant.within
    (λ x le lt. unnamed c.args.code.now (live_at c.args.live.now) c.requires.live c.args.block
    c.args.layer c.requires.after c.requires.layer c.args.roles.now c.requires.roles x
    (far.1 x le (omega (arith, lt, last)) tt)) c.loop-var.invariant.whole
