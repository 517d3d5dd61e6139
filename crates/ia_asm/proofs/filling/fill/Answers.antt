use Rattle.std.proofs.Common.{rules, ◌≡◌, ◌+◌, length, get_or, arith, sym, ap, ◌∙◌, subst}
use Rattle.std.specs.Prelude.{ℤ}
use Rattle.std.specs.Int.{w32, cast_signed, cast_unsigned}
use Rattle.std.specs.Int.RustNames.{FitsSigned}
use Rattle.std.proofs.lemmas.Int.{to_z-of_z, SFits-int_wrap}
use Rattle.ia_emit.specs.declared.bytes.CallSite.{CallSite}
use Rattle.ia_emit.specs.Code.{distance}
use Rattle.ia_asm.specs.Assembly.{entry_in}
use Rattle.ia_asm.proofs.Overwriting.{within_at, filled_one_more}
use Rattle.ia_asm.proofs.filling.fill.Goals as goal

-- what a loop over calls reads past their end
abbrev past : CallSite
past = record { place = 0; callee = record { 0 = 0 } }

-- a number as it goes through its 32 bits
abbrev again : ℤ → ℤ
again n = cast_signed w32 (cast_unsigned w32 n)

pub overflow_add-call : goal.overflow_add-call
overflow_add-call c =
    let here = within_at 0 (length c.args.code.now) c.args.calls.now c.loop-call.call-index past
    c.loop-call-test.true c.requires.within in
    omega (arith, here, c.requires.short)

pub overwrite-requires : goal.overwrite-requires
overwrite-requires c =
    let here = within_at 0 (length c.args.code.now) c.args.calls.now c.loop-call.call-index past
    c.loop-call-test.true c.requires.within in
    omega (arith, here, c.loop-call.invariant.long)

pub loop-call-preserved : goal.loop-call-preserved
loop-call-preserved c =
    let calls = c.args.calls.now in
    let site : CallSite = get_or calls c.loop-call.call-index past in
    let starts = entry_in c.args.entries.now (length c.args.code.now) in
    let to : c.unwrap_or-to.result ≡ starts site.callee.0 = search rules in
    let goes : c.distance.result ≡ distance (site.place + 4) (starts site.callee.0) =
    c.distance.ensures ∙ ap (distance (site.place + 4)) to in
    let fits : FitsSigned w32 c.distance.result = subst (FitsSigned w32) (sym goes)
    (SFits-int_wrap w32 _) in
    record {
      long = search rules;
      same =
          filled_one_more starts _ c.loop-call.code c.overwrite.new.code calls
          c.loop-call.call-index past (again c.distance.result) c.loop-call-test.true
          c.loop-call.invariant.same
          (to_z-of_z w32 c.distance.result fits ∙ goes) c.overwrite.ensures;
    }
