use Rattle.std.proofs.Common.{rules, ◌≡◌, ◌+◌, ◌++◌, ◌∷◌, [], length, sym, ◌∙◌, refl, subst}
use Rattle.std.specs.Prelude.{ℤ}
use Rattle.std.specs.Int.{w32, cast_signed, cast_unsigned}
use Rattle.std.specs.Int.RustNames.{FitsSigned}
use Rattle.std.proofs.lemmas.Int.{to_z-of_z, SFits-int_wrap}
use Rattle.ia_code.specs.DecodeTable.{IsSound}
use Rattle.ia_emit.specs.Open.{IsOpen}
use Rattle.ia_emit.specs.declared.bytes.CallSite.{CallSite}
use Rattle.ia_emit.specs.Code.{target_in, distance}
use Rattle.ia_emit.proofs.Open.{on_ok, plain_more, jump_more, branch_more, call_more}
use Rattle.ia_emit.proofs.bytes.put.Goals as goal

-- a number as it goes through its 32 bits
abbrev again : ℤ → ℤ
again n = cast_signed w32 (cast_unsigned w32 n)

pub returns-in-Plain : goal.returns-in-Plain
returns-in-Plain c =
    let l = c.args.layout.now in
    let sound : IsSound c.in-Plain.instruction = search rules in
    on_ok c.push.result
    (λ e done is. plain_more (target_in l.proc.now l.at) l.at c.args.bytes.now.items
    c.push.new.bytes.items c.args.calls.now.items done is c.args.item c.in-Plain.instruction
    c.in-Plain.is sound e)
    c.push.ensures

pub returns-in-Jump : goal.returns-in-Jump
returns-in-Jump c =
    let l = c.args.layout.now in
    let t = target_in l.proc.now l.at in
    let goes : c.distance.result ≡ distance (l.at + length c.args.bytes.now.items + 5)
    (t c.in-Jump.target) = search rules in
    let fits : FitsSigned w32 c.distance.result = subst (FitsSigned w32) (sym goes)
    (SFits-int_wrap w32 _) in
    let far : again c.distance.result ≡ distance (l.at + length c.args.bytes.now.items + 5)
    (t c.in-Jump.target) = to_z-of_z w32 c.distance.result fits ∙ goes in
    on_ok c.push-in-Jump.result
    (λ e done is. jump_more t l.at c.args.bytes.now.items c.push-in-Jump.new.bytes.items
    c.args.calls.now.items done is c.args.item c.in-Jump.target (again c.distance.result)
    c.in-Jump.is far e)
    c.push-in-Jump.ensures

pub returns-in-Branch : goal.returns-in-Branch
returns-in-Branch c =
    let l = c.args.layout.now in
    let t = target_in l.proc.now l.at in
    let goes : c.distance-in-Branch.result ≡ distance (l.at + length c.args.bytes.now.items + 6)
    (t c.in-Branch.target) = search rules in
    let fits : FitsSigned w32 c.distance-in-Branch.result = subst (FitsSigned w32) (sym goes)
    (SFits-int_wrap w32 _) in
    let far : again c.distance-in-Branch.result ≡
    distance (l.at + length c.args.bytes.now.items + 6) (t c.in-Branch.target) =
    to_z-of_z w32 c.distance-in-Branch.result fits ∙ goes in
    on_ok c.push-in-Branch.result
    (λ e done is. branch_more t l.at c.args.bytes.now.items c.push-in-Branch.new.bytes.items
    c.args.calls.now.items done is c.args.item c.in-Branch.c c.in-Branch.target
    (again c.distance-in-Branch.result) c.in-Branch.is far e)
    c.push-in-Branch.ensures

pub returns-in_ok-push-in-Call : goal.returns-in_ok-push-in-Call
returns-in_ok-push-in-Call c =
    let l = c.args.layout.now in
    let t = target_in l.proc.now l.at in
    let bytes = c.args.bytes.now.items in
    let calls = c.args.calls.now.items in
    let site : CallSite = record { place = l.at + c.len.result + 1; callee = c.in-Call.callee } in
    let place : l.at + c.len.result + 1 ≡ l.at + length bytes + 1 = search rules in
    let more : c.push-in-Call.new.self.items ≡ calls ++ site ∷ [] =
    c.in_ok-push-in-Call.ensures.items in
    on_ok c.push-in-Call-2.result
    (λ e done is. subst (λ y. IsOpen t l.at (done ++ y ∷ []) c.push-in-Call-2.new.bytes.items
    c.push-in-Call.new.self.items) (sym c.in-Call.is)
    (call_more t l.at done bytes calls is c.in-Call.callee site c.push-in-Call-2.new.bytes.items
    c.push-in-Call.new.self.items place refl more e))
    c.push-in-Call-2.ensures
