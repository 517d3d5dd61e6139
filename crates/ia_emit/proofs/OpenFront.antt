-- What stands before the procedures, with its call left open.
use Rattle.std.proofs.Common.{◌≡◌, ℕ, List, [], ◌∷◌, ◌++◌, refl, sym, ap, ◌∙◌, arith, subst}
use Rattle.std.specs.Prelude.{pos}
use Rattle.std.specs.Int.{w32}
use Rattle.std.specs.Int.RustNames.{FitsSigned}
use Rattle.std.proofs.lemmas.Int.{ints, SFits-int_wrap}
use Rattle.ia_code.specs.DecodeTable.{bytes_of}
use Rattle.ia_code.specs.Services.{service_number, trap_number}
use Rattle.ia_code.specs.declared.ins.Ins.TheVariants as ins
use Rattle.ia_code.specs.declared.ins.Reg.TheVariants.{Eax}
use Rattle.ia_code.specs.declared.services.Service.TheVariants.{End, Trap}
use Rattle.ia_emit.specs.declared.bytes.CallSite.{CallSite}
use Rattle.ia_emit.specs.Code.{front}
use Rattle.ia_emit.specs.Open.{IsOpen}
use Rattle.pra_base.specs.declared.event.TrapKind.{TrapKind}
use Rattle.pra_base.specs.declared.event.TrapKind.TheVariants.{Index, Divide, Stack}

abbrev stub_bytes : TrapKind → List ℕ
stub_bytes trap = bytes_of (ins.MovRI Eax (pos (trap_number trap)))
    ++ bytes_of (ins.Int (service_number Trap))

abbrev open_bytes : List ℕ
open_bytes =
    bytes_of (ins.Call (pos 0)) ++ bytes_of (ins.Int (service_number End)) ++ stub_bytes Index
    ++ stub_bytes Divide ++ stub_bytes Stack

abbrev site : CallSite
site = record { place = 1; callee = record { 0 = 0 } }

one_fits : FitsSigned w32 (pos 1)
one_fits = omega (arith, ints)

two_fits : FitsSigned w32 (pos 2)
two_fits = omega (arith, ints)

four_fits : FitsSigned w32 (pos 4)
four_fits = omega (arith, ints)

open_front : IsOpen (λ t. 0) 0 front open_bytes (site ∷ [])
open_front = record {
  within = (omega arith, omega arith, tt);
  sound = λ entry. (
    SFits-int_wrap w32 _,
    (refl, (one_fits, (refl, (two_fits, (refl, (four_fits, (refl, tt))))))),
  );
  filled_is = λ entry. refl;
}

-- the bytes as they are put one behind the other
pub front_is_open : (a b c d e f : List ℕ) (calls : List CallSite) (end : ℕ) → a ≡ [] →
    b ≡ a ++ bytes_of (ins.Call (pos 0)) → end ≡ service_number End →
    c ≡ b ++ bytes_of (ins.Int end) →
    d ≡ c ++ bytes_of (ins.MovRI Eax (pos (trap_number Index)))
    ++ bytes_of (ins.Int (service_number Trap)) →
    e ≡ d ++ bytes_of (ins.MovRI Eax (pos (trap_number Divide)))
    ++ bytes_of (ins.Int (service_number Trap)) →
    f ≡ e ++ bytes_of (ins.MovRI Eax (pos (trap_number Stack)))
    ++ bytes_of (ins.Int (service_number Trap)) →
    calls ≡ site ∷ [] → IsOpen (λ t. 0) 0 front f calls
front_is_open a b c d e f calls end e0 e1 n e2 e3 e4 e5 s =
    let number : List ℕ = bytes_of (ins.Int (service_number Trap)) in
    let first : c ≡ bytes_of (ins.Call (pos 0)) ++ bytes_of (ins.Int (service_number End)) =
    e2 ∙ ap (λ l. l ++ bytes_of (ins.Int end)) (e1 ∙ ap (λ l. l ++ bytes_of (ins.Call (pos 0))) e0)
    ∙ ap (λ k. bytes_of (ins.Call (pos 0)) ++ bytes_of (ins.Int k)) n in
    let all : f ≡ open_bytes =
    e5 ∙ ap (λ l. l ++ bytes_of (ins.MovRI Eax (pos 4)) ++ number)
    (e4 ∙ ap (λ l. l ++ bytes_of (ins.MovRI Eax (pos 2)) ++ number)
    (e3 ∙ ap (λ l. l ++ bytes_of (ins.MovRI Eax (pos 1)) ++ number) first)) in
    subst (λ l. IsOpen (λ t. 0) 0 front l calls) (sym all)
    (subst (IsOpen (λ t. 0) 0 front open_bytes) (sym s) open_front)
