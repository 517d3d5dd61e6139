-- The services of the host, which INT calls by a number, and the numbers of the traps.
use Rattle.std.specs.Prelude.{ℕ, Bool, ◌==◌, if◌then◌else◌, Option, Some, None}
use Rattle.std.specs.Option.{is_some}
use Rattle.pra_base.specs.declared.event.TrapKind.{TrapKind}
use Rattle.pra_base.specs.declared.event.TrapKind.TheVariants.{Index, Divide, Input, Stack}
use Rattle.ia_code.specs.declared.services.Service.{Service}
use Rattle.ia_code.specs.declared.services.Service.TheVariants.{End, WriteNumber, WriteLine}
use Rattle.ia_code.specs.declared.services.Service.TheVariants.{ReadNumber, Trap}

-- the number of a service
abbrev pub service_number : Service → ℕ
service_number End = 0x20
service_number WriteNumber = 0x21
service_number WriteLine = 0x22
service_number ReadNumber = 0x23
service_number Trap = 0x24

-- the service of a number
abbrev pub service_of : ℕ → Option Service
service_of n =
    if n == 0x20 then Some End
    else if n == 0x21 then Some WriteNumber
    else if n == 0x22 then Some WriteLine
    else if n == 0x23 then Some ReadNumber
    else if n == 0x24 then Some Trap
    else None

-- whether there is a service of this number
abbrev pub is_service : ℕ → Bool
is_service n = is_some (service_of n)

-- the number of a trap, which stands in EAX when the service Trap is called
abbrev pub trap_number : TrapKind → ℕ
trap_number Index = 1
trap_number Divide = 2
trap_number Input = 3
trap_number Stack = 4

-- the trap of a number
abbrev pub trap_of : ℕ → Option TrapKind
trap_of n =
    if n == 1 then Some Index
    else if n == 2 then Some Divide
    else if n == 3 then Some Input
    else if n == 4 then Some Stack
    else None
