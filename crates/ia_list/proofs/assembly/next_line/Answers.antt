use Rattle.std.proofs.Common.{◌≡◌, ◌++◌, sym, ap, ◌∙◌, arith, rules}
use Rattle.ia_code.specs.DecodeTable.{IsSound}
use Rattle.ia_list.specs.Text.{line}
use Rattle.ia_list.proofs.LinesTold.{no_line, unsound_line, other_line}
use Rattle.ia_list.proofs.assembly.next_line.Goals as goal

pub returns-in_default : goal.returns-in_default
returns-in_default c = no_line c.args.place c.args.bytes.now c.requires (sym c.instruction.ensures
    ∙ c.in_default.is)

pub returns-then-not-is_sound : goal.returns-then-not-is_sound
returns-then-not-is_sound c =
    let bad : IsSound c.in-Some.i → ⊥ = λ s. first_of (search rules, grind arith) in
    unsound_line c.args.place c.args.bytes.now c.requires c.in-Some.i (sym c.instruction.ensures
    ∙ c.in-Some.is) bad

pub returns-in_default-behind : goal.returns-in_default-behind
returns-in_default-behind c =
    let front : c.as_slice.result.now ≡ line c.args.place c.in-Some.i =
    first_of (search rules, grind arith) in
    other_line c.args.place c.args.bytes.now c.requires c.in-Some.i (sym c.instruction.ensures
    ∙ c.in-Some.is)
    (λ rest e. c.in_default-behind.ensures rest (e ∙ ap (λ l. l ++ rest) (sym front)))
