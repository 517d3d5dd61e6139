use Rattle.std.proofs.Common.{◌≡◌, ◌++◌, ◌+◌, ◌≤◌, ◌<◌, length, refl, sym, ap, ◌∙◌, subst, arith}
use Rattle.std.proofs.Common.{rules}
use Rattle.ia_list.specs.Text.{line}
use Rattle.ia_list.proofs.LineSize.{behind_line}
use Rattle.ia_list.proofs.TextsRead.{IsReadTo, NoLine, code_half, count_small, read_next, read_bad}
use Rattle.ia_list.proofs.TextsRead.{read_empty, read_all}
use Rattle.ia_list.proofs.assembly.asm_text.Goals as goal

pub overflow_add-number : goal.overflow_add-number
overflow_add-number c = omega (arith, count_small c.lines.invariant, c.requires)

pub overflow_cast-len : goal.overflow_cast-len
overflow_cast-len c =
    let len : c.len.result ≡ length c.lines.code.items = first_of (search rules, grind arith) in
    omega (arith, len, code_half c.lines.invariant, c.requires)

pub next_line-requires : goal.next_line-requires
next_line-requires c =
    let len : c.len.result ≡ length c.lines.code.items = first_of (search rules, grind arith) in
    omega (arith, len, code_half c.lines.invariant, c.requires)

pub returns-in_default-2 : goal.returns-in_default-2
returns-in_default-2 c =
    let len : c.len.result ≡ length c.lines.code.items = first_of (search rules, grind arith) in
    let some : 1 ≤ length c.lines.rest.now = first_of (omega arith, search rules, grind arith) in
    let none : NoLine c.len.result c.lines.rest.now =
    rw c.in_default-2.is at c.in_ok-encoded.ensures in
    read_bad c.lines.invariant c.requires some (subst (λ p. NoLine p c.lines.rest.now) len none)

pub lines-smaller : goal.lines-smaller
lines-smaller c =
    let found = rw c.in-Some-2.is at c.in_ok-encoded.ensures in
    behind_line c.len.result found.0 c.lines.rest.now c.in-Some-2.after.now found.3

pub lines-preserved : goal.lines-preserved
lines-preserved c =
    let found = rw c.in-Some-2.is at c.in_ok-encoded.ensures in
    let len : c.len.result ≡ length c.lines.code.items = first_of (search rules, grind arith) in
    let items : c.extend_from_slice.new.self.items ≡ c.lines.code.items
    ++ c.in-Some-2.encoded.items =
    c.in_ok-extend_from_slice.ensures.items
    ∙ ap (λ l. c.lines.code.items ++ l) c.as_slice.ensures.value in
    subst (λ code. IsReadTo c.args.bytes.now c.in-Some.data_words code (c.lines.number + 1)
    c.in-Some-2.after.now) (sym items)
    (read_next c.lines.invariant found.0 c.in-Some-2.after.now c.in-Some-2.encoded.items
    found.1 found.2 (found.3 ∙ ap (λ p. line p found.0 ++ c.in-Some-2.after.now) len))

pub returns-then-is_empty : goal.returns-then-is_empty
returns-then-is_empty c =
    let over : length c.lines.rest.now < 1 = first_of (omega arith, search rules, grind arith) in
    let empty : length c.lines.code.items < 1 = first_of (omega arith, search rules, grind arith) in
    read_empty c.lines.invariant over empty

pub returns : goal.returns
returns c =
    let over : length c.lines.rest.now < 1 = first_of (omega arith, search rules, grind arith) in
    let some : 1 ≤ length c.lines.code.items = first_of (omega arith, search rules, grind arith) in
    read_all c.lines.invariant over c.requires some
    (record { code = c.from_vec.result; data_words = c.in-Some.data_words }) c.from_vec.ensures refl
