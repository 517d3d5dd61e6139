-- What the operands of an instruction say of what it reads and writes, and how the equations go
-- over one instruction.
use Rattle.std.proofs.Common.{◌≡◌, ℕ, ◌+◌, ◌<◌, ◌≤◌, Bool, true, false, not, ◌&&◌, ◌||◌, nat_eq}
use Rattle.std.proofs.Common.{List, [], ◌∷◌, map, length, get_or, take, drop, refl, ap, subst, ◌∙◌}
use Rattle.std.proofs.Common.{arith}
use Rattle.std.specs.List.{list_any}
use Rattle.std.proofs.lemmas.Bool.{eq-eqb, eqb-true}
use Rattle.std.proofs.lemmas.Bool.Decides.{nat_tests}
use Rattle.std.proofs.lemmas.List.{drop_all, drop_more}
use Rattle.std.proofs.lemmas.List.Folds.{list_any_more, list_any_at, list_any-append}
use Rattle.pra_list.proofs.Truths.{or_none}
use Rattle.pra_base.specs.declared.code.VInstr.{VInstr}
use Rattle.pra_base.specs.declared.code.End.{End}
use Rattle.pra_base.specs.Operands as table
use Rattle.vc_code.specs.declared.row.Role.{Role}
use Rattle.vc_code.specs.declared.row.OperandRow.{OperandRow}
use Rattle.vc_code.specs.Rows.{roles_of, row_of}
use Rattle.vc_live.specs.Equations.{named_in, before, through, at_exit, at_targets}

-- what a reading past the end of a list of roles gives
abbrev pub no_role : Role
no_role = record { var = record { 0 = 0 }; mask = 0; memory = false }

pub named_more : (roles : List Role) (i : ℕ) (d : Role) → i < length roles → (v : ℕ) →
    named_in (take (i + 1) roles) v ≡
    (named_in (take i roles) v || nat_eq (get_or roles i d).var.0 v)
unfolding named_in
named_more roles i d within v = list_any_more (λ role. nat_eq role.var.0 v) roles i d within

pub named_at : (roles : List Role) (i : ℕ) (d : Role) → i < length roles →
    named_in roles (get_or roles i d).var.0 ≡ true
unfolding named_in
named_at roles i d within = list_any_at (λ role. nat_eq role.var.0 (get_or roles i d).var.0) roles i
    d within (eq-eqb _ _ refl)

pub named_none : (v : ℕ) → named_in [] v ≡ false
unfolding named_in
named_none v = refl

-- ---- an answer of `operands` names what the instruction reads and writes

named-roles_of : (roles : List Role) (v : ℕ) → named_in roles v ≡ list_any (table.is_role_of v)
    (roles_of roles)
unfolding named_in
named-roles_of [] v = refl
named-roles_of (r ∷ rs) v = ap (λ b. nat_eq r.var.0 v || b) (named-roles_of rs v)

any-settled : (line : table.Line) (roles : List table.Role) (v : ℕ) → list_any (table.is_role_of v)
    (map (table.settled line) roles) ≡ list_any (table.is_role_of v) roles
any-settled line [] v = refl
any-settled line (r ∷ rs) v = ap (λ b. nat_eq r.var v || b) (any-settled line rs v)

eqb_swapped : (a b : ℕ) → nat_eq a b ≡ nat_eq b a
eqb_swapped a b = grind (arith, nat_tests)

any-rewritten : (line : table.Line) (vars : List ℕ) (v : ℕ) → list_any (table.is_role_of v)
    (map (table.rewritten line) vars) ≡ list_any (nat_eq v) vars
any-rewritten line [] v = refl
any-rewritten line (x ∷ xs) v = rw (eqb_swapped x v, any-rewritten line xs v) refl

pub reads_named : (row : OperandRow) (i : VInstr) → row_of row ≡ table.operands i → (v : ℕ) →
    named_in row.reads.items v ≡ table.reads i v
reads_named row i is v = named-roles_of row.reads.items v
    ∙ ap (λ r. list_any (table.is_role_of v) r.reads) is ∙ any-settled (table.table i)
    (table.table i).reads v

pub writes_named : (row : OperandRow) (i : VInstr) → row_of row ≡ table.operands i → (v : ℕ) →
    named_in row.writes.items v ≡ table.writes i v
writes_named row i is v =
    let line = table.table i in
    named-roles_of row.writes.items v ∙ ap (λ r. list_any (table.is_role_of v) r.writes) is
    ∙ list_any-append (table.is_role_of v) (map (table.rewritten line) line.in_place)
    (map (table.settled line) line.writes)
    ∙ rw (any-rewritten line line.in_place v, any-settled line line.writes v) refl

-- ---- one more role

pub put_in : (named start now eq : Bool) → now ≡ (named || start) → (eq || now) ≡
    ((named || eq) || start)
put_in true start now true is = refl
put_in false start now true is = refl
put_in true start now false is = is
put_in false start now false is = is

-- a role whose variable is no constant: the variable goes
pub taken_out : (named start constant now eq : Bool) → now ≡ (start && (constant || not named)) →
    (eq ≡ true → constant ≡ false) → (not eq && now) ≡ (start && (constant || not (named || eq)))
taken_out named start constant now true is free = rw (free refl) (gone named start)
  where
    gone : (named start : Bool) → false ≡ (start && not (named || true))
    gone named start = grind arith
taken_out named start constant now false is free = is ∙ rw (or_none named) refl

-- a role whose variable is a constant: it stays
pub left_in : (named start constant now eq : Bool) → now ≡ (start && (constant || not named)) →
    (eq ≡ true → constant ≡ true) → now ≡ (start && (constant || not (named || eq)))
left_in named start constant now true is free = is ∙ rw (free refl) refl
left_in named start constant now false is free = is ∙ rw (or_none named) refl

-- ---- the equations

pub before-same : (constants after also : ℕ → Bool) (i : VInstr) (v : ℕ) → after v ≡ also v →
    before constants i after v ≡ before constants i also v
unfolding before
before-same constants after also i v same = rw same refl

pub through_end : (constants : ℕ → Bool) (code : List VInstr) (out : ℕ → Bool) (v n : ℕ) →
    length code ≤ n → through constants (drop n code) out v ≡ out v
unfolding through
through_end constants code out v n past = rw (drop_all n code past) refl

pub through_more : (constants : ℕ → Bool) (code : List VInstr) (k n : ℕ) (d : VInstr) → k + 1 ≡ n →
    k < length code → (out : ℕ → Bool) (v : ℕ) →
    through constants (drop k code) out v ≡ before constants (get_or code k d)
    (through constants (drop n code) out) v
unfolding through
through_more constants code k n d next within out v = rw (drop_more code k d within, next) refl

pub at_exit_of : (constants : ℕ → Bool) (entries : List (List ℕ)) (end : End) (v : ℕ) →
    at_exit constants entries end v ≡ (at_targets entries end v && not (constants v))
unfolding at_exit
at_exit_of constants entries end v = refl

pub before_of : (constants : ℕ → Bool) (i : VInstr) (after : ℕ → Bool) (v : ℕ) →
    before constants i after v ≡
    (table.reads i v || (after v && (constants v || not (table.writes i v))))
unfolding before
before_of constants i after v = refl

pub nothing_out : (start constant : Bool) → start ≡ (start && (constant || not false))
nothing_out start constant = grind arith

-- what is known of one variable is known of each variable with its number
pub at_same : (set : ℕ → Bool) (x v : ℕ) (b : Bool) → set x ≡ b → nat_eq x v ≡ true → set v ≡ b
at_same set x v b is same = subst (λ z. set z ≡ b) (eqb-true x v same) is

pub or_swapped : (a b : Bool) → (a || b) ≡ (b || a)
or_swapped true true = refl
or_swapped true false = refl
or_swapped false true = refl
or_swapped false false = refl
