-- The variables that an instruction reads and writes, as a test and as elements of a list.
use Rattle.std.proofs.Common.{◌≡◌, ℕ, ◌⊎◌, inl, inr, true, nat_eq, List, [], ◌∷◌, map, sym, arith}
use Rattle.std.specs.List.{list_any}
use Rattle.std.proofs.lemmas.Bool.Decides.{nat_tests}
use Rattle.pra_list.specs.Among.{Among}
use Rattle.pra_list.proofs.Among.{in_left, in_right, in_either}
use Rattle.pra_list.proofs.Truths.{or_cases, or_left, or_right, nat_is}
use Rattle.pra_base.specs.declared.code.VInstr.{VInstr}
use Rattle.pra_base.specs.Operands.{Role, table, reads, writes, read_by, written_by, is_role_of}
use Rattle.pra_base.specs.Operands.{var_of}

is_nat : (a b : ℕ) → a ≡ b → nat_eq a b ≡ true
is_nat a b e = grind (arith, nat_tests)

pub roles_among : (rs : List Role) (v : ℕ) → list_any (is_role_of v) rs ≡ true →
    Among v (map var_of rs)
roles_among [] v e = cc
roles_among (r ∷ rs) v e = first (or_cases (nat_eq r.var v) (list_any (is_role_of v) rs) e)
    (λ f. roles_among rs v f)
  where
    first : (nat_eq r.var v ≡ true) ⊎ (list_any (is_role_of v) rs ≡ true) →
        (list_any (is_role_of v) rs ≡ true → Among v (map var_of rs)) →
        Among v (map var_of (r ∷ rs))
    first (inl f) more = inl (sym (nat_is r.var v f))
    first (inr f) more = inr (more f)

pub among_roles : (rs : List Role) (v : ℕ) → Among v (map var_of rs) → list_any (is_role_of v) rs ≡
    true
among_roles [] v m = absurd m
among_roles (r ∷ rs) v (inl e) = or_left (nat_eq r.var v) (list_any (is_role_of v) rs)
    (is_nat r.var v (sym e))
among_roles (r ∷ rs) v (inr m) = or_right (nat_eq r.var v) (list_any (is_role_of v) rs)
    (among_roles rs v m)

pub numbers_among : (vs : List ℕ) (v : ℕ) → list_any (nat_eq v) vs ≡ true → Among v vs
numbers_among [] v e = cc
numbers_among (w ∷ ws) v e = first (or_cases (nat_eq v w) (list_any (nat_eq v) ws) e)
    (λ f. numbers_among ws v f)
  where
    first : (nat_eq v w ≡ true) ⊎ (list_any (nat_eq v) ws ≡ true) →
        (list_any (nat_eq v) ws ≡ true → Among v ws) → Among v (w ∷ ws)
    first (inl f) more = inl (nat_is v w f)
    first (inr f) more = inr (more f)

pub among_numbers : (vs : List ℕ) (v : ℕ) → Among v vs → list_any (nat_eq v) vs ≡ true
among_numbers [] v m = absurd m
among_numbers (w ∷ ws) v (inl e) = or_left (nat_eq v w) (list_any (nat_eq v) ws) (is_nat v w e)
among_numbers (w ∷ ws) v (inr m) = or_right (nat_eq v w) (list_any (nat_eq v) ws)
    (among_numbers ws v m)

pub reads_among : (i : VInstr) (v : ℕ) → reads i v ≡ true → Among v (read_by i)
reads_among i v e = roles_among (table i).reads v e

pub among_reads : (i : VInstr) (v : ℕ) → Among v (read_by i) → reads i v ≡ true
among_reads i v m = among_roles (table i).reads v m

pub writes_among : (i : VInstr) (v : ℕ) → writes i v ≡ true → Among v (written_by i)
writes_among i v e = first
    (or_cases (list_any (nat_eq v) (table i).in_place) (list_any (is_role_of v) (table i).writes) e)
  where
    first : (list_any (nat_eq v) (table i).in_place ≡ true) ⊎
        (list_any (is_role_of v) (table i).writes ≡ true) → Among v (written_by i)
    first (inl f) = in_left (table i).in_place (map var_of (table i).writes) v
        (numbers_among (table i).in_place v f)
    first (inr f) = in_right (table i).in_place (map var_of (table i).writes) v
        (roles_among (table i).writes v f)

pub among_writes : (i : VInstr) (v : ℕ) → Among v (written_by i) → writes i v ≡ true
among_writes i v m = first (in_either (table i).in_place (map var_of (table i).writes) v m)
  where
    first : Among v (table i).in_place ⊎ Among v (map var_of (table i).writes) → writes i v ≡ true
    first (inl n) = or_left (list_any (nat_eq v) (table i).in_place)
        (list_any (is_role_of v) (table i).writes) (among_numbers (table i).in_place v n)
    first (inr n) = or_right (list_any (nat_eq v) (table i).in_place)
        (list_any (is_role_of v) (table i).writes) (among_roles (table i).writes v n)
