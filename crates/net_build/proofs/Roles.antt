-- Roles as the code has them, and those of the definitions.
use Rattle.std.proofs.Common.{ℕ, ◌≡◌, ◌-◌, ◌≤◌, Bool, true, false, true≢false, cond, eqb, ◌||◌}
use Rattle.std.proofs.Common.{List, [], ◌∷◌, length, get_or, take, drop, fold, refl, sym, ap, ◌∙◌}
use Rattle.std.proofs.Common.{suc, arith}
use Rattle.std.specs.List.{list_any}
use Rattle.std.proofs.lemmas.Bool.{ne_eqb}
use Rattle.std.proofs.lemmas.List.{take_all}
use Rattle.pra_base.specs.Operands as table
use Rattle.pra_base.specs.Places.{meet}
use Rattle.pra_list.proofs.Mapped.{list_any-map}
use Rattle.vc_code.specs.declared.row.Role.{Role}
use Rattle.vc_code.specs.Rows.{role_of, roles_of}

abbrev pub named : List Role → ℕ → Bool
named roles v = list_any (λ (role : Role). eqb role.var.0 v) roles

pub named_is : (roles : List Role) (v : ℕ) → named roles v ≡ list_any (table.is_role_of v)
    (roles_of roles)
named_is roles v = sym (list_any-map (table.is_role_of v) role_of roles)

-- a role that is not the variable's does not count
pub another : (roles : List Role) (d : Role) (v : ℕ) → 1 ≤ length roles →
    ((get_or roles 0 d).var.0 ≡ v → ⊥)
    → named roles v ≡ named (take (length roles - 1) (drop 1 roles)) v
another [] d v some other = absurd (omega (arith, some))
another (r ∷ rs) d v some other =
    ap (λ b. b || named rs v) (ne_eqb r.var.0 v other)
    ∙ sym (ap (λ l. named l v) (take_all (suc (length rs) - 1) rs (omega arith)))

-- a mask that no role of the variable meets
pub unmet : (v own : ℕ) (roles : List table.Role) → list_any (table.is_role_of v) roles ≡ false →
    fold (table.meets v) own roles ≡ own
unmet v own [] none = refl
unmet v own (r ∷ rs) none = by (eqb r.var v) none (unmet v own rs)
  where
    by : (t : Bool) → (t || list_any (table.is_role_of v) rs) ≡ false →
        (list_any (table.is_role_of v) rs ≡ false → fold (table.meets v) own rs ≡ own)
        → fold (table.meets v) (cond t (meet own r.mask) own) rs ≡ own
    by true none rest = absurd (true≢false none)
    by false none rest = rest none
