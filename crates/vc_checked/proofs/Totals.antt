-- Sums over lists, and the names of variables in declarations.
use Rattle.std.proofs.Common.{◌≡◌, ℕ, ◌+◌, List, [], ◌∷◌, ◌++◌, length, map, arith}
use Rattle.ob_syntax.specs.declared.tree.Decls.{Decls, Decls-F, fold-Decls}
use Rattle.ob_syntax.specs.declared.tree.NameList.{NameList, out-NameList}
use Rattle.ob_syntax.specs.declared.tree.Proc.{Proc, Proc-F, fold-Proc}

abbrev pub added : List ℕ → ℕ
added [] = 0
added (n ∷ ns) = n + added ns

pub added_append : {A : Type 0} (f : A → ℕ) (xs ys : List A) → added (map f (xs ++ ys)) ≡
    added (map f xs) + added (map f ys)
added_append f [] ys = omega arith
added_append f (x ∷ xs) ys = let rest = added_append f xs ys in omega (arith, rest)

-- the names in lists of variables
abbrev pub names_in_lists : List NameList → ℕ
names_in_lists [] = 0
names_in_lists (l ∷ ls) = length (out-NameList l).names + names_in_lists ls

-- the names of variables in declarations, with those in their procedures
abbrev pub decls_names : Decls-F ℕ ℕ → ℕ
decls_names d = names_in_lists d.vars + added d.procs

abbrev pub proc_names : Proc-F ℕ ℕ → ℕ
proc_names p = p.decls

abbrev pub names_in : Decls → ℕ
names_in = fold-Decls ℕ ℕ decls_names proc_names

abbrev pub names_of : Proc → ℕ
names_of = fold-Proc ℕ ℕ decls_names proc_names
