-- A module that breaks rules at three tokens: `x` and `y` are not declared, and the name behind END
-- is not the module's.
use Rattle.std.specs.Prelude.{ℕ, List, [], ◌∷◌, codes}
use Rattle.ob_syntax.specs.declared.token.Kind.{Kind}
use Rattle.ob_syntax.specs.declared.token.Kind.TheVariants.{Ident, KwBegin, KwEnd, KwModule}
use Rattle.ob_syntax.specs.declared.token.Kind.TheVariants.{Period, Semicolon}
use Rattle.ob_syntax.specs.declared.token.Token.{Token}
use Rattle.ob_syntax.specs.declared.tree.Decls.{Decls, roll-Decls}
use Rattle.ob_syntax.specs.declared.tree.Module.{Module}
use Rattle.ob_syntax.specs.declared.tree.Stmt.{Stmt, roll-Stmt}
use Rattle.ob_syntax.specs.declared.tree.StmtForm.TheVariants as form

abbrev pub bytes : List ℕ
bytes = codes "MODULE M; BEGIN x; y END N."

abbrev at : Kind → ℕ → ℕ → Token
at kind from to = record { kind = kind; from = from; to = to }

abbrev pub tokens : List Token
tokens =
    at KwModule 0 6 ∷ at Ident 7 8 ∷ at Semicolon 8 9 ∷ at KwBegin 10 15 ∷ at Ident 16 17 ∷
    at Semicolon 17 18 ∷ at Ident 19 20 ∷ at KwEnd 21 24 ∷ at Ident 25 26 ∷ at Period 26 27 ∷ []

abbrev pub nothing : Decls
nothing = roll-Decls (record { consts = []; types = []; vars = []; procs = [] })

-- the call of the name at token k
abbrev pub call : ℕ → Stmt
call k = roll-Stmt (record { span = record { first = k; last = k }; form = form.Call k [] })

abbrev pub broken : Module
broken = record {
  span = record { first = 0; last = 9 };
  name = 1;
  decls = nothing;
  body = call 4 ∷ call 6 ∷ [];
  close = 8;
}
