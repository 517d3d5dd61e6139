-- A source that the checker answers, with its tokens and its tree, and what it stands for:
--
--     MODULE M; BEGIN WriteLn END M.
use Rattle.std.specs.Prelude.{ℕ, List, [], ◌∷◌, codes}
use Rattle.ob_syntax.specs.Declarations.{Reading, beginning, drafted, with_nodes}
use Rattle.ob_syntax.specs.WellFormed.{resolved}
use Rattle.ob_syntax.specs.declared.checked.Checked.{Checked}
use Rattle.ob_syntax.specs.declared.checked.RStmt.TheVariants.{WriteLine}
use Rattle.ob_syntax.specs.declared.token.Kind.{Kind}
use Rattle.ob_syntax.specs.declared.token.Kind.TheVariants.{Ident, KwModule, KwBegin, KwEnd}
use Rattle.ob_syntax.specs.declared.token.Kind.TheVariants.{Semicolon, Period}
use Rattle.ob_syntax.specs.declared.token.Token.{Token}
use Rattle.ob_syntax.specs.declared.tree.Decls.{Decls, roll-Decls}
use Rattle.ob_syntax.specs.declared.tree.Module.{Module}
use Rattle.ob_syntax.specs.declared.tree.Span.{Span}
use Rattle.ob_syntax.specs.declared.tree.Stmt.{Stmt, roll-Stmt}
use Rattle.ob_syntax.specs.declared.tree.StmtForm.TheVariants.{Call}

abbrev pub source : List ℕ
source = codes "MODULE M; BEGIN WriteLn END M."

abbrev token : Kind → (from to : ℕ) → Token
token kind from to = record { kind = kind; from = from; to = to }

abbrev pub tokens : List Token
tokens =
    token KwModule 0 6 ∷ token Ident 7 8 ∷ token Semicolon 8 9 ∷ token KwBegin 10 15 ∷
    token Ident 16 23 ∷ token KwEnd 24 27 ∷ token Ident 28 29 ∷ token Period 29 30 ∷ []

abbrev span : (first last : ℕ) → Span
span first last = record { first = first; last = last }

abbrev pub no_declarations : Decls
no_declarations = roll-Decls (record { consts = []; types = []; vars = []; procs = [] })

abbrev pub write_line : Stmt
write_line = roll-Stmt (record { span = span 4 4; form = Call 4 [] })

abbrev pub tree : Module
tree = record {
  span = span 0 7;
  name = 1;
  decls = no_declarations;
  body = write_line ∷ [];
  close = 6;
}

-- the body has one node
abbrev pub read : Reading
read = record {
  place = with_nodes (beginning source tokens) 1;
  vars = [];
  procs = drafted 0 1 [] [] 1 (WriteLine ∷ []) ∷ [];
}

abbrev pub checked : Checked
checked = resolved tree read
