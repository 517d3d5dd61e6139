-- The text of the module that a seed and a size make: as many procedures as the size says, each
-- with a loop of twenty random assignments, and a body that calls each once and writes what it
-- gives. Every line ends with one LF.
use Rattle.std.specs.Prelude.{ℕ, ◌+◌, ◌*◌, ◌%◌, suc, zero, List, [], ◌++◌, codes}
use Rattle.std.specs.Fmt.{decimal}
use Rattle.pra_gen.specs.declared.statement.Form.{Form}
use Rattle.pra_gen.specs.declared.statement.Form.TheVariants.{Sum, Difference, Product, Quotient}
use Rattle.pra_gen.specs.declared.statement.Statement.{Statement}
use Rattle.pra_gen.specs.Draws.{state_after, draw}

-- the texts f 0 to f (n - 1), one behind the other
unfoldable pub in_a_row : (ℕ → List ℕ) → ℕ → List ℕ
in_a_row f zero = []
in_a_row f (suc n) = in_a_row f n ++ f n

-- ---- an assignment

abbrev pub form_of : ℕ → Form
form_of zero = Sum
form_of (suc zero) = Difference
form_of (suc (suc zero)) = Product
form_of (suc (suc (suc _))) = Quotient

-- the assignment of the first four draws after the state x: its form, and three numbers below 8
abbrev pub statement_from : ℕ → Statement
statement_from x =
    record {
      form = form_of (draw x 1 % 4);
      target = draw x 2 % 8;
      left = draw x 3 % 8;
      right = draw x 4 % 8;
    }

abbrev pub right_side : Form → ℕ → List ℕ
right_side Sum m = codes " + v" ++ decimal m
right_side Difference m = codes " - v" ++ decimal m
right_side Product m = codes " * v" ++ decimal m
right_side Quotient m = codes " DIV " ++ decimal (m + 1)

abbrev pub statement_line : Statement → List ℕ
statement_line s =
    codes "v" ++ decimal s.target ++ codes " := v" ++ decimal s.left
    ++ right_side s.form s.right ++ codes ";\n"

-- the twenty assignments of the draws after the state x, four draws each
abbrev pub assignments : ℕ → List ℕ
assignments x = in_a_row (λ i. statement_line (statement_from (state_after x (4 * i)))) 20

-- ---- a procedure

abbrev pub heading : ℕ → List ℕ
heading k = codes "PROCEDURE P" ++ decimal k ++ codes "(a, b: INTEGER; VAR r: INTEGER);\n"

unfoldable pub before_assignments : List ℕ
before_assignments =
    codes "VAR v0, v1, v2, v3, v4, v5, v6, v7, n: INTEGER;\n"
    ++ codes "BEGIN\n"
    ++ codes "v0 := a; v1 := b; v2 := a + b; v3 := a - b;\n"
    ++ codes "v4 := 1; v5 := 2; v6 := 3; v7 := 4; n := 3;\n"
    ++ codes "WHILE n > 0 DO\n"

unfoldable pub behind_assignments : List ℕ
behind_assignments =
    codes "n := n - 1\n"
    ++ codes "END;\n"
    ++ codes "r := v0 + v1 + v2 + v3 + v4 + v5 + v6 + v7\n"

abbrev pub ending : ℕ → List ℕ
ending k = codes "END P" ++ decimal k ++ codes ";\n"

-- procedure number k, whose first draw is the one after the state x
abbrev pub procedure_text : ℕ → ℕ → List ℕ
procedure_text k x =
    heading k ++ before_assignments ++ assignments x ++ behind_assignments ++ ending k

-- ---- the module

-- the line that calls procedure k and writes what it gives
abbrev pub call_line : ℕ → List ℕ
call_line k =
    codes "P" ++ decimal k ++ codes "(" ++ decimal (k + 1) ++ codes ", " ++ decimal (k + 2)
    ++ codes ", s); Write(s);\n"

-- Draws go on through all procedures: each takes four for each of its twenty assignments.
abbrev pub procedures : ℕ → ℕ → List ℕ
procedures seed size = in_a_row (λ k. procedure_text k (state_after seed (80 * k))) size

abbrev pub module_text : ℕ → ℕ → List ℕ
module_text seed size =
    codes "MODULE G;\nVAR s: INTEGER;\n" ++ procedures seed size
    ++ codes "BEGIN\n" ++ in_a_row call_line size ++ codes "WriteLn\nEND G.\n"
