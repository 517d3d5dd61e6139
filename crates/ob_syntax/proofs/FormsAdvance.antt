-- A form ends no earlier than it begins.
use Rattle.std.proofs.Common.{ℕ, ◌+◌, ◌≤◌, List, arith}
use Rattle.ob_syntax.specs.Grammar.{Nonterminal, Symbol, right}
use Rattle.ob_syntax.specs.Forms.{Form, Parts, made, done, taken, part, end, ends}

mutual
  pub stays : (n : Nonterminal) (i : ℕ) (f : Form n) → i ≤ end n i f
  stays n i (made _ r ps) = all_stay (right r) i ps

  pub all_stay : (ss : List Symbol) (i : ℕ) (ps : Parts ss) → i ≤ ends ss i ps
  all_stay _ i done = omega arith
  all_stay _ i (taken k ss ps) = let a = all_stay ss (i + 1) ps in omega arith
  all_stay _ i (part d m ss f ps) = let a = stays m i f in let b = all_stay ss (end m i f) ps in
      omega arith
