-- How far a phrase goes.
use Rattle.std.proofs.Common.{ℕ, ◌+◌, ◌≤◌, ◌<◌, length, length-append, arith, ap}
use Rattle.ob_syntax.specs.Grammar.{Nonterminal, Selector, Factor, Term, SimpleExpression, field}
use Rattle.ob_syntax.specs.Grammar.{index, name, number, parenthesis, negation, term}
use Rattle.ob_syntax.specs.Grammar.{simple_expression}
use Rattle.ob_syntax.specs.Forms.{Form, made, taken, part, end}
use Rattle.ob_syntax.specs.Tree.{Tree}
use Rattle.ob_syntax.proofs.FormsAdvance.{stays, all_stay}
use Rattle.ob_parse.specs.declared.cursor.Parser.{Parser}
use Rattle.ob_parse.specs.Reading.{left, place, IsRead}

selector_moves : (i : ℕ) (f : Form Selector) → i < end Selector i f
selector_moves i (made _ field (taken _ ss ps)) = let a = all_stay ss (i + 1) ps in omega arith
selector_moves i (made _ index (taken _ ss ps)) = let a = all_stay ss (i + 1) ps in omega arith

factor_moves : (i : ℕ) (f : Form Factor) → i < end Factor i f
factor_moves i (made _ name (taken _ ss ps)) = let a = all_stay ss (i + 1) ps in omega arith
factor_moves i (made _ (number n) (taken _ ss ps)) = let a = all_stay ss (i + 1) ps in omega arith
factor_moves i (made _ parenthesis (taken _ ss ps)) = let a = all_stay ss (i + 1) ps in omega arith
factor_moves i (made _ negation (taken _ ss ps)) = let a = all_stay ss (i + 1) ps in omega arith

term_moves : (i : ℕ) (f : Form Term) → i < end Term i f
term_moves i (made _ term (part _ _ ss f ps)) = let a = factor_moves i f in let b =
    all_stay ss (end Factor i f) ps in omega arith

simple_moves : (i : ℕ) (f : Form SimpleExpression) → i < end SimpleExpression i f
simple_moves i (made _ simple_expression (part _ n _ s (part _ _ ss t ps))) = let a = stays n i s in
    let b = term_moves (end n i s) t in let d = all_stay ss (end Term (end n i s) t) ps in
    omega arith

module _ {n : Nonterminal} {room : ℕ} {t : Tree n} {old new : Parser} (r : IsRead n room t old new)
  where
    pub later : place old ≤ place new
    later = omega (arith, r.count)

    pub no_longer : length (left new) ≤ length (left old)
    no_longer = omega (arith, ap length r.from, length-append r.read (left new))

pub selector_later : {room : ℕ} {t : Tree Selector} {old new : Parser} →
    IsRead Selector room t old new → place old < place new
selector_later {old = old} r = let a = selector_moves (place old) r.form in
    omega (arith, r.place_is)

pub factor_later : {room : ℕ} {t : Tree Factor} {old new : Parser} → IsRead Factor room t old new →
    place old < place new
factor_later {old = old} r = let a = factor_moves (place old) r.form in omega (arith, r.place_is)

pub term_later : {room : ℕ} {t : Tree Term} {old new : Parser} → IsRead Term room t old new →
    place old < place new
term_later {old = old} r = let a = term_moves (place old) r.form in omega (arith, r.place_is)

pub simple_later : {room : ℕ} {t : Tree SimpleExpression} {old new : Parser} →
    IsRead SimpleExpression room t old new → place old < place new
simple_later {old = old} r = let a = simple_moves (place old) r.form in omega (arith, r.place_is)

pub selector_shorter : {room : ℕ} {t : Tree Selector} {old new : Parser} →
    IsRead Selector room t old new → length (left new) < length (left old)
selector_shorter {old = old} {new = new} r = let a = selector_moves (place old) r.form in
    omega (arith, r.place_is, r.count, ap length r.from, length-append r.read (left new))
