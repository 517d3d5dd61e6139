-- The kinds of tokens told apart: by their place in the list of all kinds, and numbers by their
-- value.
use Rattle.std.specs.Prelude.{ℕ, ℤ, pos}
use Rattle.ob_syntax.specs.declared.token.Kind.{Kind}
use Rattle.ob_syntax.specs.declared.token.Kind.TheVariants.{Ident, Number, KwArray, KwBegin}
use Rattle.ob_syntax.specs.declared.token.Kind.TheVariants.{KwConst, KwDiv, KwDo, KwElse, KwElsif}
use Rattle.ob_syntax.specs.declared.token.Kind.TheVariants.{KwEnd, KwIf, KwMod, KwModule, KwOf}
use Rattle.ob_syntax.specs.declared.token.Kind.TheVariants.{KwOr, KwProcedure, KwRecord, KwRepeat}
use Rattle.ob_syntax.specs.declared.token.Kind.TheVariants.{KwThen, KwType, KwUntil, KwVar, KwWhile}
use Rattle.ob_syntax.specs.declared.token.Kind.TheVariants.{Period, Comma, Semicolon, Colon}
use Rattle.ob_syntax.specs.declared.token.Kind.TheVariants.{Becomes, LeftParen, RightParen}
use Rattle.ob_syntax.specs.declared.token.Kind.TheVariants.{LeftBracket, RightBracket, Tilde, Times}
use Rattle.ob_syntax.specs.declared.token.Kind.TheVariants.{Amp, Plus, Minus, Equal, Unequal, Less}
use Rattle.ob_syntax.specs.declared.token.Kind.TheVariants.{LessEqual, Greater, GreaterEqual}

abbrev pub kind_number : Kind → ℕ
kind_number Ident = 0
kind_number (Number n) = 1
kind_number KwArray = 2
kind_number KwBegin = 3
kind_number KwConst = 4
kind_number KwDiv = 5
kind_number KwDo = 6
kind_number KwElse = 7
kind_number KwElsif = 8
kind_number KwEnd = 9
kind_number KwIf = 10
kind_number KwMod = 11
kind_number KwModule = 12
kind_number KwOf = 13
kind_number KwOr = 14
kind_number KwProcedure = 15
kind_number KwRecord = 16
kind_number KwRepeat = 17
kind_number KwThen = 18
kind_number KwType = 19
kind_number KwUntil = 20
kind_number KwVar = 21
kind_number KwWhile = 22
kind_number Period = 23
kind_number Comma = 24
kind_number Semicolon = 25
kind_number Colon = 26
kind_number Becomes = 27
kind_number LeftParen = 28
kind_number RightParen = 29
kind_number LeftBracket = 30
kind_number RightBracket = 31
kind_number Tilde = 32
kind_number Times = 33
kind_number Amp = 34
kind_number Plus = 35
kind_number Minus = 36
kind_number Equal = 37
kind_number Unequal = 38
kind_number Less = 39
kind_number LessEqual = 40
kind_number Greater = 41
kind_number GreaterEqual = 42

abbrev pub kind_value : Kind → ℤ
kind_value (Number n) = n
kind_value _ = pos 0
