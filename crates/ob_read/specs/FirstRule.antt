-- The rule that a source is to be told to break, read without the order in which it is looked for.
use Rattle.std.specs.Prelude.{◌≡◌, ℕ, List}
use Rattle.ob_syntax.specs.declared.token.Token.{Token}
use Rattle.ob_syntax.specs.declared.tree.Module.{Module}
use Rattle.ob_syntax.specs.Source.{byte_of, IsParsed}
use Rattle.ob_first.specs.Breaks.{IsFirst}
use Rattle.ob_read.specs.declared.fault.SourceFault.TheVariants.{Rule}
use Rattle.ob_read.specs.declared.fault.ReadFault.TheVariants.{Source}
use Rattle.ob_read.specs.Source.{IsUnreadable}

-- The bytes have a tree, and of all rules that its module breaks this one is the first: at the
-- least token, which begins at this byte, and there with the least number.
pub record BreaksFirst (bytes : List ℕ) (rule token at : ℕ) : Type 0 where
  pub tokens : List Token
  pub tree : Module
  pub parsed : IsParsed bytes tokens tree
  pub first : IsFirst bytes tokens tree rule token
  pub at_is : at ≡ byte_of bytes tokens token

-- the fault of the bytes is this rule, broken at this token
abbrev pub TellsRule : List ℕ → ℕ → ℕ → ℕ → Type 0
TellsRule bytes rule token at = IsUnreadable bytes (Source (Rule rule token at))
