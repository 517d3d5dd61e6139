-- The numbers by which the rules of the language are told.
use Rattle.std.specs.Prelude.{ℕ}
use Rattle.ob_check.specs.declared.rules.Rule.{Rule}
use Rattle.ob_check.specs.declared.rules.Rule.TheVariants as rule

abbrev pub rule_number : Rule → ℕ
rule_number rule.ModuleEndsWithItsName = 1
rule_number rule.ProcedureEndsWithItsName = 2
rule_number rule.NameIsNew = 3
rule_number rule.FieldNameIsNew = 4
rule_number rule.NameIsDeclared = 5
rule_number rule.VariableIsWithinReach = 6
rule_number rule.NameHasValue = 7
rule_number rule.NameIsType = 8
rule_number rule.NameIsProcedure = 9
rule_number rule.TargetIsVariable = 10
rule_number rule.FieldIsOfRecord = 11
rule_number rule.FieldIsKnown = 12
rule_number rule.ElementIsOfArray = 13
rule_number rule.IndexIsInteger = 14
rule_number rule.OperandIsInteger = 15
rule_number rule.OperandIsBoolean = 16
rule_number rule.ComparedAreAlike = 17
rule_number rule.AssignedAreAlike = 18
rule_number rule.ConditionIsBoolean = 19
rule_number rule.ArgumentsAreAsMany = 20
rule_number rule.ValueParameterIsScalar = 21
rule_number rule.ArgumentHasItsType = 22
rule_number rule.ArgumentIsVariable = 23
rule_number rule.ConstantIsKnown = 24
