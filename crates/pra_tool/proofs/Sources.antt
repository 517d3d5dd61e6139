-- What a source is read as can be compiled, and its totals can be told. What is built of the code of
-- a module does what the module means.
use Rattle.std.proofs.Common.{◌≡◌, ◌≤◌, ℕ, List, length, inl, inr, refl, sym, subst, leb-true}
use Rattle.std.proofs.Common.{Bool, arith}
use Rattle.std.specs.Prelude.{nat_le}
use Rattle.std.proofs.lemmas.List.Sums.{AllPass-from_list_all}
use Rattle.net_cost.specs.Weights.{IsValid, size_weights, speed_weights}
use Rattle.pra_words.specs.declared.words.CostWord.{CostWord}
use Rattle.pra_words.specs.declared.words.CostWord.TheVariants.{Size, Speed}
use Rattle.pra_words.specs.declared.words.FileKind.{FileKind}
use Rattle.pra_words.specs.declared.words.FileKind.TheVariants as a_file
use Rattle.cert_form.specs.declared.codes.CodeFile.{CodeFile}
use Rattle.ob_check.specs.Checking.{IsChecked}
use Rattle.ob_read.specs.Source.{ReadText, IsRead}
use Rattle.ob_syntax.specs.Source.{IsParsed}
use Rattle.ob_syntax.specs.declared.checked.Checked.{Checked}
use Rattle.ob_syntax.specs.declared.token.Token.{Token}
use Rattle.ob_syntax.specs.declared.tree.Module.{Module}
use Rattle.pra_compile.specs.Compiled.{IsRunnable, IsBuilt, IsBuiltBy, IsCompiled, IsCompiledBy}
use Rattle.pra_compile.specs.Compiled.{IsTooLong, granted}
use Rattle.pra_compile.specs.Leaving.{Leaving}
use Rattle.pra_compile.specs.declared.output.Compiled.{Compiled}
use Rattle.pra_compile.proofs.Built.{module_runs, module_built, never_too_long}
use Rattle.pra_compile.proofs.Totals.{have_totals}
use Rattle.pra_report.specs.Report.{HaveTotals}
use Rattle.pra_words.specs.Words.{Asked}
use Rattle.pra_tool.specs.declared.compiler.Made.{Made}
use Rattle.pra_tool.specs.declared.source.Sourced.{Sourced}
use Rattle.pra_tool.specs.Compiling.{MadeOf, wanted_by, weights_by}
use Rattle.pra_tool.specs.Sources.{IsModuleOf, IsModuleSource, IsSourced, IsSource}
use Rattle.vc_checked.proofs.Short.{module_short}
use Rattle.vc_checked.specs.Short.{IsShort}
use Rattle.vc_typed.proofs.BodyNodes.{module_nodes}
use Rattle.vc_typed.proofs.Selectable.{module_selectable}
use Rattle.vc_typed.specs.Nodes.{HaveTheirNodes}
use Rattle.vc_typed.specs.TypedModules.{IsSelectable}

-- both lists of weights are valid
abbrev fits : ℕ → Bool
fits x = nat_le x 65535

valid_weights : (word : CostWord) → IsValid (weights_by word)
valid_weights Size = record {
  entries = λ k d lt. leb-true _ 65535 (AllPass-from_list_all fits size_weights.list refl k d lt);
  factor = inl refl;
}
valid_weights Speed = record {
  entries = λ k d lt. leb-true _ 65535 (AllPass-from_list_all fits speed_weights.list refl k d lt);
  factor = inr refl;
}

pub totals_of : (asked : Asked) (file : CodeFile) (compiled : Compiled) →
    IsBuilt file (wanted_by asked) compiled → HaveTotals compiled.procs
totals_of asked file compiled built =
    have_totals file (wanted_by asked) compiled built (valid_weights asked.cost)

-- ---- modules

module _ (bytes : List ℕ) (tokens : List Token) (tree : Module) (program : Checked)
    (parsed : IsParsed bytes tokens tree) (is : IsChecked bytes tokens tree program) where
  selectable : IsSelectable program
  selectable = subst IsSelectable (sym is.checked_is)
      (module_selectable bytes tokens tree is.reading is.well_formed is.within)

  nodes : HaveTheirNodes program
  nodes = subst HaveTheirNodes (sym is.checked_is)
      (module_nodes bytes tokens tree is.reading parsed is.well_formed)

  short : IsShort program
  short = subst IsShort (sym is.checked_is)
      (module_short bytes tokens tree is.reading parsed is.well_formed)

-- a module that is read of a source is fit for selection
module _ (source : List ℕ) (program : Checked) (is : IsModuleOf source program) where
  pub selectable_of : IsSelectable program
  selectable_of = subst IsSelectable (sym is.is)
      (selectable source _ _ is.text.checked is.read.1 is.read.2)

  pub nodes_of : HaveTheirNodes program
  nodes_of = subst HaveTheirNodes (sym is.is)
      (nodes source _ _ is.text.checked is.read.1 is.read.2)

  pub short_of : IsShort program
  short_of = subst IsShort (sym is.is) (short source _ _ is.text.checked is.read.1 is.read.2)

module _ (source : List ℕ) (sourced : Sourced) (is : IsModuleSource source sourced) where
  of : IsModuleOf source is.text.checked
  of = record { text = is.text; read = is.read; is = refl }

  module_runnable : IsRunnable sourced.file
  module_runnable = module_runs is.text.checked sourced.file is.code
      (selectable_of source is.text.checked of)

  pub meant_by : (leaves : Leaving) (compiled : Compiled) →
      IsBuiltBy sourced.file leaves compiled → IsCompiledBy is.text.checked leaves compiled
  meant_by leaves compiled built =
      module_built is.text.checked sourced.file is.code (selectable_of source is.text.checked of)
      leaves compiled built

  pub never_over : (leaves : Leaving) (count : ℕ) → IsTooLong sourced.file leaves count → ⊥
  never_over leaves count long =
      never_too_long is.text.checked sourced.file is.code
      (selectable_of source is.text.checked of) (short_of source is.text.checked of) leaves count
      long

-- what was made of a module does what that means
pub compiled_of : (asked : Asked) (source : List ℕ) (made : Made)
    (is : MadeOf a_file.Module asked source made) →
    IsCompiled is.is.text.checked (wanted_by asked) made.compiled
compiled_of asked source made is =
    meant_by source is.sourced is.is (granted (wanted_by asked)) made.compiled is.built

-- ---- whatever FILE is

pub runnable_of : (kind : FileKind) (source : List ℕ) (sourced : Sourced) →
    IsSourced kind source sourced → IsRunnable sourced.file
runnable_of a_file.Module source sourced is = module_runnable source sourced is
runnable_of a_file.Code source sourced is = is.text.runnable

pub right_of : (kind : FileKind) (source : List ℕ) (sourced : Sourced) →
    IsSourced kind source sourced → IsSource kind source
right_of a_file.Module source sourced is = (is.text, is.read)
right_of a_file.Code source sourced is = (sourced.file, is.text)
