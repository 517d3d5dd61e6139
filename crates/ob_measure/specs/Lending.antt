-- What a procedure lends, as marks on its parameters and locals.
use Rattle.std.specs.Prelude.{◌≡◌, ℕ, ◌<◌, Bool, false, List, length, slice_index_or}
use Rattle.std.specs.List.{list_any}
use Rattle.ob_syntax.specs.declared.checked.Draft.{Draft}
use Rattle.ob_syntax.specs.declared.checked.Root.{Root}
use Rattle.ob_syntax.specs.declared.checked.Root.TheVariants.{Param, Local}
use Rattle.ob_syntax.specs.WellFormed.{lent_in_body, same_root}
use Rattle.ob_measure.specs.declared.lent.Lent.{Lent}

-- mark k tells whether variable k is among these
abbrev pub AreMarks : (ℕ → Root) → List Root → List Bool → Type 0
AreMarks variable roots marks =
    (k : ℕ) → k < length marks →
    slice_index_or marks k false ≡ list_any (same_root (variable k)) roots

-- the marks tell what the procedure lends
pub record AreLent (lent : Lent) (d : Draft) : Type 0 where
  pub all_params : length lent.params.items ≡ length d.params
  pub all_locals : length lent.locals.items ≡ length d.vars
  pub params : AreMarks Param (lent_in_body d) lent.params.items
  pub locals : AreMarks Local (lent_in_body d) lent.locals.items
