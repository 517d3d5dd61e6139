-- A flow in two parts: the paths of some strands, and those of all others.
use Rattle.std.specs.Prelude.{◌≡◌, ℕ, ◌+◌, Bool, false, not, nat_eq, List, filter, slice_set}
use Rattle.pra_base.specs.declared.ids.Place.{Place}
use Rattle.net_form.specs.declared.net.Net.{Net}
use Rattle.net_form.specs.declared.routes.Routes.{Routes}
use Rattle.net_form.specs.Flow.{Edge, flow}
use Rattle.net_form.specs.Admitted.{strand_at}
use Rattle.net_form.specs.InUse.{AreApart}
use Rattle.net_form.specs.Index.{first_layer}
use Rattle.net_dual.specs.Paths.{Clear, path_in}

-- layer l of the strand's block, where the layers of all blocks are counted together
abbrev pub layer_at : Net → ℕ → ℕ → ℕ
layer_at net s l = first_layer net.blocks (strand_at net s).block.0 + l

-- the edges of the strands of which the test holds, and of the others
abbrev pub part : Net → (ℕ → Bool) → Routes → List Edge
part net mine routes = filter (λ e. mine e.strand) (flow net routes)

abbrev pub rest : Net → (ℕ → Bool) → Routes → List Edge
rest net mine routes = part net (λ s. not (mine s)) routes

-- the one strand, and the strands of variable v
abbrev pub only_strand : ℕ → ℕ → Bool
only_strand s r = nat_eq r s

abbrev pub of_variable : Net → ℕ → ℕ → Bool
of_variable net v s = nat_eq (strand_at net s).var.0 v

-- what a path does that uses nothing of a flow
abbrev pub ClearOf : Net → List Edge → Clear
ClearOf net g = λ f. AreApart net f g

-- the strand takes another path
abbrev pub with_path : Routes → ℕ → List Place → Routes
with_path routes s ps = record { places = slice_set routes.places s ps }

-- all others go the same way in both
abbrev pub AgreeBut : (ℕ → Bool) → Routes → Routes → Type 0
AgreeBut mine one two = (s : ℕ) → mine s ≡ false → path_in one s ≡ path_in two s
