-- The store that is kept in maps.
use Rattle.std.specs.Prelude.{ℕ, suc, List, [], ◌∷◌, ◌++◌, map, Vec}
use Rattle.std.specs.declared.alloc.Global.{Global}
use Rattle.std.specs.Prelude.{Option, None, Some, Bool, true, false, slice_get}
use Rattle.std.specs.declared.cmp.Ordering.{Ordering}
use Rattle.std.specs.Ordering.{is_eq, nat_cmp, ordering_then}
use Rattle.std.specs.Cmp.Lexicographic.{slice_cmp}
use Rattle.std.specs.Map.{lookup}
use Rattle.std.specs.FinMap as finite
use Rattle.ob_syntax.specs.declared.checked.Value.{Value}
use Rattle.ob_mean.specs.declared.store.Object.{Object}
use Rattle.ob_mean.specs.declared.store.Object.TheVariants.{Module, Param, Local}
use Rattle.ob_mean.specs.declared.store.Location.{Location}
use Rattle.ob_mean.specs.Store.{Store}
use Rattle.ob_interp.specs.declared.memory.Layer.{Layer}
use Rattle.ob_interp.specs.declared.memory.Memory.{Memory}

-- ---- parts, by number and path

abbrev pub Part : Type 0
Part = ℕ × Vec ℕ Global

abbrev pub part_cmp : Part → Part → Ordering
part_cmp a b = ordering_then (nat_cmp a.0 b.0) (slice_cmp nat_cmp a.1.items b.1.items)

-- what a part holds, if something was assigned to it
abbrev pub held : List (Part × Value) → ℕ → List ℕ → Option Value
held entries n path =
    lookup (λ k. is_eq (ordering_then (nat_cmp n k.0) (slice_cmp nat_cmp path k.1.items))) entries

abbrev pub is_part : ℕ → List ℕ → ℕ → List ℕ → Bool
is_part n path m other = is_eq (ordering_then (nat_cmp n m) (slice_cmp nat_cmp path other))

-- ---- stores

-- a part of the object of this number
abbrev pub entry_at : (ℕ → Object) → (Part × Value) → Location × Value
entry_at object e = (record { object = object e.0.0; path = e.0.1.items }, e.1)

abbrev pub of_layer : ℕ → Layer → List (Location × Value)
of_layer depth layer =
    map (entry_at (Param depth)) layer.params.entries ++
    map (entry_at (Local depth)) layer.locals.entries

abbrev pub of_layers : ℕ → List Layer → List (Location × Value)
of_layers depth [] = []
of_layers depth (layer ∷ layers) = of_layer depth layer ++ of_layers (suc depth) layers

abbrev pub all_assigned : Memory → List (Location × Value)
all_assigned memory =
    map (entry_at Module) memory.module.entries ++ of_layers 0 memory.layers.items

abbrev pub store_in : Memory → Store
store_in memory = finite.from_entries (all_assigned memory)

-- ---- what a location holds in it

abbrev pub parts_of : Bool → Layer → List (Part × Value)
parts_of false layer = layer.params.entries
parts_of true layer = layer.locals.entries

-- of the layer at a depth, if there is one
abbrev pub held_by : Bool → Option Layer → ℕ → List ℕ → Option Value
held_by local None n path = None
held_by local (Some layer) n path = held (parts_of local layer) n path

abbrev pub kept_at : Memory → Object → List ℕ → Option Value
kept_at memory (Module n) path = held memory.module.entries n path
kept_at memory (Param depth n) path = held_by false (slice_get memory.layers.items depth) n path
kept_at memory (Local depth n) path = held_by true (slice_get memory.layers.items depth) n path
