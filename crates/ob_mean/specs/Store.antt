-- Stores: what is assigned to the variables of a module and of the calls that are live. A location
-- is an object, or a part of one by a path of fields and elements. It has no address, and a value
-- no words.
use Rattle.std.specs.Prelude.{ℕ, Bool, false, not, nat_eq, List, [], ◌∷◌, ◌++◌, unwrap_or}
use Rattle.std.specs.Ordering.{nat_cmp, on}
use Rattle.std.specs.Cmp.Lexicographic.{slice_cmp}
use Rattle.std.specs.declared.cmp.Ordering.{Ordering}
use Rattle.std.specs.FinMap as map
use Rattle.ob_syntax.specs.declared.checked.Value.{Value}
use Rattle.ob_mean.specs.declared.store.Object.{Object}
use Rattle.ob_mean.specs.declared.store.Object.TheVariants.{Module, Param, Local}
use Rattle.ob_mean.specs.declared.store.Location.{Location}

-- an object as a whole
abbrev pub whole : Object → Location
whole object = record { object = object; path = [] }

-- the field or element of this number
abbrev pub part : Location → ℕ → Location
part l n = record { object = l.object; path = l.path ++ n ∷ [] }

-- further on by a path
abbrev pub within : Location → List ℕ → Location
within l path = record { object = l.object; path = l.path ++ path }

-- ---- locations in an order, in which a store keeps them

abbrev pub key_in : Object → List ℕ → List ℕ
key_in (Module n) path = 0 ∷ n ∷ path
key_in (Param depth n) path = 1 ∷ depth ∷ n ∷ path
key_in (Local depth n) path = 2 ∷ depth ∷ n ∷ path

-- the numbers that a location is given by
abbrev pub key : Location → List ℕ
key l = key_in l.object l.path

abbrev pub location_cmp : Location → Location → Ordering
location_cmp = on key (slice_cmp nat_cmp)

-- ---- stores

-- A store: the values that were assigned, by location.
abbrev pub Store : Type 0
Store = map.FinMap location_cmp Value

-- nothing is assigned yet
abbrev pub new_store : Store
new_store = map.empty

-- what is at a location, where start is what it holds until something is assigned to it
abbrev pub read : Store → Value → Location → Value
read s start l = unwrap_or (map.get s l) start

-- l := x
abbrev pub assigned : Store → Location → Value → Store
assigned s l x = map.insert s l x

-- ---- the variables of a call

abbrev pub is_at_depth : ℕ → Object → Bool
is_at_depth depth (Module n) = false
is_at_depth depth (Param d n) = nat_eq d depth
is_at_depth depth (Local d n) = nat_eq d depth

-- nothing is assigned to the parameters and locals of the call at this depth
abbrev pub begun : Store → ℕ → Store
begun s depth = map.retain_keys s (λ l. not (is_at_depth depth l.object))
