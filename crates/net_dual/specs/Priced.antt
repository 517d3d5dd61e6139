-- What prices make of the cost of an edge: the constraints that strands share (a register at a
-- layer holds one of them, an instruction has one memory operand, places agree where blocks meet)
-- are relaxed, and whoever uses what they are about pays for it instead (Koes and Goldstein, A
-- Global Progressive Register Allocator, PLDI 2006, section 3, the Lagrangian relaxation).
use Rattle.std.specs.Prelude.{◌≡◌, ℕ, ◌+◌, ◌-◌, ◌*◌, ◌^◌, ◌≤◌, Bool}
use Rattle.std.specs.Prelude.{if◌then◌else◌, ℤ, pos, ◌+ℤ◌, ◌-ℤ◌, ◌≤ℤ◌, List, [], ◌∷◌, length, All}
use Rattle.std.specs.Prelude.{slice_index, slice_index_or, Option, Some, None}
use Rattle.std.specs.List.{enumerate_from}
use Rattle.pra_base.specs.declared.ids.Place.{Place}
use Rattle.pra_base.specs.declared.ids.Place.TheVariants.{Const}
use Rattle.pra_base.specs.Places.{number, has_register, is_both, register_count}
use Rattle.net_cost.specs.declared.weights.Weights.{Weights}
use Rattle.net_form.specs.declared.net.Tie.{Tie}
use Rattle.net_form.specs.declared.net.Net.{Net}
use Rattle.net_form.specs.declared.prices.Prices.{Prices}
use Rattle.net_form.specs.Flow.{Edge, is_at}
use Rattle.net_form.specs.Admitted.{strand_at, uses_memory}
use Rattle.net_form.specs.Rooms.{layer_total, tie_numbers}
use Rattle.net_form.specs.Tables.{all_tables}
use Rattle.net_form.specs.Bundles.{bundle_of}
use Rattle.net_form.specs.Cost.{edge_cost}

-- ---- signed sums

abbrev pub total : {X : Type 0} → (X → ℤ) → List X → ℤ
total f [] = pos 0
total f (x ∷ xs) = f x +ℤ total f xs

-- z where the test holds, else nothing
abbrev pub pay : Bool → ℤ → ℤ
pay b z = if b then z else pos 0

-- ---- prices

-- how many units of a price a unit of cost is
abbrev pub price_unit : ℕ
price_unit = 1024

abbrev pub most_price : ℕ
most_price = 2 ^ 40

-- A list entry for each register at each layer, for each memory pair, and for each place that ties
-- have a number for at each tie. Caps and mems are at least 0; ties are of either sign.
pub record AreInRange (net : Net) (prices : Prices) : Type 0 where
  pub caps : length prices.caps ≡ register_count * layer_total net.blocks
  pub mems : length prices.mems ≡ length net.pairs
  pub ties : length prices.ties ≡ tie_numbers * length net.ties
  pub most_cap : All (λ c. c ≤ most_price) prices.caps
  pub most_mem : All (λ m. m ≤ most_price) prices.mems
  pub most_tie : All (λ z. z ≤ℤ pos most_price) prices.ties
  pub least_tie : All (λ z. (pos 0 -ℤ pos most_price) ≤ℤ z) prices.ties

-- the cap price of a bundle: of register r at layer n it is number 6 * n + r
abbrev pub cap_price : Prices → ℕ → ℕ
cap_price prices k = slice_index prices.caps k

abbrev pub mem_price : Prices → ℕ → ℕ
mem_price prices m = slice_index prices.mems m

-- ties number the registers and memory 0 to 6, the both places 7 to 12; a constant has no number
abbrev pub tie_slot : Place → Option ℕ
tie_slot Const = None
tie_slot p = Some (if is_both (number p) then number p - 1 else number p)

-- of a list that has thirteen numbers for each tie or strand, that of row i at such a number; a
-- constant has none
abbrev pub number_at_slot : List ℤ → ℕ → Option ℕ → ℤ
number_at_slot numbers i None = pos 0
number_at_slot numbers i (Some j) = slice_index_or numbers (tie_numbers * i + j) (pos 0)

-- the number that tie i has for a place
abbrev pub tie_price : Prices → ℕ → Place → ℤ
tie_price prices i p = number_at_slot prices.ties i (tie_slot p)

-- ---- what an edge pays

-- it comes to a register, alone or in its both place
abbrev pub in_any_register : Edge → Bool
in_any_register e = has_register (number e.to)

-- it comes to the exit at which the tie begins, or to the entry to which it leads
abbrev pub exits : Net → Tie → Edge → Bool
exits net t e = is_at t.from (strand_at net t.from).last e

abbrev pub enters : Net → Tie → Edge → Bool
enters net t e = is_at t.to (strand_at net t.to).first e

-- the price of the register that it comes to
abbrev pub cap_part : Net → Prices → Edge → ℤ
cap_part net prices e = pay (in_any_register e) (pos (cap_price prices (bundle_of net e)))

-- the prices of the memory pairs of which it brings an end to memory
abbrev pub mem_part : Net → Prices → Edge → ℤ
mem_part net prices e =
    total (λ m. pay (uses_memory m.1 e) (pos (mem_price prices m.0))) (enumerate_from 0 net.pairs)

-- the numbers of its place at an exit and at an entry
abbrev pub exit_part : Net → Prices → Edge → ℤ
exit_part net prices e =
    total (λ t. pay (exits net t.1 e) (tie_price prices t.0 e.to)) (enumerate_from 0 net.ties)

abbrev pub entry_part : Net → Prices → Edge → ℤ
entry_part net prices e =
    total (λ t. pay (enters net t.1 e) (tie_price prices t.0 e.to)) (enumerate_from 0 net.ties)

-- the priced cost of an edge, where edges cost so much
abbrev pub priced : Net → (Edge → ℕ) → Prices → Edge → ℤ
priced net cost prices e =
    (pos (price_unit * cost e) +ℤ (cap_part net prices e +ℤ mem_part net prices e)) +ℤ
    (exit_part net prices e -ℤ entry_part net prices e)

-- and where they cost what the weights say
abbrev pub cost_by_weights : Net → Weights → Edge → ℕ
cost_by_weights net w = edge_cost all_tables net w

abbrev pub edge_price : Net → Weights → Prices → Edge → ℤ
edge_price net w prices = priced net (cost_by_weights net w) prices
