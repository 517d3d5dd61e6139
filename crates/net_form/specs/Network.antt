-- The network of selected code (Koes and Goldstein, A Global Progressive Register Allocator, PLDI
-- 2006): a commodity for each strand of a variable, a node for each place at each layer. It is a
-- function of the code, of what is live where, and of which end is the least of its group. The
-- latter two are what relations say of the code, so code has one network.
use Rattle.std.specs.Prelude.{◌≡◌, ℕ, ◌+◌, ◌*◌, Bool, false, not, ◌&&◌, nat_eq, nat_le}
use Rattle.std.specs.Prelude.{if◌then◌else◌, List, [], ◌∷◌, ◌++◌, map, length, filter, count_by}
use Rattle.std.specs.Prelude.{Option, Some, None, ◌||◌}
use Rattle.std.specs.List.{range_with_len, prefix_len, flat_map, filter_map, enumerate_from}
use Rattle.pra_base.specs.declared.ids.Place.{Place}
use Rattle.pra_base.specs.declared.ids.Place.TheVariants.{Mem, Const}
use Rattle.pra_base.specs.declared.code.VInstr.{VInstr}
use Rattle.pra_base.specs.declared.code.End.{End}
use Rattle.pra_base.specs.declared.code.End.TheVariants.{Jump, Branch, Return}
use Rattle.pra_base.specs.declared.code.Block.{Block}
use Rattle.pra_base.specs.declared.code.VProc.{VProc}
use Rattle.pra_base.specs.Code.{kind_of, code_of, end_of}
use Rattle.pra_base.specs.Operands.{Role, Row, reads, only_writes}
use Rattle.pra_base.specs.Places.{number, allows}
use Rattle.pra_base.specs.Valid.{near}
use Rattle.net_cost.specs.declared.event.Event.{Event}
use Rattle.net_form.specs.declared.net.NetBlock.{NetBlock}
use Rattle.net_form.specs.declared.net.Strand.{Strand}
use Rattle.net_form.specs.declared.net.Extra.{Extra}
use Rattle.net_form.specs.declared.net.MemPair.{MemPair}
use Rattle.net_form.specs.declared.net.Tie.{Tie}
use Rattle.net_form.specs.declared.net.Net.{Net}
use Rattle.net_form.specs.Tables.{PlaceTables, all_tables, memory_event, constant_event}
use Rattle.net_form.specs.Strands.{Lives, IsLive, layers_of, exit_layer, is_before, beside, strands}
use Rattle.net_form.specs.Groups.{IsLeastEnd, leads, group_of, entry_end, exit_end}
use Rattle.net_form.specs.Index.{index_of}

-- ---- extras: what a read operand costs before the instruction, and one that is only written
-- after it

abbrev pub plays : Bool → VInstr → ℕ → Bool
plays before i v = if before then reads i v else only_writes i v

abbrev pub priced_places : List Place
priced_places = Mem ∷ Const ∷ []

abbrev pub event_at : PlaceTables → VProc → ℕ → VInstr → Place → Option Event
event_at tables code v i Mem = memory_event (near code.vars code.args) (tables.extras i)
event_at tables code v i Const = constant_event (kind_of code v) (tables.extras i)
event_at tables code v i _ = None

abbrev pub event_beside : PlaceTables → VProc → ℕ → ℕ → Place → Option VInstr → Option Event
event_beside tables code v l place None = None
event_beside tables code v l place (Some i) =
    if plays (is_before l) i v then event_at tables code v i place else None

abbrev pub extra_of : ℕ → ℕ → Place → Option Event → Option Extra
extra_of s l place None = None
extra_of s l place (Some e) = Some (record { strand = s; layer = l; place = place; event = e })

-- an extra stands only where its place is in the mask
abbrev pub extra_at : PlaceTables → VProc → ℕ → Strand → (ℕ × ℕ) → Place → Option Extra
extra_at tables code s t at place =
    if allows at.1 (number place)
    then extra_of s at.0 place
    (event_beside tables code t.var.0 at.0 place (beside code t.block.0 at.0))
    else None

-- by strand, layer, place
abbrev pub extras : PlaceTables → VProc → List Strand → List Extra
extras tables code ss =
    flat_map
    (λ s. flat_map
    (λ at. filter_map (extra_at tables code s.0 s.1 at) priced_places)
    (enumerate_from s.1.first s.1.masks))
    (enumerate_from 0 ss)

-- ---- memory pairs

abbrev pub stands_for : ℕ → ℕ → ℕ → Strand → Bool
stands_for v b l s =
    nat_eq s.var.0 v && nat_eq s.block.0 b && nat_le s.first l && nat_le l s.last

-- the number of the strand of a variable at a layer
abbrev pub strand_of : List Strand → ℕ → ℕ → ℕ → ℕ
strand_of ss v b l = prefix_len (λ s. not (stands_for v b l s)) ss

abbrev pub marked_roles : ℕ → List Role → List (ℕ × ℕ)
marked_roles l roles = map (λ r. (r.var, l)) (filter (λ r. r.memory) roles)

-- the roles of instruction i in the memory pair, with their layers, in the order of the operands
abbrev pub marked : ℕ → Row → List (ℕ × ℕ)
marked i row = marked_roles (2 * i + 1) row.reads ++ marked_roles (2 * i + 2) row.writes

-- a pair where there are two, of two variables
abbrev pub pair_of : List Strand → ℕ → List (ℕ × ℕ) → Option MemPair
pair_of ss b (x ∷ y ∷ more) =
    if nat_eq x.0 y.0 then None
    else Some (record {
      left = strand_of ss x.0 b x.1;
      left_layer = x.1;
      right = strand_of ss y.0 b y.1;
      right_layer = y.1;
    })
pair_of ss b _ = None

-- by block, instruction
abbrev pub pairs : PlaceTables → VProc → List Strand → List MemPair
pairs tables code ss =
    flat_map
    (λ b. filter_map
    (λ i. pair_of ss b (marked i.0 (tables.row i.1))) (enumerate_from 0 (code_of code b)))
    (range_with_len 0 (length code.blocks))

-- ---- ties

abbrev pub leads_to : End → ℕ → Bool
leads_to (Jump b) t = nat_eq b.0 t
leads_to (Branch condition one other) t = nat_eq one.0 t || nat_eq other.0 t
leads_to Return t = false

-- strand s reaches its block's exit, and t is the same variable's at the entry of a block that
-- follows
abbrev pub is_joined : VProc → Strand → Strand → Bool
is_joined code s t =
    nat_eq s.last (exit_layer code s.block.0) && nat_eq t.first 0 && nat_eq s.var.0 t.var.0 &&
    leads_to (end_of code s.block.0) t.block.0

abbrev pub ties_from : VProc → List Strand → (ℕ × Strand) → List Tie
ties_from code ss s =
    filter_map
    (λ t. if is_joined code s.1 t.1 then Some (record { from = s.0; to = t.0 }) else None)
    (enumerate_from 0 ss)

-- by from-strand, then to-strand
abbrev pub ties : VProc → List Strand → List Tie
ties code ss = flat_map (ties_from code ss) (enumerate_from 0 ss)

-- ---- the network

abbrev pub grouped : List Tie → (ℕ → ℕ) → (ℕ × Strand) → Strand
grouped ts least s = record s.1 {
  entry_group = group_of ts least (entry_end s.0);
  exit_group = group_of ts least (exit_end s.0);
}

abbrev pub net_block : Block → NetBlock
net_block b = record { depth = b.depth; layers = layers_of b }

abbrev pub net_of : PlaceTables → VProc → Lives → (ℕ → ℕ) → Net
net_of tables code live least =
    let ss = strands tables code live in
    let ts = ties code ss in
    let blocks = map net_block code.blocks in
    let found = map (grouped ts least) (enumerate_from 0 ss) in
    let es = extras tables code ss in
    let ps = pairs tables code ss in
    let groups = count_by (leads ts least) (range_with_len 0 (2 * length ss)) in record {
      near = near code.vars code.args;
      blocks = blocks;
      strands = found;
      extras = es;
      pairs = ps;
      ties = ts;
      groups = groups;
      index = index_of blocks found es ps ts groups;
    }

pub record IsNetBy (tables : PlaceTables) (code : VProc) (net : Net) : Type 0 where
  pub live : Lives
  pub is_live : IsLive code live
  pub least : ℕ → ℕ
  pub are_least : (e : ℕ) → IsLeastEnd (ties code (strands tables code live)) e (least e)
  pub is : net ≡ net_of tables code live least

-- the network of this code
abbrev pub IsNet : Net → VProc → Type 0
IsNet net code = IsNetBy all_tables code net
