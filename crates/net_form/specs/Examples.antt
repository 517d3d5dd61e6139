-- Two small codes, what is live in them, and their networks written out.
use Rattle.std.specs.Prelude.{ℕ, pos, true, false, ◌&&◌, ◌||◌, nat_eq, nat_le, List, [], ◌∷◌, None}
use Rattle.pra_base.specs.declared.ids.Place.TheVariants.{Eax, Mem, Const}
use Rattle.pra_base.specs.declared.code.VarKind.{VarKind}
use Rattle.pra_base.specs.declared.code.VarKind.TheVariants.{Plain, Constant}
use Rattle.pra_base.specs.declared.code.VInstr.{VInstr}
use Rattle.pra_base.specs.declared.code.VInstr.TheVariants.{Set, Add, Write, Line}
use Rattle.pra_base.specs.declared.code.End.TheVariants.{Return}
use Rattle.pra_base.specs.declared.code.VProc.{VProc}
use Rattle.net_cost.specs.declared.event.Event.TheVariants.{E6, E8, E10}
use Rattle.net_form.specs.declared.net.Net.{Net}
use Rattle.net_form.specs.declared.routes.Routes.{Routes}
use Rattle.net_cost.specs.declared.weights.Weights.{Weights}
use Rattle.net_form.specs.Cost.{cost_in}
use Rattle.net_form.specs.Strands.{Lives}

-- a procedure of one block that ends with Return
abbrev pub one_block : List VarKind → List VInstr → VProc
one_block vars code = record {
  id = record { 0 = 0 };
  args = 0;
  aggregates = 0;
  vars = vars;
  blocks = record { depth = 0; code = code; end = Return } ∷ [];
}

-- ---- Write k; Line, where k is 7

abbrev pub write_constant : VProc
write_constant = one_block (Constant (pos 7) ∷ []) (Write (record { 0 = 0 }) ∷ Line ∷ [])

abbrev pub write_constant_live : Lives
write_constant_live v b l = nat_eq v 0 && nat_eq b 0 && nat_eq l 1

-- one strand of one layer, at EAX
abbrev pub write_constant_net : Net
write_constant_net = record {
  near = true;
  blocks = record { depth = 0; layers = 6 } ∷ [];
  strands =
      record {
        var = record { 0 = 0 };
        block = record { 0 = 0 };
        first = 1;
        last = 1;
        constant = true;
        masks = 1 ∷ [];
        entry_group = None;
        exit_group = None;
      } ∷ [];
  extras = [];
  pairs = [];
  ties = [];
  groups = 0;
  index = record {
    layers = 0 ∷ 6 ∷ [];
    strands = 0 ∷ 1 ∷ [];
    vars = 0 ∷ 1 ∷ [];
    of_vars = 0 ∷ [];
    extras = 0 ∷ 0 ∷ [];
    pairs = 0 ∷ 0 ∷ [];
    ends = [];
    exits = 0 ∷ 0 ∷ [];
    entries = 0 ∷ 0 ∷ [];
    arrivals = [];
    groups = 0 ∷ [];
    members = [];
  };
}

-- ---- Set v, 3; Add v, k; Write v, where k is 4

abbrev pub set_add_write : VProc
set_add_write =
    one_block (Plain ∷ Constant (pos 4) ∷ [])
    (Set (record { 0 = 0 }) (pos 3) ∷ Add (record { 0 = 0 }) (record { 0 = 1 }) ∷
    Write (record { 0 = 0 }) ∷ [])

abbrev pub set_add_write_live : Lives
set_add_write_live v b l =
    nat_eq b 0 && ((nat_eq v 0 && nat_le 2 l && nat_le l 5) || (nat_eq v 1 && nat_eq l 3))

-- v in a register or memory, then in EAX, with memory or without; k in a register or as an
-- immediate
abbrev pub set_add_write_net : Net
set_add_write_net = record {
  near = true;
  blocks = record { depth = 0; layers = 8 } ∷ [];
  strands =
      record {
        var = record { 0 = 0 };
        block = record { 0 = 0 };
        first = 2;
        last = 5;
        constant = false;
        masks = 127 ∷ 127 ∷ 127 ∷ 257 ∷ [];
        entry_group = None;
        exit_group = None;
      }
      ∷ record {
        var = record { 0 = 1 };
        block = record { 0 = 0 };
        first = 3;
        last = 3;
        constant = true;
        masks = 191 ∷ [];
        entry_group = None;
        exit_group = None;
      } ∷ [];
  extras =
      record { strand = 0; layer = 2; place = Mem; event = E8 }
      ∷ record { strand = 0; layer = 3; place = Mem; event = E6 }
      ∷ record { strand = 1; layer = 3; place = Const; event = E10 } ∷ [];
  pairs = record { left = 0; left_layer = 3; right = 1; right_layer = 3 } ∷ [];
  ties = [];
  groups = 0;
  index = record {
    layers = 0 ∷ 8 ∷ [];
    strands = 0 ∷ 2 ∷ [];
    vars = 0 ∷ 1 ∷ 2 ∷ [];
    of_vars = 0 ∷ 1 ∷ [];
    extras = 0 ∷ 2 ∷ 3 ∷ [];
    pairs = 0 ∷ 1 ∷ 2 ∷ [];
    ends = record { layer = 3; pair = 0 } ∷ record { layer = 3; pair = 0 } ∷ [];
    exits = 0 ∷ 0 ∷ 0 ∷ [];
    entries = 0 ∷ 0 ∷ 0 ∷ [];
    arrivals = [];
    groups = 0 ∷ [];
    members = [];
  };
}

-- v in EAX and k as an immediate, and v in memory for as long as it may be
abbrev pub in_register_routes : Routes
in_register_routes = record { places = (Eax ∷ Eax ∷ Eax ∷ Eax ∷ []) ∷ (Const ∷ []) ∷ [] }

abbrev pub in_memory_routes : Routes
in_memory_routes = record { places = (Mem ∷ Mem ∷ Mem ∷ Eax ∷ []) ∷ (Const ∷ []) ∷ [] }

-- what routes cost in it
abbrev pub set_add_write_cost : Weights → Routes → ℕ
set_add_write_cost weights routes = cost_in set_add_write_net weights routes
