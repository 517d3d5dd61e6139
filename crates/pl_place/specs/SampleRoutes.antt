-- The placed code of `v := 3; v := v + k; Write v`, where k is the constant 4, under two routes:
-- with v in EAX throughout, and with v in memory until it is written out, where it comes into EAX
-- too.
use Rattle.std.specs.Prelude.{pos, true, List, [], ◌∷◌}
use Rattle.pra_base.specs.declared.ids.Place.{Place}
use Rattle.pra_base.specs.declared.ids.Place.TheVariants.{Eax, Mem, Const, EaxM}
use Rattle.pra_base.specs.declared.ids.VarId.{VarId}
use Rattle.pra_base.specs.declared.code.VInstr.TheVariants.{Set, Add, Write}
use Rattle.pra_base.specs.declared.code.End.TheVariants.{Return}
use Rattle.net_form.specs.declared.routes.Routes.{Routes}
use Rattle.net_form.specs.Examples.{set_add_write, set_add_write_net}
use Rattle.net_form.specs.Flow.{flow}
use Rattle.pl_moves.specs.declared.transfer.Move.TheVariants.{Load}
use Rattle.pl_place.specs.declared.placed.LInstr.{LInstr}
use Rattle.pl_place.specs.declared.placed.LInstr.TheVariants.{Move}
use Rattle.pl_place.specs.declared.placed.LProc.{LProc}
use Rattle.pl_place.specs.Behind.{Routed}
use Rattle.pl_place.specs.Sample.{v0, v1, op}

abbrev pub both_places_routes : Routes
both_places_routes = record { places = (Mem ∷ Mem ∷ Mem ∷ EaxM ∷ []) ∷ (Const ∷ []) ∷ [] }

abbrev pub routed : Routes → Routed
routed routes = record {
  code = set_add_write;
  net = set_add_write_net;
  flow = flow set_add_write_net routes;
}

-- v at one place until it is written out, and in EAX then; and the moves before that
abbrev pub placed_at : Place → List LInstr → List VarId → LProc
placed_at place moves slots = record {
  id = record { 0 = 0 };
  args = 0;
  aggregates = 0;
  vars = set_add_write.vars;
  slots = slots;
  near = true;
  blocks = record {
    code =
        op (Set v0 (pos 3)) (place ∷ [])
        ∷ op (Add v0 v1) (place ∷ Const ∷ place ∷ [])
        ∷ moves;
    end = Return;
  } ∷ [];
}

abbrev pub in_register : LProc
in_register = placed_at Eax (op (Write v0) (Eax ∷ []) ∷ []) []

abbrev pub in_memory : LProc
in_memory = placed_at Mem (Move (Load Eax v0) ∷ op (Write v0) (EaxM ∷ []) ∷ []) (v0 ∷ [])
