use Rattle.std.proofs.Common.{ℕ, ◌≡◌, ◌∙◌, ◌++◌, List, [], Option, None, Some, refl, ap}
use Rattle.std.proofs.Common.{option_to_list, append_assoc}
use Rattle.std.specs.List.{cons_option}
use Rattle.net_cost.specs.declared.event.Event.{Event}
use Rattle.net_form.specs.declared.net.Extra.{Extra}
use Rattle.pra_base.specs.declared.ids.Place.{Place}
use Rattle.pra_base.specs.declared.ids.Place.TheVariants.{Mem, Const}
use Rattle.pra_base.specs.declared.code.VInstr.{VInstr}
use Rattle.pra_base.specs.declared.code.VProc.{VProc}
use Rattle.net_form.specs.Network.{event_at}
use Rattle.net_form.specs.Tables.{all_tables}
use Rattle.net_build.specs.Extras.{allowed_extra, operand_extras}
use Rattle.net_build.proofs.extras.add_operand.Goals as goal

two : (a b : Option Extra) → option_to_list a ++ option_to_list b ≡ cons_option a (cons_option b [])
two None None = refl
two None (Some y) = refl
two (Some x) None = refl
two (Some x) (Some y) = refl

module _ (code : VProc) (n v l mask : ℕ) (instr : VInstr) (start out new : List Extra) where
  abbrev at : Place → Option Event → Option Extra
  at place event = allowed_extra n l mask place event

  both : (a b : Option Event) → a ≡ event_at all_tables code v instr Mem →
      b ≡ event_at all_tables code v instr Const →
      out ≡ start ++ option_to_list (at Mem a) → new ≡ out ++ option_to_list (at Const b) →
      new ≡ start ++ operand_extras code n v l mask instr
  both a b is_a is_b first second =
      second ∙ ap (λ r. r ++ option_to_list (at Const b)) first
      ∙ append_assoc start (option_to_list (at Mem a)) (option_to_list (at Const b))
      ∙ ap (λ r. start ++ r) (two (at Mem a) (at Const b)
      ∙ (λ i. cons_option (at Mem (is_a i)) (cons_option (at Const (is_b i)) [])))

pub returns : goal.returns
returns c =
    both c.args.code.now c.args.number c.args.var c.args.layer c.args.mask c.args.instr.now
    c.args.out.now _ _ c.event_at-event.result c.event_at-event-2.result c.event_at-event.ensures
    c.event_at-event-2.ensures c.in_ok-add_extra.ensures c.in_ok-add_extra-2.ensures
