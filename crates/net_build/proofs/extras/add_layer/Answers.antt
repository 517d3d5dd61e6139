use Rattle.std.proofs.Common.{ℕ, ◌≡◌, ◌∙◌, ◌++◌, List, [], Option, None, Some, Bool, true, false}
use Rattle.std.proofs.Common.{cond, refl, sym, ap, append-nil}
use Rattle.std.specs.List.{cons_option}
use Rattle.pra_base.specs.declared.ids.Place.{Place}
use Rattle.pra_base.specs.declared.ids.Place.TheVariants.{Mem, Const}
use Rattle.pra_base.specs.declared.code.VInstr.{VInstr}
use Rattle.pra_base.specs.declared.code.VProc.{VProc}
use Rattle.pra_base.specs.Places.{number, allows}
use Rattle.net_cost.specs.declared.event.Event.{Event}
use Rattle.net_form.specs.declared.net.Extra.{Extra}
use Rattle.net_form.specs.declared.net.Strand.{Strand}
use Rattle.net_form.specs.Network.{event_at, event_beside, plays}
use Rattle.net_form.specs.Strands.{beside, is_before}
use Rattle.net_form.specs.Tables.{all_tables}
use Rattle.net_build.specs.Extras.{allowed_extra, layer_extras, operand_extras}
use Rattle.net_build.proofs.extras.add_layer.Goals as goal

module _ (code : VProc) (n : ℕ) (t : Strand) (l mask : ℕ) where
  abbrev at : (Place → Option Event) → List Extra
  at event = cons_option (allowed_extra n l mask Mem (event Mem))
      (cons_option (allowed_extra n l mask Const (event Const)) [])

  abbrev none : Option Extra
  none = None

  nothing : (b : Bool) → cond b none none ≡ none
  nothing true = refl
  nothing false = refl

  no_event : at (λ p. None) ≡ []
  no_event = (λ i. cons_option (nothing (allows mask (number Mem)) i)
      (cons_option (nothing (allows mask (number Const)) i) []))

  none_beside : None ≡ beside code t.block.0 l → layer_extras code n t (l, mask) ≡ []
  none_beside is =
      sym (ap (λ (o : Option VInstr). at (λ p. event_beside all_tables code t.var.0 l p o)) is)
      ∙ no_event

  not_played : (i : VInstr) → Some i ≡ beside code t.block.0 l →
      plays (is_before l) i t.var.0 ≡ false → layer_extras code n t (l, mask) ≡ []
  not_played i is no_role =
      sym (ap (λ (o : Option VInstr). at (λ p. event_beside all_tables code t.var.0 l p o)) is)
      ∙ ap (λ (b : Bool). at (λ p. cond b (event_at all_tables code t.var.0 i p) None)) no_role
      ∙ no_event

  played : (i : VInstr) → Some i ≡ beside code t.block.0 l →
      plays (is_before l) i t.var.0 ≡ true →
      layer_extras code n t (l, mask) ≡ operand_extras code n t.var.0 l mask i
  played i is role =
      sym (ap (λ (o : Option VInstr). at (λ p. event_beside all_tables code t.var.0 l p o)) is)
      ∙ ap (λ (b : Bool). at (λ p. cond b (event_at all_tables code t.var.0 i p) None)) role

pub returns-in_default : goal.returns-in_default
returns-in_default c =
    sym (ap (λ (l : List Extra). c.args.out.now ++ l) (none_beside c.args.code.now c.args.number
    c.args.strand.now c.args.layer c.args.mask c.in_default.ensures) ∙ append-nil c.args.out.now)

pub returns-then-not-plays : goal.returns-then-not-plays
returns-then-not-plays c =
    sym (ap (λ (l : List Extra). c.args.out.now ++ l) (not_played c.args.code.now c.args.number
    c.args.strand.now c.args.layer c.args.mask c.in-Some.instr.now c.in-Some.ensures
    (sym c.plays.ensures ∙ c.if-not-plays.true)) ∙ append-nil c.args.out.now)

pub returns : goal.returns
returns c =
    c.in_ok-add_operand.ensures
    ∙ sym (ap (λ (l : List Extra). c.args.out.now ++ l) (played c.args.code.now c.args.number
    c.args.strand.now c.args.layer c.args.mask c.in-Some.instr.now c.in-Some.ensures
    (sym c.plays.ensures ∙ c.if-not-plays.false)))
