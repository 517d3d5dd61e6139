-- Rounds that went on, and then went on again.
use Rattle.std.proofs.Common.{◌≡◌, ◌-◌, List, [], ◌++◌, length, sym, subst}
use Rattle.std.specs.Prelude.{Option, IfSome, Result, Ok, Err, OnErr}
use Rattle.std.proofs.lemmas.List.{append-nil, append_assoc}
use Rattle.net_cost.specs.declared.weights.Weights.{Weights}
use Rattle.net_form.specs.declared.net.Net.{Net}
use Rattle.net_form.specs.declared.prices.Line.{Line}
use Rattle.net_form.specs.Cost.{cost_of}
use Rattle.net_form.specs.Flow.{flow}
use Rattle.net_path.specs.Desk.{IsReservedFor}
use Rattle.net_path.specs.declared.work.Work.{Work}
use Rattle.al_round.specs.Allocations.{IsAllocated, IsLatest}
use Rattle.al_round.specs.Rounds.{AreRoundsOf, HaveGoneOn, IsRoundRoom}
use Rattle.al_round.specs.Stages.{Stage, IsGreatest}
use Rattle.al_round.specs.declared.room.RoundRoom.{RoundRoom}
use Rattle.al_round.specs.declared.rounds.Rounds.{Rounds}

pub on_err : {T E Q : Type 0} (r : Result T E) → Q → OnErr r Q
on_err (Ok x) q = tt
on_err (Err e) q = q

pub still_err : {T E P Q : Type 0} (r : Result T E) → (P → Q) → OnErr r P → OnErr r Q
still_err (Ok x) f p = tt
still_err (Err e) f p = f p

module _ (net : Net) (w : Weights) where
  pub no_stage_more : (stages : List Stage) (rounds : Rounds) → AreRoundsOf net w stages rounds
      → (more : List Stage) × AreRoundsOf net w (stages ++ more) rounds
  no_stage_more stages rounds are = (
    [],
    subst (λ s. AreRoundsOf net w s rounds) (sym (append-nil stages)) are,
  )

  -- rounds of which only the room changed, and maybe the rows of paths
  abbrev pub in_room : (r : Rounds) → List Line → Work → Option RoundRoom → Rounds
  in_room r lines work room = record {
    best = r.best;
    prices = r.prices;
    best_prices = r.best_prices;
    lines = lines;
    tried = r.tried;
    best_value = r.best_value;
    raised = r.raised;
    work = work;
    most_visits = r.most_visits;
    room = room;
  }

  module _ (stages : List Stage) (r : Rounds) (are : AreRoundsOf net w stages r)
      (lines : List Line) (work : Work) (room : Option RoundRoom) (same : lines ≡ r.lines)
      (reserved : IsReservedFor net work) (family : work.family ≡ r.work.family)
      (is_room : IfSome room (IsRoundRoom net)) where
    -- stand where they stood
    pub stands_there : AreRoundsOf net w stages (in_room r lines work room)
    stands_there = record {
      allocated = subst (λ ls. IsAllocated net w stages ls r.best r.best_prices) (sym same)
          are.allocated;
      kept = subst
          (λ f. IsLatest net w stages (cost_of net w (flow net r.best)) r.prices f r.tried)
          (sym family) are.kept;
      raised = are.raised;
      value = subst
          (λ (ls : List Line). IsGreatest stages (length ls - 1) r.best_prices r.best_value)
          (sym same) are.value;
      work = reserved;
      room = is_room;
    }

    pub stands_still : (more : List Stage) × AreRoundsOf net w (stages ++ more)
        (in_room r lines work room)
    stands_still = no_stage_more stages (in_room r lines work room) stands_there

  pub gone_nowhere : (rounds : Rounds) → HaveGoneOn net w rounds rounds
  gone_nowhere rounds = λ stages are. no_stage_more stages rounds are

  pub gone_further : (a b c : Rounds) → HaveGoneOn net w a b → HaveGoneOn net w b c
      → HaveGoneOn net w a c
  gone_further a b c one two = λ stages are.
      let first = one stages are in
      let second = two (stages ++ first.0) first.1 in (
        first.0 ++ second.0,
        subst (λ s. AreRoundsOf net w s c) (append_assoc stages first.0 second.0) second.1,
      )
