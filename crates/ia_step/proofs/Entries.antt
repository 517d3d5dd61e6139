-- Entries of what was fetched before.
use Rattle.std.proofs.Common.{◌≡◌, ℕ, ◌<◌, List, length, Some, refl, sym, ap, ◌∙◌, subst, set}
use Rattle.std.proofs.Common.{get_or}
use Rattle.std.specs.Prelude.{slice_get, Result}
use Rattle.std.proofs.lemmas.List.{length-set}
use Rattle.std.proofs.lemmas.List.Elements.{All-set, All-get_or}
use Rattle.std.proofs.lemmas.Grind.{get_or-set_at}
use Rattle.std.proofs.lemmas.Option.{slice_get-get_or}
use Rattle.ia_code.specs.declared.ins.Ins.{Ins}
use Rattle.ia_step.specs.declared.fetched.Fetched.{Fetched}
use Rattle.ia_step.specs.declared.out.FaultKind.{FaultKind}
use Rattle.ia_step.specs.State.{State}
use Rattle.ia_step.specs.Step.{fetch_in, fetch}
use Rattle.ia_step.specs.Fetched.{IsFetched, AreFetched}

-- what fetching answers now, as an entry
abbrev pub fetched_now : State → Fetched
fetched_now s = record { at = s.eip; answer = fetch s }

pub made_now : (s : State) (eip : ℕ) (answer : Result (Ins × ℕ) FaultKind) → eip ≡ s.eip →
    answer ≡ fetch s →
    ◌≡◌ {A = Fetched} (record { at = eip; answer = answer }) (fetched_now s)
made_now s eip answer here is =
    ap (λ n. let e : Fetched = record { at = n; answer = answer } in e) here
    ∙ ap (λ a. let e : Fetched = record { at = s.eip; answer = a } in e) is

-- an entry of the place at EIP holds what fetching answers now
pub holds_now : (s : State) (e : Fetched) → IsFetched s.code e → e.at ≡ s.eip → e ≡ fetched_now s
unfolding fetch
holds_now s e is here = made_now s e.at e.answer here (sym is ∙ ap (fetch_in s.code) here)

now_is_fetched : (s : State) → IsFetched s.code (fetched_now s)
unfolding fetch
now_is_fetched s = refl

-- an entry that was put holds, and stands where it was put
module _ (s : State) (entries : List Fetched) (k : ℕ) (e : Fetched)
    (were : AreFetched s.code entries) (is : e ≡ fetched_now s) where
  pub put_holds : AreFetched s.code (set entries k e)
  put_holds = record {
    count = length-set entries k e ∙ were.count;
    each = All-set (IsFetched s.code) entries k e
        (subst (IsFetched s.code) (sym is) (now_is_fetched s)) were.each;
  }

  pub put_stands : k < length entries → slice_get (set entries k e) k ≡ Some (fetched_now s)
  put_stands inside =
      let inside_still : k < length (set entries k e) = rw length-set inside in
      slice_get-get_or (set entries k e) k e inside_still
      ∙ ap Some (get_or-set_at entries k k e e refl inside ∙ is)

-- an entry that was there
pub stood : (s : State) (entries : List Fetched) (k : ℕ) (d : Fetched) → AreFetched s.code entries →
    k < length entries →
    (get_or entries k d).at ≡ s.eip → slice_get entries k ≡ Some (fetched_now s)
stood s entries k d were inside here =
    slice_get-get_or entries k d inside
    ∙ ap Some (holds_now s (get_or entries k d)
    (All-get_or (IsFetched s.code) entries k d inside were.each) here)
