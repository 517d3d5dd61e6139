-- Spots are named by live calls: how deep, and what is the same where one more call is live.
use Rattle.std.proofs.Common.{◌≡◌, ℕ, suc, ◌<◌, ◌≤◌, Bool, true, false, List, [], ◌∷◌, length, Some}
use Rattle.std.proofs.Common.{None, sym, ap, ◌∙◌, subst, arith}
use Rattle.std.specs.Prelude.{slice_get, nat_eq, if◌then◌else◌}
use Rattle.std.proofs.lemmas.Bool.{ne_eqb}
use Rattle.pra_list.specs.Options.{◌>>=◌}
use Rattle.pra_list.proofs.Options.{some_same, none_some, bind_some}
use Rattle.pra_list.proofs.Choices.{by_test}
use Rattle.ob_syntax.specs.declared.checked.Checked.{Checked}
use Rattle.ob_syntax.specs.declared.checked.CheckedProc.{CheckedProc}
use Rattle.ob_syntax.specs.declared.checked.ModuleVar.{ModuleVar}
use Rattle.ob_syntax.specs.declared.checked.Param.{Param}
use Rattle.ob_mean.specs.declared.store.LiveCall.{LiveCall}
use Rattle.ob_mean.specs.declared.store.Location.{Location}
use Rattle.ob_mean.specs.declared.store.Object.{Object}
use Rattle.ob_mean.specs.declared.store.Object.TheVariants as mean
use Rattle.vc_code.specs.declared.action.Here.{Here}
use Rattle.vc_code.specs.declared.value.Object.TheVariants.{Data}
use Rattle.vc_relation.specs.declared.home.Home.{Home}
use Rattle.vc_relation.specs.declared.home.Home.TheVariants as home
use Rattle.vc_relation.specs.declared.home.Home.TheVariants.{Var, Frame}
use Rattle.vc_relation.specs.Layout.{part_along, IsLaidOut}
use Rattle.vc_relation.specs.Homes.{in_variable, local_in_variable, home_count, param_home}
use Rattle.vc_relation.specs.Homes.{local_home}
use Rattle.vc_relation.specs.Spots.{Spot, InVariable, InWord, Placed, IsBelow, placed_at, call_at}
use Rattle.vc_relation.specs.Spots.{here_of, home_spot, param_of, local_of, param_placed}
use Rattle.vc_relation.specs.Spots.{local_placed, object_placed, beyond, part_placed, placed}
use Rattle.vc_relation.proofs.Apart.{Standing, IsData, IsVariable, IsCell, IsAggregate, Owner}
use Rattle.vc_relation.proofs.Apart.{OfParam, OfLocal, count_below, call_depth, stands, found}

-- a live call is one of as many as are live
pub call_within : {A : Type 0} (calls : List A) (depth : ℕ) (c : A × List A) → call_at calls depth ≡
    Some c → length c.1 < length calls
call_within [] depth c e = absurd (none_some e)
call_within {A} (x ∷ below) depth c e =
    by_test (nat_eq depth (suc (length below))) (Some (x, below)) (call_at below depth) (Some c)
    (λ is at. let here : length below ≡ length c.1 = ap (λ (p : A × List A). length p.1)
    (some_same (x, below) c at) in omega (arith, here))
    (λ is at. omega (arith, call_within below depth c at))
    e

-- one more call changes none of those below
pub not_top : {A : Type 0} (x : A) (below : List A) (depth : ℕ) → depth ≤ length below →
    call_at (x ∷ below) depth ≡ call_at below depth
not_top x below depth le = ap (λ b. if b then Some (x, below) else call_at below depth)
    (ne_eqb depth (suc (length below)) (λ e. omega (arith, e, le)))

pub call_deeper : {A : Type 0} (x : A) (calls : List A) (depth : ℕ) (c : A × List A) →
    call_at calls depth ≡ Some c → call_at (x ∷ calls) depth ≡ Some c
call_deeper x calls depth c e =
    not_top x calls depth (omega (arith, call_depth calls depth c e, call_within calls depth c e))
    ∙ e

module _ (program : Checked) (frames : List ℕ) (call : LiveCall) (calls : List LiveCall) where
  object_deeper : (o : Object) (x : Placed) → object_placed program frames calls o ≡ Some x →
      object_placed program frames (call ∷ calls) o ≡ Some x
  object_deeper (mean.Module n) x e = e
  object_deeper (mean.Param depth k) x e =
      let f = λ (c : LiveCall × List LiveCall). param_of program c.0 k >>= λ p. param_placed depth
      (here_of frames c) k p in
      let one = bind_some (call_at calls depth) f x e in
      ap (λ o. o >>= f) (call_deeper call calls depth one.0 one.1) ∙ one.2
  object_deeper (mean.Local depth k) x e =
      let f = λ (c : LiveCall × List LiveCall). local_of program c.0 k >>= λ p. local_placed depth
      (here_of frames c) k p in
      let one = bind_some (call_at calls depth) f x e in
      ap (λ o. o >>= f) (call_deeper call calls depth one.0 one.1) ∙ one.2

  pub placed_deeper : (l : Location) (x : Placed) → placed program frames calls l ≡ Some x →
      placed program frames (call ∷ calls) l ≡ Some x
  placed_deeper l x e =
      let f = λ (b : Placed). part_along program.types b.type_id l.path >>= λ q. Some
      (part_placed b q) in
      let one = bind_some (object_placed program frames calls l.object) f x e in
      ap (λ o. o >>= f) (object_deeper l.object one.0 one.1) ∙ one.2

pub owner_within : (proc : CheckedProc) (depth : ℕ) (o : Object) (v : ℕ) → Owner proc depth o v →
    v < home_count proc
owner_within proc depth o v (OfParam k param a e t n is) =
    omega (arith, is, count_below in_variable proc.params k param e t)
owner_within proc depth o v (OfLocal k local a e t is) =
    omega (arith, is, count_below local_in_variable proc.locals k local e t)

-- the spot is of one of so many live calls, or of the module's data
abbrev pub IsAmong : ℕ → Spot → Type 0
IsAmong n (InVariable depth v) = depth ≤ n
IsAmong n (InWord x w) = IsBelow n x

among_beyond : (n : ℕ) (s : Spot) (i : ℕ) → IsAmong n s → IsAmong n (beyond s i)
among_beyond n (InVariable depth v) i a = a
among_beyond n (InWord x w) i a = a

home_among : (n depth : ℕ) (here : Here) (h : Home) → depth ≤ n → here.calls < n →
    IsAmong n (home_spot depth here h)
home_among n depth here (Var v) le lt = le
home_among n depth here (home.Cell k) le lt = lt
home_among n depth here (Frame w) le lt = lt

module _ (program : Checked) (frames : List ℕ) (calls : List LiveCall) where
  of_call : (depth : ℕ) (c : LiveCall × List LiveCall) (h : Home) → call_at calls depth ≡ Some c →
      IsAmong (length calls) (home_spot depth (here_of frames c) h)
  of_call depth c h at =
      let lt = call_within calls depth c at in
      home_among (length calls) depth (here_of frames c) h
      (omega (arith, lt, call_depth calls depth c at)) lt

  param_among : (depth k : ℕ) (c : LiveCall × List LiveCall) (p : CheckedProc × Param)
      (x : Placed) → call_at calls depth ≡ Some c → param_placed depth (here_of frames c) k p ≡
      Some x → IsAmong (length calls) x.spot
  param_among depth k c p x at e =
      by_test p.1.by_var None (Some
      (placed_at (home_spot depth (here_of frames c) (param_home p.0 k p.1)) p.1.type_id))
      (Some x)
      (λ is none. absurd (none_some none))
      (λ is some. subst (λ (z : Placed). IsAmong (length calls) z.spot)
      (some_same (placed_at (home_spot depth (here_of frames c) (param_home p.0 k p.1))
      p.1.type_id) x some) (of_call depth c (param_home p.0 k p.1) at))
      e

  object_among : (o : Object) (x : Placed) → object_placed program frames calls o ≡ Some x →
      IsAmong (length calls) x.spot
  object_among (mean.Module n) x e =
      let f = λ (v : ModuleVar). Some (placed_at (InWord Data v.word) v.type_id) in
      let one = bind_some (slice_get program.vars n) f x e in
      subst (λ (z : Placed). IsAmong (length calls) z.spot)
      (some_same (placed_at (InWord Data one.0.word) one.0.type_id) x one.2) tt
  object_among (mean.Param depth k) x e =
      let f = λ (c : LiveCall × List LiveCall). param_of program c.0 k >>= λ p. param_placed depth
      (here_of frames c) k p in
      let one = bind_some (call_at calls depth) f x e in
      let two = bind_some (param_of program one.0.0 k)
      (λ p. param_placed depth (here_of frames one.0) k p) x one.2 in
      param_among depth k one.0 two.0 x one.1 two.2
  object_among (mean.Local depth k) x e =
      let f = λ (c : LiveCall × List LiveCall). local_of program c.0 k >>= λ p. local_placed depth
      (here_of frames c) k p in
      let one = bind_some (call_at calls depth) f x e in
      let two = bind_some (local_of program one.0.0 k)
      (λ p. local_placed depth (here_of frames one.0) k p) x one.2 in
      let h = local_home two.0.0 k two.0.1 in
      subst (λ (z : Placed). IsAmong (length calls) z.spot)
      (some_same (placed_at (home_spot depth (here_of frames one.0) h) two.0.1.type_id) x two.2)
      (of_call depth one.0 h one.1)

  pub spot_among : (l : Location) (x : Placed) → placed program frames calls l ≡ Some x →
      IsAmong (length calls) x.spot
  spot_among l x e =
      let f = λ (b : Placed). part_along program.types b.type_id l.path >>= λ q. Some
      (part_placed b q) in
      let one = bind_some (object_placed program frames calls l.object) f x e in
      let two = bind_some (part_along program.types one.0.type_id l.path)
      (λ q. Some (part_placed one.0 q)) x one.2 in
      subst (λ (z : Placed). IsAmong (length calls) z.spot)
      (some_same (part_placed one.0 two.0) x two.2)
      (among_beyond (length calls) one.0.spot two.0.word (object_among l.object one.0 one.1))

module _ (program : Checked) (frames : List ℕ) (calls : List LiveCall) (laid : IsLaidOut program)
  where
    -- a location in a variable of a live call is in a home of its procedure
    pub record HomeOf (depth v : ℕ) : Type 0 where
      pub call : LiveCall × List LiveCall
      pub proc : CheckedProc
      pub call_there : call_at calls depth ≡ Some call
      pub proc_there : slice_get program.procs call.0.proc.0 ≡ Some proc
      pub object : Object
      pub owner : Owner proc depth object v

    abbrev first : Spot → ℕ
    first (InVariable n m) = n
    first (InWord z w) = 0

    abbrev second : Spot → ℕ
    second (InVariable n m) = m
    second (InWord z w) = 0

    abbrev is_word : Spot → Bool
    is_word (InVariable d u) = false
    is_word (InWord x w) = true

    never : (x : Spot) (depth v : ℕ) → is_word x ≡ true → x ≡ InVariable depth v → ⊥
    never (InVariable d u) depth v t e = cc
    never (InWord x w) depth v t e = cc

    no_word : (x : Spot) (i depth v : ℕ) → beyond x i ≡ InVariable depth v → x ≡ InVariable depth v
    no_word (InVariable d u) i depth v e = e
    no_word (InWord x w) i depth v e = cc

    home_standing : (o : Object) (x : Placed) (depth v : ℕ) → Standing program frames calls o x →
        x.spot ≡ InVariable depth v → HomeOf depth v
    home_standing o x depth v (IsData n var a b c) e =
        absurd (never x.spot depth v (ap (λ (z : Placed). is_word z.spot) c) e)
    home_standing o x depth v (IsVariable d u call proc a b c s f) e =
        let spots : InVariable d u ≡ InVariable depth v = sym c ∙ e in
        record {
          call = call;
          proc = proc;
          call_there = subst (λ n. call_at calls n ≡ Some call) (ap first spots) a;
          proc_there = b;
          object = o;
          owner = subst (λ n. Owner proc depth o n) (ap second spots)
              (subst (λ n. Owner proc n o u) (ap first spots) f);
        }
    home_standing o x depth v (IsCell d k call a b c s) e =
        absurd (never x.spot depth v (ap is_word c) e)
    home_standing o x depth v (IsAggregate d k call proc local a b c s f g) e =
        absurd (never x.spot depth v (ap (λ (z : Placed). is_word z.spot) g) e)

    pub home_there : (l : Location) (depth v type_id : ℕ) → placed program frames calls l ≡
        Some (placed_at (InVariable depth v) type_id) → HomeOf depth v
    home_there l depth v type_id e =
        let a = found program frames calls laid l (placed_at (InVariable depth v) type_id) e in
        home_standing l.object a.begin depth v
        (stands program frames calls laid l.object a.begin a.object_there)
        (no_word a.begin.spot a.part.word depth v (ap (λ (z : Placed). z.spot) a.is))
