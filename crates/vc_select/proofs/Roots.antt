-- The target of a variable without selectors names its location.
use Rattle.std.proofs.Common.{◌≡◌, ℕ, suc, ◌+◌, ◌*◌, ◌<◌, Bool, true, false, not, List, [], ◌∷◌}
use Rattle.std.proofs.Common.{length, map, Option, Some, None, refl, sym, ap, ◌∙◌, subst, arith}
use Rattle.std.proofs.lemmas.List.{length-map}
use Rattle.std.specs.Prelude.{slice_get, ◌||◌, nat_lt, unwrap_or, option_map, if◌then◌else◌}
use Rattle.std.proofs.lemmas.Bool.{ltb-true, eq-eqb}
use Rattle.std.proofs.lemmas.Option.{slice_get-get_or, get_or_from_slice_get}
use Rattle.std.proofs.Math.ListN.{get_or}
use Rattle.pra_list.specs.Options.{◌>>=◌}
use Rattle.pra_base.specs.Code.{kind_of}
use Rattle.pra_base.specs.declared.code.VarKind.{VarKind}
use Rattle.pra_base.specs.declared.code.VarKind.TheVariants.{Param as ParamKind, Plain, Constant}
use Rattle.pra_base.specs.declared.code.Base.TheVariants as base
use Rattle.ob_syntax.specs.WellFormed.{is_scalar}
use Rattle.ob_syntax.specs.declared.checked.Checked.{Checked}
use Rattle.ob_syntax.specs.declared.checked.CheckedProc.{CheckedProc}
use Rattle.ob_syntax.specs.declared.checked.Local.{Local}
use Rattle.ob_syntax.specs.declared.checked.ModuleVar.{ModuleVar}
use Rattle.ob_syntax.specs.declared.checked.Param.{Param}
use Rattle.ob_syntax.specs.declared.checked.Root.{Root}
use Rattle.ob_syntax.specs.declared.checked.Root.TheVariants as root
use Rattle.ob_mean.specs.Designators.{type_at, type_in, root_type, root_location, running}
use Rattle.ob_mean.specs.Store.{Store, whole}
use Rattle.ob_mean.specs.declared.store.LiveCall.{LiveCall}
use Rattle.ob_mean.specs.declared.store.Location.{Location}
use Rattle.ob_mean.specs.declared.store.Object.TheVariants as mean
use Rattle.ob_mean.specs.Program.{live_frames}
use Rattle.vc_code.specs.declared.action.Here.{Here}
use Rattle.vc_code.specs.declared.value.Object.TheVariants.{Data, Aggregates, Cell}
use Rattle.vc_code.specs.Value.{Held}
use Rattle.vc_code.specs.Machine.{State, here, depth, live_in}
use Rattle.vc_code.specs.Operation.{address}
use Rattle.vc_code.specs.Selected.{Vars, valued, code_of, shape}
use Rattle.vc_build.specs.Runs.{Codes}
use Rattle.vc_relation.specs.declared.home.Home.{Home}
use Rattle.vc_relation.specs.declared.home.Home.TheVariants as home
use Rattle.vc_relation.specs.Layout.{part_along, is_aggregate}
use Rattle.vc_relation.specs.Homes.{in_variable, param_variable, local_variable, variable}
use Rattle.vc_relation.specs.Homes.{param_home, local_home}
use Rattle.vc_relation.specs.Spots.{InVariable, InWord, Placed, placed_at, placed, part_placed}
use Rattle.vc_relation.specs.Spots.{home_spot, here_of, call_at, param_of, local_of, param_placed}
use Rattle.vc_relation.specs.Spots.{local_placed}
use Rattle.vc_relation.specs.Relation.{Represents, IsGiven, lent_in, held_at, content, homes_in}
use Rattle.vc_relation.proofs.Apart.{count_below}
use Rattle.vc_relation.proofs.Returned.{names_address}
use Rattle.vc_select.specs.declared.target.Setting.{Setting}
use Rattle.vc_select.specs.Targets.{at_base, home_target, home_in, by_var_of, param_target}
use Rattle.vc_select.specs.Targets.{root_target, IsNamed}
use Rattle.vc_typed.specs.Typing.{is_declared, is_declared_in}
use Rattle.vc_select.specs.Selects.{IsSet, is_constant, home_variables, selected_module}
use Rattle.vc_select.proofs.Placing.{same_frames}

differ : false ≡ true → ⊥
differ e = cc

-- an element that is there
abbrev element_of : {X : Type 0} → List X → ℕ → Type 0
element_of {X} xs k = (x : X) × (slice_get xs k ≡ Some x)

there : {X : Type 0} (xs : List X) (k : ℕ) (d : X) → nat_lt k (length xs) ≡ true → element_of xs k
there xs k d e = (get_or xs k d, slice_get-get_or xs k d (ltb-true k (length xs) e))

-- a variable that is no constant is read as it is
pub read_plain : (kind : VarKind) (h : Held) → is_constant kind ≡ false → valued kind h ≡ h
read_plain (ParamKind k) h e = refl
read_plain Plain h e = refl
read_plain (Constant n) h e = cc

-- of live calls the running one
pub running_is : (calls : List LiveCall) (s : State Vars) → map (λ c. c.proc) (live_in s) ≡
    map (λ (call : LiveCall). call.proc.0) calls → running calls ≡ s.top.proc
running_is [] s e = cc
running_is (call ∷ below) s e = first_same s.top.proc call.proc.0 (map (λ c. c.proc) s.below)
    (map (λ (z : LiveCall). z.proc.0) below) e
  where
    first_same : (x y : ℕ) (xs ys : List ℕ) → (x ∷ xs) ≡ (y ∷ ys) → y ≡ x
    first_same x y xs ys d = cc

module _ (g : Setting) (set : IsSet g) (w : Codes) (call : LiveCall) (below : List LiveCall)
    (store : Store) (s : State Vars)
    (represents : Represents (selected_module g.program.now w) (call ∷ below) store s)
    (top : s.top.proc ≡ g.id.0)
    (variables : (v : ℕ) → v < home_variables g → is_constant (kind_of (code_of w.procs g.id.0) v) ≡
    false) where
  abbrev program : Checked
  program = g.program.now

  abbrev calls : List LiveCall
  calls = call ∷ below

  runs : call.proc.0 ≡ g.id.0
  runs = running_is calls s represents.same_calls ∙ top

  top_call : call_at calls (suc (length below)) ≡ Some (call, below)
  top_call = ap (λ b. if b then Some (call, below) else call_at below (suc (length below)))
      (eq-eqb (suc (length below)) (suc (length below)) refl)

  tails : map (λ c. c.proc) s.below ≡ map (λ (z : LiveCall). z.proc.0) below
  tails = rest_same s.top.proc call.proc.0 (map (λ c. c.proc) s.below)
      (map (λ (z : LiveCall). z.proc.0) below) represents.same_calls
    where
      rest_same : (x y : ℕ) (xs ys : List ℕ) → (x ∷ xs) ≡ (y ∷ ys) → xs ≡ ys
      rest_same x y xs ys d = cc

  lengths : length s.below ≡ length below
  lengths =
      let e : length (map (λ c. c.proc) s.below) ≡ length (map (λ (z : LiveCall). z.proc.0) below) =
      ap (λ ps. length ps) tails in
      omega (
        arith,
        e,
        length-map s.below (λ c. c.proc),
        length-map below (λ (z : LiveCall). z.proc.0),
      )

  abbrev named_by : (calls sum below : ℕ) → Here
  named_by n m k = record { calls = n; sum = m; below = k }

  here_is : here (shape w.procs w.frames) s ≡ here_of w.frames (call, below)
  here_is =
      ap (λ n. named_by n (depth (shape w.procs w.frames) (live_in s))
      (depth (shape w.procs w.frames) s.below)) lengths
      ∙ ap (λ n. named_by (length below) n (depth (shape w.procs w.frames) s.below))
      (same_frames w (live_in s) calls represents.same_calls)
      ∙ ap (λ n. named_by (length below) (live_frames w.frames calls) n)
      (same_frames w s.below below tails)

  -- a location that begins at a home
  abbrev at_home : Home → ℕ → Placed
  at_home h type_id = placed_at (home_spot (suc (length below)) (here_of w.frames (call, below)) h)
      type_id

  abbrev is_variable : Home → Bool
  is_variable (home.Var v) = true
  is_variable _ = false

  home_named : (h : Home) (l : Location) (type_id : ℕ) → placed program w.frames calls l ≡
      Some (at_home h type_id) → (is_variable h ≡ true → is_scalar type_id ≡ true) →
      IsNamed program w calls s (home_target false h) l type_id
  home_named (home.Var v) l type_id e scalar = record { place = e; scalar = scalar refl }
  home_named (home.Cell k) l type_id e scalar = record {
    object = Cell (length below) (live_frames w.frames below) k;
    word = 0;
    place = e;
    begin = 0;
    offset = 0;
    index = 0;
    base_is = ap (λ (h : Here). Some (Cell h.calls h.below k, 0)) here_is;
    offset_is = refl;
    index_is = refl;
    sum = refl;
  }
  home_named (home.Frame n) l type_id e scalar = record {
    object = Aggregates (length below) (live_frames w.frames calls);
    word = n;
    place = e;
    begin = 4 * n;
    offset = 0;
    index = 0;
    base_is = ap (λ (h : Here). Some (Aggregates h.calls h.sum, 4 * n)) here_is;
    offset_is = refl;
    index_is = refl;
    sum = omega arith;
  }

  -- ---- variables of the module

  module_named : (n : ℕ) → is_declared program g.id.0 (root.Module n) ≡ true →
      IsNamed program w calls s
      (root_target program g.params.now g.locals.now g.id.0 (root.Module n))
      (root_location calls (root.Module n)) (root_type program g.id.0 (root.Module n))
  module_named n declared =
      let var = there program.vars n (record { type_id = 0; word = 0 }) declared in
      let word : type_at (λ (v : ModuleVar). v.word) program.vars n ≡ var.0.word =
      ap (λ o. unwrap_or (option_map (λ (v : ModuleVar). v.word) o) 0) var.1 in
      let type_is : type_at (λ (v : ModuleVar). v.type_id) program.vars n ≡ var.0.type_id =
      ap (λ o. unwrap_or (option_map (λ (v : ModuleVar). v.type_id) o) 0) var.1 in
      let sums : var.0.word + 0 ≡ type_at (λ (v : ModuleVar). v.word) program.vars n =
      omega (arith, word) in
      record {
        object = Data;
        word = type_at (λ v. v.word) program.vars n;
        place =
            ap (λ (o : Option ModuleVar).
            (o >>= λ v. Some (placed_at (InWord Data v.word) v.type_id)) >>= λ b. part_along
            program.types b.type_id [] >>= λ q. Some (part_placed b q)) var.1
            ∙ ap (λ m. Some (placed_at (InWord Data m) var.0.type_id)) sums
            ∙ ap (λ t. Some (placed_at
            (InWord Data (type_at (λ (v : ModuleVar). v.word) program.vars n)) t))
            (sym type_is);
        begin = 4 * type_at (λ (v : ModuleVar). v.word) program.vars n;
        offset = 0;
        index = 0;
        base_is = refl;
        offset_is = refl;
        index_is = refl;
        sum = omega arith;
      }

  -- ---- locals

  beyond_none : (h : Home) (type_id : ℕ) → part_placed (at_home h type_id)
      (record { word = 0; type_id = type_id }) ≡ at_home h type_id
  beyond_none (home.Var v) type_id = refl
  beyond_none (home.Cell k) type_id = refl
  beyond_none (home.Frame n) type_id =
      ap (λ m. placed_at (InWord (Aggregates (length below) (live_frames w.frames calls)) m)
      type_id) (omega arith)

  scalar_local : (a b : Bool) → (not a || b) ≡ false → a ≡ true
  scalar_local true b e = refl
  scalar_local false b e = cc

  local_scalar : (proc : CheckedProc) (k : ℕ) (local : Local) →
      is_variable (local_home proc k local) ≡ true → is_scalar local.type_id ≡ true
  local_scalar proc k local e = by_test (is_aggregate local) refl e
    where
      by_test : (b : Bool) → is_aggregate local ≡ b →
          is_variable (if b then home.Frame local.word else variable (local_variable proc k)) ≡
          true → is_scalar local.type_id ≡ true
      by_test true at d = cc
      by_test false at d = scalar_local (is_scalar local.type_id) local.addressed at

  local_named : (k : ℕ) → is_declared program g.id.0 (root.Local k) ≡ true →
      IsNamed program w calls s
      (root_target program g.params.now g.locals.now g.id.0 (root.Local k))
      (root_location calls (root.Local k)) (root_type program g.id.0 (root.Local k))
  local_named k declared = by_proc (slice_get program.procs g.id.0) refl declared
    where
      by_proc : (p : Option CheckedProc) → slice_get program.procs g.id.0 ≡ p →
          is_declared_in p (root.Local k) ≡ true →
          IsNamed program w calls s (home_target false (home_in g.locals.now k))
          (whole (mean.Local (suc (length below)) k)) (type_in p (root.Local k))
      by_proc None at d = absurd (differ d)
      by_proc (Some proc) at d =
          let local = there proc.locals k (record { type_id = 0; addressed = false; word = 0 }) d in
          let home_is : home_in g.locals.now k ≡ local_home proc k local.0 =
          get_or_from_slice_get g.locals.now k (local_home proc k local.0) (home.Frame 0)
          (set.locals proc k local.0 at local.1) in
          let type_is : type_in (Some proc) (root.Local k) ≡ local.0.type_id =
          ap (λ (o : Option Local). unwrap_or (option_map (λ (v : Local). v.type_id) o) 0)
          local.1 in
          let has : local_of program call k ≡ Some (proc, local.0) =
          ap (λ p. slice_get program.procs p >>= λ q. slice_get q.locals k >>= λ x. Some (q, x))
          runs
          ∙ ap (λ (o : Option CheckedProc). o >>= λ q. slice_get q.locals k >>= λ x. Some (q, x)) at
          ∙ ap (λ (o : Option Local). o >>= λ x. Some (proc, x)) local.1 in
          let place : placed program w.frames calls (whole (mean.Local (suc (length below)) k)) ≡
          Some (at_home (local_home proc k local.0) local.0.type_id) =
          ap (λ (o : Option (LiveCall × List LiveCall)).
          (o >>= λ c. local_of program c.0 k >>= λ x. local_placed (suc (length below))
          (here_of w.frames c) k x) >>= λ b. part_along program.types b.type_id [] >>= λ q. Some
          (part_placed b q)) top_call
          ∙ ap (λ (o : Option (CheckedProc × Local)).
          (o >>= λ x. local_placed (suc (length below)) (here_of w.frames (call, below)) k x)
          >>= λ b. part_along program.types b.type_id [] >>= λ q. Some (part_placed b q)) has
          ∙ ap Some (beyond_none (local_home proc k local.0) local.0.type_id) in
          subst (λ h. IsNamed program w calls s (home_target false h)
          (whole (mean.Local (suc (length below)) k)) (type_in (Some proc) (root.Local k)))
          (sym home_is)
          (subst (IsNamed program w calls s (home_target false (local_home proc k local.0))
          (whole (mean.Local (suc (length below)) k))) (sym type_is)
          (home_named (local_home proc k local.0) (whole (mean.Local (suc (length below)) k))
          local.0.type_id place (local_scalar proc k local.0)))

  -- ---- parameters

  module _ (proc : CheckedProc) (k : ℕ) (param : Param)
      (at : slice_get program.procs g.id.0 ≡ Some proc) (is : slice_get proc.params k ≡ Some param)
    where
      has_param : param_of program call k ≡ Some (proc, param)
      has_param =
          ap (λ p. slice_get program.procs p >>= λ q. slice_get q.params k >>= λ x. Some (q, x))
          runs
          ∙ ap (λ (o : Option CheckedProc). o >>= λ q. slice_get q.params k >>= λ x. Some (q, x)) at
          ∙ ap (λ (o : Option Param). o >>= λ x. Some (proc, x)) is

      given : IsGiven (selected_module program w) below param (lent_in call k)
          (content (selected_module program w) s
          (InVariable (suc (length below)) (param_variable proc k)))
      given = represents.params (suc (length below)) k call below proc param top_call has_param

      -- nothing was lent to a value parameter
      not_lent : (lent : Option Location) (h : Held) → param.by_var ≡ false →
          IsGiven (selected_module program w) below param lent h → lent ≡ None
      not_lent None h value given' = refl
      not_lent (Some l) h value given' = absurd (differ (sym value ∙ given'.0))

      value_named : param.by_var ≡ false →
          IsNamed program w calls s (home_target false (param_home proc k param))
          (root_location calls (root.Param k)) param.type_id
      value_named value =
          let l : root_location calls (root.Param k) ≡ whole (mean.Param (suc (length below)) k) =
          ap (λ o. unwrap_or o (whole (mean.Param (suc (length below)) k)))
          (not_lent (lent_in call k) _ value given) in
          let scalar = (set.laid.procs g.id.0 proc at).param_types k param is value in
          let place : placed program w.frames calls (whole (mean.Param (suc (length below)) k)) ≡
          Some (at_home (param_home proc k param) param.type_id) =
          ap (λ (o : Option (LiveCall × List LiveCall)).
          (o >>= λ c. param_of program c.0 k >>= λ x. param_placed (suc (length below))
          (here_of w.frames c) k x) >>= λ b. part_along program.types b.type_id [] >>= λ q. Some
          (part_placed b q)) top_call
          ∙ ap (λ (o : Option (CheckedProc × Param)).
          (o >>= λ x. param_placed (suc (length below)) (here_of w.frames (call, below)) k x) >>=
          λ b. part_along program.types b.type_id [] >>= λ q. Some (part_placed b q)) has_param
          ∙ ap (λ b. (if b then None else Some (at_home (param_home proc k param) param.type_id))
          >>=
          λ z. part_along program.types z.type_id [] >>= λ q. Some (part_placed z q)) value
          ∙ ap Some (beyond_none (param_home proc k param) param.type_id) in
          subst (λ m. IsNamed program w calls s (home_target false (param_home proc k param)) m
          param.type_id) (sym l)
          (home_named (param_home proc k param) (whole (mean.Param (suc (length below)) k))
          param.type_id place (λ v. scalar))

      home_of_var : param.by_var ≡ true → param_home proc k param ≡ variable (param_variable proc k)
      home_of_var by_var = ap (λ b. if b || not param.addressed then variable
          (param_variable proc k)
          else home.Cell k) by_var

      var_named : param.by_var ≡ true →
          IsNamed program w calls s (at_base (base.Via (record { 0 = param_variable proc k })))
          (root_location calls (root.Param k)) param.type_id
      var_named by_var =
          let a = names_address (selected_module program w) call below store s represents k proc
          param
          has_param by_var in
          let low : param_variable proc k < home_variables g =
          subst (λ n. param_variable proc k < n)
          (sym (ap homes_in at)) (omega (
            arith,
            count_below in_variable proc.params k param is
                (ap (λ b. b || not param.addressed) by_var),
          )) in
          let kind : is_constant (kind_of (code_of w.procs s.top.proc) (param_variable proc k)) ≡
          false = ap (λ p. is_constant (kind_of (code_of w.procs p) (param_variable proc k))) top
          ∙ variables (param_variable proc k) low in
          record {
            object = a.object;
            word = a.word;
            place = a.place;
            begin = 4 * a.word;
            offset = 0;
            index = 0;
            base_is = ap address (read_plain
                (kind_of (code_of w.procs s.top.proc) (param_variable proc k))
                (held_at s (param_variable proc k)) kind ∙ a.address);
            offset_is = refl;
            index_is = refl;
            sum = omega arith;
          }

      param_named : (b : Bool) → param.by_var ≡ b →
          IsNamed program w calls s (home_target b (param_home proc k param))
          (root_location calls (root.Param k)) param.type_id
      param_named true e = subst (λ h. IsNamed program w calls s (home_target true h)
          (root_location calls (root.Param k)) param.type_id) (sym (home_of_var e)) (var_named e)
      param_named false e = value_named e

  param_root_named : (k : ℕ) → is_declared program g.id.0 (root.Param k) ≡ true →
      IsNamed program w calls s
      (root_target program g.params.now g.locals.now g.id.0 (root.Param k))
      (root_location calls (root.Param k)) (root_type program g.id.0 (root.Param k))
  param_root_named k declared = by_proc (slice_get program.procs g.id.0) refl declared
    where
      by_proc : (p : Option CheckedProc) → slice_get program.procs g.id.0 ≡ p →
          is_declared_in p (root.Param k) ≡ true →
          IsNamed program w calls s (param_target g.params.now p k)
          (root_location calls (root.Param k)) (type_in p (root.Param k))
      by_proc None at d = absurd (differ d)
      by_proc (Some proc) at d =
          let param = there proc.params k
          (record { by_var = false; type_id = 0; addressed = false }) d in
          let home_is : home_in g.params.now k ≡ param_home proc k param.0 =
          get_or_from_slice_get g.params.now k (param_home proc k param.0) (home.Frame 0)
          (set.params proc k param.0 at param.1) in
          let type_is : type_in (Some proc) (root.Param k) ≡ param.0.type_id =
          ap (λ (o : Option Param). unwrap_or (option_map (λ (v : Param). v.type_id) o) 0)
          param.1 in
          let target_is : param_target g.params.now (Some proc) k ≡ home_target param.0.by_var
          (param_home proc k param.0) =
          ap (λ o. home_target (by_var_of o) (home_in g.params.now k)) param.1
          ∙ ap (home_target param.0.by_var) home_is in
          subst (λ x. IsNamed program w calls s x (root_location calls (root.Param k))
          (type_in (Some proc) (root.Param k))) (sym target_is)
          (subst (IsNamed program w calls s (home_target param.0.by_var (param_home proc k param.0))
          (root_location calls (root.Param k))) (sym type_is)
          (param_named proc k param.0 at param.1 param.0.by_var refl))

  root_named_here : (r : Root) → is_declared program g.id.0 r ≡ true →
      IsNamed program w calls s (root_target program g.params.now g.locals.now g.id.0 r)
      (root_location calls r) (root_type program g.id.0 r)
  root_named_here (root.Module n) d = module_named n d
  root_named_here (root.Param k) d = param_root_named k d
  root_named_here (root.Local k) d = local_named k d

-- The target of a declared variable names its location, with its type.
pub root_named : (g : Setting) → IsSet g → (w : Codes) (calls : List LiveCall) (store : Store)
    (s : State Vars) → Represents (selected_module g.program.now w) calls store s → s.top.proc ≡
    g.id.0 →
    ((v : ℕ) → v < home_variables g → is_constant (kind_of (code_of w.procs g.id.0) v) ≡ false) →
    (r : Root) → is_declared g.program.now g.id.0 r ≡ true →
    IsNamed g.program.now w calls s (root_target g.program.now g.params.now g.locals.now g.id.0 r)
    (root_location calls r) (root_type g.program.now g.id.0 r)
root_named g set w [] store s represents top variables r d = absurd (empty represents.same_calls)
  where
    empty : (s.top.proc ∷ map (λ c. c.proc) s.below) ≡ [] → ⊥
    empty e = cc
root_named g set w (call ∷ below) store s represents top variables r d =
    root_named_here g set w call below store s represents top variables r d
