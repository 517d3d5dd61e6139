-- What stands at the spots of a call that has begun.
use Rattle.std.proofs.Common.{◌≡◌, ℕ, suc, ◌+◌, ◌<◌, ◌≤◌, Bool, true, false, not, List, [], ◌∷◌}
use Rattle.std.proofs.Common.{length, map, Option, Some, None, refl, sym, ap, ◌∙◌, subst, arith}
use Rattle.std.specs.Prelude.{slice_get, nat_eq, if◌then◌else◌, ◌&&◌, ◌||◌, pos}
use Rattle.std.specs.Ordering.{int_eq}
use Rattle.std.proofs.lemmas.Bool.{eq-eqb, eqb-true}
use Rattle.std.proofs.lemmas.List.{length-map}
use Rattle.pra_list.specs.Options.{◌>>=◌}
use Rattle.pra_list.proofs.Options.{some_same, none_some}
use Rattle.pra_base.specs.Words.{fits_word}
use Rattle.ob_syntax.specs.Expressions.{boolean}
use Rattle.ob_syntax.specs.Storage.{type_words}
use Rattle.ob_syntax.specs.WellFormed.{is_scalar}
use Rattle.ob_syntax.specs.declared.checked.Checked.{Checked}
use Rattle.ob_syntax.specs.declared.checked.CheckedProc.{CheckedProc}
use Rattle.ob_syntax.specs.declared.checked.Local.{Local}
use Rattle.ob_syntax.specs.declared.checked.Param.{Param}
use Rattle.ob_mean.specs.declared.store.LiveCall.{LiveCall}
use Rattle.ob_mean.specs.declared.store.Location.{Location}
use Rattle.ob_mean.specs.declared.store.Object.{Object}
use Rattle.ob_mean.specs.declared.store.Object.TheVariants as mean
use Rattle.ob_mean.specs.Program.{live_frames}
use Rattle.ob_mean.specs.Store.{Store, whole, within, is_at_depth}
use Rattle.vc_call.specs.Begins.{HasBegun}
use Rattle.vc_code.specs.declared.value.Object.TheVariants.{Aggregates, Cell}
use Rattle.vc_code.specs.declared.value.Value.TheVariants.{Num}
use Rattle.vc_code.specs.Value.{Held, Words}
use Rattle.vc_code.specs.Machine.{State, depth, is_home, last_get, cell_words, cell, words_of}
use Rattle.vc_code.specs.Machine.{joined, live_in}
use Rattle.vc_code.specs.Selected.{Vars}
use Rattle.vc_build.specs.Runs.{Codes}
use Rattle.vc_relation.specs.declared.home.Home.TheVariants.{Frame}
use Rattle.vc_relation.specs.declared.home.Home.TheVariants as home
use Rattle.vc_relation.specs.Layout.{Part, part_along, is_aggregate, local_words, IsLaidOut}
use Rattle.vc_relation.specs.Homes.{in_variable, param_variable, local_variable, variable}
use Rattle.vc_relation.specs.Homes.{param_home, local_home}
use Rattle.vc_relation.specs.Spots.{Spot, InVariable, InWord, Placed, placed_at, call_at, here_of}
use Rattle.vc_relation.specs.Spots.{home_spot, param_of, local_of, param_placed, local_placed}
use Rattle.vc_relation.specs.Spots.{object_placed, beyond, part_placed, placed}
use Rattle.vc_relation.specs.Relation.{SelectedModule, shapes_of, variable_in, content, number_at}
use Rattle.vc_relation.specs.Relation.{IsKept, held_at}
use Rattle.vc_relation.proofs.Apart.{Found, found, stands, type_within}
use Rattle.vc_relation.proofs.Parts.{lies_within, scalar_words, one_path}
use Rattle.vc_relation.proofs.Represented.{kept_on}
use Rattle.vc_select.proofs.Placing.{same_frames, follow_within}

-- 0 is a value of each type
pub zero_is : (type_id : ℕ) → IsKept type_id (pos 0) (Some (Num 0))
zero_is type_id = record { typed = by_type (nat_eq type_id boolean); word = refl }
  where
    by_type : (b : Bool) → (if b then int_eq (pos 0) (pos 0) || int_eq (pos 0)
        (pos 1) else fits_word (pos 0)) ≡ true
    by_type true = refl
    by_type false = refl

cell_first : (o : Option Held) → joined (slice_get (cell_words o) 0) ≡ joined o
cell_first None = refl
cell_first (Some h) = refl

plain : (s a : Bool) → (not s || a) ≡ false → s ≡ true
plain true a e = refl
plain false a e = cc

module _ (t : SelectedModule) (id : ℕ) (proc : CheckedProc) (call : LiveCall)
    (calls : List LiveCall) (pushed : Words) (new : State Vars)
    (laid : IsLaidOut t.program) (there : slice_get t.program.procs id ≡ Some proc)
    (call_is : call.proc.0 ≡ id)
    (begun : HasBegun t id proc pushed new)
    (below_is : map (λ c. c.proc) new.below ≡ map (λ (c : LiveCall). c.proc.0) calls) where
  abbrev top : ℕ
  top = suc (length calls)

  abbrev live : List LiveCall
  live = call ∷ calls

  abbrev codes : Codes
  codes = record { procs = t.code; frames = t.frames }

  lengths : length new.below ≡ length calls
  lengths = sym (length-map new.below (λ c. c.proc)) ∙ ap (λ ps. length ps) below_is
      ∙ length-map calls (λ (c : LiveCall). c.proc.0)

  all_procs : map (λ c. c.proc) (live_in new) ≡ map (λ (c : LiveCall). c.proc.0) live
  all_procs = ap (λ n. n ∷ map (λ c. c.proc) new.below) (begun.proc_is ∙ sym call_is)
      ∙ ap (λ ns. call.proc.0 ∷ ns) below_is

  frames_all : depth (shapes_of t) (live_in new) ≡ live_frames t.frames live
  frames_all = same_frames codes (live_in new) live all_procs

  frames_below : depth (shapes_of t) new.below ≡ live_frames t.frames calls
  frames_below = same_frames codes new.below calls below_is

  both : (a b : ℕ) (c d : ℕ) → a ≡ b → c ≡ d → (nat_eq a b && nat_eq c d) ≡ true
  both a b c d e f = ap (λ x. x && nat_eq c d) (eq-eqb a b e) ∙ eq-eqb c d f

  -- ---- what is at the spots

  pub own_variable : (v : ℕ) → content t new (InVariable top v) ≡ held_at new v
  own_variable v =
      ap (λ b. variable_in (if b then Some (new.top, new.below) else call_at new.below top) v)
      (eq-eqb top (suc (length new.below)) (omega (arith, lengths)))

  own_cell : (k : ℕ) → is_home (shapes_of t id) k ≡ false →
      content t new (InWord (Cell (length calls) (live_frames t.frames calls) k) 0) ≡
      joined (last_get pushed k)
  own_cell k free =
      ap (λ b. joined (slice_get
      (if b then cell (shapes_of t) new.top k else words_of (shapes_of t) new.below
      (Cell (length calls) (live_frames t.frames calls) k)) 0))
      (both (length calls) (length new.below) (live_frames t.frames calls)
      (depth (shapes_of t) new.below) (sym lengths) (sym frames_below))
      ∙ ap (λ b. joined (slice_get (if b then [] else cell_words (last_get new.top.args k)) 0))
      (ap (λ p. is_home (shapes_of t p) k) begun.proc_is ∙ free)
      ∙ cell_first (last_get new.top.args k)
      ∙ ap (λ ws. joined (last_get ws k)) begun.args

  own_aggregate : (w : ℕ) →
      content t new (InWord (Aggregates (length calls) (live_frames t.frames live)) w) ≡
      joined (slice_get new.top.aggregates w)
  own_aggregate w =
      ap (λ b. joined (slice_get
      (if b then new.top.aggregates else words_of (shapes_of t) new.below
      (Aggregates (length calls) (live_frames t.frames live))) w))
      (both (length calls) (length new.below) (live_frames t.frames live)
      (depth (shapes_of t) (live_in new)) (sym lengths) (sym frames_all))

  -- ---- its parameters and locals

  top_call : call_at live top ≡ Some (call, calls)
  top_call = ap (λ b. if b then Some (call, calls) else call_at calls top) (eq-eqb top top refl)

  proc_there : slice_get t.program.procs call.proc.0 ≡ Some proc
  proc_there = ap (slice_get t.program.procs) call_is ∙ there

  record OwnParam (k : ℕ) (x : Placed) : Type 0 where
    pub param : Param
    pub at : slice_get proc.params k ≡ Some param
    pub value : param.by_var ≡ false
    pub is : x ≡ placed_at (home_spot top (here_of t.frames (call, calls))
        (param_home proc k param)) param.type_id

  own_param : (k : ℕ) (x : Placed) → object_placed t.program t.frames live (mean.Param top k) ≡
      Some x → OwnParam k x
  own_param k x e =
      let f = λ (c : LiveCall × List LiveCall). param_of t.program c.0 k >>= λ p. param_placed top
      (here_of t.frames c) k p in
      let g = λ (q : CheckedProc). slice_get q.params k >>= λ param. Some (q, param) in
      by_param (slice_get proc.params k) refl
      (sym (ap (λ (o : Option CheckedProc). (o >>= g) >>= λ p. param_placed top
      (here_of t.frames (call, calls)) k p) proc_there) ∙ sym (ap (λ o. o >>= f) top_call) ∙ e)
    where
      by_value : (b : Bool) (param : Param) → slice_get proc.params k ≡ Some param → param.by_var ≡
          b →
          (if b then None else Some
          (placed_at (home_spot top (here_of t.frames (call, calls)) (param_home proc k param))
          param.type_id)) ≡ Some x → OwnParam k x
      by_value true param at v d = absurd (none_some d)
      by_value false param at v d =
          record { param = param; at = at; value = v; is = sym (some_same _ x d) }

      by_param : (o : Option Param) → slice_get proc.params k ≡ o →
          ((o >>= λ param. Some (proc, param)) >>= λ p. param_placed top
          (here_of t.frames (call, calls)) k p) ≡ Some x → OwnParam k x
      by_param None at d = absurd (none_some d)
      by_param (Some param) at d = by_value param.by_var param at refl d

  record OwnLocal (k : ℕ) (x : Placed) : Type 0 where
    pub local : Local
    pub at : slice_get proc.locals k ≡ Some local
    pub is : x ≡ placed_at (home_spot top (here_of t.frames (call, calls))
        (local_home proc k local)) local.type_id

  own_local : (k : ℕ) (x : Placed) → object_placed t.program t.frames live (mean.Local top k) ≡
      Some x → OwnLocal k x
  own_local k x e =
      let f = λ (c : LiveCall × List LiveCall). local_of t.program c.0 k >>= λ p. local_placed top
      (here_of t.frames c) k p in
      let g = λ (q : CheckedProc). slice_get q.locals k >>= λ local. Some (q, local) in
      by_local (slice_get proc.locals k) refl
      (sym (ap (λ (o : Option CheckedProc). (o >>= g) >>= λ p. local_placed top
      (here_of t.frames (call, calls)) k p) proc_there) ∙ sym (ap (λ o. o >>= f) top_call) ∙ e)
    where
      by_local : (o : Option Local) → slice_get proc.locals k ≡ o →
          ((o >>= λ local. Some (proc, local)) >>= λ p. local_placed top
          (here_of t.frames (call, calls)) k p) ≡ Some x → OwnLocal k x
      by_local None at d = absurd (none_some d)
      by_local (Some local) at d = record { local = local; at = at; is = sym (some_same _ x d) }

  -- ---- what they hold

  module _ (store : Store) (params_kept : (k : ℕ) (param : Param) → slice_get proc.params k ≡
      Some param → param.by_var ≡ false →
      IsKept param.type_id (number_at store (whole (mean.Param top k)))
      (joined (last_get pushed k)))
      (locals_zero : (k : ℕ) (path : List ℕ) →
      number_at store (within (whole (mean.Local top k)) path) ≡ pos 0) where
    module _ (l : Location) (spot : Spot) (type_id : ℕ)
        (at : placed t.program t.frames live l ≡ Some (placed_at spot type_id))
        (scalar : is_scalar type_id ≡ true) where
      abbrev f : Found t.program t.frames live laid l (placed_at spot type_id)
      f = found t.program t.frames live laid l (placed_at spot type_id) at

      type_is : f.part.type_id ≡ type_id
      type_is = ap (λ (z : Placed). z.type_id) f.is

      spot_is : beyond f.begin.spot f.part.word ≡ spot
      spot_is = ap (λ (z : Placed). z.spot) f.is

      part_scalar : is_scalar f.part.type_id ≡ true
      part_scalar = ap is_scalar type_is ∙ scalar

      begin_within : f.begin.type_id < length t.program.types
      begin_within = type_within t.program t.frames live laid l.object f.begin
          (stands t.program t.frames live laid l.object f.begin f.object_there)

      lies : f.part.word + type_words t.program.types f.part.type_id ≤
          type_words t.program.types f.begin.type_id
      lies = lies_within t.program.types laid.types f.begin.type_id l.path f.part begin_within
          f.part_there

      one_word : type_words t.program.types f.part.type_id ≡ 1
      one_word = scalar_words t.program.types laid.types f.part.type_id part_scalar

      -- a scalar object is its only part
      module _ (whole_scalar : is_scalar f.begin.type_id ≡ true) where
        no_word : f.part.word ≡ 0
        no_word = omega (
          arith,
          lies,
          one_word,
          scalar_words t.program.types laid.types f.begin.type_id whole_scalar,
        )

        abbrev itself : Part
        itself = record { word = 0; type_id = f.begin.type_id }

        no_path : l.path ≡ []
        no_path = one_path t.program.types laid.types f.begin.type_id l.path [] f.part itself
            begin_within f.part_there refl part_scalar whole_scalar no_word

        same_type : f.begin.type_id ≡ type_id
        same_type =
            ap (λ (p : Part). p.type_id)
            (some_same itself f.part
            (sym (ap (part_along t.program.types f.begin.type_id) no_path) ∙ f.part_there))
            ∙ type_is

      own_values_param : (k : ℕ) → l.object ≡ mean.Param top k → IsKept type_id (number_at store l)
          (content t new spot)
      own_values_param k o =
          let own = own_param k f.begin
          (sym (ap (object_placed t.program t.frames live) o) ∙ f.object_there) in
          let begin_type : f.begin.type_id ≡ own.param.type_id =
          ap (λ (z : Placed). z.type_id) own.is in
          let whole_scalar : is_scalar f.begin.type_id ≡ true = ap is_scalar begin_type
          ∙ (laid.procs id proc there).param_types k own.param own.at own.value in
          let location : l ≡ whole (mean.Param top k) = ap (λ p. within (whole l.object) p)
          (no_path whole_scalar) ∙ ap (λ z. whole z) o in
          subst (λ n. IsKept n (number_at store l) (content t new spot))
          (sym begin_type ∙ same_type whole_scalar)
          (kept_on own.param.type_id (number_at store (whole (mean.Param top k)))
          (number_at store l) (joined (last_get pushed k)) (content t new spot)
          (ap (number_at store) location)
          (by_home (in_variable own.param) k own.param own.at refl
          (sym spot_is ∙ ap (beyond f.begin.spot) (no_word whole_scalar)
          ∙ ap (λ (z : Placed). beyond z.spot 0) own.is))
          (params_kept k own.param own.at own.value))
        where
          by_home : (b : Bool) (k : ℕ) (param : Param) → slice_get proc.params k ≡ Some param →
              in_variable param ≡ b →
              spot ≡ beyond (home_spot top (here_of t.frames (call, calls))
              (if b then variable (param_variable proc k) else home.Cell k)) 0 →
              content t new spot ≡ joined (last_get pushed k)
          by_home true k param at_k v s = ap (content t new) s
              ∙ own_variable (param_variable proc k) ∙ begun.params k param at_k v
          by_home false k param at_k v s = ap (content t new) s
              ∙ own_cell k (begun.cells k param at_k v)

      own_values_local : (k : ℕ) → l.object ≡ mean.Local top k → IsKept type_id (number_at store l)
          (content t new spot)
      own_values_local k o =
          let own = own_local k f.begin
          (sym (ap (object_placed t.program t.frames live) o) ∙ f.object_there) in
          let location : l ≡ within (whole (mean.Local top k)) l.path =
          ap (λ z. within (whole z) l.path) o in
          kept_on type_id (pos 0) (number_at store l) (Some (Num 0)) (content t new spot)
          (ap (number_at store) location ∙ locals_zero k l.path)
          (by_home (is_aggregate own.local) k own.local own.at refl own.is)
          (zero_is type_id)
        where
          by_home : (b : Bool) (k : ℕ) (local : Local) → slice_get proc.locals k ≡ Some local →
              is_aggregate local ≡ b →
              f.begin ≡ placed_at (home_spot top (here_of t.frames (call, calls))
              (if b then Frame local.word else variable (local_variable proc k)))
              local.type_id → content t new spot ≡ Some (Num 0)
          by_home true k local at_k a s =
              let end = follow_within is_aggregate (λ z. z.word) (local_words t.program.types) 0
              proc.aggregate_words proc.locals k local (laid.procs id proc there).locals at_k
              a in
              let begin_words : type_words t.program.types f.begin.type_id ≡
              local_words t.program.types local =
              ap (λ (z : Placed). type_words t.program.types z.type_id) s in
              ap (content t new) (sym spot_is ∙ ap (λ (z : Placed). beyond z.spot f.part.word) s)
              ∙ own_aggregate (local.word + f.part.word)
              ∙ begun.aggregates (local.word + f.part.word)
              (omega (arith, lies, one_word, end, begin_words))
          by_home false k local at_k a s =
              ap (content t new) (sym spot_is ∙ ap (λ (z : Placed). beyond z.spot f.part.word) s)
              ∙ own_variable (local_variable proc k)
              ∙ begun.locals k local at_k (ap not a)

    pub own_values : (l : Location) (spot : Spot) (type_id : ℕ) → is_at_depth top l.object ≡ true →
        placed t.program t.frames live l ≡ Some (placed_at spot type_id) → is_scalar type_id ≡
        true → IsKept type_id (number_at store l) (content t new spot)
    own_values l spot type_id own at scalar = by_object l.object refl own
      where
        differ : false ≡ true → ⊥
        differ e = cc

        by_object : (o : Object) → l.object ≡ o → is_at_depth top o ≡ true →
            IsKept type_id (number_at store l) (content t new spot)
        by_object (mean.Module n) e d = absurd (differ d)
        by_object (mean.Param depth k) e d = own_values_param l spot type_id at scalar k
            (e ∙ ap (λ n. mean.Param n k) (eqb-true depth top d))
        by_object (mean.Local depth k) e d = own_values_local l spot type_id at scalar k
            (e ∙ ap (λ n. mean.Local n k) (eqb-true depth top d))

-- ---- locations of calls below

module _ (program : Checked) (frames : List ℕ) (call : LiveCall) (calls : List LiveCall) where
  abbrev here_depth : ℕ
  here_depth = suc (length calls)

  off_top : (depth : ℕ) → nat_eq depth here_depth ≡ false → call_at (call ∷ calls) depth ≡
      call_at calls depth
  off_top depth e = ap (λ b. if b then Some (call, calls) else call_at calls depth) e

  object_below : (o : Object) → is_at_depth here_depth o ≡ false → object_placed program frames
      (call ∷ calls) o ≡ object_placed program frames calls o
  object_below (mean.Module n) e = refl
  object_below (mean.Param depth k) e =
      ap (λ (o : Option (LiveCall × List LiveCall)). o >>= λ c. param_of program c.0 k >>= λ p.
      param_placed depth (here_of frames c) k p) (off_top depth e)
  object_below (mean.Local depth k) e =
      ap (λ (o : Option (LiveCall × List LiveCall)). o >>= λ c. local_of program c.0 k >>= λ p.
      local_placed depth (here_of frames c) k p) (off_top depth e)

  pub placed_below : (l : Location) → is_at_depth here_depth l.object ≡ false →
      placed program frames (call ∷ calls) l ≡ placed program frames calls l
  placed_below l e =
      ap (λ (o : Option Placed). o >>= λ (b : Placed). part_along program.types b.type_id l.path >>=
      λ q. Some (part_placed b q)) (object_below l.object e)
