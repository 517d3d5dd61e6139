-- A step of code is a step of the reduced code, or none where its instruction is left out.
use Rattle.std.proofs.Common.{◌≡◌, ◌≢◌, ℕ, suc, ◌<◌, ◌⊎◌, inl, inr, ⊎_elim, Bool, true, false}
use Rattle.std.proofs.Common.{nat_lt, if◌then◌else◌, List, [], ◌∷◌, drop, length, map, slice_get}
use Rattle.std.proofs.Common.{slice_index_or, Option, Some, None, refl, sym, ap, ap₂, subst, ◌∙◌}
use Rattle.std.proofs.Common.{arith}
use Rattle.std.proofs.lemmas.Bool.{cases_eq}
use Rattle.std.proofs.lemmas.Option.{get_or_from_slice_get, slice_get-get_or, slice_get_within}
use Rattle.pra_base.proofs.Roles.{among_reads, writes_among, among_writes}
use Rattle.pra_list.proofs.Elements.{nothing_left, left_begins}
use Rattle.pra_list.proofs.Truths.{true_false, truth, false_from, if_true, if_false}
use Rattle.pra_list.specs.Among.{Among}
use Rattle.pra_list.specs.Options.{◌>>=◌}
use Rattle.pra_list.proofs.Options.{some_same, not_both}
use Rattle.pra_base.specs.System.{run}
use Rattle.pra_base.specs.RunEnd.{Ended, Wrong}
use Rattle.pra_base.specs.Words.{compares, is_positive}
use Rattle.pra_base.specs.declared.ids.VarId.{VarId}
use Rattle.pra_base.specs.declared.ids.ProcId.{ProcId}
use Rattle.pra_base.specs.declared.code.VInstr.{VInstr}
use Rattle.pra_base.specs.declared.code.VInstr.TheVariants as instr
use Rattle.pra_base.specs.declared.code.End.{End}
use Rattle.pra_base.specs.declared.code.End.TheVariants.{Jump, Branch, Return}
use Rattle.pra_base.specs.declared.code.Block.{Block}
use Rattle.pra_base.specs.declared.code.VProc.{VProc}
use Rattle.pra_base.specs.Code.{kind_of, code_of, instr_at, end_of, IsTarget, no_block}
use Rattle.pra_base.specs.Operands.{reads, writes, read_by, written_by}
use Rattle.vc_code.specs.declared.value.Value.{Value}
use Rattle.vc_code.specs.declared.value.Value.TheVariants.{Num}
use Rattle.vc_code.specs.declared.action.Action.{Action}
use Rattle.vc_code.specs.declared.action.Action.TheVariants as action
use Rattle.vc_code.specs.declared.action.Here.{Here}
use Rattle.vc_code.specs.Value.{Held, Words}
use Rattle.vc_code.specs.Operation.{operate, both, number_at, value_at, placed}
use Rattle.vc_code.specs.Machine.{Activation, State, Machine, Instr, here, found, with_top}
use Rattle.vc_code.specs.Machine.{number_in, apply, act, act_on, step, returned, goes_to, branched}
use Rattle.vc_code.specs.Machine.{leave}
use Rattle.vc_code.specs.Selected.{Vars, read, valued, at_point, at_block, behind, written, held_by}
use Rattle.vc_code.specs.Selected.{next_of, put_all, begun, selected}
use Rattle.vc_code.specs.Selected as selection
use Rattle.vc_same.specs.Pure.{is_pure}
use Rattle.vc_same.specs.Renaming.{Names, renamed}
use Rattle.vc_same.specs.Reduction.{Needed, StandsFor, Stays, LeftOut, Part, Reduced}
use Rattle.vc_same.specs.Reduction.LeftOut.{dead, copied}
use Rattle.vc_same.specs.Reduction.Part.{ends, stays, left_out}
use Rattle.vc_coupling.specs.Coupled.{AllBeside, Same, Leads}
use Rattle.vc_coupling.proofs.Applied.{found_same, with_top_same, ended_same, performed}
use Rattle.vc_same.proofs.Renamed.{read_by_renamed, written_by_renamed, reads_renamed, writes_from}
use Rattle.vc_same.proofs.Renamed.{operate_renamed}
use Rattle.vc_same.proofs.OtherKinds.{valued_twice, overwrites_written}
use Rattle.vc_same.proofs.Put.{put_rest, put_one, put_both}
use Rattle.vc_same.proofs.Paths.{needed_read, needed_over, needed_leave}
use Rattle.vc_same.proofs.Tracked.{Counts, Tracks, couples, begun_tracks}

-- ---- what goes on

-- the action gives values, and does nothing else
abbrev is_quiet : Option Action → Bool
is_quiet None = true
is_quiet (Some (action.Give x)) = true
is_quiet (Some (action.GiveBoth x y)) = true
is_quiet (Some (action.Load x o)) = true
is_quiet _ = false

behind_is : (c x : Activation Vars) (o : Option Words) → behind c o ≡ Some x → (held : Words) ×
    (o ≡ Some held) × (x ≡ at_point c c.home.block (suc c.home.index) held)
behind_is c x None e = absurd (not_both None x refl e)
behind_is c x (Some held) e = (held, refl, sym (some_same _ _ e))

module _ {H : Type 0} where
  went_on : {X : Type 0} (s : State H) (o : Option X) (go : X → State H) →
      (found s o go).over ≢ Some Wrong → (x : X) × (o ≡ Some x) × (found s o go ≡ go x)
  went_on s None go ok = absurd (ok refl)
  went_on s (Some x) go ok = (x, refl, refl)

  -- only the call goes on, with values in its written roles
  abbrev Quietly : (List Value → Option (Activation H)) → State H → State H → Type 0
  Quietly after s t = (xs : List Value) × (x : Activation H) × (after xs ≡ Some x) ×
      (t ≡ with_top s x)

  quietly : (m : Machine H) (after : List Value → Option (Activation H)) (s : State H)
      (a : Option Action) → is_quiet a ≡ true → (apply m after a s).over ≢ Some Wrong →
      Quietly after s (apply m after a s)
  quietly m after s None e ok = absurd (ok refl)
  quietly m after s (Some (action.Give v)) e ok = let r =
      went_on s (after (v ∷ [])) (λ x. with_top s x) ok in (v ∷ [], r.0, r.1, r.2)
  quietly m after s (Some (action.GiveBoth v w)) e ok = let r = went_on s (after (v ∷ w ∷ []))
      (λ x. with_top s x) ok in (v ∷ w ∷ [], r.0, r.1, r.2)
  quietly m after s (Some (action.Load x o)) e ok =
      let n = went_on s (number_in m.shape s x o)
      (λ k. found s (after (Num k ∷ [])) (λ c. with_top s c)) ok in
      let r = went_on s (after (Num n.0 ∷ [])) (λ c. with_top s c)
      (λ f. ok (ap (λ z. z.over) n.2 ∙ f)) in
      (Num n.0 ∷ [], r.0, r.1, n.2 ∙ r.2)
  quietly m after s (Some action.Nothing) e ok = cc
  quietly m after s (Some (action.Compare a b)) e ok = cc
  quietly m after s (Some (action.Push x)) e ok = cc
  quietly m after s (Some (action.Call p)) e ok = cc
  quietly m after s (Some (action.Store x o n)) e ok = cc
  quietly m after s (Some (action.Tell x)) e ok = cc
  quietly m after s (Some action.Input) e ok = cc
  quietly m after s (Some action.Clear) e ok = cc
  quietly m after s (Some (action.Trap k)) e ok = cc

bound : {A : Type 0} (o : Option A) (f : A → Option Action) → ((x : A) → is_quiet (f x) ≡ true) →
    is_quiet (o >>= f) ≡ true
bound None f g = refl
bound (Some x) f g = g x

chosen : (b : Bool) (x y : Option Action) → is_quiet x ≡ true → is_quiet y ≡ true →
    is_quiet (if b then x else y) ≡ true
chosen true x y f g = f
chosen false x y f g = g

pure_quiet : (place : Here) (i : VInstr) (held : List Held) → is_pure i ≡ true →
    is_quiet (operate place i held) ≡ true
pure_quiet place (instr.Set v n) held e = refl
pure_quiet place (instr.Copy v s) held e = bound (value_at held 0) _ (λ x. refl)
pure_quiet place (instr.Add v s) held e = bound (both held) _ (λ x. refl)
pure_quiet place (instr.Sub v s) held e = bound (both held) _ (λ x. refl)
pure_quiet place (instr.And v s) held e = bound (both held) _ (λ x. refl)
pure_quiet place (instr.Or v s) held e = bound (both held) _ (λ x. refl)
pure_quiet place (instr.Xor v s) held e = bound (both held) _ (λ x. refl)
pure_quiet place (instr.Mul v s) held e = bound (both held) _ (λ x. refl)
pure_quiet place (instr.Neg v) held e = bound (number_at held 0) _ (λ x. refl)
pure_quiet place (instr.Shift op v n) held e = bound (number_at held 0) _ (λ x. refl)
pure_quiet place (instr.CmpSet c v a b) held e = bound (both held) _ (λ x. refl)
pure_quiet place (instr.DivMod q r a d) held e =
    bound (both held) _ (λ x. chosen (is_positive x.1) _ _ refl refl)
pure_quiet place (instr.Load v a) held e = bound (placed place a held) _ (λ x. refl)
pure_quiet place (instr.Addr v a) held e = bound (placed place a held) _ (λ x. refl)
pure_quiet place (instr.Cmp a b) held e = cc
pure_quiet place (instr.Check v n) held e = cc
pure_quiet place (instr.CheckPos v) held e = cc
pure_quiet place (instr.Store a s) held e = cc
pure_quiet place (instr.Push s) held e = cc
pure_quiet place (instr.Call p) held e = cc
pure_quiet place (instr.Read v) held e = cc
pure_quiet place (instr.Write s) held e = cc
pure_quiet place instr.Line held e = cc
pure_quiet place instr.Clear held e = cc

copy_goes_on : {H : Type 0} (m : Machine H) (after : List Value → Option (Activation H))
    (s : State H) (h : Held) → (apply m after (h >>= (λ x. Some (action.Give x))) s).over ≢ Some
    Wrong →
    (v : Value) × (x : Activation H) × (h ≡ Some v) × (after (v ∷ []) ≡ Some x) ×
    (apply m after (h >>= (λ x. Some (action.Give x))) s ≡ with_top s x)
copy_goes_on m after s None ok = absurd (ok refl)
copy_goes_on m after s (Some v) ok = let r = went_on s (after (v ∷ [])) (λ x. with_top s x) ok in
    (v, r.0, refl, r.1, r.2)

-- ---- values

each_read : (to : Names) (old new : VProc) (held beside : Words) (vs : List ℕ) →
    ((v : ℕ) → Among v vs → read (kind_of new) beside (to v) ≡ read (kind_of old) held v) →
    map (read (kind_of new) beside) (map to vs) ≡ map (read (kind_of old) held) vs
each_read to old new held beside [] f = refl
each_read to old new held beside (v ∷ vs) f = ap₂ (λ (h : Held) (l : List Held). h ∷ l)
    (f v (inl refl)) (each_read to old new held beside vs (λ w m. f w (inr m)))

module _ (olds news : List VProc) (to : ℕ → Names) (frames : List ℕ)
    (all : (p : ℕ) → Reduced (to p) (selection.code_of olds p) (selection.code_of news p)) where
  abbrev pub R : Activation Vars → Activation Vars → Type 0
  R = Tracks olds news to

  abbrev m : Machine Vars
  m = selected olds frames

  abbrev n : Machine Vars
  n = selected news frames

  abbrev old : ℕ → VProc
  old p = selection.code_of olds p

  abbrev new : ℕ → VProc
  new p = selection.code_of news p

  first_step : (s : State Vars) → s.over ≡ None → (o : Option VInstr) →
      instr_at (old s.top.proc) s.top.home.block s.top.home.index ≡ o → step m s ≡
      act m (next_of (old s.top.proc) s.top o) s
  first_step s going o is = ap (λ e. act_on m e s) going
      ∙ ap (λ q. act m (next_of (old s.top.proc) s.top q) s) is

  other_step : (s t : State Vars) → Same R s t → s.over ≡ None → (o : Option VInstr) →
      instr_at (new s.top.proc) s.top.home.block t.top.home.index ≡ o → step n t ≡
      act n (next_of (new s.top.proc) t.top o) t
  other_step s t r going o is =
      let place : instr_at (new t.top.proc) t.top.home.block t.top.home.index ≡ o =
      ap₂ (λ p b. instr_at (new p) b t.top.home.index) r.top.proc r.top.block ∙ is in
      ap (λ e. act_on n e t) (r.over ∙ going) ∙ ap₂ (λ p q. act n (next_of (new p) t.top q) t)
      r.top.proc place

  -- how much is left of the running call's block
  abbrev pub measure : State Vars → ℕ
  measure s = length (drop s.top.home.index (code_of (old s.top.proc) s.top.home.block))

  -- ---- an instruction that stays

  module _ (s t : State Vars) (r : Same R s t) (i j : VInstr) (xs ys : List VInstr)
      (left : drop s.top.home.index (code_of (old s.top.proc) s.top.home.block) ≡ i ∷ xs)
      (right : drop t.top.home.index (code_of (new s.top.proc) s.top.home.block) ≡ j ∷ ys)
      (st : Stays (to s.top.proc) (old s.top.proc) (new s.top.proc) s.top.home.block
      s.top.home.index i j)
      (rest : Part (to s.top.proc) (old s.top.proc) (new s.top.proc) s.top.home.block
      (suc s.top.home.index) (suc t.top.home.index) xs ys) where
    abbrev p : ℕ
    p = s.top.proc

    abbrev b : ℕ
    b = s.top.home.block

    abbrev k : ℕ
    k = s.top.home.index

    abbrev l : ℕ
    l = t.top.home.index

    is : instr_at (old p) b k ≡ Some i
    is = (left_begins (code_of (old p) b) xs k i left).0

    beside : instr_at (new p) b l ≡ Some j
    beside = (left_begins (code_of (new p) b) ys l j right).0

    -- what an instruction reads holds the same
    read_counts : (v : ℕ) → reads i v ≡ true → Counts (to p) (old p) (new p) b k l v
    read_counts v e = record {
      kind = st.kinds v (inl e);
      here = needed_read (old p) b k v i is e;
      there = needed_read (new p) b l (to p v) j beside
          (subst (λ x. reads x (to p v) ≡ true) (sym st.is) (reads_renamed (to p) i v e));
    }

    same_reads : map (read (kind_of (new p)) t.top.home.held) (map (to p) (read_by i)) ≡
        map (read (kind_of (old p)) s.top.home.held) (read_by i)
    same_reads = each_read (to p) (old p) (new p) s.top.home.held t.top.home.held (read_by i)
        (λ v among. r.top.agrees v (read_counts v (among_reads i v among)))

    -- what is not written stays as it was
    counts_before : (v : ℕ) → Counts (to p) (old p) (new p) b (suc k) (suc l) v → writes i v ≡
        false → Counts (to p) (old p) (new p) b k l v
    counts_before v counts free = record {
      kind = counts.kind;
      here = needed_over (old p) b k v i is free counts.here;
      there = needed_over (new p) b l (to p v) j beside
          (false_from (writes j (to p v)) written_there) counts.there;
    }
      where
        written_there : writes j (to p v) ≡ true → ⊥
        written_there e =
            let from = writes_from (to p) i (to p v) (subst (λ x. writes x (to p v) ≡ true) st.is e)
            in
            let same : v ≡ from.0 = st.apart from.0 v (overwrites_written i from.0 from.1)
            counts.here from.2 in
            true_false (writes i v) (subst (λ u. writes i u ≡ true) (sym same) from.1) free

    go_on : (values : List Value) → Leads R (written s.top (written_by i) values)
        (written t.top (map (to p) (written_by i)) values)
    go_on values x e =
        let w = behind_is s.top x (put_all (Some s.top.home.held) (written_by i) values) e in
        let made = put_both (to p) (old p) (new p)
        (λ v. Counts (to p) (old p) (new p) b (suc k) (suc l) v) (λ v counts. counts.kind)
        (written_by i) values s.top.home.held w.0 t.top.home.held r.top.held r.top.beside
        (λ v among. st.in_range v (inr (among_writes i v among)))
        (λ v u among counts same. st.apart v u (overwrites_written i v (among_writes i v among))
        counts.here same)
        (λ v counts. ⊎_elim
        (λ (wr : writes i v ≡ true). inl (writes_among i v wr))
        (λ (free : writes i v ≡ false). inr (r.top.agrees v (counts_before v counts free)))
        (truth (writes i v)))
        w.1 in (
          at_point t.top t.top.home.block (suc l) made.0,
          ap (λ o. behind t.top o) made.1,
          subst (λ z. R z (at_point t.top t.top.home.block (suc l) made.0)) (sym w.2) (record {
            proc = r.top.proc;
            args = r.top.args;
            aggregates = r.top.aggregates;
            block = r.top.block;
            part = subst (λ z. Part (to p) (old p) (new p) b (suc k) (suc l) z
                (drop (suc l) (code_of (new p) b)))
                (sym (left_begins (code_of (old p) b) xs k i left).1)
                (subst (λ z. Part (to p) (old p) (new p) b (suc k) (suc l) xs z)
                (sym (left_begins (code_of (new p) b) ys l j right).1) rest);
            held = made.2;
            beside = made.3;
            agrees = made.4;
          }),
        )

    stays_step : s.over ≡ None →
        ((q : ProcId) → Leads R (m.begin q.0 s.pushed) (n.begin q.0 s.pushed)) →
        (step m s).over ≢ Some Wrong → Same R (step m s) (step n t)
    stays_step going begins ok =
        let up = first_step s going (Some i) is in
        let down : step n t ≡ act n
        (Instr i (map (read (kind_of (new p)) t.top.home.held) (map (to p) (read_by i)))
        (λ vs. written t.top (map (to p) (written_by i)) vs)) t =
        other_step s t r going (Some j) beside
        ∙ ap (λ (x : VInstr). act n (next_of (new p) t.top (Some x)) t) st.is
        ∙ ap₂ (λ (reading : List ℕ) (writing : List ℕ). apply n (λ vs. written t.top writing vs)
        (operate (here n.shape t) (renamed (to p) i)
        (map (read (kind_of (new p)) t.top.home.held) reading)) t) (read_by_renamed (to p) i)
        (written_by_renamed (to p) i)
        ∙ ap (λ a. apply n (λ vs. written t.top (map (to p) (written_by i)) vs) a t)
        (operate_renamed (to p) (here n.shape t)
        (map (read (kind_of (new p)) t.top.home.held) (map (to p) (read_by i))) i) in
        let done = performed m n R (couples olds news to frames all) s t r
        (λ vs. written s.top (written_by i) vs)
        (λ vs. written t.top (map (to p) (written_by i)) vs) go_on
        i (held_by (old p) s.top (read_by i)) _ same_reads (λ q _. begins q)
        (λ e. ok (ap (λ z. z.over) up ∙ e)) in
        subst (λ z. Same R z (step n t)) (sym up)
        (subst (λ z. Same R (act m (next_of (old p) s.top (Some i)) s) z) (sym down) done)

  -- ---- an instruction that is left out

  module _ (s t : State Vars) (r : Same R s t) (i : VInstr) (xs : List VInstr)
      (left : drop s.top.home.index (code_of (old s.top.proc) s.top.home.block) ≡ i ∷ xs)
      (out : LeftOut (to s.top.proc) (old s.top.proc) (new s.top.proc) s.top.home.block
      t.top.home.index i)
      (rest : Part (to s.top.proc) (old s.top.proc) (new s.top.proc) s.top.home.block
      (suc s.top.home.index) t.top.home.index xs
      (drop t.top.home.index (code_of (new s.top.proc) s.top.home.block))) where
    abbrev p' : ℕ
    p' = s.top.proc

    abbrev b' : ℕ
    b' = s.top.home.block

    abbrev k' : ℕ
    k' = s.top.home.index

    abbrev l' : ℕ
    l' = t.top.home.index

    is_here : instr_at (old p') b' k' ≡ Some i
    is_here = (left_begins (code_of (old p') b') xs k' i left).0

    -- the call behind it tracks the same call, if values agree there
    behind_tracks : (x : Activation Vars) (held : Words) → x ≡ at_point s.top b' (suc k') held →
        length held ≡ length s.top.home.held →
        ((v : ℕ) → Counts (to p') (old p') (new p') b' (suc k') l' v →
        read (kind_of (new p')) t.top.home.held (to p' v) ≡ read (kind_of (old p')) held v) →
        R x t.top
    behind_tracks x held e long agrees = subst (λ z. R z t.top) (sym e) (record {
      proc = r.top.proc;
      args = r.top.args;
      aggregates = r.top.aggregates;
      block = r.top.block;
      part = subst (λ z. Part (to p') (old p') (new p') b' (suc k') l' z
          (drop l' (code_of (new p') b'))) (sym (left_begins (code_of (old p') b') xs k' i left).1)
          rest;
      held = long ∙ r.top.held;
      beside = r.top.beside;
      agrees = agrees;
    })

    -- the state behind it is the same, and one instruction less is left
    abbrev Done : State Vars → Type 0
    Done z = Same R z t × (measure z ≡ length (drop (suc k') (code_of (old p') b')))

    quiet_same : (x : Activation Vars) (held : Words) → x ≡ at_point s.top b' (suc k') held →
        R x t.top → Done (with_top s x)
    quiet_same x held e k = (
      record {
        top = k;
        below = r.below;
        pushed = r.pushed;
        globals =
            r.globals;
        compared = λ ab e. cc;
        input = r.input;
        events = r.events;
        taken = r.taken;
        over = r.over;
      },
      ap (λ (c : Activation Vars). length
          (drop c.home.index (code_of (old c.proc) c.home.block))) e,
    )

    dead_step : (act m (next_of (old p') s.top (Some i)) s).over ≢ Some Wrong → is_pure i ≡ true →
        ((v : ℕ) → writes i v ≡ true → Needed (new p') b' l' (to p' v) → ⊥) →
        Done (act m (next_of (old p') s.top (Some i)) s)
    dead_step ok pure unneeded =
        let q = quietly m (λ vs. written s.top (written_by i) vs) s
        (operate (here m.shape s) i (held_by (old p') s.top (read_by i)))
        (pure_quiet (here m.shape s) i (held_by (old p') s.top (read_by i)) pure) ok in
        let w = behind_is s.top q.1 (put_all (Some s.top.home.held) (written_by i) q.0) q.2 in
        let kept = put_rest (written_by i) q.0 s.top.home.held w.0 w.1 in
        subst Done (sym q.3) (quiet_same q.1 w.0 w.2 (behind_tracks q.1 w.0 w.2 kept.0
        (λ v counts.
        let free : writes i v ≡ false = false_from (writes i v) (λ e. unneeded v e counts.there) in
        r.top.agrees v (record {
          kind = counts.kind;
          here =
              needed_over (old p') b' k' v i is_here free counts.here;
          there = counts.there;
        })
        ∙ ap (λ h. valued (kind_of (old p') v) h)
        (sym (kept.1 v (λ among. true_false (writes i v) (among_writes i v among) free))))))

    -- what the target of a copy holds behind it, if both may have one name
    copied_value : (a c : VarId) (after : Words) (x : Value) →
        StandsFor (kind_of (new p') (to p' c.0)) (kind_of (old p') a.0) →
        StandsFor (kind_of (new p') (to p' c.0)) (kind_of (old p') c.0) →
        slice_index_or after a.0 None ≡ Some x →
        read (kind_of (old p')) s.top.home.held c.0 ≡ Some x →
        read (kind_of (old p')) after a.0 ≡ read (kind_of (old p')) s.top.home.held c.0
    copied_value a c after x target source held value =
        ap (λ h. valued (kind_of (old p') a.0) h) (held ∙ sym value)
        ∙ valued_twice (kind_of (new p') (to p' c.0)) (kind_of (old p') a.0) (kind_of (old p') c.0)
        (slice_index_or s.top.home.held c.0 None) target source

    copy_step : (a c : VarId) → i ≡ instr.Copy a c → to p' a.0 ≡ to p' c.0 →
        StandsFor (kind_of (new p') (to p' c.0)) (kind_of (old p') c.0) →
        (act m (next_of (old p') s.top (Some (instr.Copy a c))) s).over ≢ Some Wrong →
        Done (act m (next_of (old p') s.top (Some (instr.Copy a c))) s)
    copy_step a c same names stands ok =
        let is_copy : instr_at (old p') b' k' ≡ Some (instr.Copy a c) = is_here ∙ ap Some same in
        let q = copy_goes_on m (λ vs. written s.top (a.0 ∷ []) vs) s
        (read (kind_of (old p')) s.top.home.held c.0) ok in
        let w = behind_is s.top q.1 (put_all (Some s.top.home.held) (a.0 ∷ []) (q.0 ∷ [])) q.3 in
        let kept = put_rest (a.0 ∷ []) (q.0 ∷ []) s.top.home.held w.0 w.1 in
        subst Done (sym q.4) (quiet_same q.1 w.0 w.2 (behind_tracks q.1 w.0 w.2 kept.0
        (λ v counts.
        ⊎_elim
        (λ (e : v ≡ a.0).
        let source : Counts (to p') (old p') (new p') b' k' l' c.0 = record {
          kind = stands;
          here = needed_read (old p') b' k' c.0 (instr.Copy a c) is_copy
              (among_reads (instr.Copy a c) c.0 (inl refl));
          there = subst (λ u. Needed (new p') b' l' u) (ap (to p') e ∙ names) counts.there;
        } in
        let target : StandsFor (kind_of (new p') (to p' c.0)) (kind_of (old p') a.0) =
        subst (λ u. StandsFor (kind_of (new p') u) (kind_of (old p') a.0)) names
        (subst (λ u. StandsFor (kind_of (new p') (to p' u)) (kind_of (old p') u)) e counts.kind) in
        let value : read (kind_of (old p')) w.0 a.0 ≡ read (kind_of (old p')) s.top.home.held c.0 =
        copied_value a c w.0 q.0 target stands (put_one s.top.home.held w.0 a.0 q.0 w.1) q.2 in
        ap (λ u. read (kind_of (new p')) t.top.home.held u) (ap (to p') e ∙ names)
        ∙ r.top.agrees c.0 source ∙ sym value ∙ ap (λ u. read (kind_of (old p')) w.0 u) (sym e))
        (λ (other : v ≢ a.0).
        let apart : Among v (a.0 ∷ []) → ⊥ = λ among. ⊎_elim (λ (e : v ≡ a.0). other e)
        (λ (none : ⊥). none) among in
        let free : writes (instr.Copy a c) v ≡ false = false_from (writes (instr.Copy a c) v)
        (λ e. apart (writes_among (instr.Copy a c) v e)) in
        r.top.agrees v (record {
          kind = counts.kind;
          here = needed_over (old p') b' k' v
              (instr.Copy a c) is_copy free counts.here;
          there = counts.there;
        })
        ∙ ap (λ h. valued (kind_of (old p') v) h) (sym (kept.1 v apart)))
        (cases_eq v a.0))))

    left_out_step : s.over ≡ None → (step m s).over ≢ Some Wrong → Done (step m s)
    left_out_step going ok =
        let up = first_step s going (Some i) is_here in
        subst Done (sym up) (by out (λ e. ok (ap (λ z. z.over) up ∙ e)))
      where
        by : LeftOut (to p') (old p') (new p') b' l' i →
            (act m (next_of (old p') s.top (Some i)) s).over ≢ Some Wrong →
            Done (act m (next_of (old p') s.top (Some i)) s)
        by (dead pure unneeded) ok = dead_step ok pure unneeded
        by (copied {t = a} {s = c} same names stands) ok =
            subst (λ j. Done (act m (next_of (old p') s.top (Some j)) s)) (sym same)
            (copy_step a c same names stands
            (subst (λ j. (act m (next_of (old p') s.top (Some j)) s).over ≢ Some Wrong) same
            ok))

  -- ---- the end of a block

  there_too : {A : Type 0} (xs ys : List A) (b : ℕ) (x d : A) → length ys ≡ length xs →
      slice_get xs b ≡ Some x → slice_get ys b ≡ Some (slice_index_or ys b d)
  there_too xs ys b x d long e = let lt : b < length xs = slice_get_within xs b x e in
      slice_get-get_or ys b d (omega (arith, lt, long))

  jumped : (c x : Activation Vars) (b : ℕ) (o : Option Block) → at_block c b o ≡ Some x →
      (block : Block) × (o ≡ Some block) × (x ≡ at_point c b 0 c.home.held)
  jumped c x b None e = absurd (not_both None x refl e)
  jumped c x b (Some block) e = (block, refl, sym (some_same _ _ e))

  module _ (s t : State Vars) (r : Same R s t)
      (left : drop s.top.home.index (code_of (old s.top.proc) s.top.home.block) ≡ [])
      (right : drop t.top.home.index (code_of (new s.top.proc) s.top.home.block) ≡ []) where
    abbrev p'' : ℕ
    p'' = s.top.proc

    abbrev b'' : ℕ
    b'' = s.top.home.block

    over_here : instr_at (old p'') b'' s.top.home.index ≡ None
    over_here = nothing_left (code_of (old p'') b'') s.top.home.index left

    over_there : instr_at (new p'') b'' t.top.home.index ≡ None
    over_there = nothing_left (code_of (new p'') b'') t.top.home.index right

    jumps : (b : ℕ) → IsTarget (end_of (old p'') b'') b → Leads R (m.jump b s.top) (n.jump b t.top)
    jumps b target x e =
        let a = jumped s.top x b (slice_get (old p'').blocks b) e in
        let there = there_too (old p'').blocks (new p'').blocks b a.0 no_block (all p'').count
        a.1 in
        let in_new : IsTarget (end_of (new p'') b'') b =
        subst (λ z. IsTarget z b) (sym ((all p'').ends b'')) target in (
          at_point t.top b 0 t.top.home.held,
          ap (λ q. at_block t.top b (slice_get (new q).blocks b)) r.top.proc
              ∙ ap (λ o. at_block t.top b o) there,
          subst (λ z. R z (at_point t.top b 0 t.top.home.held)) (sym a.2) (record {
            proc = r.top.proc;
            args = r.top.args;
            aggregates = r.top.aggregates;
            block = refl;
            part = (all p'').code b;
            held = r.top.held;
            beside = r.top.beside;
            agrees = λ v counts. r.top.agrees v (record {
              kind = counts.kind;
              here = needed_leave (old p'') b'' s.top.home.index b v over_here target counts.here;
              there = needed_leave (new p'') b'' t.top.home.index b (to p'' v) over_there in_new
                  counts.there;
            });
          }),
        )

    returns : (cs ds : List (Activation Vars)) → AllBeside R cs ds →
        Same R (returned s cs) (returned t ds)
    returns [] [] k = ended_same m n R (couples olds news to frames all) s t Ended r
    returns [] (d ∷ ds) k = elim k [ ]
    returns (c ∷ cs) [] k = elim k [ ]
    returns (c ∷ cs) (d ∷ ds) k =
        record {
          top = k.0;
          below = k.1;
          pushed = r.pushed;
          globals = r.globals;
          compared =
              λ ab e. cc;
          input = r.input;
          events = r.events;
          taken = r.taken;
          over = r.over;
        }

    goes : (b : ℕ) → Leads R (m.jump b s.top) (n.jump b t.top) → (goes_to m s b).over ≢ Some Wrong →
        Same R (goes_to m s b) (goes_to n t b)
    goes b f ok = found_same m n R (couples olds news to frames all) R s t (m.jump b s.top)
        (n.jump b t.top) _ _ f (λ x y _ k _. with_top_same m n R (couples olds news to frames all) s
        t r x y k) ok

    leaves : (e : End) → ((b : ℕ) → IsTarget e b → Leads R (m.jump b s.top) (n.jump b t.top)) →
        (o : Option (ℕ × ℕ)) → s.compared ≡ o → (leave m e s).over ≢ Some Wrong →
        Same R (leave m e s) (leave n e t)
    leaves (Jump b) f o e ok = goes b.0 (f b.0 refl) ok
    leaves Return f o e ok = returns s.below t.below r.below
    leaves (Branch c one other) f None e ok =
        absurd (ok (ap (λ o. (branched m c one.0 other.0 o s).over) e))
    leaves (Branch c one other) f (Some (x, y)) e ok =
        let up : branched m c one.0 other.0 s.compared s ≡
        goes_to m s (if compares c x y then one.0 else other.0) =
        ap (λ o. branched m c one.0 other.0 o s) e in
        let down : branched n c one.0 other.0 t.compared t ≡
        goes_to n t (if compares c x y then one.0 else other.0) =
        ap (λ o. branched n c one.0 other.0 o t) (r.compared (x, y) e) in
        rw (up, down) (goes (if compares c x y then one.0 else other.0)
        (f _ (target (compares c x y))) (λ w. ok (ap (λ z. z.over) up ∙ w)))
      where
        target : (way : Bool) → IsTarget (Branch c one other) (if way then one.0 else other.0)
        target true = inl refl
        target false = inr refl

    end_step : s.over ≡ None → (step m s).over ≢ Some Wrong → Same R (step m s) (step n t)
    end_step going ok =
        let up : step m s ≡ leave m (end_of (old p'') b'') s = first_step s going None over_here in
        let down : step n t ≡ leave n (end_of (old p'') b'') t =
        other_step s t r going None over_there ∙ ap (λ b. leave n (end_of (new p'') b) t)
        r.top.block ∙ ap (λ e. leave n e t) ((all p'').ends b'') in
        rw (up, down) (leaves (end_of (old p'') b'') jumps s.compared refl
        (λ e. ok (ap (λ z. z.over) up ∙ e)))

  -- ---- calls

  called : (t : Bool) (c x : Activation Vars) → (if t then Some c else None) ≡ Some x → x ≡ c
  called true c x e = sym (some_same c x e)
  called false c x e = absurd (not_both None x refl e)

  begun_is : (p : ℕ) (args : Words) (o : Option VProc) (x : Activation Vars) →
      selection.begin p o args ≡ Some x → (code : VProc) × (o ≡ Some code) ×
      (nat_lt 0 (length code.blocks) ≡ true) × (x ≡ begun p code args)
  begun_is p args None x e = absurd (not_both None x refl e)
  begun_is p args (Some code) x e =
      ⊎_elim
      (λ (is : nat_lt 0 (length code.blocks) ≡ true).
      (code, refl, is, called (nat_lt 0 (length code.blocks)) (begun p code args) x e))
      (λ (is : nat_lt 0 (length code.blocks) ≡ false).
      absurd (not_both _ x (if_false (nat_lt 0 (length code.blocks)) (Some (begun p code args))
      None is) e))
      (truth (nat_lt 0 (length code.blocks)))

  module _ (long : length news ≡ length olds) where
    begins : (p : ℕ) (args : Words) → Leads R (m.begin p args) (n.begin p args)
    begins p args x e =
        let c = begun_is p args (slice_get olds p) x e in
        let same : old p ≡ c.0 = get_or_from_slice_get olds p c.0 selection.no_proc c.1 in
        let there = there_too olds news p c.0 selection.no_proc long c.1 in
        let some_block : nat_lt 0 (length (new p).blocks) ≡ true =
        ap (λ k. nat_lt 0 k) ((all p).count ∙ ap (λ (code : VProc). length code.blocks) same)
        ∙ c.2 in (
          begun p (new p) args,
          ap (λ o. selection.begin p o args) there ∙ if_true (nat_lt 0 (length (new p).blocks))
              (Some (begun p (new p) args)) None some_block,
          subst (λ z. R z (begun p (new p) args)) (ap (λ code. begun p code args) same ∙ sym c.3)
              (begun_tracks olds news to frames all p args),
        )

    -- ---- a step

    pub moves : (s t : State Vars) → Same R s t → s.over ≡ None → (step m s).over ≢ Some Wrong →
        (k : ℕ) × ((0 < k) ⊎ (measure (step m s) < measure s)) ×
        Same R (step m s) (run (step n) k t)
    moves s t r going ok = by _ _ refl refl r.top.part
      where
        shorter : (i : VInstr) (xs : List VInstr) →
            drop s.top.home.index (code_of (old s.top.proc) s.top.home.block) ≡ i ∷ xs →
            drop (suc s.top.home.index) (code_of (old s.top.proc) s.top.home.block) ≡ xs →
            measure (step m s) ≡ length
            (drop (suc s.top.home.index) (code_of (old s.top.proc) s.top.home.block)) →
            measure (step m s) < measure s
        shorter i xs e f g =
            let now : measure s ≡ suc (length xs) = ap length e in
            let next : length (drop (suc s.top.home.index)
            (code_of (old s.top.proc) s.top.home.block)) ≡ length xs = ap length f in
            omega (arith, now, next, g)

        by : (xs ys : List VInstr) →
            drop s.top.home.index (code_of (old s.top.proc) s.top.home.block) ≡ xs →
            drop t.top.home.index (code_of (new s.top.proc) s.top.home.block) ≡ ys →
            Part (to s.top.proc) (old s.top.proc) (new s.top.proc) s.top.home.block s.top.home.index
            t.top.home.index xs ys → (k : ℕ) × ((0 < k) ⊎ (measure (step m s) < measure s)) ×
            Same R (step m s) (run (step n) k t)
        by _ _ e f ends = (1, inl (omega arith), end_step s t r e f going ok)
        by _ _ e f (stays {x = i} {y = j} {xs = xs} {ys = ys} st rest) = (
          1,
          inl (omega arith),
          stays_step s t r i j xs ys e f st rest going
              (λ q. begins q.0 s.pushed) ok,
        )
        by _ ys e f (left_out {x = i} {xs = xs} out rest) =
            let done = left_out_step s t r i xs e out
            (subst (λ z. Part (to s.top.proc) (old s.top.proc) (new s.top.proc) s.top.home.block
            (suc s.top.home.index) t.top.home.index xs z) (sym f) rest) going ok in (
              0,
              inr (shorter i xs e (left_begins (code_of (old s.top.proc) s.top.home.block) xs
                  s.top.home.index i e).1 done.1),
              done.0,
            )
