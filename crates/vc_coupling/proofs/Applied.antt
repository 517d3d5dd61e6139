-- One action, applied to two states that are the same but for the calls' homes, leaves two such
-- states.
use Rattle.std.proofs.Common.{◌≡◌, ◌≢◌, ℕ, suc, ◌+◌, ◌/◌, ◌%◌, ℤ, Bool, true, false, ◌&&◌, nat_eq}
use Rattle.std.proofs.Common.{nat_lt, if◌then◌else◌, List, [], ◌∷◌, ◌++◌, length, slice_get}
use Rattle.std.proofs.Common.{slice_set, Option, Some, None, refl, sym, ap, ap₂, subst, ◌∙◌}
use Rattle.pra_base.specs.RunEnd.{RunEnd, Wrong, Trapped}
use Rattle.pra_base.specs.declared.ids.ProcId.{ProcId}
use Rattle.pra_base.specs.declared.code.VInstr.{VInstr}
use Rattle.pra_base.specs.declared.event.TrapKind.TheVariants as trap
use Rattle.vc_code.specs.declared.value.Object.{Object}
use Rattle.vc_code.specs.declared.value.Object.TheVariants.{Data, Aggregates, Cell}
use Rattle.vc_code.specs.declared.value.Value.{Value}
use Rattle.vc_code.specs.declared.value.Value.TheVariants.{Num}
use Rattle.vc_code.specs.declared.action.Action.{Action}
use Rattle.vc_code.specs.declared.action.Action.TheVariants.{Nothing, Give, GiveBoth, Compare, Push}
use Rattle.vc_code.specs.declared.action.Action.TheVariants.{Call, Load, Store, Tell, Input, Clear}
use Rattle.vc_code.specs.declared.action.Action.TheVariants.{Trap}
use Rattle.vc_code.specs.Value.{Held, Words}
use Rattle.pra_base.specs.Words.{word, stack_limit}
use Rattle.vc_code.specs.Operation.{number, operate}
use Rattle.vc_code.specs.Machine.{Shape, Activation, State, Machine, Instr, depth, here, cell}
use Rattle.vc_code.specs.Machine.{words_of, object, word_at, with_aggregates, calls_with}
use Rattle.vc_code.specs.Machine.{with_calls, with_object, ended, found, with_top, joined, entered}
use Rattle.vc_code.specs.Machine.{takes, zeroed, apply, act}
use Rattle.vc_coupling.specs.Coupled.{AllBeside, Couples, Same, Leads}

abbrev nil : (X : Type 0) → List X
nil X = []

-- two choices by one test
either : {A B : Type 0} (R : A → B → Type 0) (b d : Bool) (x y : A) (z w : B) → d ≡ b →
    (b ≡ true → R x z) → (b ≡ false → R y w) → R (if b then x else y) (if d then z else w)
either R true d x y z w e f g = subst (λ q. R x (if q then z else w)) (sym e) (f refl)
either R false d x y z w e f g = subst (λ q. R y (if q then z else w)) (sym e) (g refl)

not_wrong : (s : Option RunEnd) → s ≡ Some Wrong → s ≢ Some Wrong → ⊥
not_wrong s e n = n e

module _ {A B : Type 0} (m : Machine A) (n : Machine B) (R : Activation A → Activation B → Type 0)
    (c : Couples m.shape n.shape R) where
  abbrev one : ℕ → Shape
  one = m.shape

  abbrev other : ℕ → Shape
  other = n.shape

  same_length : (cs : List (Activation A)) (ds : List (Activation B)) → AllBeside R cs ds →
      length ds ≡ length cs
  same_length [] [] r = refl
  same_length (a ∷ cs) [] r = elim r [ ]
  same_length [] (b ∷ ds) r = elim r [ ]
  same_length (x ∷ cs) (y ∷ ds) r = let e : length ds ≡ length cs = same_length cs ds r.1 in
      rw e refl

  same_depth : (cs : List (Activation A)) (ds : List (Activation B)) → AllBeside R cs ds →
      depth other ds ≡ depth one cs
  same_depth [] [] r = refl
  same_depth (a ∷ cs) [] r = elim r [ ]
  same_depth [] (b ∷ ds) r = elim r [ ]
  same_depth (x ∷ cs) (y ∷ ds) r = ap₂ (λ m n. m + n) (c.frames x y r.0) (same_depth cs ds r.1)

  same_words : (cs : List (Activation A)) (ds : List (Activation B)) → AllBeside R cs ds →
      (x : Object) → words_of other ds x ≡ words_of one cs x
  same_words [] [] r x = refl
  same_words (a ∷ cs) [] r x = elim r [ ]
  same_words [] (b ∷ ds) r x = elim r [ ]
  same_words (a ∷ cs) (b ∷ ds) r Data = refl
  same_words (a ∷ cs) (b ∷ ds) r (Aggregates n sum) =
      either (λ u v. v ≡ u) (nat_eq n (length cs) && nat_eq sum (depth one (a ∷ cs))) _ _ _ _ _
      (ap₂ (λ l m. nat_eq n l && nat_eq sum m) (same_length cs ds r.1)
      (same_depth (a ∷ cs) (b ∷ ds) r))
      (λ _. c.aggregates a b r.0)
      (λ _. same_words cs ds r.1 (Aggregates n sum))
  same_words (a ∷ cs) (b ∷ ds) r (Cell n below i) =
      either (λ u v. v ≡ u) (nat_eq n (length cs) && nat_eq below (depth one cs)) _ _ _ _ _
      (ap₂ (λ l m. nat_eq n l && nat_eq below m) (same_length cs ds r.1) (same_depth cs ds r.1))
      (λ _. c.cells a b r.0 i)
      (λ _. same_words cs ds r.1 (Cell n below i))

  same_object : (s : State A) (t : State B) → Same R s t → (x : Object) → object other t x ≡
      object one s x
  same_object s t r Data = r.globals
  same_object s t r (Aggregates n sum) = same_words (s.top ∷ s.below) (t.top ∷ t.below)
      (r.top, r.below) (Aggregates n sum)
  same_object s t r (Cell n below i) = same_words (s.top ∷ s.below) (t.top ∷ t.below)
      (r.top, r.below) (Cell n below i)

  pub same_here : (s : State A) (t : State B) → Same R s t → here other t ≡ here one s
  same_here s t r =
      let l : length t.below ≡ length s.below = same_length s.below t.below r.below in
      let d : depth other (t.top ∷ t.below) ≡ depth one (s.top ∷ s.below) =
      same_depth (s.top ∷ s.below) (t.top ∷ t.below) (r.top, r.below) in
      let e : depth other t.below ≡ depth one s.below = same_depth s.below t.below r.below in
      rw (l, d, e) refl

  -- a word of an object that has words, written in both
  same_set : (cs : List (Activation A)) (ds : List (Activation B)) → AllBeside R cs ds →
      (x : Object) (w : ℕ) (h : Held) → words_of one cs x ≢ [] →
      AllBeside R (calls_with one cs x w h) (calls_with other ds x w h)
  same_set [] [] r x w h n = tt
  same_set (a ∷ cs) [] r x w h n = elim r [ ]
  same_set [] (b ∷ ds) r x w h n = elim r [ ]
  same_set (a ∷ cs) (b ∷ ds) r Data w h n = r
  same_set (a ∷ cs) (b ∷ ds) r (Aggregates m sum) w h n =
      let test = nat_eq m (length cs) && nat_eq sum (depth one (a ∷ cs)) in
      either (AllBeside R) test _ _ _ _ _
      (ap₂ (λ l k. nat_eq m l && nat_eq sum k) (same_length cs ds r.1)
      (same_depth (a ∷ cs) (b ∷ ds) r))
      (λ _. (
        subst (λ ws. R (with_aggregates a (slice_set a.aggregates w h))
            (with_aggregates b (slice_set ws w h))) (sym (c.aggregates a b r.0))
            (c.set_aggregates a b r.0 (slice_set a.aggregates w h)),
        r.1,
      ))
      (λ e. (
        r.0,
        same_set cs ds r.1 (Aggregates m sum) w h
            (λ q. n (ap (λ t. if t then a.aggregates else words_of one cs (Aggregates m sum)) e
            ∙ q)),
      ))
  same_set (a ∷ cs) (b ∷ ds) r (Cell m below i) w h n =
      let test = nat_eq m (length cs) && nat_eq below (depth one cs) in
      either (AllBeside R) test _ _ _ _ _
      (ap₂ (λ l k. nat_eq m l && nat_eq below k) (same_length cs ds r.1) (same_depth cs ds r.1))
      (λ e. (
        c.set_cell a b r.0 i h
            (λ q. n (ap (λ t. if t then cell one a i else words_of one cs (Cell m below i)) e ∙ q)),
        r.1,
      ))
      (λ e. (
        r.0,
        same_set cs ds r.1 (Cell m below i) w h
            (λ q. n (ap (λ t. if t then cell one a i else words_of one cs (Cell m below i)) e ∙ q)),
      ))

  -- ---- states

  pub with_top_same : (s : State A) (t : State B) → Same R s t →
      (x : Activation A) (y : Activation B) → R x y → Same R (with_top s x) (with_top t y)
  with_top_same s t r x y k =
      record {
        top = k;
        below = r.below;
        pushed = r.pushed;
        globals = r.globals;
        compared =
            λ ab e. e;
        input = r.input;
        events = r.events;
        taken = r.taken;
        over = r.over;
      }

  pub ended_same : (s : State A) (t : State B) (e : RunEnd) → Same R s t →
      Same R (ended s e) (ended t e)
  ended_same s t e r = record {
    top = r.top;
    below = r.below;
    pushed = r.pushed;
    globals =
        r.globals;
    compared = r.compared;
    input = r.input;
    events = r.events;
    taken = r.taken;
    over =
        refl;
  }

  with_calls_same : (s : State A) (t : State B) → Same R s t →
      (cs : List (Activation A)) (ds : List (Activation B)) → AllBeside R cs ds →
      Same R (with_calls s cs) (with_calls t ds)
  with_calls_same s t r [] [] k = r
  with_calls_same s t r (x ∷ cs) [] k = elim k [ ]
  with_calls_same s t r [] (y ∷ ds) k = elim k [ ]
  with_calls_same s t r (x ∷ cs) (y ∷ ds) k =
      record {
        top = k.0;
        below = k.1;
        pushed = r.pushed;
        globals = r.globals;
        compared =
            r.compared;
        input = r.input;
        events = r.events;
        taken = r.taken;
        over = r.over;
      }

  with_object_same : (s : State A) (t : State B) → Same R s t → (x : Object) (w : ℕ) (h : Held) →
      object one s x ≢ [] → Same R (with_object one s x w h) (with_object other t x w h)
  with_object_same s t r Data w h n =
      record {
        top = r.top;
        below = r.below;
        pushed = r.pushed;
        globals =
            ap (λ (ws : Words). slice_set ws w h) r.globals;
        compared = r.compared;
        input = r.input;
        events = r.events;
        taken = r.taken;
        over = r.over;
      }
  with_object_same s t r (Aggregates m sum) w h n =
      with_calls_same s t r _ _
      (same_set (s.top ∷ s.below) (t.top ∷ t.below) (r.top, r.below) (Aggregates m sum) w h n)
  with_object_same s t r (Cell m below i) w h n =
      with_calls_same s t r _ _
      (same_set (s.top ∷ s.below) (t.top ∷ t.below) (r.top, r.below) (Cell m below i) w h n)

  -- what goes on in the first goes on in the other
  pub found_same : {X Y : Type 0} (Q : X → Y → Type 0) (s : State A) (t : State B) (o : Option X)
      (p : Option Y) (go : X → State A) (then_ : Y → State B) → Leads Q o p →
      ((x : X) (y : Y) → o ≡ Some x → Q x y → (go x).over ≢ Some Wrong → Same R (go x) (then_ y)) →
      (found s o go).over ≢ Some Wrong → Same R (found s o go) (found t p then_)
  found_same Q s t None p go then_ f g ok = absurd (ok refl)
  found_same Q s t (Some x) p go then_ f g ok = let y = f x refl in
      subst (λ z. Same R (go x) (found t z then_)) (sym y.1) (g x y.0 refl y.2 ok)

  -- both read the same
  read_same : {X : Type 0} (o p : Option X) → p ≡ o → Leads (λ (x : X) y. y ≡ x) o p
  read_same o p e x is = (x, e ∙ is, refl)

  takes_same : (s : State A) (t : State B) → Same R s t →
      (after : List Value → Option (Activation A)) (behind : List Value → Option (Activation B)) →
      ((xs : List Value) → Leads R (after xs) (behind xs)) →
      (input : List ℤ) → (takes s input after).over ≢ Some Wrong → Same R (takes s input after)
      (takes t input behind)
  takes_same s t r after behind f [] ok = ended_same s t (Trapped trap.Input) r
  takes_same s t r after behind f (k ∷ rest) ok =
      found_same R s t _ _ _ _ (f (Num (word k) ∷ []))
      (λ x y _ q _. record {
        top = q;
        below = r.below;
        pushed = r.pushed;
        globals = r.globals;
        compared = λ ab e. e;
        input = refl;
        events = r.events;
        taken = ap suc r.taken;
        over =
            r.over;
      })
      ok

  none_there : (b : Bool) (k : ℕ) (h : Held) → (if b then slice_get (nil Held) k else None) ≡
      Some h → ⊥
  none_there true k h e = cc
  none_there false k h e = cc

  some_word : (words : Words) (o : ℕ) (h : Held) → word_at words o ≡ Some h → words ≢ []
  some_word words o h e none = none_there (nat_eq (o % 4) 0) (o / 4) h
      (ap (λ (ws : Words). word_at ws o) (sym none) ∙ e)

  -- ---- an action

  entered_same : (s : State A) (t : State B) → Same R s t → (c : Activation A) (d : Activation B) →
      R c d → (cs : List (Activation A)) (ds : List (Activation B)) → AllBeside R cs ds →
      Same R (entered one s c cs) (entered other t d ds)
  entered_same s t r x y k cs ds ks =
      either (Same R) (nat_lt stack_limit (depth one (x ∷ cs)))
      (nat_lt stack_limit (depth other (y ∷ ds))) _ _ _ _
      (ap (λ k. nat_lt stack_limit k) (same_depth (x ∷ cs) (y ∷ ds) (k, ks)))
      (λ _. ended_same s t (Trapped trap.Stack) r)
      (λ _. record {
        top = k;
        below = ks;
        pushed = refl;
        globals = r.globals;
        compared = λ ab e. e;
        input = r.input;
        events = r.events;
        taken = r.taken;
        over = r.over;
      })

  module _ (s : State A) (t : State B) (r : Same R s t) (after : List Value → Option (Activation A))
      (behind : List Value → Option (Activation B))
      (f : (xs : List Value) → Leads R (after xs) (behind xs)) where
    gives_same : (xs : List Value) → (found s (after xs) (λ c. with_top s c)).over ≢ Some Wrong →
        Same R (found s (after xs) (λ c. with_top s c)) (found t (behind xs) (λ d. with_top t d))
    gives_same xs ok = found_same R s t (after xs) (behind xs) _ _ (f xs)
        (λ x y _ k _. with_top_same s t r x y k) ok

    call_same : (p : ℕ) → Leads R (m.begin p s.pushed) (n.begin p s.pushed) →
        (found s (after []) (λ c. found s (m.begin p s.pushed)
        (λ e. entered one s e (c ∷ s.below)))).over ≢ Some Wrong →
        Same R (found s (after [])
        (λ c. found s (m.begin p s.pushed) (λ e. entered one s e (c ∷ s.below))))
        (found t (behind []) (λ d. found t (n.begin p t.pushed)
        (λ e. entered other t e (d ∷ t.below))))
    call_same p begins ok =
        found_same R s t (after []) (behind []) _ _ (f [])
        (λ x y _ k fine.
        found_same R s t (m.begin p s.pushed) (n.begin p t.pushed) _ _
        (subst (λ args. Leads R (m.begin p s.pushed) (n.begin p args)) (sym r.pushed) begins)
        (λ e g _ q _. entered_same s t r e g q (x ∷ s.below) (y ∷ t.below) (k, r.below))
        fine)
        ok

    load_same : (x : Object) (o : ℕ) →
        (found s (number (joined (word_at (object one s x) o)))
        (λ k. found s (after (Num k ∷ [])) (λ c. with_top s c))).over ≢ Some Wrong →
        Same R (found s (number (joined (word_at (object one s x) o)))
        (λ k. found s (after (Num k ∷ [])) (λ c. with_top s c)))
        (found t (number (joined (word_at (object other t x) o)))
        (λ k. found t (behind (Num k ∷ [])) (λ d. with_top t d)))
    load_same x o ok =
        found_same (λ a b. b ≡ a) s t (number (joined (word_at (object one s x) o)))
        (number (joined (word_at (object other t x) o))) _ _
        (read_same _ _ (ap (λ (ws : Words). number (joined (word_at ws o))) (same_object s t r x)))
        (λ k j _ e fine. subst (λ z. Same R (found s (after (Num k ∷ [])) (λ c. with_top s c))
        (found t (behind (Num z ∷ [])) (λ d. with_top t d))) (sym e)
        (gives_same (Num k ∷ []) fine))
        ok

    store_same : (x : Object) (o k : ℕ) →
        (found s (after []) (λ c. found s (word_at (object one (with_top s c) x) o)
        (λ old. with_object one (with_top s c) x (o / 4) (Some (Num k))))).over ≢ Some Wrong →
        Same R (found s (after [])
        (λ c. found s (word_at (object one (with_top s c) x) o)
        (λ old. with_object one (with_top s c) x (o / 4) (Some (Num k)))))
        (found t (behind []) (λ d. found t (word_at (object other (with_top t d) x) o)
        (λ old. with_object other (with_top t d) x (o / 4) (Some (Num k)))))
    store_same x o k ok =
        found_same R s t (after []) (behind []) _ _ (f [])
        (λ c d _ q fine.
        let top = with_top_same s t r c d q in
        found_same (λ a b. b ≡ a) s t (word_at (object one (with_top s c) x) o)
        (word_at (object other (with_top t d) x) o) _ _
        (read_same _ _ (ap (λ (ws : Words). word_at ws o)
        (same_object (with_top s c) (with_top t d) top x)))
        (λ old _ e _ _. with_object_same (with_top s c) (with_top t d) top x (o / 4) (Some (Num k))
        (some_word (object one (with_top s c) x) o old e))
        fine)
        ok

    pub applied : (a : Option Action) →
        ((p : ProcId) → a ≡ Some (Call p) → Leads R (m.begin p.0 s.pushed) (n.begin p.0 s.pushed)) →
        (apply m after a s).over ≢ Some Wrong → Same R (apply m after a s) (apply n behind a t)
    applied None begins ok = absurd (ok refl)
    applied (Some Nothing) begins ok = gives_same [] ok
    applied (Some (Give x)) begins ok = gives_same (x ∷ []) ok
    applied (Some (GiveBoth x y)) begins ok = gives_same (x ∷ y ∷ []) ok
    applied (Some (Compare a b)) begins ok =
        found_same R s t (after []) (behind []) _ _ (f [])
        (λ x y _ k _. record {
          top = k;
          below = r.below;
          pushed = r.pushed;
          globals = r.globals;
          compared = λ ab e. e;
          input = r.input;
          events = r.events;
          taken = r.taken;
          over =
              r.over;
        }) ok
    applied (Some (Push v)) begins ok =
        found_same R s t (after []) (behind []) _ _ (f [])
        (λ x y _ k _. record {
          top = k;
          below = r.below;
          pushed =
              ap (λ (ws : Words). Some v ∷ ws) r.pushed;
          globals = r.globals;
          compared = λ ab e. e;
          input = r.input;
          events = r.events;
          taken = r.taken;
          over = r.over;
        }) ok
    applied (Some (Call p)) begins ok = call_same p.0 (begins p refl) ok
    applied (Some (Load x o)) begins ok = load_same x o ok
    applied (Some (Store x o k)) begins ok = store_same x o k ok
    applied (Some (Tell e)) begins ok =
        found_same R s t (after []) (behind []) _ _ (f [])
        (λ x y _ k _. record {
          top = k;
          below = r.below;
          pushed = r.pushed;
          globals = r.globals;
          compared = λ ab e. e;
          input = r.input;
          events = ap (λ es. es ++ e ∷ []) r.events;
          taken = r.taken;
          over = r.over;
        }) ok
    applied (Some Input) begins ok =
        subst (λ input. Same R (takes s s.input after) (takes t input behind)) (sym r.input)
        (takes_same s t r after behind f s.input ok)
    applied (Some Clear) begins ok =
        found_same R s t (after []) (behind []) _ _ (f [])
        (λ x y _ k _. with_top_same s t r _ _
        (subst (λ ws. R (with_aggregates x (zeroed x.aggregates))
        (with_aggregates y (zeroed ws))) (sym (c.aggregates x y k))
        (c.set_aggregates x y k (zeroed x.aggregates)))) ok
    applied (Some (Trap k)) begins ok = ended_same s t (Trapped k) r

    -- an instruction whose operands hold the same
    pub performed : (i : VInstr) (held read : List Held) → read ≡ held →
        ((p : ProcId) → operate (here one s) i held ≡ Some (Call p) → Leads R (m.begin p.0 s.pushed)
        (n.begin p.0 s.pushed)) → (act m (Instr i held after) s).over ≢ Some Wrong →
        Same R (act m (Instr i held after) s) (act n (Instr i read behind) t)
    performed i held read e begins ok =
        subst (λ a. Same R (apply m after (operate (here one s) i held) s) (apply n behind a t))
        (sym (ap₂ (λ h l. operate h i l) (same_here s t r) e))
        (applied (operate (here one s) i held) begins ok)
