-- Read: a word of the input is taken into a variable of the code, and from there into a word.
use Rattle.std.proofs.Common.{◌≡◌, ℕ, suc, ◌+◌, ◌^◌, ◌<◌, ◌≤◌, true, List, [], ◌∷◌, length, Some}
use Rattle.std.proofs.Common.{None, refl, sym, ap, ◌∙◌, subst, arith, length-append}
use Rattle.std.specs.Prelude.{ℤ, pos, negsuc, slice_set, slice_index_or, if◌then◌else◌}
use Rattle.std.specs.Int.{w32}
use Rattle.std.specs.Int.RustNames.{FitsSigned}
use Rattle.std.proofs.lemmas.Bool.{lt-ltb, ltb-true}
use Rattle.std.proofs.lemmas.Int.{ints}
use Rattle.std.proofs.lemmas.List.{get_or-set_same, get_or-set_other, length-set}
use Rattle.pra_list.proofs.Choices.{and_true}
use Rattle.pra_base.specs.Code as code
use Rattle.pra_base.specs.Code.{kind_of}
use Rattle.pra_base.specs.RunEnd as run
use Rattle.pra_base.specs.Words.{word, fits_word}
use Rattle.pra_base.specs.declared.event.TrapKind.TheVariants.{Input as NoInput}
use Rattle.pra_base.specs.declared.ids.VarId.{VarId}
use Rattle.pra_base.specs.declared.code.Addr.{Addr}
use Rattle.pra_base.specs.declared.code.VarKind.TheVariants.{Plain}
use Rattle.pra_base.specs.declared.code.VInstr.TheVariants.{Read, Store}
use Rattle.pra_base.specs.declared.code.VProc.{VProc}
use Rattle.ob_syntax.specs.Expressions.{integer}
use Rattle.ob_syntax.specs.declared.checked.RStmt.{RStmt-F}
use Rattle.ob_syntax.specs.declared.checked.RVar.{RVar}
use Rattle.ob_syntax.specs.declared.checked.Value.TheVariants.{Number}
use Rattle.ob_mean.specs.Expressions.{location}
use Rattle.ob_mean.specs.Statements as mean
use Rattle.ob_mean.specs.Statements.{Normal, with, read_to, stmt_step}
use Rattle.ob_mean.specs.Store.{assigned}
use Rattle.ob_mean.specs.declared.store.LiveCall.{LiveCall}
use Rattle.ob_mean.specs.declared.store.Location.{Location}
use Rattle.vc_code.specs.declared.value.Value.TheVariants.{Num}
use Rattle.vc_code.specs.Value.{Words}
use Rattle.vc_code.specs.Machine.{Activation, State, with_top, ended, takes, found, with_rest}
use Rattle.vc_code.specs.Selected.{Vars, valued, code_of, at_point, behind, put_all, written}
use Rattle.vc_build.specs.Grow.{IsOpen, with_instr, with_variable, Grows, GrowsAt}
use Rattle.vc_build.specs.Runs.{Codes, runs, SameBelow}
use Rattle.vc_build.proofs.Growth.{grows_on, grows_at_again, put_code, put_open, put_grows}
use Rattle.vc_build.proofs.Growth.{declared_kind, declared_count, declared_grows}
use Rattle.vc_build.proofs.Steps.{performs}
use Rattle.vc_expr.specs.Operators.{HasValue}
use Rattle.vc_select.specs.declared.target.Setting.{Setting}
use Rattle.vc_select.specs.declared.target.Target.{Target}
use Rattle.vc_select.specs.declared.target.Target.TheVariants.{Var, Memory}
use Rattle.vc_select.specs.Selects.{home_variables, Locates, Finds}
use Rattle.vc_select.specs.Targets.{above_target, IsNamed}
use Rattle.vc_select.proofs.Keeping.{extends_on, extends_at, named_on}
use Rattle.vc_select.proofs.Sides.{of_type}
use Rattle.vc_typed.specs.Typing.{Typing, variable_typing, is_of}
use Rattle.vc_stmt.specs.Completes.{are_words, Shows, Comes, HasEnding, Completes}
use Rattle.vc_stmt.specs.Does.{Matches, Does}
use Rattle.vc_stmt.specs.Stores.{Reads}
use Rattle.vc_stmt.proofs.Completing.{shows_over, comes_after, completes_value}
use Rattle.vc_stmt.proofs.Matching.{starts_with, matches_at, matches_but, matches_on}
use Rattle.vc_stmt.proofs.Storing.{within, matches_put, stores_word}

fits_from : (n : ℤ) → fits_word n ≡ true → FitsSigned w32 n
fits_from (pos n) e = let lt = ltb-true n (2 ^ 31) e in omega (arith, lt, ints)
fits_from (negsuc n) e = let lt = ltb-true n (2 ^ 31) e in omega (arith, lt, ints)

-- of the words that are left the first one
words_of : (m : mean.State) (n : ℤ) (rest : List ℤ) → are_words m.input ≡ true → m.input ≡
    n ∷ rest → (fits_word n ≡ true) × (are_words rest ≡ true)
words_of m n rest words is = and_true (fits_word n) (are_words rest) (sym (ap are_words is) ∙ words)

-- what a target names does not go by the input
named_seen : (g : Setting) (w : Codes) (calls : List LiveCall) (s : State Vars)
    (c : Activation Vars) (rest : List ℤ) (target : Target) (l : Location) (type_id : ℕ) →
    IsNamed g.program.now w calls (with_top s c) target l type_id → IsNamed g.program.now w calls
    (with_rest rest s c) target l type_id
named_seen g w calls s c rest (Var v) l type_id x = x
named_seen g w calls s c rest (Memory a) l type_id x =
    record {
      object = x.object;
      word = x.word;
      place = x.place;
      begin = x.begin;
      offset = x.offset;
      index = x.index;
      base_is = x.base_is;
      offset_is = x.offset_is;
      index_is = x.index_is;
      sum =
          x.sum;
    }

-- what was taken
abbrev behind_input : mean.State → List ℤ → mean.State
behind_input m rest = record m { input = rest; taken = m.taken + 1 }

module _ (g : Setting) (w : Codes) (old : VProc) (at : ℕ) (calls : List LiveCall)
    (waiting : List Vars) (m : mean.State) (s : State Vars)
    (matches : Matches g w old at calls waiting m s)
    (v : VarId) (o : IsOpen old at)
    (grows : Grows (with_instr at (Read v) old) (code_of w.procs g.id.0)) where
  abbrev made : VProc
  made = with_instr at (Read v) old

  takes_it : runs w 1 s ≡ takes s s.input (λ xs. written s.top (v.0 ∷ []) xs)
  takes_it = performs w g.id.0 at old s o matches.starts.stands (Read v)
      (starts_with g w old at calls waiting m s matches made grows).runs

  no_more : m.input ≡ [] → (least : ℕ) (R : mean.State → State Vars → Type 0) (l : Location) →
      Completes w s least R (read_to [] l m)
  no_more none least R l =
      let one : runs w 1 s ≡ ended s (run.Trapped NoInput) =
      takes_it ∙ ap (λ z. takes s z (λ xs. written s.top (v.0 ∷ []) xs))
      (matches.shows.input ∙ none) in
      record {
        steps = 1;
        enough = omega arith;
        good = subst (HasEnding (Some (run.Trapped NoInput)) m) (sym one)
            (record {
              over = refl;
              shows = shows_over m s (ended s (run.Trapped NoInput)) refl refl
                  refl matches.shows;
            });
      }

  -- the variable has the word
  module _ (n : ℤ) (rest : List ℤ) (is : m.input ≡ n ∷ rest)
      (declared : v.0 < length s.top.home.held) where
    abbrev held_after : Words
    held_after = slice_set s.top.home.held v.0 (Some (Num (word n)))

    abbrev call_after : Activation Vars
    call_after = at_point s.top s.top.home.block (suc s.top.home.index) held_after

    taken_it : runs w 1 s ≡ with_rest rest s call_after
    taken_it =
        takes_it
        ∙ ap (λ z. takes s z (λ xs. written s.top (v.0 ∷ []) xs)) (matches.shows.input ∙ is)
        ∙ ap (λ b. found s (behind s.top (put_all (if b then Some held_after else None) [] []))
        (with_rest rest s)) (lt-ltb v.0 (length s.top.home.held) declared)

    both_words : (fits_word n ≡ true) × (are_words rest ≡ true)
    both_words = words_of m n rest matches.shows.words is

    shows_taken : Shows (behind_input m rest) (with_rest rest s call_after)
    shows_taken = record {
      input = refl;
      words = both_words.1;
      events = matches.shows.events;
      taken = ap suc matches.shows.taken ∙ one_more m.taken;
    }
      where
        one_more : (k : ℕ) → suc k ≡ k + 1
        one_more k = omega arith

-- ---- into a variable of the code

pub reads_variable : (g : Setting) (old : VProc) (at : ℕ) (u : VarId) → IsOpen old at →
    Reads g at old (with_instr at (Read u) old) (Var u)
reads_variable g old at u o = record {
  grows = put_grows at (Read u) old o;
  is_open = put_open at (Read u) old o;
  means = λ w least calls waiting m s l final matches named. by_input w least calls waiting m s l
      final matches named m.input refl;
}
  where
    by_input : (w : Codes) (least : ℕ) (calls : List LiveCall) (waiting : List Vars)
        (m : mean.State) (s : State Vars) (l : Location) → Grows (with_instr at (Read u) old)
        (code_of w.procs g.id.0) → Matches g w old at calls waiting m s →
        IsNamed g.program.now w calls s (Var u) l integer →
        (input : List ℤ) → m.input ≡ input →
        Completes w s least (Matches g w (with_instr at (Read u) old) at calls waiting)
        (read_to m.input l m)
    by_input w least calls waiting m s l final matches named [] is =
        subst (λ (z : List ℤ). Completes w s least
        (Matches g w (with_instr at (Read u) old) at calls waiting) (read_to z l m)) (sym is)
        (no_more g w old at calls waiting m s matches u o final is least
        (Matches g w (with_instr at (Read u) old) at calls waiting) l)
    by_input w least calls waiting m s l final matches named (n ∷ rest) is =
        let holds = grows_on old (with_instr at (Read u) old) (code_of w.procs g.id.0)
        (put_grows at (Read u) old o).grows final in
        let there = within g w old at calls waiting m s matches holds l integer (Number n) refl
        (words_of m n rest matches.shows.words is).0 u.0 named in
        let words = both_words g w old at calls waiting m s matches u o final n rest is there in
        let after : mean.State =
        record m { store = assigned m.store l (Number n); input = rest; taken = m.taken + 1 } in
        let shows = shows_taken g w old at calls waiting m s matches u o final n rest is there in
        let reached : State Vars =
        with_rest rest s (call_after g w old at calls waiting m s matches u o final n rest is
        there) in
        let good : Matches g w (with_instr at (Read u) old) at calls waiting after reached =
        matches_put g w old at calls waiting m s matches holds l integer (Number n) refl words.0 u.0
        named (Read u) o final rest (suc s.taken) after refl
        (record {
          input = shows.input;
          words = shows.words;
          events = shows.events;
          taken =
              shows.taken;
        }) in
        subst (λ (z : List ℤ). Completes w s least
        (Matches g w (with_instr at (Read u) old) at calls waiting) (read_to z l m)) (sym is)
        (record {
          steps = 1;
          enough = omega arith;
          good =
              subst (Matches g w (with_instr at (Read u) old) at calls waiting after)
              (sym (taken_it g w old at calls waiting m s matches u o final n rest is there)) good;
        })

-- ---- into a word, by a new variable of the code

module _ (g : Setting) (old : VProc) (at : ℕ) (a : Addr) (t : VarId) (o : IsOpen old at)
    (is_new : t.0 ≡ length old.vars) (named_before : above_target (Memory a) ≤ length old.vars)
  where
    abbrev mid : VProc
    mid = with_variable Plain old

    abbrev read_code : VProc
    read_code = with_instr at (Read t) mid

    abbrev new : VProc
    new = with_instr at (Store a t) read_code

    mid_open : IsOpen mid at
    mid_open = o

    read_open : IsOpen read_code at
    read_open = put_open at (Read t) mid mid_open

    read_grows : GrowsAt at read_code new
    read_grows = put_grows at (Store a t) read_code read_open

    module _ (w : Codes) (calls : List LiveCall) (waiting : List Vars) (m : mean.State)
        (s : State Vars) (l : Location) (final : Grows new (code_of w.procs g.id.0))
        (matches : Matches g w old at calls waiting m s)
        (named : IsNamed g.program.now w calls s (Memory a) l integer) where
      read_final : Grows read_code (code_of w.procs g.id.0)
      read_final = grows_on read_code new (code_of w.procs g.id.0) read_grows.grows final

      t_there : t.0 < length read_code.vars
      t_there = omega (arith, is_new, declared_count Plain old)

      declared_held : t.0 < length s.top.home.held
      declared_held = omega (arith, t_there, read_final.vars, matches.starts.runs.room)

      homes : home_variables g ≤ length mid.vars
      homes = omega (arith, matches.starts.homes, declared_count Plain old)

      at_mid : Matches g w mid at calls waiting m s
      at_mid = matches_at g w old at calls waiting m s matches mid at
          (record { block = matches.starts.stands.block; index = matches.starts.stands.index })
          homes

      module _ (n : ℤ) (rest : List ℤ) (is : m.input ≡ n ∷ rest) where
        abbrev next_call : Activation Vars
        next_call = call_after g w mid at calls waiting m s at_mid t mid_open read_final n rest is
            declared_held

        abbrev reached : State Vars
        reached = with_rest rest s next_call

        words : (fits_word n ≡ true) × (are_words rest ≡ true)
        words = both_words g w mid at calls waiting m s at_mid t mid_open read_final n rest is
            declared_held

        same : SameBelow (length old.vars) s.top next_call
        same = record {
          proc = refl;
          aggregates = refl;
          args = refl;
          room = length-set s.top.home.held t.0 (Some (Num (word n)));
          held = λ u lt. get_or-set_other s.top.home.held t.0 u (Some (Num (word n))) None
              (λ e. omega (arith, e, lt, is_new));
        }

        at_read : Matches g w read_code at calls waiting (behind_input m rest) reached
        at_read =
            matches_but g w mid at calls waiting m s at_mid reached read_code at
            (behind_input m rest)
            refl matches.starts.runs.going refl same.room refl refl
            (record {
              block = matches.starts.stands.block;
              index =
                  omega (
                    arith,
                    matches.starts.stands.index,
                    ap (λ z. length z) (put_code at (Read t) mid mid_open),
                    length-append (code.code_of mid at) (Read t ∷ []),
                  );
            })
            homes (shows_taken g w mid at calls waiting m s at_mid t mid_open read_final n rest is
            declared_held) refl
            (record { proc = refl; aggregates = refl; args = refl; below = refl; globals = refl })
            (λ u lt. same.held u (omega (arith, lt, matches.starts.homes)))

        kind : kind_of (code_of w.procs g.id.0) t.0 ≡ Plain
        kind = read_final.kinds t.0 t_there ∙ ap (kind_of mid) is_new ∙ declared_kind Plain old

        has : HasValue w g.id.0 t.0 next_call (Number n)
        has = record {
          fits = fits_from n words.0;
          held = ap (λ k. valued k (slice_index_or next_call.home.held t.0 None)) kind
              ∙ get_or-set_same s.top.home.held t.0 (Some (Num (word n))) None declared_held;
        }

        comes_read : Comes w s 0
            (Matches g w new at calls waiting
            (record m { store = assigned m.store l (Number n); input = rest; taken = m.taken + 1 }))
        comes_read =
            comes_after w s reached 1
            (taken_it g w mid at calls waiting m s at_mid t mid_open read_final n rest is
            declared_held) 0 0 _ (omega arith)
            ((stores_word g read_code at a t read_open).means w calls waiting (behind_input m rest)
            reached l integer (Number n) final at_read
            (named_seen g w calls s next_call rest (Memory a) l integer
            (named_on w (length old.vars) s next_call same g.program.now calls
            (Memory a) l integer named_before named))
            refl has words.0)

    pub reads_word : Reads g at old new (Memory a)
    reads_word = record {
      grows = grows_at_again old read_code new at
          (grows_at_again old mid read_code at (declared_grows Plain old at)
          (put_grows at (Read t) mid mid_open)) read_grows;
      is_open = put_open at (Store a t) read_code read_open;
      means = λ w least calls waiting m s l final matches named. by_input w least calls waiting m s
          l
          final matches named m.input refl;
    }
      where
        by_input : (w : Codes) (least : ℕ) (calls : List LiveCall) (waiting : List Vars)
            (m : mean.State) (s : State Vars) (l : Location) → Grows new (code_of w.procs g.id.0) →
            Matches g w old at calls waiting m s → IsNamed g.program.now w calls s
            (Memory a) l integer →
            (input : List ℤ) → m.input ≡ input →
            Completes w s least (Matches g w new at calls waiting) (read_to m.input l m)
        by_input w least calls waiting m s l final matches named [] is =
            subst (λ (z : List ℤ). Completes w s least (Matches g w new at calls waiting)
            (read_to z l m)) (sym is)
            (no_more g w mid at calls waiting m s (at_mid w calls waiting m s l final matches named)
            t
            mid_open (read_final w calls waiting m s l final matches named) is least
            (Matches g w new at calls waiting) l)
        by_input w least calls waiting m s l final matches named (n ∷ rest) is =
            subst (λ (z : List ℤ). Completes w s least (Matches g w new at calls waiting)
            (read_to z l m)) (sym is)
            (comes_read w calls waiting m s l final matches named n rest is)

-- ---- the statement

module _ (g : Setting) (old mid new : VProc) (from to : ℕ) (target : Target) (v : RVar)
    (p : Locates g old mid from to target (variable_typing g.program.now g.id.0 v)
    (location g.program.now v)) (r : Reads g to mid new target) where
  abbrev of_variable : Typing
  of_variable = variable_typing g.program.now g.id.0 v

  pub does_read : Does g old new from to (is_of integer of_variable)
      (stmt_step g.program.now (RStmt-F.Read v))
  does_read = record {
    extends = extends_on from to to old mid new p.extends (extends_at to mid new r.grows r.is_open);
    means = λ w least a waiting m s final matches typed le follow.
        let good = of_type integer of_variable typed in
        let mid_final = grows_on mid new (code_of w.procs g.id.0) r.grows.grows final in
        completes_value w s least m
        (Finds g w mid to a.calls s (length old.vars) target of_variable.type_id)
        (Matches g w new to a.calls waiting) (location g.program.now v a.calls m.store)
        (λ l. read_to m.input l m) matches.shows
        (p.means w a.calls m.store s
        (starts_with g w old from a.calls waiting m s matches mid mid_final) good.0)
        (λ l c found.
        r.means w least a.calls waiting m (with_top s c) l final
        (matches_on g w old from a.calls waiting m s matches (length old.vars) c mid to
        matches.starts.homes found.same found.stands
        (omega (arith, matches.starts.homes, p.extends.grows.grows.vars)))
        (subst (IsNamed g.program.now w a.calls (with_top s c) target l) good.1 found.named));
  }
