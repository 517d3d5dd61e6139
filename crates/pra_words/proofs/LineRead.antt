-- The simple command gives what the words say.
use Rattle.std.proofs.Common.{◌≡◌, ◌∙◌, ℕ, zero, suc, Bool, true, false, not, ◌||◌, if◌then◌else◌}
use Rattle.std.proofs.Common.{List, [], ◌∷◌, ◌++◌, map, slice_get, Option, Some, None, option_map}
use Rattle.std.proofs.Common.{find, refl, sym, ap, ap₂, append-nil}
use Rattle.std.specs.Prelude.{option_and_then, fold}
use Rattle.std.specs.List.{list_any, AllByRecursion as Each}
use Rattle.std.specs.Option.{option_map_or}
use Rattle.std.specs.Str.{IsUtf8, bytes_eq}
use Rattle.clap.specs.Facts.{explicit_source}
use Rattle.clap.specs.Lexer.{long_of}
use Rattle.clap.specs.Kinds.{or_else, check_kinds}
use Rattle.clap.specs.declared.error.kind.ErrorKind.TheVariants.{UnknownArgument, InvalidValue}
use Rattle.clap.specs.declared.error.kind.ErrorKind.TheVariants.{ArgumentConflict}
use Rattle.clap.specs.Walk.{Held, Row, Rule, Waiting, Walk, has_row, used, settled, reacted}
use Rattle.clap.specs.Walk.{with_default, word_met, subcommand_met, walked, after_step}
use Rattle.clap.specs.Walk.{nothing_held, finished, idle, option, value, next, plain_word}
use Rattle.clap.specs.Faults.{settle_fault, use_fault, turn_fault, default_fault}
use Rattle.clap.specs.Faults.{given_default_fault, defaults_fault, check_fault, step_fault}
use Rattle.clap.specs.Faults.{word_fault}
use Rattle.clap.proofs.WalkLemmas.{find-map}
use Rattle.pra_words.specs.declared.words.Word.{Word}
use Rattle.pra_words.specs.declared.words.Word.TheVariants.{Mode, File}
use Rattle.pra_words.specs.Texts.{word_name}
use Rattle.pra_words.specs.CommandLine.{Text, Look, named, Given, Next, any, value_of, itself, Line}
use Rattle.pra_words.specs.CommandLine.{place, option_named, any_word, option_value, gives, waits}
use Rattle.pra_words.specs.CommandLine.{look, is_of, is_once, value_in, line_by, line_in, line_from}
use Rattle.pra_words.specs.CommandLine.{line_of}
use Rattle.pra_words.specs.Command.{line_of_rows, unless, taken_line}
use Rattle.pra_words.proofs.LineRows.{top, rules, rule, row, by, repeat, held, pending, Good}
use Rattle.pra_words.proofs.LineRows.{good_held, good_pending, settle_word, settle_pending}
use Rattle.pra_words.proofs.LineRows.{no_value, use_is, has, one_more}
use Rattle.pra_words.proofs.LineLooks.{dashes, Seen, is_plain, is_end, is_named, is_dashed, seen}
use Rattle.pra_words.proofs.LineOnce.{after_given, turned, turned_nothing, turned_new, turned_again}
use Rattle.pra_words.proofs.LineOnce.{once_more}
use Rattle.pra_words.proofs.LineTurns.{Bad, at, after, clap_line, taken_is, line_ends, stops, goes}
use Rattle.pra_words.proofs.LineTurns.{stuck, stuck_behind, bad_end, joined_fault, joined_met}
use Rattle.pra_words.proofs.LineTurns.{apart_fault, apart_met, met_plain, fault_plain, met_named}
use Rattle.pra_words.proofs.LineTurns.{fault_named, bad_stops, end_goes, named_stops, dashed_stops}
use Rattle.pra_words.proofs.LineTurns.{turn_is, walked_is, place_fault, mode_walk, file_walk}
use Rattle.pra_words.proofs.LineTurns.{trailing_turn, trailing_walk}

-- ---- at the end

no_default : (a : Rule) (rows : List Row) → a.defaults ≡ [] → (default_fault rows a ≡ []) ×
    (with_default rows a ≡ rows)
no_default a rows e = (rw e (either (has_row a.id rows)), rw e (same (has_row a.id rows)))
  where
    either : (b : Bool) → (if b || true then [] else given_default_fault a []) ≡ []
    either true = refl
    either false = refl

    same : (b : Bool) → (if b then rows else rows) ≡ rows
    same true = refl
    same false = refl

no_defaults : (rs : List Rule) (rows : List Row) → Each (λ a. a.defaults ≡ []) rs →
    (defaults_fault rows rs ≡ []) × (fold with_default rows rs ≡ rows)
unfolding defaults_fault
no_defaults [] rows e = (refl, refl)
no_defaults (a ∷ rs) rows e =
    let here = no_default a rows e.0 in
    let rest = no_defaults rs rows e.1 in (
      ap₂ (λ k r. or_else k (defaults_fault r rs)) here.0 here.1 ∙ rest.0,
      ap (λ r. fold with_default r rs) here.1 ∙ rest.1,
    )

no_rule_defaults : Each (λ a. a.defaults ≡ []) rules
no_rule_defaults =
    (refl, (refl, (refl, (refl, (refl, (refl, (refl, (refl, (refl, (refl, tt))))))))))

find_is : (w : Word) (gs : List Given) → find (λ r. bytes_eq r.id (word_name w)) (map row gs) ≡
    option_map row (find (is_of w) gs)
find_is w gs = sym (find-map (λ r. bytes_eq r.id (word_name w)) row gs)

abbrev first : Option Row → Option Text
first o = option_and_then (λ r. slice_get r.values 0) o

abbrev missing : Option Row → Bool
missing o = not (option_map_or (λ r. explicit_source r.source) o false)

-- what is left to test, and what is told, by the rows of the words
abbrev told : Option Row → Option Row → (Word → Option Row) → Option Line
told m f rows = unless (check_kinds false false (missing m || (missing f || false)))
    (line_by (first m) (first f) (λ w. first (rows w)))

first_value : (o : Option Given) → first (option_map row o) ≡ option_map (λ g. g.value) o
first_value None = refl
first_value (Some g) = refl

told_is : (m f : Option Given) (gs : Word → Option Given) →
    told (option_map row m) (option_map row f) (λ w. option_map row (gs w)) ≡
    line_by (option_map (λ g. g.value) m) (option_map (λ g. g.value) f)
    (λ w. option_map (λ g. g.value) (gs w))
told_is None f gs = refl
told_is (Some m) None gs = refl
told_is (Some m) (Some f) gs = λ i. line_by (Some m.value) (Some f.value)
    (λ w. first_value (gs w) i)

checked : (gs : List Given) → unless (check_fault top (map row gs) false)
    (line_of_rows (map row gs)) ≡ line_in (value_in gs)
checked gs =
    (λ i. told (find_is Mode gs i) (find_is File gs i) (λ w. find_is w gs i))
    ∙ told_is (find (is_of Mode) gs) (find (is_of File) gs) (λ w. find (is_of w) gs)

ended : (h : Held) (gs : List Given) → Good h gs →
    unless (after h) (line_of_rows (finished rules h)) ≡ line_in (value_in gs)
ended h gs good =
    let d = no_defaults rules (map row gs) no_rule_defaults in
    ap₂ (λ k (s : Held). unless
    (or_else k (or_else (defaults_fault s.rows rules)
    (check_fault top (fold with_default s.rows rules) false)))
    (line_of_rows (fold with_default s.rows rules))) good.clean good.settles
    ∙ ap₂ (λ k r. unless (or_else k (check_fault top r false)) (line_of_rows r)) d.0 d.1
    ∙ checked gs

at_last : (h : Held) (gs : List Given) (wt : Waiting) (p : ℕ) (tr : Bool) → Good h gs → is_once gs ≡
    true → clap_line (at h wt p tr) [] ≡ line_from (gs ++ [])
at_last h gs wt p tr good once =
    line_ends (at h wt p tr) ∙ ended h gs good
    ∙ sym (ap line_from (append-nil gs) ∙ ap (λ b. if b then line_in (value_in gs) else None) once)

-- ---- word by word

data Stands : Next → List Given → Walk → Type 0 where
  anywhere : {n : ℕ} {h : Held} {gs : List Given} → Good h gs →
      Stands (any n) gs (at h idle (suc n) false)
  behind : {n : ℕ} {h : Held} {gs : List Given} → Good h gs →
      Stands (itself n) gs (at h idle (suc n) true)
  waiting : {o : Word} {n : ℕ} {gs : List Given} →
      Stands (value_of o n) gs (at (pending gs o []) (option (word_name o)) (suc n) false)

abbrev Follows : List Text → Type 0
Follows ws = (s : Next) (gs : List Given) (w : Walk) → is_once gs ≡ true → Stands s gs w →
    clap_line w ws ≡ after_given gs s ws

no_value_bad : (gs : List Given) (o : Word) → Bad (settle_fault rules false (pending gs o []))
no_value_bad gs o = (InvalidValue, [], settle_word o [] gs ∙ no_value o (map row gs))

again_bad : (gs : List Given) (w : Word) (v : Text) → list_any (is_of w) gs ≡ true →
    Bad (settle_fault rules false (pending gs w (v ∷ [])))
again_bad gs w v old = (ArgumentConflict, [], settle_pending gs w v ∙ ap repeat old)

module _ (word : Text) (ws : List Text) (u : Each IsUtf8 (word ∷ ws)) (more : Follows ws) where
  -- a value waits behind the word: it is the first of its word, or the line is refused
  kept : (gs : List Given) (w : Word) (n : ℕ) (tr : Bool) → is_once gs ≡ true → (t : Next) →
      ((h : Held) (l : List Given) → Good h l → Stands t l (at h idle (suc n) tr)) →
      clap_line (at (pending gs w (word ∷ [])) idle (suc n) tr) ws ≡
      turned gs (Some (by w word ∷ [], t)) ws
  kept gs w n tr once t stands = step (list_any (is_of w) gs) refl tr stands
    where
      step : (b : Bool) → list_any (is_of w) gs ≡ b → (tr : Bool) →
          ((h : Held) (l : List Given) → Good h l → Stands t l (at h idle (suc n) tr)) →
          clap_line (at (pending gs w (word ∷ [])) idle (suc n) tr) ws ≡
          turned gs (Some (by w word ∷ [], t)) ws
      step false e tr stands =
          more t (gs ++ by w word ∷ []) _ (once_more gs w word once e)
          (stands _ _ (good_pending gs w word e))
          ∙ turned_new gs (by w word ∷ []) t ws
      step true e true stands =
          stuck_behind ws (pending gs w (word ∷ [])) idle n (again_bad gs w word e)
          ∙ turned_again gs w word t ws e
      step true e false stands =
          stuck ws u.1 (pending gs w (word ∷ [])) n refl (again_bad gs w word e)
          ∙ turned_again gs w word t ws e

  -- a word that stands for itself
  stood : (n : ℕ) (h : Held) (gs : List Given) (tr : Bool) → Good h gs → is_once gs ≡ true →
      turn_fault top [] (at h idle (suc n) tr) word ≡ step_fault top (suc n) h value →
      walked rules [] (at h idle (suc n) tr) word ≡ after_step rules word (at h idle (suc n) tr) h
      value →
      (t : Next) → ((h : Held) (l : List Given) → Good h l →
      Stands t l (at h idle (suc (suc n)) tr)) →
      clap_line (at h idle (suc n) tr) (word ∷ ws) ≡ turned gs (gives (place n) word t) ws
  stood zero h gs tr good once turn walk t stands =
      goes (at h idle 1 tr) (at (pending gs Mode (word ∷ [])) idle 2 tr) word ws
      (turn ∙ place_fault zero h ∙ good.clean) (walk ∙ mode_walk h gs word tr good)
      ∙ kept gs Mode 1 tr once t stands
  stood (suc zero) h gs tr good once turn walk t stands =
      goes (at h idle 2 tr) (at (pending gs File (word ∷ [])) idle 3 tr) word ws
      (turn ∙ place_fault (suc zero) h ∙ good.clean) (walk ∙ file_walk h gs word tr good)
      ∙ kept gs File 2 tr once t stands
  stood (suc (suc n)) h gs tr good once turn walk t stands =
      stops (at h idle (suc (suc (suc n))) tr) word ws
      (UnknownArgument, [], turn ∙ place_fault (suc (suc n)) h)

  reacted_is : (h : Held) (gs : List Given) (o : Word) (v : Text) → Good h gs →
      list_any (is_of o) gs ≡ false → reacted rules (rule o) (v ∷ []) h ≡ held (gs ++ by o v ∷ [])
  reacted_is h gs o v good e =
      ap₂ (λ r k. record { rows = r; pending = None; skip = k })
      (ap (λ (x : Held). used (rule o) (v ∷ []) x.rows) good.settles ∙ one_more gs o v e) good.skip

  module _ (n : ℕ) (h : Held) (gs : List Given) (good : Good h gs) (once : is_once gs ≡ true) where
    abbrev here : Walk
    here = at h idle (suc n) false

    unknown : (name : Text) (v : Option Text) → bytes_eq word dashes ≡ false → long_of word ≡
        Some (name, v) → option_named name ≡ None → clap_line here (word ∷ ws) ≡ None
    unknown name v e l is =
        bad_stops h idle (suc n) word refl ws (
          UnknownArgument,
          [],
          fault_named h idle (suc n) word refl name v e l ∙ rw is refl,
        )

    joined : (name v : Text) → bytes_eq word dashes ≡ false → long_of word ≡ Some (name, Some v) →
        (o : Option Word) → option_named name ≡ o →
        clap_line here (word ∷ ws) ≡ turned gs (gives o v (any n)) ws
    joined name v e l None is = unknown name (Some v) e l is
    joined name v e l (Some o) is = step (list_any (is_of o) gs) refl
      where
        fault : word_fault top [] false idle word h ≡ repeat (list_any (is_of o) gs)
        fault =
            fault_named h idle (suc n) word refl name (Some v) e l
            ∙ rw (is, joined_fault o v h, good.clean)
            (ap (λ (s : Held). use_fault false (rule o) (v ∷ []) s.rows) good.settles
            ∙ use_is o v (map row gs) ∙ ap repeat (has o gs))

        met : word_met rules [] false idle (suc n) word h ≡
            (reacted rules (rule o) (v ∷ []) h, next idle)
        met =
            met_named h idle (suc n) word refl name (Some v) e l
            ∙ rw (is, joined_met o v h) refl

        step : (b : Bool) → list_any (is_of o) gs ≡ b → clap_line here (word ∷ ws) ≡
            turned gs (Some (by o v ∷ [], any n)) ws
        step true old =
            bad_stops h idle (suc n) word refl ws (ArgumentConflict, [], fault ∙ ap repeat old)
            ∙ turned_again gs o v (any n) ws old
        step false new =
            goes here (at (held (gs ++ by o v ∷ [])) idle (suc n) false) word ws
            (turn_is h idle (suc n) word refl [] (reacted rules (rule o) (v ∷ []) h, next idle)
            (fault ∙ ap repeat new) met)
            (walked_is h idle (suc n) word refl (reacted rules (rule o) (v ∷ []) h, next idle) met
            ∙ ap (λ x. at x idle (suc n) false) (reacted_is h gs o v good new))
            ∙ more (any n) (gs ++ by o v ∷ []) _ (once_more gs o v once new)
            (anywhere (good_held (gs ++ by o v ∷ [])))
            ∙ turned_new gs (by o v ∷ []) (any n) ws

    apart : (name : Text) → bytes_eq word dashes ≡ false → long_of word ≡ Some (name, None) →
        (o : Option Word) → option_named name ≡ o →
        clap_line here (word ∷ ws) ≡ turned gs (waits o n) ws
    apart name e l None is = unknown name None e l is
    apart name e l (Some o) is =
        goes here (at (pending gs o []) (option (word_name o)) (suc n) false) word ws
        (turn_is h idle (suc n) word refl [] _ fault met)
        (walked_is h idle (suc n) word refl _ met
        ∙ ap (λ (s : Held). at (record s { pending = Some (word_name o, []) })
        (option (word_name o)) (suc n) false) good.settles)
        ∙ more (value_of o n) gs _ once waiting
        ∙ turned_nothing gs (value_of o n) ws
      where
        fault : word_fault top [] false idle word h ≡ []
        fault =
            fault_named h idle (suc n) word refl name None e l
            ∙ rw (is, apart_fault o h) good.clean

        met : word_met rules [] false idle (suc n) word h ≡ (
          record (settled rules h) { pending = Some (word_name o, []) },
          next (option (word_name o)),
        )
        met =
            met_named h idle (suc n) word refl name None e l
            ∙ rw (is, apart_met o h) refl

    named_case : (name : Text) (v : Option Text) → bytes_eq word dashes ≡ false → long_of word ≡
        Some (name, v) → clap_line here (word ∷ ws) ≡ turned gs (any_word n word (named name v)) ws
    named_case name (Some v) e l = joined name v e l (option_named name) refl
    named_case name None e l = apart name e l (option_named name) refl

    any_case : (l : Look) → Seen word l → clap_line here (word ∷ ws) ≡
        turned gs (any_word n word l) ws
    any_case _ (is_plain e l s) =
        stood n h gs false good once
        (turn_is h idle (suc n) word refl [] (h, value) (fault_plain h idle (suc n) word refl e l s)
        (met_plain h idle (suc n) word refl e l s))
        (walked_is h idle (suc n) word refl (h, value) (met_plain h idle (suc n) word refl e l s))
        (any (suc n)) (λ h l g. anywhere g)
    any_case _ (is_end e) =
        end_goes h idle (suc n) word refl ws e ∙ more (itself n) gs _ once (behind good)
        ∙ turned_nothing gs (itself n) ws
    any_case _ (is_named {name} {v} e l) = named_case name v e l
    any_case _ (is_dashed {x} {xs} e l s some) =
        dashed_stops h idle (suc n) word refl ws x xs e l s (some u.0) good.skip

  module _ (o : Word) (n : ℕ) (gs : List Given) (once : is_once gs ≡ true) where
    abbrev h : Held
    h = pending gs o []

    abbrev wt : Waiting
    wt = option (word_name o)

    free : subcommand_met [] wt word ≡ None
    free = refl

    value_met : (o : Word) → plain_word rules (option (word_name o)) word (pending gs o []) ≡
        (pending gs o (word ∷ []), next idle)
    value_met Mode = refl
    value_met _ = refl

    option_case : (l : Look) → Seen word l → clap_line (at h wt (suc n) false) (word ∷ ws) ≡
        turned gs (option_value o n word l) ws
    option_case _ (is_plain e l s) =
        goes (at h wt (suc n) false) (at (pending gs o (word ∷ [])) idle (suc n) false) word ws
        (turn_is h wt (suc n) word free [] (pending gs o (word ∷ []), next idle)
        (fault_plain h wt (suc n) word free e l s)
        (met_plain h wt (suc n) word free e l s ∙ value_met o))
        (walked_is h wt (suc n) word free (pending gs o (word ∷ []), next idle)
        (met_plain h wt (suc n) word free e l s ∙ value_met o))
        ∙ kept gs o n false once (any n) (λ h l g. anywhere g)
    option_case _ (is_end e) =
        end_goes h wt (suc n) word free ws e ∙ stuck_behind ws h wt n (no_value_bad gs o)
    option_case _ (is_named {name} {v} e l) =
        named_stops h wt (suc n) word free ws name v e l (no_value_bad gs o)
    option_case _ (is_dashed {x} {xs} e l s some) =
        dashed_stops h wt (suc n) word free ws x xs e l s (some u.0) refl

follows : (ws : List Text) → Each IsUtf8 ws → Follows ws
follows [] u s gs w once (anywhere {n} {h} good) = at_last h gs idle (suc n) false good once
follows [] u s gs w once (behind {n} {h} good) = at_last h gs idle (suc n) true good once
follows [] u s gs w once (waiting {o} {n}) =
    bad_end (at (pending gs o []) (option (word_name o)) (suc n) false) (no_value_bad gs o)
follows (word ∷ ws) u s gs w once (anywhere {n} {h} good) =
    any_case word ws u (follows ws u.1) n h gs good once (look word) (seen word)
follows (word ∷ ws) u s gs w once (behind {n} {h} good) =
    stood word ws u (follows ws u.1) n h gs true good once (trailing_turn h idle (suc n) word)
    (trailing_walk h idle (suc n) word) (itself (suc n)) (λ h l g. behind g)
follows (word ∷ ws) u s gs w once (waiting {o} {n}) = option_case word ws u (follows ws u.1) o n gs
    once (look word) (seen word)

pub line_read : (words : List Text) → Each IsUtf8 words → taken_line words ≡ line_of words
line_read words u = taken_is words ∙ follows words u (any 0) [] (at nothing_held idle 1 false) refl
    (anywhere (good_held []))
