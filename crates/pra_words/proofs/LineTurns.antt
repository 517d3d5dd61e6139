-- What the simple command makes of one word, from what it holds.
use Rattle.std.proofs.Common.{◌≡◌, ◌∙◌, ℕ, zero, suc, ◌==◌, Bool, true, false, not, ◌&&◌}
use Rattle.std.proofs.Common.{if◌then◌else◌, List, [], ◌∷◌, Option, Some, None, option_map, find}
use Rattle.std.proofs.Common.{is_some, refl, sym, ap, ap₂, arith}
use Rattle.std.specs.Prelude.{fold}
use Rattle.std.proofs.lemmas.Bool.Decides.{nat_tests}
use Rattle.std.specs.List.{AllByRecursion as Each}
use Rattle.std.specs.Option.{option_map_or}
use Rattle.std.specs.Str.{IsUtf8, bytes_eq, chars}
use Rattle.clap.specs.Lexer.{long_of, short_of}
use Rattle.clap.specs.Kinds.{Kinds, or_else}
use Rattle.clap.specs.declared.error.kind.ErrorKind.{ErrorKind}
use Rattle.clap.specs.declared.error.kind.ErrorKind.TheVariants.{UnknownArgument}
use Rattle.clap.specs.Walk.{Held, Step, Waiting, Walk, settled, reacted, pushed, is_pending}
use Rattle.clap.specs.Walk.{arg_by_long, has_long, long_met, word_met, subcommand_met, after_flag}
use Rattle.clap.specs.Walk.{after_step, walked, nothing_held, finished, idle, trailing, value, done}
use Rattle.clap.specs.Walk.{plain_word}
use Rattle.clap.specs.Walk as clap
use Rattle.clap.specs.Simple.{built, matches_of}
use Rattle.clap.specs.Faults.{use_fault, settle_fault, long_fault, bundle_fault, flags_fault}
use Rattle.clap.specs.Faults.{word_fault, positional_fault, step_fault, stray_fault, turn_fault}
use Rattle.clap.specs.Faults.{walk_fault, defaults_fault, check_fault}
use Rattle.clap.proofs.FaultLemmas.{leaf_fault}
use Rattle.clap.proofs.WalkLemmas.{find-map}
use Rattle.std.proofs.Math.Bool.{or-false}
use Rattle.pra_words.specs.declared.words.Word.{Word}
use Rattle.pra_words.specs.declared.words.Word.TheVariants.{Mode, File}
use Rattle.pra_words.specs.Texts.{word_name}
use Rattle.pra_words.specs.CommandLine.{Text, Given, Line, place, options, option_name}
use Rattle.pra_words.specs.CommandLine.{option_named}
use Rattle.pra_words.specs.Command.{command, line_of_rows, unless, taken_line}
use Rattle.pra_words.proofs.LineRows.{top, rules, rule, pending, Good}
use Rattle.pra_words.proofs.LineLooks.{dashes, Seen, is_plain, is_end, is_named, is_dashed, seen}

abbrev pub at : Held → Waiting → ℕ → Bool → Walk
at h wt p tr = record { held = h; waiting = wt; position = p; is_trailing = tr; stopped = None }

-- something is wrong
abbrev pub Bad : Kinds → Type 0
Bad k = (x : ErrorKind) × (xs : Kinds) × (k ≡ x ∷ xs)

-- ---- the whole, from where the walk stands

abbrev pub after : Held → Kinds
after h = or_else (settle_fault rules false h)
    (or_else (defaults_fault (settled rules h).rows rules)
    (check_fault top (finished rules h) false))

pub clap_line : Walk → List Text → Option Line
clap_line w ws = unless (or_else (walk_fault top [] w ws)
    (after (fold (walked rules []) w ws).held))
    (line_of_rows (finished rules (fold (walked rules []) w ws).held))

pub taken_is : (words : List Text) → taken_line words ≡ clap_line (at nothing_held idle 1 false)
    words
unfolding clap_line
taken_is words = ap (λ k. unless k (line_of_rows (matches_of command words)))
    (leaf_fault (built command) nothing_held words refl)

unless_or : (k a b : Kinds) (l : Option Line) → unless (or_else (or_else k a) b) l ≡
    unless k (unless (or_else a b) l)
unless_or [] a b l = refl
unless_or (x ∷ xs) a b l = refl

pub line_ends : (w : Walk) → clap_line w [] ≡ unless (after w.held)
    (line_of_rows (finished rules w.held))
unfolding clap_line walk_fault
line_ends w = refl

line_goes : (w : Walk) (word : Text) (ws : List Text) → clap_line w (word ∷ ws) ≡
    unless (turn_fault top [] w word) (clap_line (walked rules [] w word) ws)
unfolding clap_line walk_fault
line_goes w word ws = unless_or (turn_fault top [] w word) _ _ _

pub stops : (w : Walk) (word : Text) (ws : List Text) → Bad (turn_fault top [] w word) →
    clap_line w (word ∷ ws) ≡ None
stops w word ws bad = line_goes w word ws
    ∙ ap (λ k. unless k (clap_line (walked rules [] w word) ws)) bad.2

pub goes : (w t : Walk) (word : Text) (ws : List Text) → turn_fault top [] w word ≡ [] →
    walked rules [] w word ≡ t → clap_line w (word ∷ ws) ≡ clap_line t ws
goes w t word ws e f = line_goes w word ws ∙ ap₂ (λ k u. unless k (clap_line u ws)) e f

-- ---- options

find_long : (name : Text) → arg_by_long rules name ≡ option_map rule (option_named name)
find_long name =
    sym (find-map (λ a. not (is_some a.index) && has_long a name) rule options)
    ∙ ap (option_map rule) (λ i. find (λ w. or-false (bytes_eq (option_name w) name) i) options)

pub joined_fault : (o : Word) (v : Text) (h : Held) → long_fault rules false (Some (rule o))
    (Some v) h ≡ or_else (settle_fault rules false h)
    (use_fault false (rule o) (v ∷ []) (settled rules h).rows)
joined_fault Mode v h = refl
joined_fault _ v h = refl

pub apart_fault : (o : Word) (h : Held) → long_fault rules false (Some (rule o)) None h ≡
    settle_fault rules false h
apart_fault Mode h = refl
apart_fault _ h = refl

pub joined_met : (o : Word) (v : Text) (h : Held) → long_met rules (Some (rule o)) (Some v) h ≡
    (reacted rules (rule o) (v ∷ []) h, done)
joined_met Mode v h = refl
joined_met _ v h = refl

pub apart_met : (o : Word) (h : Held) → long_met rules (Some (rule o)) None h ≡
    (record (settled rules h) { pending = Some (word_name o, []) }, clap.waits (word_name o))
apart_met Mode h = refl
apart_met _ h = refl

or_bad : (k l : Kinds) → Bad k → Bad (or_else k l)
or_bad k l bad = (bad.0, bad.1, rw bad.2 refl)

as_bad : (k l : Kinds) → k ≡ l → Bad l → Bad k
as_bad k l e bad = (bad.0, bad.1, e ∙ bad.2)

long_bad : (o : Option Word) (v : Option Text) (h : Held) → Bad (settle_fault rules false h) →
    Bad (long_fault rules false (option_map rule o) v h)
long_bad None v h bad = (UnknownArgument, [], refl)
long_bad (Some o) (Some v) h bad = as_bad _ _ (joined_fault o v h) (or_bad _ _ bad)
long_bad (Some o) None h bad = as_bad _ _ (apart_fault o h) bad

-- ---- flags that the command does not have

dash_fault : (x : ℕ) (xs : Text) (h : Held) → h.skip ≡ 0 → (chars (x ∷ xs) ≡ [] → ⊥) →
    bundle_fault rules false (x ∷ xs) h ≡ UnknownArgument ∷ []
unfolding flags_fault
dash_fault x xs h skip some = go (chars (x ∷ xs)) refl
  where
    go : (cs : List ℕ) → chars (x ∷ xs) ≡ cs → bundle_fault rules false (x ∷ xs) h ≡
        UnknownArgument ∷ []
    go [] e = absurd (some e)
    go (y ∷ ys) e = rw (e, skip) refl

-- ---- a word, where a word of any kind may stand

abbrev Free : Waiting → Text → Type 0
Free wt word = subcommand_met [] wt word ≡ None

module _ (h : Held) (wt : Waiting) (p : ℕ) (word : Text) (free : Free wt word) where
  pub met_plain : bytes_eq word dashes ≡ false → long_of word ≡ None → short_of word ≡ None →
      word_met rules [] false wt p word h ≡ plain_word rules wt word h
  met_plain e l s = rw (free, e, l, s) refl

  pub fault_plain : bytes_eq word dashes ≡ false → long_of word ≡ None → short_of word ≡ None →
      word_fault top [] false wt word h ≡ []
  fault_plain e l s = rw (free, e, l, s) refl

  met_end : bytes_eq word dashes ≡ true → word_met rules [] false wt p word h ≡ (h, trailing p)
  met_end e = rw (free, e) refl

  fault_end : bytes_eq word dashes ≡ true → word_fault top [] false wt word h ≡ []
  fault_end e = rw (free, e) refl

  module _ (name : Text) (v : Option Text) (e : bytes_eq word dashes ≡ false)
      (l : long_of word ≡ Some (name, v)) where
    pub met_named : word_met rules [] false wt p word h ≡ after_flag rules wt word
        (long_met rules (option_map rule (option_named name)) v h).0
        (long_met rules (option_map rule (option_named name)) v h).1
    met_named = rw (free, e, l, find_long name) refl

    pub fault_named : word_fault top [] false wt word h ≡ long_fault rules false
        (option_map rule (option_named name)) v h
    fault_named = rw (free, e, l, find_long name) refl

    bad_named : Bad (settle_fault rules false h) → Bad (word_fault top [] false wt word h)
    bad_named bad = as_bad _ _ fault_named (long_bad (option_named name) v h bad)

  bad_dashed : (x : ℕ) (xs : Text) → bytes_eq word dashes ≡ false → long_of word ≡ None →
      short_of word ≡ Some (x ∷ xs) → (chars (x ∷ xs) ≡ [] → ⊥) → h.skip ≡ 0 →
      Bad (word_fault top [] false wt word h)
  bad_dashed x xs e l s some skip = (
    UnknownArgument,
    [],
    rw (free, e, l, s) (dash_fault x xs h skip some),
  )

  pub turn_is : (k : Kinds) (m : Held × Step) → word_fault top [] false wt word h ≡ k →
      word_met rules [] false wt p word h ≡ m → turn_fault top [] (at h wt p false) word ≡
      or_else k (step_fault top p m.0 m.1)
  turn_is k m ek em = ap₂ (λ k m. or_else k (step_fault top p m.0 m.1)) ek em

  pub walked_is : (m : Held × Step) → word_met rules [] false wt p word h ≡ m →
      walked rules [] (at h wt p false) word ≡ after_step rules word (at h wt p false) m.0 m.1
  unfolding walked
  walked_is m em = ap (λ m. after_step rules word (at h wt p false) m.0 m.1) em

  -- what comes of the word, by what it looks like
  module _ (ws : List Text) where
    pub bad_stops : Bad (word_fault top [] false wt word h) →
        clap_line (at h wt p false) (word ∷ ws) ≡ None
    bad_stops bad = stops (at h wt p false) word ws (or_bad _ _ bad)

    pub end_goes : bytes_eq word dashes ≡ true →
        clap_line (at h wt p false) (word ∷ ws) ≡ clap_line (at h wt p true) ws
    end_goes e = goes (at h wt p false) (at h wt p true) word ws
        (turn_is [] (h, trailing p) (fault_end e) (met_end e))
        (walked_is (h, trailing p) (met_end e))

    pub named_stops : (name : Text) (v : Option Text) → bytes_eq word dashes ≡ false →
        long_of word ≡ Some (name, v) → Bad (settle_fault rules false h) →
        clap_line (at h wt p false) (word ∷ ws) ≡ None
    named_stops name v e l bad = bad_stops (bad_named name v e l bad)

    pub dashed_stops : (x : ℕ) (xs : Text) → bytes_eq word dashes ≡ false →
        long_of word ≡ None → short_of word ≡ Some (x ∷ xs) → (chars (x ∷ xs) ≡ [] → ⊥) →
        h.skip ≡ 0 → clap_line (at h wt p false) (word ∷ ws) ≡ None
    dashed_stops x xs e l s some skip = bad_stops (bad_dashed x xs e l s some skip)

-- ---- a word that stands for itself

abbrev pub standing : Option Word → Kinds → Kinds
standing None k = UnknownArgument ∷ []
standing (Some w) k = k

without_both : {X : Type 0} (b : Bool) (x y : X) → (if b && false then x else y) ≡ y
without_both true x y = refl
without_both false x y = refl

pub place_fault : (n : ℕ) (h : Held) → step_fault top (suc n) h value ≡ standing (place n)
    (settle_fault rules false h)
place_fault zero h = without_both (is_pending (rule Mode) h.pending) [] (settle_fault rules false h)
place_fault (suc zero) h = without_both (is_pending (rule File) h.pending) []
    (settle_fault rules false h)
place_fault (suc (suc n)) h =
    let one : (1 == suc (suc (suc n))) ≡ false = grind (arith, nat_tests) in
    let two : (2 == suc (suc (suc n))) ≡ false = grind (arith, nat_tests) in
    ap₂ (λ a b. option_map_or (λ r. positional_fault rules false r h)
    (if a then Some (rule Mode) else (if b then Some (rule File) else None)) (stray_fault top))
    one two

pushed_is : (w : Word) (word : Text) (h : Held) (gs : List Given) → Good h gs →
    pushed (word_name w) word (if is_pending (rule w) h.pending && false then h
    else settled rules h) ≡ pending gs w (word ∷ [])
pushed_is w word h gs good =
    ap (λ x. pushed (word_name w) word x)
    (without_both (is_pending (rule w) h.pending) h (settled rules h) ∙ good.settles)

pub mode_walk : (h : Held) (gs : List Given) (word : Text) (tr : Bool) → Good h gs →
    after_step rules word (at h idle 1 tr) h value ≡ at (pending gs Mode (word ∷ [])) idle 2 tr
mode_walk h gs word true good = ap (λ x. at x idle 2 true) (pushed_is Mode word h gs good)
mode_walk h gs word false good = ap (λ x. at x idle 2 false) (pushed_is Mode word h gs good)

pub file_walk : (h : Held) (gs : List Given) (word : Text) (tr : Bool) → Good h gs →
    after_step rules word (at h idle 2 tr) h value ≡ at (pending gs File (word ∷ [])) idle 3 tr
file_walk h gs word true good = ap (λ x. at x idle 3 true) (pushed_is File word h gs good)
file_walk h gs word false good = ap (λ x. at x idle 3 false) (pushed_is File word h gs good)

-- ---- behind `--`

pub trailing_turn : (h : Held) (wt : Waiting) (p : ℕ) (word : Text) →
    turn_fault top [] (at h wt p true) word ≡ step_fault top p h value
trailing_turn h wt p word = refl

pub trailing_walk : (h : Held) (wt : Waiting) (p : ℕ) (word : Text) →
    walked rules [] (at h wt p true) word ≡ after_step rules word (at h wt p true) h value
unfolding walked
trailing_walk h wt p word = refl

-- ---- where what is held can't be taken

bad_place : (o : Option Word) (k : Kinds) → Bad k → Bad (standing o k)
bad_place None k bad = (UnknownArgument, [], refl)
bad_place (Some w) k bad = bad

pub bad_value : (n : ℕ) (h : Held) → Bad (settle_fault rules false h) →
    Bad (step_fault top (suc n) h value)
bad_value n h bad = as_bad _ _ (place_fault n h) (bad_place (place n) _ bad)

pub bad_end : (w : Walk) → Bad (settle_fault rules false w.held) → clap_line w [] ≡ None
bad_end w bad = line_ends w ∙ ap (λ k. unless k (line_of_rows (finished rules w.held)))
    (or_bad _ _ bad).2

pub stuck_behind : (ws : List Text) (h : Held) (wt : Waiting) (n : ℕ) →
    Bad (settle_fault rules false h) → clap_line (at h wt (suc n) true) ws ≡ None
stuck_behind [] h wt n bad = bad_end (at h wt (suc n) true) bad
stuck_behind (word ∷ ws) h wt n bad = stops (at h wt (suc n) true) word ws
    (as_bad _ _ (trailing_turn h wt (suc n) word) (bad_value n h bad))

pub stuck : (ws : List Text) → Each IsUtf8 ws → (h : Held) (n : ℕ) → h.skip ≡ 0 →
    Bad (settle_fault rules false h) → clap_line (at h idle (suc n) false) ws ≡ None
stuck [] u h n skip bad = bad_end (at h idle (suc n) false) bad
stuck (word ∷ ws) u h n skip bad = by_look (seen word)
  where
    by_look : {l : _} → Seen word l → clap_line (at h idle (suc n) false) (word ∷ ws) ≡ None
    by_look (is_plain e l s) =
        stops (at h idle (suc n) false) word ws
        (as_bad _ _ (turn_is h idle (suc n) word refl [] (h, value)
        (fault_plain h idle (suc n) word refl e l s) (met_plain h idle (suc n) word refl e l s))
        (bad_value n h bad))
    by_look (is_end e) = end_goes h idle (suc n) word refl ws e ∙ stuck_behind ws h idle n bad
    by_look (is_named {name} {v} e l) =
        named_stops h idle (suc n) word refl ws name v e l bad
    by_look (is_dashed {x} {xs} e l s some) =
        dashed_stops h idle (suc n) word refl ws x xs e l s (some u.0) skip
