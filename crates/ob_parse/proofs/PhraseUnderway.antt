-- A phrase in the middle of its production: how it goes on, how it fails, how it is done.
use Rattle.std.proofs.Common.{◌≡◌, ℕ, ◌+◌, ◌≤◌, List, [], ◌∷◌, ◌++◌, length, Option, Some, None}
use Rattle.std.proofs.Common.{Result, Ok, Err, refl, ap, ap₂, ◌∙◌, sym, subst, arith, append_assoc}
use Rattle.std.proofs.Common.{length-append}
use Rattle.std.specs.Prelude.{IsErrAnd}
use Rattle.ob_syntax.specs.declared.token.Kind.{Kind}
use Rattle.ob_syntax.specs.Grammar.{Nonterminal, Nesting, level, deeper, inner, Symbol, token}
use Rattle.ob_syntax.specs.Grammar.{phrase, Rule, right}
use Rattle.ob_syntax.specs.Forms.{Form, Parts, made, done, taken, part, spell, spells, end, ends}
use Rattle.ob_syntax.specs.Forms.{depth, depths, nest}
use Rattle.ob_syntax.specs.Derives.{text, texts}
use Rattle.ob_syntax.specs.ChosenRule.{first, choose, Ends, Follow}
use Rattle.ob_syntax.specs.Tree.{Tree, Values, tree, values, tree_by}
use Rattle.ob_syntax.proofs.OneForm.{chosen_one, one_form}
use Rattle.ob_syntax.proofs.LeastForms.{least, least_flat, least_parts, least_deep, base, floor}
use Rattle.ob_syntax.proofs.LeastForms.{floor_least, nest_more}
use Rattle.ob_syntax.proofs.FormTokens.{spell_text, spells_texts}
use Rattle.ob_parse.specs.declared.cursor.Parser.{Parser}
use Rattle.ob_parse.specs.declared.cursor.ParseFault.{ParseFault}
use Rattle.ob_parse.specs.declared.cursor.ParseFault.TheVariants.{Grammar, TooDeep, OutOfMemory}
use Rattle.ob_parse.specs.Reading.{left, place, IsNext, IsRead, IsStuck, GoesOn, IsRefused, Fails}
use Rattle.ob_parse.specs.Reading.{Reads}

pub first-append : (r a b : List Kind) → first a ≡ first b → first (r ++ a) ≡ first (r ++ b)
first-append [] a b e = e
first-append (k ∷ ks) a b e = refl

counted : (a b : List Kind) (i j k : ℕ) → j ≡ i + length a → k ≡ j + length b →
    k ≡ i + length (a ++ b)
counted a b i j k p q = omega (arith, length-append a b)

from_both : (a b : List Kind) (x y z : List Kind) → x ≡ a ++ y → y ≡ b ++ z → x ≡ (a ++ b) ++ z
from_both a b x y z p q = p ∙ ap (λ ks. a ++ ks) q ∙ sym (append_assoc a b z)

-- After the tokens that were read, n goes on with these symbols and with nothing else, and with
-- each form of them it
-- can go on. With what they stand for, `wrap` makes the tree of the whole.
pub record Waits (n : Nonterminal) (ss : List Symbol) (room : ℕ) (wrap : ℕ → Values ss → Tree n)
    (old now : Parser) : Type 0 where
  pub plug : Parts ss → Form n
  pub read : List Kind
  pub from : left old ≡ read ++ left now
  pub count : place now ≡ place old + length read
  pub spelled : (g : Parts ss) (ks : List Kind) → spell n (plug g) ks ≡ read ++ spells ss g ks
  pub tree_is : (g : Parts ss) → tree n (place old) (plug g) ≡ wrap (ends ss (place now) g)
      (values ss (place now) g)
  pub end_is : (g : Parts ss) → end n (place old) (plug g) ≡ ends ss (place now) g
  pub deep : (g : Parts ss) (d : ℕ) → room ≤ d → depths ss g ≤ d → depth n (plug g) ≤ d
  pub follow : (g : Parts ss) (ks : List Kind) → first (spells ss g ks) ≡ first (left now) →
      Follow ss g ks → Ends n (plug g) ks
  pub only : (next : List Kind) → first next ≡ first (left now) → (f : Form n) (after : List Kind) →
      Ends n f after → read ++ next ≡ spell n f after
      → (g : Parts ss) × Follow ss g after × (next ≡ spells ss g after) × (depths ss g ≤ depth n f)

-- ---- how a phrase begins

-- the next tokens choose the production r
abbrev pub Chooses : (n : Nonterminal) → Option (Rule n) → Parser → Type 0
Chooses n r p = (next : List Kind) → first next ≡ first (left p) → choose n next ≡ r

abbrev pub Opened : (n : Nonterminal) (ss : List Symbol) → List Kind → List Kind → ℕ → Type 0
Opened n ss next after d = (g : Parts ss) × Follow ss g after × (next ≡ spells ss g after) ×
    (depths ss g ≤ d)

pub opened_only : (n : Nonterminal) (r : Rule n) (next : List Kind) → choose n next ≡ Some r →
    (f : Form n) (after : List Kind) → Ends n f after → next ≡ spell n f after →
    Opened n (right r) next after (depth n f)
opened_only n r next c (made _ r' ps) after ends eq =
    let rules = chosen_one n r' r (spells (right r') ps after) next ends.0 c (sym eq) in
    subst (λ r. Opened n (right r) next after (depths (right r') ps)) rules
    (ps, ends.1, eq, omega arith)

pub opened : {n : Nonterminal} (r : Rule n) (room : ℕ) (p : Parser) → Chooses n (Some r) p →
    Waits n (right r) room (tree_by r (place p)) p p
opened {n = n} r room p chosen = record {
  plug = made n r;
  read = [];
  from = refl;
  count = omega arith;
  spelled = λ g ks. refl;
  tree_is = λ g. refl;
  end_is = λ g. refl;
  deep = λ g d le h. h;
  follow = λ g ks same h. (chosen (spells (right r) g ks) same, h);
  only = λ next same f after ends eq. opened_only n r next (chosen next same) f after ends eq;
}

-- ---- how it goes on

pub taken_only : (k : Kind) (ss : List Symbol) (next after : List Kind) (d : ℕ)
    (g : Parts (token k ∷ ss)) → Follow (token k ∷ ss) g after → k ∷ next ≡
    spells (token k ∷ ss) g after → depths (token k ∷ ss) g ≤ d
    → (g : Parts ss) × Follow ss g after × (next ≡ spells ss g after) × (depths ss g ≤ d)
taken_only k ss next after d (taken _ _ ps) h e le = (ps, h, cc, le)

pub after_token : {n : Nonterminal} {k : Kind} {ss : List Symbol} {room : ℕ}
    {wrap : ℕ → ℕ × Values ss → Tree n} {old mid new : Parser} →
    Waits n (token k ∷ ss) room wrap old mid → IsNext k mid new
    → Waits n ss room (λ j v. wrap j (place mid, v)) old new
after_token {n = n} {k = k} {ss = ss} {room = room} {wrap = wrap} {old = old} {mid = mid}
    {new = new} w x = record {
      plug = λ g. w.plug (taken k ss g);
      read = w.read ++ k ∷ [];
      from = from_both w.read (k ∷ []) (left old) (left mid) (left new) w.from x.from;
      count = counted w.read (k ∷ []) (place old) (place mid) (place new) w.count x.place_is;
      spelled = λ g ks. w.spelled (taken k ss g) ks
          ∙ sym (append_assoc w.read (k ∷ []) (spells ss g ks));
      tree_is = λ g. w.tree_is (taken k ss g)
          ∙ ap (λ i. wrap (ends ss i g) (place mid, values ss i g))
          (sym x.place_is);
      end_is = λ g. w.end_is (taken k ss g) ∙ ap (λ i. ends ss i g) (sym x.place_is);
      deep = λ g d le h. w.deep (taken k ss g) d le h;
      follow = λ g ks same h. w.follow (taken k ss g) ks (sym (ap first x.from)) h;
      only = λ next same f after ends eq.
          let g = w.only (k ∷ next) (sym (ap first x.from)) f after ends
          (sym (append_assoc w.read (k ∷ []) next) ∙ eq) in
          taken_only k ss next after (depth n f) g.0 g.1 g.2 g.3;
    }

-- what a phrase that nests so may take of the room
pub record Inside (d : Nesting) (within room : ℕ) : Type 0 where
  pub fits : nest d within ≤ room
  pub most : (e : ℕ) → nest d e ≤ room → e ≤ within

pub as_deep : (room : ℕ) → Inside level room room
as_deep room = record { fits = omega arith; most = λ e h. h }

pub one_deeper : (within room : ℕ) → room ≡ within + 1 → Inside deeper within room
one_deeper within room is = record { fits = omega arith; most = λ e h. omega arith }

pub at_least_one : (room : ℕ) → 1 ≤ room → Inside inner room room
at_least_one room le = record { fits = omega arith; most = λ e h. omega arith }

pub roomier : {n : Nonterminal} {less : ℕ} {t : Tree n} {old new : Parser} →
    IsRead n less t old new → (room : ℕ) → less ≤ room → IsRead n room t old new
roomier r room le = let d = r.deep in record {
  form = r.form;
  read = r.read;
  from = r.from;
  count = r.count;
  spelled = r.spelled;
  tree_is = r.tree_is;
  place_is = r.place_is;
  deep = omega arith;
  follow = r.follow;
}

part_only : (d : Nesting) (m : Nonterminal) (ss : List Symbol) (form : Form m)
    (read next after : List Kind) (e : ℕ) → ((ks : List Kind) → spell m form ks ≡ read ++ ks) →
    Ends m form next
    → (g : Parts (phrase d m ∷ ss)) → Follow (phrase d m ∷ ss) g after → read ++ next ≡
    spells (phrase d m ∷ ss) g after → depths (phrase d m ∷ ss) g ≤ e
    → (g : Parts ss) × Follow ss g after × (next ≡ spells ss g after) × (depths ss g ≤ e)
part_only d m ss form read next after e spelled ends (part _ _ _ f ps) h eq le =
    let one = one_form m form f next (spells ss ps after) ends h.0 (spelled next ∙ eq) in
    (ps, h.1, one.1, omega arith)

pub after_phrase : {n m : Nonterminal} {d : Nesting} {ss : List Symbol} {room within : ℕ}
    {wrap : ℕ → Tree m × Values ss → Tree n} {t : Tree m} {old mid new : Parser} →
    Waits n (phrase d m ∷ ss) room wrap old mid
    → Inside d within room → IsRead m within t mid new → Waits n ss room (λ j v. wrap j (t, v)) old
    new
after_phrase {n = n} {m = m} {d = d} {ss = ss} {room = room} {within = within} {wrap = wrap} {t = t}
    {old = old} {mid = mid} {new = new} w i r = record {
      plug = λ g. w.plug (part d m ss r.form g);
      read = w.read ++ r.read;
      from = from_both w.read r.read (left old) (left mid) (left new) w.from r.from;
      count = counted w.read r.read (place old) (place mid) (place new) w.count r.count;
      spelled = λ g ks. w.spelled (part d m ss r.form g) ks ∙ ap (λ us. w.read ++ us)
          (r.spelled (spells ss g ks)) ∙ sym (append_assoc w.read r.read (spells ss g ks));
      tree_is = λ g. w.tree_is (part d m ss r.form g)
          ∙ ap₂ (λ j t. wrap (ends ss j g) (t, values ss j g)) (sym r.place_is) (sym r.tree_is);
      end_is = λ g. w.end_is (part d m ss r.form g) ∙ ap (λ j. ends ss j g) (sym r.place_is);
      deep = λ g e le h. w.deep (part d m ss r.form g) e le
          (let a = nest_more d (depth m r.form) within r.deep in let b = i.fits in omega arith);
      follow = λ g ks same h. w.follow (part d m ss r.form g) ks
          (ap first (r.spelled (spells ss g ks)) ∙ first-append r.read (spells ss g ks)
          (left new) same
          ∙ ap first (sym r.from))
          (r.follow (spells ss g ks) same, h);
      only = λ next same f after ends eq.
          let there = first-append r.read next (left new) same ∙ ap first (sym r.from) in
          let g = w.only (r.read ++ next) there f after ends
          (sym (append_assoc w.read r.read next) ∙ eq) in
          part_only d m ss r.form r.read next after (depth n f) r.spelled (r.follow next same) g.0
          g.1
          g.2 g.3;
    }

-- ---- how it is done

pub closed : {n : Nonterminal} {room : ℕ} {wrap : ℕ → Unit {0} → Tree n} {old new : Parser} →
    Waits n [] room wrap old new → IsRead n room (wrap (place new) tt) old new
closed w = record {
  form = w.plug done;
  read = w.read;
  from = w.from;
  count = w.count;
  spelled = w.spelled done;
  tree_is = sym (w.tree_is done);
  place_is = sym (w.end_is done);
  deep = w.deep done _ (omega arith) (omega arith);
  follow = λ ks same. w.follow done ks same tt;
}

-- ---- how it fails

no_rule : (n : Nonterminal) (next : List Kind) → choose n next ≡ None →
    (f : Form n) (after : List Kind) → Ends n f after → next ≡ spell n f after → ⊥
no_rule n next c (made _ r ps) after ends eq = let e = sym c ∙ ap (choose n) eq ∙ ends.0 in cc

least_goes : (n : Nonterminal) (room : ℕ) → base n ≤ room → GoesOn n room []
least_goes n room low = (
  least n,
  (let a = least_flat n in omega arith),
  text n (least n),
  spell_text n (least n),
)

-- no production begins with the next token
pub refused : (n : Nonterminal) (room : ℕ) (p : Parser) → base n ≤ room → Chooses n None p →
    Fails n room p p (Grammar (place p))
refused n room p low chosen = (
  refl,
  record {
    read = [];
    from = refl;
    count = omega arith;
    goes = least_goes n room low;
    stuck = λ d next same f after deep ends eq. no_rule n next (chosen next same) f after ends eq;
  },
)

-- the production that begins with the next token nests deeper than there is room
pub too_deep : {n : Nonterminal} (r : Rule n) (room : ℕ) (p : Parser) (k : Kind) →
    Chooses n (Some r) p → first (left p) ≡ Some k → room ≡ 0 → base n ≤ 0 → 1 ≤ floor (right r) →
    (beyond : (d : ℕ) × GoesOn n d (k ∷ []))
    → Fails n room p p (TooDeep (place p))
too_deep {n = n} r room p k chosen at none flat low beyond = (
  refl,
  record {
    read = [];
    from = refl;
    count = omega arith;
    goes = least_goes n room (omega arith);
    next = k;
    next_is = at;
    deeper = beyond;
    stuck = λ next same f after deep ends eq.
        let g = opened_only n r next (chosen next same) f after ends eq in
        let a = floor_least (right r) g.0 in let b = g.3 in omega arith;
  },
)

joined : (a b c d ks : List Kind) → a ++ (b ++ (c ++ (d ++ ks))) ≡ (a ++ b) ++ ((c ++ d) ++ ks)
joined a b c d ks = ap (λ us. a ++ (b ++ us)) (sym (append_assoc c d ks))
    ∙ sym (append_assoc a b ((c ++ d) ++ ks))

module _ {n : Nonterminal} {ss : List Symbol} {room : ℕ} {wrap : ℕ → Values ss → Tree n}
    {old now : Parser} (w : Waits n ss room wrap old now) where
  goes_here : floor ss ≤ room → GoesOn n room w.read
  goes_here low =
      let g = least_parts ss in (
        w.plug g,
        w.deep g room (omega arith) (let a = least_deep ss in omega arith),
        texts ss g,
        λ ks. w.spelled g ks ∙ ap (λ us. w.read ++ us) (spells_texts ss g ks),
      )

not_taken : (k : Kind) (ss : List Symbol) (next after : List Kind) (g : Parts (token k ∷ ss)) →
    next ≡ spells (token k ∷ ss) g after → first next ≡ Some k
not_taken k ss next after (taken _ _ ps) e = ap first e

-- a token that is wanted is not there
pub token_missing : {n : Nonterminal} {k : Kind} {ss : List Symbol} {room : ℕ}
    {wrap : ℕ → ℕ × Values ss → Tree n} {old mid : Parser} →
    Waits n (token k ∷ ss) room wrap old mid → floor ss ≤ room → (new : Parser) (e : ParseFault)
    → (e ≡ Grammar (place new)) × (new ≡ mid) × (first (left mid) ≡ Some k → ⊥) →
    Fails n room old new e
token_missing {n = n} {k = k} {ss = ss} {room = room} {old = old} {mid = mid} w low new e absent =
    let here : IsRefused n room old mid = record {
      read = w.read;
      from = w.from;
      count = w.count;
      goes = goes_here w low;
      stuck = λ d next same f after deep ends eq. let g = w.only next same f after ends eq in
          absent.2 (sym same ∙ not_taken k ss next after g.0 g.2);
    } in
    subst (λ x. Fails n room old new x) (sym absent.0)
    (refl, subst (λ p. IsRefused n room old p) (sym absent.1) here)

part_stuck : (d : Nesting) (m : Nonterminal) (ss : List Symbol) (within e : ℕ)
    (read next rest after : List Kind) → ((x : ℕ) → nest d x ≤ e → x ≤ within) →
    IsStuck m within read rest → first next ≡ first rest
    → (g : Parts (phrase d m ∷ ss)) → Follow (phrase d m ∷ ss) g after → read ++ next ≡
    spells (phrase d m ∷ ss) g after → depths (phrase d m ∷ ss) g ≤ e → ⊥
part_stuck d m ss within e read next rest after most stuck same (part _ _ _ f ps) h eq le =
    stuck next same f (spells ss ps after) (most (depth m f) (omega arith)) h.0 eq

module _ {n m : Nonterminal} {d : Nesting} {ss : List Symbol} {room : ℕ}
    {wrap : ℕ → Tree m × Values ss → Tree n} {old mid : Parser}
    (w : Waits n (phrase d m ∷ ss) room wrap old mid) (new : Parser) where
  stuck_inside : (read : List Kind) (within e : ℕ) → left mid ≡ read ++ left new →
      ((x : ℕ) → nest d x ≤ e → x ≤ within) → IsStuck m within read (left new) →
      IsStuck n e (w.read ++ read) (left new)
  stuck_inside read within e from most s next same f after deep ends eq =
      let there = first-append read next (left new) same ∙ ap first (sym from) in
      let g = w.only (read ++ next) there f after ends (sym (append_assoc w.read read next) ∙ eq) in
      let le = g.3 in
      part_stuck d m ss within e read next (left new) after most s same g.0 g.1 g.2 (omega arith)

  goes_inside : (within e : ℕ) (read : List Kind) → room ≤ e → nest d within ≤ e → floor ss ≤ e →
      GoesOn m within read → GoesOn n e (w.read ++ read)
  goes_inside within e read le fits low (form, deep, more, is) =
      let g = part d m ss form (least_parts ss) in
      let a = nest_more d (depth m form) within deep in let b = least_deep ss in (
        w.plug g,
        w.deep g e le (omega arith),
        more ++ texts ss (least_parts ss),
        λ ks. w.spelled g ks ∙ ap (λ us. w.read ++ us) (is (spells ss (least_parts ss) ks))
            ∙ ap (λ us. w.read ++ (read ++ (more ++ us))) (spells_texts ss (least_parts ss) ks)
            ∙ joined w.read read more (texts ss (least_parts ss)) ks,
      )

nest_bound : (d : Nesting) (a : ℕ) → nest d a ≤ a + 1
nest_bound level a = omega arith
nest_bound deeper a = omega arith
nest_bound inner a = omega arith

nest_least : (d : Nesting) (a : ℕ) → a ≤ nest d a
nest_least level a = omega arith
nest_least deeper a = omega arith
nest_least inner a = omega arith

-- a phrase that is wanted fails
pub phrase_fails : {n m : Nonterminal} {d : Nesting} {ss : List Symbol} {room within : ℕ}
    {wrap : ℕ → Tree m × Values ss → Tree n} {old mid : Parser} →
    Waits n (phrase d m ∷ ss) room wrap old mid
    → Inside d within room → floor ss ≤ room → (new : Parser) (e : ParseFault) →
    Fails m within mid new e → Fails n room old new e
phrase_fails {d = d} {ss = ss} {room = room} {within = within} {old = old} {mid = mid} w i low new
    (Grammar k) h =
    let r = h.1 in (
      h.0,
      record {
        read = w.read ++ r.read;
        from = from_both w.read r.read (left old) (left mid) (left new) w.from r.from;
        count = counted w.read r.read (place old) (place mid) (place new) w.count r.count;
        goes = goes_inside w new within room r.read (omega arith) i.fits low r.goes;
        stuck = λ x. stuck_inside w new r.read x x r.from
            (λ y le. let a = nest_least d y in omega arith) (r.stuck x);
      },
    )
phrase_fails {n = n} {d = d} {ss = ss} {room = room} {within = within} {old = old} {mid = mid} w i
    low new (TooDeep k) h =
    let r = h.1 in
    let far = r.deeper.0 + 1 + room in
    let bound = nest_bound d r.deeper.0 in (
      h.0,
      record {
        read = w.read ++ r.read;
        from = from_both w.read r.read (left old) (left mid) (left new) w.from r.from;
        count = counted w.read r.read (place old) (place mid) (place new) w.count r.count;
        goes = goes_inside w new within room r.read (omega arith) i.fits low r.goes;
        stuck = stuck_inside w new r.read within room r.from i.most r.stuck;
        next = r.next;
        next_is = r.next_is;
        deeper = (
          far,
          subst (GoesOn n far) (sym (append_assoc w.read r.read (r.next ∷ [])))
              (goes_inside w new r.deeper.0 far (r.read ++ r.next ∷ []) (omega arith) (omega arith)
              (omega arith) r.deeper.1),
        );
      },
    )
phrase_fails w i low new OutOfMemory h = tt

-- ---- repetitions: what is still wanted is a phrase of the same nonterminal

abbrev sole : {n : Nonterminal} → Parts (phrase level n ∷ []) → Form n
sole (part _ _ _ f done) = f

sole_spelled : {n : Nonterminal} (g : Parts (phrase level n ∷ [])) (ks : List Kind) →
    spell n (sole g) ks ≡ spells (phrase level n ∷ []) g ks
sole_spelled (part _ _ _ f done) ks = refl

sole_value : {n : Nonterminal} (g : Parts (phrase level n ∷ [])) (i : ℕ) → tree n i (sole g) ≡
    (values (phrase level n ∷ []) i g).0
sole_value (part _ _ _ f done) i = refl

sole_end : {n : Nonterminal} (g : Parts (phrase level n ∷ [])) (i : ℕ) → end n i (sole g) ≡
    ends (phrase level n ∷ []) i g
sole_end (part _ _ _ f done) i = refl

sole_depth : {n : Nonterminal} (g : Parts (phrase level n ∷ [])) → depth n (sole g) ≤
    depths (phrase level n ∷ []) g
sole_depth (part _ _ _ f done) = omega arith

sole_follow : {n : Nonterminal} (g : Parts (phrase level n ∷ [])) (ks : List Kind) →
    Follow (phrase level n ∷ []) g ks → Ends n (sole g) ks
sole_follow (part _ _ _ f done) ks h = h.0

-- nothing of the repetition was read
pub begun : (n : Nonterminal) (room : ℕ) (p : Parser) → Waits n (phrase level n ∷ []) room
    (λ j v. v.0) p p
begun n room p = record {
  plug = sole;
  read = [];
  from = refl;
  count = omega arith;
  spelled = sole_spelled;
  tree_is = λ g. sole_value g (place p);
  end_is = λ g. sole_end g (place p);
  deep = λ g d le h. let a = sole_depth g in omega arith;
  follow = λ g ks same h. sole_follow g ks h;
  only = λ next same f after ends eq. (part level n [] f done, (ends, tt), eq, omega arith);
}

sole_only : {n : Nonterminal} (ss : List Symbol) (next after : List Kind) (e : ℕ)
    (g : Parts (phrase level n ∷ [])) → Follow (phrase level n ∷ []) g after →
    next ≡ spells (phrase level n ∷ []) g after → depths (phrase level n ∷ []) g ≤ e
    → (f : Form n) × Ends n f after × (next ≡ spell n f after) × (depth n f ≤ e)
sole_only ss next after e (part _ _ _ f done) h eq le = (f, h.0, eq, omega arith)

-- the last phrase of a production was read up to the symbols ss, as one more piece of a repetition
pub again : {n m : Nonterminal} {ss : List Symbol} {room : ℕ}
    {wrap : ℕ → Tree m × Unit {0} → Tree n} {wrap' : ℕ → Values ss → Tree m} {old now new : Parser}
    → Waits n (phrase level m ∷ []) room wrap old now → Waits m ss room wrap' now new →
    Waits n ss room (λ j v. wrap j (wrap' j v, tt)) old new
again {n = n} {m = m} {ss = ss} {room = room} {wrap = wrap} {wrap' = wrap'} {old = old} {now = now}
    {new = new} a b = record {
      plug = λ g. a.plug (part level m [] (b.plug g) done);
      read = a.read ++ b.read;
      from = from_both a.read b.read (left old) (left now) (left new) a.from b.from;
      count = counted a.read b.read (place old) (place now) (place new) a.count b.count;
      spelled = λ g ks. a.spelled (part level m [] (b.plug g) done) ks ∙ ap (λ us. a.read ++ us)
          (b.spelled g ks) ∙ sym (append_assoc a.read b.read (spells ss g ks));
      tree_is = λ g. a.tree_is (part level m [] (b.plug g) done) ∙ ap₂ (λ j t. wrap j (t, tt))
          (b.end_is g) (b.tree_is g);
      end_is = λ g. a.end_is (part level m [] (b.plug g) done) ∙ b.end_is g;
      deep = λ g d le h. a.deep (part level m [] (b.plug g) done) d le
          (let z = b.deep g d le h in omega arith);
      follow = λ g ks same h. a.follow (part level m [] (b.plug g) done) ks
          (ap first (b.spelled g ks) ∙ first-append b.read (spells ss g ks) (left new) same
          ∙ ap first (sym b.from)) (b.follow g ks same h, tt);
      only = λ next same f after ends eq.
          let there = first-append b.read next (left new) same ∙ ap first (sym b.from) in
          let g = a.only (b.read ++ next) there f after ends
          (sym (append_assoc a.read b.read next) ∙ eq) in
          let x = sole_only ss (b.read ++ next) after (depth n f) g.0 g.1 g.2 g.3 in
          let h = b.only next same x.0 after x.1 x.2 in
          let y = x.3 in let z = h.3 in
          (h.0, h.1, h.2, omega arith);
    }

-- the same with another way to say the tree
pub rewrap : {n : Nonterminal} {ss : List Symbol} {room : ℕ} {wrap : ℕ → Values ss → Tree n}
    (wrap' : ℕ → Values ss → Tree n) {old now : Parser} → Waits n ss room wrap old now
    → ((j : ℕ) (v : Values ss) → wrap j v ≡ wrap' j v) → Waits n ss room wrap' old now
rewrap wrap' a same = record {
  plug = a.plug;
  read = a.read;
  from = a.from;
  count = a.count;
  spelled = a.spelled;
  tree_is = λ g. a.tree_is g ∙ same _ _;
  end_is = a.end_is;
  deep = a.deep;
  follow = a.follow;
  only = a.only;
}

-- the exit of a `?`
pub exits : (n : Nonterminal) (room : ℕ) (old new : Parser) (r : Result (Tree n) ParseFault)
    (e : ParseFault) → IsErrAnd r (λ y. y ≡ e) → Fails n room old new e → Reads n room old r new
exits n room old new (Ok x) e h f = absurd h
exits n room old new (Err y) e h f = subst (Fails n room old new) (sym h) f
