-- What is read of a list, item by item.
use Rattle.std.proofs.Common.{◌≡◌, ◌<◌, ◌≤◌, ℕ, suc, List, [], ◌∷◌, ◌++◌, length, map, true, false}
use Rattle.std.proofs.Common.{Option, Some, None, refl, sym, ap, ◌∙◌, subst, arith}
use Rattle.std.specs.Prelude.{IfSome}
use Rattle.std.proofs.lemmas.Bool.{leb-true}
use Rattle.std.proofs.lemmas.Bool.Decides.{nat_tests}
use Rattle.json.specs.Token.{Token}
use Rattle.json.specs.Json.{parse_map, after_end_array}
use Rattle.serde_json.specs.Data.{Data, array, Items, no_items, item}
use Rattle.serde_json.specs.View.{items_of}
use Rattle.pra_list.specs.Each.{EachAt}
use Rattle.cert_form.specs.Form.{list}
use Rattle.cert_form.specs.Streams.{values, rests, IsAnswer, IsListAnswer, AreFew, is_full}
use Rattle.cert_form.proofs.Begun.{of_map}
use Rattle.cert_form.proofs.Turns.{rests_more, rests_none}

-- items before others
abbrev pub ahead : List Data → Items → Items
ahead [] more = more
ahead (d ∷ ds) more = item d (ahead ds more)

ahead-no_items : (ds : List Data) → ahead ds no_items ≡ items_of ds
ahead-no_items [] = refl
ahead-no_items (d ∷ ds) = ap (item d) (ahead-no_items ds)

abbrev first : Data → Items → Data
first d no_items = d
first d (item e more) = e

abbrev others : Items → Items
others no_items = no_items
others (item e more) = more

pub first_same : (d e : Data) (a b : Items) → item d a ≡ item e b → d ≡ e
first_same d e a b h = ap (first d) h

pub others_same : (d e : Data) (a b : Items) → item d a ≡ item e b → a ≡ b
others_same d e a b h = ap others h

-- an item that stands there
pub some_item : (depth : ℕ) (ts r : List Token) (ds : Items) → after_end_array ts ≡ None →
    rests depth ts ≡ Some (ds, r) → (d : Data) × (more : Items) × (ds ≡ item d more)
some_item depth ts r ds going e = by (values depth ts) refl
  where
    by : (o : Option (Data × List Token)) → values depth ts ≡ o →
        (d : Data) × (more : Items) × (ds ≡ item d more)
    by None f =
        let none = rests_none depth ts going f in absurd (cc)
    by (Some (d, s)) f =
        let m = of_map (item d) (rests depth s) ds r (sym (rests_more depth ts d s going f) ∙ e) in
        (d, m.0, m.1)

module _ {A : Type 0} (form : A → Data) where
  ahead_push : (xs : List A) (x : A) (more : Items) →
      ahead (map form (xs ++ x ∷ [])) more ≡ ahead (map form xs) (item (form x) more)
  ahead_push [] x more = refl
  ahead_push (y ∷ xs) x more = ap (item (form y)) (ahead_push xs x more)

  each_push : (P : ℕ → A → Type 0) (xs : List A) (x : A) → EachAt P xs → P (length xs) x →
      EachAt P (xs ++ x ∷ [])
  each_push P [] x h p = (p, tt)
  each_push P (y ∷ xs) x h p = (h.0, each_push (λ k. P (suc k)) xs x h.1 p)

  longer : (xs : List A) (x : A) → length (xs ++ x ∷ []) ≡ suc (length xs)
  longer [] x = refl
  longer (y ∷ xs) x = ap suc (longer xs x)

  -- where more stands than was read, there are more parts
  more_parts : (xs ys : List A) (d : Data) (more : Items) →
      ahead (map form xs) (item d more) ≡ items_of (map form ys) → length xs < length ys
  more_parts [] [] d more e = absurd (cc)
  more_parts [] (y ∷ ys) d more e = omega arith
  more_parts (x ∷ xs) [] d more e = absurd (cc)
  more_parts (x ∷ xs) (y ∷ ys) d more e =
      let h = more_parts xs ys d more
      (others_same (form x) (form y) (ahead (map form xs) (item d more)) (items_of (map form ys)) e)
      in omega (arith, h)

  -- and one of them is the next
  next_part : (P : ℕ → A → Type 0) (xs ys : List A) (d : Data) (more : Items) →
      ahead (map form xs) (item d more) ≡ items_of (map form ys) → EachAt P ys →
      (y : A) × P (length xs) y × (d ≡ form y)
  next_part P [] [] d more e h = absurd (cc)
  next_part P [] (y ∷ ys) d more e h =
      (y, h.0, first_same d (form y) more (items_of (map form ys)) e)
  next_part P (x ∷ xs) [] d more e h = absurd (cc)
  next_part P (x ∷ xs) (y ∷ ys) d more e h =
      next_part (λ k. P (suc k)) xs ys d more
      (others_same (form x) (form y) (ahead (map form xs) (item d more)) (items_of (map form ys)) e)
      h.1

abbrev pub items_in : Data → Items
items_in (array ds) = ds
items_in _ = no_items

same_items : (a b : Items) → array a ≡ array b → a ≡ b
same_items a b e = ap items_in e

-- The parts xs were read, and there is more.
pub record Gathers {A : Type 0} (form : A → Data) (fits : ℕ → A → Type 0) (most : Option ℕ)
    (whole : Option (Items × List Token)) (xs : List A) (more : Option (Items × List Token)) :
    Type 0 where
  pub read : whole ≡ parse_map (ahead (map form xs)) more
  pub fit : EachAt fits xs
  pub few : IfSome most (λ n. length xs ≤ n)

abbrev pub Told : {A : Type 0} → (A → Data) → (ℕ → A → Type 0) → Option ℕ →
    Option (Items × List Token) → Option (List A) → List Token → Type 0
Told form fits most whole found r =
    (ds : Items) × (whole ≡ Some (ds, r))
    × IsListAnswer (list form) (AreFew fits most) found ds

nothing_before : (o : Option (Items × List Token)) → o ≡ parse_map (ahead []) o
nothing_before None = refl
nothing_before (Some p) = refl

none_yet : (most : Option ℕ) → IfSome most (λ n. 0 ≤ n)
none_yet None = tt
none_yet (Some n) = omega arith

room_left : (most : Option ℕ) (len : ℕ) → is_full most len ≡ false →
    IfSome most (λ n. suc len ≤ n)
room_left None len e = tt
room_left (Some n) len e = grind (arith, nat_tests)

module _ {A : Type 0} (form : A → Data) (fits : ℕ → A → Type 0) (most : Option ℕ)
    (whole : Option (Items × List Token)) where
  pub gathers_nothing : Gathers form fits most whole [] whole
  gathers_nothing =
      record { read = nothing_before whole; fit = tt; few = none_yet most }

  module _ (xs : List A) (rest : Option (Items × List Token))
      (g : Gathers form fits most whole xs rest) where
    pub gathers_more : (x : A) (ys : List A) (d : Data) (more : Option (Items × List Token)) →
        ys ≡ xs ++ x ∷ [] → rest ≡ parse_map (item d) more → d ≡ form x → fits (length xs) x →
        is_full most (length xs) ≡ false → Gathers form fits most whole ys more
    gathers_more x ys d more is read same fit room =
        let one_more : (o : Option (Items × List Token)) →
        parse_map (ahead (map form xs)) (parse_map (item (form x)) o)
        ≡ parse_map (ahead (map form (xs ++ x ∷ []))) o =
        elim [ None ↦ refl | Some p ↦ ap (λ a. Some (a, p.1)) (sym (ahead_push form xs x p.0)) ] in
        rw is (record {
          read = g.read ∙ ap (parse_map (ahead (map form xs)))
              (read ∙ ap (λ e. parse_map (item e) more) same) ∙ one_more more;
          fit = each_push form fits xs x g.fit fit;
          few = subst (λ n. IfSome most (λ m. n ≤ m)) (sym (longer form xs x))
              (room_left most (length xs) room);
        })

    pub gathered : (r : List Token) → rest ≡ Some (no_items, r) →
        Told form fits most whole (Some xs) r
    gathered r e = (
      items_of (map form xs),
      g.read ∙ ap (parse_map (ahead (map form xs))) e
          ∙ ap (λ a. Some (a, r)) (ahead-no_items (map form xs)),
      (refl, (g.fit, g.few)),
    )

    pub none_gathered : rest ≡ None → whole ≡ None
    none_gathered e = g.read ∙ ap (parse_map (ahead (map form xs))) e

    pub too_many : (ds : Items) (r : List Token) (d : Data) (more : Items) → ds ≡ item d more →
        is_full most (length xs) ≡ true → rest ≡ Some (ds, r) →
        Told form fits most whole None r
    too_many ds r d more is full e = (
      ahead (map form xs) (item d more),
      g.read ∙ ap (parse_map (ahead (map form xs))) (e ∙ ap (λ a. Some (a, r)) is),
      (λ ys few same. over most ys few.1 (more_parts form xs ys d more (same_items _ _ same)) full),
    )
      where
        over : (m : Option ℕ) (ys : List A) → IfSome m (λ n. length ys ≤ n) →
            length xs < length ys → is_full m (length xs) ≡ true → ⊥
        over None ys few more full = cc
        over (Some n) ys few more full =
            let all = leb-true n (length xs) full in omega (arith, few, more, all)

    pub other_part : (ds : Items) (r : List Token) (d : Data) → rest ≡ Some (item d ds, r) →
        IsAnswer form (fits (length xs)) None d → Told form fits most whole None r
    other_part ds r d e none = (
      ahead (map form xs) (item d ds),
      g.read ∙ ap (parse_map (ahead (map form xs))) e,
      (λ ys few same. let next = next_part form fits xs ys d ds (same_items _ _ same) few.0 in
          none next.0 next.1 next.2),
    )

    -- the same of what was found at a number

    pub one_more_part : (number : ℕ) (found : Option A) (x : A) (ys : List A) (d : Data)
        (more : Option (Items × List Token)) → number ≡ length xs → found ≡ Some x →
        IsAnswer form (fits number) found d → rest ≡ parse_map (item d) more →
        is_full most number ≡ false → ys ≡ xs ++ x ∷ [] → Gathers form fits most whole ys more
    one_more_part number found x ys d more at is h read room longer =
        let a = rw is at h in
        gathers_more x ys d more longer read a.0 (subst (λ n. fits n x) at a.1)
        (ap (is_full most) (sym at) ∙ room)

    pub no_more_part : (number : ℕ) (found : Option A) (ds : Items) (r : List Token) (d : Data)
        (more : Option (Items × List Token)) → number ≡ length xs → found ≡ None →
        IsAnswer form (fits number) found d → rest ≡ parse_map (item d) more →
        more ≡ Some (ds, r) → Told form fits most whole None r
    no_more_part number found ds r d more same is h read e =
        other_part ds r d (read ∙ ap (parse_map (item d)) e) (rw same at (rw is at h))
