-- What readers take of tokens, a turn at a time.
use Rattle.std.proofs.Common.{◌≡◌, ℕ, zero, suc, ◌-◌, ◌<◌, ◌≤◌, List, [], ◌∷◌, length, Option, Some}
use Rattle.std.proofs.Common.{None, option_map, option_and_then, Bool, true, false, refl, sym, ap}
use Rattle.std.proofs.Common.{◌∙◌, arith}
use Rattle.json.specs.Token.{Token}
use Rattle.json.specs.Json as json
use Rattle.json.specs.Json.{Parse, parse_map, after_end_array, read_key, items, members, value}
use Rattle.json.proofs.Grammar.{Takes, left, items_end, items_fail, items_more, members_end}
use Rattle.json.proofs.Grammar.{members_no_key, members_fail, members_more, skip_value-shorter}
use Rattle.json.proofs.Grammar.{value-begin_array, value-begin_object, read_key-shorter, value_is}
use Rattle.serde_json.specs.Data.{Num, Data, null, boolean, number, string, array, object, no_items}
use Rattle.serde_json.specs.Data.{item, Members, no_members, put}
use Rattle.serde_json.specs.Read.{of_json, of_items, of_members, converted, number_of}
use Rattle.cert_form.specs.Streams.{values, rests, entries}

abbrev pick : {A : Type 0} → A → Option A → A
pick d None = d
pick d (Some a) = a

found : {B : Type 0} (r s : List Token) (x : Option B) (b : B) →
    option_map {U = B × List Token} (λ y. (y, r)) x ≡ Some (b, s) → (r ≡ s) × (x ≡ Some b)
found r s None b e = absurd (cc)
found r s (Some y) b e =
    let same = ap (pick (y, r)) e in (ap (λ p. p.1) same, ap (λ p. Some p.0) same)

pub converted_some : {A B : Type 0} (f : A → Option B) (o : Option (A × List Token)) (b : B)
    (r : List Token) → converted f o ≡ Some (b, r) → (a : A) × (o ≡ Some (a, r)) × (f a ≡ Some b)
converted_some f None b r e = absurd (cc)
converted_some f (Some p) b r e =
    let both = found p.1 r (f p.0) b e in (p.0, ap (λ s. Some (p.0, s)) both.0, both.1)

pub refused : {B : Type 0} (r : List Token) (x : Option B) →
    option_map {U = B × List Token} (λ y. (y, r)) x ≡ None → x ≡ None
refused r None e = refl
refused r (Some y) e = absurd (cc)

twice : {A B : Type 0} (g : A → B) (r : List Token) (x : Option A) →
    option_map (λ b. (b, r)) (option_map g x) ≡ parse_map g (option_map (λ a. (a, r)) x)
twice g r None = refl
twice g r (Some a) = refl

converted_array : (o : Option (json.Items × List Token)) →
    converted of_json (parse_map json.array o) ≡ parse_map array (converted of_items o)
converted_array None = refl
converted_array (Some p) = twice array p.1 (of_items p.0)

converted_object : (o : Option (json.Members × List Token)) →
    converted of_json (parse_map json.object o)
    ≡ parse_map object (converted (λ ms. of_members ms no_members) o)
converted_object None = refl
converted_object (Some p) = twice object p.1 (of_members p.0 no_members)

with_item : (j : json.Json) (d : Data) → of_json j ≡ Some d →
    (o : Option (json.Items × List Token)) →
    converted of_items (parse_map (json.item j) o) ≡ parse_map (item d) (converted of_items o)
with_item j d e None = refl
with_item j d e (Some p) = rw e (twice (item d) p.1 (of_items p.0))

without_item : (j : json.Json) → of_json j ≡ None → (o : Option (json.Items × List Token)) →
    converted of_items (parse_map (json.item j) o) ≡ None
without_item j e None = refl
without_item j e (Some p) = rw e

with_member : (k : List ℕ) (j : json.Json) (d : Data) (old : Members) → of_json j ≡ Some d →
    (o : Option (json.Members × List Token)) →
    converted (λ ms. of_members ms old) (parse_map (json.member k j) o)
    ≡ converted (λ ms. of_members ms (put k d old)) o
with_member k j d old e None = refl
with_member k j d old e (Some p) = rw e

without_member : (k : List ℕ) (j : json.Json) (old : Members) → of_json j ≡ None →
    (o : Option (json.Members × List Token)) →
    converted (λ ms. of_members ms old) (parse_map (json.member k j) o) ≡ None
without_member k j old e None = refl
without_member k j old e (Some p) = rw e

-- How many turns are counted plays no part, where they are enough.

module _ (p : Parse json.Json) (takes : Takes p) where
  item_turn : (n m : ℕ) (ts : List Token) (o : Option (List Token))
      (q : Option (json.Json × List Token)) → length ts ≤ n → length ts ≤ m →
      after_end_array ts ≡ o → p ts ≡ q →
      ((r : List Token) → length r < length ts → items p (n - 1) r ≡ items p (m - 1) r) →
      items p n ts ≡ items p m ts
  item_turn n m ts (Some r) q h k e f again =
      items_end p n ts r h e ∙ sym (items_end p m ts r k e)
  item_turn n m ts None None h k e f again = items_fail p n ts e f ∙ sym (items_fail p m ts e f)
  item_turn n m ts None (Some (j, r)) h k e f again =
      let less : length r < length ts = takes ts r (ap left f) in
      items_more p n ts r j (omega (arith, h, less)) e f
      ∙ ap (parse_map (json.item j)) (again r less)
      ∙ sym (items_more p m ts r j (omega (arith, k, less)) e f)

  items_enough : (b n m : ℕ) (ts : List Token) → length ts ≤ b → length ts ≤ n →
      length ts ≤ m → items p n ts ≡ items p m ts
  items_enough zero n m ts h k l =
      item_turn n m ts (after_end_array ts) (p ts) k l refl refl
      (λ r less. absurd (omega (arith, h, less)))
  items_enough (suc b) n m ts h k l =
      item_turn n m ts (after_end_array ts) (p ts) k l refl refl
      (λ r less. items_enough b (n - 1) (m - 1) r (omega (arith, h, less)) (omega (arith, k, less))
      (omega (arith, l, less)))

  after_key : (n m : ℕ) (k : List ℕ) (ts s : List Token) (q : Option (json.Json × List Token)) →
      length ts ≤ n → length ts ≤ m → read_key ts ≡ Some (Some k, s) → p s ≡ q →
      ((r : List Token) → length r < length ts → members p (n - 1) r ≡ members p (m - 1) r) →
      members p n ts ≡ members p m ts
  after_key n m k ts s None h l e f again =
      members_fail p n k ts s e f ∙ sym (members_fail p m k ts s e f)
  after_key n m k ts s (Some (j, r)) h l e f again =
      let less : length r < length s = takes s r (ap left f) in
      let before : length s < length ts = read_key-shorter ts (Some k) s e in
      members_more p n k ts s r j (omega (arith, h, less, before)) e f
      ∙ ap (parse_map (json.member k j)) (again r (omega (arith, less, before)))
      ∙ sym (members_more p m k ts s r j (omega (arith, l, less, before)) e f)

  member_turn : (n m : ℕ) (ts : List Token) (o : Option (Option (List ℕ) × List Token)) →
      length ts ≤ n → length ts ≤ m → read_key ts ≡ o →
      ((r : List Token) → length r < length ts → members p (n - 1) r ≡ members p (m - 1) r) →
      members p n ts ≡ members p m ts
  member_turn n m ts None h l e again = members_no_key p n ts e ∙ sym (members_no_key p m ts e)
  member_turn n m ts (Some (None, r)) h l e again =
      members_end p n ts r h e ∙ sym (members_end p m ts r l e)
  member_turn n m ts (Some (Some k, s)) h l e again = after_key n m k ts s (p s) h l e refl again

  members_enough : (b n m : ℕ) (ts : List Token) → length ts ≤ b → length ts ≤ n →
      length ts ≤ m → members p n ts ≡ members p m ts
  members_enough zero n m ts h k l =
      member_turn n m ts (read_key ts) k l refl (λ r less. absurd (omega (arith, h, less)))
  members_enough (suc b) n m ts h k l =
      member_turn n m ts (read_key ts) k l refl
      (λ r less. members_enough b (n - 1) (m - 1) r (omega (arith, h, less))
      (omega (arith, k, less)) (omega (arith, l, less)))

-- What is left of a list.

module _ (depth : ℕ) (ts : List Token) where
  pub rests_over : (r : List Token) → after_end_array ts ≡ Some r →
      rests depth ts ≡ Some (no_items, r)
  unfolding rests
  rests_over r e =
      ap (converted of_items) (items_end (value depth) (length ts) ts r (omega arith) e)

  pub rests_more : (d : Data) (r : List Token) → after_end_array ts ≡ None →
      values depth ts ≡ Some (d, r) → rests depth ts ≡ parse_map (item d) (rests depth r)
  unfolding rests values
  rests_more d r e f =
      let p = value depth in
      let j = converted_some of_json (p ts) d r f in
      let less : length r < length ts = skip_value-shorter depth ts r (ap left j.1) in
      ap (converted of_items) (items_more p (length ts) ts r j.0 (omega (arith, less)) e j.1
      ∙ ap (parse_map (json.item j.0)) (items_enough p (skip_value-shorter depth) (length r)
      (length ts - 1) (length r) r (omega arith) (omega (arith, less)) (omega arith)))
      ∙ with_item j.0 d j.2 (items p (length r) r)

  no_item : (more : Parse json.Items) (o : Option (json.Json × List Token)) →
      converted of_json o ≡ None →
      converted of_items (option_and_then (λ q. parse_map (json.item q.0) (more q.1)) o) ≡ None
  no_item more None e = refl
  no_item more (Some q) e = without_item q.0 (refused q.1 (of_json q.0) e) (more q.1)

  pub rests_none : after_end_array ts ≡ None → values depth ts ≡ None → rests depth ts ≡ None
  unfolding rests values items
  rests_none e f = item_refused (length ts)
    where
      p : Parse json.Json
      p = value depth

      item_refused : (n : ℕ) → converted of_items (items p n ts) ≡ None
      item_refused zero = refl
      item_refused (suc n) =
          ap (λ o. converted of_items (json.items_step p (items p n) ts o)) e
          ∙ no_item (items p n) (p ts) f

-- What is left of an object.

module _ (before : Members) (depth : ℕ) (ts : List Token) where
  pub entries_over : (r : List Token) → read_key ts ≡ Some (None, r) →
      entries before depth ts ≡ Some (before, r)
  unfolding entries
  entries_over r e =
      ap (converted (λ ms. of_members ms before))
      (members_end (value depth) (length ts) ts r (omega arith) e)

  pub entries_no_key : read_key ts ≡ None → entries before depth ts ≡ None
  unfolding entries
  entries_no_key e =
      ap (converted (λ ms. of_members ms before)) (members_no_key (value depth) (length ts) ts e)

  pub entries_more : (k : List ℕ) (s r : List Token) (d : Data) → read_key ts ≡ Some (Some k, s) →
      values depth s ≡ Some (d, r) → entries before depth ts ≡ entries (put k d before) depth r
  unfolding entries values
  entries_more k s r d e f =
      let p = value depth in
      let j = converted_some of_json (p s) d r f in
      let less : length r < length s = skip_value-shorter depth s r (ap left j.1) in
      let first : length s < length ts = read_key-shorter ts (Some k) s e in
      ap (converted (λ ms. of_members ms before))
      (members_more p (length ts) k ts s r j.0 (omega (arith, less, first)) e j.1
      ∙ ap (parse_map (json.member k j.0)) (members_enough p (skip_value-shorter depth) (length r)
      (length ts - 1) (length r) r (omega arith) (omega (arith, less, first)) (omega arith)))
      ∙ with_member k j.0 d before j.2 (members p (length r) r)

  no_member : (k : List ℕ) (more : Parse json.Members) (o : Option (json.Json × List Token)) →
      converted of_json o ≡ None → converted (λ ms. of_members ms before)
      (option_and_then (λ q. parse_map (json.member k q.0) (more q.1)) o) ≡ None
  no_member k more None e = refl
  no_member k more (Some q) e =
      without_member k q.0 before (refused q.1 (of_json q.0) e) (more q.1)

  pub entries_none : (k : List ℕ) (s : List Token) → read_key ts ≡ Some (Some k, s) →
      values depth s ≡ None → entries before depth ts ≡ None
  unfolding entries values members
  entries_none k s e f = member_refused (length ts)
    where
      p : Parse json.Json
      p = value depth

      member_refused : (n : ℕ) → converted (λ ms. of_members ms before) (members p n ts) ≡ None
      member_refused zero = refl
      member_refused (suc n) = rw e (no_member k (members p n) (p s) f)

-- A value by its first token.

pub values_array : (depth : ℕ) (ts : List Token) → 0 < depth →
    values depth (Token.begin_array ∷ ts) ≡ parse_map array (rests (depth - 1) ts)
unfolding values rests
values_array depth ts h =
    ap (converted of_json) (value-begin_array depth ts h)
    ∙ converted_array (items (value (depth - 1)) (length ts) ts)

pub values_object : (depth : ℕ) (ts : List Token) → 0 < depth →
    values depth (Token.begin_object ∷ ts) ≡ parse_map object (entries no_members (depth - 1) ts)
unfolding values entries
values_object depth ts h =
    ap (converted of_json) (value-begin_object depth ts h)
    ∙ converted_object (members (value (depth - 1)) (length ts) ts)

-- at other tokens

pub values_nothing : (depth : ℕ) → values depth [] ≡ None
unfolding values
values_nothing depth = ap (converted of_json) (value_is depth [])

pub values_null : (depth : ℕ) (ts : List Token) →
    values depth (Token.null ∷ ts) ≡ Some (null, ts)
unfolding values
values_null depth ts = ap (converted of_json) (value_is depth (Token.null ∷ ts))

pub values_boolean : (depth : ℕ) (b : Bool) (ts : List Token) →
    values depth (Token.boolean b ∷ ts) ≡ Some (boolean b, ts)
unfolding values
values_boolean depth b ts = ap (converted of_json) (value_is depth (Token.boolean b ∷ ts))

pub values_string : (depth : ℕ) (s : List ℕ) (ts : List Token) →
    values depth (Token.string s ∷ ts) ≡ Some (string s, ts)
unfolding values
values_string depth s ts = ap (converted of_json) (value_is depth (Token.string s ∷ ts))

-- a number, or none where it has no size
pub values_number : (depth : ℕ) (s : List ℕ) (ts : List Token) (o : Option Num) →
    number_of s ≡ o →
    values depth (Token.number s ∷ ts) ≡ option_map (λ n. (number n, ts)) o
unfolding values
values_number depth s ts o e =
    ap (converted of_json) (value_is depth (Token.number s ∷ ts)) ∙ numbered ts (number_of s)
    ∙ ap (option_map (λ n. (number n, ts))) e
  where
    numbered : (ts : List Token) (o : Option Num) →
        option_map {U = Data × List Token} (λ b. (b, ts)) (option_map number o)
        ≡ option_map (λ n. (number n, ts)) o
    numbered ts None = refl
    numbered ts (Some n) = refl

-- whether a token begins no value
abbrev pub begins_none : Token → Bool
begins_none Token.end_object = true
begins_none Token.end_array = true
begins_none (Token.key s) = true
begins_none Token.bad = true
begins_none _ = false

pub values_none : (depth : ℕ) (t : Token) (ts : List Token) → begins_none t ≡ true →
    values depth (t ∷ ts) ≡ None
unfolding values
values_none depth Token.end_object ts e =
    ap (converted of_json) (value_is depth (Token.end_object ∷ ts))
values_none depth Token.end_array ts e =
    ap (converted of_json) (value_is depth (Token.end_array ∷ ts))
values_none depth (Token.key s) ts e =
    ap (converted of_json) (value_is depth (Token.key s ∷ ts))
values_none depth Token.bad ts e = ap (converted of_json) (value_is depth (Token.bad ∷ ts))
values_none depth t ts e = absurd (cc)

-- nothing nests any deeper
pub values_no_array : (depth : ℕ) (ts : List Token) → depth ≡ 0 →
    values depth (Token.begin_array ∷ ts) ≡ None
unfolding values value
values_no_array depth ts e =
    ap (λ n. converted of_json (value n (Token.begin_array ∷ ts))) e

pub values_no_object : (depth : ℕ) (ts : List Token) → depth ≡ 0 →
    values depth (Token.begin_object ∷ ts) ≡ None
unfolding values value
values_no_object depth ts e =
    ap (λ n. converted of_json (value n (Token.begin_object ∷ ts))) e

pub values-shorter : (depth : ℕ) (ts r : List Token) (d : Data) →
    values depth ts ≡ Some (d, r) → length r < length ts
unfolding values
values-shorter depth ts r d e =
    let j = converted_some of_json (value depth ts) d r e in
    skip_value-shorter depth ts r (ap left j.1)
