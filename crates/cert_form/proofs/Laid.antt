-- The members of an object, laid out by a list of keys.
use Rattle.std.proofs.Common.{◌≡◌, ◌<◌, ◌≤◌, ◌+◌, ◌==◌, ◌&&◌, ℕ, zero, suc, List, [], ◌∷◌, length}
use Rattle.std.proofs.Common.{Bool, true, false, Option, Some, None, refl, sym, ap, ap₂, ◌∙◌}
use Rattle.std.proofs.Common.{arith, get_or, nat_cmp, Ordering, Less, Equal, Greater, bytes_eq}
use Rattle.std.proofs.Common.{option_and_then}
use Rattle.std.proofs.lemmas.Bool.Decides.{nat_tests}
use Rattle.std.proofs.lemmas.Slice.Eq.{bytes_eq-Decides}
use Rattle.std.specs.Cmp.Lexicographic.{slice_cmp}
use Rattle.std.specs.List.{list_all}
use Rattle.std.specs.Ordering.{match_ordering}
use Rattle.json.specs.Token.{Token}
use Rattle.json.specs.Json as json
use Rattle.serde_json.specs.Data.{Data, object, Members, no_members, member, put}
use Rattle.serde_json.specs.Find.{get_member}
use Rattle.serde_json.specs.Read.{of_json, of_members}
use Rattle.serde_json.proofs.Views.{get_member-put, get_member-put_other}
use Rattle.pra_list.proofs.Choices.{and_true}
use Rattle.pra_list.proofs.Options.{some_same}
use Rattle.pra_list.proofs.Truths.{true_false}
use Rattle.cert_form.specs.Streams.{laid_one, laid, with_at, is_before, ascend, entries}
use Rattle.cert_form.proofs.Turns.{converted_some}

less_is : (o : Ordering) → match_ordering o true false false ≡ true → o ≡ Less
less_is Less e = refl
less_is o e = absurd (cc)

equal_is : (o : Ordering) → match_ordering o false true false ≡ true → o ≡ Equal
equal_is Equal e = refl
equal_is o e = absurd (cc)

greater_is : (o : Ordering) → match_ordering o false false true ≡ true → o ≡ Greater
greater_is Greater e = refl
greater_is o e = absurd (cc)

-- a key before all of a list

before_less : (k l : List ℕ) → is_before k l ≡ true → slice_cmp nat_cmp k l ≡ Less
before_less k l e =
    less_is (slice_cmp nat_cmp k l)
    (and_true (match_ordering (slice_cmp nat_cmp k l) true false false)
    (match_ordering (slice_cmp nat_cmp l k) false false true) e).0

before_greater : (k l : List ℕ) → is_before k l ≡ true → slice_cmp nat_cmp l k ≡ Greater
before_greater k l e =
    greater_is (slice_cmp nat_cmp l k)
    (and_true (match_ordering (slice_cmp nat_cmp k l) true false false)
    (match_ordering (slice_cmp nat_cmp l k) false false true) e).1

record Ascends (k : List ℕ) (ks : List (List ℕ)) : Type 0 where
  equal : slice_cmp nat_cmp k k ≡ Equal
  first : list_all (is_before k) ks ≡ true
  others : ascend ks ≡ true

ascends : (k : List ℕ) (ks : List (List ℕ)) → ascend (k ∷ ks) ≡ true → Ascends k ks
ascends k ks e =
    let a = and_true (match_ordering (slice_cmp nat_cmp k k) false true false
    && list_all (is_before k) ks) (ascend ks) e in
    let b = and_true (match_ordering (slice_cmp nat_cmp k k) false true false)
    (list_all (is_before k) ks) a.0 in
    record { equal = equal_is (slice_cmp nat_cmp k k) b.0; first = b.1; others = a.1 }

all_at : (k : List ℕ) (ks : List (List ℕ)) (i : ℕ) → list_all (is_before k) ks ≡ true →
    i < length ks → is_before k (get_or ks i []) ≡ true
all_at k [] i e h = absurd (omega arith)
all_at k (l ∷ ks) zero e h = (and_true (is_before k l) (list_all (is_before k) ks) e).0
all_at k (l ∷ ks) (suc i) e h =
    all_at k ks i (and_true (is_before k l) (list_all (is_before k) ks) e).1 (omega arith)

put_by : (k l : List ℕ) (d e : Data) (ms : Members) (o : Ordering) → slice_cmp nat_cmp k l ≡ o →
    put k d (member l e ms) ≡
    match_ordering o (member k d (member l e ms)) (member l d ms) (member l e (put k d ms))
put_by k l d e ms o is =
    ap (λ c. match_ordering c (member k d (member l e ms)) (member l d ms)
    (member l e (put k d ms))) is

-- put before all of them

put_before : (k l : List ℕ) (d : Data) (ms : Members) (o : Option Data) →
    is_before k l ≡ true → put k d ms ≡ member k d ms →
    put k d (laid_one l o ms) ≡ member k d (laid_one l o ms)
put_before k l d ms None e later = later
put_before k l d ms (Some x) e later = put_by k l d x ms Less (before_less k l e)

put_first : (k : List ℕ) (d : Data) (ks : List (List ℕ)) (n : ℕ) (os : ℕ → Option Data) →
    list_all (is_before k) ks ≡ true → put k d (laid n ks os) ≡ member k d (laid n ks os)
put_first k d [] n os e = refl
put_first k d (l ∷ ks) n os e =
    let both = and_true (is_before k l) (list_all (is_before k) ks) e in
    put_before k l d (laid (suc n) ks os) (os n) both.0 (put_first k d ks (suc n) os both.1)

-- what stands elsewhere is the same
laid_same : (ks : List (List ℕ)) (n : ℕ) (os ps : ℕ → Option Data) →
    ((i : ℕ) → n ≤ i → os i ≡ ps i) → laid n ks os ≡ laid n ks ps
laid_same [] n os ps e = refl
laid_same (k ∷ ks) n os ps e =
    ap₂ (laid_one k) (e n (omega arith))
    (laid_same ks (suc n) os ps (λ i h. e i (omega (arith, h))))

at_itself : (i : ℕ) (d : Data) (os : ℕ → Option Data) → with_at i d os i ≡ Some d
at_itself i d os =
    let same : (i == i) ≡ true = grind (arith, nat_tests) in rw same

at_other : (i j : ℕ) (d : Data) (os : ℕ → Option Data) → (j == i) ≡ false →
    with_at i d os j ≡ os j
at_other i j d os e = rw e

put_here : (k : List ℕ) (d : Data) (ms : Members) (o : Option Data) →
    slice_cmp nat_cmp k k ≡ Equal → put k d ms ≡ member k d ms →
    put k d (laid_one k o ms) ≡ laid_one k (Some d) ms
put_here k d ms None e first = first
put_here k d ms (Some x) e first = put_by k k d x ms Equal e

put_behind : (k l : List ℕ) (d : Data) (ms new : Members) (o : Option Data) →
    slice_cmp nat_cmp l k ≡ Greater → put l d ms ≡ new →
    put l d (laid_one k o ms) ≡ laid_one k o new
put_behind k l d ms new None e later = later
put_behind k l d ms new (Some x) e later = put_by l k d x ms Greater e ∙ ap (member k x) later

-- what is put under the key of an index
pub put_laid : (ks : List (List ℕ)) (i n m : ℕ) (d : Data) (os : ℕ → Option Data) →
    ascend ks ≡ true → i < length ks → m ≡ n + i →
    put (get_or ks i []) d (laid n ks os) ≡ laid n ks (with_at m d os)
put_laid [] i n m d os e h at = absurd (omega arith)
put_laid (k ∷ ks) zero n m d os e h at =
    let a = ascends k ks e in
    let same : n ≡ m = omega (arith, at) in
    let others : laid (suc n) ks os ≡ laid (suc n) ks (with_at m d os) =
    laid_same ks (suc n) os (with_at m d os)
    (λ j g. sym (at_other m j d os (grind (arith, nat_tests, g, at)))) in
    put_here k d (laid (suc n) ks os) (os n) a.equal (put_first k d ks (suc n) os a.first)
    ∙ ap₂ (laid_one k) (sym (ap (with_at m d os) same ∙ at_itself m d os)) others
put_laid (k ∷ ks) (suc i) n m d os e h at =
    let a = ascends k ks e in
    let less : i < length ks = omega (arith, h) in
    let next : m ≡ suc n + i = omega (arith, at) in
    put_behind k (get_or ks i []) d (laid (suc n) ks os) (laid (suc n) ks (with_at m d os)) (os n)
    (before_greater k (get_or ks i []) (all_at k ks i a.first less))
    (put_laid ks i (suc n) m d os a.others less next)
    ∙ ap (λ o. laid_one k o (laid (suc n) ks (with_at m d os)))
    (sym (at_other m n d os (grind (arith, nat_tests, at))))

-- A key that is none of a list is not laid.

not_one : (k l : List ℕ) (ms : Members) (o : Option Data) → (k ≡ l → ⊥) →
    ((x : Data) → put l x ms ≡ member l x ms) → get_member k ms ≡ None →
    get_member k (laid_one l o ms) ≡ None
not_one k l ms None apart first later = later
not_one k l ms (Some x) apart first later =
    sym (ap (get_member k) (first x)) ∙ get_member-put_other k l x ms apart ∙ later

pub not_laid : (ks : List (List ℕ)) (n : ℕ) (os : ℕ → Option Data) (k : List ℕ) →
    ascend ks ≡ true → ((i : ℕ) → i < length ks → get_or ks i [] ≡ k → ⊥) →
    get_member k (laid n ks os) ≡ None
not_laid [] n os k e other = refl
not_laid (l ∷ ks) n os k e other =
    let a = ascends l ks e in
    let some : 0 < length (l ∷ ks) = omega arith in
    not_one k l (laid (suc n) ks os) (os n) (λ f. other 0 some (sym f))
    (λ x. put_first l x ks (suc n) os a.first)
    (not_laid ks (suc n) os k a.others (λ i h. other (suc i) (omega (arith, h))))

-- A key that was put stays.

kept_put : (k l : List ℕ) (d e : Data) (ms : Members) → get_member k ms ≡ Some e →
    (f : Data) × (get_member k (put l d ms) ≡ Some f)
kept_put k l d e ms h = by (bytes_eq k l) refl
  where
    by : (same : Bool) → bytes_eq k l ≡ same → (f : Data) × (get_member k (put l d ms) ≡ Some f)
    by true g =
        let is : k ≡ l = (bytes_eq-Decides k l).0 g in
        (d, ap (λ x. get_member x (put l d ms)) is ∙ get_member-put l d ms)
    by false g =
        let apart : k ≡ l → ⊥ = λ f. true_false (bytes_eq k l) ((bytes_eq-Decides k l).1 f) g in
        (e, get_member-put_other k l d ms apart ∙ h)

-- members that are put one after another
abbrev Keeps : List ℕ → json.Members → Type 0
Keeps k js =
    (e : Data) (before ms : Members) → get_member k before ≡ Some e →
    of_members js before ≡ Some ms → (f : Data) × (get_member k ms ≡ Some f)

kept_member : (k l : List ℕ) (j : json.Json) (js : json.Members) (o : Option Data) →
    of_json j ≡ o → Keeps k js → Keeps k (json.member l j js)
kept_member k l j js None g later e before ms h is =
    let none : of_members (json.member l j js) before ≡ None =
    ap (option_and_then (λ x. of_members js (put l x before))) g in
    absurd (cc)
kept_member k l j js (Some d) g later e before ms h is =
    let next = kept_put k l d e before h in
    later next.0 (put l d before) ms next.1
    (sym (ap (option_and_then (λ x. of_members js (put l x before))) g) ∙ is)

kept_members : (k : List ℕ) (js : json.Members) → Keeps k js
kept_members k json.no_members =
    λ e before ms h is. (e, ap (get_member k) (sym (some_same before ms is)) ∙ h)
kept_members k (json.member l j js) =
    kept_member k l j js (of_json j) refl (kept_members k js)

pub entries_keep : (k : List ℕ) (e : Data) (before : Members) (depth : ℕ) (ts r : List Token)
    (ms : Members) → get_member k before ≡ Some e → entries before depth ts ≡ Some (ms, r) →
    (f : Data) × (get_member k ms ≡ Some f)
unfolding entries
entries_keep k e before depth ts r ms h is =
    let j = converted_some (λ js. of_members js before)
    (json.members (json.value depth) (length ts) ts) ms r is in
    kept_members k j.0 e before ms h j.2

-- All keys stand there.

abbrev pub members_in : Data → Members
members_in (object ms) = ms
members_in _ = no_members

abbrev pub zipped : List (List ℕ) → List Data → Members
zipped [] ds = no_members
zipped (k ∷ ks) [] = no_members
zipped (k ∷ ks) (d ∷ ds) = member k d (zipped ks ds)

abbrev count : Members → ℕ
count no_members = 0
count (member k d ms) = suc (count ms)

one_more : (k : List ℕ) (ms : Members) (o : Option Data) (n : ℕ) → count ms ≤ n →
    count (laid_one k o ms) ≤ suc n
one_more k ms None n h = omega (arith, h)
one_more k ms (Some x) n h = omega (arith, h)

laid_few : (ks : List (List ℕ)) (n : ℕ) (os : ℕ → Option Data) →
    count (laid n ks os) ≤ length ks
laid_few [] n os = omega arith
laid_few (k ∷ ks) n os =
    one_more k (laid (suc n) ks os) (os n) (length ks) (laid_few ks (suc n) os)

zipped_many : (ks : List (List ℕ)) (ds : List Data) → length ds ≡ length ks →
    count (zipped ks ds) ≡ length ks
zipped_many [] ds e = refl
zipped_many (k ∷ ks) [] e = absurd (omega (arith, e))
zipped_many (k ∷ ks) (d ∷ ds) e = ap suc (zipped_many ks ds (omega (arith, e)))

abbrev head_or : Data → Members → Data
head_or d no_members = d
head_or d (member k e ms) = e

abbrev tail_of : Members → Members
tail_of no_members = no_members
tail_of (member k e ms) = ms

-- one key whose value stands there, before others
some_laid : (k : List ℕ) (x : Data) (ms ns : Members) (n : ℕ) (o : Option Data) →
    count ms ≤ n → count ns ≡ n → laid_one k o ms ≡ member k x ns → (o ≡ Some x) × (ms ≡ ns)
some_laid k x ms ns n None few all e =
    let counted : count ms ≡ suc (count ns) = ap count e in
    absurd (omega (arith, few, all, counted))
some_laid k x ms ns n (Some y) few all e = (ap (λ z. Some z) (ap (head_or y) e), ap tail_of e)

pub all_laid : (ks : List (List ℕ)) (ds : List Data) (n : ℕ) (os : ℕ → Option Data) →
    length ds ≡ length ks → laid n ks os ≡ zipped ks ds → (i m : ℕ) → i < length ks → m ≡ n + i →
    (d : Data) → os m ≡ Some (get_or ds i d)
all_laid [] ds n os e same i m h at d = absurd (omega arith)
all_laid (k ∷ ks) [] n os e same i m h at d = absurd (omega (arith, e))
all_laid (k ∷ ks) (x ∷ ds) n os e same zero m h at d =
    let long : length ds ≡ length ks = omega (arith, e) in
    let s = some_laid k x (laid (suc n) ks os) (zipped ks ds) (length ks) (os n)
    (laid_few ks (suc n) os) (zipped_many ks ds long) same in
    let is : m ≡ n = omega (arith, at) in
    ap os is ∙ s.0
all_laid (k ∷ ks) (x ∷ ds) n os e same (suc i) m h at d =
    let long : length ds ≡ length ks = omega (arith, e) in
    let s = some_laid k x (laid (suc n) ks os) (zipped ks ds) (length ks) (os n)
    (laid_few ks (suc n) os) (zipped_many ks ds long) same in
    all_laid ks ds (suc n) os long s.1 i m (omega (arith, h)) (omega (arith, at)) d
