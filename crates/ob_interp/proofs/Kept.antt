-- What the store in maps holds, location by location, and what changes of the maps do to it.
use Rattle.std.proofs.lemmas.Bool.Decides.{eqb_tells}
use Rattle.std.proofs.lemmas.Option.{slice_get-get_or}
use Rattle.std.proofs.lemmas.List.{length-set}
use Rattle.std.specs.Vec.{with_item}
use Rattle.pra_list.proofs.Elements.{got_set, got_unset}
use Rattle.std.proofs.Math.Dec.{eqb}
use Rattle.std.proofs.Common.{◌≡◌, ◌≢◌, ◌⊎◌, inl, inr, ℕ, zero, suc, ◌+◌, ◌<◌, Bool, true, false}
use Rattle.std.proofs.Common.{◌≤◌, cond, not, List, [], ◌∷◌, ◌++◌, map, Option, Some, None, refl}
use Rattle.std.proofs.Common.{sym, ap, ◌∙◌, subst, arith, Vec, get_or, Result, Ok, Err, OnOk}
use Rattle.std.specs.Prelude.{unwrap_or, slice_get, slice_set, length}
use Rattle.std.specs.declared.alloc.Global.{Global}
use Rattle.std.specs.declared.cmp.Ordering.{Ordering}
use Rattle.std.specs.declared.cmp.Ordering.TheVariants.{Less, Equal, Greater}
use Rattle.std.specs.Ordering.{is_eq, nat_cmp, ordering_then, eq_by_cmp, match_ordering}
use Rattle.std.specs.Cmp.{tied_itself, nat_cmp_total}
use Rattle.std.specs.Cmp.Lexicographic.{slice_cmp, nat_list_cmp_total}
use Rattle.std.specs.BTreeMap.{insert_entry, BTreeMap}
use Rattle.std.specs.declared.alloc.AllocError.{AllocError}
use Rattle.std.specs.FinMap as finite
use Rattle.ob_syntax.specs.declared.checked.Value.{Value}
use Rattle.ob_mean.specs.declared.store.Object.{Object}
use Rattle.ob_mean.specs.declared.store.Object.TheVariants.{Module, Param, Local}
use Rattle.ob_mean.specs.declared.store.Location.{Location}
use Rattle.ob_mean.specs.Store.{location_cmp, read, assigned, begun, is_at_depth}
use Rattle.ob_mean.proofs.Stores.{ordered, tied}
use Rattle.ob_interp.specs.declared.memory.Layer.{Layer}
use Rattle.ob_interp.specs.declared.memory.Memory.{Memory}
use Rattle.ob_interp.specs.Kept.{Part, part_cmp, held, is_part, entry_at, of_layer, of_layers}
use Rattle.ob_interp.specs.Kept.{all_assigned, store_in, parts_of, held_by, kept_at}

abbrev at : Object → List ℕ → Location
at o p = record { object = o; path = p }

abbrev or_else : Option Value → Option Value → Option Value
or_else (Some x) y = Some x
or_else None y = y

or_none : (x : Option Value) → or_else x None ≡ x
or_none (Some x) = refl
or_none None = refl

chosen_else : (b : Bool) (v : Value) (x y : Option Value) → cond b (Some v) (or_else x y)
    ≡ or_else (cond b (Some v) x) y
chosen_else true v x y = refl
chosen_else false v x y = refl

find_both : (l : Location) (xs ys : List (Location × Value)) →
    finite.find location_cmp l (xs ++ ys)
    ≡ or_else (finite.find location_cmp l xs) (finite.find location_cmp l ys)
find_both l [] ys = refl
find_both l (x ∷ xs) ys =
    ap (cond (eq_by_cmp location_cmp l x.0) (Some x.1)) (find_both l xs ys)
    ∙ chosen_else (eq_by_cmp location_cmp l x.0) x.1 _ _

-- the object of a layer's parts
abbrev object_in : Bool → ℕ → ℕ → Object
object_in false depth n = Param depth n
object_in true depth n = Local depth n

-- the object of a number beside another one: of the module, or of the same call and kind
abbrev beside : Object → ℕ → Object
beside (Module m) n = Module n
beside (Param d m) n = Param d n
beside (Local d m) n = Local d n

beside_both : (o : Object) (n m : ℕ) → beside (beside o n) m ≡ beside o m
beside_both (Module k) n m = refl
beside_both o n m = refl

abbrev Apart : Object → Object → Type 0
Apart o q = beside o 0 ≢ beside q 0

untied_by : (r : Ordering) (l m : Location) → location_cmp l m ≡ r → l ≢ m → is_eq r ≡ false
untied_by Equal l m e d = absurd (d (tied l m e))
untied_by r l m e d = refl

untied : (l m : Location) → Apart l.object m.object → eq_by_cmp location_cmp l m ≡ false
untied l m d = untied_by (location_cmp l m) l m refl
    (λ e. d (ap (λ (k : Location). beside k.object 0) e))

same_side : (o : Object) (k n : ℕ) (p path : List ℕ) →
    eq_by_cmp location_cmp (at (beside o k) p) (at (beside o n) path) ≡ is_part k p n path
same_side (Module m) k n p path = refl
same_side (Param d m) k n p path = ap (λ r. is_eq (ordering_then r (ordering_then (nat_cmp k n)
    (slice_cmp nat_cmp p path)))) (tied_itself nat_cmp_total d)
same_side (Local d m) k n p path = ap (λ r. is_eq (ordering_then r (ordering_then (nat_cmp k n)
    (slice_cmp nat_cmp p path)))) (tied_itself nat_cmp_total d)

-- among the parts of one side, and of another
among : (o : Object) (es : List (Part × Value)) (n : ℕ) (path : List ℕ) →
    finite.find location_cmp (at (beside o n) path) (map (entry_at (beside o)) es)
    ≡ held es n path
among o [] n path = refl
among o (e ∷ es) n path = λ i.
    cond (same_side o n e.0.0 path e.0.1.items i) (Some e.1) (among o es n path i)

not_among : (l : Location) (o : Object) → Apart l.object o → (es : List (Part × Value)) →
    finite.find location_cmp l (map (entry_at (beside o)) es) ≡ None
not_among l o apart [] = refl
not_among l o apart (e ∷ es) = λ i.
    cond (untied l (at (beside o e.0.0) e.0.1.items) (λ f. apart (f ∙ beside_both o e.0.0 0)) i)
    (Some e.1) (not_among l o apart es i)

-- an object of no call, and those of calls at two depths or of two kinds
abbrev NotAt : Object → ℕ → Type 0
NotAt o d = Apart o (Param d 0) × Apart o (Local d 0)

no_depth : (n d : ℕ) → NotAt (Module n) d
no_depth n d = (λ is. absurd (cc), λ is. absurd (cc))

other_depth : (local : Bool) (d e n : ℕ) → d ≢ e → NotAt (object_in local d n) e
other_depth false d e n apart = (λ is. absurd (apart (cc)), λ is. absurd (cc))
other_depth true d e n apart = (λ is. absurd (cc), λ is. absurd (apart (cc)))

not_in_layer : (l : Location) (d : ℕ) (layer : Layer) → NotAt l.object d →
    finite.find location_cmp l (of_layer d layer) ≡ None
not_in_layer l d layer apart =
    find_both l (map (entry_at (Param d)) layer.params.entries)
    (map (entry_at (Local d)) layer.locals.entries)
    ∙ (λ i. or_else (not_among l (Param d 0) apart.0 layer.params.entries i)
    (not_among l (Local d 0) apart.1 layer.locals.entries i))

in_no_layer : (l : Location) (layers : List Layer) (e : ℕ) →
    ((d : ℕ) → e ≤ d → NotAt l.object d) → finite.find location_cmp l (of_layers e layers) ≡ None
in_no_layer l [] e apart = refl
in_no_layer l (layer ∷ layers) e apart =
    find_both l (of_layer e layer) (of_layers (suc e) layers)
    ∙ (λ i. or_else (not_in_layer l e layer (apart e (omega arith)) i)
    (in_no_layer l layers (suc e) (λ d h. apart d (omega (arith, h))) i))

in_own_layer : (local : Bool) (layer : Layer) (d n : ℕ) (p : List ℕ) →
    finite.find location_cmp (at (object_in local d n) p) (of_layer d layer)
    ≡ held (parts_of local layer) n p
in_own_layer false layer d n p =
    find_both (at (Param d n) p) (map (entry_at (Param d)) layer.params.entries)
    (map (entry_at (Local d)) layer.locals.entries)
    ∙ (λ i. or_else (among (Param d 0) layer.params.entries n p i)
    (not_among (at (Param d n) p) (Local d 0) (λ is. absurd (cc)) layer.locals.entries i))
    ∙ or_none (held layer.params.entries n p)
in_own_layer true layer d n p =
    find_both (at (Local d n) p) (map (entry_at (Param d)) layer.params.entries)
    (map (entry_at (Local d)) layer.locals.entries)
    ∙ (λ i. or_else
    (not_among (at (Local d n) p) (Param d 0) (λ is. absurd (cc)) layer.params.entries i)
    (among (Local d 0) layer.locals.entries n p i))

in_layers : (local : Bool) (layers : List Layer) (e d k n : ℕ) (p : List ℕ) → k ≡ e + d →
    finite.find location_cmp (at (object_in local k n) p) (of_layers e layers)
    ≡ held_by local (slice_get layers d) n p
in_layers local [] e d k n p is = refl
in_layers local (layer ∷ layers) e zero k n p is =
    let l = at (object_in local k n) p in
    let here : e ≡ k = omega (arith, is) in
    find_both l (of_layer e layer) (of_layers (suc e) layers)
    ∙ (λ i. or_else (finite.find location_cmp l (of_layer (here i) layer))
    (in_no_layer l layers (suc e)
    (λ d h. other_depth local k d n (λ f. absurd (omega (arith, is, h, f)))) i))
    ∙ or_none (finite.find location_cmp l (of_layer k layer)) ∙ in_own_layer local layer k n p
in_layers local (layer ∷ layers) e (suc d) k n p is =
    let l = at (object_in local k n) p in
    find_both l (of_layer e layer) (of_layers (suc e) layers)
    ∙ (λ i. or_else
    (not_in_layer l e layer (other_depth local k e n (λ f. absurd (omega (arith, is, f)))) i)
    (in_layers local layers (suc e) d k n p (omega (arith, is)) i))

-- what the store has at a location
pub get-kept : (m : Memory) (o : Object) (p : List ℕ) → finite.get (store_in m)
    (record { object = o; path = p }) ≡ kept_at m o p
get-kept m o p =
    finite.get-from_entries ordered (all_assigned m) (at o p)
    ∙ find_both (at o p) (map (entry_at Module) m.module.entries) (of_layers 0 m.layers.items)
    ∙ there o
  where
    there : (o : Object) →
        or_else (finite.find location_cmp (at o p) (map (entry_at Module) m.module.entries))
        (finite.find location_cmp (at o p) (of_layers 0 m.layers.items)) ≡ kept_at m o p
    there (Module n) =
        (λ i. or_else (among (Module 0) m.module.entries n p i)
        (in_no_layer (at (Module n) p) m.layers.items 0 (λ d h. no_depth n d) i))
        ∙ or_none (held m.module.entries n p)
    there (Param d n) = λ i. or_else
        (not_among (at (Param d n) p) (Module 0) (λ is. absurd (cc)) m.module.entries i)
        (in_layers false m.layers.items 0 d d n p (omega arith) i)
    there (Local d n) = λ i. or_else
        (not_among (at (Local d n) p) (Module 0) (λ is. absurd (cc)) m.module.entries i)
        (in_layers true m.layers.items 0 d d n p (omega arith) i)

pub read-kept : (m : Memory) (start : Value) (l : Location) → read (store_in m) start l
    ≡ unwrap_or (kept_at m l.object l.path) start
read-kept m start l = ap (λ x. unwrap_or x start) (get-kept m l.object l.path)

-- ---- one part is put

same_part : (k e : Part) → part_cmp k e ≡ Equal → k.0 ∷ k.1.items ≡ e.0 ∷ e.1.items
same_part k e is = finite.slice_cmp-IsAntisymmetric finite.nat_cmp-IsAntisymmetric (k.0 ∷ k.1.items)
    (e.0 ∷ e.1.items) is

equal_by : (r : Ordering) → is_eq r ≡ true → r ≡ Equal
equal_by Equal e = refl
equal_by r e = absurd (cc)

-- whether a part is the one that is asked for is a fact on its number and path
abbrev asks : List ℕ → List ℕ → Bool
asks q k = is_eq (slice_cmp nat_cmp q k)

swapped : (a b : Bool) (x y : Value) (z : Option Value) → (a ≡ true → b ≡ true → ⊥) →
    cond a (Some x) (cond b (Some y) z) ≡ cond b (Some y) (cond a (Some x) z)
swapped true true x y z apart = absurd (apart refl refl)
swapped true false x y z apart = refl
swapped false b x y z apart = refl

replaced : (b : Bool) (x y : Value) (z : Option Value) → cond b (Some x) z
    ≡ cond b (Some x) (cond b (Some y) z)
replaced true x y z = refl
replaced false x y z = refl

both_asked : (q k e : List ℕ) → asks q k ≡ true → asks q e ≡ true → slice_cmp nat_cmp k e ≡ Equal
both_asked q k e a b = sym (nat_list_cmp_total.congr q k e (equal_by _ a)) ∙ equal_by _ b

put_at : (r : Ordering) (k e : Part) (v x : Value) (es : List (Part × Value)) (n : ℕ)
    (path : List ℕ) → part_cmp k e ≡ r →
    held (insert_entry part_cmp es k v) n path ≡ cond (is_part n path k.0 k.1.items) (Some v)
    (held es n path) →
    held (match_ordering r ((k, v) ∷ (e, x) ∷ es) ((e, v) ∷ es)
    ((e, x) ∷ insert_entry part_cmp es k v)) n path
    ≡ cond (is_part n path k.0 k.1.items) (Some v) (cond (is_part n path e.0 e.1.items) (Some x)
    (held es n path))
put_at Less k e v x es n path is more = refl
put_at Equal k e v x es n path is more =
    ap (λ (q : List ℕ). cond (asks (n ∷ path) q) (Some v) (held es n path)) (sym (same_part k e is))
    ∙ replaced (is_part n path k.0 k.1.items) v x (held es n path)
    ∙ ap (λ (q : List ℕ). cond (is_part n path k.0 k.1.items) (Some v)
    (cond (asks (n ∷ path) q) (Some x) (held es n path))) (same_part k e is)
put_at Greater k e v x es n path is more =
    ap (cond (is_part n path e.0 e.1.items) (Some x)) more
    ∙ swapped (is_part n path e.0 e.1.items) (is_part n path k.0 k.1.items) x v (held es n path)
    (λ a b. let same = both_asked (n ∷ path) (k.0 ∷ k.1.items) (e.0 ∷ e.1.items) b a in absurd (cc))

pub held-put : (es : List (Part × Value)) (k : Part) (v : Value) (n : ℕ) (path : List ℕ) →
    held (insert_entry part_cmp es k v) n path ≡ cond (is_part n path k.0 k.1.items) (Some v)
    (held es n path)
held-put [] k v n path = refl
held-put (e ∷ es) k v n path = put_at (part_cmp k e.0)
    k e.0 v e.1 es n path refl (held-put es k v n path)

-- ---- an assignment, and a call that begins

pub assigned-kept : (m new : Memory) (l : Location) (v : Value) →
    ((o : Object) (p : List ℕ) → kept_at new o p
    ≡ cond (eq_by_cmp location_cmp (record { object = o; path = p }) l) (Some v)
    (kept_at m o p)) →
    store_in new ≡ assigned (store_in m) l v
assigned-kept m new l v is =
    finite.same_map ordered tied (store_in new) (assigned (store_in m) l v)
    (λ q. get-kept new q.object q.path ∙ is q.object q.path
    ∙ ap (cond (eq_by_cmp location_cmp q l) (Some v)) (sym (get-kept m q.object q.path))
    ∙ sym (finite.get-insert ordered (store_in m) l v q))

pub begun-kept : (m new : Memory) (depth : ℕ) →
    ((o : Object) (p : List ℕ) → kept_at new o p ≡ cond (not (is_at_depth depth o)) (kept_at m o p)
    None) →
    store_in new ≡ begun (store_in m) depth
begun-kept m new depth is =
    finite.same_map ordered tied (store_in new) (begun (store_in m) depth)
    (λ q. get-kept new q.object q.path ∙ is q.object q.path
    ∙ ap (λ x. cond (not (is_at_depth depth q.object)) x None) (sym (get-kept m q.object q.path))
    ∙ sym (finite.get-retain_keys (store_in m) (λ r. not (is_at_depth depth r.object))
    q (λ r t. ap (λ (n : Location). not (is_at_depth depth n.object)) (sym (tied q r t)))))

pub same-kept : (m new : Memory) → ((o : Object) (p : List ℕ) → kept_at new o p ≡ kept_at m o p) →
    store_in new ≡ store_in m
same-kept m new is =
    finite.same_map ordered tied (store_in new) (store_in m) (λ q. get-kept new q.object q.path
    ∙ is q.object q.path ∙ sym (get-kept m q.object q.path))

-- in the module's variables
pub module-assigned : (m new : Memory) (n : ℕ) (path : List ℕ) (v : Value) → new.layers.items
    ≡ m.layers.items →
    ((k : ℕ) (p : List ℕ) → held new.module.entries k p ≡ cond (is_part k p n path) (Some v)
    (held m.module.entries k p)) →
    store_in new ≡ assigned (store_in m) (record { object = Module n; path = path }) v
module-assigned m new n path v layers put = assigned-kept m new (at (Module n) path) v there
  where
    there : (o : Object) (p : List ℕ) → kept_at new o p
        ≡ cond (eq_by_cmp location_cmp (at o p) (at (Module n) path)) (Some v) (kept_at m o p)
    there (Module k) p = put k p
    there (Param d k) p = ap (λ ls. held_by false (slice_get ls d) k p) layers
    there (Local d k) p = ap (λ ls. held_by true (slice_get ls d) k p) layers

same_depth : (local : Bool) (d k n : ℕ) (p path : List ℕ) →
    eq_by_cmp location_cmp (at (object_in local d k) p) (at (object_in local d n) path)
    ≡ is_part k p n path
same_depth false d k n p path = same_side (Param d 0) k n p path
same_depth true d k n p path = same_side (Local d 0) k n p path

kinds_apart : (local : Bool) (d k n : ℕ) → Apart (object_in (not local) d k) (object_in local d n)
kinds_apart false d k n is = absurd (cc)
kinds_apart true d k n is = absurd (cc)

of_kind : (local : Bool) (o : Object) (d n : ℕ) → NotAt o d → Apart o (object_in local d n)
of_kind false o d n apart = apart.0
of_kind true o d n apart = apart.1

by_kind : (P : Bool → Type 0) (this other : Bool) → P this → P (not this) → P other
by_kind P false false p q = p
by_kind P false true p q = q
by_kind P true false p q = q
by_kind P true true p q = p

-- in the variables of a call: layer is what its depth had before, layer' is what it has then
module _ (m new : Memory) (local : Bool) (d n : ℕ) (path : List ℕ) (v : Value)
    (layer layer' : Layer)
    (old : slice_get m.layers.items d ≡ Some layer) (set : slice_get new.layers.items d
    ≡ Some layer')
    (others : (e : ℕ) → e ≢ d → slice_get new.layers.items e ≡ slice_get m.layers.items e)
    (put : (k : ℕ) (p : List ℕ) → held (parts_of local layer') k p
    ≡ cond (is_part k p n path) (Some v) (held (parts_of local layer) k p))
    (kept : parts_of (not local) layer' ≡ parts_of (not local) layer) where
  abbrev Puts : ℕ → Bool → Type 0
  Puts e other = (k : ℕ) (p : List ℕ) → held_by other (slice_get new.layers.items e) k p
      ≡ cond (eq_by_cmp location_cmp (at (object_in other e k) p) (at (object_in local d n) path))
      (Some v) (held_by other (slice_get m.layers.items e) k p)

  untied_from : (o : Object) (p : List ℕ) → Apart o (object_in local d n) →
      false ≡ eq_by_cmp location_cmp (at o p) (at (object_in local d n) path)
  untied_from o p apart = sym (untied (at o p) (at (object_in local d n) path) apart)

  here : Puts d local
  here k p =
      (λ i. held_by local (set i) k p) ∙ put k p
      ∙ (λ i. cond (sym (same_depth local d k n p path) i) (Some v) (held_by local (sym old i) k p))

  there : Puts d (not local)
  there k p =
      (λ i. held_by (not local) (set i) k p) ∙ (λ i. held (kept i) k p)
      ∙ (λ i. cond (untied_from (object_in (not local) d k) p (kinds_apart local d k n) i) (Some v)
      (held_by (not local) (sym old i) k p))

  anywhere : (other : Bool) (e : ℕ) →
      ((eqb e d ≡ true) × (e ≡ d)) ⊎ ((eqb e d ≡ false) × (e ≢ d)) → Puts e other
  anywhere other e (inl is) =
      subst (λ j. Puts j other) (sym is.1) (by_kind (Puts d) local other here there)
  anywhere other e (inr is) = λ k p i.
      cond (untied_from (object_in other e k) p
      (of_kind local (object_in other e k) d n (other_depth other e d k is.1)) i) (Some v)
      (held_by other (others e is.1 i) k p)

  pub call-assigned : new.module.entries ≡ m.module.entries → store_in new
      ≡ assigned (store_in m) (record { object = object_in local d n; path = path }) v
  call-assigned same = assigned-kept m new (at (object_in local d n) path) v told
    where
      told : (o : Object) (p : List ℕ) → kept_at new o p
          ≡ cond (eq_by_cmp location_cmp (at o p) (at (object_in local d n) path)) (Some v)
          (kept_at m o p)
      told (Module j) p = λ i.
          cond (untied_from (Module j) p (of_kind local (Module j) d n (no_depth j d)) i) (Some v)
          (held (same i) j p)
      told (Param e k) p = anywhere false e (eqb_tells e d) k p
      told (Local e k) p = anywhere true e (eqb_tells e d) k p

-- nothing is assigned at a depth any more
pub call-begun : (m new : Memory) (d : ℕ) (layer : Layer) → slice_get new.layers.items d
    ≡ Some layer → ((local : Bool) → parts_of local layer ≡ []) →
    ((e : ℕ) → e ≢ d → slice_get new.layers.items e ≡ slice_get m.layers.items e) →
    new.module.entries ≡ m.module.entries → store_in new ≡ begun (store_in m) d
call-begun m new d layer set none others same = begun-kept m new d there
  where
    at_depth : (local : Bool) (e k : ℕ) (p : List ℕ) → ((eqb e d ≡ true) × (e ≡ d))
        ⊎ ((eqb e d ≡ false) × (e ≢ d)) →
        held_by local (slice_get new.layers.items e) k p ≡ cond (not (eqb e d))
        (held_by local (slice_get m.layers.items e) k p) None
    at_depth local e k p (inl is) =
        (λ i. held_by local (slice_get new.layers.items (is.1 i)) k p)
        ∙ (λ i. held_by local (set i) k p) ∙ (λ i. held (none local i) k p)
        ∙ (λ i. cond (not (sym is.0 i)) (held_by local (slice_get m.layers.items e) k p) None)
    at_depth local e k p (inr is) = λ i.
        cond (not (sym is.0 i)) (held_by local (others e is.1 i) k p) None

    there : (o : Object) (p : List ℕ) → kept_at new o p ≡ cond (not (is_at_depth d o))
        (kept_at m o p) None
    there (Module j) p = ap (λ es. held es j p) same
    there (Param e k) p = at_depth false e k p (eqb_tells e d)
    there (Local e k) p = at_depth true e k p (eqb_tells e d)

none_assigned : (layer : Layer) → layer.params.entries ≡ [] → layer.locals.entries ≡ [] →
    (local : Bool) → parts_of local layer ≡ []
none_assigned layer params locals false = params
none_assigned layer params locals true = locals

-- a layer in which nothing is assigned, behind the others
held_past : (local : Bool) (layers : List Layer) (empty : Layer) (e k : ℕ) (p : List ℕ) →
    parts_of local empty ≡ [] →
    held_by local (slice_get (layers ++ empty ∷ []) e) k p ≡ held_by local (slice_get layers e) k p
held_past local [] empty zero k p none = ap (λ es. held es k p) none
held_past local [] empty (suc e) k p none = refl
held_past local (x ∷ xs) empty zero k p none = refl
held_past local (x ∷ xs) empty (suc e) k p none = held_past local xs empty e k p none

pub layer-added : (m new : Memory) (empty : Layer) → empty.params.entries ≡ [] →
    empty.locals.entries ≡ [] → new.module.entries ≡ m.module.entries →
    new.layers.items ≡ m.layers.items ++ empty ∷ [] → store_in new ≡ store_in m
layer-added m new empty params locals same added = same-kept m new there
  where
    there : (o : Object) (p : List ℕ) → kept_at new o p ≡ kept_at m o p
    there (Module j) p = ap (λ es. held es j p) same
    there (Param e k) p = ap (λ ls. held_by false (slice_get ls e) k p) added
        ∙ held_past false m.layers.items empty e k p params
    there (Local e k) p = ap (λ ls. held_by true (slice_get ls e) k p) added
        ∙ held_past true m.layers.items empty e k p locals

-- what was put under a key that is made of a number and a path
pub named : (key : Part) (n : ℕ) (path : List ℕ) (v : Value) (new old : List (Part × Value)) →
    key.0 ≡ n → key.1.items ≡ path →
    ((k : ℕ) (p : List ℕ) → held new k p ≡ cond (is_part k p key.0 key.1.items) (Some v)
    (held old k p)) →
    (k : ℕ) (p : List ℕ) → held new k p ≡ cond (is_part k p n path) (Some v) (held old k p)
named key n path v new old number its put k p =
    put k p ∙ ap (λ i. cond (is_part k p i key.1.items) (Some v) (held old k p)) number
    ∙ ap (λ is. cond (is_part k p n is) (Some v) (held old k p)) its

-- the layer of a depth is taken out, changed, and written back
pub layer-written : (old m : Memory) (local : Bool) (d n : ℕ) (l : Location) (v : Value)
    (key : Part) (layer now spare layer' : Layer) →
    store_in m ≡ store_in old → l.object ≡ object_in local d n → key.0 ≡ n →
    key.1.items ≡ l.path → d < length m.layers.items → now ≡ get_or m.layers.items d now →
    layer ≡ now →
    ((k : ℕ) (p : List ℕ) → held (parts_of local layer') k p
    ≡ cond (is_part k p key.0 key.1.items) (Some v) (held (parts_of local layer) k p)) →
    parts_of (not local) layer' ≡ parts_of (not local) layer →
    store_in (record {
      «module» = m.module;
      layers = with_item (with_item m.layers d spare) d layer';
    }) ≡ assigned (store_in old) l v
layer-written old m local d n l v key layer now spare layer' same is number its lt got taken put
    kept =
    let without = slice_set m.layers.items d spare in
    let inside : d < length without =
    subst (λ k. d < k) (sym (length-set m.layers.items d spare)) lt in
    call-assigned m (record {
      «module» = m.module;
      layers = with_item (with_item m.layers d spare) d layer';
    }) local d n l.path v layer layer'
    (slice_get-get_or m.layers.items d now lt ∙ ap Some (sym got ∙ sym taken))
    (got_set without d layer' inside)
    (λ e apart. got_unset without d e layer' apart ∙ got_unset m.layers.items d e spare apart)
    (named key n l.path v (parts_of local layer') (parts_of local layer) number its put) kept refl
    ∙ (λ i. assigned (same i) (record { object = sym is i; path = l.path }) v)

pub layer-begun : (m : Memory) (written : Vec Layer Global) (d : ℕ) (layer : Layer) →
    d < length m.layers.items → written.items ≡ slice_set m.layers.items d layer →
    layer.params.entries ≡ [] → layer.locals.entries ≡ [] →
    store_in (record { «module» = m.module; layers = written }) ≡ begun (store_in m) d
layer-begun m written d layer lt back params locals =
    call-begun m (record { «module» = m.module; layers = written })
    d layer (ap (λ ls. slice_get ls d) back ∙ got_set m.layers.items d layer lt)
    (none_assigned layer params locals)
    (λ e apart. ap (λ ls. slice_get ls e) back ∙ got_unset m.layers.items d e layer apart) refl

pub put_there : (m : Memory) (parts : BTreeMap Part Value) (r : Result (Unit {0}) AllocError)
    (n : ℕ) (key : Part) (l : Location) (v : Value) →
    l.object ≡ Module n → key.0 ≡ n → key.1.items ≡ l.path →
    OnOk r ((k : ℕ) (p : List ℕ) → held parts.entries k p ≡ cond (is_part k p key.0 key.1.items)
    (Some v) (held m.module.entries k p)) →
    OnOk r (store_in (record { «module» = parts; layers = m.layers }) ≡ assigned (store_in m) l v)
put_there m parts (Ok u) n key l v is number its put =
    module-assigned m (record { «module» = parts; layers = m.layers })
    n l.path v refl (named key n l.path v parts.entries m.module.entries number its put)
    ∙ ap (λ o. assigned (store_in m) (record { object = o; path = l.path }) v) (sym is)
put_there m parts (Err e) n key l v is number its put = tt
