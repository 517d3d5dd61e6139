-- Where the parts of a location are, and how far from the begin of their object.
use Rattle.std.proofs.Common.{◌≡◌, ℕ, zero, suc, ◌+◌, ◌≤◌, Bool, true, List, [], ◌∷◌, ◌++◌, length}
use Rattle.std.proofs.Common.{map, Option, Some, refl, sym, ap, ◌∙◌, arith}
use Rattle.std.specs.Prelude.{slice_get, slice_index_or, sum_by, if◌then◌else◌}
use Rattle.std.proofs.lemmas.List.Sums.{sum_by-cons}
use Rattle.pra_list.specs.Options.{◌>>=◌}
use Rattle.pra_list.proofs.Options.{some_same, none_some, bind_some}
use Rattle.ob_syntax.specs.declared.checked.Checked.{Checked}
use Rattle.ob_syntax.specs.declared.checked.Shape.{Shape}
use Rattle.ob_syntax.specs.Storage.{type_words}
use Rattle.ob_mean.specs.declared.store.LiveCall.{LiveCall}
use Rattle.ob_mean.specs.declared.store.Location.{Location}
use Rattle.ob_mean.specs.declared.store.Object.{Object}
use Rattle.ob_mean.specs.Designators.{shape_of}
use Rattle.ob_mean.specs.Program.{frame_of, live_frames}
use Rattle.ob_mean.specs.Store.{part}
use Rattle.vc_code.specs.declared.value.Object.{Object as Machine}
use Rattle.vc_code.specs.Machine.{Activation, depth}
use Rattle.vc_code.specs.Selected.{Vars, shape}
use Rattle.vc_code.specs.declared.value.Object.TheVariants.{Data, Aggregates, Cell}
use Rattle.vc_build.specs.Runs.{Codes}
use Rattle.vc_relation.specs.Layout.{Part, part_in, part_along, words_before, further, FollowOn}
use Rattle.vc_relation.specs.Layout.{is_aggregate, local_words, var_words, IsLaidOut}
use Rattle.vc_relation.specs.Spots.{Spot, InVariable, InWord, Placed, placed_at, placed}
use Rattle.vc_relation.specs.Spots.{part_placed, beyond}
use Rattle.vc_relation.proofs.Apart.{Standing, IsData, IsVariable, IsCell, IsAggregate, stands}
use Rattle.vc_relation.proofs.Apart.{found, type_within}
use Rattle.vc_relation.proofs.Parts.{lies_within, scalar_words}

-- ---- the frames of live calls are those of the source's calls

pub same_frames : (w : Codes) (cs : List (Activation Vars)) (calls : List LiveCall) →
    map (λ c. c.proc) cs ≡ map (λ (call : LiveCall). call.proc.0) calls →
    depth (shape w.procs w.frames) cs ≡ live_frames w.frames calls
same_frames w [] [] e = refl
same_frames w [] (call ∷ calls) e = cc
same_frames w (c ∷ cs) [] e = cc
same_frames w (c ∷ cs) (call ∷ calls) e =
    let head : c.proc ≡ call.proc.0 = first_same c.proc call.proc.0 (map (λ z. z.proc) cs)
    (map (λ (z : LiveCall). z.proc.0) calls) e in
    let size : slice_index_or w.frames c.proc 0 ≡ frame_of w.frames call.proc.0 =
    ap (λ p. slice_index_or w.frames p 0) head in
    let rest = same_frames w cs calls
    (rest_same c.proc call.proc.0 (map (λ z. z.proc) cs)
    (map (λ (z : LiveCall). z.proc.0) calls) e) in
    omega (arith, size, rest, sum_by-cons (λ (z : LiveCall). frame_of w.frames z.proc.0) call calls)
  where
    first_same : (x y : ℕ) (xs ys : List ℕ) → (x ∷ xs) ≡ (y ∷ ys) → x ≡ y
    first_same x y xs ys d = cc

    rest_same : (x y : ℕ) (xs ys : List ℕ) → (x ∷ xs) ≡ (y ∷ ys) → xs ≡ ys
    rest_same x y xs ys d = cc

-- ---- one part further on

abbrev part_of : (word type_id : ℕ) → Part
part_of word type_id = record { word = word; type_id = type_id }

module _ (shapes : List Shape) (k element : ℕ) where
  along_on : (t : ℕ) (path : List ℕ) (p : Part) → part_along shapes t path ≡ Some p →
      part_in (shape_of shapes p.type_id) k ≡ Some element →
      part_along shapes t (path ++ k ∷ []) ≡
      Some (part_of (p.word + words_before shapes (shape_of shapes p.type_id) k) element)
  along_on t [] p e there =
      let is = some_same (part_of 0 t) p e in
      let zero_word : 0 ≡ p.word = ap (λ (q : Part). q.word) is in
      let type_is : t ≡ p.type_id = ap (λ (q : Part). q.type_id) is in
      let here : part_in (shape_of shapes t) k ≡ Some element =
      ap (λ n. part_in (shape_of shapes n) k) type_is ∙ there in
      let before : words_before shapes (shape_of shapes t) k ≡ words_before shapes
      (shape_of shapes p.type_id) k = ap (λ n. words_before shapes (shape_of shapes n) k)
      type_is in
      ap (λ (o : Option ℕ). o >>= λ n. part_along shapes n [] >>= λ q. Some
      (further (words_before shapes (shape_of shapes t) k) q)) here
      ∙ ap (λ n. Some (part_of n element)) (omega (arith, zero_word, before))
  along_on t (j ∷ path) p e there =
      let one = bind_some (part_in (shape_of shapes t) j)
      (λ n. part_along shapes n path >>= λ q. Some
      (further (words_before shapes (shape_of shapes t) j) q)) p e in
      let two = bind_some (part_along shapes one.0 path)
      (λ q. Some (further (words_before shapes (shape_of shapes t) j) q)) p one.2 in
      let is = some_same (further (words_before shapes (shape_of shapes t) j) two.0) p two.2 in
      let words : words_before shapes (shape_of shapes t) j + two.0.word ≡ p.word =
      ap (λ (q : Part). q.word) is in
      let types : two.0.type_id ≡ p.type_id = ap (λ (q : Part). q.type_id) is in
      let before : words_before shapes (shape_of shapes two.0.type_id) k ≡ words_before shapes
      (shape_of shapes p.type_id) k = ap (λ n. words_before shapes (shape_of shapes n) k)
      types in
      let rest = along_on one.0 path two.0 two.1
      (ap (λ n. part_in (shape_of shapes n) k) types ∙ there) in
      ap (λ (o : Option ℕ). o >>= λ n. part_along shapes n (path ++ k ∷ []) >>= λ q. Some
      (further (words_before shapes (shape_of shapes t) j) q)) one.1
      ∙ ap (λ (o : Option Part). o >>= λ q. Some
      (further (words_before shapes (shape_of shapes t) j) q)) rest
      ∙ ap (λ n. Some (part_of n element)) (omega (arith, words, before))

-- ---- what lies one behind the other lies before the end

module _ {A : Type 0} (test : A → Bool) (first words : A → ℕ) where
  follow_below : (from to : ℕ) (xs : List A) → FollowOn test first words from to xs → from ≤ to
  follow_below from to [] f = omega (arith, f)
  follow_below from to (x ∷ xs) f =
      omega (arith, follow_below (from + (if test x then words x else 0)) to xs f.1)

  pub follow_within : (from to : ℕ) (xs : List A) (k : ℕ) (x : A) →
      FollowOn test first words from to xs → slice_get xs k ≡ Some x → test x ≡ true →
      first x + words x ≤ to
  follow_within from to [] k x f e t = absurd (none_some e)
  follow_within from to (y ∷ ys) zero x f e t =
      let is = some_same y x e in
      let here : first y ≡ from = f.0 (ap test is ∙ t) in
      let same : first y ≡ first x = ap first is in
      let size : (if test y then words y else 0) ≡ words x =
      ap (λ z. if test z then words z else 0) is ∙ ap (λ b. if b then words x else 0) t in
      omega (
        arith,
        here,
        same,
        size,
        follow_below (from + (if test y then words y else 0)) to ys
            f.1,
      )
  follow_within from to (y ∷ ys) (suc k) x f e t =
      follow_within (from + (if test y then words y else 0)) to ys k x f.1 e t

-- ---- places

module _ (program : Checked) (frames : List ℕ) (calls : List LiveCall) (laid : IsLaidOut program)
  where
    abbrev types : List Shape
    types = program.types

    -- how many words an object may have
    abbrev pub most : ℕ
    most = 4194304

    begin_bound : (o : Object) (x : Placed) (object : Machine) (w : ℕ) →
        Standing program frames calls o x → x.spot ≡ InWord object w →
        w + type_words types x.type_id ≤ most
    begin_bound o x object w (IsData n var a b c) e =
        let word : var.word ≡ w = word_is var.word w Data object
        (sym (ap (λ (z : Placed). z.spot) c) ∙ e) in
        let size : type_words types x.type_id ≡ var_words types var =
        ap (λ (z : Placed). type_words types z.type_id) c in
        omega (
          arith,
          word,
          size,
          laid.few,
          follow_within (λ v. true) (λ v. v.word) (var_words types)
              0 program.data_words program.vars n var laid.vars b refl,
        )
      where
        word_is : (i j : ℕ) (y z : Machine) → InWord y i ≡ InWord z j → i ≡ j
        word_is i j y z d = cc
    begin_bound o x object w (IsVariable depth v call proc a b c d f) e =
        absurd (never (InVariable depth v) depth v object w refl (sym c ∙ e))
      where
        never : (y : Spot) (m n : ℕ) (z : Machine) (j : ℕ) → y ≡ InVariable m n → y ≡ InWord z j → ⊥
        never (InVariable m' n') m n z j d h = cc
        never (InWord z' j') m n z j d h = cc
    begin_bound o x object w (IsCell depth k call a b c d) e =
        let word : 0 ≡ w = word_is 0 w
        (Cell (Rattle.std.specs.Prelude.length call.1) (live_frames frames call.1) k) object
        (sym c ∙ e) in
        omega (arith, word, scalar_words types laid.types x.type_id d)
      where
        word_is : (i j : ℕ) (y z : Machine) → InWord y i ≡ InWord z j → i ≡ j
        word_is i j y z d' = cc
    begin_bound o x object w (IsAggregate depth k call proc local a b c d f h) e =
        let word : local.word ≡ w =
        word_is local.word w (Aggregates (length call.1) (live_frames frames (call.0 ∷ call.1)))
        object (sym (ap (λ (z : Placed). z.spot) h) ∙ e) in
        let size : type_words types x.type_id ≡ local_words types local =
        ap (λ (z : Placed). type_words types z.type_id) h in
        let p = laid.procs call.0.proc.0 proc b in
        omega (
          arith,
          word,
          size,
          p.few,
          follow_within is_aggregate (λ l. l.word) (local_words types)
              0 proc.aggregate_words proc.locals k local p.locals d f,
        )
      where
        word_is : (i j : ℕ) (y z : Machine) → InWord y i ≡ InWord z j → i ≡ j
        word_is i j y z d' = cc

    -- the spot where a location's object begins
    begin_word : (x : Spot) (i : ℕ) (object : Machine) (w : ℕ) → beyond x i ≡ InWord object w →
        (v : ℕ) × (x ≡ InWord object v) × (w ≡ v + i)
    begin_word (InVariable d v) i object w e = absurd (differ d v object w e)
      where
        differ : (d v : ℕ) (object : Machine) (w : ℕ) → InVariable d v ≡ InWord object w → ⊥
        differ d v object w h = cc
    begin_word (InWord y v) i object w e = (
      v,
      ap (λ z. InWord z v) (object_is y object (v + i) w e),
      sym (word_is y object (v + i) w e),
    )
      where
        object_is : (y z : Machine) (a b : ℕ) → InWord y a ≡ InWord z b → y ≡ z
        object_is y z a b h = cc

        word_is : (y z : Machine) (a b : ℕ) → InWord y a ≡ InWord z b → a ≡ b
        word_is y z a b h = cc

    -- what is at a spot of an object lies within the object
    pub word_bound : (l : Location) (object : Machine) (w type_id : ℕ) →
        placed program frames calls l ≡ Some (placed_at (InWord object w) type_id) →
        w + type_words types type_id ≤ most
    word_bound l object w type_id e =
        let f = found program frames calls laid l (placed_at (InWord object w) type_id) e in
        let st = stands program frames calls laid l.object f.begin f.object_there in
        let b = begin_word f.begin.spot f.part.word object w (ap (λ (z : Placed). z.spot) f.is) in
        let inside = lies_within types laid.types f.begin.type_id l.path f.part
        (type_within program frames calls laid l.object f.begin st) f.part_there in
        let type_is : type_words types f.part.type_id ≡ type_words types type_id =
        ap (λ (z : Placed). type_words types z.type_id) f.is in
        omega (arith, b.2, inside, type_is, begin_bound l.object f.begin object b.0 st b.1)

    -- the part of a location
    pub part_is : (l : Location) (object : Machine) (w type_id k element : ℕ) →
        placed program frames calls l ≡ Some (placed_at (InWord object w) type_id) →
        part_in (shape_of types type_id) k ≡ Some element →
        placed program frames calls (part l k) ≡
        Some (placed_at (InWord object (w + words_before types (shape_of types type_id) k))
        element)
    part_is l object w type_id k element e there =
        let f = found program frames calls laid l (placed_at (InWord object w) type_id) e in
        let b = begin_word f.begin.spot f.part.word object w (ap (λ (z : Placed). z.spot) f.is) in
        let types_are : f.part.type_id ≡ type_id = ap (λ (z : Placed). z.type_id) f.is in
        let before : words_before types (shape_of types f.part.type_id) k ≡ words_before types
        (shape_of types type_id) k = ap (λ n. words_before types (shape_of types n) k)
        types_are in
        let rest = along_on types k element f.begin.type_id l.path f.part f.part_there
        (ap (λ n. part_in (shape_of types n) k) types_are ∙ there) in
        ap (λ (o : Option Placed). o >>= λ z. part_along types z.type_id (l.path ++ k ∷ []) >>= λ q.
        Some (part_placed z q)) f.object_there
        ∙ ap (λ (o : Option Part). o >>= λ q. Some (part_placed f.begin q)) rest
        ∙ ap (λ s. Some (placed_at
        (beyond s (f.part.word + words_before types (shape_of types f.part.type_id) k)) element))
        b.1
        ∙ ap (λ n. Some (placed_at (InWord object n) element)) (omega (arith, b.2, before))
