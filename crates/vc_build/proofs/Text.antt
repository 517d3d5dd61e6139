-- Blocks in the order in which they are listed: parts one after the other, and blocks that are
-- opened before they are entered.
use Rattle.std.proofs.Common.{◌≡◌, ◌≢◌, ℕ, zero, suc, ◌+◌, ◌<◌, ◌≤◌, List, [], ◌∷◌, ◌++◌, length}
use Rattle.std.proofs.Common.{refl, sym, ap, ◌∙◌, subst, ⊎_elim, arith, append_assoc, append-nil}
use Rattle.std.proofs.Common.{length-append}
use Rattle.std.specs.Prelude.{nat_eq, if◌then◌else◌}
use Rattle.std.proofs.lemmas.Bool.{cases_eq}
use Rattle.pra_list.proofs.Truths.{false_from, nat_is, itself}
use Rattle.pra_base.specs.declared.ids.BlockId.{BlockId}
use Rattle.pra_base.specs.declared.code.Block.{Block}
use Rattle.pra_base.specs.declared.code.VProc.{VProc}
use Rattle.vc_build.specs.Grow.{count, Grows, GrowsAt, with_open_block}
use Rattle.vc_build.specs.Text.{depth_at, is_one, times, below, HaveDepths, Enters, IsLast, GoesOn}
use Rattle.vc_build.proofs.Growth.{grows_same, opened_block, opened_count, opened_kept}

-- ---- numbers and lists

pub times-append : (b : ℕ) (xs ys : List BlockId) → times b (xs ++ ys) ≡ times b xs + times b ys
times-append b [] ys = omega arith
times-append b (x ∷ xs) ys = omega (arith, times-append b xs ys)

pub one_here : (n : ℕ) → is_one n n ≡ 1
one_here n = ap (λ b. if b then 1 else 0) (itself n)

pub one_off : (a b : ℕ) → a ≢ b → is_one a b ≡ 0
one_off a b off = ap (λ z. if z then 1 else 0) (false_from (nat_eq a b) (λ e. off (nat_is a b e)))

pub below_next : (b k : ℕ) → below b (k + 1) ≡ below b k + is_one k b
below_next b k = let e : k + 1 ≡ suc k = omega arith in ap (below b) e

pub below_out : (b n : ℕ) → n ≤ b → below b n ≡ 0
below_out b zero le = refl
below_out b (suc n) le =
    omega (arith, below_out b n (omega (arith, le)), one_off n b (λ e. omega (arith, e, le)))

pub below_in : (b n : ℕ) → b < n → below b n ≡ 1
below_in b zero lt = absurd (omega (arith, lt))
below_in b (suc n) lt = ⊎_elim
    (λ (e : n ≡ b). omega (
      arith,
      below_out b n (omega (arith, e)),
      ap (λ z. is_one z b) e,
      one_here b,
    ))
    (λ (d : n ≢ b). omega (arith, below_in b n (omega (arith, d, lt)), one_off n b d))
    (cases_eq n b)

-- ---- depths

pub have_later : (one two : VProc) → count one ≤ count two →
    ((b : ℕ) → b < count one → depth_at two b ≡ depth_at one b) →
    (bs : List BlockId) (ds : List ℕ) → HaveDepths one bs ds → HaveDepths two bs ds
have_later one two le kept [] [] h = tt
have_later one two le kept [] (d ∷ ds) h = absurd h
have_later one two le kept (b ∷ bs) [] h = absurd h
have_later one two le kept (b ∷ bs) (d ∷ ds) h =
    (omega (arith, h.0, le), kept b.0 h.0 ∙ h.1, have_later one two le kept bs ds h.2)

pub have_append : (code : VProc) (bs : List BlockId) (ds : List ℕ) (cs : List BlockId)
    (es : List ℕ) → HaveDepths code bs ds → HaveDepths code cs es →
    HaveDepths code (bs ++ cs) (ds ++ es)
have_append code [] [] cs es h k = k
have_append code [] (d ∷ ds) cs es h k = absurd h
have_append code (b ∷ bs) [] cs es h k = absurd h
have_append code (b ∷ bs) (d ∷ ds) cs es h k = (h.0, h.1, have_append code bs ds cs es h.2 k)

-- ---- parts one after the other

pub enters_same : (old new : VProc) (order : List BlockId) → Grows old new → count new ≤ count old →
    Enters old new order order []
enters_same old new order grows none =
    let e : count new ≡ count old = omega (arith, none, grows.blocks) in
    record {
      more = [];
      is = sym (append-nil order);
      once = λ b. omega (arith, ap (below b) e);
      have = tt;
      blocks = omega (arith, e);
      kept = λ b lt. (grows.kept b lt).depth;
    }

pub enters_on : (old one two : VProc) (o1 o2 o3 : List BlockId) (ds es : List ℕ) →
    Enters old one o1 o2 ds → Enters one two o2 o3 es → Enters old two o1 o3 (ds ++ es)
enters_on old one two o1 o2 o3 ds es p q = record {
  more = p.more ++ q.more;
  is = q.is ∙ ap (λ l. l ++ q.more) p.is ∙ append_assoc o1 p.more q.more;
  once = λ b. omega (arith, times-append b p.more q.more, p.once b, q.once b);
  have = have_append two p.more ds q.more es
      (have_later one two (omega (arith, q.blocks)) q.kept p.more ds p.have) q.have;
  blocks = omega (arith, p.blocks, q.blocks, length-append ds es);
  kept = λ b lt. q.kept b (omega (arith, lt, p.blocks)) ∙ p.kept b lt;
}

pub enters_after : (old mid new : VProc) (o1 o2 : List BlockId) (ds : List ℕ) →
    Enters old mid o1 o2 ds → Grows mid new → count new ≤ count mid → Enters old new o1 o2 ds
enters_after old mid new o1 o2 ds p grows none =
    subst (Enters old new o1 o2) (append-nil ds)
    (enters_on old mid new o1 o2 o2 ds [] p (enters_same mid new o2 grows none))

pub enters_before : (old mid new : VProc) (o1 o2 : List BlockId) (ds : List ℕ) → Grows old mid →
    count mid ≤ count old → Enters mid new o1 o2 ds → Enters old new o1 o2 ds
enters_before old mid new o1 o2 ds grows none p = enters_on old mid new o1 o1 o2 [] ds
    (enters_same old mid o1 grows none) p

pub last_is : (order : List BlockId) (b : BlockId) → IsLast (order ++ b ∷ []) b.0
last_is order b = record { rest = order; last = b; is = refl; number = refl }

-- ---- from one open block to another

pub goes_same : (at : ℕ) (old new : VProc) (order : List BlockId) → GrowsAt at old new →
    at < count old → count new ≤ count old → GoesOn at at old new order order []
goes_same at old new order grows lt none = record {
  enters = enters_same old new order grows.grows none;
  last = λ l. l;
  depth = (grows.grows.kept at lt).depth;
}

pub goes_on : (from between to : ℕ) (old one two : VProc) (o1 o2 o3 : List BlockId)
    (ds es : List ℕ) → GoesOn from between old one o1 o2 ds → GoesOn between to one two o2 o3 es →
    GoesOn from to old two o1 o3 (ds ++ es)
goes_on from between to old one two o1 o2 o3 ds es p q = record {
  enters = enters_on old one two o1 o2 o3 ds es p.enters q.enters;
  last = λ l. q.last (p.last l);
  depth = q.depth ∙ p.depth;
}

pub goes_after : (from to : ℕ) (old mid new : VProc) (o1 o2 : List BlockId) (ds : List ℕ) →
    GoesOn from to old mid o1 o2 ds → GrowsAt to mid new → count new ≤ count mid → to < count mid →
    GoesOn from to old new o1 o2 ds
goes_after from to old mid new o1 o2 ds p grows none lt = record {
  enters = enters_after old mid new o1 o2 ds p.enters grows.grows none;
  last = p.last;
  depth = (grows.grows.kept to lt).depth ∙ p.depth;
}

-- ---- a block that is opened before it is entered

module _ (d : ℕ) (old one : VProc) (x : BlockId) (made : one ≡ with_open_block d old)
    (number : x.0 ≡ count old) where
  abbrev n : ℕ
  n = count old

  one_count : count one ≡ n + 1
  one_count = ap count made ∙ opened_count d old

  one_more : (b : ℕ) → is_one x.0 b + below b n ≡ below b (count one)
  one_more b = omega (arith, ap (λ z. is_one z b) number, below_next b n, ap (below b) one_count)

  one_deep : depth_at one x.0 ≡ d
  one_deep = ap (λ k. depth_at one k) number ∙ ap (λ (z : VProc). depth_at z n) made
      ∙ ap (λ (b : Block). b.depth) (opened_block d old)

  one_kept : (b : ℕ) → b < n → depth_at one b ≡ depth_at old b
  one_kept b lt = ap (λ (z : VProc). depth_at z b) made ∙ ap (λ (k : Block). k.depth)
      (opened_kept d old b lt)

  -- between two parts
  pub enters_between : (two new : VProc) (o1 o2 o3 : List BlockId) (ds es : List ℕ) →
      Enters one two o1 o2 ds → Enters two new (o2 ++ x ∷ []) o3 es →
      Enters old new o1 o3 (ds ++ d ∷ es)
  enters_between two new o1 o2 o3 ds es p q =
      let lt : x.0 < count one = omega (arith, number, one_count) in
      let lt2 : x.0 < count two = omega (arith, lt, p.blocks) in record {
        more = p.more ++ x ∷ q.more;
        is = q.is ∙ ap (λ l. (l ++ x ∷ []) ++ q.more) p.is ∙ append_assoc (o1 ++ p.more)
            (x ∷ []) q.more ∙ append_assoc o1 p.more (x ∷ q.more);
        once = λ b. omega (
          arith,
          times-append b p.more (x ∷ q.more),
          p.once b,
          q.once b,
          one_more b,
        );
        have = have_append new p.more ds (x ∷ q.more) (d ∷ es)
            (have_later two new (omega (arith, q.blocks)) q.kept p.more ds p.have)
            (omega (arith, lt2, q.blocks), q.kept x.0 lt2 ∙ p.kept x.0 lt ∙ one_deep, q.have);
        blocks = omega (arith, p.blocks, q.blocks, one_count, length-append ds (d ∷ es));
        kept = λ b l. q.kept b (omega (arith, l, one_count, p.blocks))
            ∙ p.kept b (omega (arith, l, one_count)) ∙ one_kept b l;
      }

  -- behind a part
  pub enters_behind : (two new : VProc) (o1 o2 : List BlockId) (ds : List ℕ) →
      Enters one two o1 o2 ds → Grows two new → count new ≤ count two →
      Enters old new o1 (o2 ++ x ∷ []) (ds ++ d ∷ [])
  enters_behind two new o1 o2 ds p grows none = enters_between two new o1 o2 (o2 ++ x ∷ []) ds [] p
      (enters_same two new (o2 ++ x ∷ []) grows none)

  pub enters_behind_here : (new : VProc) (o1 o2 : List BlockId) (ds : List ℕ) →
      Enters one new o1 o2 ds → Enters old new o1 (o2 ++ x ∷ []) (ds ++ d ∷ [])
  enters_behind_here new o1 o2 ds p = enters_behind new new o1 o2 ds p (grows_same new)
      (omega arith)

-- ---- two blocks, and three

-- blocks were opened, and these are their depths
pub record Opens (old new : VProc) (more : List BlockId) (depths : List ℕ) : Type 0 where
  pub once : (b : ℕ) → times b more + below b (count old) ≡ below b (count new)
  pub have : HaveDepths new more depths
  pub blocks : count new ≡ count old + length depths
  pub kept : (b : ℕ) → b < count old → depth_at new b ≡ depth_at old b

pub opens_none : (code : VProc) → Opens code code [] []
opens_none code = record {
  once = λ b. omega arith;
  have = tt;
  blocks = omega arith;
  kept =
      λ b lt. refl;
}

-- the block that is opened last comes first in the list
pub opens_more : (d : ℕ) (old mid new : VProc) (x : BlockId) (more : List BlockId) (ds : List ℕ) →
    Opens old mid more ds → new ≡ with_open_block d mid → x.0 ≡ count mid →
    Opens old new (x ∷ more) (d ∷ ds)
opens_more d old mid new x more ds p made number = record {
  once = λ b. omega (arith, p.once b, one_more d mid new x made number b);
  have = (
    omega (arith, number, one_count d mid new x made number),
    one_deep d mid new x made number,
    have_later mid new (omega (arith, one_count d mid new x made number))
        (one_kept d mid new x made number) more ds p.have,
  );
  blocks = omega (arith, p.blocks, one_count d mid new x made number);
  kept = λ b lt. one_kept d mid new x made number b (omega (arith, lt, p.blocks)) ∙ p.kept b lt;
}

-- the same blocks in other orders
pub opens_turned : (old new : VProc) (x y : BlockId) (d e : ℕ) →
    Opens old new (x ∷ y ∷ []) (d ∷ e ∷ []) → Opens old new (y ∷ x ∷ []) (e ∷ d ∷ [])
opens_turned old new x y d e p = record {
  once = λ b. omega (arith, p.once b);
  have = (p.have.2.0, p.have.2.1, (p.have.0, p.have.1, tt));
  blocks = p.blocks;
  kept = p.kept;
}

pub opens_rotated : (old new : VProc) (x y z : BlockId) (d e f : ℕ) → Opens old new (x ∷ y ∷ z ∷ [])
    (d ∷ e ∷ f ∷ []) → Opens old new (y ∷ z ∷ x ∷ []) (e ∷ f ∷ d ∷ [])
opens_rotated old new x y z d e f p = record {
  once = λ b. omega (arith, p.once b);
  have = (p.have.2.0, p.have.2.1, (p.have.2.2.0, p.have.2.2.1, (p.have.0, p.have.1, tt)));
  blocks = p.blocks;
  kept = p.kept;
}

pub opens_behind_first : (old new : VProc) (x y z : BlockId) (d e f : ℕ) →
    Opens old new (x ∷ y ∷ z ∷ []) (d ∷ e ∷ f ∷ []) → Opens old new (x ∷ z ∷ y ∷ [])
    (d ∷ f ∷ e ∷ [])
opens_behind_first old new x y z d e f p = record {
  once = λ b. omega (arith, p.once b);
  have = (p.have.0, p.have.1, (p.have.2.2.0, p.have.2.2.1, (p.have.2.0, p.have.2.1, tt)));
  blocks = p.blocks;
  kept = p.kept;
}

-- Of the blocks that were opened some are entered before the first part, one behind each of the
-- two parts.
module _ (old one two three new : VProc) (head : List BlockId) (x y : BlockId) (fs : List ℕ)
    (d e : ℕ) (o1 o2 o3 : List BlockId) (ds es : List ℕ)
    (opens : Opens old one (x ∷ y ∷ head) (d ∷ e ∷ fs))
    (p : Enters one two (o1 ++ head) o2 ds) (q : Enters two three (o2 ++ x ∷ []) o3 es)
    (grows : Grows three new) (none : count new ≤ count three) where
  far : Enters three new (o3 ++ y ∷ []) (o3 ++ y ∷ []) []
  far = enters_same three new (o3 ++ y ∷ []) grows none

  same_count : count new ≡ count three
  same_count = omega (arith, none, grows.blocks)

  deep : (b : BlockId) (k : ℕ) → b.0 < count one → depth_at one b.0 ≡ k → (b.0 < count new) ×
      (depth_at new b.0 ≡ k)
  deep b k l1 is =
      let l2 : b.0 < count two = omega (arith, l1, p.blocks) in
      let l3 : b.0 < count three = omega (arith, l2, q.blocks) in
      (omega (arith, l3, far.blocks), far.kept b.0 l3 ∙ q.kept b.0 l2 ∙ p.kept b.0 l1 ∙ is)

  later_one : (bs : List BlockId) (ks : List ℕ) → HaveDepths one bs ks → HaveDepths new bs ks
  later_one [] [] h = tt
  later_one [] (k ∷ ks) h = absurd h
  later_one (b ∷ bs) [] h = absurd h
  later_one (b ∷ bs) (k ∷ ks) h = let here = deep b k h.0 h.1 in
      (here.0, here.1, later_one bs ks h.2)

  later_three : (bs : List BlockId) (ks : List ℕ) → HaveDepths three bs ks → HaveDepths new bs ks
  later_three bs ks h = have_later three new (omega (arith, far.blocks)) far.kept bs ks h

  later_two : (bs : List BlockId) (ks : List ℕ) → HaveDepths two bs ks → HaveDepths new bs ks
  later_two bs ks h = later_three bs ks
      (have_later two three (omega (arith, q.blocks)) q.kept bs ks h)

  first_have : HaveDepths new p.more ds
  first_have = later_two p.more ds p.have

  second_have : HaveDepths new (x ∷ q.more) (d ∷ es)
  second_have = let here = deep x d opens.have.0 opens.have.1 in
      (here.0, here.1, later_three q.more es q.have)

  last_have : HaveDepths new (y ∷ []) (e ∷ [])
  last_have = later_one (y ∷ []) (e ∷ []) (opens.have.2.0, opens.have.2.1, tt)

  all_kept : (b : ℕ) → b < count old → depth_at new b ≡ depth_at old b
  all_kept b lt =
      let l1 : b < count one = omega (arith, lt, opens.blocks) in
      let l2 : b < count two = omega (arith, l1, p.blocks) in
      let l3 : b < count three = omega (arith, l2, q.blocks) in
      far.kept b l3 ∙ q.kept b l2 ∙ p.kept b l1 ∙ opens.kept b lt

  order_is : o3 ++ y ∷ [] ≡ o1 ++ (head ++ (p.more ++ x ∷ (q.more ++ y ∷ [])))
  order_is =
      ap (λ l. l ++ y ∷ []) q.is ∙ append_assoc (o2 ++ x ∷ []) q.more (y ∷ []) ∙ append_assoc o2
      (x ∷ []) (q.more ++ y ∷ [])
      ∙ ap (λ l. l ++ x ∷ (q.more ++ y ∷ [])) p.is ∙ append_assoc (o1 ++ head) p.more
      (x ∷ (q.more ++ y ∷ [])) ∙ append_assoc o1 head (p.more ++ x ∷ (q.more ++ y ∷ []))

  pub enters_parts : Enters old new o1 (o3 ++ y ∷ []) (fs ++ (ds ++ d ∷ (es ++ e ∷ [])))
  enters_parts = record {
    more = head ++ (p.more ++ x ∷ (q.more ++ y ∷ []));
    is = order_is;
    once = λ b. omega (
      arith,
      times-append b head (p.more ++ x ∷ (q.more ++ y ∷ [])),
      times-append b p.more (x ∷ (q.more ++ y ∷ [])),
      times-append b q.more (y ∷ []),
      p.once b,
      q.once b,
      ap (below b) same_count,
      opens.once b,
    );
    have =
        have_append new head fs (p.more ++ x ∷ (q.more ++ y ∷ [])) (ds ++ d ∷ (es ++ e ∷ []))
        (later_one head fs opens.have.2.2)
        (have_append new p.more ds (x ∷ (q.more ++ y ∷ [])) (d ∷ (es ++ e ∷ [])) first_have
        (have_append new (x ∷ q.more) (d ∷ es) (y ∷ []) (e ∷ []) second_have last_have));
    blocks = omega (
      arith,
      far.blocks,
      q.blocks,
      p.blocks,
      opens.blocks,
      length-append fs (ds ++ d ∷ (es ++ e ∷ [])),
      length-append ds (d ∷ (es ++ e ∷ [])),
      length-append es (e ∷ []),
    );
    kept = all_kept;
  }

  -- the second part before the first one
  module _ (o4 : List BlockId) (is : o4 ≡ o1 ++ (x ∷ (q.more ++ (head ++ p.more)))) where
    turned_order : o4 ++ y ∷ [] ≡ o1 ++ (x ∷ (q.more ++ (head ++ (p.more ++ y ∷ []))))
    turned_order =
        ap (λ l. l ++ y ∷ []) is ∙ append_assoc o1 (x ∷ (q.more ++ (head ++ p.more))) (y ∷ [])
        ∙ ap (λ l. o1 ++ (x ∷ l)) (append_assoc q.more (head ++ p.more) (y ∷ []))
        ∙ ap (λ l. o1 ++ (x ∷ (q.more ++ l))) (append_assoc head p.more (y ∷ []))

    pub enters_turned : Enters old new o1 (o4 ++ y ∷ []) (d ∷ (es ++ (fs ++ (ds ++ e ∷ []))))
    enters_turned = record {
      more = x ∷ (q.more ++ (head ++ (p.more ++ y ∷ [])));
      is = turned_order;
      once = λ b. omega (
        arith,
        times-append b q.more (head ++ (p.more ++ y ∷ [])),
        times-append b head (p.more ++ y ∷ []),
        times-append b p.more (y ∷ []),
        p.once b,
        q.once b,
        ap (below b) same_count,
        opens.once b,
      );
      have =
          have_append new (x ∷ q.more) (d ∷ es) (head ++ (p.more ++ y ∷ []))
          (fs ++ (ds ++ e ∷ [])) second_have
          (have_append new head fs (p.more ++ y ∷ []) (ds ++ e ∷ [])
          (later_one head fs opens.have.2.2)
          (have_append new p.more ds (y ∷ []) (e ∷ []) first_have last_have));
      blocks = omega (
        arith,
        far.blocks,
        q.blocks,
        p.blocks,
        opens.blocks,
        length-append es (fs ++ (ds ++ e ∷ [])),
        length-append fs (ds ++ e ∷ []),
        length-append ds (e ∷ []),
      );
      kept = all_kept;
    }

-- one behind each of two parts
pub enters_two : (old one two three new : VProc) (x y : BlockId) (d e : ℕ) (o1 o2 o3 : List BlockId)
    (ds es : List ℕ) → Opens old one (x ∷ y ∷ []) (d ∷ e ∷ []) → Enters one two o1 o2 ds →
    Enters two three (o2 ++ x ∷ []) o3 es → Grows three new → count new ≤ count three →
    Enters old new o1 (o3 ++ y ∷ []) (ds ++ d ∷ (es ++ e ∷ []))
enters_two old one two three new x y d e o1 o2 o3 ds es opens p q grows none =
    enters_parts old one two three new [] x y [] d e o1 o2 o3 ds es opens
    (subst (λ l. Enters one two l o2 ds) (sym (append-nil o1)) p) q grows none

-- one before each of two parts, and one behind both
pub enters_three : (old one two three new : VProc) (h x y : BlockId) (f d e : ℕ)
    (o1 o2 o3 : List BlockId) (ds es : List ℕ) → Opens old one (x ∷ y ∷ h ∷ []) (d ∷ e ∷ f ∷ []) →
    Enters one two (o1 ++ h ∷ []) o2 ds → Enters two three (o2 ++ x ∷ []) o3 es → Grows three new →
    count new ≤ count three → Enters old new o1 (o3 ++ y ∷ []) (f ∷ (ds ++ d ∷ (es ++ e ∷ [])))
enters_three old one two three new h x y f d e o1 o2 o3 ds es opens p q grows none =
    enters_parts old one two three new (h ∷ []) x y (f ∷ []) d e o1 o2 o3 ds es opens p q grows none
