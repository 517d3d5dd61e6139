-- The blocks that code of a tree enters, form by form.
use Rattle.std.proofs.Common.{◌≡◌, ℕ, suc, ◌+◌, ◌<◌, ◌≤◌, List, [], ◌∷◌, ◌++◌, sym, ap, ◌∙◌, subst}
use Rattle.std.proofs.Common.{arith}
use Rattle.std.specs.Prelude.{replicate}
use Rattle.std.proofs.lemmas.List.{replicate-append-replicate}
use Rattle.pra_base.specs.Code.{block_of}
use Rattle.pra_base.specs.declared.ids.BlockId.{BlockId}
use Rattle.pra_base.specs.declared.code.Block.{Block}
use Rattle.pra_base.specs.declared.code.VarKind.{VarKind}
use Rattle.pra_base.specs.declared.code.VProc.{VProc}
use Rattle.ob_syntax.specs.declared.checked.ROp.{ROp}
use Rattle.vc_build.specs.Grow.{count, with_open_block, with_variable, IsOpen, GrowsAt}
use Rattle.vc_build.specs.Text.{depth_at, is_one, below, Enters, GoesOn}
use Rattle.vc_build.proofs.Growth.{opened_block, opened_count, opened_kept, grows_at_same}
use Rattle.vc_build.proofs.Growth.{declared_grows}
use Rattle.vc_build.proofs.Text.{enters_after, enters_between, enters_two, last_is, goes_same}
use Rattle.vc_build.proofs.Text.{goes_on, goes_after, Opens}
use Rattle.vc_expr.specs.Choices.{OpensChoice}
use Rattle.vc_expr.specs.declared.choice.Choice.{Choice}
use Rattle.vc_select.specs.Blocks.{StaysInText, EndsInText}
use Rattle.vc_select.specs.Indexes.{IndexedBy}
use Rattle.vc_select.specs.declared.target.Target.{Target}
use Rattle.vc_select.specs.declared.target.Target.TheVariants.{Var, Memory}

-- ---- parts one after the other

pub text_as : (n m from to : ℕ) (old new : VProc) (o1 o2 : List BlockId) → n ≡ m →
    StaysInText m from to old new o1 o2 → StaysInText n from to old new o1 o2
text_as n m from to old new o1 o2 e = subst (λ k. StaysInText k from to old new o1 o2) (sym e)

pub ends_text_as : (n m from : ℕ) (old new : VProc) (o1 o2 : List BlockId) → n ≡ m →
    EndsInText m from old new o1 o2 → EndsInText n from old new o1 o2
ends_text_as n m from old new o1 o2 e = subst (λ k. EndsInText k from old new o1 o2) (sym e)

pub text_nothing : (at : ℕ) (old new : VProc) (o : List BlockId) → GrowsAt at old new →
    at < count old → count new ≤ count old → StaysInText 0 at at old new o o
text_nothing at old new o grows lt none =
    record { goes = goes_same at old new o grows lt none }

pub text_on : (n m from between to : ℕ) (old one two : VProc) (o1 o2 o3 : List BlockId) →
    StaysInText n from between old one o1 o2 → StaysInText m between to one two o2 o3 →
    StaysInText (n + m) from to old two o1 o3
text_on n m from between to old one two o1 o2 o3 p q = record {
  goes = subst (GoesOn from to old two o1 o3)
      (ap (λ d. replicate n (depth_at old from) ++ replicate m d) p.goes.depth
      ∙ replicate-append-replicate n m (depth_at old from))
      (goes_on from between to old one two o1 o2 o3 (replicate n (depth_at old from))
      (replicate m (depth_at one between)) p.goes q.goes);
}

pub text_after : (n from to : ℕ) (old mid new : VProc) (o1 o2 : List BlockId) →
    StaysInText n from to old mid o1 o2 → GrowsAt to mid new → count new ≤ count mid →
    IsOpen mid to → StaysInText n from to old new o1 o2
text_after n from to old mid new o1 o2 p grows none o =
    record {
      goes = goes_after from to old mid new o1 o2 (replicate n (depth_at old from)) p.goes
          grows none o.0;
    }

-- by equations of the orders
pub text_begin : (n from to : ℕ) (old new : VProc) (o o1 o2 : List BlockId) → o ≡ o1 →
    StaysInText n from to old new o o2 → StaysInText n from to old new o1 o2
text_begin n from to old new o o1 o2 e = subst (λ l. StaysInText n from to old new l o2) e

pub text_end : (n from to : ℕ) (old new : VProc) (o1 o o2 : List BlockId) → o2 ≡ o →
    StaysInText n from to old new o1 o → StaysInText n from to old new o1 o2
text_end n from to old new o1 o o2 e = subst (StaysInText n from to old new o1) (sym e)

pub ends_begin : (n from : ℕ) (old new : VProc) (o o1 o2 : List BlockId) → o ≡ o1 →
    EndsInText n from old new o o2 → EndsInText n from old new o1 o2
ends_begin n from old new o o1 o2 e = subst (λ l. EndsInText n from old new l o2) e

pub text_none : (at : ℕ) (code : VProc) (o : List BlockId) → IsOpen code at →
    StaysInText 0 at at code code o o
text_none at code o still = text_nothing at code code o (grows_at_same code at) still.0
    (omega arith)

pub text_declared : (at : ℕ) (kind : VarKind) (old new : VProc) (o : List BlockId) →
    new ≡ with_variable kind old → IsOpen old at → StaysInText 0 at at old new o o
text_declared at kind old new o made still = subst (λ z. StaysInText 0 at at old z o o) (sym made)
    (text_nothing at old (with_variable kind old) o (declared_grows kind old at) still.0
    (omega arith))

-- an index that is computed
pub text_indexed : (n from to first : ℕ) (old mid new : VProc) (o1 o2 : List BlockId)
    (begin end : Target) (index length_is factor : ℕ) → StaysInText n from to old mid o1 o2 →
    IndexedBy first to mid new begin index length_is factor end → count new ≤ count mid →
    IsOpen mid to → StaysInText n from to old new o1 o2
text_indexed n from to first old mid new o1 o2 (Var v) end index length_is factor p q none o =
    subst (λ z. StaysInText n from to old z o1 o2) (sym q.1) p
text_indexed n from to first old mid new o1 o2 (Memory a) end index length_is factor p q none o =
    text_after n from to old mid new o1 o2 p q.2.grows none o

-- ---- conditions

-- a value or a relation, by which the block is left
pub text_ends : (n from to : ℕ) (old mid new : VProc) (o1 o2 : List BlockId) →
    StaysInText n from to old mid o1 o2 → GrowsAt to mid new → count new ≤ count mid →
    EndsInText n from old new o1 o2
text_ends n from to old mid new o1 o2 p grows none = record {
  enters = enters_after old mid new o1 o2 (replicate n (depth_at old from)) p.goes.enters
      grows.grows none;
}

-- ---- a condition over two blocks

module _ (n m from : ℕ) (right : BlockId) (old one two new : VProc) (o1 o2 o3 : List BlockId)
    (o : IsOpen old from) (made : one ≡ with_open_block (block_of old from).depth old)
    (number : right.0 ≡ count old) (p : EndsInText n from one two o1 o2)
    (q : EndsInText m right.0 two new (o2 ++ right ∷ []) o3) where
  abbrev d : ℕ
  d = depth_at old from

  one_count : count one ≡ count old + 1
  one_count = ap count made ∙ opened_count d old

  one_depth : (b : ℕ) → b < count old → depth_at one b ≡ depth_at old b
  one_depth b lt = ap (λ (z : VProc). depth_at z b) made ∙ ap (λ (x : Block). x.depth)
      (opened_kept d old b lt)

  right_depth : depth_at one right.0 ≡ d
  right_depth = ap (λ k. depth_at one k) number ∙ ap (λ (z : VProc). depth_at z (count old)) made
      ∙ ap (λ (x : Block). x.depth) (opened_block d old)

  first : Enters one two o1 o2 (replicate n d)
  first = subst (λ k. Enters one two o1 o2 (replicate n k)) (one_depth from o.0) p.enters

  right_two : depth_at two right.0 ≡ d
  right_two = first.kept right.0 (omega (arith, number, one_count)) ∙ right_depth

  second : Enters two new (o2 ++ right ∷ []) o3 (replicate m d)
  second = subst (λ k. Enters two new (o2 ++ right ∷ []) o3 (replicate m k)) right_two
      q.enters

  all : Enters old new o1 o3 (replicate (n + (1 + m)) d)
  all = subst (Enters old new o1 o3)
      (ap (λ l. replicate n d ++ l) (replicate-append-replicate 1 m d)
      ∙ replicate-append-replicate n (1 + m) d)
      (enters_between d old one right made number two new o1 o2 o3 (replicate n d) (replicate m d)
      first second)

  pub text_split : EndsInText (n + (1 + m)) from old new o1 o3
  text_split = record { enters = all }

-- ---- `&` and OR over blocks

module _ (op : ROp) (n m from to : ℕ) (old m1 m2 m3 new : VProc) (choice : Choice)
    (o1 o2 o3 : List BlockId) (o : IsOpen old from) (opens : OpensChoice op from old m1 choice)
    (p : EndsInText n from m1 m2 o1 o2)
    (q : StaysInText m choice.right.0 to m2 m3 (o2 ++ choice.right ∷ []) o3)
    (grows : GrowsAt to m3 new) (none : count new ≤ count m3) where
  abbrev deep : ℕ
  deep = depth_at old from

  first_depth : (b : ℕ) → b < count old → depth_at m1 b ≡ depth_at old b
  first_depth b lt = (opens.adds.grows.grows.kept b lt).depth

  are_open : Opens old m1 (choice.right ∷ choice.behind ∷ []) (deep ∷ deep ∷ [])
  are_open =
      let e : suc (count old) ≡ count old + 1 = omega arith in record {
        once = λ b. omega (
          arith,
          ap (λ k. below b k) opens.blocks,
          ap (λ k. is_one k b) opens.right,
          ap (λ k. is_one k b) opens.behind,
        );
        have = (
          omega (arith, opens.right, opens.blocks),
          ap (λ (x : Block). x.depth) opens.right_block,
          (
            omega (arith, opens.behind, opens.blocks),
            ap (λ (x : Block). x.depth) opens.behind_block,
            tt,
          ),
        );
        blocks = omega (arith, opens.blocks);
        kept = first_depth;
      }

  one_part : Enters m1 m2 o1 o2 (replicate n deep)
  one_part = subst (λ k. Enters m1 m2 o1 o2 (replicate n k)) (first_depth from o.0) p.enters

  right_there : choice.right.0 < count m1
  right_there = omega (arith, opens.right, opens.blocks)

  behind_there : choice.behind.0 < count m1
  behind_there = omega (arith, opens.behind, opens.blocks)

  right_deep : depth_at m2 choice.right.0 ≡ deep
  right_deep = one_part.kept choice.right.0 right_there
      ∙ ap (λ (x : Block). x.depth) opens.right_block

  other_part : Enters m2 m3 (o2 ++ choice.right ∷ []) o3 (replicate m deep)
  other_part = subst (λ k. Enters m2 m3 (o2 ++ choice.right ∷ []) o3 (replicate m k)) right_deep
      q.goes.enters

  entered : Enters old new o1 (o3 ++ choice.behind ∷ []) (replicate (n + (1 + (m + 1))) deep)
  entered = subst (Enters old new o1 (o3 ++ choice.behind ∷ []))
      (ap (λ l. replicate n deep ++ deep ∷ l) (replicate-append-replicate m 1 deep)
      ∙ ap (λ l. replicate n deep ++ l) (replicate-append-replicate 1 (m + 1) deep)
      ∙ replicate-append-replicate n (1 + (m + 1)) deep)
      (enters_two old m1 m2 m3 new choice.right choice.behind deep deep o1 o2 o3 (replicate n deep)
      (replicate m deep) are_open one_part other_part grows.grows none)

  pub text_chosen : StaysInText (n + (1 + (m + 1))) from choice.behind.0 old new o1
      (o3 ++ choice.behind ∷ [])
  text_chosen = record {
    goes = record {
      enters = entered;
      last = λ l. last_is o3 choice.behind;
      depth =
          let l2 : choice.behind.0 < count m2 = omega (arith, behind_there, one_part.blocks) in
          let l3 : choice.behind.0 < count m3 = omega (arith, l2, other_part.blocks) in
          (grows.grows.kept choice.behind.0 l3).depth ∙ other_part.kept choice.behind.0 l2
          ∙ one_part.kept choice.behind.0 behind_there
          ∙ ap (λ (x : Block). x.depth) opens.behind_block;
    };
  }
