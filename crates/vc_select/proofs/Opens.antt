-- How many blocks are open behind the code of a tree.
use Rattle.std.proofs.Common.{◌≡◌, ◌≢◌, ℕ, ◌≤◌, ap, ◌∙◌, subst, sym, arith}
use Rattle.pra_base.specs.Code.{end_of}
use Rattle.pra_base.specs.declared.code.VProc.{VProc}
use Rattle.ob_syntax.specs.declared.checked.ROp.{ROp}
use Rattle.vc_build.specs.Grow.{count, stand_in, with_open_block, IsOpen, GrowsAt, open_blocks}
use Rattle.vc_build.specs.Grow.{ClosesOne, HandsOn}
use Rattle.vc_build.proofs.Open.{one_closed, open_one, hands_nothing, hands_on, hands_same}
use Rattle.vc_build.proofs.Open.{hands_to}
use Rattle.vc_expr.specs.Choices.{OpensChoice}
use Rattle.vc_expr.specs.declared.choice.Choice.{Choice}
use Rattle.vc_select.specs.declared.target.Target.{Target}
use Rattle.vc_select.specs.declared.target.Target.TheVariants.{Var, Memory}
use Rattle.vc_select.specs.Indexes.{IndexedBy}

-- no block is added behind what was added
module _ (from to : ℕ) (old mid new : VProc) (p : HandsOn from to old mid)
    (grows : GrowsAt to mid new) (none : count new ≤ count mid) (o : IsOpen mid to) where
  pub hands_after : IsOpen new to → HandsOn from to old new
  hands_after still = hands_on from to to old mid new p (hands_same to mid new grows none o still)

  pub closes_after : end_of new to ≢ stand_in → ClosesOne old new
  closes_after real = record {
    one_less = (one_closed to mid new grows none o real).one_less
        ∙ p.as_many;
  }

-- an index
pub hands_indexed : (first at : ℕ) (old new : VProc) (begin end : Target)
    (index length_is factor : ℕ) → IndexedBy first at old new begin index length_is factor end →
    count new ≤ count old → IsOpen old at → HandsOn at at old new
hands_indexed first at old new (Var v) end index length_is factor q none o =
    subst (HandsOn at at old) (sym q.1) (hands_nothing at old)
hands_indexed first at old new (Memory a) end index length_is factor q none o =
    hands_same at old new q.2.grows none o q.2.is_open

-- `&` and OR over blocks
pub hands_chosen : (op : ROp) (from to : ℕ) (old m1 m2 m3 new : VProc) (choice : Choice) →
    OpensChoice op from old m1 choice → ClosesOne m1 m2 → HandsOn choice.right.0 to m2 m3 →
    GrowsAt to m3 new → count new ≤ count m3 → IsOpen m3 to → end_of new to ≢ stand_in →
    HandsOn from choice.behind.0 old new
hands_chosen op from to old m1 m2 m3 new choice opens test p grows none o real =
    hands_to from choice.behind.0 old new
    (omega (
      arith,
      opens.waiting,
      test.one_less,
      p.as_many,
      (one_closed to m3 new grows none o real).one_less,
    )) (λ is. omega (arith, is, opens.behind))

-- a condition over two blocks
pub closes_split : (depth : ℕ) (old one two new : VProc) → one ≡ with_open_block depth old →
    ClosesOne one two → ClosesOne two new → ClosesOne old new
closes_split depth old one two new made p q =
    record {
      one_less = omega (
        arith,
        ap open_blocks made,
        open_one depth old,
        p.one_less,
        q.one_less,
      );
    }
