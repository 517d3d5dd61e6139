-- The network of valid code has room for home routes.
use Rattle.std.proofs.Common.{ℕ, ◌≡◌, ◌<◌, Bool, true, false, not, ◌&&◌, ◌||◌, eqb, leb, List}
use Rattle.std.proofs.Common.{length, get_or, All, sym, ap, ◌∙◌, subst, arith, inl, inr, Some}
use Rattle.std.specs.List.{list_any, prefix_len}
use Rattle.std.proofs.lemmas.Bool.{false≢true, and_parts, and_from, eqb-true, le-leb, both_ways}
use Rattle.std.proofs.lemmas.Bool.{false_from_ne_true, not-true, or_cases}
use Rattle.std.proofs.lemmas.List.Elements.{All-weaker}
use Rattle.pra_list.proofs.Options.{some_same}
use Rattle.pra_base.specs.declared.code.VInstr.{VInstr}
use Rattle.pra_base.specs.declared.code.VProc.{VProc}
use Rattle.pra_base.specs.Code.{kind_of, instr_at, code_of}
use Rattle.pra_base.specs.Operands.{reads, writes, operands}
use Rattle.pra_base.specs.Valid.{IsValid, IsSized}
use Rattle.net_form.specs.declared.net.Strand.{Strand}
use Rattle.net_form.specs.declared.net.MemPair.{MemPair}
use Rattle.net_form.specs.declared.net.Tie.{Tie}
use Rattle.net_form.specs.declared.net.Net.{Net}
use Rattle.net_form.specs.Tables.{all_tables}
use Rattle.net_form.specs.Strands.{Lives, IsLive, across, is_constant, strands}
use Rattle.net_form.specs.Network.{ties, marked, pair_of, IsNet}
use Rattle.net_laws.specs.Homes.{is_there, passes, allowed, choices, needs_register, rivals}
use Rattle.net_laws.specs.Homes.{left_stays, has_home, yields, yields_at, is_right, IsFreePair}
use Rattle.net_laws.specs.Homes.{HasRoom}
use Rattle.net_laws.proofs.Sides.{side, side_some, side_across, same_index}
use Rattle.net_laws.proofs.Rows.{named, Shape, wide, bare, single, divides, shape}
use Rattle.net_laws.proofs.Present.{instr_within}
use Rattle.net_laws.proofs.Pairs.{IsPair, all_pairs}
use Rattle.net_laws.proofs.Needs.{net, at, run_of, needs, rival, no_pair}
use Rattle.net_laws.proofs.Ties.{IsJoin, all_joins}
use Rattle.net_laws.proofs.Found.{first_that}
use Rattle.net_laws.proofs.Choices.{wide_room, single_room}
use Rattle.net_laws.proofs.Division.{division_room}

module _ (code : VProc) (live : Lives) (is_live : IsLive code live) (valid : IsValid code)
    (sized : IsSized code) (least : ℕ → ℕ) where
  abbrev n : Net
  n = net code live is_live valid sized least

  abbrev tied : List Tie
  tied = ties code (strands all_tables code live)

  abbrev strand_of : ℕ → Strand
  strand_of x = at code live is_live valid sized least x

  registers : (s l : ℕ) → s < length n.strands → is_there (strand_of s) l ≡ true →
      needs_register n s l ≡ true → rivals n s l < choices (allowed (strand_of s) l)
  registers s l s_lt there need =
      let o = needs code live is_live valid sized least s s_lt l there need in
      by o.index o.before o.instr o.at o.is o.named (shape o.instr)
    where
      by : (k : ℕ) (before : Bool) (i : VInstr) → l ≡ side k before →
          instr_at code (strand_of s).block.0 k ≡ Some i →
          (reads i (strand_of s).var.0 || writes i (strand_of s).var.0) ≡ true → Shape i
          → rivals n s l < choices (allowed (strand_of s) l)
      by k before i at_l is mine (wide none read written small) =
          wide_room code live is_live valid sized least s s_lt l k before at_l i is there
          (λ r lt competes. rival code live is_live valid sized least s l k before i at_l is r lt
          competes) none read written small
      by k before i at_l is mine (bare none) =
          absurd (false≢true (sym (ap (list_any (eqb (strand_of s).var.0)) none)
          ∙ named (strand_of s).var.0 i ∙ mine))
      by k before i at_l is mine (single x none one read written) =
          single_room code live is_live valid sized least s s_lt l k before at_l i is there mine
          (λ r lt competes. rival code live is_live valid sized least s l k before i at_l is r lt
          competes) x none one read written
      by k before i at_l is mine (divides q r a d same) =
          division_room code live is_live valid sized least q r a d s s_lt l k before at_l
          (is ∙ ap Some same) there
          (subst (λ i. (reads i (strand_of s).var.0 || writes i (strand_of s).var.0) ≡ true) same
          mine)

  -- one instruction has one pair, so who is its left end is no right end beside it
  no_right : (m : MemPair) (is : IsPair code live is_live valid sized tied least m) (l : ℕ)
      (c : Bool) → l ≡ side is.index c → yields_at n m.left l ≡ true → ⊥
  no_right m is l c at_l some = by (get_or n.pairs _ no_pair)
      (all_pairs code live is_live valid sized tied least _ no_pair f.0)
      (and_parts (is_right m.left l (get_or n.pairs _ no_pair))
      (left_stays n (get_or n.pairs _ no_pair)) f.1).0
    where
      f : (prefix_len (λ x. not (is_right m.left l x && left_stays n x)) n.pairs < length n.pairs)
          × ((is_right m.left l (get_or n.pairs
          (prefix_len (λ x. not (is_right m.left l x && left_stays n x)) n.pairs) no_pair)
          && left_stays n (get_or n.pairs
          (prefix_len (λ x. not (is_right m.left l x && left_stays n x)) n.pairs) no_pair)) ≡
          true)
      f = first_that (λ x. is_right m.left l x && left_stays n x) n.pairs no_pair some

      by : (p : MemPair) → IsPair code live is_live valid sized tied least p → is_right m.left l p ≡
          true → ⊥
      by p pair right =
          let e = and_parts (eqb p.right m.left) (eqb p.right_layer l) right in
          let strand = eqb-true p.right m.left e.0 in
          let layer = eqb-true p.right_layer l e.1 in
          let index : pair.index ≡ is.index = same_index pair.index is.index pair.right.before c
          (sym pair.right.layer ∙ layer ∙ at_l) in
          let block : pair.block ≡ is.block = sym pair.right_strand.block
          ∙ ap (λ s. (strand_of s).block.0) strand ∙ is.left_strand.block in
          let instr : pair.instr ≡ is.instr = some_same pair.instr is.instr
          (sym pair.is ∙ ap (λ b. instr_at code b pair.index) block
          ∙ ap (instr_at code is.block) index ∙ is.is) in
          let same : p ≡ m = some_same p m
          (sym pair.made ∙ ap (λ b. pair_of (strands all_tables code live) b
          (marked pair.index (operands pair.instr))) block
          ∙ ap (λ k. pair_of (strands all_tables code live) is.block
          (marked k (operands pair.instr))) index
          ∙ ap (λ i. pair_of (strands all_tables code live) is.block (marked is.index (operands i)))
          instr ∙ is.made) in
          is.apart (sym is.left_strand.var ∙ ap (λ s. (strand_of s).var.0)
          (sym strand ∙ ap (λ (x : MemPair). x.right) same) ∙ is.right_strand.var)

  free_pairs : All (IsFreePair n) n.pairs
  free_pairs = All-weaker (IsPair code live is_live valid sized tied least) (IsFreePair n)
      (λ m is. record {
        left_strand = is.left_strand.within;
        right_strand = is.right_strand.within;
        left = is.left_strand.there;
        right = is.right_strand.there;
        stays = λ stays. false_from_ne_true (needs_register n m.left m.left_layer)
            (λ need. kept m is stays need);
      }) n.pairs (all_pairs code live is_live valid sized tied least)
    where
      kept : (m : MemPair) → IsPair code live is_live valid sized tied least m → left_stays n m ≡
          true → needs_register n m.left m.left_layer ≡ true → ⊥
      kept m is stays need =
          let t = strand_of m.left in
          let l = m.left_layer in
          elim (or_cases (not (has_home t l)) (not t.constant && yields n m.left l) need)
          as (λ _. ⊥) [
            | inl not_home ↦ both_ways (has_home t l) (not-true (has_home t l) not_home)
                (and_parts (not t.constant) (has_home t l) stays).1
            | inr both ↦ elim (or_cases (yields_at n m.left l)
                (passes t l && yields_at n m.left (across l))
                (and_parts (not t.constant) (yields n m.left l) both).1) as (λ _. ⊥) [
                  | inl here ↦ no_right m is l is.left.before is.left.layer here
                  | inr beyond ↦ no_right m is (across l) (not is.left.before)
                      (ap across is.left.layer ∙ side_across is.index is.left.before)
                      (and_parts (passes t l) (yields_at n m.left (across l)) beyond).1
                ]
          ]

  -- ---- ties

  record AtHome (t : Tie) : Type 0 where
    exit : needs_register n t.from (strand_of t.from).last ≡ false
    entry : needs_register n t.to (strand_of t.to).first ≡ false
    alike : (strand_of t.from).constant ≡ (strand_of t.to).constant
    target : t.to < length n.strands

  -- an entry and an exit are beside no instruction
  joined_home : (t : Tie) → IsJoin code live least t → AtHome t
  joined_home t joined =
      let a = strand_of t.from in
      let b = strand_of t.to in
      let last = joined.last in
      let first = joined.first in
      let ra = run_of code live is_live valid sized least t.from joined.from in
      let rb = run_of code live is_live valid sized least t.to joined.to in record {
        exit = false_from_ne_true (needs_register n t.from a.last) (λ need.
            let o = needs code live is_live valid sized least t.from joined.from a.last
            (and_from (leb a.first a.last) (leb a.last a.last) (le-leb a.first a.last ra.order)
            (le-leb a.last a.last (omega arith))) need in
            let lt = instr_within code a.block.0 o.index o.instr o.is in
            let e = same_index o.index (length (code_of code a.block.0)) o.before true
            (sym o.at ∙ last) in
            omega (arith, lt, e));
        entry = false_from_ne_true (needs_register n t.to b.first) (λ need.
            let o = needs code live is_live valid sized least t.to joined.to b.first
            (and_from (leb b.first b.first) (leb b.first b.last)
            (le-leb b.first b.first (omega arith)) (le-leb b.first b.last rb.order)) need in
            let some = side_some o.index o.before in
            let e = o.at in
            omega (arith, some, e, first));
        alike = ra.constant ∙ ap (λ v. is_constant (kind_of code v)) joined.var ∙ sym rb.constant;
        target = joined.to;
      }

  tie_facts : All AtHome n.ties
  tie_facts = All-weaker (IsJoin code live least) AtHome joined_home n.ties
      (all_joins code live least)

  has_room : HasRoom n
  has_room = record {
    registers = registers;
    pairs = free_pairs;
    targets = All-weaker AtHome (λ t. t.to < length n.strands) (λ t h. h.target) n.ties tie_facts;
    exits = All-weaker AtHome (λ t. needs_register n t.from (strand_of t.from).last ≡ false)
        (λ t h. h.exit) n.ties tie_facts;
    entries = All-weaker AtHome (λ t. needs_register n t.to (strand_of t.to).first ≡ false)
        (λ t h. h.entry) n.ties tie_facts;
    alike = All-weaker AtHome (λ t. (strand_of t.from).constant ≡ (strand_of t.to).constant)
        (λ t h. h.alike) n.ties tie_facts;
  }

pub leaves_room : (code : VProc) (m : Net) → IsNet m code → IsValid code → IsSized code → HasRoom m
leaves_room code m is valid sized =
    subst HasRoom (sym is.is) (has_room code is.live is.is_live valid sized is.least)
