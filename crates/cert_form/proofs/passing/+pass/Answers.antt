use Rattle.std.proofs.Common.{◌≡◌, ◌<◌, [], ◌∷◌, Some, None, sym, ap, ◌∙◌, refl, arith, rules}
use Rattle.json.specs.Token.{Token}
use Rattle.json.specs.Json.{parse_map, after_end_array, read_key}
use Rattle.json.specs.Reads.{token_of}
use Rattle.json.proofs.Grammar.{read_key-shorter}
use Rattle.serde_json.specs.Data.{null, number, array, object, no_items, item, no_members, put}
use Rattle.cert_form.specs.Streams.{values, rests, IsAny}
use Rattle.cert_form.proofs.Tooks.{as_before, map_twice, mapped, failed, no_json}
use Rattle.cert_form.proofs.Turns.{rests_over, rests_more, rests_none, entries_over, entries_no_key}
use Rattle.cert_form.proofs.Turns.{entries_more, entries_none, values_array, values_object}
use Rattle.cert_form.proofs.Turns.{values_nothing, values_null, values_boolean, values_string}
use Rattle.cert_form.proofs.Turns.{values_number, values_none, values_no_array, values_no_object}
use Rattle.cert_form.proofs.Turns.{values-shorter}
use Rattle.cert_form.proofs.passing.+pass.Goals as goal

pub pass-returns-in_default : goal.pass-returns-in_default
pass-returns-in_default t c =
    let empty : c.args.reader.now ≡ [] = grind arith in
    ap (values c.args.depth) empty ∙ values_nothing c.args.depth

pub pass_begun-returns-then-depth-eq0 : goal.pass_begun-returns-then-depth-eq0
pass_begun-returns-then-depth-eq0 t c =
    let none : c.args.depth ≡ 0 = omega arith in
    rw c.in-BeginArray.is (values_no_array c.args.depth c.args.reader.now none)

pub pass_begun-returns-then-depth-eq0-2 : goal.pass_begun-returns-then-depth-eq0-2
pass_begun-returns-then-depth-eq0-2 t c =
    let none : c.args.depth ≡ 0 = omega arith in
    rw c.in-BeginObject.is (values_no_object c.args.depth c.args.reader.now none)

pub pass_begun-returns-in-String : goal.pass_begun-returns-in-String
pass_begun-returns-in-String t c = (
  _,
  ap (λ k. values c.args.depth (token_of k ∷ c.args.reader.now)) c.in-String.is
      ∙ values_string c.args.depth _ c.args.reader.now,
  tt,
)

pub pass_begun-returns-in-Bool : goal.pass_begun-returns-in-Bool
pass_begun-returns-in-Bool t c = (
  _,
  ap (λ k. values c.args.depth (token_of k ∷ c.args.reader.now)) c.in-Bool.is
      ∙ values_boolean c.args.depth _ c.args.reader.now,
  tt,
)

pub pass_begun-returns-in-Null : goal.pass_begun-returns-in-Null
pass_begun-returns-in-Null t c =
    (null, rw c.in-Null.is (values_null c.args.depth c.args.reader.now), tt)

pub pass_begun-returns-in-Some : goal.pass_begun-returns-in-Some
pass_begun-returns-in-Some t c =
    let n = c.in-Some.ensures in (
      number n.0,
      rw c.in-Number.is
          (values_number c.args.depth c.in-Number.text.now c.args.reader.now (Some n.0) n.1),
      tt,
    )

pub pass_begun-returns-in-None : goal.pass_begun-returns-in-None
pass_begun-returns-in-None t c =
    rw c.in-Number.is
    (values_number c.args.depth c.in-Number.text.now c.args.reader.now None c.in-None.ensures)

pub pass_begun-returns-in-EndObject : goal.pass_begun-returns-in-EndObject
pass_begun-returns-in-EndObject t c =
    rw c.in-EndObject.is (values_none c.args.depth Token.end_object c.args.reader.now refl)

pub pass_begun-returns-in-EndArray : goal.pass_begun-returns-in-EndArray
pass_begun-returns-in-EndArray t c =
    rw c.in-EndArray.is (values_none c.args.depth Token.end_array c.args.reader.now refl)

pub pass_begun-returns-in-Key : goal.pass_begun-returns-in-Key
pass_begun-returns-in-Key t c =
    rw c.in-Key.is (values_none c.args.depth (Token.key _) c.args.reader.now refl)

pub pass_begun-returns-in-Bad : goal.pass_begun-returns-in-Bad
pass_begun-returns-in-Bad t c =
    rw c.in-Bad.is (values_none c.args.depth Token.bad c.args.reader.now refl)

pub pass_begun-returns-else-depth-eq0 : goal.pass_begun-returns-else-depth-eq0
pass_begun-returns-else-depth-eq0 t c =
    let some : 0 < c.args.depth = omega arith in
    mapped array IsAny IsAny _ _
    (ap (λ k. values c.args.depth (token_of k ∷ c.args.reader.now)) c.in-BeginArray.is
    ∙ values_array c.args.depth c.args.reader.now some) (λ x d h. tt) c.pass_items.result
    c.pass_items.new.reader c.pass_items.ensures

pub pass_begun-returns-else-depth-eq0-2 : goal.pass_begun-returns-else-depth-eq0-2
pass_begun-returns-else-depth-eq0-2 t c =
    let some : 0 < c.args.depth = omega arith in
    mapped object IsAny IsAny _ _
    (ap (λ k. values c.args.depth (token_of k ∷ c.args.reader.now)) c.in-BeginObject.is
    ∙ values_object c.args.depth c.args.reader.now some) (λ x d h. tt) c.pass_members.result
    c.pass_members.new.reader (c.pass_members.ensures no_members)

pub pass_items-items-init : goal.pass_items-items-init
pass_items-items-init t c = ((λ ds. ds), as_before (rests c.args.depth c.args.reader.now))

pub pass_items-items-smaller : goal.pass_items-items-smaller
pass_items-items-smaller t c =
    let going : (after_end_array c.items.reader ≡ None)
    × (c.take_end_array.new.self ≡ c.items.reader) = grind arith in
    let read = c.in_ok-pass.ensures in
    values-shorter c.args.depth c.items.reader c.pass.new.reader read.0
    (ap (values c.args.depth) (sym going.1) ∙ read.1)

pub pass_items-items-preserved : goal.pass_items-items-preserved
pass_items-items-preserved t c =
    let going : (after_end_array c.items.reader ≡ None)
    × (c.take_end_array.new.self ≡ c.items.reader) = grind arith in
    let read = c.in_ok-pass.ensures in
    let f = c.items.invariant.0 in (
      (λ ds. f (item read.0 ds)),
      c.items.invariant.1
          ∙ ap (parse_map f) (rests_more c.args.depth c.items.reader read.0 c.pass.new.reader
          going.0 (ap (values c.args.depth) (sym going.1) ∙ read.1))
          ∙ map_twice f (item read.0) (rests c.args.depth c.pass.new.reader),
    )

pub pass_items-returns-in_err-pass : goal.pass_items-returns-in_err-pass
pass_items-returns-in_err-pass t c =
    let going : (after_end_array c.items.reader ≡ None)
    × (c.take_end_array.new.self ≡ c.items.reader) = grind arith in
    failed {A = Unit {0}} {B = Unit {0}} IsAny IsAny
    (values c.args.depth c.take_end_array.new.self) _ c.pass.new.reader _ c.in_err-pass.field-0.0
    c.from_residual.result (search rules)
    (λ none. c.items.invariant.1 ∙ ap (parse_map c.items.invariant.0)
    (rests_none c.args.depth c.items.reader going.0
    (ap (values c.args.depth) (sym going.1) ∙ none))) c.in_err-pass.ensures

pub pass_items-returns : goal.pass_items-returns
pass_items-returns t c =
    let r = c.take_end_array.new.self in
    let e : after_end_array c.items.reader ≡ Some r = grind arith in
    let f = c.items.invariant.0 in (
      f no_items,
      c.items.invariant.1 ∙ ap (parse_map f) (rests_over c.args.depth c.items.reader r e),
      tt,
    )

pub pass_members-members-init : goal.pass_members-members-init
pass_members-members-init t c = λ before. (before, refl)

pub pass_members-returns-in_err-next_key : goal.pass_members-returns-in_err-next_key
pass_members-returns-in_err-next_key t c = λ before.
    let now = c.members.invariant before in
    no_json IsAny _ _ c.from_residual.result (search rules)
    (now.1 ∙ entries_no_key now.0 c.args.depth c.members.reader c.in_err-next_key.ensures.value)

pub pass_members-members-smaller : goal.pass_members-members-smaller
pass_members-members-smaller t c =
    let k = c.in-Some.field-0.now in
    let s = c.next_key.new.self in
    let named : read_key c.members.reader ≡ Some (Some k, s) = grind arith in
    let read = c.in_ok-pass.ensures in
    let first = read_key-shorter c.members.reader (Some k) s named in
    let then = values-shorter c.args.depth s c.pass.new.reader read.0 read.1 in
    omega (arith, first, then)

pub pass_members-members-preserved : goal.pass_members-members-preserved
pass_members-members-preserved t c = λ before.
    let now = c.members.invariant before in
    let k = c.in-Some.field-0.now in
    let s = c.next_key.new.self in
    let named : read_key c.members.reader ≡ Some (Some k, s) = grind arith in
    let read = c.in_ok-pass.ensures in (
      put k read.0 now.0,
      now.1 ∙ entries_more now.0 c.args.depth c.members.reader k s c.pass.new.reader read.0 named
          read.1,
    )

pub pass_members-returns-in_err-pass : goal.pass_members-returns-in_err-pass
pass_members-returns-in_err-pass t c = λ before.
    let now = c.members.invariant before in
    let k = c.in-Some.field-0.now in
    let s = c.next_key.new.self in
    let named : read_key c.members.reader ≡ Some (Some k, s) = grind arith in
    failed {A = Unit {0}} {B = Unit {0}} IsAny IsAny (values c.args.depth s) _ c.pass.new.reader _
    c.in_err-pass.field-0.0 c.from_residual-in_err-pass.result (search rules)
    (λ none. now.1 ∙ entries_none now.0 c.args.depth c.members.reader k s named none)
    c.in_err-pass.ensures

pub pass_members-returns : goal.pass_members-returns
pass_members-returns t c = λ before.
    let now = c.members.invariant before in
    let r = c.next_key.new.self in
    let over : read_key c.members.reader ≡ Some (None, r) = grind arith in
    (now.0, now.1 ∙ entries_over now.0 c.args.depth c.members.reader r over, tt)
