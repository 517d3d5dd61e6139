use Rattle.std.proofs.Common.{◌≡◌, Some, None, ℕ, Option, refl, sym, ap, ◌∙◌, arith, rules}
use Rattle.json.specs.Json.{read_key}
use Rattle.json.proofs.Grammar.{read_key-shorter}
use Rattle.serde_json.specs.Data.{Data, put}
use Rattle.cert_form.specs.Streams.{values, entries, AreHeld, IsAny, laid, nothing, with_at}
use Rattle.cert_form.proofs.ObjectsTaken.{laid_nothing, over, no_key, no_value, known, unknown}
use Rattle.cert_form.proofs.Tooks.{failed, no_json}
use Rattle.cert_form.proofs.Turns.{values-shorter, entries_more}
use Rattle.cert_form.proofs.objects.members.Goals as goal

pub members-init : goal.members-init
members-init g c = (
  nothing,
  ap (λ ms. entries ms c.args.depth c.args.reader.now) (sym (laid_nothing g.F.Fields.keys 0)),
  c.requires,
)

pub returns-in_err-key : goal.returns-in_err-key
returns-in_err-key g c =
    let i = c.members.invariant in
    no_json (AreHeld g.F.Fields.keys g.F.Fields.held c.members.fields) _ _ c.from_residual.result
    (search rules) (no_key g.F.Fields.keys g.met.F.Fields.ordered c.args.depth _ c.members.reader
    i.0 i.1 c.in_err-key.ensures.value)

pub returns-in_err-pass : goal.returns-in_err-pass
returns-in_err-pass g c =
    let i = c.members.invariant in
    let k = c.in-Some.key.now in
    let s = c.next_key.new.self in
    let named : read_key c.members.reader ≡ Some (Some k, s) = grind arith in
    failed {A = Unit {0}} IsAny (AreHeld g.F.Fields.keys g.F.Fields.held c.members.fields)
    (values c.args.depth s) _ c.pass.new.reader _ c.in_err-pass.field-0.0
    c.from_residual-in_err-pass.result (search rules)
    (no_value g.F.Fields.keys g.met.F.Fields.ordered c.args.depth _ c.members.reader i.0 i.1 k s
    named) c.in_err-pass.ensures

pub returns-in_err-pass_members : goal.returns-in_err-pass_members
returns-in_err-pass_members g c =
    let i = c.members.invariant in
    let k = c.in-Some.key.now in
    let s = c.next_key.new.self in
    let named : read_key c.members.reader ≡ Some (Some k, s) = grind arith in
    let read = c.in_ok-pass.ensures in
    let before = put k read.0 (laid 0 g.F.Fields.keys i.0) in
    failed {A = Unit {0}} IsAny (AreHeld g.F.Fields.keys g.F.Fields.held c.members.fields)
    (entries before c.args.depth c.pass.new.reader) _ c.pass_members.new.reader _
    c.in_err-pass_members.field-0.0 c.from_residual-in_err-pass_members.result (search rules)
    (λ none. i.1 ∙ entries_more (laid 0 g.F.Fields.keys i.0) c.args.depth c.members.reader k s
    c.pass.new.reader read.0 named read.1 ∙ none) (c.in_err-pass_members.ensures before)

pub returns-in_default-position : goal.returns-in_default-position
returns-in_default-position g c =
    let i = c.members.invariant in
    let k = c.in-Some.key.now in
    let s = c.next_key.new.self in
    let named : read_key c.members.reader ≡ Some (Some k, s) = grind arith in
    let read = c.in_ok-pass.ensures in
    let before = put k read.0 (laid 0 g.F.Fields.keys i.0) in
    let more = c.in_ok-pass_members.ensures before in
    let other = rw c.names.ensures at c.in_default-position.ensures in
    let u = unknown g.F.Fields.keys g.met.F.Fields.ordered c.args.depth _ c.members.reader i.0 i.1
    k s named read.0 c.pass.new.reader c.pass_members.new.reader more.0 other read.1 more.1 in
    (more.0, u.0, u.1)

pub members-smaller : goal.members-smaller
members-smaller g c =
    let k = c.in-Some.key.now in
    let s = c.next_key.new.self in
    let named : read_key c.members.reader ≡ Some (Some k, s) = grind arith in
    let read = c.in_ok-read.ensures in
    let first = read_key-shorter c.members.reader (Some k) s named in
    let then = values-shorter c.args.depth s c.read.new.reader read.0 read.1 in
    omega (arith, first, then)

pub members-preserved : goal.members-preserved
members-preserved g c =
    let i = c.members.invariant in
    let k = c.in-Some.key.now in
    let s = c.next_key.new.self in
    let named : read_key c.members.reader ≡ Some (Some k, s) = grind arith in
    let read = c.in_ok-read.ensures in
    let n = c.in-Some-position.index in
    let at = rw c.names.ensures at c.in-Some-position.ensures in (
      with_at n read.0 i.0,
      known g.F.Fields.keys g.met.F.Fields.ordered c.args.depth _ c.members.reader i.0 i.1 k s
          named n read.0 c.read.new.reader at.0 at.1 read.1,
      read.2 i.0 i.2,
    )

pub returns-in_err-read : goal.returns-in_err-read
returns-in_err-read g c =
    let i = c.members.invariant in
    let k = c.in-Some.key.now in
    let s = c.next_key.new.self in
    let named : read_key c.members.reader ≡ Some (Some k, s) = grind arith in
    failed {A = Unit {0}} (λ done d. (os : ℕ → Option Data) → g.F.Fields.held c.members.fields os →
    g.F.Fields.held c.read.new.self (with_at c.in-Some-position.index d os))
    (AreHeld g.F.Fields.keys g.F.Fields.held c.read.new.self)
    (values c.args.depth s) _ c.read.new.reader _ c.in_err-read.field-0.0
    c.from_residual-in_err-read.result (search rules)
    (no_value g.F.Fields.keys g.met.F.Fields.ordered c.args.depth _ c.members.reader i.0 i.1 k s
    named) c.in_err-read.ensures

pub returns : goal.returns
returns g c =
    let i = c.members.invariant in
    let r = c.next_key.new.self in
    let end : read_key c.members.reader ≡ Some (None, r) = grind arith in (
      _,
      over g.F.Fields.keys g.met.F.Fields.ordered c.args.depth _ c.members.reader i.0 i.1 r end,
      (i.0, refl, i.2),
    )
