use Rattle.std.proofs.Common.{◌≤◌, length, is_ok, refl, sym, ap, ◌∙◌, arith}
use Rattle.std.proofs.ResultArms.{chosen}
use Rattle.std.proofs.lemmas.Result.{err_from_is_err_and}
use Rattle.ob_syntax.specs.Tokens.{Tokens}
use Rattle.ob_syntax.proofs.Texts.{spans_slice, one_list, no_fault_in_tokens}
use Rattle.ob_syntax.specs.Source.{most_tokens}
use Rattle.ob_lex.specs.declared.scanner.LexFault.TheVariants.{TokensOver}
use Rattle.ob_lex.specs.Scanning.{IsCause}
use Rattle.ob_lex.proofs.ScannedSoFar.{behind_shorter, behind_gap, behind_token, over_cause}
use Rattle.ob_lex.proofs.ScannedSoFar.{kept_whole, fault_told}
use Rattle.ob_lex.proofs.OneCause.{kept_not_refused, longer_refused, fault_refused}
use Rattle.ob_lex.proofs.scanner.lex.Goals as goal
use Rattle.ob_lex.proofs.scanner.lex.Goals.{then-count-lt-MAX_TOKENS+in_ok-map_err}
use Rattle.ob_lex.proofs.scanner.lex.Goals.{else-count-lt-MAX_TOKENS, Else-count-gt-MAX_TOKENS}

-- a fault in front is told as the first of the source
pub returns-in_err-front : goal.returns-in_err-front
returns-in_err-front c =
    let p = err_from_is_err_and c.from_residual.result c.from_residual.ensures.1 in
    let few = c.loop-rest.invariant.fewer in
    let cause : IsCause c.args.bytes.now c.in_err-front.field-0.0 =
    fault_told c.loop-rest.invariant.scanned c.in_err-front.ensures refl (omega arith) in
    rw (p.1, p.2) (record {
      tokens = tt;
      within = tt;
      spans = tt;
      cause = cause;
      ok_where = kept_not_refused c.args.bytes.now _ cause;
      over_where = longer_refused c.args.bytes.now _ cause;
      fault_where = fault_refused c.args.bytes.now _ cause;
    })

pub loop-rest-smaller-in-Some : goal.loop-rest-smaller-in-Some
loop-rest-smaller-in-Some c = behind_shorter c.in_ok-front.ensures

pub loop-rest-smaller : goal.loop-rest-smaller
loop-rest-smaller c = behind_shorter c.in_ok-front.ensures

pub loop-rest-preserved : goal.loop-rest-preserved
loop-rest-preserved c =
    let b = rw (c.in_default.is) at c.in_ok-front.ensures in
    let shorter = behind_shorter b in
    record {
      scanned = behind_gap c.loop-rest.invariant.scanned b;
      fewer = omega (arith, c.loop-rest.invariant.fewer);
    }

pub loop-rest-preserved-in-Some : goal.loop-rest-preserved-in-Some
loop-rest-preserved-in-Some c =
    let b = rw (c.in-Some.is) at c.in_ok-front.ensures in
    let shorter = behind_shorter b in
    let next = behind_token c.loop-rest.invariant.scanned c.in-Some.kind b in
    record {
      scanned = elim c.if-count-lt-MAX_TOKENS.branch [
        | then-count-lt-MAX_TOKENS+in_ok-map_err w ↦ next c.if-count-lt-MAX_TOKENS.tokens.items
            (λ few. ap (λ v. v.items) w.tokens-is ∙ chosen _ _ _ _ w.push.ensures.items
            (sym w.map_err.ensures.variant ∙ ap is_ok w.in_ok-map_err.was))
        | else-count-lt-MAX_TOKENS w ↦ next c.if-count-lt-MAX_TOKENS.tokens.items
            (λ few. absurd (omega (arith, w.if-count-lt-MAX_TOKENS.false)))
      ];
      fewer = omega (arith, c.loop-rest.invariant.fewer);
    }

pub returns-then-count-gt-MAX_TOKENS : goal.returns-then-count-gt-MAX_TOKENS
returns-then-count-gt-MAX_TOKENS c =
    let cause : IsCause c.args.bytes.now (TokensOver c.loop-rest.count) =
    over_cause c.loop-rest.invariant.scanned c.loop-rest-test.ensures c.requires
    c.if-count-gt-MAX_TOKENS.true in
    record {
      tokens = tt;
      within = tt;
      spans = tt;
      cause = cause;
      ok_where = kept_not_refused c.args.bytes.now _ cause;
      over_where = longer_refused c.args.bytes.now _ cause;
      fault_where = fault_refused c.args.bytes.now _ cause;
    }

-- the list that is kept is that of the source
kept_here : (c : Else-count-gt-MAX_TOKENS) → Tokens c.args.bytes.now c.loop-rest.tokens.items ×
    (length c.loop-rest.tokens.items ≤ most_tokens)
kept_here c = kept_whole c.loop-rest.invariant.scanned c.loop-rest-test.ensures
    c.if-count-gt-MAX_TOKENS.false

pub returns-clause-tokens : goal.returns-clause-tokens
returns-clause-tokens c = (kept_here c).0

pub returns-clause-within : goal.returns-clause-within
returns-clause-within c = let few = (kept_here c).1 in omega (arith, c.loop-rest.tokens.ok.0)

pub returns-clause-spans : goal.returns-clause-spans
returns-clause-spans c = spans_slice c.args.bytes.now c.loop-rest.tokens.items (kept_here c).0

pub returns-clause-over_where : goal.returns-clause-over_where
returns-clause-over_where c = λ list t over. let k = kept_here c in let same =
    ap length (one_list c.args.bytes.now list c.loop-rest.tokens.items t k.0) in
    absurd (omega (arith, k.1))

pub returns-clause-fault_where : goal.returns-clause-fault_where
returns-clause-fault_where c =
    λ fault at f. absurd (no_fault_in_tokens c.args.bytes.now c.loop-rest.tokens.items fault at
    (kept_here c).0 f)
