use Rattle.std.proofs.Common.{refl, arith}
use Rattle.ob_syntax.specs.Grammar.{a_module}
use Rattle.ob_parse.proofs.PhrasesAdvance.{later}
use Rattle.ob_parse.proofs.PhraseUnderway.{as_deep, closed}
use Rattle.ob_parse.proofs.PhraseSteps.{opens, lacks, fails, ◌▹◌, ◌▸◌}
use Rattle.ob_parse.proofs.declaration.whole_module.Goals as goal

pub returns-in_err-expect : goal.returns-in_err-expect
returns-in_err-expect c =
    lacks (opens a_module (λ _ _. refl)) (omega arith) _ c.in_err-expect.ensures
    c.from_residual.ensures.1

pub returns-in_err-expect-2 : goal.returns-in_err-expect-2
returns-in_err-expect-2 c =
    lacks (opens a_module (λ _ _. refl) ▹ c.in_ok-expect.ensures) (omega arith) _
    c.in_err-expect-2.ensures c.from_residual-in_err-expect-2.ensures.1

pub returns-in_err-expect-3 : goal.returns-in_err-expect-3
returns-in_err-expect-3 c =
    lacks (opens a_module (λ _ _. refl) ▹ c.in_ok-expect.ensures ▹ c.in_ok-expect-2.ensures)
    (omega arith) _ c.in_err-expect-3.ensures c.from_residual-in_err-expect-3.ensures.1

pub returns-in_err-decls : goal.returns-in_err-decls
returns-in_err-decls c =
    fails (opens a_module (λ _ _. refl) ▹ c.in_ok-expect.ensures ▹ c.in_ok-expect-2.ensures
    ▹ c.in_ok-expect-3.ensures) (as_deep _) (omega arith) _ _ _ c.in_err-decls.ensures
    c.from_residual-in_err-decls.ensures.1

pub returns-in_err-body : goal.returns-in_err-body
returns-in_err-body c =
    fails (opens a_module (λ _ _. refl) ▹ c.in_ok-expect.ensures ▹ c.in_ok-expect-2.ensures
    ▹ c.in_ok-expect-3.ensures ▸ c.in_ok-decls.ensures) (as_deep _) (omega arith) _ _ _
    c.in_err-body.ensures c.from_residual-in_err-body.ensures.1

pub returns-in_err-expect-4 : goal.returns-in_err-expect-4
returns-in_err-expect-4 c =
    lacks (opens a_module (λ _ _. refl) ▹ c.in_ok-expect.ensures ▹ c.in_ok-expect-2.ensures
    ▹ c.in_ok-expect-3.ensures ▸ c.in_ok-decls.ensures ▸ c.in_ok-body.ensures) (omega arith) _
    c.in_err-expect-4.ensures c.from_residual-in_err-expect-4.ensures.1

pub returns-in_err-expect-5 : goal.returns-in_err-expect-5
returns-in_err-expect-5 c =
    lacks (opens a_module (λ _ _. refl) ▹ c.in_ok-expect.ensures ▹ c.in_ok-expect-2.ensures
    ▹ c.in_ok-expect-3.ensures ▸ c.in_ok-decls.ensures ▸ c.in_ok-body.ensures
    ▹ c.in_ok-expect-4.ensures) (omega arith) _ c.in_err-expect-5.ensures
    c.from_residual-in_err-expect-5.ensures.1

pub returns-in_err-expect-6 : goal.returns-in_err-expect-6
returns-in_err-expect-6 c =
    lacks (opens a_module (λ _ _. refl) ▹ c.in_ok-expect.ensures ▹ c.in_ok-expect-2.ensures
    ▹ c.in_ok-expect-3.ensures ▸ c.in_ok-decls.ensures ▸ c.in_ok-body.ensures
    ▹ c.in_ok-expect-4.ensures ▹ c.in_ok-expect-5.ensures) (omega arith) _ c.in_err-expect-6.ensures
    c.from_residual-in_err-expect-6.ensures.1

pub span_from-span-requires : goal.span_from-span-requires
span_from-span-requires c =
    omega (
      arith,
      c.in_ok-expect.ensures.place_is,
      c.in_ok-expect-2.ensures.place_is,
      c.in_ok-expect-3.ensures.place_is,
      later c.in_ok-decls.ensures,
      later c.in_ok-body.ensures,
      c.in_ok-expect-4.ensures.place_is,
      c.in_ok-expect-5.ensures.place_is,
      c.in_ok-expect-6.ensures.place_is,
    )

pub returns : goal.returns
returns c =
    rw c.span_from-span.ensures (closed (opens a_module (λ _ _. refl) ▹ c.in_ok-expect.ensures
    ▹ c.in_ok-expect-2.ensures ▹ c.in_ok-expect-3.ensures ▸ c.in_ok-decls.ensures
    ▸ c.in_ok-body.ensures ▹ c.in_ok-expect-4.ensures ▹ c.in_ok-expect-5.ensures
    ▹ c.in_ok-expect-6.ensures))
