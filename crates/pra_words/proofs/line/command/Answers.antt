use Rattle.std.proofs.Common.{◌≡◌, ◌∙◌, ap, ap₂, true}
use Rattle.std.proofs.lemmas.Result.{IfOk-weaker}
use Rattle.clap.specs.Simple.{app_of, app_of_fields, with_rule, on_top}
use Rattle.pra_words.specs.Command.{bare}
use Rattle.pra_words.proofs.line.command.Goals as goal

pub returns : goal.returns
returns c =
    let bare_is : app_of c.disable_help_flag.result ≡ bare =
    ap app_of_fields c.disable_help_flag.ensures
    ∙ ap (λ f. app_of_fields (record f { disable_help_flag = true })) c.no_binary_name.ensures
    ∙ ap (on_top (λ s. record s { no_binary_name = true; disable_help_flag = true }))
    c.new.ensures.app in
    let mode = c.in_ok-arg.ensures.shape c.wanted-mode.ensures.local
    ∙ ap₂ with_rule bare_is c.wanted-mode.ensures.rule in
    let file = c.in_ok-arg-2.ensures.shape c.wanted-file.ensures.local
    ∙ ap₂ with_rule mode c.wanted-file.ensures.rule in
    let rounds = c.in_ok-arg-3.ensures.shape c.option-rounds.ensures.local
    ∙ ap₂ with_rule file c.option-rounds.ensures.rule in
    let cost = c.in_ok-arg-4.ensures.shape c.option-cost.ensures.local
    ∙ ap₂ with_rule rounds c.option-cost.ensures.rule in
    let steps = c.in_ok-arg-5.ensures.shape c.option-steps.ensures.local
    ∙ ap₂ with_rule cost c.option-steps.ensures.rule in
    let gap = c.in_ok-arg-6.ensures.shape c.option-gap.ensures.local
    ∙ ap₂ with_rule steps c.option-gap.ensures.rule in
    let from = c.in_ok-arg-7.ensures.shape c.option-from.ensures.local
    ∙ ap₂ with_rule gap c.option-from.ensures.rule in
    let image = c.in_ok-arg-8.ensures.shape c.option-image.ensures.local
    ∙ ap₂ with_rule from c.option-image.ensures.rule in
    let seed = c.in_ok-arg-9.ensures.shape c.option-seed.ensures.local
    ∙ ap₂ with_rule image c.option-seed.ensures.rule in
    IfOk-weaker c.arg-10.result _ _
    (λ r a. a.shape c.option-size.ensures.local ∙ ap₂ with_rule seed c.option-size.ensures.rule)
    c.arg-10.ensures
