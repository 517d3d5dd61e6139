use Rattle.std.proofs.Common.{◌≡◌, ◌++◌, sym, ap, ◌∙◌, arith, rules}
use Rattle.ia_list.specs.Text.{data_line}
use Rattle.ia_list.proofs.LinesTold.{no_words, many_words, other_words}
use Rattle.ia_list.proofs.assembly.first_line.Goals as goal

pub returns-in_default : goal.returns-in_default
returns-in_default c = no_words c.args.bytes.now (sym c.words.ensures ∙ c.in_default.is)

pub returns-then-n-gt-MAX_DATA_WORDS : goal.returns-then-n-gt-MAX_DATA_WORDS
returns-then-n-gt-MAX_DATA_WORDS c = many_words c.args.bytes.now c.in-Some.n (sym c.words.ensures
    ∙ c.in-Some.is) (omega arith)

pub returns-in_default-behind : goal.returns-in_default-behind
returns-in_default-behind c =
    let front : c.as_slice.result.now ≡ data_line c.in-Some.n = first_of (search rules, grind arith)
    in
    other_words c.args.bytes.now c.in-Some.n (sym c.words.ensures ∙ c.in-Some.is)
    (λ rest e. c.in_default-behind.ensures rest (e ∙ ap (λ l. l ++ rest) (sym front)))
