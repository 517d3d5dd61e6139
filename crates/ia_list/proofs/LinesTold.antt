-- What a line that was read and written again tells of the bytes in front.
use Rattle.std.proofs.Common.{◌≡◌, ℕ, ◌^◌, ◌≤◌, ◌<◌, List, ◌++◌, Some, None, sym, ap, ◌∙◌, subst}
use Rattle.std.proofs.Common.{arith}
use Rattle.ia_code.specs.declared.ins.Ins.{Ins}
use Rattle.ia_code.specs.DecodeTable.{IsSound}
use Rattle.ia_code.specs.Image.{max_data_words}
use Rattle.pra_list.proofs.Options.{some_same, none_some}
use Rattle.ia_list.specs.Text.{line, data_line}
use Rattle.ia_list.specs.Reading.{words_at, instruction_at}
use Rattle.ia_list.proofs.LineRead.{line_read}
use Rattle.ia_list.proofs.LinesRead.{words_read}
use Rattle.ia_list.proofs.TextsRead.{NoLine}

module _ (place : ℕ) (bytes : List ℕ) (h : place < 2 ^ 31) where
  -- nothing is read
  pub no_line : instruction_at place bytes ≡ None → NoLine place bytes
  no_line e i rest s f = none_some (sym e ∙ ap (instruction_at place) f
      ∙ line_read place i rest s h)

  -- what is read is the only one
  module _ (j : Ins) (e : instruction_at place bytes ≡ Some j) where
    only_line : (i : Ins) (rest : List ℕ) → IsSound i → bytes ≡ line place i ++ rest → j ≡ i
    only_line i rest s f =
        some_same j i (sym e ∙ ap (instruction_at place) f ∙ line_read place i rest s h)

    pub unsound_line : (IsSound j → ⊥) → NoLine place bytes
    unsound_line bad i rest s f = bad (subst IsSound (sym (only_line i rest s f)) s)

    pub other_line : ((rest : List ℕ) → bytes ≡ line place j ++ rest → ⊥) → NoLine place bytes
    other_line none i rest s f =
        none rest (f ∙ ap (λ k. line place k ++ rest) (sym (only_line i rest s f)))

-- of data words
abbrev pub NoWords : List ℕ → Type 0
NoWords bytes = (n : ℕ) (rest : List ℕ) → n ≤ max_data_words → bytes ≡ data_line n ++ rest → ⊥

pub no_words : (bytes : List ℕ) → words_at bytes ≡ None → NoWords bytes
no_words bytes e n rest h f = none_some (sym e ∙ ap words_at f ∙ words_read n rest h)

module _ (bytes : List ℕ) (m : ℕ) (e : words_at bytes ≡ Some m) where
  only_words : (n : ℕ) (rest : List ℕ) → n ≤ max_data_words → bytes ≡ data_line n ++ rest → m ≡ n
  only_words n rest h f = some_same m n (sym e ∙ ap words_at f ∙ words_read n rest h)

  pub many_words : max_data_words < m → NoWords bytes
  many_words many n rest h f = omega (arith, only_words n rest h f)

  pub other_words : ((rest : List ℕ) → bytes ≡ data_line m ++ rest → ⊥) → NoWords bytes
  other_words none n rest h f =
      none rest (f ∙ ap (λ k. data_line k ++ rest) (sym (only_words n rest h f)))
