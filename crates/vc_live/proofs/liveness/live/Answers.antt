use Rattle.std.proofs.Common.{◌+◌, ◌/◌, ap, sym, length, subst, ◌∙◌, arith}
use Rattle.vc_live.specs.Equations.{Shape}
use Rattle.vc_live.proofs.RowLemmas.{sized_range}
use Rattle.vc_live.proofs.Past.{live_exact}
use Rattle.vc_live.proofs.liveness.live.Goals as goal

pub flow_of-requires-clause-range : goal.flow_of-requires-clause-range
flow_of-requires-clause-range c =
    sized_range c.args.code.now _ c.in_ok-constants.ensures.words c.requires

pub flow_of-requires-clause-few : goal.flow_of-requires-clause-few
flow_of-requires-clause-few c = omega (arith, c.requires.blocks)

pub solve-requires-clause-words : goal.solve-requires-clause-words
solve-requires-clause-words c = rw c.in_ok-flow.ensures.constants c.in_ok-constants.ensures.words

pub all_rows-requires-clause-range : goal.all_rows-requires-clause-range
all_rows-requires-clause-range c = sized_range c.args.code.now _
    (c.in_ok-now.ensures.words ∙ ap (λ n. n / 64 + 1) c.len.ensures) c.requires

pub all_rows-requires-clause-shape : goal.all_rows-requires-clause-shape
all_rows-requires-clause-shape c = rw c.as_slice.ensures.value
    (subst (λ n. Shape n c.args.code.now c.in_ok-entries.entries.items)
    (ap length c.in_ok-flow.ensures.constants ∙ c.in_ok-constants.ensures.words
    ∙ sym (c.in_ok-now.ensures.words ∙ ap (λ n. n / 64 + 1) c.len.ensures))
    c.in_ok-entries.ensures.shape)

pub all_rows-requires-clause-constants : goal.all_rows-requires-clause-constants
all_rows-requires-clause-constants c =
    ap length c.in_ok-flow.ensures.constants ∙ c.in_ok-constants.ensures.words
    ∙ sym (c.in_ok-now.ensures.words ∙ ap (λ n. n / 64 + 1) c.len.ensures)

pub returns : goal.returns
returns c =
    let same = c.in_ok-flow.ensures.constants in
    live_exact c.args.code.now c.in_ok-flow.flow.constants c.in_ok-entries.entries.items
    c.in_ok-blocks.blocks (rw same c.in_ok-constants.ensures.constants)
    c.in_ok-entries.ensures.sound c.in_ok-entries.ensures.closed c.requires
    (rw (← c.as_slice.ensures.value) c.in_ok-blocks.ensures)
