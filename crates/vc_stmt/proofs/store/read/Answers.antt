use Rattle.std.proofs.Common.{sym, ◌∙◌, arith}
use Rattle.vc_stmt.proofs.Endings.{read_done, read_word_done}
use Rattle.vc_stmt.proofs.Fixed.{reads_fixed_done}
use Rattle.vc_stmt.proofs.ReadyStores.{two_put, nothing_put, gives_nothing, gives_variable}
use Rattle.vc_stmt.proofs.ReadyStores.{word_counts, gives_word}
use Rattle.vc_stmt.proofs.store.read.Goals as goal

pub returns-then-is_constant-clause-reads : goal.returns-then-is_constant-clause-reads
returns-then-is_constant-clause-reads c = reads_fixed_done c.args.setting.now _ _ c.in-Var.u
    (sym c.is_constant.ensures ∙ c.if-is_constant.true) _ c.in-Var.is c.requires.is_open

pub returns-then-is_constant-clause-counts : goal.returns-then-is_constant-clause-counts
returns-then-is_constant-clause-counts c = nothing_put 2 1 _

pub returns-then-is_constant-clause-ready : goal.returns-then-is_constant-clause-ready
returns-then-is_constant-clause-ready c = gives_nothing c.args.setting.now _ _ _

pub returns-in_ok-put-in-Var-clause-reads : goal.returns-in_ok-put-in-Var-clause-reads
returns-in_ok-put-in-Var-clause-reads c = read_done c.args.setting.now _ _ _ _ _ c.in-Var.is
    c.requires.is_open c.in_ok-put-in-Var.ensures

pub returns-in_ok-put-in-Var-clause-counts : goal.returns-in_ok-put-in-Var-clause-counts
returns-in_ok-put-in-Var-clause-counts c = two_put 2 1 _ _ _ _ (omega arith) c.requires.is_open
    c.in_ok-put-in-Var.ensures

pub returns-in_ok-put-in-Var-clause-ready : goal.returns-in_ok-put-in-Var-clause-ready
returns-in_ok-put-in-Var-clause-ready c = gives_variable c.args.setting.now _ _ _ _ _ c.in-Var.is
    c.requires.is_open (sym c.is_constant.ensures ∙ c.if-is_constant.false)
    c.in_ok-put-in-Var.ensures

pub returns-in_ok-read_word-in-Memory-clause-reads :
    goal.returns-in_ok-read_word-in-Memory-clause-reads
returns-in_ok-read_word-in-Memory-clause-reads c =
    read_word_done c.args.setting.now _ _ _ _ _ _ c.in-Memory.is c.requires.is_open c.requires.named
    c.in_ok-read_word-in-Memory.ensures.made c.in_ok-read_word-in-Memory.ensures.number

pub returns-in_ok-read_word-in-Memory-clause-counts :
    goal.returns-in_ok-read_word-in-Memory-clause-counts
returns-in_ok-read_word-in-Memory-clause-counts c =
    word_counts c.args.setting.now _ _ _ _ _ c.requires.is_open
    c.in_ok-read_word-in-Memory.ensures.number c.in_ok-read_word-in-Memory.ensures.made

pub returns-in_ok-read_word-in-Memory-clause-ready :
    goal.returns-in_ok-read_word-in-Memory-clause-ready
returns-in_ok-read_word-in-Memory-clause-ready c = gives_word c.args.setting.now _ _ _ _ _ _
    c.in-Memory.is c.requires.is_open c.in_ok-read_word-in-Memory.ensures.number
    c.in_ok-read_word-in-Memory.ensures.made
