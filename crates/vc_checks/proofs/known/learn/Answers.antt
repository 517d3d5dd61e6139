use Rattle.std.proofs.Common.{List, inl, subst}
use Rattle.pra_list.specs.Among.{Among}
use Rattle.vc_checks.specs.declared.fact.Fact.{Fact}
use Rattle.vc_checks.proofs.Knowing.{left_of, learned}
use Rattle.vc_checks.proofs.known.learn.Goals as goal

pub returns-then-not-is_wanted : goal.returns-then-not-is_wanted
returns-then-not-is_wanted c = λ f m. inl (left_of c.args.known.now.items c.in-Some.more.var.0 f
    (subst (λ (fs : List Fact). Among f fs) c.forget.ensures m)).0

pub returns : goal.returns
returns c = learned c.args.known.now.items c.forget.new.known.items c.push.new.self.items
    c.in-Some.more c.args.fact c.in-Some.is c.forget.ensures c.in_ok-push.ensures.items
