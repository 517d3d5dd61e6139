use Rattle.std.proofs.Common.{Option, subst}
use Rattle.std.specs.Option.{MatchOption}
use Rattle.vc_live.specs.declared.liveness.Liveness.{Liveness}
use Rattle.vc_valid.specs.Listed.{HasCode}
use Rattle.vc_live.specs.Rows.{IsLiveness, live_at}
use Rattle.net_build.proofs.LiveAt.{is_live}
use Rattle.cert_check.proofs.Claims.{no_routes}
use Rattle.cert_check.proofs.code.network_of.Goals as goal

pub returns-then-not-has_places : goal.returns-then-not-has_places
returns-then-not-has_places c =
    let code = c.args.cert.now.code in
    let live = c.in-Some.live in
    let has : HasCode c.args.counts.now c.args.number code × IsLiveness code live =
    subst (λ (o : Option Liveness). MatchOption o
    (HasCode c.args.counts.now c.args.number code → ⊥)
    (λ l. HasCode c.args.counts.now c.args.number code × IsLiveness code l))
    c.in-Some.is c.in_ok-live.ensures in (
      has.0,
      no_routes code (live_at live) c.args.cert.now.routes (is_live code live has.1)
          (λ places. absurd (cc (c.if-not-has_places.true, c.has_places.ensures.1 places))),
    )
