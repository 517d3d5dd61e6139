-- Routes that are given are admitted in the network that is built, since code has one network.
use Rattle.std.proofs.Common.{◌≡◌, ℕ, ◌<◌, List, length, get_or, Some, sym, ap, subst, ◌∙◌}
use Rattle.std.specs.Prelude.{slice_get}
use Rattle.std.proofs.lemmas.Option.{slice_get-get_or, slice_get_within}
use Rattle.pra_list.proofs.Options.{some_same}
use Rattle.pra_base.specs.declared.code.VProc.{VProc}
use Rattle.net_form.specs.declared.net.Net.{Net}
use Rattle.net_form.specs.declared.routes.Routes.{Routes}
use Rattle.net_form.specs.Network.{IsNet}
use Rattle.net_form.specs.Tables.{all_tables}
use Rattle.net_form.proofs.OneNetwork.{one_network}
use Rattle.pra_follow.specs.Codes.{AreAdmittedIn}
use Rattle.pra_compile.specs.declared.given.GivenRoutes.{GivenRoutes}
use Rattle.pra_compile.specs.Given.{AdmitsGiven}

module _ (given : List GivenRoutes) (p : ℕ) (code : VProc) (takes : AdmitsGiven given p code)
  where
    pub inside : p < length given
    inside = slice_get_within given p takes.own takes.there

    -- what is read at p, whatever is read past the end
    module _ (other : GivenRoutes) where
      pub read_there : slice_get given p ≡ Some (get_or given p other)
      read_there = slice_get-get_or given p other inside

      same_own : takes.own ≡ get_or given p other
      same_own = some_same takes.own (get_or given p other) (sym takes.there ∙ read_there)

      pub admitted : (built net : Net) (routes : Routes) → IsNet built code → net ≡ built →
          routes ≡ (get_or given p other).routes → AreAdmittedIn code net routes
      admitted built net routes is_net same_net same =
          subst (λ rs. AreAdmittedIn code net rs)
          (ap (λ (own : GivenRoutes). own.routes) same_own ∙ sym same)
          (subst (λ n. AreAdmittedIn code n takes.own.routes)
          (one_network all_tables code takes.net built takes.admitted.is_net is_net ∙ sym same_net)
          takes.admitted)
